use mathlib.Core.Path.{◌≡◌}
use Prim.Native.Nat.{◌+◌, ◌-◌, ◌*◌}
use Rattle.parties.specs.protocol.Measures.{place_size}
use Rattle.parties.specs.protocol.Version.{no_version}
use Rattle.parties.specs.records.Places.{sound_from}
use Rattle.parties.proofs.node.places_sound.Given as goal

abbrev pub invariant-loop-i : goal.invariant-loop-i
invariant-loop-i l = sound_from l.s l.t no_version 2 l.count ≡ sound_from l.s l.t l.previous (2 + l.i * place_size l.s) (l.count - l.i)
