use mathlib.Core.Path.{◌≡◌}
use Prim.Native.Nat.{◌+◌, ◌-◌, ◌*◌}
use Rattle.parties.specs.protocol.Version.{no_version}
use Rattle.parties.specs.node.ToNode.{listed_from}
use Rattle.parties.proofs.message.list_sound.Given as goal

abbrev pub invariant-loop-i : goal.invariant-loop-i
invariant-loop-i l = listed_from l.s l.b no_version 1 l.count ≡ listed_from l.s l.b l.previous (1 + l.i * 5) (l.count - l.i)
