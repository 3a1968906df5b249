use mathlib.Core.Path.{◌≡◌}
use Prim.Native.Nat.{◌+◌, ◌-◌, ◌*◌}
use lib.ListN.{drop}
use Rattle.parties.specs.protocol.Format.{read_many}
use Rattle.parties.specs.protocol.Measures.{pointer_size}
use Rattle.parties.specs.protocol.Client.{pointer_area}
use Rattle.parties.specs.records.Form.{rest}
use Rattle.parties.proofs.client.form.pointer_areas.Given as goal

abbrev pub invariant-loop-i : goal.invariant-loop-i
invariant-loop-i l = rest (read_many (pointer_area l.s.measures) (l.s.measures.m + 1) l.t) ≡ rest (read_many (pointer_area l.s.measures) (l.s.measures.m + 1 - l.i) (drop (l.i * pointer_size l.s.measures) l.t))
