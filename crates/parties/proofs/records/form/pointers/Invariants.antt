use mathlib.Core.Path.{◌≡◌}
use Prim.Native.Nat.{◌-◌, ◌≤◌}
use lib.ListN.{length, drop}
use Rattle.parties.specs.protocol.Format.{read_many}
use Rattle.parties.specs.records.Form.{rest, pointer_by}
use Rattle.parties.proofs.records.form.pointers.Given as goal

abbrev pub invariant-loop-i : goal.invariant-loop-i
invariant-loop-i l = (l.i ≤ l.n) × (l.at ≤ l.p) × (l.p ≤ length l.t) × (rest (read_many (pointer_by l.s.measures l.rule) l.n (drop l.at l.t)) ≡ rest (read_many (pointer_by l.s.measures l.rule) (l.n - l.i) (drop l.p l.t)))

abbrev pub decreases-loop-i : goal.decreases-loop-i
decreases-loop-i l = l.n - l.i
