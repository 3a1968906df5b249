use mathlib.Core.Path.{◌≡◌}
use Prim.Native.Nat.{◌+◌, ◌-◌, ◌*◌}
use lib.ListN.{drop}
use Rattle.parties.specs.protocol.Format.{read_number, read_many}
use Rattle.parties.specs.protocol.Client.{read_pieces}
use Rattle.parties.specs.records.Form.{rest}
use Rattle.parties.proofs.client.FormLaws.{left_each}
use Rattle.parties.proofs.client.form.pieces.Given as goal

abbrev pub invariant-loop-i : goal.invariant-loop-i
invariant-loop-i l =
    rest (read_pieces l.s.measures (drop l.from l.t)) ≡ left_each l.s.measures (read_many (read_number 2) (l.s.measures.n - l.i) (drop (l.from + 2 * l.i) l.t)) (drop (l.from + 2 * l.s.measures.n + l.i * l.s.measures.f) l.t)
