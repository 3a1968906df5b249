use mathlib.Core.Path.{◌≡◌}
use mathlib.Core.Bool.{◌&&◌}
use Prim.Native.Nat.{◌-◌, ◌*◌}
use lib.ListN.{drop}
use Rattle.parties.specs.protocol.Format.{read_many}
use Rattle.parties.specs.protocol.Directory.{read_row}
use Rattle.parties.specs.protocol.Owner.{own_rows}
use Rattle.parties.specs.records.Form.{rest, holds}
use Rattle.parties.proofs.records.form.rows.Given as goal

-- The rows before i are read, and all says whether their pointers are their clients'.
abbrev pub invariant-loop-i : goal.invariant-loop-i
invariant-loop-i l = record {
  read : rest (read_many (read_row l.s.measures) l.s.measures.m l.t) ≡ rest (read_many (read_row l.s.measures) (l.s.measures.m - l.i) (drop (l.i * l.size) l.t));
  owned : holds (own_rows 0) (read_many (read_row l.s.measures) l.s.measures.m l.t) ≡ (l.all && holds (own_rows l.i) (read_many (read_row l.s.measures) (l.s.measures.m - l.i) (drop (l.i * l.size) l.t)));
}
