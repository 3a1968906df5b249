use mathlib.Core.Path.{◌≡◌}
use Prim.Native.Nat.{◌+◌, ◌-◌, ◌*◌}
use lib.ListN.{drop}
use Rattle.parties.specs.protocol.Format.{read_many}
use Rattle.parties.specs.protocol.Client.{read_reserved}
use Rattle.parties.specs.records.Form.{rest}
use Rattle.parties.proofs.client.form.reserved_versions.Given as goal

abbrev pub invariant-loop-i : goal.invariant-loop-i
invariant-loop-i l = rest (read_many (read_reserved l.s) l.s.m (drop l.from l.t)) ≡ rest (read_many (read_reserved l.s) (l.s.m - l.i) (drop (l.from + l.i * 5) l.t))
