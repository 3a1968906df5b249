use mathlib.Core.Path.{◌≡◌, sym, ap, ◌∙◌}
use mathlib.Core.Bool.{true}
use Prim.Native.Nat.{ℕ, ◌*◌}
use native.Mathlib.Omega.{arith}
use Rattle.parties.proofs.records.SizeLaws.{table_bound}
use Rattle.parties.specs.protocol.Measures.{passes}
use Rattle.parties.specs.protocol.DirectoryEvents.{directory_size}
use Rattle.parties.proofs.sizes.directory.Goals as goal

pub overflow_mul-result : goal.overflow_mul-result
overflow_mul-result c =
    let good : passes c.args.s ≡ true =
    sym c.pass.ensures ∙ c.if-not-pass.false in
    let all : c.args.s.m * c.row_size-row.result ≡ directory_size c.args.s =
    ap (λ (k : ℕ). c.args.s.m * k) c.row_size-row.ensures in
    omega (arith, all, table_bound c.args.s good)
