use mathlib.Core.Path.{ap, ◌∙◌}
use mathlib.Core.List.{List}
use Prim.Native.Nat.{ℕ, ◌+◌, ◌-◌, ◌*◌}
use native.Mathlib.Omega.{arith}
use lib.Seq.{paste}
use Rattle.parties.specs.protocol.Format.{write_area}
use Rattle.parties.specs.client.Reply.{piece_put}
use Rattle.parties.proofs.records.SizeLaws.{below_rows}
use Rattle.parties.proofs.client.reply.put_piece.Goals as goal

pub overflow_mul-place-2 : goal.overflow_mul-place-2
overflow_mul-place-2 c = let a = c.args in omega (arith, below_rows (a.i - 1) a.n a.f (omega arith))

pub overflow_add-place-2 : goal.overflow_add-place-2
overflow_add-place-2 c = let a = c.args in omega (arith, below_rows (a.i - 1) a.n a.f (omega arith))

pub put_area-requires : goal.put_area-requires
put_area-requires c =
    let a = c.args in (omega (arith, below_rows (a.i - 1) a.n a.f (omega arith)), c.requires.5)

pub returns : goal.returns
unfolding piece_put
returns c =
    let a = c.args in
    c.put_area.ensures
    ∙ ap (λ (l : List ℕ). paste l (a.at + 2 * a.n + (a.i - 1) * a.f) (write_area a.f (λ p. p) a.piece.now) a.f) c.put_u16.ensures
