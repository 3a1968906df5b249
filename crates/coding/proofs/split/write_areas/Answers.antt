use Rattle.std.proofs.Common.{◌≡◌, ℕ, ◌+◌, ◌-◌, ◌*◌, ◌≤◌, length, refl, ap, mul-le-mul_right, zero-add, arith}
use Rattle.coding.specs.Pieces.{piece_byte, frame}
use Rattle.coding.proofs.AreasLaws.{columns-rest}
use Rattle.coding.proofs.SplitLaws.{columns_ext}
use Rattle.coding.proofs.split.write_areas.Goals as goal

pub returns : goal.returns
returns c =
    let h : 8 ≤ c.args.n = omega arith in
    let m : 8 * c.args.f ≤ length c.args.room.now = omega (arith, mul-le-mul_right c.args.f h) in
    let e : 8 + (c.args.n - 8) ≡ c.args.n = omega arith in
    rw e at
    (columns-rest 8 (c.args.n - 8) c.args.f c.args.len (λ i l. piece_byte c.args.k (frame c.args.k c.args.page.now) (i + 1) l) _ c.args.room.now _ _
    c.requires.0 (omega (arith, c.write_pieces-2.ensures.same)) (λ i l. refl)
    (columns_ext 8 _ _ _ _ _ _ _
    (λ i l hi hl. ap (λ (x : ℕ). piece_byte c.args.k (frame c.args.k c.args.page.now) (x + 1) l) (zero-add i))
    c.write_pieces-2.ensures)
    c.write_pieces-3.ensures)
