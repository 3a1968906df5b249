use Rattle.std.proofs.Common.{◌≡◌, ℕ, ◌+◌, ◌≤◌, List, length, take, drop, sym, ap, ◌∙◌, arith}
use Rattle.std.proofs.lemmas.List.{length-take-le}
use borrow.Author.Tests.{le-leb}
use lib.Seq.{take_at}
use Rattle.lines.specs.Text.{Written, over, written, put_at}
use Rattle.lines.proofs.TextLaws.{over-length, hex-length}
use Rattle.replay.proofs.report.digits.Goals as goal

-- bytes that fit stand at the front of the text
front : (t b s : List ℕ) (r : ℕ) → length b ≤ length t → written s r ≡ put_at t 0 b → (r ≤ length s) × (take r s ≡ b)
unfolding over put_at
front t b s r h x =
    let w : written s r ≡ written (over t 0 b) (0 + length b) = x ∙ simp (le-leb (0 + length b) (length t) (omega arith)) in
    let a : r ≡ 0 + length b = ap (λ (z : Written). z.answer) w in
    let e : s ≡ over t 0 b = ap (λ (z : Written). z.text) w in
    let n : length s ≡ length t = ap length e ∙ over-length t 0 b (omega arith) in
    (omega arith, ap (take r) e ∙ take_at b (drop (0 + length b) t) r (omega arith))

pub slice_bounds-text-end : goal.slice_bounds-text-end
slice_bounds-text-end g c = (front _ _ _ _ (omega (arith, hex-length c.args.b.now)) c.hex-n.ensures).0

pub slice_bounds-write_all-end : goal.slice_bounds-write_all-end
slice_bounds-write_all-end g c = sym (length-take-le _ _ (front _ _ _ _ (omega (arith, hex-length c.args.b.now)) c.hex-n.ensures).0)

pub returns : goal.returns
returns g c = rw (front _ _ _ _ (omega (arith, hex-length c.args.b.now)) c.hex-n.ensures).1 at c.write_all.ensures.bytes
