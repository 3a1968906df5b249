use Rattle.std.proofs.Common.{◌≡◌, List, ◌++◌, ℕ, ◌+◌, ◌-◌, length, take, ap, refl, arith}
use Rattle.std.proofs.Math.Seq.{drop-drop}
use Rattle.lines.specs.Text.{over}
use Rattle.lines.proofs.TextLaws.{put_fits}
use Rattle.lines.proofs.text.bytes.Goals as goal

pub returns : goal.returns
unfolding over
returns c =
    let a = c.args in
    let e : a.at + length a.b.now - a.at ≡ length a.b.now = omega arith in
    put_fits _ _ _ _ _ (omega arith) refl
    (rw (e, c.copy_from_slice.ensures.after) (ap (λ (l : List ℕ). take a.at a.text.now ++ (a.b.now ++ l)) (drop-drop (length a.b.now) a.at a.text.now)))
