use mathlib.Core.Path.{◌≡◌, refl}
use Prim.Native.Nat.{ℕ, ◌+◌, ◌-◌, ◌*◌, ◌≤◌}
use native.Mathlib.Nat.{mul-le-mul_right}
use native.Mathlib.Omega.{arith}
use lib.ListN.{get_or}
use Rattle.coding.proofs.AreasLaws.{columns-rest}
use Rattle.recordings.specs.Planes.{among_planes}
use Rattle.recordings.proofs.arrange.lay_samples.Goals as goal

-- the samples below r
module _ (w : ℕ) {r n len : ℕ} (h : r ≤ n) (e : n * w ≡ len) where
  before : r * w ≤ len
  before = omega (arith, mul-le-mul_right w h)

pub returns : goal.returns
returns c =
    let w = c.args.recording.now.width in
    let n = c.args.recording.now.count in
    let r = c.first_samples-done.result in
    let h : r ≤ n = c.first_samples-done.ensures.0 in
    let e : r + (n - r) ≡ n = omega arith in
    rw e at
    (columns-rest r (n - r) w w (λ s p. get_or c.args.recording.now.bytes.now (among_planes n s p) 0) _ c.args.out.now _ _ (omega arith)
    (omega (arith, before c.args.recording.now.width c.first_samples-done.ensures.0 c.args.recording.now.whole, c.first_samples-done.ensures.1.same)) (λ i l. refl) c.first_samples-done.ensures.1 c.write_samples.ensures)
