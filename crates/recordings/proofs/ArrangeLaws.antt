-- Laws of rearranging: what a proper width says, the ways out of a call, and rows of the output that make it done.
use borrow.Author.Tests.{lt-ltb, le-ltb, leb-true, eqb-true}
use mathlib.Core.Path.{◌≡◌, sym, ap, ap₂, ◌∙◌}
use mathlib.Core.Bool.{true, false, ◌&&◌}
use mathlib.Core.List.{List}
use Prim.Native.Nat.{ℕ, ◌+◌, ◌*◌, ◌/◌, ◌%◌, ◌<◌, ◌≤◌}
use native.Mathlib.Nat.{mul_comm, div-add-mod'}
use native.Mathlib.Omega.{arith}
use lib.ListN.{length, get_or}
use lib.Dec.{leb, eqb}
use lib.Seq.{paste}
use Rattle.coding.specs.Bytes.{tabulate}
use Rattle.coding.specs.Areas.{Columns}
use Rattle.coding.proofs.Cases.{and-true}
use Rattle.recordings.specs.Planes.{among_samples, among_planes, to_samples, to_planes, planes_of, samples_of}
use Rattle.recordings.specs.Answer.{Outcome}
use Rattle.recordings.specs.Arrange.{ArrangeEnd, proper, arrange}
use Rattle.recordings.proofs.PlaceLaws.{row_of, entry_of}
use Rattle.recordings.proofs.FrontLaws.{columns-front}

module _ (w len : ℕ) (p : proper w len ≡ true) where
  parts : (leb 1 w ≡ true) × (leb w 8 ≡ true) × (eqb (len % w) 0 ≡ true)
  parts =
      let a = and-true (leb 1 w && leb w 8) (eqb (len % w) 0) p in
      let b = and-true (leb 1 w) (leb w 8) a.0 in (b.0, b.1, a.1)

  pub wide : 0 < w
  wide = leb-true 1 w parts.0

  -- the samples fill the data
  pub whole-samples : len ≡ len / w * w
  whole-samples =
      let z : len % w ≡ 0 = eqb-true (len % w) 0 parts.2 in omega (arith, div-add-mod' len w)

  pub whole-planes : len ≡ w * (len / w)
  whole-planes = whole-samples ∙ mul_comm (len / w) w

-- the ways out
module _ (order : ℕ → List ℕ → List ℕ) (w : ℕ) (d out : List ℕ) where
  pub arrange-short : length out < length d → arrange order w d out ≡ record { outcome = Outcome.refuses 2; out = out }
  unfolding arrange
  arrange-short h = simp (lt-ltb (length out) (length d) h)

  pub arrange_width : length d ≤ length out → proper w (length d) ≡ false → arrange order w d out ≡ record { outcome = Outcome.refuses 15; out = out }
  unfolding arrange
  arrange_width h p = simp (le-ltb (length out) (length d) h, p)

  pub arrange-done : length d ≤ length out → proper w (length d) ≡ true
      → arrange order w d out ≡ record { outcome = Outcome.done; out = paste out 0 (order w d) (length d) }
  unfolding arrange
  arrange-done h p = simp (le-ltb (length out) (length d) h, p)

-- every plane is written, or every sample
module _ (w : ℕ) (d out u : List ℕ) (r : length d ≤ length out) (p : proper w (length d) ≡ true) where
  pub planes-laid : Columns w (length d / w) 0 (length d / w) (λ p s. get_or d (among_samples w s p) 0) out u
      → u ≡ (arrange planes_of w d out).out
  unfolding planes_of
  planes-laid c =
      let N = length d / w in
      let e : length d ≡ w * N = whole-planes w (length d) p in
      columns-front w N (λ p s. get_or d (among_samples w s p) 0) (λ i. get_or d (to_samples w N i) 0)
      (λ i l hi hl. ap₂ (λ (a b : ℕ). get_or d (a * w + b) 0) (entry_of N i l hl) (row_of N i l hl)) out u (rw e at r) c
      ∙ ap (λ (L : ℕ). paste out 0 (tabulate L (λ i. get_or d (to_samples w N i) 0)) L) (sym e)
      ∙ sym (ap (λ (z : ArrangeEnd). z.out) (arrange-done planes_of w d out r p))

  pub samples-laid : Columns (length d / w) w 0 w (λ s p. get_or d (among_planes (length d / w) s p) 0) out u
      → u ≡ (arrange samples_of w d out).out
  unfolding samples_of
  samples-laid c =
      let N = length d / w in
      let e : length d ≡ N * w = whole-samples w (length d) p in
      columns-front N w (λ s p. get_or d (among_planes N s p) 0) (λ i. get_or d (to_planes w N i) 0)
      (λ i l hi hl. ap₂ (λ (a b : ℕ). get_or d (a * N + b) 0) (entry_of w i l hl) (row_of w i l hl)) out u (rw e at r) c
      ∙ ap (λ (L : ℕ). paste out 0 (tabulate L (λ i. get_or d (to_planes w N i) 0)) L) (sym e)
      ∙ sym (ap (λ (z : ArrangeEnd). z.out) (arrange-done samples_of w d out r p))
