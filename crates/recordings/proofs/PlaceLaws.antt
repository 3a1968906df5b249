-- Laws of places: byte p of sample s has one place among the samples and one among the planes.
use mathlib.Core.Path.{◌≡◌, ap, ◌∙◌}
use Prim.Native.Nat.{ℕ, ◌+◌, ◌*◌, ◌/◌, ◌%◌, ◌<◌, ◌≤◌}
use native.Mathlib.Nat.{add-zero, mul_comm, mod-lt, mod-eq_of_lt, div-eq_of_lt, mul-add-div_right, mul-add-mod_self_right, div-add-mod', mul-le-mul_right}
use native.Mathlib.Decide.{dec_lt}
use native.Mathlib.Omega.{arith}
use Rattle.coding.proofs.BytesLaws.{stride}
use Rattle.recordings.specs.Planes.{to_samples, to_planes}
use Rattle.recordings.specs.Permutation.{Bijection}

-- a row of F entries: entry l of row i, and back
module _ (F i l : ℕ) (h : l < F) where
  pub row_of : (i * F + l) / F ≡ i
  row_of =
      let pos : 0 < F = omega arith in
      mul-add-div_right pos i l ∙ ap (λ (x : ℕ). i + x) (div-eq_of_lt h) ∙ add-zero i

  pub entry_of : (i * F + l) % F ≡ l
  entry_of = mul-add-mod_self_right i F l ∙ mod-eq_of_lt h

  pub row_within : (n : ℕ) → i < n → i * F + l < n * F
  row_within n b =
      let s : i + 1 ≤ n = omega arith in omega (arith, stride i F, mul-le-mul_right F s)

-- of a place below n rows
module _ (n F q : ℕ) (h : q < n * F) where
  wide : 0 < F
  wide = go (dec_lt 0 F)
    where
      go : Dec (0 < F) → 0 < F
      go (yes b) = b
      go (no b) =
          let z : F ≡ 0 = omega arith in
          let y : q < n * 0 = rw z at h in absurd (omega arith)

  pub entry-below : q % F < F
  entry-below = mod-lt q wide

  pub row_below : q / F < n
  row_below = go (dec_lt (q / F) n)
    where
      go : Dec (q / F < n) → q / F < n
      go (yes b) = b
      go (no b) =
          let s : n ≤ q / F = omega arith in absurd (omega (arith, mul-le-mul_right F s, div-add-mod' q F))

-- the two maps of places are inverse to each other
module _ (w N : ℕ) where
  pub samples-within : (i : ℕ) → i < w * N → to_samples w N i < N * w
  samples-within i h = row_within w (i % N) (i / N) (row_below w N i h) N (entry-below w N i h)

  pub planes-within : (i : ℕ) → i < N * w → to_planes w N i < w * N
  planes-within i h = row_within N (i % w) (i / w) (row_below N w i h) w (entry-below N w i h)

  pub planes-samples : (i : ℕ) → i < w * N → to_planes w N (to_samples w N i) ≡ i
  planes-samples i h =
      let p : i / N < w = row_below w N i h in
      rw (row_of w (i % N) (i / N) p) (rw (entry_of w (i % N) (i / N) p) (div-add-mod' i N))

  pub samples-planes : (i : ℕ) → i < N * w → to_samples w N (to_planes w N i) ≡ i
  samples-planes i h =
      let s : i / w < N = row_below N w i h in
      rw (row_of N (i % w) (i / w) s) (rw (entry_of N (i % w) (i / w) s) (div-add-mod' i w))

  pub places : (L : ℕ) → L ≡ N * w → Bijection L (to_samples w N) (to_planes w N)
  places L e =
      let c : w * N ≡ N * w = mul_comm w N in
      record {
        to_within = λ i h. rw e (samples-within i (rw c (rw e at h)));
        back-within = λ i h. rw e (rw c at (planes-within i (rw e at h)));
        back_to = λ i h. planes-samples i (rw c (rw e at h));
        to_back = λ i h. samples-planes i (rw e at h);
      }

  pub places-back : (L : ℕ) → L ≡ N * w → Bijection L (to_planes w N) (to_samples w N)
  places-back L e =
      let b = places L e in
      record { to_within = b.back-within; back-within = b.to_within; back_to = b.to_back; to_back = b.back_to }
