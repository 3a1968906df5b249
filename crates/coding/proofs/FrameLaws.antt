-- Laws of the frame: by position, its length, its columns.
use Rattle.std.proofs.Common.{◌≡◌, ℕ, zero, suc, ◌+◌, ◌-◌, ◌*◌, ◌/◌, ◌%◌, ◌<◌, ◌≤◌, List, ◌++◌, length, get_or, replicate, sym, refl, ap, ◌∙◌, append_assoc, mod-lt, mul_comm, div-lt_iff_lt-mul, add-mul, one-mul, div-add-mod', arith, length-append, get_or-append-add, w64}
use Rattle.std.specs.Int.{to_be_bytes}
use Rattle.std.proofs.Math.Nat.{div-div-eq-div-mul}
use native.Mathlib.Decide.{dec_lt}
use lib.ListN.{length-replicate, get_or-append, get_or-eq_default}
use Rattle.coding.specs.Bytes.{Bytes, four_bytes}
use Rattle.coding.specs.Pieces.{columns, frame}
use Rattle.coding.specs.Frame.{frame_byte}
use Rattle.coding.proofs.BytesLaws.{zeros_at}

-- the length is in the last four bytes that the standard library gives
pub length_byte : (page : List ℕ) (p : ℕ) → p < 4 → get_or (to_be_bytes w64 (length page)) (4 + p) 0 ≡ frame_byte page p
length_byte page zero h = simp div-div-eq-div-mul
length_byte page (suc zero) h = simp div-div-eq-div-mul
length_byte page (suc (suc zero)) h = refl
length_byte page (suc (suc (suc zero))) h = refl
length_byte page (suc (suc (suc (suc p)))) h = absurd (omega arith)

-- past the length stands the page
pub frame-page : (page : List ℕ) (p : ℕ) → frame_byte page (4 + p) ≡ get_or page p 0
frame-page page p = let e : 4 + p ≡ suc (suc (suc (suc p))) = omega arith in rw e

-- lane l of a row that starts behind the length
pub lane_page : (page : List ℕ) (from k l : ℕ) → 4 ≤ from → get_or page (from - 4 + l * k) 0 ≡ frame_byte page (from + l * k)
lane_page page from k l h =
    let e : from + l * k ≡ 4 + (from - 4 + l * k) = omega arith in
    sym (ap (frame_byte page) e ∙ frame-page page (from - 4 + l * k))

-- the bytes of the length and of the page are bytes
pub frame-bytes : (page : List ℕ) → Bytes page → (p : ℕ) → frame_byte page p < 256
frame-bytes page b zero = mod-lt (length page / 256 / 256 / 256) (omega arith)
frame-bytes page b (suc zero) = mod-lt (length page / 256 / 256) (omega arith)
frame-bytes page b (suc (suc zero)) = mod-lt (length page / 256) (omega arith)
frame-bytes page b (suc (suc (suc zero))) = mod-lt (length page) (omega arith)
frame-bytes page b (suc (suc (suc (suc p)))) = b p

-- the zeros are what stands past the end anyway
zeros_end : (s : List ℕ) (n p : ℕ) → get_or (s ++ replicate {A = ℕ} n 0) p 0 ≡ get_or s p 0
zeros_end s n p = go (dec_lt p (length s))
  where
    go : Dec (p < length s) → get_or (s ++ replicate {A = ℕ} n 0) p 0 ≡ get_or s p 0
    go (yes h) = get_or-append s (replicate {A = ℕ} n 0) 0 p h
    go (no h) =
        let e : p ≡ length s + (p - length s) = omega arith in
        ap (λ (x : ℕ). get_or (s ++ replicate {A = ℕ} n 0) x 0) e
        ∙ get_or-append-add s (replicate {A = ℕ} n 0) (p - length s) 0
        ∙ zeros_at n (p - length s)
        ∙ sym (get_or-eq_default s 0 (omega arith))

pub frame_at : (k : ℕ) (page : List ℕ) (p : ℕ) → get_or (frame k page) p 0 ≡ frame_byte page p
unfolding frame
frame_at k page p =
    let z = columns k (length page) * k - (4 + length page) in
    ap (λ (s : List ℕ). get_or s p 0) (sym (append_assoc (four_bytes (length page)) page (replicate z 0)))
    ∙ zeros_end (four_bytes (length page) ++ page) z p

-- the columns hold the length and the page, and one fewer would not
pub columns_hold : (k n : ℕ) → 1 ≤ k → (4 + n ≤ columns k n * k) × (columns k n * k < 4 + n + k)
unfolding columns
columns_hold k n h =
    let e : columns k n * k + (4 + n + (k - 1)) % k ≡ 4 + n + (k - 1) = div-add-mod' (4 + n + (k - 1)) k in
    let m : (4 + n + (k - 1)) % k < k = mod-lt (4 + n + (k - 1)) h in (omega arith, omega arith)

pub columns-within : (k F n : ℕ) → 1 ≤ k → 4 ≤ k * F → n ≤ k * F - 4 → columns k n ≤ F
unfolding columns
columns-within k F n h f l =
    let e : (F + 1) * k ≡ k * F + k = add-mul F 1 k ∙ ap (λ (x : ℕ). F * k + x) (one-mul k) ∙ ap (λ (x : ℕ). x + k) (mul_comm F k) in
    let b : 4 + n + (k - 1) < (F + 1) * k = omega arith in
    omega (arith, (div-lt_iff_lt-mul h).1 b)

pub length-frame : (k : ℕ) (page : List ℕ) → 1 ≤ k → length (frame k page) ≡ columns k (length page) * k
unfolding frame
length-frame k page h =
    let z = columns k (length page) * k - (4 + length page) in
    let e : length (page ++ replicate z 0) ≡ length page + z =
    length-append page (replicate z 0) ∙ ap (λ (x : ℕ). length page + x) (length-replicate z 0)
    in
    let b : 4 + length page ≤ columns k (length page) * k = (columns_hold k (length page) h).0 in
    length-append (four_bytes (length page)) (page ++ replicate z 0) ∙ omega arith
