-- Laws of a row that is put together at the front of a room of zeros, and of rows written one after the other.
use mathlib.Core.Path.{◌≡◌, refl, sym, ap, ap₂, ◌∙◌}
use mathlib.Core.List.{List, [], ◌∷◌, ◌++◌, append_assoc, append-nil}
use Prim.Native.Nat.{ℕ, zero, suc, ◌+◌, ◌-◌, ◌*◌, ◌<◌, ◌≤◌}
use native.Mathlib.Nat.{suc-mul}
use native.Mathlib.Numerals.{add-one}
use native.Mathlib.Omega.{arith}
use lib.ListN.{length, take, drop, set, replicate, length-append, length-replicate, replicate-append-replicate}
use lib.Seq.{length-take-le, take_at, drop_at, drop-append-add, set_at, paste, drop-drop, take-append-add}
use Rattle.parties.specs.protocol.Format.{write_many}
use Rattle.parties.specs.directory.Room.{longest_row, Built}

-- zeros, some of them first
zeros_split : (n k : ℕ) → n ≤ k → replicate {A = ℕ} k 0 ≡ replicate n 0 ++ replicate (k - n) 0
zeros_split n k h =
    let e : n + (k - n) ≡ k = omega arith in sym (replicate-append-replicate n (k - n) 0 ∙ ap (λ (x : ℕ). replicate {A = ℕ} x 0) e)

zeros_drop : (n k : ℕ) → n ≤ k → drop n (replicate {A = ℕ} k 0) ≡ replicate (k - n) 0
zeros_drop n k h = rw (zeros_split n k h) (drop_at (replicate n 0) (replicate (k - n) 0) n (length-replicate {A = ℕ} n 0))

built_none : Built [] (replicate longest_row 0)
built_none = record { fits = omega arith; bytes = refl }

module _ (p room : List ℕ) (b : Built p room) where
  pub built_length : length room ≡ longest_row
  built_length =
      let f : length p ≤ longest_row = b.fits in
      omega (arith, ap length b.bytes, length-append p (replicate (longest_row - length p) 0), length-replicate {A = ℕ} (longest_row - length p) 0)

  -- bytes after those that stand
  pub built_part : (q : List ℕ) (n : ℕ) → n ≤ length q → length p + n ≤ longest_row → Built (p ++ take n q) (paste room (length p) q n)
  built_part q n h l =
      let t : length (take n q) ≡ n = length-take-le n q h in
      let z = replicate {A = ℕ} (longest_row - length p) 0 in
      let f : length (p ++ take n q) ≡ length p + n = length-append p (take n q) ∙ ap (λ (x : ℕ). length p + x) t in
      let k : longest_row - length p - n ≡ longest_row - length (p ++ take n q) = omega arith in
      record {
        fits = omega arith;
        bytes = ap₂ (λ (x y : List ℕ). (x ++ take n q) ++ y)
            (ap (take (length p)) b.bytes ∙ take_at p z (length p) refl)
            (ap (drop (length p + n)) b.bytes ∙ drop-append-add p z n ∙ zeros_drop n (longest_row - length p) (omega arith) ∙ ap (λ (x : ℕ). replicate x 0) k);
      }

  -- zeros stand already
  pub built_zeros : (n : ℕ) → length p + n ≤ longest_row → Built (p ++ replicate n 0) room
  built_zeros n l =
      let f : length (p ++ replicate n 0) ≡ length p + n = length-append p (replicate n 0) ∙ ap (λ (x : ℕ). length p + x) (length-replicate {A = ℕ} n 0) in
      let k : longest_row - length p - n ≡ longest_row - length (p ++ replicate n 0) = omega arith in
      record {
        fits = omega arith;
        bytes = b.bytes
            ∙ ap (λ (x : List ℕ). p ++ x) (zeros_split n (longest_row - length p) (omega arith))
            ∙ sym (append_assoc p (replicate n 0) (replicate (longest_row - length p - n) 0))
            ∙ ap (λ (x : ℕ). (p ++ replicate n 0) ++ replicate x 0) k;
      }

  pub built_byte : (v : ℕ) → length p < longest_row → Built (p ++ (v ∷ [])) (set room (length p) v)
  built_byte v l =
      let f : length (p ++ (v ∷ [])) ≡ length p + 1 = length-append p (v ∷ []) in
      let k : longest_row - length p ≡ suc (longest_row - length (p ++ (v ∷ []))) = omega arith in
      let z = replicate {A = ℕ} (longest_row - length (p ++ (v ∷ []))) 0 in
      record {
        fits = omega arith;
        bytes = ap (λ (x : List ℕ). set x (length p) v) (b.bytes ∙ ap (λ (x : ℕ). p ++ replicate x 0) k)
            ∙ set_at p 0 z v (length p) refl
            ∙ sym (append_assoc p (v ∷ []) z);
      }

  -- the row's area
  pub built_area : (size : ℕ) → length p ≤ size → size ≤ longest_row → take size room ≡ p ++ replicate (size - length p) 0
  built_area size h l =
      let e : size ≡ length p + (size - length p) = omega arith in
      let n = size - length p in
      let k = longest_row - length p in
      ap₂ take e b.bytes
      ∙ take-append-add p (replicate k 0) n
      ∙ ap (λ (x : List ℕ). p ++ x) (ap (take n) (zeros_split n k (omega arith))
      ∙ take_at (replicate n 0) (replicate (k - n) 0) n (length-replicate {A = ℕ} n 0))

-- the map byte of a row
pub built_map : (room : List ℕ) → room ≡ replicate longest_row 0 → Built (15 ∷ []) (set room 0 15)
built_map room e = rw e (built_byte [] (replicate longest_row 0) built_none 15 (omega arith))

-- ---- values of one length, one after the other

module _ {A : Type 0} (w : A → List ℕ) where
  pub many-none : (a : A) → write_many w (replicate 0 a) ≡ []
  unfolding write_many
  many-none a = refl

  pub many-first : (a : A) (i : ℕ) → write_many w (replicate (suc i) a) ≡ w a ++ write_many w (replicate i a)
  unfolding write_many
  many-first a i = refl

  pub many_replicated : (a : A) (k i : ℕ) → length (w a) ≡ k → length (write_many w (replicate i a)) ≡ i * k
  unfolding write_many
  many_replicated a k zero h = omega arith
  many_replicated a k (suc i) h = length-append (w a) (write_many w (replicate i a)) ∙ omega (arith, many_replicated a k i h, suc-mul i k)

  pub many-last : (a : A) (i : ℕ) → write_many w (replicate i a) ++ w a ≡ write_many w (replicate (suc i) a)
  unfolding write_many
  many-last a zero = sym (append-nil (w a))
  many-last a (suc i) = append_assoc (w a) (write_many w (replicate i a)) (w a) ∙ ap (λ (x : List ℕ). w a ++ x) (many-last a i)

  -- one more of them over the front of what is left
  pub many_pasted : (a : A) (k i : ℕ) (t u s : List ℕ) → length (w a) ≡ k → take k s ≡ w a → u ≡ write_many w (replicate i a) ++ drop (i * k) t
      → paste u (i * k) s k ≡ write_many w (replicate (i + 1) a) ++ drop (i * k + k) t
  many_pasted a k i t u s h d e =
      let p = write_many w (replicate i a) in
      let l : length p ≡ i * k = many_replicated a k i h in
      ap₂ (λ (x y : List ℕ). x ++ y)
      (ap₂ (λ (x y : List ℕ). x ++ y) (ap (take (i * k)) e ∙ take_at p (drop (i * k) t) (i * k) l) d ∙ many-last a i
      ∙ ap (λ (x : ℕ). write_many w (replicate x a)) (sym (add-one i)))
      (ap (drop (i * k + k)) e ∙ ap (λ (x : ℕ). drop (x + k) (p ++ drop (i * k) t)) (sym l) ∙ drop-append-add p (drop (i * k) t) k ∙ drop-drop k (i * k) t)
