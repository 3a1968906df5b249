-- Laws of the loops over blocks: a block more is shuffled, or shuffled into its planes.
use mathlib.Core.Path.{◌≡◌, refl, sym, ap, ap₂, ◌∙◌}
use mathlib.Core.List.{List}
use Prim.Native.Nat.{ℕ, ◌+◌, ◌*◌, ◌/◌, ◌%◌, ◌<◌, ◌≤◌}
use native.Mathlib.Nat.{le_of_eq}
use native.Mathlib.Omega.{arith}
use lib.ListN.{length, get_or}
use lib.Seq.{paste}
use Rattle.coding.specs.Areas.{Columns}
use Rattle.coding.specs.Bytes.{tabulate}
use Rattle.coding.proofs.BytesLaws.{Front, front-more, front_in, front_length}
use Rattle.coding.proofs.AreasLaws.{columns-none, columns-more, columns-join}
use Rattle.coding.proofs.SplitLaws.{columns_ext}
use Rattle.recordings.specs.Planes.{among_samples}
use Rattle.recordings.specs.Shuffle.{shuffled, in_blocks}
use Rattle.recordings.proofs.PlaceLaws.{row_of, entry_of}
use Rattle.recordings.proofs.ShuffleLaws.{shuffled-piece, in_block, shuffled_through}

-- 16 bytes that a shuffle takes from a place on
abbrev pub Piece : List ℕ → ℕ → List ℕ → Type 0
Piece d at v = (length v ≡ 16) × ((l : ℕ) → l < 16 → get_or v l 0 ≡ get_or d (at + shuffled l) 0)

module _ (d t : List ℕ) (at k : ℕ) (room : 1536 ≤ length t) (h : k < 32) where
  -- what stands at a place after the shuffle
  byte : ℕ → ℕ
  byte m = get_or d (at + in_blocks shuffled m) 0

  piece : (u v : List ℕ) (j m m' a : ℕ) → j < 3 → m ≡ 48 * k + 16 * j → m' ≡ m + 16 → a ≡ at + 48 * k + 8 * j → Piece d a v → Front t byte u m
      → Front t byte (paste u m v 16) m'
  unfolding byte
  piece u v j m m' a hj e e' f p s =
      rw e'
      (front-more t byte u m 16 v s (omega arith) (le_of_eq (sym p.0))
      (λ l b.
      let z : m + l ≡ k * 48 + (j * 16 + l) = omega arith in
      p.1 l b
      ∙ ap (λ (q : ℕ). get_or d q 0) (omega (arith, ap (in_blocks shuffled) z, in_block k (j * 16 + l) (omega arith), shuffled-piece j l))))

  pub shuffle_turn : (u u₁ u₂ u₃ v₀ v₁ v₂ : List ℕ) → Piece d (at + 48 * k) v₀ → Piece d (at + 48 * k + 8) v₁ → Piece d (at + 48 * k + 16) v₂
      → u₁ ≡ paste u (48 * k) v₀ 16 → u₂ ≡ paste u₁ (48 * k + 16) v₁ 16 → u₃ ≡ paste u₂ (48 * k + 32) v₂ 16
      → Front t (λ m. get_or d (at + in_blocks shuffled m) 0) u (48 * k)
      → Front t (λ m. get_or d (at + in_blocks shuffled m) 0) u₃ (48 * (k + 1))
  unfolding byte
  shuffle_turn u u₁ u₂ u₃ v₀ v₁ v₂ p₀ p₁ p₂ e₁ e₂ e₃ s =
      let a : Front t byte u₁ (48 * k + 16) =
      rw e₁ (piece u v₀ 0 (48 * k) (48 * k + 16) (at + 48 * k) (omega arith) (omega arith) (omega arith) (omega arith) p₀ s)
      in
      let b : Front t byte u₂ (48 * k + 32) =
      rw e₂ (piece u₁ v₁ 1 (48 * k + 16) (48 * k + 32) (at + 48 * k + 8) (omega arith) (omega arith) (omega arith) (omega arith) p₁ a)
      in
      rw e₃ (piece u₂ v₂ 2 (48 * k + 32) (48 * (k + 1)) (at + 48 * k + 16) (omega arith) (omega arith) (omega arith) (omega arith) p₂ b)

module _ (d t : List ℕ) (n s k : ℕ) (room : 3 * n ≤ length t) (fits : s + 512 ≤ n) (h : k < 32) where
  -- what stands in a plane after the last shuffle
  entry : ℕ → ℕ → ℕ
  entry p l = get_or d (l / 16 * 48 + shuffled (p * 16 + l % 16)) 0

  next : (v : List ℕ) (p a : ℕ) → a ≡ 48 * k + 8 * p → Piece d a v → (l : ℕ) → l < 16 → get_or v l 0 ≡ entry p (16 * k + l)
  unfolding entry
  next v p a e q l b =
      let z : 16 * k + l ≡ k * 16 + l = omega arith in
      q.1 l b
      ∙ ap (λ (x : ℕ). get_or d x 0) (omega (arith, shuffled-piece p l))
      ∙ sym (ap₂ (λ (x y : ℕ). get_or d (x * 48 + shuffled (p * 16 + y)) 0) (ap (λ (x : ℕ). x / 16) z ∙ row_of 16 k l b) (ap (λ (x : ℕ). x % 16) z ∙ entry_of 16 k l b))

  pub spread_turn : (u u₁ u₂ u₃ v₀ v₁ v₂ : List ℕ) → Piece d (48 * k) v₀ → Piece d (48 * k + 8) v₁ → Piece d (48 * k + 16) v₂
      → u₁ ≡ paste u (s + 16 * k) v₀ 16 → u₂ ≡ paste u₁ (n + (s + 16 * k)) v₁ 16 → u₃ ≡ paste u₂ (2 * n + (s + 16 * k)) v₂ 16
      → Columns 3 n s (16 * k) (λ p l. get_or d (l / 16 * 48 + shuffled (p * 16 + l % 16)) 0) t u
      → Columns 3 n s (16 * (k + 1)) (λ p l. get_or d (l / 16 * 48 + shuffled (p * 16 + l % 16)) 0) t u₃
  unfolding entry
  spread_turn u u₁ u₂ u₃ v₀ v₁ v₂ p₀ p₁ p₂ e₁ e₂ e₃ c =
      let j = s + 16 * k in
      let w : ℕ → ℕ → ℕ = λ p l. entry p (16 * k + l) in
      let r : 3 * n ≤ length u = rw c.same room in
      let z₀ : 0 * n + j ≡ j = omega arith in
      let z₁ : 1 * n + j ≡ n + j = omega arith in
      let c₁ : Columns 1 n j 16 w u u₁ =
      rw e₁
      (rw z₀ at (columns-more 0 n j 16 w u u (columns-none n j 16 w u) (omega arith) v₀ (le_of_eq (sym p₀.0)) (omega arith) (next v₀ 0 (48 * k) (omega arith) p₀)))
      in
      let c₂ : Columns 2 n j 16 w u u₂ =
      rw e₂
      (rw z₁ at (columns-more 1 n j 16 w u u₁ c₁ (omega arith) v₁ (le_of_eq (sym p₁.0)) (omega arith) (next v₁ 1 (48 * k + 8) (omega arith) p₁)))
      in
      let c₃ : Columns 3 n j 16 w u u₃ =
      rw e₃ (columns-more 2 n j 16 w u u₂ c₂ (omega arith) v₂ (le_of_eq (sym p₂.0)) (omega arith) (next v₂ 2 (48 * k + 16) (omega arith) p₂))
      in
      let e : 16 * k + 16 ≡ 16 * (k + 1) = omega arith in
      rw e at (columns-join 3 n s (16 * k) 16 entry w t u u₃ (omega arith) (λ i l. refl) c c₃)

-- a list of 1536 bytes that a shuffle has written
abbrev Shuffle : List ℕ → ℕ → List ℕ → List ℕ → Type 0
Shuffle d at t u = u ≡ paste t 0 (tabulate 1536 (λ m. get_or d (at + in_blocks shuffled m) 0)) 1536

module _ (d t u : List ℕ) (at : ℕ) (e : length t ≡ 1536) (s : Shuffle d at t u) where
  whole : Front t (λ m. get_or d (at + in_blocks shuffled m) 0) u 1536
  whole = record { within = le_of_eq (sym e); done = s }

  shuffle_shows : (m : ℕ) → m < 1536 → get_or u m 0 ≡ get_or d (at + in_blocks shuffled m) 0
  shuffle_shows = front_in t (λ m. get_or d (at + in_blocks shuffled m) 0) u 1536 whole

  shuffle_length : length u ≡ 1536
  shuffle_length = front_length t (λ m. get_or d (at + in_blocks shuffled m) 0) u 1536 whole ∙ e

-- three shuffles, and a fourth into the planes
pub block_written : (d x y x₁ y₁ x₂ out u : List ℕ) (n s : ℕ) → length x ≡ 1536 → length y ≡ 1536
    → Shuffle d (3 * s) x x₁ → Shuffle x₁ 0 y y₁ → Shuffle y₁ 0 x₁ x₂
    → Columns 3 n s 512 (λ p l. get_or x₂ (l / 16 * 48 + shuffled (p * 16 + l % 16)) 0) out u
    → Columns 3 n s 512 (λ p l. get_or d (among_samples 3 (s + l) p) 0) out u
block_written d x y x₁ y₁ x₂ out u n s ex ey e₁ e₂ e₃ =
    columns_ext 3 n s 512 _ _ out u
    (shuffled_through d x₁ y₁ x₂ s
    (shuffle_shows d x x₁ (3 * s) ex e₁)
    (shuffle_shows x₁ y y₁ 0 ey e₂)
    (shuffle_shows y₁ x₁ x₂ 0 (shuffle_length d x x₁ (3 * s) ex e₁) e₃))
