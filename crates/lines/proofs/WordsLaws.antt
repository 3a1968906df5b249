-- Laws of words: how they grow by a byte at the end, and that no two words pack alike.
use mathlib.Core.Path.{◌≡◌, refl, sym, ap, ◌∙◌}
use mathlib.Core.Bool.{Bool, true, false, cond, not, ◌&&◌}
use mathlib.Core.List.{List, [], ◌∷◌, ◌++◌}
use Prim.Native.Nat.{ℕ, zero, suc, ◌+◌, ◌-◌, ◌*◌, ◌<◌, ◌≤◌}
use native.Mathlib.Decide.{dec_lt}
use native.Mathlib.Omega.{arith}
use borrow.Author.Tests.{ltb-true, eqb-true, ne_eqb, lt-ltb}
use lib.Dec.{leb, ltb, eqb}
use lib.ListN.{length}
use Rattle.lines.specs.Words.{grow, words, first, every, odd, same, decimal, hex_value, hex_digit, hex_bytes, pack_from, packed}
use Rattle.lines.specs.Read.{high_from}

pub and_left : (a b : Bool) → (a && b) ≡ true → a ≡ true
and_left true b e = refl
and_left false b e = e

pub and_right : (a b : Bool) → (a && b) ≡ true → b ≡ true
and_right true b e = e
and_right false b e = absurd (let z : ◌≡◌ {A = ℕ} 0 1 = cc in omega arith)

-- ---- words, with a byte more at the end

abbrev some_word : List (List ℕ) → Type 0
some_word [] = ⊥
some_word (w ∷ ws) = Unit {0}

words_some : (p : List ℕ) → some_word (words p)
unfolding words
words_some [] = tt
words_some (b ∷ p) = go (eqb b 32) (words p)
  where
    go : (t : Bool) (l : List (List ℕ)) → some_word (cond t ([] ∷ l) (grow b l))
    go true l = tt
    go false [] = tt
    go false (w ∷ ws) = tt

-- a space begins a word
pub words_space : (p : List ℕ) → words (p ++ (32 ∷ [])) ≡ words p ++ ([] ∷ [])
unfolding words
words_space [] = refl
words_space (b ∷ p) =
    ap (λ (l : List (List ℕ)). cond (eqb b 32) ([] ∷ l) (grow b l)) (words_space p) ∙ go (eqb b 32) (words p) (words_some p)
  where
    go : (t : Bool) (l : List (List ℕ)) → some_word l
        → cond t ([] ∷ (l ++ ([] ∷ []))) (grow b (l ++ ([] ∷ []))) ≡ cond t ([] ∷ l) (grow b l) ++ ([] ∷ [])
    go true l f = refl
    go false [] f = absurd f
    go false (w ∷ ws) f = refl

-- the last word with a byte more
unfoldable on_last : ℕ → List (List ℕ) → List (List ℕ)
on_last b [] = (b ∷ []) ∷ []
on_last b (w ∷ []) = (w ++ (b ∷ [])) ∷ []
on_last b (w ∷ v ∷ ws) = w ∷ on_last b (v ∷ ws)

on_last_end : (b : ℕ) (ws : List (List ℕ)) (w : List ℕ) → on_last b (ws ++ (w ∷ [])) ≡ ws ++ ((w ++ (b ∷ [])) ∷ [])
unfolding on_last
on_last_end b [] w = refl
on_last_end b (v ∷ []) w = refl
on_last_end b (v ∷ u ∷ ws) w = ap (λ (l : List (List ℕ)). v ∷ l) (on_last_end b (u ∷ ws) w)

-- any other byte goes to the last word
words_last : (b : ℕ) → (b ≡ 32 → ⊥) → (p : List ℕ) → words (p ++ (b ∷ [])) ≡ on_last b (words p)
unfolding words on_last
words_last b h [] = simp (ne_eqb b 32 h)
words_last b h (c ∷ p) =
    ap (λ (l : List (List ℕ)). cond (eqb c 32) ([] ∷ l) (grow c l)) (words_last b h p) ∙ go (eqb c 32) (words p) (words_some p)
  where
    go : (t : Bool) (l : List (List ℕ)) → some_word l
        → cond t ([] ∷ on_last b l) (grow c (on_last b l)) ≡ on_last b (cond t ([] ∷ l) (grow c l))
    go t [] f = absurd f
    go true (w ∷ ws) f = refl
    go false (w ∷ []) f = refl
    go false (w ∷ v ∷ ws) f = refl

pub words_letter : (b : ℕ) → (b ≡ 32 → ⊥) → (p : List ℕ) (ws : List (List ℕ)) (w : List ℕ) → words p ≡ ws ++ (w ∷ [])
    → words (p ++ (b ∷ [])) ≡ ws ++ ((w ++ (b ∷ [])) ∷ [])
words_letter b h p ws w e = words_last b h p ∙ ap (on_last b) e ∙ on_last_end b ws w

-- ---- tests of a word with a byte more

pub every_more : (f : ℕ → Bool) (w : List ℕ) (b : ℕ) → every f (w ++ (b ∷ [])) ≡ (every f w && f b)
unfolding every
every_more f [] b = go (f b)
  where
    go : (t : Bool) → (t && true) ≡ t
    go true = refl
    go false = refl
every_more f (c ∷ w) b = ap (λ (t : Bool). f c && t) (every_more f w b) ∙ go (f c) (every f w) (f b)
  where
    go : (s t u : Bool) → (s && (t && u)) ≡ ((s && t) && u)
    go true t u = refl
    go false t u = refl

pub odd-more : (w : List ℕ) (b : ℕ) → odd (w ++ (b ∷ [])) ≡ not (odd w)
unfolding odd
odd-more [] b = refl
odd-more (c ∷ w) b = ap not (odd-more w b)

pub same_eq : (w v : List ℕ) → same w v ≡ true → w ≡ v
unfolding same
same_eq [] [] e = refl
same_eq [] (c ∷ v) e = absurd (let z : ◌≡◌ {A = ℕ} 0 1 = cc in omega arith)
same_eq (b ∷ w) [] e = absurd (let z : ◌≡◌ {A = ℕ} 0 1 = cc in omega arith)
same_eq (b ∷ w) (c ∷ v) e =
    let h : b ≡ c = eqb-true b c (and_left (eqb b c) (same w v) e) in
    let t : w ≡ v = same_eq w v (and_right (eqb b c) (same w v) e) in
    λ i. h i ∷ t i

-- ---- numbers and pages with a digit more

pub decimal-more : (n : ℕ) (w : List ℕ) (b : ℕ) → decimal n (w ++ (b ∷ [])) ≡ decimal n w * 10 + (b - 48)
unfolding decimal
decimal-more n [] b = refl
decimal-more n (c ∷ w) b = decimal-more (n * 10 + (c - 48)) w b

pub high-more : (h : ℕ) (w : List ℕ) (b : ℕ) → high_from h (w ++ (b ∷ [])) ≡ hex_value b
unfolding high_from
high-more h [] b = refl
high-more h (c ∷ w) b = high-more (hex_value c) w b

pub high-below : (h : ℕ) (w : List ℕ) → h < 16 → every hex_digit w ≡ true → high_from h w < 16
unfolding high_from every
high-below h [] l e = l
high-below h (c ∷ w) l e =
    high-below (hex_value c) w (ltb-true (hex_value c) 16 (and_left (hex_digit c) (every hex_digit w) e)) (and_right (hex_digit c) (every hex_digit w) e)

-- with a second digit a byte is whole
pub hex-more : (h : ℕ) (w : List ℕ) (b : ℕ)
    → cond (odd w) (hex_bytes w ++ ((high_from h w * 16 + hex_value b) ∷ [])) (hex_bytes w) ≡ hex_bytes (w ++ (b ∷ []))
unfolding hex_bytes odd high_from
hex-more h [] b = refl
hex-more h (a ∷ []) b = refl
hex-more h (a ∷ c ∷ w) b =
    go (odd w) ∙ ap (λ (l : List ℕ). (hex_value a * 16 + hex_value c) ∷ l) (hex-more (hex_value c) w b)
  where
    go : (t : Bool)
        → cond (not (not t)) ((hex_value a * 16 + hex_value c) ∷ (hex_bytes w ++ ((high_from (hex_value c) w * 16 + hex_value b) ∷ [])))
        ((hex_value a * 16 + hex_value c) ∷ hex_bytes w)
        ≡ (hex_value a * 16 + hex_value c) ∷ cond t (hex_bytes w ++ ((high_from (hex_value c) w * 16 + hex_value b) ∷ [])) (hex_bytes w)
    go true = refl
    go false = refl

-- ---- packed words

abbrev pub small : List ℕ → Type 0
small w = every (λ b. ltb b 256) w ≡ true

small_head : (b : ℕ) (w : List ℕ) → small (b ∷ w) → b < 256
unfolding every
small_head b w e = ltb-true b 256 (and_left (ltb b 256) (every (λ b. ltb b 256) w) e)

small-rest : (b : ℕ) (w : List ℕ) → small (b ∷ w) → small w
unfolding every
small-rest b w e = and_right (ltb b 256) (every (λ b. ltb b 256) w) e

-- of bytes, the first word is of bytes: `packed_injective` tells it by its number
pub first_small : (p : List ℕ) → small p → small (first (words p))
unfolding words every
first_small [] s = refl
first_small (b ∷ p) s = go (eqb b 32) (words p) (first_small p (small-rest b p s))
  where
    go : (t : Bool) (l : List (List ℕ)) → small (first l) → small (first (cond t ([] ∷ l) (grow b l)))
    go true l f = refl
    go false [] f = ap (λ (u : Bool). u && true) (lt-ltb b 256 (small_head b p s))
    go false (w ∷ ws) f = λ i. lt-ltb b 256 (small_head b p s) i && f i

pub pack_more : (n : ℕ) (w : List ℕ) (b : ℕ) → pack_from n (w ++ (b ∷ [])) ≡ pack_from n w * 256 + b
unfolding pack_from
pack_more n [] b = refl
pack_more n (c ∷ w) b = pack_more (n * 256 + c) w b

-- m with so many bytes after it, each 0
unfoldable pub room : ℕ → ℕ → ℕ
room m zero = m
room m (suc k) = room (m * 256) k

pub pack_below : (k : ℕ) (w : List ℕ) (n m : ℕ) → small w → length w ≤ k → n < m → pack_from n w < room m k
unfolding pack_from room
pack_below zero [] n m s l h = h
pack_below zero (b ∷ w) n m s l h = absurd (omega arith)
pack_below (suc k) [] n m s l h = pack_below k [] n (m * 256) s (omega arith) (omega arith)
pack_below (suc k) (b ∷ w) n m s l h =
    let f : b < 256 = small_head b w s in
    pack_below k w (n * 256 + b) (m * 256) (small-rest b w s) (omega arith) (omega arith)

pack_above : (k : ℕ) (w : List ℕ) (n m : ℕ) → k ≤ length w → m ≤ n → room m k ≤ pack_from n w
unfolding pack_from room
pack_above zero [] n m l h = h
pack_above zero (b ∷ w) n m l h = pack_above zero w (n * 256 + b) m (omega arith) (omega arith)
pack_above (suc k) [] n m l h = absurd (omega arith)
pack_above (suc k) (b ∷ w) n m l h = pack_above k w (n * 256 + b) (m * 256) (omega arith) (omega arith)

-- the longer word packs to more
pack_longer : (w v : List ℕ) → small w → length w < length v → pack_from 1 w < pack_from 1 v
unfolding pack_from
pack_longer w [] s h = absurd (omega arith)
pack_longer w (c ∷ v) s h =
    omega (arith, pack_below (length w) w 1 2 s (omega arith) (omega arith), pack_above (length w) v (1 * 256 + c) 2 (omega arith) (omega arith))

pack_same : (w v : List ℕ) (n m : ℕ) → small w → small v → length w ≡ length v → pack_from n w ≡ pack_from m v → (n ≡ m) × (w ≡ v)
unfolding pack_from
pack_same [] [] n m s t l e = (e, refl)
pack_same [] (c ∷ v) n m s t l e = absurd (omega arith)
pack_same (b ∷ w) [] n m s t l e = absurd (omega arith)
pack_same (b ∷ w) (c ∷ v) n m s t l e =
    let f : b < 256 = small_head b w s in
    let g : c < 256 = small_head c v t in
    let r = pack_same w v (n * 256 + b) (m * 256 + c) (small-rest b w s) (small-rest c v t) (omega arith) e in
    let q : n * 256 + b ≡ m * 256 + c = r.0 in
    let h : b ≡ c = omega arith in
    let k : w ≡ v = r.1 in
    (omega arith, λ i. h i ∷ k i)

packed-short : (w : List ℕ) → (packed w ≡ 0 → ⊥) → packed w ≡ pack_from 1 w
unfolding packed
packed-short w h = go (leb (length w) 7) refl
  where
    go : (t : Bool) → leb (length w) 7 ≡ t → packed w ≡ pack_from 1 w
    go true e = simp e
    go false e = absurd (h (simp e))

-- no two words of at most 7 bytes pack alike, and a longer one packs to 0
pub packed_injective : (w v : List ℕ) → small w → small v → packed w ≡ packed v → (packed v ≡ 0 → ⊥) → w ≡ v
packed_injective w v s t e h = go (dec_lt (length w) (length v)) (dec_lt (length v) (length w))
  where
    p : pack_from 1 w ≡ pack_from 1 v
    p = sym (packed-short w (λ z. h (sym e ∙ z))) ∙ e ∙ packed-short v h

    go : Dec (length w < length v) → Dec (length v < length w) → w ≡ v
    go (yes a) b = absurd (omega (arith, p, pack_longer w v s a))
    go (no a) (yes b) = absurd (omega (arith, p, pack_longer v w t b))
    go (no a) (no b) = (pack_same w v 1 1 s t (omega arith) p).1
