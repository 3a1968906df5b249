-- The laws behind the functions on sixteen lanes.
use Rattle.std.proofs.Common.{◌≡◌, ℕ, zero, suc, ◌+◌, ◌-◌, ◌*◌, ◌/◌, ◌%◌, ◌^◌, ◌<◌, ◌≤◌, T, eqb, List, [], length, get_or, replicate, sym, refl, ap, ◌∙◌, subst, ap₂, pow-suc, add-one, arith, eqb→eq, shr-shr}
use native.Mathlib.Decide.{dec_lt}
use lib.Bits.{xor_zero_r}
use lib.ListN.{get_or-eq_default}
use Rattle.coding.specs.Field.{◌⊕◌, product}
use Rattle.coding.specs.Lanes.{horner, folded}
use Rattle.coding.proofs.Cases.{all_below, each_below}
use Rattle.coding.proofs.BytesLaws.{zeros_at}
use Rattle.coding.proofs.XorLaws.{xor_exchange}
use Rattle.coding.proofs.FieldLaws.{product_xor, xor_product, product_assoc, product_zero, zero_product, product_one, xor_assoc}

-- all lanes are filled, and past them both sides are 0
pub lanes_filled : (f : ℕ → ℕ) (r : List ℕ) (n : ℕ) → length r ≡ n → ((k : ℕ) → n ≤ k → f k ≡ 0)
    → ((k : ℕ) → k < n → get_or r k 0 ≡ f k) → (k : ℕ) → get_or r k 0 ≡ f k
lanes_filled f r n e past below k = go (dec_lt k n)
  where
    go : Dec (k < n) → get_or r k 0 ≡ f k
    go (yes h) = below k h
    go (no h) = get_or-eq_default r 0 (omega arith) ∙ sym (past k (omega arith))

twice_test : T (all_below 256 (λ x. eqb (x % 128 * 2 ⊕ x / 128 * 29) (product x 2)))
unfolding product
twice_test = tt

pub twice_rule : (x : ℕ) → x < 256 → x % 128 * 2 ⊕ x / 128 * 29 ≡ product x 2
twice_rule x h =
    eqb→eq (x % 128 * 2 ⊕ x / 128 * 29) (product x 2)
    (each_below 256 (λ x. eqb (x % 128 * 2 ⊕ x / 128 * 29) (product x 2)) twice_test x h)

halves_test : T (all_below 256 (λ m. eqb (m % 2 ⊕ product 2 (m / 2)) m))
unfolding product
halves_test = tt

-- a turn of the product by the bits of the factor m: its lowest bit, and twice the element by half the factor
pub halved : (t m : ℕ) → m < 256 → product t (m % 2) ⊕ product (product t 2) (m / 2) ≡ product t m
halved t m h =
    ap (λ (x : ℕ). product t (m % 2) ⊕ x) (product_assoc t 2 (m / 2))
    ∙ sym (product_xor t (m % 2) (product 2 (m / 2)))
    ∙ ap (product t)
    (eqb→eq (m % 2 ⊕ product 2 (m / 2)) m (each_below 256 (λ m. eqb (m % 2 ⊕ product 2 (m / 2)) m) halves_test m h))

pub turn_odd : (s t m p : ℕ) → t < 256 → m < 256 → m % 2 ≡ 1 → s ⊕ product t m ≡ p → (s ⊕ t) ⊕ product (product t 2) (m / 2) ≡ p
turn_odd s t m p ht hm b e =
    xor_assoc s t (product (product t 2) (m / 2))
    ∙ ap (λ (x : ℕ). s ⊕ x)
    (ap (λ (x : ℕ). x ⊕ product (product t 2) (m / 2)) (sym (product_one t ht) ∙ ap (product t) (sym b)) ∙ halved t m hm)
    ∙ e

pub turn_even : (s t m p : ℕ) → m < 256 → m % 2 ≡ 0 → s ⊕ product t m ≡ p → s ⊕ product (product t 2) (m / 2) ≡ p
turn_even s t m p hm b e =
    ap (λ (x : ℕ). s ⊕ x)
    (ap (λ (x : ℕ). x ⊕ product (product t 2) (m / 2)) (sym (product_zero t) ∙ ap (product t) (sym b)) ∙ halved t m hm)
    ∙ e

-- nothing is left of the factor
pub ended : (s t m p : ℕ) → m ≡ 0 → s ⊕ product t m ≡ p → s ≡ p
ended s t m p z e = sym (ap (λ (x : ℕ). s ⊕ x) (ap (product t) z ∙ product_zero t) ∙ xor_zero_r s) ∙ e

pub half-below : (m n i : ℕ) → i < n → m < 2 ^ (n - i) → m / 2 < 2 ^ (n - (i + 1))
half-below m n i l h =
    let e : n - i ≡ suc (n - (i + 1)) = omega arith in
    let d : m < 2 ^ (n - (i + 1)) * 2 = subst (λ (x : ℕ). m < x) (ap (λ (k : ℕ). 2 ^ k) e ∙ pow-suc 2 (n - (i + 1))) h in
    omega arith

-- ---- a sum kept apart by the bits of the factors

-- one bit of the factor m, the lowest

pub added-odd : (s t m : ℕ) → t < 256 → m % 2 ≡ 1 → s ⊕ t ≡ s ⊕ product t (m % 2)
added-odd s t m h e = ap (λ (x : ℕ). s ⊕ x) (sym (product_one t h) ∙ ap (product t) (sym e))

pub added_even : (s t m : ℕ) → m % 2 ≡ 0 → s ≡ s ⊕ product t (m % 2)
added_even s t m e = sym (ap (λ (x : ℕ). s ⊕ x) (ap (product t) e ∙ product_zero t) ∙ xor_zero_r s)

pub next_bit : (c b : ℕ) → c / 2 ^ b / 2 ≡ c / 2 ^ (b + 1)
next_bit c b = shr-shr c b 1

-- Horner's rule is linear

horner-same : (n : ℕ) (f g : ℕ → ℕ) → ((i : ℕ) → i < n → f i ≡ g i) → horner n f ≡ horner n g
unfolding horner
horner-same zero f g h = refl
horner-same (suc n) f g h = ap₂ (λ (x y : ℕ). product x 2 ⊕ y) (horner-same n f g (λ i l. h i (omega arith))) (h n (omega arith))

horner_xor : (n : ℕ) (f g : ℕ → ℕ) → horner n (λ i. f i ⊕ g i) ≡ horner n f ⊕ horner n g
unfolding horner
horner_xor zero f g = refl
horner_xor (suc n) f g =
    ap (λ (x : ℕ). x ⊕ (f n ⊕ g n)) (ap (λ (x : ℕ). product x 2) (horner_xor n f g) ∙ xor_product (horner n f) (horner n g) 2)
    ∙ xor_exchange (product (horner n f) 2) (product (horner n g) 2) (f n) (g n)

horner-times : (n v : ℕ) (f : ℕ → ℕ) → horner n (λ i. product v (f i)) ≡ product v (horner n f)
unfolding horner
horner-times zero v f = sym (product_zero v)
horner-times (suc n) v f =
    ap (λ (x : ℕ). x ⊕ product v (f n)) (ap (λ (x : ℕ). product x 2) (horner-times n v f) ∙ product_assoc v (horner n f) 2)
    ∙ sym (product_xor v (product (horner n f) 2) (f n))

pub horner-none : (f : ℕ → ℕ) → horner 0 f ≡ 0
unfolding horner
horner-none f = refl

pub horner-more : (n : ℕ) (f : ℕ → ℕ) → product (horner n f) 2 ⊕ f n ≡ horner (n + 1) f
unfolding horner
horner-more n f = rw (add-one n)

bits_test : T (all_below 256 (λ c. eqb (horner 8 (λ i. c / 2 ^ (7 - i) % 2)) c))
unfolding product horner
bits_test = tt

-- one term more at each bit of its factor
pub spread_sum : (old new : ℕ → ℕ) (v c : ℕ) → c < 256 → ((b : ℕ) → b < 8 → new b ≡ old b ⊕ product v (c / 2 ^ b % 2))
    → horner 8 (λ i. new (7 - i)) ≡ horner 8 (λ i. old (7 - i)) ⊕ product v c
spread_sum old new v c h e =
    horner-same 8 (λ i. new (7 - i)) (λ i. old (7 - i) ⊕ product v (c / 2 ^ (7 - i) % 2)) (λ i l. e (7 - i) (omega arith))
    ∙ horner_xor 8 (λ i. old (7 - i)) (λ i. product v (c / 2 ^ (7 - i) % 2))
    ∙ ap (λ (x : ℕ). horner 8 (λ i. old (7 - i)) ⊕ x)
    (horner-times 8 v (λ i. c / 2 ^ (7 - i) % 2)
    ∙ ap (product v)
    (eqb→eq (horner 8 (λ i. c / 2 ^ (7 - i) % 2)) c
    (each_below 256 (λ c. eqb (horner 8 (λ i. c / 2 ^ (7 - i) % 2)) c) bits_test c h)))

zero_rows : (n b l : ℕ) → get_or (get_or (replicate n (replicate {A = ℕ} 16 0)) b []) l 0 ≡ 0
zero_rows zero b l = refl
zero_rows (suc n) zero l = zeros_at 16 l
zero_rows (suc n) (suc b) l = zero_rows n b l

-- no terms
pub folded-none : (l : ℕ) → folded (replicate 8 (replicate {A = ℕ} 16 0)) l ≡ 0
folded-none l =
    horner-same 8 (λ i. get_or (get_or (replicate 8 (replicate {A = ℕ} 16 0)) (7 - i) []) l 0) (λ i. product 0 0)
    (λ i h. zero_rows 8 (7 - i) l ∙ sym (zero_product 0))
    ∙ horner-times 8 0 (λ i. 0)
    ∙ zero_product (horner 8 (λ i. 0))
