-- The laws of sums and polynomials over the field: evaluation, interpolation, and that k distinct points fix k coefficients.
use Rattle.std.proofs.Common.{◌≡◌, ℕ, zero, suc, ◌<◌, ◌≤◌, max, List, [], ◌∷◌, length, get_or, take, sym, refl, ap, ◌∙◌, ap₂, not-suc-le-zero, arith, length-take, get_or-take, ext_get_or}
use native.Mathlib.Decide.{ℕ_discrete}
use lib.Bits.{xor_zero_r, xor_comm, xor_self, xor_lt}
use Rattle.coding.specs.Field.{◌⊕◌, product, power, inverse, sum}
use Rattle.coding.specs.Bytes.{Bytes}
use Rattle.coding.specs.Polynomial.{value, plus, times, roots_at, interpolate}
use Rattle.coding.specs.Grid.{Distinct}
use Rattle.coding.proofs.BytesLaws.{all_cons, bytes_cons}
use Rattle.coding.proofs.XorLaws.{xor_exchange}
use Rattle.coding.proofs.FieldLaws.{xor_assoc, product_byte, product_comm, product_assoc, product_xor, xor_product}
use Rattle.coding.proofs.FieldLaws.{product_zero, zero_product, product_one, product-inverse, product_nonzero}

-- ---- the sum of bytes

pub xor_byte : (a b : ℕ) → a < 256 → b < 256 → a ⊕ b < 256
xor_byte = xor_lt 8

pub xor_cancel : (a b : ℕ) → a ⊕ (b ⊕ a) ≡ b
xor_cancel a b = ap (λ (x : ℕ). a ⊕ x) (xor_comm b a) ∙ sym (xor_assoc a a b) ∙ ap (λ (x : ℕ). x ⊕ b) (xor_self a)

pub xor_zero_eq : (a b : ℕ) → a ⊕ b ≡ 0 → b ≡ a
xor_zero_eq a b e = sym (xor_cancel a b) ∙ ap (λ (x : ℕ). a ⊕ x) (xor_comm b a ∙ e) ∙ xor_zero_r a

-- ---- sums of many terms

pub sum_same : (n : ℕ) (f g : ℕ → ℕ) → ((r : ℕ) → r < n → f r ≡ g r) → sum n f ≡ sum n g
unfolding sum
sum_same zero f g h = refl
sum_same (suc n) f g h = ap₂ (λ (x y : ℕ). x ⊕ y) (sum_same n f g (λ r l. h r (omega arith))) (h n (omega arith))

pub sum_xor : (n : ℕ) (f g : ℕ → ℕ) → sum n (λ r. f r ⊕ g r) ≡ sum n f ⊕ sum n g
unfolding sum
sum_xor zero f g = refl
sum_xor (suc n) f g = ap (λ (x : ℕ). x ⊕ (f n ⊕ g n)) (sum_xor n f g) ∙ xor_exchange (sum n f) (sum n g) (f n) (g n)

pub sum-times : (n c : ℕ) (f : ℕ → ℕ) → sum n (λ r. product c (f r)) ≡ product c (sum n f)
unfolding sum
sum-times zero c f = sym (product_zero c)
sum-times (suc n) c f = ap (λ (x : ℕ). x ⊕ product c (f n)) (sum-times n c f) ∙ sym (product_xor c (sum n f) (f n))

pub sum_byte : (n : ℕ) (f : ℕ → ℕ) → ((r : ℕ) → f r < 256) → sum n f < 256
unfolding sum
sum_byte zero f h = omega arith
sum_byte (suc n) f h = xor_byte (sum n f) (f n) (sum_byte n f h) (h n)

pub sum_zero : (n : ℕ) (f : ℕ → ℕ) → ((r : ℕ) → r < n → f r ≡ 0) → sum n f ≡ 0
unfolding sum
sum_zero zero f h = refl
sum_zero (suc n) f h = ap₂ (λ (x y : ℕ). x ⊕ y) (sum_zero n f (λ r l. h r (omega arith))) (h n (omega arith))

-- the one term of a sum that is not 0
pub sum_one : (n i : ℕ) (f : ℕ → ℕ) → i < n → ((r : ℕ) → r < n → (r ≡ i → ⊥) → f r ≡ 0) → sum n f ≡ f i
unfolding sum
sum_one zero i f l h = absurd (not-suc-le-zero l)
sum_one (suc n) i f l h = go (ℕ_discrete n i) (λ q. sum_one n i f (omega arith) (λ r k. h r (omega arith)))
  where
    go : Dec (n ≡ i) → ((n ≡ i → ⊥) → sum n f ≡ f i) → sum n f ⊕ f n ≡ f i
    go (yes e) ih = ap₂ (λ (x y : ℕ). x ⊕ y) (sum_zero n f (λ r k. h r (omega arith) (λ q. omega arith))) (ap f e)
    go (no q) ih = ap₂ (λ (x y : ℕ). x ⊕ y) (ih q) (h n (omega arith) q) ∙ xor_zero_r (f i)

pub sum_first : (n : ℕ) (f : ℕ → ℕ) → sum (suc n) f ≡ f 0 ⊕ sum n (λ r. f (suc r))
unfolding sum
sum_first zero f = sym (xor_zero_r (f 0))
sum_first (suc n) f = ap (λ (x : ℕ). x ⊕ f (suc n)) (sum_first n f) ∙ xor_assoc (f 0) (sum n (λ r. f (suc r))) (f (suc n))

-- ---- coefficients

pub get_or-plus : (p q : List ℕ) (i : ℕ) → get_or (plus p q) i 0 ≡ get_or p i 0 ⊕ get_or q i 0
unfolding plus
get_or-plus [] q i = refl
get_or-plus (a ∷ p) [] i = sym (xor_zero_r (get_or (a ∷ p) i 0))
get_or-plus (a ∷ p) (b ∷ q) zero = refl
get_or-plus (a ∷ p) (b ∷ q) (suc i) = get_or-plus p q i

pub get_or-times : (c : ℕ) (p : List ℕ) (i : ℕ) → get_or (times c p) i 0 ≡ product c (get_or p i 0)
unfolding times
get_or-times c [] i = sym (product_zero c)
get_or-times c (a ∷ p) zero = refl
get_or-times c (a ∷ p) (suc i) = get_or-times c p i

pub length-plus : (p q : List ℕ) → length (plus p q) ≡ max (length p) (length q)
unfolding plus
length-plus [] q = omega arith
length-plus (a ∷ p) [] = omega arith
length-plus (a ∷ p) (b ∷ q) = omega (arith, length-plus p q)

pub length-times : (c : ℕ) (p : List ℕ) → length (times c p) ≡ length p
unfolding times
length-times c [] = refl
length-times c (a ∷ p) = ap suc (length-times c p)

pub bytes-plus : (p q : List ℕ) → Bytes p → Bytes q → Bytes (plus p q)
bytes-plus p q hp hq i = rw (get_or-plus p q i) (xor_byte (get_or p i 0) (get_or q i 0) (hp i) (hq i))

pub bytes-times : (c : ℕ) (p : List ℕ) → Bytes (times c p)
bytes-times c p i = rw (get_or-times c p i) (product_byte c (get_or p i 0))

pub bytes_take : (n : ℕ) (p : List ℕ) → Bytes p → Bytes (take n p)
bytes_take zero p b i = omega arith
bytes_take (suc n) [] b i = omega arith
bytes_take (suc n) (a ∷ p) b i = bytes_cons a (take n p) (b 0) (bytes_take n p (λ j. b (suc j))) i

-- ---- values

pub value_byte : (p : List ℕ) (x : ℕ) → Bytes p → value p x < 256
unfolding value
value_byte [] x b = omega arith
value_byte (c ∷ cs) x b = xor_byte c (product (value cs x) x) (b 0) (product_byte (value cs x) x)

pub value-plus : (p q : List ℕ) (x : ℕ) → value (plus p q) x ≡ value p x ⊕ value q x
unfolding value plus
value-plus [] q x = refl
value-plus (a ∷ p) [] x = sym (xor_zero_r (value (a ∷ p) x))
value-plus (a ∷ p) (b ∷ q) x =
    ap (λ (v : ℕ). (a ⊕ b) ⊕ product v x) (value-plus p q x)
    ∙ ap (λ (v : ℕ). (a ⊕ b) ⊕ v) (xor_product (value p x) (value q x) x)
    ∙ xor_exchange a b (product (value p x) x) (product (value q x) x)

pub value-times : (c : ℕ) (p : List ℕ) (x : ℕ) → value (times c p) x ≡ product c (value p x)
unfolding value times
value-times c [] x = sym (product_zero c)
value-times c (a ∷ p) x =
    ap (λ (v : ℕ). product c a ⊕ product v x) (value-times c p x)
    ∙ ap (λ (v : ℕ). product c a ⊕ v) (product_assoc c (value p x) x)
    ∙ sym (product_xor c a (product (value p x) x))

-- Horner's rule against the powers of x, over any range that holds the coefficients
pub value_powers_to : (n : ℕ) (p : List ℕ) (x : ℕ) → length p ≤ n → Bytes p → value p x ≡ sum n (λ r. product (get_or p r 0) (power x r))
unfolding value power
value_powers_to n [] x l b = sym (sum_zero n (λ r. product 0 (power x r)) (λ r h. zero_product (power x r)))
value_powers_to zero (c ∷ cs) x l b = absurd (not-suc-le-zero l)
value_powers_to (suc n) (c ∷ cs) x l b =
    ap (λ (v : ℕ). c ⊕ v)
    (ap (λ (v : ℕ). product v x) (value_powers_to n cs x (omega arith) (λ i. b (suc i)))
    ∙ product_comm (sum n (λ r. product (get_or cs r 0) (power x r))) x
    ∙ sym (sum-times n x (λ r. product (get_or cs r 0) (power x r)))
    ∙ sum_same n (λ r. product x (product (get_or cs r 0) (power x r))) (λ r. product (get_or cs r 0) (power x (suc r)))
    (λ r h. product_comm x (product (get_or cs r 0) (power x r)) ∙ product_assoc (get_or cs r 0) (power x r) x))
    ∙ ap (λ (v : ℕ). v ⊕ sum n (λ r. product (get_or cs r 0) (power x (suc r)))) (sym (product_one c (b 0)))
    ∙ sym (sum_first n (λ r. product (get_or (c ∷ cs) r 0) (power x r)))

pub value_powers : (p : List ℕ) (x : ℕ) → Bytes p → value p x ≡ sum (length p) (λ r. product (get_or p r 0) (power x r))
value_powers p x = value_powers_to (length p) p x (omega arith)

-- ---- the polynomial with given roots

pub length-roots_at : (xs : List ℕ) → length (roots_at xs) ≡ suc (length xs)
unfolding roots_at
length-roots_at [] = refl
length-roots_at (x ∷ xs) =
    omega (arith, length-plus (0 ∷ roots_at xs) (times x (roots_at xs)), length-times x (roots_at xs), length-roots_at xs)

pub bytes-roots_at : (xs : List ℕ) → Bytes (roots_at xs)
unfolding roots_at
bytes-roots_at [] = bytes_cons 1 [] (omega arith) (λ i. omega arith)
bytes-roots_at (x ∷ xs) =
    bytes-plus (0 ∷ roots_at xs) (times x (roots_at xs)) (bytes_cons 0 (roots_at xs) (omega arith) (bytes-roots_at xs)) (bytes-times x (roots_at xs))

value_root : (y : ℕ) (ys : List ℕ) (x : ℕ) → value (roots_at (y ∷ ys)) x ≡ product (x ⊕ y) (value (roots_at ys) x)
unfolding roots_at value
value_root y ys x =
    value-plus (0 ∷ roots_at ys) (times y (roots_at ys)) x
    ∙ ap₂ (λ (u v : ℕ). u ⊕ v) (product_comm (value (roots_at ys) x) x) (value-times y (roots_at ys) x)
    ∙ sym (xor_product x y (value (roots_at ys) x))

pub roots_at_zero : (xs : List ℕ) (i : ℕ) → i < length xs → value (roots_at xs) (get_or xs i 0) ≡ 0
roots_at_zero [] i l = absurd (not-suc-le-zero l)
roots_at_zero (x ∷ xs) zero l =
    value_root x xs x ∙ ap (λ (v : ℕ). product v (value (roots_at xs) x)) (xor_self x) ∙ zero_product (value (roots_at xs) x)
roots_at_zero (x ∷ xs) (suc i) l =
    value_root x xs (get_or xs i 0)
    ∙ ap (λ (v : ℕ). product (get_or xs i 0 ⊕ x) v) (roots_at_zero xs i (omega arith))
    ∙ product_zero (get_or xs i 0 ⊕ x)

pub roots_at_nonzero : (xs : List ℕ) (x : ℕ) → Bytes xs → x < 256 → ((i : ℕ) → i < length xs → x ≡ get_or xs i 0 → ⊥)
    → value (roots_at xs) x ≡ 0 → ⊥
unfolding roots_at value
roots_at_nonzero [] x b h out e =
    let q : 1 ⊕ 0 ≡ 0 = ap (λ (v : ℕ). 1 ⊕ v) (sym (zero_product x)) ∙ e in
    omega arith
roots_at_nonzero (y ∷ ys) x b h out e =
    product_nonzero (x ⊕ y) (value (roots_at ys) x) (xor_byte x y h (b 0)) (value_byte (roots_at ys) x (bytes-roots_at ys))
    (λ q. out 0 (omega arith) (sym (xor_zero_eq x y q)))
    (roots_at_nonzero ys x (λ i. b (suc i)) h (λ i l. out (suc i) (omega arith)))
    (sym (value_root y ys x) ∙ e)

-- ---- interpolation

pub interpolate-length : (xs : List ℕ) (f : ℕ → ℕ) → length (interpolate xs f) ≡ length xs
unfolding interpolate
interpolate-length [] f = refl
interpolate-length (x ∷ xs) f =
    let c = product (f x ⊕ value (interpolate xs f) x) (inverse (value (roots_at xs) x)) in
    omega
    (arith, length-plus (interpolate xs f) (times c (roots_at xs)), length-times c (roots_at xs), length-roots_at xs, interpolate-length xs f)

pub interpolate-bytes : (xs : List ℕ) (f : ℕ → ℕ) → Bytes (interpolate xs f)
unfolding interpolate
interpolate-bytes [] f = λ i. omega arith
interpolate-bytes (x ∷ xs) f =
    bytes-plus (interpolate xs f) (times _ (roots_at xs)) (interpolate-bytes xs f) (bytes-times _ (roots_at xs))

-- the next coefficient of Newton's form makes up for what is missing at x
newton : (a v r : ℕ) → a < 256 → v < 256 → r < 256 → (r ≡ 0 → ⊥) → v ⊕ product (product (a ⊕ v) (inverse r)) r ≡ a
newton a v r ha hv hr z =
    ap (λ (x : ℕ). v ⊕ x)
    (product_assoc (a ⊕ v) (inverse r) r
    ∙ ap (λ (x : ℕ). product (a ⊕ v) x) (product_comm (inverse r) r ∙ product-inverse r hr z)
    ∙ product_one (a ⊕ v) (xor_byte a v ha hv))
    ∙ xor_cancel v a

pub interpolate-value : (xs : List ℕ) (f : ℕ → ℕ) → Bytes xs → Distinct xs → ((x : ℕ) → f x < 256)
    → (i : ℕ) → i < length xs → value (interpolate xs f) (get_or xs i 0) ≡ f (get_or xs i 0)
unfolding interpolate
interpolate-value [] f b d hf i l = absurd (not-suc-le-zero l)
interpolate-value (x ∷ xs) f b d hf zero l =
    value-plus (interpolate xs f) (times _ (roots_at xs)) x
    ∙ ap (λ (v : ℕ). value (interpolate xs f) x ⊕ v) (value-times _ (roots_at xs) x)
    ∙ newton (f x) (value (interpolate xs f) x) (value (roots_at xs) x) (hf x)
    (value_byte (interpolate xs f) x (interpolate-bytes xs f)) (value_byte (roots_at xs) x (bytes-roots_at xs))
    (roots_at_nonzero xs x (λ i. b (suc i)) (b 0) (λ i l. d 0 (suc i) (omega arith) (omega arith)))
interpolate-value (x ∷ xs) f b d hf (suc i) l =
    value-plus (interpolate xs f) (times _ (roots_at xs)) (get_or xs i 0)
    ∙ ap (λ (v : ℕ). value (interpolate xs f) (get_or xs i 0) ⊕ v)
    (value-times _ (roots_at xs) (get_or xs i 0) ∙ ap (product _) (roots_at_zero xs i (omega arith)) ∙ product_zero _)
    ∙ xor_zero_r (value (interpolate xs f) (get_or xs i 0))
    ∙ interpolate-value xs f (λ i. b (suc i)) (λ i j h k. d (suc i) (suc j) (omega arith) (omega arith)) hf i (omega arith)

-- ---- k distinct points fix k coefficients

ascending : (k : ℕ) (xs : List ℕ) → ((i : ℕ) → suc i < k → get_or xs i 0 < get_or xs (suc i) 0)
    → (i j : ℕ) → i < j → j < k → get_or xs i 0 < get_or xs j 0
ascending k xs h i zero l n = absurd (not-suc-le-zero l)
ascending k xs h i (suc j) l n = go (ℕ_discrete i j) (λ q. ascending k xs h i j (omega arith) (omega arith))
  where
    go : Dec (i ≡ j) → ((i ≡ j → ⊥) → get_or xs i 0 < get_or xs j 0) → get_or xs i 0 < get_or xs (suc j) 0
    go (yes e) ih = rw e (h j n)
    go (no q) ih = let u = ih q in omega (arith, h j n)

-- the first k of some points are distinct where they ascend
pub ascending_distinct : (k : ℕ) (xs : List ℕ) → ((i : ℕ) → suc i < k → get_or xs i 0 < get_or xs (suc i) 0) → Distinct (take k xs)
ascending_distinct k xs h i j l n e =
    let m : j < k = omega (arith, length-take k xs) in
    omega (arith, ascending k xs h i j l m, get_or-take k xs i 0 (omega arith), get_or-take k xs j 0 m)

-- synthetic division: of c ∷ cs by X + a the quotient is quot a cs, the remainder its value at a
quot : ℕ → List ℕ → List ℕ
quot a [] = []
quot a (c ∷ cs) = value (c ∷ cs) a ∷ quot a cs

length_quot : (a : ℕ) (p : List ℕ) → length (quot a p) ≡ length p
unfolding quot
length_quot a [] = refl
length_quot a (c ∷ cs) = ap suc (length_quot a cs)

bytes_quot : (a : ℕ) (p : List ℕ) → Bytes p → Bytes (quot a p)
unfolding quot
bytes_quot a [] b = b
bytes_quot a (c ∷ cs) b = bytes_cons (value (c ∷ cs) a) (quot a cs) (value_byte (c ∷ cs) a b) (bytes_quot a cs (λ i. b (suc i)))

divides : (c v q a x : ℕ) → c ⊕ product (v ⊕ product (x ⊕ a) q) x ≡ (c ⊕ product v a) ⊕ product (x ⊕ a) (v ⊕ product q x)
divides c v q a x =
    ap (λ (w : ℕ). c ⊕ w) (xor_product v (product (x ⊕ a) q) x)
    ∙ ap (λ (w : ℕ). c ⊕ (w ⊕ product (product (x ⊕ a) q) x)) (sym (xor_cancel (product v a) (product v x)))
    ∙ ap (λ (w : ℕ). c ⊕ w) (xor_assoc (product v a) (product v x ⊕ product v a) (product (product (x ⊕ a) q) x))
    ∙ sym (xor_assoc c (product v a) ((product v x ⊕ product v a) ⊕ product (product (x ⊕ a) q) x))
    ∙ ap (λ (w : ℕ). (c ⊕ product v a) ⊕ w)
    (ap₂ (λ (u w : ℕ). u ⊕ w) (sym (product_xor v x a) ∙ product_comm v (x ⊕ a)) (product_assoc (x ⊕ a) q x)
    ∙ sym (product_xor (x ⊕ a) v (product q x)))

value_quot : (a c : ℕ) (cs : List ℕ) (x : ℕ) → value (c ∷ cs) x ≡ value (c ∷ cs) a ⊕ product (x ⊕ a) (value (quot a cs) x)
unfolding quot value
value_quot a c [] x =
    ap (λ (v : ℕ). c ⊕ v) (zero_product x)
    ∙ sym (ap₂ (λ (u v : ℕ). (c ⊕ u) ⊕ v) (zero_product a) (product_zero (x ⊕ a)) ∙ xor_zero_r (c ⊕ 0))
value_quot a c (d ∷ ds) x =
    ap (λ (v : ℕ). c ⊕ product v x) (value_quot a d ds x) ∙ divides c (value (d ∷ ds) a) (value (quot a ds) x) a x

abbrev Zero : List ℕ → Type 0
Zero p = (i : ℕ) → get_or p i 0 ≡ 0

value_zero : (p : List ℕ) (x : ℕ) → Zero p → value p x ≡ 0
unfolding value
value_zero [] x z = refl
value_zero (c ∷ cs) x z =
    ap₂ (λ (u v : ℕ). u ⊕ product v x) (z 0) (value_zero cs x (λ i. z (suc i))) ∙ zero_product x

quot_zero : (a : ℕ) (p : List ℕ) → Zero (quot a p) → Zero p
unfolding quot value
quot_zero a [] z i = refl
quot_zero a (c ∷ cs) z zero =
    sym (xor_zero_r c)
    ∙ ap (λ (v : ℕ). c ⊕ v) (sym (ap (λ (v : ℕ). product v a) (value_zero cs a (quot_zero a cs (λ i. z (suc i)))) ∙ zero_product a))
    ∙ z 0
quot_zero a (c ∷ cs) z (suc i) = quot_zero a cs (λ i. z (suc i)) i

-- a factor other than 0 of a product that is 0
other_zero : (a b : ℕ) → a < 256 → b < 256 → (a ≡ 0 → ⊥) → product a b ≡ 0 → b ≡ 0
other_zero a b ha hb z e = go (ℕ_discrete b 0)
  where
    go : Dec (b ≡ 0) → b ≡ 0
    go (yes q) = q
    go (no q) = absurd (product_nonzero a b ha hb z q e)

-- a polynomial with as many roots as coefficients is 0
roots_zero : (xs p : List ℕ) → length p ≡ length xs → Bytes p → Bytes xs → Distinct xs
    → ((i : ℕ) → i < length xs → value p (get_or xs i 0) ≡ 0) → Zero p
unfolding quot
roots_zero [] [] l bp bx d h = λ i. refl
roots_zero [] (c ∷ cs) l bp bx d h = absurd (omega arith)
roots_zero (a ∷ xs) [] l bp bx d h = λ i. refl
roots_zero (a ∷ xs) (c ∷ cs) l bp bx d h =
    quot_zero a (c ∷ cs)
    (all_cons (λ v. v ≡ 0) (value (c ∷ cs) a) (quot a cs) (h 0 (omega arith))
    (roots_zero xs (quot a cs) (omega (arith, length_quot a cs)) (bytes_quot a cs (λ i. bp (suc i))) (λ i. bx (suc i))
    (λ i j u v. d (suc i) (suc j) (omega arith) (omega arith))
    (λ i u.
    let x = get_or xs i 0 in
    other_zero (x ⊕ a) (value (quot a cs) x) (xor_byte x a (bx (suc i)) (bx 0))
    (value_byte (quot a cs) x (bytes_quot a cs (λ j. bp (suc j))))
    (λ q. d 0 (suc i) (omega arith) (omega arith) (xor_zero_eq x a q))
    (ap (λ (v : ℕ). v ⊕ product (x ⊕ a) (value (quot a cs) x)) (sym (h 0 (omega arith)))
    ∙ sym (value_quot a c cs x)
    ∙ h (suc i) (omega arith)))))

-- two polynomials of k coefficients that agree at k distinct points are the same
pub points_fix : (xs p q : List ℕ) → length p ≡ length xs → length q ≡ length xs → Bytes p → Bytes q → Bytes xs → Distinct xs
    → ((i : ℕ) → i < length xs → value p (get_or xs i 0) ≡ value q (get_or xs i 0)) → p ≡ q
points_fix xs p q lp lq bp bq bx d h =
    ext_get_or 0 p q (lp ∙ sym lq)
    (λ i l.
    sym
    (xor_zero_eq (get_or p i 0) (get_or q i 0)
    (sym (get_or-plus p q i)
    ∙ roots_zero xs (plus p q) (omega (arith, length-plus p q)) (bytes-plus p q bp bq) bx d
    (λ j u.
    value-plus p q (get_or xs j 0)
    ∙ ap (λ (v : ℕ). v ⊕ value q (get_or xs j 0)) (h j u)
    ∙ xor_self (value q (get_or xs j 0)))
    i)))

-- there is one polynomial of k coefficients with given values at k distinct points
pub interpolate_unique : (xs p : List ℕ) (f : ℕ → ℕ) → length p ≡ length xs → Bytes p → Bytes xs → Distinct xs → ((x : ℕ) → f x < 256)
    → ((i : ℕ) → i < length xs → value p (get_or xs i 0) ≡ f (get_or xs i 0)) → interpolate xs f ≡ p
interpolate_unique xs p f l bp bx d hf h =
    points_fix xs (interpolate xs f) p (interpolate-length xs f) l (interpolate-bytes xs f) bp bx d
    (λ i u. interpolate-value xs f bx d hf i u ∙ sym (h i u))

pub interpolate_own : (xs p : List ℕ) → length p ≡ length xs → Bytes p → Bytes xs → Distinct xs → interpolate xs (value p) ≡ p
interpolate_own xs p l bp bx d = interpolate_unique xs p (value p) l bp bx d (λ x. value_byte p x bp) (λ i u. refl)
