-- The laws of the field. The product is additive in each argument, so it is settled at bytes by the products of 1, 2, .., 128,
-- which antt computes.
use Rattle.std.proofs.Common.{◌≡◌, ℕ, zero, suc, ◌+◌, ◌-◌, ◌*◌, ◌/◌, ◌%◌, ◌^◌, ◌<◌, ◌≤◌, Bool, T, eqb, ltb, sym, refl, ap, ◌∙◌, subst, ap₂, add-zero, add-suc, mod-lt, zero-lt-suc, suc-mul, div-add-mod', zero-mul, arith, eqb→eq, ltb→lt}
use lib.Bits.{xor_mod, xor_lt}
use lib.Pow.{field, mod-mod-pow}
use Rattle.coding.specs.Field.{◌⊕◌, poly_product, poly_remainder, product, power, inverse}
use Rattle.coding.proofs.Cases.{all_below, each_below}
use Rattle.coding.proofs.TableLaws.{log, log_lt, log_rule}
pub use Rattle.coding.proofs.XorLaws.{xor_assoc}
use Rattle.coding.proofs.XorLaws.{Additive, additive_agree, additive_zero, spanned, bit_lt, bit_xor, shift_xor, bits_times, bit-times, xor_exchange}

-- the product before its reduction, and the reduction, are additive

poly_xor : (n a b c : ℕ) → poly_product n a (b ⊕ c) ≡ poly_product n a b ⊕ poly_product n a c
unfolding poly_product
poly_xor zero a b c = refl
poly_xor (suc n) a b c =
    ap₂ (λ (x y : ℕ). x ⊕ y) (poly_xor n a b c)
    (ap (λ (x : ℕ). a / 2 ^ n % 2 * x) (shift_xor b c n) ∙ bit-times (a / 2 ^ n % 2) (b * 2 ^ n) (c * 2 ^ n) (bit_lt (a / 2 ^ n)))
    ∙ xor_exchange (poly_product n a b) (poly_product n a c) (a / 2 ^ n % 2 * (b * 2 ^ n)) (a / 2 ^ n % 2 * (c * 2 ^ n))

xor_poly : (n a b c : ℕ) → poly_product n (a ⊕ b) c ≡ poly_product n a c ⊕ poly_product n b c
unfolding poly_product
xor_poly zero a b c = refl
xor_poly (suc n) a b c =
    ap₂ (λ (x y : ℕ). x ⊕ y) (xor_poly n a b c)
    (ap (λ (x : ℕ). x * (c * 2 ^ n)) (bit_xor a b n)
    ∙ bits_times (a / 2 ^ n % 2) (b / 2 ^ n % 2) (c * 2 ^ n) (bit_lt (a / 2 ^ n)) (bit_lt (b / 2 ^ n)))
    ∙ xor_exchange (poly_product n a c) (poly_product n b c) (a / 2 ^ n % 2 * (c * 2 ^ n)) (b / 2 ^ n % 2 * (c * 2 ^ n))

remainder_xor : (n p q : ℕ) → poly_remainder n (p ⊕ q) ≡ poly_remainder n p ⊕ poly_remainder n q
unfolding poly_remainder
remainder_xor zero p q = refl
remainder_xor (suc n) p q =
    ap (poly_remainder n)
    (ap (λ (x : ℕ). (p ⊕ q) ⊕ x)
    (ap (λ (x : ℕ). x * (0x11D * 2 ^ n)) (bit_xor p q (8 + n))
    ∙ bits_times (p / 2 ^ (8 + n) % 2) (q / 2 ^ (8 + n) % 2) (0x11D * 2 ^ n) (bit_lt (p / 2 ^ (8 + n))) (bit_lt (q / 2 ^ (8 + n))))
    ∙ xor_exchange p q (p / 2 ^ (8 + n) % 2 * (0x11D * 2 ^ n)) (q / 2 ^ (8 + n) % 2 * (0x11D * 2 ^ n)))
    ∙ remainder_xor n (p ⊕ p / 2 ^ (8 + n) % 2 * (0x11D * 2 ^ n)) (q ⊕ q / 2 ^ (8 + n) % 2 * (0x11D * 2 ^ n))

pub product_xor : (a b c : ℕ) → product a (b ⊕ c) ≡ product a b ⊕ product a c
unfolding product
product_xor a b c =
    ap (λ (x : ℕ). poly_remainder 7 (poly_product 8 a x)) (xor_mod b c 8)
    ∙ ap (poly_remainder 7) (poly_xor 8 a (b % 256) (c % 256))
    ∙ remainder_xor 7 (poly_product 8 a (b % 256)) (poly_product 8 a (c % 256))

pub xor_product : (a b c : ℕ) → product (a ⊕ b) c ≡ product a c ⊕ product b c
unfolding product
xor_product a b c =
    ap (poly_remainder 7) (xor_poly 8 a b (c % 256)) ∙ remainder_xor 7 (poly_product 8 a (c % 256)) (poly_product 8 b (c % 256))

pub product_zero : (a : ℕ) → product a 0 ≡ 0
product_zero a = additive_zero (product a) (product_xor a)

pub zero_product : (a : ℕ) → product 0 a ≡ 0
zero_product a = additive_zero (λ x. product x a) (λ x y. xor_product x y a)

-- the lowest 8 bits count

poly_low : (m n a b : ℕ) → n ≤ m → poly_product n (a % 2 ^ m) b ≡ poly_product n a b
unfolding poly_product
poly_low m zero a b h = refl
poly_low m (suc n) a b h =
    let e : m ≡ m - suc n + 1 + n = omega arith in
    ap₂ (λ (x y : ℕ). x ⊕ y * (b * 2 ^ n)) (poly_low m n a b (omega arith))
    (ap (λ (k : ℕ). a % 2 ^ k / 2 ^ n % 2) e
    ∙ ap (λ (x : ℕ). x % 2) (field a (m - suc n + 1) n)
    ∙ mod-mod-pow (a / 2 ^ n) (m - suc n) 1)

low_product : (a b : ℕ) → product (a % 256) b ≡ product a b
unfolding product
low_product a b = ap (poly_remainder 7) (poly_low 8 8 a (b % 256) (omega arith))

product_low : (a b : ℕ) → product a (b % 256) ≡ product a b
unfolding product
product_low a b = ap (λ (x : ℕ). poly_remainder 7 (poly_product 8 a x)) (omega arith)

low_low : (a b : ℕ) → product (a % 256) (b % 256) ≡ product a b
low_low a b = low_product a (b % 256) ∙ product_low a b

byte_lt : (a : ℕ) → a % 256 < 256
byte_lt a = mod-lt a (zero-lt-suc 255)

-- the cases of 1, 2, .., 128, computed

byte_cases : T (all_below 8 (λ i. all_below 8 (λ j. ltb (product (2 ^ i) (2 ^ j)) 256)))
unfolding product
byte_cases = tt

one_cases : T (all_below 8 (λ i. eqb (product (2 ^ i) 1) (2 ^ i)))
unfolding product
one_cases = tt

comm_cases : T (all_below 8 (λ i. all_below 8 (λ j. eqb (product (2 ^ i) (2 ^ j)) (product (2 ^ j) (2 ^ i)))))
unfolding product
comm_cases = tt

assoc_cases : T
    (all_below 8
    (λ k. all_below 8
    (λ i. all_below 8 (λ j. eqb (product (product (2 ^ i) (2 ^ j)) (2 ^ k)) (product (2 ^ i) (product (2 ^ j) (2 ^ k)))))))
unfolding product
assoc_cases = tt

each_pair : (f : ℕ → ℕ → Bool) → T (all_below 8 (λ i. all_below 8 (f i))) → (i j : ℕ) → i < 8 → j < 8 → T (f i j)
each_pair f t i j hi hj = each_below 8 (f i) (each_below 8 (λ i. all_below 8 (f i)) t i hi) j hj

-- additive in both arguments
abbrev Bilinear : (ℕ → ℕ → ℕ) → Type 0
Bilinear f = ((a : ℕ) → Additive (f a)) × ((b : ℕ) → Additive (λ a. f a b))

bilinear_agree : (f g : ℕ → ℕ → ℕ) → Bilinear f → Bilinear g
    → T (all_below 8 (λ i. all_below 8 (λ j. eqb (f (2 ^ i) (2 ^ j)) (g (2 ^ i) (2 ^ j)))))
    → (a b : ℕ) → a < 256 → b < 256 → f a b ≡ g a b
bilinear_agree f g hf hg t a b ha hb =
    additive_agree (λ a. f a b) (λ a. g a b) (hf.1 b) (hg.1 b)
    (λ i hi. additive_agree (f (2 ^ i)) (g (2 ^ i)) (hf.0 (2 ^ i)) (hg.0 (2 ^ i))
    (λ j hj. eqb→eq (f (2 ^ i) (2 ^ j)) (g (2 ^ i) (2 ^ j))
    (each_pair (λ i j. eqb (f (2 ^ i) (2 ^ j)) (g (2 ^ i) (2 ^ j))) t i j hi hj))
    b
    hb)
    a
    ha

pub product_byte : (a b : ℕ) → product a b < 256
product_byte a b =
    subst (λ (x : ℕ). x < 256) (low_low a b)
    (spanned (λ x. product x (b % 256) < 256) (rw zero_product (omega arith))
    (λ x y p q. rw xor_product (xor_lt 8 (product x (b % 256)) (product y (b % 256)) p q)) 8
    (λ i hi. spanned (λ y. product (2 ^ i) y < 256) (rw product_zero (omega arith))
    (λ x y p q. rw product_xor (xor_lt 8 (product (2 ^ i) x) (product (2 ^ i) y) p q)) 8
    (λ j hj. ltb→lt (product (2 ^ i) (2 ^ j)) 256
    (each_pair (λ i j. ltb (product (2 ^ i) (2 ^ j)) 256) byte_cases i j hi hj))
    (b % 256)
    (byte_lt b))
    (a % 256)
    (byte_lt a))

pub product_comm : (a b : ℕ) → product a b ≡ product b a
product_comm a b =
    sym (low_low a b)
    ∙ bilinear_agree product (λ x y. product y x) (product_xor, λ b x y. xor_product x y b) (λ a x y. xor_product x y a, product_xor)
    comm_cases
    (a % 256)
    (b % 256)
    (byte_lt a)
    (byte_lt b)
    ∙ low_low b a

assoc_at : (c : ℕ) → T
    (all_below 8 (λ i. all_below 8 (λ j. eqb (product (product (2 ^ i) (2 ^ j)) c) (product (2 ^ i) (product (2 ^ j) c)))))
    → (a b : ℕ) → a < 256 → b < 256 → product (product a b) c ≡ product a (product b c)
assoc_at c =
    bilinear_agree (λ a b. product (product a b) c) (λ a b. product a (product b c))
    (λ a x y. rw (product_xor, xor_product), λ b x y. simp xor_product)
    (λ a x y. simp (xor_product, product_xor), λ b x y. xor_product x y (product b c))

pub product_assoc : (a b c : ℕ) → product (product a b) c ≡ product a (product b c)
product_assoc a b c =
    sym (product_low (product a b) c)
    ∙ ap (λ (x : ℕ). product x (c % 256)) (sym (low_low a b))
    ∙ additive_agree (product (product (a % 256) (b % 256))) (λ c. product (a % 256) (product (b % 256) c))
    (product_xor (product (a % 256) (b % 256)))
    (λ x y. simp product_xor)
    (λ k h. assoc_at (2 ^ k)
    (each_below 8
    (λ k. all_below 8
    (λ i. all_below 8 (λ j. eqb (product (product (2 ^ i) (2 ^ j)) (2 ^ k)) (product (2 ^ i) (product (2 ^ j) (2 ^ k))))))
    assoc_cases
    k
    h)
    (a % 256)
    (b % 256)
    (byte_lt a)
    (byte_lt b))
    (c % 256)
    (byte_lt c)
    ∙ ap (product (a % 256)) (low_low b c)
    ∙ low_product a (product b c)

pub product_one : (a : ℕ) → a < 256 → product a 1 ≡ a
product_one =
    additive_agree (λ a. product a 1) (λ a. a) (λ x y. xor_product x y 1) (λ x y. refl)
    (λ i h. eqb→eq (product (2 ^ i) 1) (2 ^ i) (each_below 8 (λ i. eqb (product (2 ^ i) 1) (2 ^ i)) one_cases i h))

pub one_product : (a : ℕ) → a < 256 → product 1 a ≡ a
one_product a h = product_comm 1 a ∙ product_one a h

-- powers

pub power_zero : (a : ℕ) → power a 0 ≡ 1
unfolding power
power_zero a = refl

pub power_byte : (a r : ℕ) → power a r < 256
unfolding power
power_byte a zero = omega arith
power_byte a (suc r) = product_byte (power a r) a

pub power_add : (a i j : ℕ) → power a (i + j) ≡ product (power a i) (power a j)
unfolding power
power_add a i zero = ap (power a) (add-zero i) ∙ sym (product_one (power a i) (power_byte a i))
power_add a i (suc j) =
    ap (power a) (add-suc i j) ∙ ap (λ (x : ℕ). product x a) (power_add a i j) ∙ product_assoc (power a i) (power a j) a

pub power-product : (a b r : ℕ) → power (product a b) r ≡ product (power a r) (power b r)
unfolding power
power-product a b zero = sym (product_one 1 (omega arith))
power-product a b (suc r) =
    ap (λ (x : ℕ). product x (product a b)) (power-product a b r)
    ∙ product_assoc (power a r) (power b r) (product a b)
    ∙ ap (product (power a r))
    (sym (product_assoc (power b r) a b) ∙ ap (λ (x : ℕ). product x b) (product_comm (power b r) a) ∙ product_assoc a (power b r) b)
    ∙ sym (product_assoc (power a r) a (product (power b r) b))

pub power_one : (r : ℕ) → power 1 r ≡ 1
unfolding power
power_one zero = refl
power_one (suc r) = ap (λ (x : ℕ). product x 1) (power_one r) ∙ product_one 1 (omega arith)

-- where the power n of 2 is 1, so is that of every power of 2
order-all : (n : ℕ) → power 2 n ≡ 1 → (i : ℕ) → power (power 2 i) n ≡ 1
unfolding power
order-all n e zero = power_one n
order-all n e (suc i) =
    power-product (power 2 i) 2 n ∙ ap₂ product (order-all n e i) e ∙ product_one 1 (omega arith)

two-order : power 2 255 ≡ 1
unfolding power product
two-order = refl

-- the inverse of every element but 0
pub product-inverse : (a : ℕ) → a < 256 → (a ≡ 0 → ⊥) → product a (inverse a) ≡ 1
unfolding inverse power
product-inverse a h z =
    product_comm a (power a 254) ∙ ap (λ (x : ℕ). power x 255) (sym (log_rule a h z)) ∙ order-all 255 two-order (log a)

pub inverse_cancels : (a x : ℕ) → a < 256 → x < 256 → (a ≡ 0 → ⊥) → product (inverse a) (product a x) ≡ x
inverse_cancels a x ha hx z =
    sym (product_assoc (inverse a) a x)
    ∙ ap (λ (y : ℕ). product y x) (product_comm (inverse a) a ∙ product-inverse a ha z)
    ∙ one_product x hx

pub product_nonzero : (a b : ℕ) → a < 256 → b < 256 → (a ≡ 0 → ⊥) → (b ≡ 0 → ⊥) → product a b ≡ 0 → ⊥
product_nonzero a b ha hb za zb e =
    zb (sym (inverse_cancels a b ha hb za) ∙ ap (product (inverse a)) e ∙ product_zero (inverse a))

pub inverse_byte : (a : ℕ) → inverse a < 256
unfolding inverse
inverse_byte a = power_byte a 254

pub inverse_unique : (a x : ℕ) → a < 256 → x < 256 → (a ≡ 0 → ⊥) → product a x ≡ 1 → x ≡ inverse a
inverse_unique a x ha hx z e =
    sym (inverse_cancels a x ha hx z) ∙ ap (product (inverse a)) e ∙ product_one (inverse a) (inverse_byte a)

-- by the tables: an exponent counts modulo 255, a product adds logarithms, an inverse takes one from 255

power_cycles : (n q : ℕ) → power 2 n ≡ 1 → power 2 (q * n) ≡ 1
power_cycles n zero e = ap (power 2) (zero-mul n) ∙ power_zero 2
power_cycles n (suc q) e =
    ap (power 2) (suc-mul q n)
    ∙ power_add 2 (q * n) n
    ∙ ap₂ product (power_cycles n q e) e
    ∙ product_one 1 (omega arith)

pub power_mod : (i : ℕ) → power 2 (i % 255) ≡ power 2 i
power_mod i =
    sym
    (ap (power 2) (sym (div-add-mod' i 255))
    ∙ power_add 2 (i / 255 * 255) (i % 255)
    ∙ ap (λ (x : ℕ). product x (power 2 (i % 255))) (power_cycles 255 (i / 255) two-order)
    ∙ one_product (power 2 (i % 255)) (power_byte 2 (i % 255)))

pub product_logs : (a b : ℕ) → a < 256 → b < 256 → (a ≡ 0 → ⊥) → (b ≡ 0 → ⊥) → power 2 (log a + log b) ≡ product a b
product_logs a b ha hb za zb =
    power_add 2 (log a) (log b) ∙ ap₂ product (log_rule a ha za) (log_rule b hb zb)

pub inverse_log : (a : ℕ) → a < 256 → (a ≡ 0 → ⊥) → power 2 (255 - log a) ≡ inverse a
inverse_log a h z =
    let l : log a < 255 = log_lt a h in
    let full : log a + (255 - log a) ≡ 255 = omega arith in
    inverse_unique a (power 2 (255 - log a)) h (power_byte 2 (255 - log a)) z
    (ap (λ (x : ℕ). product x (power 2 (255 - log a))) (sym (log_rule a h z))
    ∙ sym (power_add 2 (log a) (255 - log a))
    ∙ ap (power 2) full
    ∙ two-order)
