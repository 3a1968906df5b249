-- The laws of exclusive or that lib.Bits lacks, and the bytes as a space: what holds at 0, at 1, 2, .., 128, and at the sum of
-- any two numbers at which it holds, holds at every byte.
use Rattle.std.proofs.Common.{◌≡◌, ℕ, zero, suc, ◌+◌, ◌*◌, ◌/◌, ◌%◌, ◌^◌, ◌<◌, sym, refl, ap, ◌∙◌, subst, ap₂, add-zero, mod-lt, zero-lt-suc, one-mul, zero-mul, arith, pow_pos, shr_lt}
use lib.Arith.{bin_ind}
use lib.Bits.{xor_step, xor_shr, xor_mod, xor_comm, xor_self, xor_zero_r, xor_shifted, xor_block, differ}
use lib.Pow.{split}
use Rattle.coding.specs.Field.{◌⊕◌}

-- what holds at both bits holds at each
pub at_bit {ℓ} : (P : ℕ → Type ℓ) → P 0 → P 1 → (x : ℕ) → x < 2 → P x
at_bit P p q zero h = p
at_bit P p q (suc zero) h = q
at_bit P p q (suc (suc x)) h = absurd (omega arith)

pub bit_lt : (x : ℕ) → x % 2 < 2
bit_lt x = mod-lt x (zero-lt-suc 1)

bits_assoc : (x y z : ℕ) → x < 2 → y < 2 → z < 2 → differ (x ⊕ y) z ≡ differ x (y ⊕ z)
bits_assoc x y z hx hy hz =
    at_bit (λ x. differ (x ⊕ y) z ≡ differ x (y ⊕ z))
    (at_bit (λ y. differ y z ≡ y ⊕ z) refl (at_bit (λ z. differ 1 z ≡ 1 ⊕ z) refl refl z hz) y hy)
    (at_bit (λ y. differ (1 ⊕ y) z ≡ differ 1 (y ⊕ z)) refl (at_bit (λ z. z ≡ differ 1 (1 ⊕ z)) refl refl z hz) y hy)
    x
    hx

pub xor_assoc : (a b c : ℕ) → (a ⊕ b) ⊕ c ≡ a ⊕ (b ⊕ c)
xor_assoc a =
    bin_ind (λ (n : ℕ). (b c : ℕ) → (n ⊕ b) ⊕ c ≡ n ⊕ (b ⊕ c)) (λ b c. refl)
    (λ n ih b c. xor_step (n ⊕ b) c
    ∙ ap₂ (λ (p q : ℕ). p * 2 + q)
    (ap (λ (x : ℕ). x ⊕ c / 2) (xor_shr n b 1) ∙ ih (b / 2) (c / 2) ∙ ap (λ (x : ℕ). n / 2 ⊕ x) (sym (xor_shr b c 1)))
    (ap (λ (x : ℕ). differ x (c % 2)) (xor_mod n b 1)
    ∙ bits_assoc (n % 2) (b % 2) (c % 2) (bit_lt n) (bit_lt b) (bit_lt c)
    ∙ ap (λ (x : ℕ). differ (n % 2) x) (sym (xor_mod b c 1)))
    ∙ sym (xor_step n (b ⊕ c)))
    a

pub xor_exchange : (a b c d : ℕ) → (a ⊕ b) ⊕ (c ⊕ d) ≡ (a ⊕ c) ⊕ (b ⊕ d)
xor_exchange a b c d =
    xor_assoc a b (c ⊕ d)
    ∙ ap (λ (x : ℕ). a ⊕ x) (sym (xor_assoc b c d) ∙ ap (λ (x : ℕ). x ⊕ d) (xor_comm b c) ∙ xor_assoc c b d)
    ∙ sym (xor_assoc a c (b ⊕ d))

pub bit_xor : (a b n : ℕ) → (a ⊕ b) / 2 ^ n % 2 ≡ a / 2 ^ n % 2 ⊕ b / 2 ^ n % 2
bit_xor a b n = ap (λ (x : ℕ). x % 2) (xor_shr a b n) ∙ xor_mod (a / 2 ^ n) (b / 2 ^ n) 1

pub shift_xor : (a b n : ℕ) → (a ⊕ b) * 2 ^ n ≡ a * 2 ^ n ⊕ b * 2 ^ n
shift_xor a b n =
    sym
    (ap₂ (λ (x y : ℕ). x ⊕ y) (sym (add-zero (a * 2 ^ n))) (sym (add-zero (b * 2 ^ n)))
    ∙ xor_block n a b 0 0 (pow_pos n) (pow_pos n)
    ∙ add-zero ((a ⊕ b) * 2 ^ n))

-- a bit times a number, in each place
pub bits_times : (x y m : ℕ) → x < 2 → y < 2 → (x ⊕ y) * m ≡ x * m ⊕ y * m
bits_times x y m hx hy =
    at_bit (λ x. (x ⊕ y) * m ≡ x * m ⊕ y * m) (ap (λ (z : ℕ). z ⊕ y * m) (sym (zero-mul m)))
    (at_bit (λ y. (1 ⊕ y) * m ≡ 1 * m ⊕ y * m) (sym (ap (λ (z : ℕ). 1 * m ⊕ z) (zero-mul m) ∙ xor_zero_r (1 * m)))
    (zero-mul m ∙ sym (xor_self (1 * m)))
    y
    hy)
    x
    hx

pub bit-times : (d x y : ℕ) → d < 2 → d * (x ⊕ y) ≡ d * x ⊕ d * y
bit-times d x y =
    at_bit (λ d. d * (x ⊕ y) ≡ d * x ⊕ d * y)
    (zero-mul (x ⊕ y) ∙ sym (ap₂ (λ (p q : ℕ). p ⊕ q) (zero-mul x) (zero-mul y)))
    (one-mul (x ⊕ y) ∙ sym (ap₂ (λ (p q : ℕ). p ⊕ q) (one-mul x) (one-mul y)))
    d

-- the numbers below 2 ^ k are the sums of powers of 2
pub spanned : (P : ℕ → Type 0) → P 0 → ((x y : ℕ) → P x → P y → P (x ⊕ y)) → (k : ℕ) → ((i : ℕ) → i < k → P (2 ^ i))
    → (a : ℕ) → a < 2 ^ k → P a
spanned P z plus zero base a h = subst P (omega arith) z
spanned P z plus (suc k) base a h =
    subst P (xor_shifted (a / 2 ^ k) k (a % 2 ^ k) (mod-lt a (pow_pos k)) ∙ split a k)
    (plus (a / 2 ^ k * 2 ^ k) (a % 2 ^ k)
    (at_bit (λ d. P (d * 2 ^ k)) (subst P (sym (zero-mul (2 ^ k))) z) (subst P (sym (one-mul (2 ^ k))) (base k (omega arith)))
    (a / 2 ^ k)
    (shr_lt 1 k (let e : suc k ≡ 1 + k = omega arith in subst (λ (m : ℕ). a < 2 ^ m) e h)))
    (spanned P z plus k (λ i l. base i (omega arith)) (a % 2 ^ k) (mod-lt a (pow_pos k))))

abbrev pub Additive : (ℕ → ℕ) → Type 0
Additive f = (x y : ℕ) → f (x ⊕ y) ≡ f x ⊕ f y

pub additive_zero : (f : ℕ → ℕ) → Additive f → f 0 ≡ 0
additive_zero f h = h 0 0 ∙ xor_self (f 0)

-- additive functions that agree at 1, 2, .., 128 agree at every byte
pub additive_agree : (f g : ℕ → ℕ) → Additive f → Additive g → ((i : ℕ) → i < 8 → f (2 ^ i) ≡ g (2 ^ i)) → (a : ℕ) → a < 256 → f a ≡ g a
additive_agree f g hf hg =
    spanned (λ a. f a ≡ g a) (additive_zero f hf ∙ sym (additive_zero g hg))
    (λ x y p q. hf x y ∙ ap₂ (λ (m n : ℕ). m ⊕ n) p q ∙ sym (hg x y)) 8
