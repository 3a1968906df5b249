-- The field of 256 elements: polynomials over the field of two, modulo x^8 + x^4 + x^3 + x^2 + 1 (hex 11D). A byte is a
-- polynomial of degree below 8, bit i the coefficient of x^i; addition is exclusive or.
use Rattle.std.specs.Prelude.{ℕ, zero, suc, ◌+◌, ◌*◌, ◌/◌, ◌%◌, ◌^◌, bit_xor}

infixl 65 ◌⊕◌
abbrev pub ◌⊕◌ : ℕ → ℕ → ℕ
a ⊕ b = bit_xor a b

-- the product of two polynomials: the sum of b times x^i over the lowest n bits i of a
unfoldable pub poly_product : ℕ → ℕ → ℕ → ℕ
poly_product zero a b = 0
poly_product (suc n) a b = poly_product n a b ⊕ a / 2 ^ n % 2 * (b * 2 ^ n)

-- the remainder by hex 11D of a polynomial of degree below 8 + n: its leading terms are cancelled, the highest first
unfoldable pub poly_remainder : ℕ → ℕ → ℕ
poly_remainder zero p = p
poly_remainder (suc n) p = poly_remainder n (p ⊕ p / 2 ^ (8 + n) % 2 * (0x11D * 2 ^ n))

-- the product of two elements; of a number that is no byte the lowest 8 bits count
unfoldable pub product : ℕ → ℕ → ℕ
unfolding poly_product poly_remainder
product a b = poly_remainder 7 (poly_product 8 a (b % 256))

unfoldable pub power : ℕ → ℕ → ℕ
power a zero = 1
power a (suc r) = product (power a r) a

-- the inverse of an element other than 0: the element's order divides 255
unfoldable pub inverse : ℕ → ℕ
unfolding power
inverse a = power a 254

-- the sum of f r over r below n
unfoldable pub sum : ℕ → (ℕ → ℕ) → ℕ
sum zero f = 0
sum (suc n) f = sum n f ⊕ f n
