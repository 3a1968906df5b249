-- Polynomials over the field: lists of coefficients, the lowest first.
use Rattle.std.specs.Prelude.{ℕ, List, [], ◌∷◌}
use Rattle.coding.specs.Field.{◌⊕◌, product, inverse}

-- the value of a polynomial at x
unfoldable pub value : List ℕ → ℕ → ℕ
value [] x = 0
value (c ∷ cs) x = c ⊕ product (value cs x) x

unfoldable pub plus : List ℕ → List ℕ → List ℕ
plus [] q = q
plus (a ∷ p) [] = a ∷ p
plus (a ∷ p) (b ∷ q) = (a ⊕ b) ∷ plus p q

unfoldable pub times : ℕ → List ℕ → List ℕ
times c [] = []
times c (a ∷ p) = product c a ∷ times c p

-- the product of X + x over the points x: its roots are the points
unfoldable pub roots_at : List ℕ → List ℕ
roots_at [] = 1 ∷ []
roots_at (x ∷ xs) = plus (0 ∷ roots_at xs) (times x (roots_at xs))

-- Newton's interpolation: where no point stands twice, the polynomial with as many coefficients as there are points that has the
-- value f x at each point x
unfoldable pub interpolate : List ℕ → (ℕ → ℕ) → List ℕ
interpolate [] f = []
interpolate (x ∷ xs) f =
    plus (interpolate xs f)
    (times (product (f x ⊕ value (interpolate xs f) x) (inverse (value (roots_at xs) x))) (roots_at xs))
