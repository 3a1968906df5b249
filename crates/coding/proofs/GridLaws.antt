-- The inversion of the grid of powers. Every row is an equation between a polynomial's coefficients, weighed by the left half, and its values
-- at the points, weighed by the right half; each step keeps the equations, and the last grid's left half is the identity.
use Rattle.std.proofs.Common.{◌≡◌, ℕ, suc, ◌+◌, ◌<◌, ◌≤◌, List, [], length, get_or, take, sym, refl, ap, ◌∙◌, ap₂, not-suc-le-zero, arith, length-take-le, get_or-take, eq-eqb, ne_eqb}
use mathlib.Core.Path.{subst⁻¹}
use native.Mathlib.Decide.{ℕ_discrete, dec_lt}
use lib.ListN.{get_or-eq_default}
use lib.Bits.{xor_zero_r, xor_self}
use Rattle.coding.specs.Field.{◌⊕◌, product, power, inverse, sum}
use Rattle.coding.specs.Polynomial.{value, roots_at, interpolate}
use Rattle.coding.specs.Grid.{Distinct, entry, bit, identity, Halves, Powers, Scaled, Added, Reduced, Inverts}
use Rattle.coding.proofs.FieldLaws.{product_byte, product_comm, product_assoc, xor_product, product_zero, zero_product}
use Rattle.coding.proofs.FieldLaws.{product_one, one_product, product-inverse, power_byte}
use Rattle.coding.specs.Bytes.{Bytes}
use Rattle.coding.proofs.PolynomialLaws.{xor_byte, sum_same, sum_xor, sum-times, sum_zero, sum_one, value_byte}
use Rattle.coding.proofs.PolynomialLaws.{value_powers_to, length-roots_at, bytes-roots_at, bytes_take, roots_at_zero, roots_at_nonzero}
use Rattle.coding.proofs.PolynomialLaws.{interpolate-length, interpolate-bytes, interpolate-value}

cases : (P : ℕ → Type 0) (r c : ℕ) → P c → ((r ≡ c → ⊥) → P r) → P r
cases P r c y n = go (ℕ_discrete r c)
  where
    go : Dec (r ≡ c) → P r
    go (yes e) = subst⁻¹ P e y
    go (no q) = n q

around : (P : ℕ → Type 0) (i c : ℕ) → (i < c → P i) → P c → (c < i → P i) → P i
around P i c low here high = cases P i c here (λ d. go d (dec_lt i c))
  where
    go : (i ≡ c → ⊥) → Dec (i < c) → P i
    go d (yes h) = low h
    go d (no h) = high (omega arith)

identity-same : (r : ℕ) → identity r r ≡ 1
identity-same r = ap bit (eq-eqb r r refl)

identity-other : (r t : ℕ) → (r ≡ t → ⊥) → identity r t ≡ 0
identity-other r t d = ap bit (ne_eqb r t d)

-- ---- a row as an equation

abbrev weighed : ℕ → (ℕ → ℕ) → (ℕ → ℕ) → ℕ
weighed k e y = sum k (λ t. product (e t) (y t))

weighed_same : (k : ℕ) (e d y : ℕ → ℕ) → ((t : ℕ) → t < k → e t ≡ d t) → weighed k e y ≡ weighed k d y
weighed_same k e d y h = sum_same k (λ t. product (e t) (y t)) (λ t. product (d t) (y t)) (λ t l. ap (λ (v : ℕ). product v (y t)) (h t l))

weighed_times : (k f : ℕ) (e y : ℕ → ℕ) → weighed k (λ t. product f (e t)) y ≡ product f (weighed k e y)
weighed_times k f e y =
    sum_same k (λ t. product (product f (e t)) (y t)) (λ t. product f (product (e t) (y t))) (λ t l. product_assoc f (e t) (y t))
    ∙ sum-times k f (λ t. product (e t) (y t))

weighed_added : (k f : ℕ) (e d y : ℕ → ℕ) → weighed k (λ t. e t ⊕ product f (d t)) y ≡ weighed k e y ⊕ product f (weighed k d y)
weighed_added k f e d y =
    sum_same k (λ t. product (e t ⊕ product f (d t)) (y t)) (λ t. product (e t) (y t) ⊕ product (product f (d t)) (y t))
    (λ t l. xor_product (e t) (product f (d t)) (y t))
    ∙ sum_xor k (λ t. product (e t) (y t)) (λ t. product (product f (d t)) (y t))
    ∙ ap (λ (v : ℕ). weighed k e y ⊕ v) (weighed_times k f d y)

-- the one weight of a row of the identity
weighed_identity : (k r : ℕ) (y : ℕ → ℕ) → r < k → y r < 256 → weighed k (identity r) y ≡ y r
weighed_identity k r y l b =
    sum_one k r (λ t. product (identity r t) (y t)) l
    (λ t h d. ap (λ (v : ℕ). product v (y t)) (identity-other r t (λ e. d (sym e))) ∙ zero_product (y t))
    ∙ ap (λ (v : ℕ). product v (y r)) (identity-same r)
    ∙ one_product (y r) b

-- the first k nodes are points to interpolate at
pub record Nodes (k : ℕ) (nodes : List ℕ) : Type 0 where
  pub room : k ≤ length nodes
  pub bytes : Bytes nodes
  pub distinct : Distinct (take k nodes)

-- the polynomial whose roots are the nodes before node c
abbrev before : List ℕ → ℕ → List ℕ
before nodes c = roots_at (take c nodes)

module _ (k : ℕ) (nodes : List ℕ) where
  abbrev Holds : List ℕ → List ℕ → Type 0
  Holds p row =
      weighed k (λ t. get_or row t 0) (λ t. get_or p t 0) ≡ weighed k (λ s. get_or row (16 + s) 0) (λ s. value p (get_or nodes s 0))

  -- an equation between the halves of a row, from its entries
  holds_halves : (p row : List ℕ) (left right : ℕ → ℕ) → Halves k row left right
      → weighed k left (λ t. get_or p t 0) ≡ weighed k right (λ s. value p (get_or nodes s 0)) → Holds p row
  holds_halves p row left right h e =
      weighed_same k (λ t. get_or row t 0) left (λ t. get_or p t 0) (λ t l. (h t l).0)
      ∙ e
      ∙ sym (weighed_same k (λ s. get_or row (16 + s) 0) right (λ s. value p (get_or nodes s 0)) (λ t l. (h t l).1))

  holds_scaled : (p : List ℕ) (f : ℕ) (row out : List ℕ) → Scaled k f row out → Holds p row → Holds p out
  holds_scaled p f row out h e =
      holds_halves p out (λ t. product f (get_or row t 0)) (λ t. product f (get_or row (16 + t) 0)) h
      (weighed_times k f (λ t. get_or row t 0) (λ t. get_or p t 0)
      ∙ ap (product f) e
      ∙ sym (weighed_times k f (λ s. get_or row (16 + s) 0) (λ s. value p (get_or nodes s 0))))

  holds-added : (p : List ℕ) (f : ℕ) (row other out : List ℕ) → Added k f row other out → Holds p row → Holds p other → Holds p out
  holds-added p f row other out h e d =
      holds_halves p out (λ t. get_or row t 0 ⊕ product f (get_or other t 0)) (λ t. get_or row (16 + t) 0 ⊕ product f (get_or other (16 + t) 0)) h
      (weighed_added k f (λ t. get_or row t 0) (λ t. get_or other t 0) (λ t. get_or p t 0)
      ∙ ap₂ (λ (u v : ℕ). u ⊕ product f v) e d
      ∙ sym (weighed_added k f (λ s. get_or row (16 + s) 0) (λ s. get_or other (16 + s) 0) (λ s. value p (get_or nodes s 0))))

  -- the columns below c are reduced, and the right half is still the identity's from row and column c on
  pub record Upto (c : ℕ) (m : List (List ℕ)) : Type 0 where
    pub bytes : (r t : ℕ) → r < k → t < k → entry m r t < 256
    pub holds : (p : List ℕ) → length p ≤ k → Bytes p → (r : ℕ) → r < k → Holds p (get_or m r [])
    pub left : (r t : ℕ) → r < k → t < c → entry m r t ≡ identity r t
    pub right : (r t : ℕ) → c ≤ r → r < k → c ≤ t → t < k → entry m r (16 + t) ≡ identity r t

  pub start : (m : List (List ℕ)) → ((s : ℕ) → s < k → Powers k (get_or nodes s 0) s (get_or m s [])) → Upto 0 m
  start m h =
      record {
        bytes = λ r t u v. rw (h r u t v).0 (power_byte (get_or nodes r 0) t);
        holds =
            λ p l b r u.
            holds_halves p (get_or m r []) (power (get_or nodes r 0)) (identity r) (h r u)
            (sum_same k (λ t. product (power (get_or nodes r 0) t) (get_or p t 0)) (λ t. product (get_or p t 0) (power (get_or nodes r 0) t))
            (λ t v. product_comm (power (get_or nodes r 0) t) (get_or p t 0))
            ∙ sym (value_powers_to k p (get_or nodes r 0) l b)
            ∙ sym (weighed_identity k r (λ s. value p (get_or nodes s 0)) u (value_byte p (get_or nodes r 0) b)));
        left = λ r t u v. absurd (not-suc-le-zero v);
        right = λ r t _ u _ v. (h r u t v).1;
      }

  module _ (ok : Nodes k nodes) where
    module _ (c : ℕ) (m : List (List ℕ)) (l : c < k) (u : Upto c m) where
      left_low : (t : ℕ) → t < c → product (entry m c t) (get_or (before nodes c) t 0) ≡ 0
      left_low t v =
          ap (λ (x : ℕ). product x (get_or (before nodes c) t 0)) (u.left c t l v ∙ identity-other c t (λ q. omega arith))
          ∙ zero_product (get_or (before nodes c) t 0)

      left_high : (t : ℕ) → c < t → product (entry m c t) (get_or (before nodes c) t 0) ≡ 0
      left_high t v =
          let n : length (take c nodes) ≡ c = length-take-le c nodes (omega arith) in
          ap (product (entry m c t)) (get_or-eq_default (before nodes c) 0 {n = t} (omega (arith, length-roots_at (take c nodes))))
          ∙ product_zero (entry m c t)

      right_low : (s : ℕ) → s < c → product (entry m c (16 + s)) (value (before nodes c) (get_or nodes s 0)) ≡ 0
      right_low s v =
          let n : length (take c nodes) ≡ c = length-take-le c nodes (omega arith) in
          ap (product (entry m c (16 + s))) (rw (get_or-take c nodes s 0 v) at (roots_at_zero (take c nodes) s (omega arith)))
          ∙ product_zero (entry m c (16 + s))

      right-high : (s : ℕ) → s < k → c < s → product (entry m c (16 + s)) (value (before nodes c) (get_or nodes s 0)) ≡ 0
      right-high s h v =
          ap (λ (x : ℕ). product x (value (before nodes c) (get_or nodes s 0)))
          (u.right c s (omega arith) l (omega arith) h ∙ identity-other c s (λ q. omega arith))
          ∙ zero_product (value (before nodes c) (get_or nodes s 0))

      right-value : weighed k (λ s. entry m c (16 + s)) (λ s. value (before nodes c) (get_or nodes s 0)) ≡ value (before nodes c) (get_or nodes c 0)
      right-value =
          let x = get_or nodes c 0 in
          sum_one k c (λ s. product (entry m c (16 + s)) (value (before nodes c) (get_or nodes s 0))) l
          (λ s h.
          around (λ i. (i ≡ c → ⊥) → product (entry m c (16 + i)) (value (before nodes c) (get_or nodes i 0)) ≡ 0) s c
          (λ v d. right_low s v) (λ d. absurd (d refl)) (λ v d. right-high s h v))
          ∙ ap (λ (v : ℕ). product v (value (before nodes c) x)) (u.right c c (omega arith) l (omega arith) l ∙ identity-same c)
          ∙ one_product (value (before nodes c) x) (value_byte (before nodes c) x (bytes-roots_at (take c nodes)))

      point_new : (i : ℕ) → i < length (take c nodes) → get_or nodes c 0 ≡ get_or (take c nodes) i 0 → ⊥
      point_new i h q =
          let n : length (take c nodes) ≡ c = length-take-le c nodes (omega arith) in
          let n' : length (take k nodes) ≡ k = length-take-le k nodes ok.room in
          ok.distinct i c (omega arith) (omega arith)
          (get_or-take k nodes i 0 (omega arith) ∙ sym (get_or-take c nodes i 0 (omega arith)) ∙ sym q ∙ sym (get_or-take k nodes c 0 l))

      -- were it 0, the polynomial whose roots are the points before point c would have a further root there
      pub pivot_nonzero : entry m c c ≡ 0 → ⊥
      pivot_nonzero e =
          let n : length (take c nodes) ≡ c = length-take-le c nodes (omega arith) in
          roots_at_nonzero (take c nodes) (get_or nodes c 0) (bytes_take c nodes ok.bytes) (ok.bytes c) point_new
          (sym right-value
          ∙ sym (u.holds (before nodes c) (omega (arith, length-roots_at (take c nodes))) (bytes-roots_at (take c nodes)) c l)
          ∙ sum_zero k (λ t. product (entry m c t) (get_or (before nodes c) t 0))
          (λ t h.
          around (λ i. product (entry m c i) (get_or (before nodes c) i 0) ≡ 0) t c (left_low t)
          (ap (λ (x : ℕ). product x (get_or (before nodes c) c 0)) e ∙ zero_product (get_or (before nodes c) c 0)) (left_high t)))

    module _ (c : ℕ) (m out : List (List ℕ)) (l : c < k) (u : Upto c m) (h : Reduced k c m out) where
      pivot_left : (t : ℕ) → t < suc c → entry out c t ≡ identity c t
      pivot_left t v =
          let a = entry m c c in
          cases (λ i. entry out c i ≡ identity c i) t c
          ((h.pivot c l).0
          ∙ product_comm (inverse a) a
          ∙ product-inverse a (u.bytes c c l l) (pivot_nonzero c m l u)
          ∙ sym (identity-same c))
          (λ d.
          let z : identity c t ≡ 0 = identity-other c t (λ q. d (sym q)) in
          (h.pivot t (omega arith)).0
          ∙ ap (product (inverse a)) (u.left c t l (omega arith) ∙ z)
          ∙ product_zero (inverse a)
          ∙ sym z)

      pivot-right : (t : ℕ) → c < t → t < k → entry out c (16 + t) ≡ 0
      pivot-right t d v =
          (h.pivot t v).1
          ∙ ap (product (inverse (entry m c c))) (u.right c t (omega arith) l (omega arith) v ∙ identity-other c t (λ e. omega arith))
          ∙ product_zero (inverse (entry m c c))

      row_left : (r t : ℕ) → r < k → t < suc c → (r ≡ c → ⊥) → entry out r t ≡ identity r t
      row_left r t v w n =
          let g = entry m r c in
          (h.rows r v n t (omega arith)).0
          ∙ ap (λ (x : ℕ). entry m r t ⊕ product g x) (pivot_left t w)
          ∙ cases (λ i. entry m r i ⊕ product g (identity c i) ≡ identity r i) t c
          (ap (λ (x : ℕ). g ⊕ x) (ap (product g) (identity-same c) ∙ product_one g (u.bytes r c v l))
          ∙ xor_self g
          ∙ sym (identity-other r c n))
          (λ d.
          ap₂ (λ (x y : ℕ). x ⊕ product g y) (u.left r t v (omega arith)) (identity-other c t (λ q. d (sym q)))
          ∙ ap (λ (x : ℕ). identity r t ⊕ x) (product_zero g)
          ∙ xor_zero_r (identity r t))

      pivot-holds : (p : List ℕ) → length p ≤ k → Bytes p → Holds p (get_or out c [])
      pivot-holds p n b = holds_scaled p (inverse (entry m c c)) (get_or m c []) (get_or out c []) h.pivot (u.holds p n b c l)

      pub reduced : Upto (suc c) out
      reduced =
          record {
            bytes =
                λ r t v w.
                cases (λ i. entry out i t < 256) r c (rw (h.pivot t w).0 (product_byte (inverse (entry m c c)) (entry m c t)))
                (λ n.
                rw (h.rows r v n t w).0
                (xor_byte (entry m r t) (product (entry m r c) (entry out c t)) (u.bytes r t v w) (product_byte (entry m r c) (entry out c t))));
            holds =
                λ p n b r v.
                cases (λ i. Holds p (get_or out i [])) r c (pivot-holds p n b)
                (λ d.
                holds-added p (entry m r c) (get_or m r []) (get_or out c []) (get_or out r []) (h.rows r v d) (u.holds p n b r v) (pivot-holds p n b));
            left = λ r t v w. cases (λ i. entry out i t ≡ identity i t) r c (pivot_left t w) (row_left r t v w);
            right =
                λ r t a v d w.
                (h.rows r v (λ e. omega arith) t w).1
                ∙ ap₂ (λ (x y : ℕ). x ⊕ product (entry m r c) y) (u.right r t (omega arith) v (omega arith) w) (pivot-right t d w)
                ∙ ap (λ (x : ℕ). identity r t ⊕ x) (product_zero (entry m r c))
                ∙ xor_zero_r (identity r t);
          }

    pub inverted : (m : List (List ℕ)) → Upto k m → Inverts k nodes m
    inverted m u f hf r l =
        let n : length (take k nodes) ≡ k = length-take-le k nodes ok.room in
        let p = interpolate (take k nodes) f in
        sym (weighed_identity k r (λ t. get_or p t 0) l (interpolate-bytes (take k nodes) f r))
        ∙ sym (weighed_same k (λ t. entry m r t) (identity r) (λ t. get_or p t 0) (λ t h. u.left r t l h))
        ∙ u.holds p (omega (arith, interpolate-length (take k nodes) f)) (interpolate-bytes (take k nodes) f) r l
        ∙ sum_same k (λ s. product (entry m r (16 + s)) (value p (get_or nodes s 0))) (λ s. product (entry m r (16 + s)) (f (get_or nodes s 0)))
        (λ s h.
        ap (product (entry m r (16 + s)))
        (rw (get_or-take k nodes s 0 h) at
        (interpolate-value (take k nodes) f (bytes_take k nodes ok.bytes) ok.distinct hf s (omega arith))))
