-- Laws of joining: the joined frame by position, and the page that the output gets.
use Rattle.std.proofs.Common.{◌≡◌, ℕ, zero, suc, ◌+◌, ◌-◌, ◌*◌, ◌/◌, ◌%◌, ◌<◌, ◌≤◌, ◌⊎◌, List, ◌++◌, length, get_or, take, drop, sym, ap, ◌∙◌, ap₂, inl, inr, not-suc-le-zero, mul-le-mul_right, mod-lt, suc-mul, div-lt_iff_lt-mul, add-mul, div-add-mod', add-one, arith, length-append, length-drop, length-take-le, get_or-drop, get_or-take, get_or-append-add, ext_get_or, take_all, le_refl}
use native.Mathlib.Decide.{dec_lt}
use lib.ListN.{get_or-append}
use Rattle.coding.specs.Field.{◌⊕◌, product, sum}
use Rattle.coding.specs.Polynomial.{interpolate}
use Rattle.coding.specs.Bytes.{Bytes}
use Rattle.coding.specs.Grid.{entry, Inverts}
use Rattle.coding.specs.Output.{Placed, Stride, byte_in}
use Rattle.coding.specs.Join.{joined}
use Rattle.coding.proofs.BytesLaws.{stride}
use Rattle.coding.proofs.OutputLaws.{placed_then}
use Rattle.coding.proofs.FieldLaws.{product_comm}
use Rattle.coding.proofs.PolynomialLaws.{sum_same, interpolate-length, interpolate-bytes}

pub length-joined : (F : ℕ) (room xs : List ℕ) (n : ℕ) → length (joined F room xs n) ≡ n * length xs
unfolding joined
length-joined F room xs zero = omega arith
length-joined F room xs (suc n) =
    length-append (joined F room xs n) (interpolate xs (byte_in F room n))
    ∙ omega (arith, length-joined F room xs n, interpolate-length xs (byte_in F room n), suc-mul n (length xs))

-- byte r of column j
pub get_or-joined : (F : ℕ) (room xs : List ℕ) (n j r : ℕ) → j < n → r < length xs
    → get_or (joined F room xs n) (j * length xs + r) 0 ≡ get_or (interpolate xs (byte_in F room j)) r 0
unfolding joined
get_or-joined F room xs zero j r hj hr = absurd (not-suc-le-zero hj)
get_or-joined F room xs (suc n) j r hj hr = go (λ h. get_or-joined F room xs n j r h hr) (dec_lt j n)
  where
    go : (j < n → get_or (joined F room xs n) (j * length xs + r) 0 ≡ get_or (interpolate xs (byte_in F room j)) r 0) → Dec (j < n)
        → get_or (joined F room xs n ++ interpolate xs (byte_in F room n)) (j * length xs + r) 0 ≡ get_or (interpolate xs (byte_in F room j)) r 0
    go ih (yes h) =
        let b : suc j ≤ n = h in
        let e : suc j * length xs ≡ j * length xs + length xs = suc-mul j (length xs) in
        let c : j * length xs + r < length (joined F room xs n) =
        rw length-joined (omega (arith, mul-le-mul_right (length xs) b))
        in get_or-append (joined F room xs n) (interpolate xs (byte_in F room n)) 0 (j * length xs + r) c ∙ ih h
    go ih (no h) =
        let e : j ≡ n = omega arith in
        rw e
        (ap (λ (x : ℕ). get_or (joined F room xs n ++ interpolate xs (byte_in F room n)) (x + r) 0) (sym (length-joined F room xs n))
        ∙ get_or-append-add (joined F room xs n) (interpolate xs (byte_in F room n)) r 0)

pub bytes-joined : (F : ℕ) (room xs : List ℕ) (n : ℕ) → Bytes (joined F room xs n)
unfolding joined
bytes-joined F room xs zero i = omega arith
bytes-joined F room xs (suc n) i = go (bytes-joined F room xs n i) (dec_lt i (length (joined F room xs n)))
  where
    go : get_or (joined F room xs n) i 0 < 256 → Dec (i < length (joined F room xs n))
        → get_or (joined F room xs n ++ interpolate xs (byte_in F room n)) i 0 < 256
    go ih (yes h) = rw (get_or-append (joined F room xs n) (interpolate xs (byte_in F room n)) 0 i h) ih
    go ih (no h) =
        let e : i ≡ length (joined F room xs n) + (i - length (joined F room xs n)) = omega arith in
        rw
        (ap (λ (x : ℕ). get_or (joined F room xs n ++ interpolate xs (byte_in F room n)) x 0) e
        ∙ get_or-append-add (joined F room xs n) (interpolate xs (byte_in F room n)) (i - length (joined F room xs n)) 0)
        (interpolate-bytes xs (byte_in F room n) (i - length (joined F room xs n)))

-- what the nodes' bytes weigh is the frame's byte
pub weighed : (F : ℕ) (room nodes : List ℕ) (grid : List (List ℕ)) (columns j r : ℕ) → Bytes room → j < columns → r < length nodes
    → Inverts (length nodes) nodes grid
    → sum (length nodes) (λ s. product (byte_in F room j (get_or nodes s 0)) (entry grid r (16 + s)))
    ≡ get_or (joined F room nodes columns) (j * length nodes + r) 0
weighed F room nodes grid columns j r b hj hr w =
    let k = length nodes in
    let t : take k nodes ≡ nodes = take_all k nodes (le_refl k) in
    sum_same k (λ s. product (byte_in F room j (get_or nodes s 0)) (entry grid r (16 + s)))
    (λ s. product (entry grid r (16 + s)) (byte_in F room j (get_or nodes s 0)))
    (λ s _. product_comm (byte_in F room j (get_or nodes s 0)) (entry grid r (16 + s)))
    ∙ sym (rw t at (w (byte_in F room j) (λ i. b ((i - 1) * F + j)) r hr))
    ∙ sym (get_or-joined F room nodes columns j r hj hr)

-- a block's stride goes on that of the columns before it
pub stride_join : (r k j m p : ℕ) → Stride r k (j + m) p → Stride r k j p ⊎ Stride (j * k + r) k m p
stride_join r k j m p s = go (dec_lt s.0 j)
  where
    go : Dec (s.0 < j) → Stride r k j p ⊎ Stride (j * k + r) k m p
    go (yes h) = inl (s.0, h, s.2)
    go (no h) =
        let b : s.0 < j + m = s.1 in
        let d : s.0 ≡ j + (s.0 - j) = omega arith in
        let e : p ≡ r + (j + (s.0 - j)) * k = s.2 ∙ ap (λ (x : ℕ). r + x * k) d in
        inr (s.0 - j, omega arith, omega (arith, add-mul j (s.0 - j) k))

-- byte r of column j + l of a frame, among those of a block from column j on
pub block_place : (j l r k : ℕ) → (j + l) * k + r ≡ j * k + r + l * k
block_place j l r k = omega (arith, add-mul j l k)

-- the next columns of a row are placed, which end at e
pub row_next : (g : ℕ → ℕ) (len r k j m e : ℕ) (t u w : List ℕ) → e ≡ j + m → Placed g len (Stride r k j) t u
    → Placed g len (Stride (j * k + r) k m) u w → Placed g len (Stride r k e) t w
row_next g len r k j m e t u w q x y =
    rw q (placed_then g len (Stride r k j) (Stride (j * k + r) k m) (Stride r k (j + m)) t u w (stride_join r k j m) x y)

-- the rows below r are placed
abbrev pub Rows : ℕ → ℕ → ℕ → ℕ → Type 0
Rows k columns r p = (i : ℕ) × (i < r) × Stride i k columns p

pub rows_more : (k columns r p : ℕ) → Rows k columns (r + 1) p → Rows k columns r p ⊎ Stride r k columns p
rows_more k columns r p s = go (dec_lt s.0 r)
  where
    go : Dec (s.0 < r) → Rows k columns r p ⊎ Stride r k columns p
    go (yes h) = inl (s.0, h, s.2)
    go (no h) =
        let b : s.0 < r + 1 = s.1 in
        let e : s.0 ≡ r = omega arith in inr (rw e at s.2)

pub rows_all : (k columns p : ℕ) → 1 ≤ k → p < columns * k → Rows k columns k p
rows_all k columns p h l = (
  p % k,
  mod-lt p h,
  (p / k, (div-lt_iff_lt-mul h).1 l, omega (arith, div-add-mod' p k)),
)

-- the output once every byte of the page is placed
pub placed_page : (f out end : List ℕ) (len : ℕ) → 4 + len ≤ length f → len ≤ length out
    → Placed (λ p. get_or f p 0) len (λ p. p < length f) out end → end ≡ take len (drop 4 f) ++ drop len out
placed_page f out end len hf ho p =
    let d : length (drop 4 f) ≡ length f - 4 = length-drop 4 f in
    let t : length (take len (drop 4 f)) ≡ len = length-take-le len (drop 4 f) (omega arith) in
    let s : length (take len (drop 4 f) ++ drop len out) ≡ length out =
    length-append (take len (drop 4 f)) (drop len out) ∙ omega (arith, length-drop len out)
    in
    ext_get_or 0 end (take len (drop 4 f) ++ drop len out) (p.same ∙ sym s) (λ q h. go q t (dec_lt q len))
  where
    go : (q : ℕ) → length (take len (drop 4 f)) ≡ len → Dec (q < len) → get_or end q 0 ≡ get_or (take len (drop 4 f) ++ drop len out) q 0
    go q t (yes h) =
        p.right q h (omega arith)
        ∙ sym
        (get_or-append (take len (drop 4 f)) (drop len out) 0 q (rw t h)
        ∙ get_or-take len (drop 4 f) q 0 h
        ∙ get_or-drop 4 f q 0)
    go q t (no h) =
        let e : q ≡ len + (q - len) = omega arith in
        p.beyond q (omega arith)
        ∙ ap (λ (x : ℕ). get_or out x 0) e
        ∙ sym
        (ap (λ (x : ℕ). get_or (take len (drop 4 f) ++ drop len out) x 0) (e ∙ ap (λ (x : ℕ). x + (q - len)) (sym t))
        ∙ get_or-append-add (take len (drop 4 f)) (drop len out) (q - len) 0
        ∙ get_or-drop len out (q - len) 0)

-- a part of an area lies in the room
pub area_fits : (x F j m R : ℕ) → 1 ≤ x → x * F ≤ R → j + m ≤ F → (x - 1) * F + j + m ≤ R
area_fits x F j m R h r l =
    let e : x ≡ x - 1 + 1 = omega arith in
    let s : x * F ≡ (x - 1) * F + F = ap (λ (y : ℕ). y * F) e ∙ stride (x - 1) F in omega arith

-- one node more is weighed
pub weighed_more : (F : ℕ) (room nodes row : List ℕ) (j m s : ℕ) (sums next : ℕ → ℕ) (loaded : List ℕ)
    → ((l : ℕ) → l < m → sums l ≡ sum s (λ i. product (byte_in F room (j + l) (get_or nodes i 0)) (get_or row (16 + i) 0)))
    → ((l : ℕ) → l < m → get_or loaded l 0 ≡ get_or room ((get_or nodes s 0 - 1) * F + j + l) 0)
    → ((l : ℕ) → next l ≡ sums l ⊕ product (get_or loaded l 0) (get_or row (16 + s) 0))
    → (l : ℕ) → l < m → next l ≡ sum (s + 1) (λ i. product (byte_in F room (j + l) (get_or nodes i 0)) (get_or row (16 + i) 0))
unfolding sum
weighed_more F room nodes row j m s sums next loaded a b c l h =
    let e : (get_or nodes s 0 - 1) * F + j + l ≡ (get_or nodes s 0 - 1) * F + (j + l) = omega arith in
    rw (add-one s)
    (c l
    ∙ ap₂ (λ (x : ℕ) (y : ℕ). x ⊕ y) (a l h)
    (ap (λ (x : ℕ). product x (get_or row (16 + s) 0)) (b l h ∙ ap (λ (x : ℕ). get_or room x 0) e)))
