-- Laws of splitting: the rows of a block are Horner's rule, and the pieces written so are the specification's.
use Rattle.std.proofs.Common.{◌≡◌, ℕ, zero, suc, ◌+◌, ◌-◌, ◌*◌, ◌<◌, ◌≤◌, true, false, List, length, get_or, drop, sym, ap, ◌∙◌, ap₂, le_of_eq, add-zero, suc-mul, add-mul, add-one, arith, drop-cons, le-ltb, lt-ltb, le-leb}
use native.Mathlib.Decide.{dec_lt}
use borrow.Author.Tests.{lt-leb}
use lib.Bits.{xor_zero_l, xor_comm}
use lib.ListN.{get_or-eq_default}
use lib.Seq.{paste, drop-length}
use Rattle.coding.specs.Field.{◌⊕◌, product, power, sum}
use Rattle.coding.specs.Polynomial.{value}
use Rattle.coding.specs.Bytes.{Bytes, tabulate}
use Rattle.coding.specs.Pieces.{proper, columns, frame, piece_byte, piece}
use Rattle.coding.specs.Frame.{frame_byte}
use Rattle.coding.specs.Areas.{Columns}
use Rattle.coding.specs.Answer.{Outcome}
use Rattle.coding.specs.Split.{written, split, cut}
use Rattle.coding.proofs.BytesLaws.{length-tabulate, get_or-tabulate, paste_ext}
use Rattle.coding.proofs.FieldLaws.{zero_product}
use Rattle.coding.proofs.PolynomialLaws.{sum_same, value_powers}
use Rattle.coding.proofs.FrameLaws.{frame_at, frame-bytes}
use Rattle.coding.proofs.AreasLaws.{columns-none, columns-more, columns_again, columns_unique}

-- a turn of Horner's rule, from what its four steps give
pub turned : (t : List ℕ) (at m x : ℕ) (row loaded scaled next u : List ℕ) → m ≤ 16 → length next ≡ 16
    → ((l : ℕ) → l < m → get_or loaded l 0 ≡ get_or t (at + l) 0) → ((l : ℕ) → get_or scaled l 0 ≡ product (get_or loaded l 0) x)
    → ((l : ℕ) → get_or next l 0 ≡ get_or scaled l 0 ⊕ get_or row l 0) → u ≡ paste t at next m
    → u ≡ paste t at (tabulate m (λ l. product (get_or t (at + l) 0) x ⊕ get_or row l 0)) m
turned t at m x row loaded scaled next u hm hn a b c e =
    let f : ℕ → ℕ = λ l. product (get_or t (at + l) 0) x ⊕ get_or row l 0 in
    e
    ∙ paste_ext t at next (tabulate m f) m (omega arith) (le_of_eq (sym (length-tabulate m f)))
    (λ l h.
    c l
    ∙ ap (λ (v : ℕ). v ⊕ get_or row l 0) (b l ∙ ap (λ (v : ℕ). product v x) (a l h))
    ∙ sym (get_or-tabulate m f l 0 h))

-- column c of the frame
pub column : ℕ → List ℕ → ℕ → List ℕ
column k page c = tabulate k (λ r. frame_byte page (c * k + r))

pub length_column : (k : ℕ) (page : List ℕ) (c : ℕ) → length (column k page c) ≡ k
unfolding column
length_column k page c = length-tabulate k (λ r. frame_byte page (c * k + r))

pub get_or_column : (k : ℕ) (page : List ℕ) (c r : ℕ) → r < k → get_or (column k page c) r 0 ≡ frame_byte page (c * k + r)
unfolding column
get_or_column k page c r h = get_or-tabulate k (λ r. frame_byte page (c * k + r)) r 0 h

pub column_bytes : (k : ℕ) (page : List ℕ) (c : ℕ) → Bytes page → Bytes (column k page c)
column_bytes k page c b i = go (dec_lt i k)
  where
    go : Dec (i < k) → get_or (column k page c) i 0 < 256
    go (yes h) = rw (get_or_column k page c i h) (frame-bytes page b (c * k + i))
    go (no h) =
        let e : get_or (column k page c) i 0 ≡ 0 = get_or-eq_default (column k page c) 0 (rw (length_column k page c) (omega arith)) in
        omega arith

-- the value at the point x of the rows from r on, in column c
pub rows : ℕ → List ℕ → ℕ → ℕ → ℕ → ℕ
rows k page x c r = value (drop r (column k page c)) x

rows_step : (k : ℕ) (page : List ℕ) (x c r : ℕ) → r < k → rows k page x c r ≡ frame_byte page (c * k + r) ⊕ product (rows k page x c (r + 1)) x
unfolding rows value
rows_step k page x c r h =
    let s : r < length (column k page c) = rw (length_column k page c) h in
    ap (λ (p : List ℕ). value p x) (drop-cons (column k page c) r 0 s)
    ∙ ap₂ (λ (a : ℕ) (n : ℕ). a ⊕ product (value (drop n (column k page c)) x) x) (get_or_column k page c r h) (sym (add-one r))

pub rows_none : (k : ℕ) (page : List ℕ) (x c : ℕ) → rows k page x c k ≡ 0
unfolding rows value
rows_none k page x c =
    ap (λ (n : ℕ). value (drop n (column k page c)) x) (sym (length_column k page c))
    ∙ ap (λ (p : List ℕ). value p x) (drop-length (column k page c))

pub columns_ext : (n F j m : ℕ) (v w : ℕ → ℕ → ℕ) (t u : List ℕ) → ((i l : ℕ) → i < n → l < m → v i l ≡ w i l) → Columns n F j m v t u → Columns n F j m w t u
columns_ext n F j m v w t u e c =
    record { same = c.same; inside = λ i l hi hl. c.inside i l hi hl ∙ e i l hi hl; outside = c.outside }

-- the first m lanes of row r of the block at column j
abbrev Gathered : ℕ → List ℕ → ℕ → ℕ → ℕ → List ℕ → Type 0
Gathered k page j m r row = (l : ℕ) → l < m → get_or row l 0 ≡ frame_byte page (j * k + r + l * k)

gathered_at : (k : ℕ) (page : List ℕ) (j m r : ℕ) (row : List ℕ) → Gathered k page j m r row
    → (l : ℕ) → l < m → get_or row l 0 ≡ frame_byte page ((j + l) * k + r)
gathered_at k page j m r row e l h =
    let z : j * k + r + l * k ≡ (j + l) * k + r = omega (arith, add-mul j l k) in e l h ∙ ap (frame_byte page) z

-- one row more, in one lane
pub row_more : (k : ℕ) (page : List ℕ) (x j m r : ℕ) (row : List ℕ) → r < k → Gathered k page j m r row
    → (l s : ℕ) → l < m → s ≡ rows k page x (j + l) (r + 1) → product s x ⊕ get_or row l 0 ≡ rows k page x (j + l) r
row_more k page x j m r row hr e l s hl q =
    ap₂ (λ (a : ℕ) (b : ℕ). product a x ⊕ b) q (gathered_at k page j m r row e l hl)
    ∙ xor_comm (product (rows k page x (j + l) (r + 1)) x) (frame_byte page ((j + l) * k + r))
    ∙ sym (rows_step k page x (j + l) r hr)

-- the rows from r on in the sums of the areas, that of point first + i + 1 in area i
abbrev pub Rows : ℕ → ℕ → ℕ → ℕ → List ℕ → ℕ → ℕ → ℕ → List ℕ → List ℕ → Type 0
Rows first n F k page j m r t u = Columns n F j m (λ i l. rows k page (first + i + 1) (j + l) r) t u

-- the highest row alone
pub block_start : (first n F k : ℕ) (page : List ℕ) (j m : ℕ) (row t u : List ℕ) → 1 ≤ k → Gathered k page j m (k - 1) row
    → Columns n F j m (λ i l. get_or row l 0) t u → Rows first n F k page j m (k - 1) t u
block_start first n F k page j m row t u hk e c =
    columns_ext n F j m (λ i l. get_or row l 0) (λ i l. rows k page (first + i + 1) (j + l) (k - 1)) t u
    (λ i l hi hl.
    let x = first + i + 1 in
    let z : k - 1 + 1 ≡ k = omega arith in
    sym (xor_zero_l (get_or row l 0))
    ∙ ap (λ (a : ℕ). a ⊕ get_or row l 0) (sym (zero_product x))
    ∙ row_more k page x j m (k - 1) row (omega arith) e l 0 hl (sym (ap (rows k page x (j + l)) z ∙ rows_none k page x (j + l))))
    c

-- one row more
pub block_more : (first n F k : ℕ) (page : List ℕ) (j m r : ℕ) (row t u w : List ℕ) → r < k → Gathered k page j m r row
    → Rows first n F k page j m (r + 1) t u
    → Columns n F j m (λ i l. product (get_or u (i * F + (j + l)) 0) (first + i + 1) ⊕ get_or row l 0) u w
    → Rows first n F k page j m r t w
block_more first n F k page j m r row t u w hr e a b =
    columns_again n F j m (λ i l. rows k page (first + i + 1) (j + l) (r + 1)) (λ i l. rows k page (first + i + 1) (j + l) r) t u w a
    (columns_ext n F j m (λ i l. product (get_or u (i * F + (j + l)) 0) (first + i + 1) ⊕ get_or row l 0)
    (λ i l. rows k page (first + i + 1) (j + l) r) u w
    (λ i l hi hl. row_more k page (first + i + 1) j m r row hr e l (get_or u (i * F + (j + l)) 0) hl (a.inside i l hi hl)) b)

-- the value of a column is the byte of a piece
pub column_value : (k : ℕ) (page : List ℕ) (x c : ℕ) → Bytes page → value (column k page c) x ≡ piece_byte k (frame k page) x c
unfolding piece_byte
column_value k page x c b =
    value_powers (column k page c) x (column_bytes k page c b)
    ∙ ap (λ (n : ℕ). sum n (λ r. product (get_or (column k page c) r 0) (power x r))) (length_column k page c)
    ∙ sum_same k (λ r. product (get_or (column k page c) r 0) (power x r)) (λ r. product (get_or (frame k page) (c * k + r) 0) (power x r))
    (λ r h. ap (λ (v : ℕ). product v (power x r)) (get_or_column k page c r h ∙ sym (frame_at k page (c * k + r))))

-- all the rows
pub rows_all : (k : ℕ) (page : List ℕ) (x c : ℕ) → Bytes page → rows k page x c 0 ≡ piece_byte k (frame k page) x c
unfolding rows
rows_all k page x c b = column_value k page x c b

pub block_all : (first n F k : ℕ) (page : List ℕ) (j m : ℕ) (t u : List ℕ) → Bytes page → Rows first n F k page j m 0 t u
    → Columns n F j m (λ i l. piece_byte k (frame k page) (first + i + 1) (j + l)) t u
block_all first n F k page j m t u b c =
    columns_ext n F j m (λ i l. rows k page (first + i + 1) (j + l) 0) (λ i l. piece_byte k (frame k page) (first + i + 1) (j + l)) t u
    (λ i l hi hl. rows_all k page (first + i + 1) (j + l) b) c

-- the room that splitting leaves, by its columns
pub written-columns : (k F : ℕ) (page room : List ℕ) (n : ℕ) → columns k (length page) ≤ F → n * F ≤ length room
    → Columns n F 0 (columns k (length page)) (λ i l. piece_byte k (frame k page) (i + 1) l) room (written k F page room n)
unfolding written piece
written-columns k F page room zero h r = columns-none F 0 (columns k (length page)) (λ i l. piece_byte k (frame k page) (i + 1) l) room
written-columns k F page room (suc n) h r =
    let L = columns k (length page) in
    let v : ℕ → ℕ → ℕ = λ i l. piece_byte k (frame k page) (i + 1) l in
    let s : suc n * F ≡ n * F + F = suc-mul n F in
    let z : n * F + 0 ≡ n * F = add-zero (n * F) in
    let q : n * F ≤ length room = omega arith in
    rw (← add-one n, ← z)
    (columns-more n F 0 L v room (written k F page room n) (written-columns k F page room n h q) (omega arith)
    (piece k page (n + 1)) (le_of_eq (sym (length-tabulate L (piece_byte k (frame k page) (n + 1))))) (omega arith)
    (λ l b. get_or-tabulate L (piece_byte k (frame k page) (n + 1)) l 0 b))

pub written_unique : (k F : ℕ) (page room : List ℕ) (n : ℕ) (u : List ℕ) → 1 ≤ F → columns k (length page) ≤ F → n * F ≤ length room
    → Columns n F 0 (columns k (length page)) (λ i l. piece_byte k (frame k page) (i + 1) l) room u → u ≡ written k F page room n
written_unique k F page room n u f h r c =
    columns_unique n F (columns k (length page)) (λ i l. piece_byte k (frame k page) (i + 1) l) room u (written k F page room n) f h c
    (written-columns k F page room n h r)

-- the room that cutting one piece leaves
pub piece_cut : (k : ℕ) (page room : List ℕ) (i len : ℕ) → len ≡ columns k (length page)
    → paste room 0 (tabulate len (piece_byte k (frame k page) i)) len ≡ paste room 0 (piece k page i) (columns k (length page))
unfolding piece
piece_cut k page room i len e = ap (λ (n : ℕ). paste room 0 (tabulate n (piece_byte k (frame k page) i)) n) e

-- the answers, one for each way out
module _ (n k F : ℕ) (page room : List ℕ) where
  pub split-measures : proper n k F ≡ false → split n k F page room ≡ record { outcome = Outcome.refuses 1; room = room }
  unfolding split
  split-measures e = simp e

  pub split-short : proper n k F ≡ true → length room < n * F → split n k F page room ≡ record { outcome = Outcome.refuses 2; room = room }
  unfolding split
  split-short e h = simp (e, lt-ltb (length room) (n * F) h)

  pub split-long : proper n k F ≡ true → n * F ≤ length room → k * F - 4 < length page
      → split n k F page room ≡ record { outcome = Outcome.refuses 6; room = room }
  unfolding split
  split-long e h l = simp (e, le-ltb (length room) (n * F) h, lt-ltb (k * F - 4) (length page) l)

  pub split_done : proper n k F ≡ true → n * F ≤ length room → length page ≤ k * F - 4
      → split n k F page room ≡ record { outcome = Outcome.gives (columns k (length page)); room = written k F page room n }
  unfolding split
  split_done e h l = simp (e, le-ltb (length room) (n * F) h, le-ltb (k * F - 4) (length page) l)

module _ (n k F i : ℕ) (page room : List ℕ) where
  pub cut-measures : proper n k F ≡ false → cut n k F i page room ≡ record { outcome = Outcome.refuses 1; room = room }
  unfolding cut
  cut-measures e = simp e

  pub cut_short : proper n k F ≡ true → length room < F → cut n k F i page room ≡ record { outcome = Outcome.refuses 2; room = room }
  unfolding cut
  cut_short e h = simp (e, lt-ltb (length room) F h)

  pub cut_low : proper n k F ≡ true → F ≤ length room → i < 1 → cut n k F i page room ≡ record { outcome = Outcome.refuses 3; room = room }
  unfolding cut
  cut_low e h l = simp (e, le-ltb (length room) F h, lt-leb 1 i l)

  pub cut_high : proper n k F ≡ true → F ≤ length room → 1 ≤ i → n < i → cut n k F i page room ≡ record { outcome = Outcome.refuses 3; room = room }
  unfolding cut
  cut_high e h l u = simp (e, le-ltb (length room) F h, le-leb 1 i l, lt-leb i n u)

  pub cut-long : proper n k F ≡ true → F ≤ length room → 1 ≤ i → i ≤ n → k * F - 4 < length page
      → cut n k F i page room ≡ record { outcome = Outcome.refuses 6; room = room }
  unfolding cut
  cut-long e h l u t = simp (e, le-ltb (length room) F h, le-leb 1 i l, le-leb i n u, lt-ltb (k * F - 4) (length page) t)

  pub cut-done : proper n k F ≡ true → F ≤ length room → 1 ≤ i → i ≤ n → length page ≤ k * F - 4
      → cut n k F i page room
      ≡ record { outcome = Outcome.gives (columns k (length page)); room = paste room 0 (piece k page i) (columns k (length page)) }
  unfolding cut
  cut-done e h l u t = simp (e, le-ltb (length room) F h, le-leb 1 i l, le-leb i n u, le-ltb (k * F - 4) (length page) t)
