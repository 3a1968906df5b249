-- What joining gives back: the joined frame has the pieces that were given, and the pieces of a page give its frame.
use Rattle.std.proofs.Common.{◌≡◌, ℕ, ◌+◌, ◌-◌, ◌*◌, ◌/◌, ◌%◌, ◌^◌, ◌<◌, ◌≤◌, List, length, get_or, take, drop, sym, refl, ap, ◌∙◌, mod-lt, div-lt_iff_lt-mul, div-add-mod', arith, length-drop, length-take-le, get_or-drop, get_or-take, ext_get_or}
use mathlib.Core.Option.{some}
use Rattle.coding.specs.Field.{product, power, sum}
use Rattle.coding.specs.Polynomial.{interpolate}
use Rattle.coding.specs.Grid.{Distinct}
use Rattle.coding.specs.Bytes.{Bytes}
use Rattle.coding.specs.Pieces.{columns, frame, piece_byte, piece}
use Rattle.coding.specs.Output.{byte_in}
use Rattle.coding.specs.Join.{joined, piece_in, page_of}
use Rattle.coding.proofs.BytesLaws.{length-tabulate, get_or-tabulate}
use Rattle.coding.proofs.PolynomialLaws.{sum_same, value_powers, interpolate-length, interpolate-bytes, interpolate-value, interpolate_unique}
use Rattle.coding.proofs.FrameLaws.{frame_at, columns_hold, length-frame}
use Rattle.coding.proofs.SplitLaws.{column, length_column, get_or_column, column_bytes, column_value}
use Rattle.coding.proofs.JoinLaws.{length-joined, get_or-joined, bytes-joined}
use Rattle.coding.proofs.PageLaws.{multiple_unique, page-frame, frame_page_of}

-- where the piece of a node stands in the room
pub piece_in_lem : (F : ℕ) (room : List ℕ) (L i : ℕ) → piece_in F room L i ≡ take L (drop ((i - 1) * F) room)
unfolding piece_in
piece_in_lem F room L i = refl

pub length-piece_in : (F : ℕ) (room : List ℕ) (L i : ℕ) → (i - 1) * F + L ≤ length room → length (piece_in F room L i) ≡ L
unfolding piece_in
length-piece_in F room L i h = length-take-le L (drop ((i - 1) * F) room) (omega (arith, length-drop ((i - 1) * F) room))

pub get_or-piece_in : (F : ℕ) (room : List ℕ) (L i j : ℕ) → j < L → get_or (piece_in F room L i) j 0 ≡ byte_in F room j i
unfolding piece_in
get_or-piece_in F room L i j h = get_or-take L (drop ((i - 1) * F) room) j 0 h ∙ get_or-drop ((i - 1) * F) room j 0

pub length-piece : (k : ℕ) (page : List ℕ) (i : ℕ) → length (piece k page i) ≡ columns k (length page)
unfolding piece
length-piece k page i = length-tabulate (columns k (length page)) (piece_byte k (frame k page) i)

pub get_or-piece : (k : ℕ) (page : List ℕ) (i j : ℕ) → j < columns k (length page) → get_or (piece k page i) j 0 ≡ piece_byte k (frame k page) i j
unfolding piece
get_or-piece k page i j h = get_or-tabulate (columns k (length page)) (piece_byte k (frame k page) i) j 0 h

module _ (k F L : ℕ) (room xs : List ℕ) (hk : 1 ≤ k) (b : Bytes room) (n : length xs ≡ k) (bx : Bytes xs) (d : Distinct xs) where
  bytes_in_lem : (j x : ℕ) → byte_in F room j x < 256
  bytes_in_lem j x = b ((x - 1) * F + j)

  -- the pieces of the joined frame are those given
  joined-piece : (s j : ℕ) → s < k → j < L → piece_byte k (joined F room xs L) (get_or xs s 0) j ≡ byte_in F room j (get_or xs s 0)
  unfolding piece_byte
  joined-piece s j hs hj =
      let p = interpolate xs (byte_in F room j) in
      let x = get_or xs s 0 in
      let m : length p ≡ k = interpolate-length xs (byte_in F room j) ∙ n in
      sum_same k (λ r. product (get_or (joined F room xs L) (j * k + r) 0) (power x r)) (λ r. product (get_or p r 0) (power x r))
      (λ r h. ap (λ (v : ℕ). product v (power x r))
      (ap (λ (q : ℕ). get_or (joined F room xs L) (j * q + r) 0) (sym n) ∙ get_or-joined F room xs L j r hj (rw n h)))
      ∙ ap (λ (q : ℕ). sum q (λ r. product (get_or p r 0) (power x r))) (sym m)
      ∙ sym (value_powers p x (interpolate-bytes xs (byte_in F room j)))
      ∙ interpolate-value xs (byte_in F room j) bx d (bytes_in_lem j) s (rw n hs)

  pub joined-pieces : (page : List ℕ) → page_of k (joined F room xs L) ≡ some page
      → (s : ℕ) → s < k → (get_or xs s 0 - 1) * F + L ≤ length room → piece k page (get_or xs s 0) ≡ piece_in F room L (get_or xs s 0)
  joined-pieces page e s hs r =
      let f = joined F room xs L in
      let m : length f ≡ L * k = length-joined F room xs L ∙ ap (λ (q : ℕ). L * q) n in
      let g : frame k page ≡ f = page-frame k L f page hk m (bytes-joined F room xs L) e in
      let c : columns k (length page) * k ≡ L * k = sym (length-frame k page hk) ∙ ap length g ∙ m in
      let h = columns_hold k (length page) hk in
      let u : columns k (length page) ≡ L = multiple_unique (columns k (length page)) L k (4 + length page) h.0 h.1 (omega arith) (omega arith) in
      ext_get_or 0 (piece k page (get_or xs s 0)) (piece_in F room L (get_or xs s 0))
      (length-piece k page (get_or xs s 0) ∙ u ∙ sym (length-piece_in F room L (get_or xs s 0) r))
      (λ j t.
      let v : j < columns k (length page) = rw (length-piece k page (get_or xs s 0)) at t in
      let w : j < L = omega arith in
      get_or-piece k page (get_or xs s 0) j v
      ∙ ap (λ (q : List ℕ). piece_byte k q (get_or xs s 0) j) g
      ∙ joined-piece s j hs w
      ∙ sym (get_or-piece_in F room L (get_or xs s 0) j w))

  -- the pieces of a page give its frame
  pub pieces-joined : (page : List ℕ) → Bytes page → ((s : ℕ) → s < k → (get_or xs s 0 - 1) * F + L ≤ length room)
      → ((s : ℕ) → s < k → piece k page (get_or xs s 0) ≡ piece_in F room L (get_or xs s 0)) → joined F room xs L ≡ frame k page
  pieces-joined page bp r e =
      let u : columns k (length page) ≡ L = sym (length-piece k page (get_or xs 0 0)) ∙ ap length (e 0 hk) ∙ length-piece_in F room L (get_or xs 0 0) (r 0 hk) in
      let m : length (joined F room xs L) ≡ L * k = length-joined F room xs L ∙ ap (λ (q : ℕ). L * q) n in
      ext_get_or 0 (joined F room xs L) (frame k page) (m ∙ ap (λ (q : ℕ). q * k) (sym u) ∙ sym (length-frame k page hk))
      (λ p t. byte u p (rw m at t))
    where
      column_same : columns k (length page) ≡ L → (j : ℕ) → j < L → interpolate xs (byte_in F room j) ≡ column k page j
      column_same u j h =
          interpolate_unique xs (column k page j) (byte_in F room j) (length_column k page j ∙ sym n) (column_bytes k page j bp) bx d (bytes_in_lem j)
          (λ s l.
          let a : s < k = rw n at l in
          column_value k page (get_or xs s 0) j bp
          ∙ sym (get_or-piece k page (get_or xs s 0) j (omega arith))
          ∙ ap (λ (q : List ℕ). get_or q j 0) (e s a)
          ∙ get_or-piece_in F room L (get_or xs s 0) j h)

      byte : columns k (length page) ≡ L → (p : ℕ) → p < L * k → get_or (joined F room xs L) p 0 ≡ get_or (frame k page) p 0
      byte u p t =
          let j = p / k in
          let q = p % k in
          let hj : j < L = (div-lt_iff_lt-mul hk).1 t in
          let hq : q < k = mod-lt p hk in
          let z : p ≡ j * k + q = sym (div-add-mod' p k) in
          ap (λ (x : ℕ). get_or (joined F room xs L) x 0) (z ∙ ap (λ (x : ℕ). j * x + q) (sym n))
          ∙ get_or-joined F room xs L j q hj (rw n hq)
          ∙ ap (λ (s : List ℕ). get_or s q 0) (column_same u j hj)
          ∙ get_or_column k page j q hq
          ∙ sym (frame_at k page (j * k + q))
          ∙ ap (λ (x : ℕ). get_or (frame k page) x 0) (sym z)

  pub pieces-page : (page : List ℕ) → Bytes page → length page < 2 ^ 32 → ((s : ℕ) → s < k → (get_or xs s 0 - 1) * F + L ≤ length room)
      → ((s : ℕ) → s < k → piece k page (get_or xs s 0) ≡ piece_in F room L (get_or xs s 0)) → page_of k (joined F room xs L) ≡ some page
  pieces-page page bp h r e = ap (page_of k) (pieces-joined page bp r e) ∙ frame_page_of k page hk h
