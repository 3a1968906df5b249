-- Round trip: splitting a page and joining any choice of at least k of its pieces gives the page back.
use Rattle.std.proofs.Common.{◌≡◌, ℕ, zero, suc, ◌+◌, ◌-◌, ◌*◌, ◌^◌, ◌<◌, ◌≤◌, true, eqb, List, ◌++◌, length, get_or, drop, replicate, sym, refl, ap, ◌∙◌, le_refl, mul-le-mul_right, zero-add, arith, length-drop, get_or-drop, ext_get_or, eq-eqb}
use native.Mathlib.Decide.{dec_lt}
use lib.ListN.{length-replicate, get_or-replicate, get_or-eq_default}
use Rattle.coding.specs.Field.{product, power}
use Rattle.coding.specs.Bytes.{Bytes}
use Rattle.coding.specs.Pieces.{proper, columns, frame, piece_byte, piece}
use Rattle.coding.specs.Areas.{Columns}
use Rattle.coding.specs.Answer.{Outcome}
use Rattle.coding.specs.Split.{SplitEnd, written, split}
use Rattle.coding.specs.Nodes.{nodes_of, sound, first_length}
use Rattle.coding.specs.Join.{piece_in, join}
use Rattle.coding.proofs.MeasureLaws.{Proper, proper-measures}
use Rattle.coding.proofs.FieldLaws.{product_byte}
use Rattle.coding.proofs.PolynomialLaws.{sum_byte}
use Rattle.coding.proofs.FrameLaws.{columns_hold, columns-within}
use Rattle.coding.proofs.AreasLaws.{columns-bytes}
use Rattle.coding.proofs.SplitLaws.{written-columns, split_done}
use Rattle.coding.proofs.NodesLaws.{nodes-within, sound-rest, first-length}
use Rattle.coding.proofs.JoinLaws.{area_fits}
use Rattle.coding.proofs.PageLaws.{all_from}
use Rattle.coding.proofs.RoundTripLaws.{length-piece_in, get_or-piece_in, length-piece, get_or-piece}
use Rattle.coding.proofs.JoinEndLaws.{joined-page}

piece_byte_lem : (k : ℕ) (f : List ℕ) (i j : ℕ) → piece_byte k f i j < 256
unfolding piece_byte
piece_byte_lem k f i j =
    sum_byte k (λ r. product (get_or f (j * k + r) 0) (power i r)) (λ r. product_byte (get_or f (j * k + r) 0) (power i r))

pub piece_bytes : (k : ℕ) (page : List ℕ) (i : ℕ) → Bytes (piece k page i)
piece_bytes k page i j = go (dec_lt j (columns k (length page)))
  where
    go : Dec (j < columns k (length page)) → get_or (piece k page i) j 0 < 256
    go (yes h) = rw (get_or-piece k page i j h) (piece_byte_lem k (frame k page) i j)
    go (no h) =
        let z : length (piece k page i) ≤ j = omega (arith, length-piece k page i) in rw (get_or-eq_default (piece k page i) 0 z) (omega arith)

module _ (n k F : ℕ) (page room : List ℕ) (p : proper n k F ≡ true) (fits : n * F ≤ length room) (short : length page ≤ k * F - 4) where
  u : Proper n k F
  u = proper-measures n k F p

  pub within : columns k (length page) ≤ F
  within = columns-within k F (length page) u.parts.0 u.frame short

  -- a piece has at least one byte
  pub some_columns : 1 ≤ columns k (length page)
  some_columns = go (columns k (length page)) refl
    where
      go : (c : ℕ) → columns k (length page) ≡ c → 1 ≤ c
      go zero e = let h : 4 + length page ≤ 0 * k = rw e at (columns_hold k (length page) u.parts.0).0 in omega arith
      go (suc c) e = omega arith

  shape : Columns n F 0 (columns k (length page)) (λ i l. piece_byte k (frame k page) (i + 1) l) room (written k F page room n)
  shape = written-columns k F page room n within fits

  -- area i has piece i
  pub area_piece : (i : ℕ) → 1 ≤ i → i ≤ n → piece k page i ≡ piece_in F (written k F page room n) (columns k (length page)) i
  area_piece i lo hi =
      let e : i - 1 + 1 ≡ i = omega arith in
      let r : length (written k F page room n) ≡ length room = shape.same in
      let m : i * F ≤ length (written k F page room n) = omega (arith, mul-le-mul_right F hi) in
      let z : 0 + columns k (length page) ≤ F = omega (arith, within) in
      let a : (i - 1) * F + columns k (length page) ≤ length (written k F page room n) =
      omega (arith, area_fits i F 0 (columns k (length page)) (length (written k F page room n)) lo m z)
      in
      ext_get_or 0 (piece k page i) (piece_in F (written k F page room n) (columns k (length page)) i)
      (length-piece k page i ∙ sym (length-piece_in F (written k F page room n) (columns k (length page)) i a))
      (λ j h.
      let b : j < columns k (length page) = rw (length-piece k page i) at h in
      get_or-piece k page i j b
      ∙ ap (λ (x : ℕ). piece_byte k (frame k page) x j) (sym e)
      ∙ sym (shape.inside (i - 1) j (omega arith) b)
      ∙ ap (λ (x : ℕ). get_or (written k F page room n) ((i - 1) * F + x) 0) (zero-add j)
      ∙ sym (get_or-piece_in F (written k F page room n) (columns k (length page)) i j b))

  -- every length given is a piece's
  length_at : (i : ℕ) → 1 ≤ i → i ≤ n → get_or (replicate n (columns k (length page))) (i - 1) 0 ≡ columns k (length page)
  length_at i lo hi = get_or-replicate n (i - 1) (columns k (length page)) 0 (omega arith)

  -- for every page that fits and every choice of at least k of its pieces, joining gives the page back
  pub round_trip : (present : ℕ) (out : List ℕ) → Bytes page → Bytes room → k * F - 4 ≤ length out → present < 2 ^ n
      → k ≤ length (nodes_of present n)
      → join n k F present (split n k F page room).room (replicate n (columns k (length page))) out
      ≡ record { outcome = Outcome.gives (length page); out = page ++ drop (length page) out }
  round_trip present out bp br o m h =
      let lens = replicate n (columns k (length page)) in
      let xs = nodes_of present n in
      let z : 0 < length (nodes_of present n) = omega (arith, u.parts.0) in
      let w = nodes-within present n 0 z in
      let f : columns k (length page) ≡ get_or lens (get_or xs 0 0 - 1) 0 = sym (length_at (get_or xs 0 0) w.0 w.1) in
      let g : first_length lens xs ≡ columns k (length page) = first-length lens xs z ∙ sym f in
      let s : sound F lens xs ≡ true =
      sound-rest F lens xs z (columns k (length page)) f some_columns within
      ∙ all_from (λ i. eqb (get_or lens (i - 1) 0) (columns k (length page))) (drop 1 xs)
      (λ i l.
      let d : length (drop 1 xs) ≡ length xs - 1 = length-drop 1 xs in
      let c : 1 + i < length xs = omega arith in
      let v = nodes-within present n (1 + i) c in
      ap (λ (x : ℕ). eqb (get_or lens (x - 1) 0) (columns k (length page))) (get_or-drop 1 xs i 0)
      ∙ eq-eqb (get_or lens (get_or xs (1 + i) 0 - 1) 0) (columns k (length page)) (length_at (get_or xs (1 + i) 0) v.0 v.1))
      in
      let q : n ≤ length lens = rw (length-replicate n (columns k (length page))) (le_refl n) in
      let r : n * F ≤ length (written k F page room n) = rw shape.same fits in
      let b : Bytes (written k F page room n) =
      columns-bytes n F (columns k (length page)) (λ i l. piece_byte k (frame k page) (i + 1) l) room (written k F page room n) u.longest.0 within
      (λ i l. piece_byte_lem k (frame k page) (i + 1) l) br shape
      in
      rw (ap (λ (x : SplitEnd). x.room) (split_done n k F page room p fits short))
      (joined-page n k F present (written k F page room n) lens out b p r q o m s h page bp short
      (λ i l.
      let v = nodes-within present n i (omega arith) in rw g (area_piece (get_or xs i 0) v.0 v.1)))
