-- The readings that a deposit's second scan notices: the index that a row shows, the one that is kept, and the bit map.
use mathlib.Core.Path.{◌≡◌, refl, sym, ap, subst, ◌∙◌}
use mathlib.Core.Bool.{Bool, true, false, not, cond, ◌&&◌}
use mathlib.Core.List.{List, ◌∷◌, ◌++◌}
use mathlib.Core.Option.{Option, some}
use Prim.Native.Nat.{ℕ, suc, ◌+◌, ◌*◌, ◌<◌, ◌≤◌}
use native.Mathlib.Decide.{dec_lt}
use native.Mathlib.Omega.{arith}
use borrow.Author.Tests.{ne_eqb}
use lib.Dec.{ltb, eqb}
use lib.ListN.{length, get_or, take, drop, length-append, length-drop, take-append-drop}
use lib.Seq.{drop_at, drop-drop}
use Rattle.coding.specs.Bytes.{Bytes}
use Rattle.coding.proofs.PageLaws.{some_eq}
use Rattle.parties.specs.declared.Measures.{Measures}
use Rattle.parties.specs.protocol.Format.{Read, read_number, write_number, read_many, write_many}
use Rattle.parties.specs.protocol.Measures.{pointer_size, row_size}
use Rattle.parties.specs.protocol.Nodes.{stands, with_node}
use Rattle.parties.specs.protocol.Pointer.{read_pointer, write_pointer}
use Rattle.parties.specs.protocol.Directory.{Row, no_row, write_index, read_directory}
use Rattle.parties.specs.protocol.Client.{Client, read_retained}
use Rattle.parties.specs.protocol.Deposit.{noticed}
use Rattle.parties.proofs.protocol.formats.FormatLaws.{length-same, format_many}
use Rattle.parties.proofs.protocol.formats.EachLaws.{each_at}
use Rattle.parties.proofs.protocol.formats.NodeMapLaws.{with_node_lem, with_others, stands-none}
use Rattle.parties.proofs.protocol.formats.PointerLaws.{GoodPointer, format_pointer}
use Rattle.parties.proofs.protocol.formats.DirectoryLaws.{GoodIndex, length-index}
use Rattle.parties.proofs.protocol.formats.ClientLaws.{keeper}
use Rattle.parties.specs.records.Form.{rest}
use Rattle.parties.specs.client.Record.{work_at, is_some}
use Rattle.parties.specs.client.Draw.{rows_of}
use Rattle.parties.specs.client.Found.{retained_in}
use Rattle.parties.proofs.records.PlaceLaws.{number_read}
use Rattle.parties.proofs.directory.UpdateEndLaws.{own_row_lem}
use Rattle.parties.proofs.client.AreaLaws.{index-part}
use Rattle.parties.proofs.client.FoundLaws.{kept}
use Rattle.parties.proofs.client.ChooseLaws.{Row-at, row_at}
use Rattle.parties.proofs.client.GateLaws.{some_value}

pub notices_is : (own : ℕ) (c : Client) (rows : List Row) (p : ℕ)
    → (not (eqb p own) && ltb (get_or c.frozen_indices p (record { 0 = 0 })).0 (get_or rows p no_row).reading_index.0) ≡ noticed own c rows p
unfolding noticed
notices_is own c rows p = refl

-- ---- the index that a row shows

-- row q of a directory that reads, where rows have so many bytes
module _ (s : Measures) (size : ℕ) (w : size ≡ row_size s) (t : List ℕ) (b : Bytes t) (o : is_some (read_directory s t) ≡ true) (q : ℕ) (h : q < s.m) where
  abbrev row : Row
  row = get_or (rows_of (read_directory s t)) q no_row

  there : Row-at s t (q * size) row
  there =
      let x = some_value (read_directory s t) o in
      subst (λ (k : ℕ). Row-at s t (q * k) row) (sym w)
      (subst (λ (y : Option (Read (List Row))). Row-at s t (q * row_size s) (get_or (rows_of y) q no_row)) (sym x.1)
      (row_at s t (q * row_size s) _ b (own_row_lem s t b q h x.0 x.1)))

  abbrev frozen_of : List ℕ
  frozen_of = write_many write_index row.frozen_indices

  abbrev shown_of : List ℕ
  shown_of = write_index row.reading_index

  frozen-many : length frozen_of ≡ 4 * s.m
  frozen-many = length-same write_index GoodIndex 4 (λ i g. length-index i) row.frozen_indices there.indices ∙ omega (arith, there.many)

  pointers-read : read_many (read_pointer s) (s.m + 1) (drop (q * size + 1) t)
      ≡ some (record { value = row.written ∷ row.frozen; rest = frozen_of ++ (shown_of ++ there.spare) })
  pointers-read =
      let k : suc (length row.frozen) ≡ s.m + 1 = omega (arith, there.clients) in
      ap (read_many (read_pointer s) (s.m + 1)) there.bytes
      ∙ (format_many (read_pointer s) write_pointer (GoodPointer s) (format_pointer s) (s.m + 1)).back (row.written ∷ row.frozen)
      ((there.written, there.frozen), k) (frozen_of ++ (shown_of ++ there.spare))

  pub shown-reads : is_some (read_many (read_pointer s) (s.m + 1) (drop (q * size + 1) t)) ≡ true
  shown-reads = ap is_some pointers-read

  module _ (indices : ℕ) (e : rest (read_many (read_pointer s) (s.m + 1) (drop (q * size + 1) t)) ≡ some (drop indices t)) where
    left : drop indices t ≡ frozen_of ++ (shown_of ++ there.spare)
    left = some_eq (sym e ∙ ap rest pointers-read)

    pub shown-fits : indices + 4 * s.m + 4 ≤ length t
    shown-fits =
        omega (
          arith,
          ap length left,
          length-drop indices t,
          length-append frozen_of (shown_of ++ there.spare),
          length-append shown_of there.spare,
          length-index row.reading_index,
          frozen-many,
        )

    pub shown-told : (i : ℕ) (u : List ℕ) → read_number 4 (drop (indices + 4 * s.m) t) ≡ some (record { value = i; rest = u })
        → i ≡ (get_or (rows_of (read_directory s t)) q no_row).reading_index.0
    unfolding write_index
    shown-told =
        number_read 4 t (indices + 4 * s.m) row.reading_index.0 there.spare there.index
        (sym (drop-drop (4 * s.m) indices t) ∙ ap (drop (4 * s.m)) left ∙ drop_at frozen_of (shown_of ++ there.spare) (4 * s.m) frozen-many)

-- ---- the index that is kept

pub kept-told : (s : Measures) (area : List ℕ) → Bytes area → is_some (read_retained s area) ≡ true → (q : ℕ) → q < s.m
    → (at : ℕ) → at ≡ (s.m + 1) * pointer_size s + 5 * s.m + 4 * q
    → (i : ℕ) (u : List ℕ) → read_number 4 (drop at area) ≡ some (record { value = i; rest = u })
    → i ≡ (get_or (retained_in s area).frozen_indices q (record { 0 = 0 })).0
unfolding write_index
kept-told s area b o q h at e i u k =
    let x = retained_in s area in
    let y = kept s area b o in
    let n = get_or x.frozen_indices q (record { 0 = 0 }) in
    let d : drop at area ≡ write_number 4 n.0 ++ drop 4 (drop at area) =
    sym (take-append-drop 4 (drop at area))
    ∙ ap (λ (l : List ℕ). l ++ drop 4 (drop at area)) (ap (λ (p : ℕ). take 4 (drop p area)) e ∙ index-part s area (keeper x) (drop (work_at s) area) y q h) in
    number_read 4 area at n.0 (drop 4 (drop at area))
    (each_at GoodIndex (record { 0 = 0 }) x.frozen_indices y.good.indices.0 q (omega (arith, y.good.indices.1))) d i u k

-- ---- the bit map

-- the bits of the first q clients stand as told, and no others
pub record Marked (f : ℕ → Bool) (q map : ℕ) : Type 0 where
  pub told : (p : ℕ) → p < q → stands map (p + 1) ≡ f p
  pub clear : (p : ℕ) → q ≤ p → stands map (p + 1) ≡ false

pub marked-none : (f : ℕ → Bool) → Marked f 0 0
marked-none f = record { told = λ p h. absurd (omega arith); clear = λ p h. stands-none (p + 1) }

pub marked_more : (f : ℕ → Bool) (q map : ℕ) → Marked f q map → Marked f (q + 1) (cond (f q) (with_node map (q + 1)) map)
marked_more f q map m = go (f q) refl
  where
    other : (p : ℕ) → (p ≡ q → ⊥) → stands (with_node map (q + 1)) (p + 1) ≡ stands map (p + 1)
    other p d = with_others map (q + 1) (p + 1) (omega arith) (omega arith) (ne_eqb (p + 1) (q + 1) (λ e. d (omega arith)))

    go : (b : Bool) → f q ≡ b → Marked f (q + 1) (cond b (with_node map (q + 1)) map)
    go true e =
        record {
          told = λ p h. first p h (dec_lt p q);
          clear = λ p h. other p (λ z. omega arith) ∙ m.clear p (omega arith);
        }
      where
        first : (p : ℕ) → p < q + 1 → Dec (p < q) → stands (with_node map (q + 1)) (p + 1) ≡ f p
        first p h (yes l) = other p (λ z. omega arith) ∙ m.told p l
        first p h (no l) =
            let z : q ≡ p = omega arith in
            subst (λ (k : ℕ). stands (with_node map (q + 1)) (k + 1) ≡ f k) z (with_node_lem map (q + 1) (omega arith) ∙ sym e)
    go false e = record { told = λ p h. first p h (dec_lt p q); clear = λ p h. m.clear p (omega arith) }
      where
        first : (p : ℕ) → p < q + 1 → Dec (p < q) → stands map (p + 1) ≡ f p
        first p h (yes l) = m.told p l
        first p h (no l) =
            let z : q ≡ p = omega arith in subst (λ (k : ℕ). stands map (k + 1) ≡ f k) z (m.clear q (omega arith) ∙ sym e)
