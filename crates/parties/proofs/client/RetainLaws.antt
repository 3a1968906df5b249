-- What a client retains, written field by field over its area.
use mathlib.Core.Path.{◌≡◌, refl, sym, ap, ap₂, subst, ◌∙◌}
use mathlib.Core.Bool.{Bool, true, false, cond}
use mathlib.Core.List.{List, [], ◌∷◌, ◌++◌, append_assoc, append-nil}
use Prim.Native.Nat.{ℕ, suc, ◌+◌, ◌-◌, ◌*◌, ◌<◌, ◌≤◌}
use native.Mathlib.Nat.{mul-le-mul_right}
use native.Mathlib.Omega.{arith}
use lib.ListN.{length, get_or, take, drop, set, replicate, length-append, length-set, length-replicate, take-append-drop}
use lib.Seq.{paste, take_at, drop_at, take_all, drop-cons, set_at, append_snoc, drop-length, length-take-le}
use Rattle.coding.specs.Bytes.{tabulate}
use Rattle.coding.proofs.BytesLaws.{tabulate-none, tabulate-more, length-tabulate}
use Rattle.parties.specs.declared.Measures.{Measures}
use Rattle.parties.specs.declared.ReadingIndex.{ReadingIndex}
use Rattle.parties.specs.declared.Version.{Version}
use Rattle.parties.specs.protocol.Format.{write_number, write_many, write_area}
use Rattle.parties.specs.protocol.Measures.{passes, pointer_size}
use Rattle.parties.specs.protocol.Version.{no_version}
use Rattle.parties.specs.protocol.Nodes.{stands}
use Rattle.parties.specs.protocol.Pointer.{Pointer, none_pointer, write_pointer, write_version}
use Rattle.parties.specs.protocol.Directory.{Row, no_row, write_index}
use Rattle.parties.specs.protocol.Client.{Retained, write_retained, work_size}
use Rattle.parties.proofs.protocol.formats.MeasureLaws.{passed}
use Rattle.parties.proofs.protocol.formats.FormatLaws.{Each, length-same}
use Rattle.parties.proofs.protocol.formats.EachLaws.{each_set, each_all}
use Rattle.parties.proofs.protocol.formats.PointerLaws.{length-number, length-version}
use Rattle.parties.proofs.protocol.formats.DirectoryLaws.{length-index}
use Rattle.parties.specs.client.Record.{work_at}
use Rattle.parties.specs.client.Freeze.{retained_after}
use Rattle.parties.specs.client.Retain.{freeze_pointer, reserve_version, keep_index, notice}
use Rattle.parties.proofs.records.SizeLaws.{pointer_bound, pointers_bound}
use Rattle.parties.proofs.records.SpliceLaws.{paste_past, many_put}
use Rattle.parties.proofs.client.AreaLaws.{fields_are, area_of}

-- ---- values of one length, one of them written over

-- a paste over a first part
paste-over : (p t b a : List ℕ) (k : ℕ) → length p ≡ k → take k b ≡ a → paste (p ++ t) 0 b k ≡ a ++ t
paste-over p t b a k e f =
    let z : 0 + k ≡ k = omega arith in
    ap₂ (λ (x y : List ℕ). x ++ y) f (ap (λ (n : ℕ). drop n (p ++ t)) z ∙ drop_at p t k e)

take-front : (v n z x r : List ℕ) (k : ℕ) → length v ≡ k → take k ((((v ++ n) ++ z) ++ x) ++ r) ≡ v
take-front v n z x r k e =
    ap (take k) (append_assoc ((v ++ n) ++ z) x r ∙ append_assoc (v ++ n) z (x ++ r) ∙ append_assoc v n (z ++ (x ++ r)))
    ∙ take_at v (n ++ (z ++ (x ++ r))) k e

module _ {A : Type 0} (w : A → List ℕ) (k : ℕ) where
  abbrev Sized : List A → Type 0
  Sized l = Each (λ a. length (w a) ≡ k) l

  length-sized : (l : List A) → Sized l → length (write_many w l) ≡ length l * k
  length-sized l e = length-same w (λ a. length (w a) ≡ k) k (λ a h. h) l e

  put_sized : (l : List A) → Sized l → (i : ℕ) → i < length l → (a : A) (t b : List ℕ) → take k b ≡ w a
      → paste (write_many w l ++ t) (i * k) b k ≡ write_many w (set l i a) ++ t
  put_sized = many_put w (λ a. length (w a) ≡ k) k (λ a h. h)

  sized-all : ((a : A) → length (w a) ≡ k) → (l : List A) → Sized l
  sized-all = each_all (λ a. length (w a) ≡ k)

-- ---- what is retained, at the front of an area

pub record Keeping (s : Measures) (area : List ℕ) (x : Retained) (rest : List ℕ) : Type 0 where
  pub pointers : Sized (write_area (pointer_size s) write_pointer) (pointer_size s) (x.written ∷ x.frozen)
  pub frozen : length x.frozen ≡ s.m
  pub reserved : length x.reserved ≡ s.m
  pub indices : length x.frozen_indices ≡ s.m
  pub parts : area ≡ write_retained s x ++ rest

abbrev with_written : Pointer → Retained → Retained
with_written p x = record { written = p; frozen = x.frozen; reserved = x.reserved; frozen_indices = x.frozen_indices }

abbrev with_frozen : ℕ → Pointer → Retained → Retained
with_frozen q p x = record { written = x.written; frozen = set x.frozen q p; reserved = x.reserved; frozen_indices = x.frozen_indices }

abbrev with_reserved : ℕ → Version → Retained → Retained
with_reserved q v x = record { written = x.written; frozen = x.frozen; reserved = set x.reserved q v; frozen_indices = x.frozen_indices }

abbrev with_index : ℕ → ReadingIndex → Retained → Retained
with_index q i x = record { written = x.written; frozen = x.frozen; reserved = x.reserved; frozen_indices = set x.frozen_indices q i }

module _ (s : Measures) where
  module _ (area : List ℕ) (x : Retained) (rest : List ℕ) (g : Keeping s area x rest) where
    abbrev pointer_bytes : List ℕ
    pointer_bytes = write_many (area_of s) (x.written ∷ x.frozen)

    abbrev version_bytes : List ℕ
    version_bytes = write_many write_version x.reserved

    abbrev index_bytes : List ℕ
    index_bytes = write_many write_index x.frozen_indices

    pointers-length : length pointer_bytes ≡ (s.m + 1) * pointer_size s
    pointers-length =
        let e : suc (length x.frozen) ≡ s.m + 1 = omega (arith, g.frozen) in
        length-sized (area_of s) (pointer_size s) (x.written ∷ x.frozen) g.pointers ∙ ap (λ (n : ℕ). n * pointer_size s) e

    versions_length : length version_bytes ≡ 5 * s.m
    versions_length = length-sized write_version 5 x.reserved (sized-all write_version 5 length-version x.reserved) ∙ omega (arith, g.reserved)

    indices-length : length index_bytes ≡ 4 * s.m
    indices-length =
        length-sized write_index 4 x.frozen_indices (sized-all write_index 4 length-index x.frozen_indices) ∙ omega (arith, g.indices)

    kept-length : length (write_retained s x) ≡ work_at s
    kept-length =
        let z : List ℕ = [] in
        omega (
          arith,
          length-append (write_retained s x) z,
          ap length (fields_are s x z),
          length-append pointer_bytes (version_bytes ++ (index_bytes ++ z)),
          length-append version_bytes (index_bytes ++ z),
          length-append index_bytes z,
          pointers-length,
          versions_length,
          indices-length,
        )

    keeping_rest : drop (work_at s) area ≡ rest
    keeping_rest = ap (drop (work_at s)) g.parts ∙ drop_at (write_retained s x) rest (work_at s) kept-length

    pub keeping_length : length area ≡ work_at s + length rest
    keeping_length = omega (arith, ap length g.parts, length-append (write_retained s x) rest, kept-length)

    -- the written version stands at the front
    keeping_version : take 5 area ≡ write_version x.written.version
    unfolding write_retained write_area write_pointer
    keeping_version = ap (take 5) g.parts ∙ take-front (write_version x.written.version) _ _ _ _ 5 (length-version x.written.version)

    module _ (q : ℕ) (h : q < s.m) (b : List ℕ) where
      put_frozen : (p : Pointer) → length (area_of s p) ≡ pointer_size s → take (pointer_size s) b ≡ area_of s p
          → Keeping s (paste area ((q + 1) * pointer_size s) b (pointer_size s)) (with_frozen q p x) rest
      put_frozen p l e =
          let n : q + 1 ≡ suc q = omega arith in
          let k : suc q < suc (length x.frozen) = omega (arith, g.frozen) in
          record {
            pointers = (g.pointers.0, each_set (λ a. length (area_of s a) ≡ pointer_size s) x.frozen q p l g.pointers.1);
            frozen = length-set x.frozen q p ∙ g.frozen;
            reserved = g.reserved;
            indices = g.indices;
            parts =
                (λ j. paste ((g.parts ∙ fields_are s x rest) j) (n j * pointer_size s) b (pointer_size s))
                ∙ put_sized (area_of s) (pointer_size s) (x.written ∷ x.frozen) g.pointers (suc q) k p (version_bytes ++ (index_bytes ++ rest)) b e
                ∙ sym (fields_are s (with_frozen q p x) rest);
          }

      put_reserved : (v : Version) → take 5 b ≡ write_version v
          → Keeping s (paste area ((s.m + 1) * pointer_size s + 5 * q) b 5) (with_reserved q v x) rest
      put_reserved v e =
          let at : ℕ = (s.m + 1) * pointer_size s + 5 * q in
          let r = index_bytes ++ rest in
          record {
            pointers = g.pointers;
            frozen = g.frozen;
            reserved = length-set x.reserved q v ∙ g.reserved;
            indices = g.indices;
            parts =
                ap (λ (u : List ℕ). paste u at b 5) (g.parts ∙ fields_are s x rest)
                ∙ paste_past pointer_bytes (version_bytes ++ r) b ((s.m + 1) * pointer_size s) (q * 5) 5 at pointers-length (omega arith)
                ∙ ap (λ (u : List ℕ). pointer_bytes ++ u)
                (put_sized write_version 5 x.reserved (sized-all write_version 5 length-version x.reserved) q (omega (arith, g.reserved)) v r b e)
                ∙ sym (fields_are s (with_reserved q v x) rest);
          }

      put_index : (i : ReadingIndex) → take 4 b ≡ write_index i
          → Keeping s (paste area ((s.m + 1) * pointer_size s + 5 * s.m + 4 * q) b 4) (with_index q i x) rest
      put_index i e =
          let at : ℕ = (s.m + 1) * pointer_size s + 5 * s.m + 4 * q in
          let r = index_bytes ++ rest in
          record {
            pointers = g.pointers;
            frozen = g.frozen;
            reserved = g.reserved;
            indices = length-set x.frozen_indices q i ∙ g.indices;
            parts =
                ap (λ (u : List ℕ). paste u at b 4) (g.parts ∙ fields_are s x rest)
                ∙ paste_past pointer_bytes (version_bytes ++ r) b ((s.m + 1) * pointer_size s) (5 * s.m + 4 * q) 4 at pointers-length (omega arith)
                ∙ ap (λ (u : List ℕ). pointer_bytes ++ u)
                (paste_past version_bytes r b (5 * s.m) (q * 4) 4 (5 * s.m + 4 * q) versions_length (omega arith)
                ∙ ap (λ (u : List ℕ). version_bytes ++ u)
                (put_sized write_index 4 x.frozen_indices (sized-all write_index 4 length-index x.frozen_indices) q (omega (arith, g.indices)) i rest b e))
                ∙ sym (fields_are s (with_index q i x) rest);
          }

    put_written : (p : Pointer) (b : List ℕ) → length (area_of s p) ≡ pointer_size s → take (pointer_size s) b ≡ area_of s p
        → Keeping s (paste area 0 b (pointer_size s)) (with_written p x) rest
    put_written p b l e =
        let z : 0 ≡ 0 * pointer_size s = omega arith in
        record {
          pointers = (l, g.pointers.1);
          frozen = g.frozen;
          reserved = g.reserved;
          indices = g.indices;
          parts =
              (λ j. paste ((g.parts ∙ fields_are s x rest) j) (z j) b (pointer_size s))
              ∙ put_sized (area_of s) (pointer_size s) (x.written ∷ x.frozen) g.pointers 0 (omega arith) p (version_bytes ++ (index_bytes ++ rest)) b e
              ∙ sym (fields_are s (with_written p x) rest);
        }

-- ---- client by client

-- entries chosen below i; the others as they were
module _ {A : Type 0} (st : ℕ → Bool) (f : ℕ → A) (d : A) (l : List A) where
  abbrev chosen : ℕ → A
  chosen q = cond (st q) (f q) (get_or l q d)

  abbrev up_to : ℕ → List A
  up_to i = tabulate i chosen ++ drop i l

  up_none : l ≡ up_to 0
  up_none = ap (λ (u : List A). u ++ l) (sym (tabulate-none chosen))

  up_next : (i : ℕ) (a : A) → a ≡ chosen i → tabulate i chosen ++ (a ∷ drop (suc i) l) ≡ up_to (i + 1)
  up_next i a e =
      let n : suc i ≡ i + 1 = omega arith in
      ap (λ (x : A). tabulate i chosen ++ (x ∷ drop (suc i) l)) e ∙ sym (append_snoc (tabulate i chosen) (chosen i) (drop (suc i) l))
      ∙ ap (λ (u : List A). u ++ drop (suc i) l) (sym (tabulate-more i chosen)) ∙ ap up_to n

  module _ (i : ℕ) (h : i < length l) where
    up_cons : up_to i ≡ tabulate i chosen ++ (get_or l i d ∷ drop (suc i) l)
    up_cons = ap (λ (u : List A). tabulate i chosen ++ u) (drop-cons l i d h)

    up_stands : st i ≡ true → set (up_to i) i (f i) ≡ up_to (i + 1)
    up_stands e =
        ap (λ (u : List A). set u i (f i)) up_cons
        ∙ set_at (tabulate i chosen) (get_or l i d) (drop (suc i) l) (f i) i (length-tabulate i chosen)
        ∙ up_next i (f i) (ap (λ (b : Bool). cond b (f i) (get_or l i d)) (sym e))

    up_stays : st i ≡ false → up_to i ≡ up_to (i + 1)
    up_stays e = up_cons ∙ up_next i (get_or l i d) (ap (λ (b : Bool). cond b (f i) (get_or l i d)) (sym e))

  up_all : (n : ℕ) → length l ≡ n → up_to n ≡ tabulate n chosen
  up_all n e =
      ap (λ (u : List A). tabulate n chosen ++ u) (ap (λ (k : ℕ). drop k l) (sym e) ∙ drop-length l) ∙ append-nil (tabulate n chosen)

module _ (map : ℕ) (x : Retained) (rows : List Row) (p : Pointer) where
  abbrev st : ℕ → Bool
  st q = stands map (q + 1)

  -- what is retained when the first i clients are through
  abbrev pub partly : ℕ → Retained
  partly i =
      record {
        written = x.written;
        frozen = up_to st (λ q. p) none_pointer x.frozen i;
        reserved = up_to st (λ q. x.written.version) no_version x.reserved i;
        frozen_indices = up_to st (λ q. (get_or rows q no_row).reading_index) (record { 0 = 0 }) x.frozen_indices i;
      }

module _ (s : Measures) (map : ℕ) (x : Retained) (rows : List Row) (p : Pointer) (rest : List ℕ)
    (sized : length (write_area (pointer_size s) write_pointer p) ≡ pointer_size s)
    (there : take (pointer_size s) rest ≡ write_area (pointer_size s) write_pointer p)
    (frozen : length x.frozen ≡ s.m) (reserved : length x.reserved ≡ s.m) (indices : length x.frozen_indices ≡ s.m) where
  abbrev st₁ : ℕ → Bool
  st₁ = st map x rows p

  abbrev after : ℕ → Retained
  after = partly map x rows p

  pub partly_none : (area : List ℕ) → Keeping s area x rest → Keeping s area (after 0) rest
  partly_none area g =
      subst (λ (y : Retained). Keeping s area y rest)
      (λ j. record {
        written = x.written;
        frozen = up_none st₁ (λ q. p) none_pointer x.frozen j;
        reserved = up_none st₁ (λ q. x.written.version) no_version x.reserved j;
        frozen_indices = up_none st₁ (λ q. (get_or rows q no_row).reading_index) (record { 0 = 0 }) x.frozen_indices j;
      })
      g

  module _ (area : List ℕ) (i : ℕ) (h : i < s.m) (g : Keeping s area (after i) rest) where
    abbrev index : ReadingIndex
    index = (get_or rows i no_row).reading_index

    partly_noticed : st₁ i ≡ true → Keeping s (notice s i index area) (after (i + 1)) rest
    unfolding freeze_pointer reserve_version keep_index write_index
    partly_noticed e =
        let a = freeze_pointer s i area in
        let b = reserve_version s i a in
        let ga = put_frozen s area (after i) rest g i h (drop (work_at s) area) p sized (ap (take (pointer_size s)) (keeping_rest s area (after i) rest g) ∙ there) in
        let gb = put_reserved s a _ rest ga i h a x.written.version (keeping_version s a _ rest ga) in
        let gc = put_index s b _ rest gb i h (write_number 4 index.0) index (take_all 4 (write_number 4 index.0) (omega (arith, length-number 4 index.0))) in
        subst (λ (y : Retained). Keeping s (notice s i index area) y rest)
        (λ j. record {
          written = x.written;
          frozen = up_stands st₁ (λ q. p) none_pointer x.frozen i (omega arith) e j;
          reserved = up_stands st₁ (λ q. x.written.version) no_version x.reserved i (omega arith) e j;
          frozen_indices = up_stands st₁ (λ q. (get_or rows q no_row).reading_index) (record { 0 = 0 }) x.frozen_indices i (omega arith) e j;
        })
        gc

    partly_other : st₁ i ≡ false → Keeping s area (after (i + 1)) rest
    partly_other e =
        subst (λ (y : Retained). Keeping s area y rest)
        (λ j. record {
          written = x.written;
          frozen = up_stays st₁ (λ q. p) none_pointer x.frozen i (omega arith) e j;
          reserved = up_stays st₁ (λ q. x.written.version) no_version x.reserved i (omega arith) e j;
          frozen_indices = up_stays st₁ (λ q. (get_or rows q no_row).reading_index) (record { 0 = 0 }) x.frozen_indices i (omega arith) e j;
        })
        g

    pub partly_more : (a : List ℕ) → a ≡ cond (stands map (i + 1)) (notice s i index area) area → Keeping s a (after (i + 1)) rest
    partly_more a e = subst (λ (u : List ℕ). Keeping s u (after (i + 1)) rest) (sym e) (go (stands map (i + 1)) refl)
      where
        go : (b : Bool) → stands map (i + 1) ≡ b → Keeping s (cond b (notice s i index area) area) (after (i + 1)) rest
        go true f = partly_noticed f
        go false f = partly_other f

  partly_all : with_written p (after s.m) ≡ retained_after s map x rows p
  unfolding retained_after
  partly_all =
      λ j. record {
        written = p;
        frozen = up_all st₁ (λ q. p) none_pointer x.frozen s.m frozen j;
        reserved = up_all st₁ (λ q. x.written.version) no_version x.reserved s.m reserved j;
        frozen_indices = up_all st₁ (λ q. (get_or rows q no_row).reading_index) (record { 0 = 0 }) x.frozen_indices s.m indices j;
      }

  -- then the new pointer is the written one, and the work is cleared
  pub partly_ends : (area : List ℕ) → Keeping s area (after s.m) rest → work_size s ≤ length rest
      → (u v : List ℕ) → u ≡ paste area 0 (drop (work_at s) area) (pointer_size s)
      → v ≡ paste u (work_at s) (replicate (work_size s) 0) (work_size s)
      → v ≡ write_retained s (retained_after s map x rows p) ++ (replicate (work_size s) 0 ++ drop (work_size s) rest)
  partly_ends area g enough u v e f =
      let y = retained_after s map x rows p in
      let gw = put_written s area (after s.m) rest g p (drop (work_at s) area) sized (ap (take (pointer_size s)) (keeping_rest s area (after s.m) rest g) ∙ there) in
      let gp = subst (λ (z : Retained). Keeping s (paste area 0 (drop (work_at s) area) (pointer_size s)) z rest) partly_all gw in
      let gu : Keeping s u y rest = subst (λ (a : List ℕ). Keeping s a y rest) (sym e) gp in
      let z : List ℕ = replicate (work_size s) 0 in
      let k : work_at s ≡ work_at s + 0 = omega arith in
      let l : length (take (work_size s) rest) ≡ work_size s = length-take-le (work_size s) rest enough in
      f
      ∙ (λ j. paste (gu.parts j) (work_at s) z (work_size s))
      ∙ paste_past (write_retained s y) rest z (work_at s) 0 (work_size s) (work_at s) (kept-length s u y rest gu) k
      ∙ ap (λ (a : List ℕ). write_retained s y ++ a)
      (ap (λ (a : List ℕ). paste a 0 z (work_size s)) (sym (take-append-drop (work_size s) rest))
      ∙ paste-over (take (work_size s) rest) (drop (work_size s) rest) z z (work_size s) l (take_all (work_size s) z (omega (arith, length-replicate {A = ℕ} (work_size s) 0))))

-- ---- the writes, as the code makes them

pub record Fits (s : Measures) (size q : ℕ) : Type 0 where
  pub within : (q + 1) * size ≤ (s.m + 1) * size
  pub same : (s.m + 1) * size ≡ (s.m + 1) * pointer_size s
  pub pointers : (s.m + 1) * size ≤ 4671
  pub pointer : size ≤ 519
  pub clients : s.m ≤ 8

pub fits : (s : Measures) → passes s ≡ true → (size q : ℕ) → size ≡ pointer_size s → q < s.m → Fits s size q
fits s h size q e l =
    let n : (s.m + 1) * size ≡ (s.m + 1) * pointer_size s = ap (λ (x : ℕ). (s.m + 1) * x) e in
    let b : q + 1 ≤ s.m + 1 = omega arith in
    record {
      within = mul-le-mul_right size b;
      same = n;
      pointers = omega (arith, pointers_bound s h);
      pointer = omega (arith, pointer_bound s h);
      clients = (passed s h).clients.1;
    }

pub noticed_put : (s : Measures) (q : ℕ) (i : ReadingIndex) (size at : ℕ) → size ≡ pointer_size s → at ≡ work_at s → (q + 1) * size ≤ at
    → (t u v w : List ℕ) → u ≡ paste t (at - (at - (q + 1) * size)) (drop at t) (at + size - at)
    → v ≡ paste u (0 + ((s.m + 1) * size + 5 * q)) (drop 0 u) (5 - 0)
    → w ≡ paste v ((s.m + 1) * size + 5 * s.m + 4 * q) (write_number 4 i.0) 4
    → w ≡ notice s q i t
unfolding freeze_pointer reserve_version keep_index
noticed_put s q i size at hs ha h t u v w eu ev ew =
    let x : at - (at - (q + 1) * size) ≡ (q + 1) * size = omega arith in
    let y : at + size - at ≡ size = omega arith in
    let z : 0 + ((s.m + 1) * size + 5 * q) ≡ (s.m + 1) * size + 5 * q = omega arith in
    let fu : u ≡ freeze_pointer s q t = eu ∙ (λ j. paste t (x j) (drop at t) (y j)) ∙ (λ j. paste t ((q + 1) * hs j) (drop (ha j) t) (hs j)) in
    let fv : v ≡ reserve_version s q (freeze_pointer s q t) =
    ev ∙ (λ j. paste u (z j) u 5) ∙ (λ j. paste (fu j) ((s.m + 1) * hs j + 5 * q) (fu j) 5)
    in
    ew ∙ (λ j. paste (fv j) ((s.m + 1) * hs j + 5 * s.m + 4 * q) (write_number 4 i.0) 4)
