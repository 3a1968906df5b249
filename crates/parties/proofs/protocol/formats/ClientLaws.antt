-- A client's record as bytes: written and read back.
use mathlib.Core.Path.{◌≡◌, refl, sym, ap, ◌∙◌}
use mathlib.Core.Bool.{Bool, true, false, cond, not, ◌&&◌}
use mathlib.Core.List.{List, [], ◌∷◌, ◌++◌}
use mathlib.Core.Option.{some}
use Prim.Native.Nat.{ℕ, ◌+◌, ◌-◌, ◌*◌, ◌^◌, ◌<◌, ◌≤◌}
use native.Mathlib.Nat.{mul-add, mul-le-mul, mul-le-mul_right}
use native.Mathlib.Decide.{ℕ_discrete}
use native.Mathlib.Omega.{arith}
use borrow.Author.Tests.{eq-eqb, ne_eqb, lt-ltb, ltb-true, le-leb, leb-true, not-true}
use lib.Dec.{leb, ltb, eqb}
use lib.Pow.{pow_mono}
use lib.ListN.{length, length-append, length-replicate, length-map}
use Rattle.coding.specs.Bytes.{Bytes}
use Rattle.coding.proofs.BytesLaws.{stride}
use Rattle.coding.proofs.Cases.{and-true}
use Rattle.coding.proofs.PageLaws.{none≢some}
use Rattle.parties.specs.declared.Measures.{Measures}
use Rattle.parties.specs.declared.ReadingIndex.{ReadingIndex}
use Rattle.parties.specs.declared.Version.{Version}
use Rattle.parties.specs.protocol.Format.{Read, Reader, both, mapped, read_nothing, read_number, write_number, read_bytes}
use Rattle.parties.specs.protocol.Format.{read_many, write_many, read_each, read_area, write_area}
use Rattle.parties.specs.protocol.Measures.{passes, pointer_size}
use Rattle.parties.specs.protocol.Version.{no_version}
use Rattle.parties.specs.protocol.Nodes.{count}
use Rattle.parties.specs.protocol.Pointer.{Pointer, none_pointer, is_none, read_pointer, write_pointer, read_version, write_version}
use Rattle.parties.specs.protocol.Directory.{read_index, write_index}
use Rattle.parties.specs.protocol.Message.{proper_version}
use Rattle.parties.specs.protocol.Client.{Phase, Client, step, read_page, write_page, read_some, Stores, read_stores, write_stores, read_pieces, write_pieces, lengths}
use Rattle.parties.specs.protocol.Client.{areas, Fetches, read_fetches, write_fetches, read_work, write_work, work_size, proper_reserved, read_reserved, Retained}
use Rattle.parties.specs.protocol.Client.{pointer_area, read_retained, write_retained, retained, client_of, read_client, write_client, client_size, fresh_client}
use Rattle.parties.proofs.protocol.formats.FormatLaws.{Format, format_then, format_check, format_nothing, format_number, format_many, format_each}
use Rattle.parties.proofs.protocol.formats.FormatLaws.{format_bytes, format_area, as_back, as_only, Each, EachOf, length_area, length-same}
use Rattle.parties.proofs.protocol.formats.EachLaws.{each_all, each-replicate}
pub use Rattle.parties.proofs.protocol.formats.EachLaws.{each_as}
use Rattle.parties.proofs.protocol.formats.MeasureLaws.{Passed, passed}
use Rattle.parties.proofs.protocol.formats.PointerLaws.{GoodVersion, format_version, GoodPointer, format_pointer, length-number, length-version}
use Rattle.parties.proofs.protocol.formats.DirectoryLaws.{GoodIndex, format_index, length-index}
use Rattle.parties.proofs.protocol.formats.RowLaws.{pointer-fits, none_good}

abbrev pub GoodDigest : List ℕ → Type 0
GoodDigest d = Bytes d × (length d ≡ 32)

-- a piece has at most F bytes
abbrev pub ShortPiece : Measures → List ℕ → Type 0
ShortPiece s p = Bytes p × (length p ≤ s.f)

-- what may stand in a phase
abbrev pub GoodPhase : Measures → Phase → Type 0
GoodPhase s Phase.idle = Unit {0}
GoodPhase s (Phase.scanning page) = Bytes page × (leb (length page) (s.k * s.f - 4) ≡ true)
GoodPhase s (Phase.storing v a ds) =
    GoodVersion v × (proper_version s v ≡ true) × (a < 2 ^ s.n) × (count a < s.t + s.k) × Each GoodDigest ds × (length ds ≡ s.n)
GoodPhase s (Phase.updating p) = GoodPointer s p × (is_none p ≡ false)
GoodPhase s (Phase.freezing p) = GoodPointer s p × (is_none p ≡ false)
GoodPhase s Phase.raising = Unit {0}
GoodPhase s Phase.picking = Unit {0}
GoodPhase s (Phase.fetching p c m ps) =
    GoodPointer s p × (is_none p ≡ false) × (c < 256 ^ 2) × (m < 2 ^ s.n) × (count m < s.k) × Each (ShortPiece s) ps × (length ps ≡ s.n)

abbrev pub GoodReserved : Measures → Version → Type 0
GoodReserved s v = GoodVersion v × (proper_reserved s v ≡ true)

pub record GoodClient (s : Measures) (c : Client) : Type 0 where
  pub phase : GoodPhase s c.phase
  pub index : GoodIndex c.reading_index
  pub written : GoodPointer s c.written
  pub frozen : Each (GoodPointer s) c.frozen × (length c.frozen ≡ s.m)
  pub reserved : Each (GoodReserved s) c.reserved × (length c.reserved ≡ s.m)
  pub indices : Each GoodIndex c.frozen_indices × (length c.frozen_indices ≡ s.m)

-- ---- the parts of the work area, each with what its reader asks

abbrev ReadsPage : Measures → List ℕ → Type 0
ReadsPage s page = ((length page < 256 ^ 4) × (Bytes page × (length page ≡ length page))) × (leb (length page) (s.k * s.f - 4) ≡ true)

format_page : (s : Measures) → Format (List ℕ) (read_page s) write_page (ReadsPage s)
unfolding read_page write_page
format_page s =
    format_check _ write_page (λ page. (length page < 256 ^ 4) × (Bytes page × (length page ≡ length page))) (λ page. leb (length page) (s.k * s.f - 4))
    (format_then (read_number 4) (write_number 4) (λ n. n < 256 ^ 4) (λ n. read_bytes n) (λ n p. p) (λ n p. Bytes p × (length p ≡ n))
    (λ n p. p) length (λ p. p) (λ p. refl) (λ n p g h. h.1) (λ n p. refl) (format_number 4) (λ n. format_bytes n))

abbrev pub ReadsSome : Measures → Pointer → Type 0
ReadsSome s p = GoodPointer s p × (not (is_none p) ≡ true)

pub format_some : (s : Measures) → Format Pointer (read_some s) write_pointer (ReadsSome s)
unfolding read_some
format_some s = format_check (read_pointer s) write_pointer (GoodPointer s) (λ p. not (is_none p)) (format_pointer s)

abbrev proper_stores : Measures → Stores → Bool
proper_stores s x = proper_version s x.version && (ltb x.acknowledged (2 ^ s.n) && ltb (count x.acknowledged) (s.t + s.k))

abbrev ReadsStores : Measures → Stores → Type 0
ReadsStores s x =
    (GoodVersion x.version × ((x.acknowledged < 256 ^ 2) × (Each GoodDigest x.digests × (length x.digests ≡ s.n)))) × (proper_stores s x ≡ true)

format_stores : (s : Measures) → Format Stores (read_stores s) write_stores (ReadsStores s)
unfolding read_stores write_stores
format_stores s =
    format_check _ write_stores
    (λ x. GoodVersion x.version × ((x.acknowledged < 256 ^ 2) × (Each GoodDigest x.digests × (length x.digests ≡ s.n)))) (proper_stores s)
    (format_then read_version write_version GoodVersion
    (λ v. both (read_number 2) (λ a. read_many (read_bytes 32) s.n) (λ a l. (a, l)))
    (λ v (x : ℕ × List (List ℕ)). write_number 2 x.0 ++ write_many (λ d. d) x.1)
    (λ v (x : ℕ × List (List ℕ)). (x.0 < 256 ^ 2) × (Each GoodDigest x.1 × (length x.1 ≡ s.n)))
    (λ v (x : ℕ × List (List ℕ)). record { version = v; acknowledged = x.0; digests = x.1 }) (λ x. x.version) (λ x. (x.acknowledged, x.digests))
    (λ x. refl) (λ v x g h. refl) (λ v x. refl) format_version
    (λ v.
    format_then (read_number 2) (write_number 2) (λ a. a < 256 ^ 2) (λ a. read_many (read_bytes 32) s.n) (λ a. write_many (λ d. d))
    (λ a l. Each GoodDigest l × (length l ≡ s.n)) (λ a l. (a, l)) (λ x. x.0) (λ x. x.1) (λ x. refl) (λ a l g h. refl) (λ a l. refl)
    (format_number 2) (λ a. format_many (read_bytes 32) (λ d. d) GoodDigest (format_bytes 32) s.n)))

-- a piece in its area, of the length that stands before
abbrev ReadsPiece : Measures → ℕ → List ℕ → Type 0
ReadsPiece s l p = ((Bytes p × (length p ≡ l)) × Unit {0}) × (leb (length p) s.f ≡ true)

abbrev ReadsPieces : Measures → List (List ℕ) → Type 0
ReadsPieces s ps = (Each (λ l. l < 256 ^ 2) (lengths ps) × (length (lengths ps) ≡ s.n)) × EachOf (ReadsPiece s) (lengths ps) ps

lengths_of : (s : Measures) (ls : List ℕ) (ps : List (List ℕ)) → EachOf (ReadsPiece s) ls ps → lengths ps ≡ ls
lengths_of s [] [] g = refl
lengths_of s [] (p ∷ ps) g = absurd g
lengths_of s (l ∷ ls) [] g = absurd g
lengths_of s (l ∷ ls) (p ∷ ps) g = λ i. g.0.0.0.1 i ∷ lengths_of s ls ps g.1 i

format_pieces : (s : Measures) → Format (List (List ℕ)) (read_pieces s) (write_pieces s) (ReadsPieces s)
unfolding read_pieces write_pieces
format_pieces s =
    format_then (read_many (read_number 2) s.n) (write_many (write_number 2)) (λ ls. Each (λ l. l < 256 ^ 2) ls × (length ls ≡ s.n))
    (λ ls. read_each (λ l. read_area s.f (read_bytes l) (λ p. p)) ls) (λ ls. areas s) (EachOf (ReadsPiece s))
    (λ ls ps. ps) lengths (λ ps. ps) (λ ps. refl) (λ ls ps g h. lengths_of s ls ps h) (λ ls ps. refl)
    (format_many (read_number 2) (write_number 2) (λ l. l < 256 ^ 2) (format_number 2) s.n)
    (format_each (λ l. read_area s.f (read_bytes l) (λ p. p)) (write_area s.f (λ p. p)) (ReadsPiece s)
    (λ l. format_area s.f (read_bytes l) (λ p. p) (λ p. Bytes p × (length p ≡ l)) (format_bytes l)))

abbrev proper_fetches : Measures → Fetches → Bool
proper_fetches s x = ltb x.matching (2 ^ s.n) && ltb (count x.matching) s.k

abbrev FetchesParts : Measures → Fetches → Type 0
FetchesParts s x = ReadsSome s x.pointer × ((x.counted < 256 ^ 2) × ((x.matching < 256 ^ 2) × ReadsPieces s x.pieces))

abbrev ReadsFetches : Measures → Fetches → Type 0
ReadsFetches s x = FetchesParts s x × (proper_fetches s x ≡ true)

format_fetches : (s : Measures) → Format Fetches (read_fetches s) (write_fetches s) (ReadsFetches s)
unfolding read_fetches write_fetches
format_fetches s =
    format_check _ (write_fetches s) (FetchesParts s) (proper_fetches s)
    (format_then (read_some s) write_pointer (ReadsSome s)
    (λ p. both (read_number 2) (λ c. both (read_number 2) (λ m. read_pieces s) (λ m l. (m, l))) (λ c (x : ℕ × List (List ℕ)). (c, x)))
    (λ p (x : ℕ × (ℕ × List (List ℕ))). write_number 2 x.0 ++ (write_number 2 x.1.0 ++ write_pieces s x.1.1))
    (λ p (x : ℕ × (ℕ × List (List ℕ))). (x.0 < 256 ^ 2) × ((x.1.0 < 256 ^ 2) × ReadsPieces s x.1.1))
    (λ p (x : ℕ × (ℕ × List (List ℕ))). record { pointer = p; counted = x.0; matching = x.1.0; pieces = x.1.1 })
    (λ x. x.pointer) (λ x. (x.counted, (x.matching, x.pieces)))
    (λ x. refl) (λ p x g h. refl) (λ p x. refl) (format_some s)
    (λ p.
    format_then (read_number 2) (write_number 2) (λ c. c < 256 ^ 2) (λ c. both (read_number 2) (λ m. read_pieces s) (λ m l. (m, l)))
    (λ c (x : ℕ × List (List ℕ)). write_number 2 x.0 ++ write_pieces s x.1) (λ c (x : ℕ × List (List ℕ)). (x.0 < 256 ^ 2) × ReadsPieces s x.1)
    (λ c (x : ℕ × List (List ℕ)). (c, x)) (λ x. x.0) (λ x. x.1) (λ x. refl) (λ c x g h. refl) (λ c x. refl) (format_number 2)
    (λ c.
    format_then (read_number 2) (write_number 2) (λ m. m < 256 ^ 2) (λ m. read_pieces s) (λ m. write_pieces s) (λ m. ReadsPieces s)
    (λ m l. (m, l)) (λ x. x.0) (λ x. x.1) (λ x. refl) (λ m l g h. refl) (λ m l. refl) (format_number 2) (λ m. format_pieces s))))

-- ---- the work area

abbrev pub ReadsPhase : Measures → Phase → Type 0
ReadsPhase s Phase.idle = Unit {0}
ReadsPhase s (Phase.scanning page) = ReadsPage s page
ReadsPhase s (Phase.storing v a ds) = ReadsStores s (record { version = v; acknowledged = a; digests = ds })
ReadsPhase s (Phase.updating p) = ReadsSome s p
ReadsPhase s (Phase.freezing p) = ReadsSome s p
ReadsPhase s Phase.raising = Unit {0}
ReadsPhase s Phase.picking = Unit {0}
ReadsPhase s (Phase.fetching p c m ps) = ReadsFetches s (record { pointer = p; counted = c; matching = m; pieces = ps })

-- a phase whose step is n
abbrev pub ReadsAt : Measures → ℕ → Phase → Type 0
ReadsAt s n p = (step p ≡ n) × ReadsPhase s p

abbrev storing_of : Stores → Phase
storing_of x = Phase.storing x.version x.acknowledged x.digests

abbrev fetching_of : Fetches → Phase
fetching_of x = Phase.fetching x.pointer x.counted x.matching x.pieces

module _ (s : Measures) where
  work_back : (p : Phase) → ReadsPhase s p → (t : List ℕ) → read_work s (step p) (write_work s p ++ t) ≡ some (record { value = p; rest = t })
  unfolding read_work write_work
  work_back Phase.idle g t = refl
  work_back (Phase.scanning page) g t =
      as_back (read_page s) write_page (ReadsPage s) Phase.scanning (write_work s) (ReadsAt s 1) (λ a h. ((refl, h), refl)) (format_page s) page g t
  work_back (Phase.storing v a ds) g t =
      as_back (read_stores s) write_stores (ReadsStores s) storing_of (write_work s) (ReadsAt s 2) (λ a h. ((refl, h), refl)) (format_stores s)
      (record { version = v; acknowledged = a; digests = ds }) g t
  work_back (Phase.updating p) g t =
      as_back (read_some s) write_pointer (ReadsSome s) Phase.updating (write_work s) (ReadsAt s 3) (λ a h. ((refl, h), refl)) (format_some s) p g t
  work_back (Phase.freezing p) g t =
      as_back (read_some s) write_pointer (ReadsSome s) Phase.freezing (write_work s) (ReadsAt s 4) (λ a h. ((refl, h), refl)) (format_some s) p g t
  work_back Phase.raising g t = refl
  work_back Phase.picking g t = refl
  work_back (Phase.fetching p c m ps) g t =
      as_back (read_fetches s) (write_fetches s) (ReadsFetches s) fetching_of (write_work s) (ReadsAt s 7) (λ a h. ((refl, h), refl)) (format_fetches s)
      (record { pointer = p; counted = c; matching = m; pieces = ps }) g t

  -- what reads is a phase whose step is n, as it is written
  abbrev WorkOnly : ℕ → Reader Phase → Type 0
  WorkOnly n f = (b : List ℕ) (r : Read Phase) → Bytes b → f b ≡ some r → ReadsAt s n r.value × (b ≡ write_work s r.value ++ r.rest)

  work_choose : (n k : ℕ) (f g : Reader Phase) → (n ≡ k → WorkOnly n f) → WorkOnly n g → WorkOnly n (cond (eqb n k) f g)
  work_choose n k f g p q = go (ℕ_discrete n k)
    where
      go : Dec (n ≡ k) → WorkOnly n (cond (eqb n k) f g)
      go (yes h) = rw (eq-eqb n k h) (p h)
      go (no h) = rw (ne_eqb n k h) q

  work_empty : (n : ℕ) (p : Phase) → n ≡ step p → ReadsPhase s p → write_work s p ≡ [] → WorkOnly n (mapped (λ u. p) read_nothing)
  work_empty n p h g w =
      as_only read_nothing (λ u. []) (λ u. Unit {0}) (λ u. p) (write_work s) (ReadsAt s n) (λ u x. ((sym h, g), w)) format_nothing

  work_only : (n : ℕ) → WorkOnly n (read_work s n)
  unfolding read_work write_work
  work_only n =
      work_choose n 0 _ _ (λ h. work_empty n Phase.idle h tt refl)
      (work_choose n 1 _ _
      (λ h. as_only (read_page s) write_page (ReadsPage s) Phase.scanning (write_work s) (ReadsAt s n) (λ a g. ((sym h, g), refl)) (format_page s))
      (work_choose n 2 _ _
      (λ h. as_only (read_stores s) write_stores (ReadsStores s) storing_of (write_work s) (ReadsAt s n) (λ a g. ((sym h, g), refl)) (format_stores s))
      (work_choose n 3 _ _
      (λ h. as_only (read_some s) write_pointer (ReadsSome s) Phase.updating (write_work s) (ReadsAt s n) (λ a g. ((sym h, g), refl)) (format_some s))
      (work_choose n 4 _ _
      (λ h. as_only (read_some s) write_pointer (ReadsSome s) Phase.freezing (write_work s) (ReadsAt s n) (λ a g. ((sym h, g), refl)) (format_some s))
      (work_choose n 5 _ _ (λ h. work_empty n Phase.raising h tt refl)
      (work_choose n 6 _ _ (λ h. work_empty n Phase.picking h tt refl)
      (work_choose n 7 _ _
      (λ h. as_only (read_fetches s) (write_fetches s) (ReadsFetches s) fetching_of (write_work s) (ReadsAt s n) (λ a g. ((sym h, g), refl)) (format_fetches s))
      (λ b r bs e. absurd (none≢some e)))))))))

  pub format_work : (n : ℕ) → Format Phase (read_work s n) (write_work s) (ReadsAt s n)
  format_work n =
      record {
        back = λ p g t.
            ap (λ (x : ℕ). read_work s x (write_work s p ++ t)) (sym g.0) ∙ work_back p g.1 t;
        only = work_only n;
      }

-- ---- what is kept between operations

-- a pointer in its area
abbrev ReadsPointer : Measures → Pointer → Type 0
ReadsPointer s p = (GoodPointer s p × Unit {0}) × (leb (length (write_pointer p)) (pointer_size s) ≡ true)

format_pointer_area : (s : Measures) → Format Pointer (pointer_area s) (write_area (pointer_size s) write_pointer) (ReadsPointer s)
format_pointer_area s = format_area (pointer_size s) (read_pointer s) write_pointer (GoodPointer s) (format_pointer s)

format_reserved : (s : Measures) → Format Version (read_reserved s) write_version (GoodReserved s)
unfolding read_reserved
format_reserved s = format_check read_version write_version GoodVersion (proper_reserved s) format_version

abbrev ReadsRetained : Measures → Retained → Type 0
ReadsRetained s x =
    ReadsPointer s x.written
    × ((Each (ReadsPointer s) x.frozen × (length x.frozen ≡ s.m))
    × ((Each (GoodReserved s) x.reserved × (length x.reserved ≡ s.m))
    × (Each GoodIndex x.frozen_indices × (length x.frozen_indices ≡ s.m))))

format_retained : (s : Measures) → Format Retained (read_retained s) (write_retained s) (ReadsRetained s)
unfolding read_retained write_retained
format_retained s =
    format_then (pointer_area s) (write_area (pointer_size s) write_pointer) (ReadsPointer s)
    (λ w. both (read_many (pointer_area s) s.m)
    (λ f. both (read_many (read_reserved s) s.m) (λ r. read_many read_index s.m) (λ r i. (r, i)))
    (λ f (x : List Version × List ReadingIndex). (f, x)))
    (λ w (x : List Pointer × (List Version × List ReadingIndex)).
    write_many (write_area (pointer_size s) write_pointer) x.0 ++ (write_many write_version x.1.0 ++ write_many write_index x.1.1))
    (λ w (x : List Pointer × (List Version × List ReadingIndex)).
    (Each (ReadsPointer s) x.0 × (length x.0 ≡ s.m))
    × ((Each (GoodReserved s) x.1.0 × (length x.1.0 ≡ s.m)) × (Each GoodIndex x.1.1 × (length x.1.1 ≡ s.m))))
    (λ w (x : List Pointer × (List Version × List ReadingIndex)). record { written = w; frozen = x.0; reserved = x.1.0; frozen_indices = x.1.1 })
    (λ x. x.written) (λ x. (x.frozen, (x.reserved, x.frozen_indices))) (λ x. refl) (λ w x g h. refl) (λ w x. refl)
    (format_pointer_area s)
    (λ w.
    format_then (read_many (pointer_area s) s.m) (write_many (write_area (pointer_size s) write_pointer)) (λ f. Each (ReadsPointer s) f × (length f ≡ s.m))
    (λ f. both (read_many (read_reserved s) s.m) (λ r. read_many read_index s.m) (λ r i. (r, i)))
    (λ f (x : List Version × List ReadingIndex). write_many write_version x.0 ++ write_many write_index x.1)
    (λ f (x : List Version × List ReadingIndex). (Each (GoodReserved s) x.0 × (length x.0 ≡ s.m)) × (Each GoodIndex x.1 × (length x.1 ≡ s.m)))
    (λ f (x : List Version × List ReadingIndex). (f, x)) (λ x. x.0) (λ x. x.1) (λ x. refl) (λ f x g h. refl) (λ f x. refl)
    (format_many (pointer_area s) (write_area (pointer_size s) write_pointer) (ReadsPointer s) (format_pointer_area s) s.m)
    (λ f.
    format_then (read_many (read_reserved s) s.m) (write_many write_version) (λ r. Each (GoodReserved s) r × (length r ≡ s.m))
    (λ r. read_many read_index s.m) (λ r. write_many write_index) (λ r i. Each GoodIndex i × (length i ≡ s.m))
    (λ r i. (r, i)) (λ x. x.0) (λ x. x.1) (λ x. refl) (λ r i g h. refl) (λ r i. refl)
    (format_many (read_reserved s) write_version (GoodReserved s) (format_reserved s) s.m)
    (λ r. format_many read_index write_index GoodIndex format_index s.m)))

-- ---- the record

abbrev ReadsWork : Measures → ℕ → Phase → Type 0
ReadsWork s n p = (ReadsAt s n p × Unit {0}) × (leb (length (write_work s p)) (work_size s) ≡ true)

abbrev ReadsClient : Measures → Client → Type 0
ReadsClient s c =
    (step c.phase < 256 ^ 1) × (GoodIndex c.reading_index × (ReadsRetained s (retained c) × ReadsWork s (step c.phase) c.phase))

format_client : (s : Measures) → Format Client (read_client s) (write_client s) (ReadsClient s)
unfolding read_client write_client
format_client s =
    format_then (read_number 1) (write_number 1) (λ n. n < 256 ^ 1)
    (λ n. both read_index
    (λ i. both (read_retained s) (λ x. read_area (work_size s) (read_work s n) (write_work s)) (λ x p. (x, p)))
    (λ i (y : Retained × Phase). (i, y)))
    (λ n (y : ReadingIndex × (Retained × Phase)). write_index y.0 ++ (write_retained s y.1.0 ++ write_area (work_size s) (write_work s) y.1.1))
    (λ n (y : ReadingIndex × (Retained × Phase)). GoodIndex y.0 × (ReadsRetained s y.1.0 × ReadsWork s n y.1.1))
    (λ n (y : ReadingIndex × (Retained × Phase)). client_of y.0 y.1.0 y.1.1)
    (λ c. step c.phase) (λ c. (c.reading_index, (retained c, c.phase)))
    (λ c. refl) (λ n y g h. h.1.1.0.0.0) (λ n y. refl) (format_number 1)
    (λ n.
    format_then read_index write_index GoodIndex
    (λ i. both (read_retained s) (λ x. read_area (work_size s) (read_work s n) (write_work s)) (λ x p. (x, p)))
    (λ i (y : Retained × Phase). write_retained s y.0 ++ write_area (work_size s) (write_work s) y.1)
    (λ i (y : Retained × Phase). ReadsRetained s y.0 × ReadsWork s n y.1)
    (λ i (y : Retained × Phase). (i, y)) (λ y. y.0) (λ y. y.1) (λ y. refl) (λ i y g h. refl) (λ i y. refl) format_index
    (λ i.
    format_then (read_retained s) (write_retained s) (ReadsRetained s) (λ x. read_area (work_size s) (read_work s n) (write_work s))
    (λ x. write_area (work_size s) (write_work s)) (λ x. ReadsWork s n)
    (λ x p. (x, p)) (λ y. y.0) (λ y. y.1) (λ y. refl) (λ x p g h. refl) (λ x p. refl) (format_retained s)
    (λ x. format_area (work_size s) (read_work s n) (write_work s) (ReadsAt s n) (format_work s n))))

-- ---- what reads is what is good

pieces-short : (s : Measures) (ps : List (List ℕ)) → EachOf (ReadsPiece s) (lengths ps) ps → Each (ShortPiece s) ps
pieces-short s [] g = tt
pieces-short s (p ∷ ps) g = ((g.0.0.0.0, leb-true (length p) s.f g.0.1), pieces-short s ps g.1)

short-pieces : (s : Measures) (ps : List (List ℕ)) → Each (ShortPiece s) ps → EachOf (ReadsPiece s) (lengths ps) ps
short-pieces s [] g = tt
short-pieces s (p ∷ ps) g = ((((g.0.0, refl), tt), le-leb (length p) s.f g.0.1), short-pieces s ps g.1)

short_lengths : (s : Measures) → s.f ≤ 4096 → (ps : List (List ℕ)) → Each (ShortPiece s) ps → Each (λ l. l < 256 ^ 2) (lengths ps)
short_lengths s h [] g = tt
short_lengths s h (p ∷ ps) g = (omega (arith, g.0.1), short_lengths s h ps g.1)

pub phase_good : (s : Measures) (p : Phase) → ReadsPhase s p → GoodPhase s p
phase_good s Phase.idle g = tt
phase_good s (Phase.scanning page) g = (g.0.1.0, g.1)
phase_good s (Phase.storing v a ds) g =
    let t = and-true (proper_version s v) _ g.1 in
    let u = and-true (ltb a (2 ^ s.n)) _ t.1 in
    (g.0.0, t.0, ltb-true a (2 ^ s.n) u.0, ltb-true (count a) (s.t + s.k) u.1, g.0.1.1.0, g.0.1.1.1)
phase_good s (Phase.updating p) g = (g.0, not-true (is_none p) g.1)
phase_good s (Phase.freezing p) g = (g.0, not-true (is_none p) g.1)
phase_good s Phase.raising g = tt
phase_good s Phase.picking g = tt
phase_good s (Phase.fetching p c m ps) g =
    let t = and-true (ltb m (2 ^ s.n)) _ g.1 in
    let x = g.0.1.1.1 in (
      g.0.0.0,
      not-true (is_none p) g.0.0.1,
      g.0.1.0,
      ltb-true m (2 ^ s.n) t.0,
      ltb-true (count m) s.k t.1,
      pieces-short s ps x.1,
      sym (length-map ps length) ∙ x.0.1,
    )

-- a map of the nodes fits 2 bytes
pub map-fits : (s : Measures) → Passed s → (a : ℕ) → a < 2 ^ s.n → a < 256 ^ 2
map-fits s p a h = omega (arith, p.nodes, pow_mono {j = 16} p.nodes.1)

-- a page fits a frame of k pieces
page-fits : (s : Measures) → Passed s → (page : List ℕ) → leb (length page) (s.k * s.f - 4) ≡ true → length page + 4 ≤ s.k * s.f
page-fits s p page h = omega (arith, leb-true (length page) (s.k * s.f - 4) h, p.frame)

frame-fits : (s : Measures) → Passed s → s.k * s.f ≤ s.n * s.f
frame-fits s p = let h : s.k ≤ s.n = omega (arith, p.enough) in mul-le-mul_right s.f h

phase-reads : (s : Measures) → Passed s → (p : Phase) → GoodPhase s p → ReadsPhase s p
phase-reads s h Phase.idle g = tt
phase-reads s h (Phase.scanning page) g =
    let a : s.k ≤ 16 = omega (arith, h.enough, h.nodes) in
    let l : length page < 256 ^ 4 = omega (arith, page-fits s h page g.1, mul-le-mul a h.bytes.1) in
    ((l, (g.0, refl)), g.1)
phase-reads s h (Phase.storing v a ds) g =
    ((g.0, (map-fits s h a g.2, (g.4, g.5))), simp (g.1, lt-ltb a (2 ^ s.n) g.2, lt-ltb (count a) (s.t + s.k) g.3))
phase-reads s h (Phase.updating p) g = (g.0, ap not g.1)
phase-reads s h (Phase.freezing p) g = (g.0, ap not g.1)
phase-reads s h Phase.raising g = tt
phase-reads s h Phase.picking g = tt
phase-reads s h (Phase.fetching p c m ps) g = (
  (
    (g.0, ap not g.1),
    (g.2, (map-fits s h m g.3, ((short_lengths s h.bytes.1 ps g.5, length-map ps length ∙ g.6), short-pieces s ps g.5))),
  ),
  simp (lt-ltb m (2 ^ s.n) g.3, lt-ltb (count m) s.k g.4),
)

-- ---- lengths

-- the areas that joining takes
pub length-areas : (s : Measures) (ps : List (List ℕ)) → Each (ShortPiece s) ps → length (areas s ps) ≡ length ps * s.f
length-areas s = length-same (write_area s.f (λ p. p)) (ShortPiece s) s.f (λ p h. length_area s.f (λ p. p) p h.1)

length-pieces : (s : Measures) (ps : List (List ℕ)) → Each (ShortPiece s) ps → length ps ≡ s.n → length (write_pieces s ps) ≡ s.n * 2 + s.n * s.f
unfolding write_pieces
length-pieces s ps g e =
    length-append (write_many (write_number 2) (lengths ps)) (areas s ps)
    ∙ omega (
      arith,
      length-same (write_number 2) (λ l. Unit {0}) 2 (λ l u. length-number 2 l) (lengths ps) (each_all (λ l. Unit {0}) (λ l. tt) (lengths ps)),
      length-areas s ps g,
      ap (λ (x : ℕ). x * 2) (length-map ps length ∙ e),
      ap (λ (x : ℕ). x * s.f) e,
    )

-- each phase's work has room
pub work_fits : (s : Measures) → Passed s → (p : Phase) → GoodPhase s p → length (write_work s p) ≤ work_size s
unfolding write_work write_page write_stores write_fetches
work_fits s h Phase.idle g = omega arith
work_fits s h (Phase.scanning page) g =
    omega (
      arith,
      length-append (write_number 4 (length page)) page,
      length-number 4 (length page),
      page-fits s h page g.1,
      frame-fits s h,
      mul-add s.n 34 s.f,
    )
work_fits s h (Phase.storing v a ds) g =
    omega (
      arith,
      length-append (write_version v) (write_number 2 a ++ write_many (λ d. d) ds),
      length-version v,
      length-append (write_number 2 a) (write_many (λ d. d) ds),
      length-number 2 a,
      length-same (λ d. d) GoodDigest 32 (λ d x. x.1) ds g.4,
      ap (λ (x : ℕ). x * 32) g.5,
      mul-add s.n 34 s.f,
    )
work_fits s h (Phase.updating p) g = omega (arith, pointer-fits s p g.0)
work_fits s h (Phase.freezing p) g = omega (arith, pointer-fits s p g.0)
work_fits s h Phase.raising g = omega arith
work_fits s h Phase.picking g = omega arith
work_fits s h (Phase.fetching p c m ps) g =
    omega (
      arith,
      length-append (write_pointer p) (write_number 2 c ++ (write_number 2 m ++ write_pieces s ps)),
      pointer-fits s p g.0,
      length-append (write_number 2 c) (write_number 2 m ++ write_pieces s ps),
      length-number 2 c,
      length-append (write_number 2 m) (write_pieces s ps),
      length-number 2 m,
      length-pieces s ps g.5 g.6,
      mul-add s.n 34 s.f,
    )

-- ---- the laws

pub step_byte : (p : Phase) → step p < 256 ^ 1
step_byte Phase.idle = omega arith
step_byte (Phase.scanning page) = omega arith
step_byte (Phase.storing v a ds) = omega arith
step_byte (Phase.updating p) = omega arith
step_byte (Phase.freezing p) = omega arith
step_byte Phase.raising = omega arith
step_byte Phase.picking = omega arith
step_byte (Phase.fetching p c m ps) = omega arith

pointer-reads : (s : Measures) (p : Pointer) → GoodPointer s p → ReadsPointer s p
pointer-reads s p g = ((g, tt), le-leb (length (write_pointer p)) (pointer_size s) (pointer-fits s p g))

client-reads : (s : Measures) → Passed s → (c : Client) → GoodClient s c → ReadsClient s c
client-reads s h c g = (
  step_byte c.phase,
  (
    g.index,
    (
      (
        pointer-reads s c.written g.written,
        ((each_as (GoodPointer s) (ReadsPointer s) (pointer-reads s) c.frozen g.frozen.0, g.frozen.1), (g.reserved, g.indices)),
      ),
      (((refl, phase-reads s h c.phase g.phase), tt), le-leb (length (write_work s c.phase)) (work_size s) (work_fits s h c.phase g.phase)),
    ),
  ),
)

client_good : (s : Measures) (c : Client) → ReadsClient s c → GoodClient s c
client_good s c g =
    let x = g.1.1.0 in
    record {
      phase = phase_good s c.phase g.1.1.1.0.0.1;
      index = g.1.0;
      written = x.0.0.0;
      frozen = (each_as (ReadsPointer s) (GoodPointer s) (λ p h. h.0.0) c.frozen x.1.0.0, x.1.0.1);
      reserved = x.1.1.0;
      indices = x.1.1.1;
    }

-- a client's record reads back
pub client-back : (s : Measures) → passes s ≡ true → (c : Client) → GoodClient s c → (rest : List ℕ)
    → read_client s (write_client s c ++ rest) ≡ some (record { value = c; rest = rest })
client-back s h c g rest = (format_client s).back c (client-reads s (passed s h) c g) rest

-- and what reads is a good record, as it is written
pub client_only : (s : Measures) (b : List ℕ) (r : Read Client) → Bytes b → read_client s b ≡ some r
    → GoodClient s r.value × (b ≡ write_client s r.value ++ r.rest)
client_only s b r bs e = let x = (format_client s).only b r bs e in (client_good s r.value x.0, x.1)

-- what is retained reads by itself: of the client who is idle and has read nothing
abbrev pub keeper : Retained → Client
keeper x = client_of (record { 0 = 0 }) x Phase.idle

pub retained-back : (s : Measures) (c : Client) → GoodClient s c → (rest : List ℕ)
    → read_retained s (write_retained s (retained c) ++ rest) ≡ some (record { value = retained c; rest = rest })
retained-back s c g rest =
    (format_retained s).back (retained c) (
      pointer-reads s c.written g.written,
      ((each_as (GoodPointer s) (ReadsPointer s) (pointer-reads s) c.frozen g.frozen.0, g.frozen.1), (g.reserved, g.indices)),
    ) rest

pub retained_only : (s : Measures) (b : List ℕ) (r : Read Retained) → Bytes b → read_retained s b ≡ some r
    → GoodClient s (keeper r.value) × (b ≡ write_retained s r.value ++ r.rest)
retained_only s b r bs e =
    let x = (format_retained s).only b r bs e in (
      record {
        phase = tt;
        index = omega arith;
        written = x.0.0.0.0;
        frozen = (each_as (ReadsPointer s) (GoodPointer s) (λ p h. h.0.0) r.value.frozen x.0.1.0.0, x.0.1.0.1);
        reserved = x.0.1.1.0;
        indices = x.0.1.1.1;
      },
      x.1,
    )

pub length_retained : (s : Measures) (c : Client) → GoodClient s c → length (write_retained s (retained c)) ≡ (s.m + 1) * pointer_size s + 9 * s.m
unfolding write_retained
length_retained s c g =
    let z = pointer_size s in
    let w = write_area z write_pointer in
    let a = w c.written in
    let b = write_many w c.frozen in
    let v = write_many write_version c.reserved in
    let i = write_many write_index c.frozen_indices in
    omega (
      arith,
      length-append a (b ++ (v ++ i)),
      length_area z write_pointer c.written (pointer-fits s c.written g.written),
      length-append b (v ++ i),
      length-same w (GoodPointer s) z (λ p h. length_area z write_pointer p (pointer-fits s p h)) c.frozen g.frozen.0,
      length-append v i,
      length-same write_version (GoodReserved s) 5 (λ x h. length-version x) c.reserved g.reserved.0,
      length-same write_index GoodIndex 4 (λ x h. length-index x) c.frozen_indices g.indices.0,
      ap (λ (x : ℕ). x * z) g.frozen.1,
      g.reserved.1,
      g.indices.1,
      stride s.m z,
    )

-- its bytes are as many as the measures tell
pub length-client : (s : Measures) → passes s ≡ true → (c : Client) → GoodClient s c → length (write_client s c) ≡ client_size s
unfolding write_client
length-client s h c g =
    let a = write_index c.reading_index in
    let b = write_retained s (retained c) in
    let d = write_area (work_size s) (write_work s) c.phase in
    omega (
      arith,
      length-append (write_number 1 (step c.phase)) (a ++ (b ++ d)),
      length-number 1 (step c.phase),
      length-append a (b ++ d),
      length-index c.reading_index,
      length-append b d,
      length_retained s c g,
      length_area (work_size s) (write_work s) c.phase (work_fits s (passed s h) c.phase g.phase),
    )

pub fresh-client : (s : Measures) → GoodClient s (fresh_client s)
fresh-client s =
    record {
      phase = tt;
      index = omega arith;
      written = none_good s;
      frozen = (each-replicate (GoodPointer s) s.m none_pointer (none_good s), length-replicate s.m none_pointer);
      reserved = (each-replicate (GoodReserved s) s.m no_version ((omega arith, omega arith), refl), length-replicate s.m no_version);
      indices = (each-replicate GoodIndex s.m (record { 0 = 0 }) (omega arith), length-replicate s.m (record { 0 = 0 }));
    }
