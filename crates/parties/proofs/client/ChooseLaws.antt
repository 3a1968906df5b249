-- Laws of what the rows of a scan offer a reading.
use mathlib.Core.Path.{◌≡◌, refl, sym, ap, ap₂, subst, ◌∙◌}
use mathlib.Core.Bool.{Bool, true, false, cond, ◌&&◌, ◌||◌}
use mathlib.Core.List.{List, [], ◌∷◌, ◌++◌, append_assoc, append-nil}
use mathlib.Core.Option.{Option, some}
use Prim.Native.Nat.{ℕ, suc, ◌+◌, ◌-◌, ◌*◌, ◌^◌, ◌<◌, ◌≤◌}
use native.Mathlib.Omega.{arith}
use borrow.Author.Tests.{le-ltb, leb-true, eqb-true, ne_eqb}
use lib.Dec.{leb, ltb, eqb}
use lib.ListN.{length, take, drop, get_or, replicate, length-replicate, length-append, length-drop}
use lib.Seq.{length-take-le, drop-drop, drop-cons, drop-length, split_at, paste}
use Rattle.coding.specs.Bytes.{Bytes}
use Rattle.coding.proofs.PageLaws.{some_eq}
use Rattle.coding.proofs.Cases.{and-true}
use Rattle.parties.specs.declared.Measures.{Measures}
use Rattle.parties.specs.declared.ReadingIndex.{ReadingIndex}
use Rattle.parties.specs.declared.Version.{Version}
use Rattle.parties.specs.protocol.Format.{Read, read_number, read_many, write_many, write_area}
use Rattle.parties.specs.protocol.Measures.{row_size}
use Rattle.parties.specs.protocol.Nodes.{nodes_in}
use Rattle.parties.specs.protocol.Version as version
use Rattle.parties.specs.protocol.Pointer.{Pointer, none_pointer, is_none, proper_pointer, read_pointer, write_named, write_pointer}
use Rattle.parties.specs.protocol.Directory.{Row, no_row, row_fields, write_index, write_content, write_fields, write_row, read_row, read_directory}
use Rattle.parties.specs.protocol.Reading.{candidate, pick}
use Rattle.parties.specs.protocol.Message.{ToNode, write_to_node}
use Rattle.parties.specs.protocol.ClientEvents.{lay}
use Rattle.parties.proofs.protocol.formats.FormatLaws.{Each, length-same, format_many}
use Rattle.parties.proofs.protocol.formats.EachLaws.{each_at}
use Rattle.parties.proofs.protocol.formats.PointerLaws.{GoodPointer, format_pointer}
use Rattle.parties.proofs.protocol.formats.DirectoryLaws.{GoodIndex, length-index}
use Rattle.parties.proofs.protocol.formats.RowLaws.{format_row}
use Rattle.parties.specs.declared.client.choose.Offer.{Offer}
use Rattle.parties.specs.records.Form.{rest}
use Rattle.parties.specs.client.Record.{is_some}
use Rattle.parties.specs.client.Pick.{picked_part}
use Rattle.parties.specs.records.Places.{version_at, splice}
use Rattle.parties.specs.client.Draw.{rows_of}
use Rattle.parties.specs.client.Choose.{row_of, offered}
use Rattle.parties.proofs.records.RecordLaws.{bytes_drop, row_bytes}
use Rattle.parties.proofs.records.SpliceLaws.{many-append, to_end, paste_all, area_put_lem, many_at}
use Rattle.parties.proofs.node.ShownLaws.{version-bytes, each_left, each_right}
use Rattle.parties.proofs.client.PickLaws.{picked_pointer}
use Rattle.parties.proofs.records.PlaceLaws.{number_read, version-there}
use Rattle.parties.proofs.records.SizeLaws.{below_rows}
use Rattle.parties.proofs.directory.UpdateEndLaws.{own_row_lem}
use Rattle.parties.proofs.client.GateLaws.{some_value}
use Rattle.parties.proofs.client.DrawLaws.{rows-count}

-- ---- a row's parts

fields-bytes : (r : Row) (u : List ℕ)
    → write_fields (row_fields r) ++ u
    ≡ write_many write_pointer (r.written ∷ r.frozen) ++ (write_many write_index r.frozen_indices ++ (write_many write_index (r.reading_index ∷ []) ++ u))
unfolding write_fields write_content write_many
fields-bytes r u =
    let w = write_pointer r.written in
    let f = write_many write_pointer r.frozen in
    let i = write_many write_index r.frozen_indices in
    let j = write_index r.reading_index ++ [] in
    ap₂ (λ (x y : List ℕ). (x ++ (f ++ (i ++ y))) ++ u) (append-nil w) (append-nil j)
    ∙ ap (λ (x : List ℕ). x ++ u) (sym (append_assoc w f (i ++ j)))
    ∙ append_assoc (w ++ f) (i ++ j) u
    ∙ ap (λ (x : List ℕ). (w ++ f) ++ x) (append_assoc i j u)

-- what the row at a place says, and its bytes
pub record Row-at (s : Measures) (t : List ℕ) (at : ℕ) (v : Row) : Type 0 where
  pub written : GoodPointer s v.written
  pub frozen : Each (GoodPointer s) v.frozen
  pub clients : length v.frozen ≡ s.m
  pub indices : Each GoodIndex v.frozen_indices
  pub many : length v.frozen_indices ≡ s.m
  pub index : GoodIndex v.reading_index
  pub spare : List ℕ
  pub bytes : drop (at + 1) t
      ≡ write_many write_pointer (v.written ∷ v.frozen) ++ (write_many write_index v.frozen_indices ++ (write_index v.reading_index ++ spare))

pub row_at : (s : Measures) (t : List ℕ) (at : ℕ) (r : Read Row) → Bytes t → read_row s (drop at t) ≡ some r → Row-at s t at r.value
unfolding write_area write_many
row_at s t at r b e =
    let v = r.value in
    let x = (format_row s).only (drop at t) r (bytes_drop at t b) e in
    let g = x.0.0.0.0.1 in
    let z = replicate {A = ℕ} (row_size s - length (write_row v)) 0 in
    let p = write_many write_pointer (v.written ∷ v.frozen) in
    let f = write_many write_index v.frozen_indices in
    record {
      written = g.1.0.0.0;
      frozen = g.1.1.1.0.0;
      clients = g.1.1.1.0.1;
      indices = g.1.1.1.1.1.0.0;
      many = g.1.1.1.1.1.0.1;
      index = g.1.1.1.1.1.1.1.0.0.0;
      spare = z ++ r.rest;
      bytes =
          sym (drop-drop 1 at t)
          ∙ ap (drop 1) (x.1 ∙ append_assoc (write_row v) z r.rest ∙ ap (λ (l : List ℕ). l ++ (z ++ r.rest)) (row_bytes v))
          ∙ fields-bytes v (z ++ r.rest)
          ∙ ap (λ (l : List ℕ). p ++ (f ++ l)) (append_assoc (write_index v.reading_index) [] (z ++ r.rest));
    }

-- the pointers in two parts: those before this client's frozen one, and the others; then the indices
module _ (s : Measures) (t : List ℕ) (at : ℕ) (v : Row) (x : Row-at s t at v) (own : ℕ) (o : own < s.m) where
  abbrev mine : Pointer
  mine = get_or v.frozen own none_pointer

  abbrev front : List Pointer
  front = v.written ∷ take own v.frozen

  abbrev others : List Pointer
  others = mine ∷ drop (suc own) v.frozen

  abbrev after : List ℕ
  after = write_index v.reading_index ++ x.spare

  abbrev behind : List ℕ
  behind = write_many write_index v.frozen_indices ++ after

  cut : v.frozen ≡ take own v.frozen ++ others
  cut = split_at v.frozen own none_pointer (omega (arith, x.clients))

  cut_good : Each (GoodPointer s) (take own v.frozen ++ others)
  cut_good = subst (Each (GoodPointer s)) cut x.frozen

  read-front : read_many (read_pointer s) (own + 1) (drop (at + 1) t) ≡ some (record { value = front; rest = write_many write_pointer others ++ behind })
  read-front =
      let l : suc (length (take own v.frozen)) ≡ own + 1 = omega (arith, length-take-le own v.frozen (omega (arith, x.clients))) in
      ap (read_many (read_pointer s) (own + 1))
      (x.bytes
      ∙ ap (λ (l : List Pointer). write_many write_pointer (v.written ∷ l) ++ behind) cut
      ∙ ap (λ (u : List ℕ). u ++ behind) (many-append write_pointer front others)
      ∙ append_assoc (write_many write_pointer front) (write_many write_pointer others) behind)
      ∙ (format_many (read_pointer s) write_pointer (GoodPointer s) (format_pointer s) (own + 1)).back front
      ((x.written, each_left (GoodPointer s) (take own v.frozen) others cut_good), l) (write_many write_pointer others ++ behind)

  front_left : (frozen : ℕ) → rest (read_many (read_pointer s) (own + 1) (drop (at + 1) t)) ≡ some (drop frozen t)
      → drop frozen t ≡ write_many write_pointer others ++ behind
  front_left frozen h = some_eq (sym h ∙ ap rest read-front)

  read_others_lem : (frozen : ℕ) → drop frozen t ≡ write_many write_pointer others ++ behind
      → read_many (read_pointer s) (s.m - own) (drop frozen t) ≡ some (record { value = others; rest = behind })
  read_others_lem frozen h =
      let l : suc (length (drop (suc own) v.frozen)) ≡ s.m - own = omega (arith, length-drop (suc own) v.frozen, x.clients) in
      ap (read_many (read_pointer s) (s.m - own)) h
      ∙ (format_many (read_pointer s) write_pointer (GoodPointer s) (format_pointer s) (s.m - own)).back others
      (each_right (GoodPointer s) (take own v.frozen) others cut_good, l) behind

  others_left : (frozen indices : ℕ) → drop frozen t ≡ write_many write_pointer others ++ behind
      → rest (read_many (read_pointer s) (s.m - own) (drop frozen t)) ≡ some (drop indices t) → drop indices t ≡ behind
  others_left frozen indices e h = some_eq (sym h ∙ ap rest (read_others_lem frozen e))

  index-fits : (indices : ℕ) → drop indices t ≡ behind → indices ≤ length t → indices + 4 * own + 4 ≤ length t
  index-fits indices e h =
      omega (
        arith,
        ap length e,
        length-drop indices t,
        length-append (write_many write_index v.frozen_indices) after,
        length-same write_index GoodIndex 4 (λ i g. length-index i) v.frozen_indices x.indices,
        x.many,
      )

  abbrev frozen_index : ReadingIndex
  frozen_index = get_or v.frozen_indices own (record { 0 = 0 })

  index-told : (indices i : ℕ) (u : List ℕ) → drop indices t ≡ behind → read_number 4 (drop (indices + 4 * own) t) ≡ some (record { value = i; rest = u })
      → frozen_index.0 ≡ i
  unfolding write_index
  index-told indices i u e h =
      let l = v.frozen_indices in
      let n : own < length l = omega (arith, x.many) in
      let k : 4 * own ≡ own * 4 = omega arith in
      let f = sym (drop-drop (4 * own) indices t) ∙ (λ j. drop (k j) (e j))
      ∙ many_at write_index GoodIndex 4 (λ i g. length-index i) after (record { 0 = 0 }) l own x.indices n
      in
      sym (number_read 4 t (indices + 4 * own) frozen_index.0 _ (each_at GoodIndex (record { 0 = 0 }) l x.indices own n) f i u h)

  mine_good : GoodPointer s mine
  mine_good = (each_right (GoodPointer s) (take own v.frozen) others cut_good).0

  picks : (index : ReadingIndex) (frozen i : ℕ) → drop frozen t ≡ write_many write_pointer others ++ behind → frozen_index.0 ≡ i
      → picked_part (drop (at + 1) t) (drop frozen t) index (record { 0 = i }) ≡ write_pointer (candidate own index v)
  unfolding write_many
  picks index frozen i e q =
      let y = write_many write_pointer v.frozen in
      let z = write_many write_pointer (drop (suc own) v.frozen) in
      ap₂ (λ (a b : List ℕ). picked_part a b index (record { 0 = i }))
      (x.bytes ∙ append_assoc (write_pointer v.written) y behind) (e ∙ append_assoc (write_pointer mine) z behind)
      ∙ ap (λ (k : ℕ). picked_part (write_pointer v.written ++ (y ++ behind)) (write_pointer mine ++ (z ++ behind)) index (record { 0 = k })) (sym q)
      ∙ picked_pointer s v.written mine x.written mine_good (y ++ behind) (z ++ behind) index frozen_index

  candidate_good : (index : ReadingIndex) → GoodPointer s (candidate own index v)
  candidate_good index = go (ltb frozen_index.0 index.0)
    where
      go : (b : Bool) → GoodPointer s (cond b v.written mine)
      go true = x.written
      go false = mine_good

-- parts to the end of some bytes, as the code takes them
pub picked_whole : (t : List ℕ) (a b : ℕ) (index frozen_index : ReadingIndex)
    → picked_part (take (length t - a) (drop a t)) (take (length t - b) (drop b t)) index frozen_index ≡ picked_part (drop a t) (drop b t) index frozen_index
picked_whole t a b index frozen_index = ap₂ (λ (x y : List ℕ). picked_part x y index frozen_index) (to_end t a) (to_end t b)

-- ---- the same at a place where a row reads

module _ (s : Measures) (own : ℕ) (index : ReadingIndex) (t : List ℕ) (at : ℕ) (b : Bytes t) (o : own < s.m) (e : is_some (read_row s (drop at t)) ≡ true) where
  row_shown : Row-at s t at (row_of (read_row s (drop at t)))
  row_shown =
      let x = some_value (read_row s (drop at t)) e in
      subst (Row-at s t at) (sym (ap row_of x.1)) (row_at s t at x.0 b x.1)

  pub front_reads : is_some (read_many (read_pointer s) (own + 1) (drop (at + 1) t)) ≡ true
  front_reads = ap is_some (read-front s t at _ row_shown own o)

  module _ (frozen : ℕ) (h : rest (read_many (read_pointer s) (own + 1) (drop (at + 1) t)) ≡ some (drop frozen t)) where
    pub others_read : is_some (read_many (read_pointer s) (s.m - own) (drop frozen t)) ≡ true
    others_read = ap is_some (read_others_lem s t at _ row_shown own o frozen (front_left s t at _ row_shown own o frozen h))

    module _ (indices : ℕ) (k : rest (read_many (read_pointer s) (s.m - own) (drop frozen t)) ≡ some (drop indices t)) where
      indices_left : drop indices t ≡ behind s t at _ row_shown own o
      indices_left = others_left s t at _ row_shown own o frozen indices (front_left s t at _ row_shown own o frozen h) k

      pub index-room : indices ≤ length t → indices + 4 * own + 4 ≤ length t
      index-room l = index-fits s t at _ row_shown own o indices indices_left l

      pub offered_picks : (i : ℕ) (u : List ℕ) → read_number 4 (drop (indices + 4 * own) t) ≡ some (record { value = i; rest = u })
          → picked_part (drop (at + 1) t) (drop frozen t) index (record { 0 = i }) ≡ write_pointer (offered s own index t at)
      unfolding offered
      offered_picks i u q =
          picks s t at _ row_shown own o index frozen i (front_left s t at _ row_shown own o frozen h) (index-told s t at _ row_shown own o indices i u indices_left q)

  pub offered_good : GoodPointer s (offered s own index t at)
  unfolding offered
  offered_good = candidate_good s t at _ row_shown own o index

-- the version that some pointer's bytes show
module _ (s : Measures) (p : Pointer) (g : GoodPointer s p) (u : List ℕ) (e : u ≡ write_pointer p) where
  shown-there : (0 + 5 ≤ length u) × (version_at u 0 ≡ p.version)
  unfolding write_pointer
  shown-there = version-there u 0 p.version (write_named p.named) g.0.0 e

  pub version-fits : 0 + 5 ≤ length u
  version-fits = shown-there.0

  pub version-shown : version_at u 0 ≡ p.version
  version-shown = shown-there.1

either : (a b r : Bool) (P : Type 0) → (a || (b && r)) ≡ true → (a ≡ true → P) → (b ≡ true → P) → P
either true b r P h f g = f refl
either false true r P h f g = g refl
either false false r P h f g = absurd (omega (arith, ap (λ (x : Bool). cond {A = ℕ} x 1 0) h))

-- no pointer's version is below none's
none_lowest : (s : Measures) (p : Pointer) → GoodPointer s p → version.below p.version version.no_version ≡ false
unfolding proper_pointer
none_lowest s p g =
    let q = p.version.sequence.0 in
    let c = p.version.client in
    either (is_none p) (leb 1 q) (ltb c s.m && (eqb (length (nodes_in p.named.nodes)) (s.t + s.k) && ltb p.named.nodes (2 ^ s.n)))
    (version.below p.version version.no_version ≡ false) g.1
    (λ e.
    let x = and-true (eqb q 0) (eqb c 255 && eqb p.named.nodes 0) e in
    let y = and-true (eqb c 255) (eqb p.named.nodes 0) x.1 in
    ap₂ (λ (a b : ℕ). ltb a 0 || (eqb a 0 && ltb b 255)) (eqb-true q 0 x.0) (eqb-true c 255 y.0))
    (λ e.
    let l : 1 ≤ q = leb-true 1 q e in
    ap₂ (λ (a b : Bool). a || (b && ltb c 255)) (le-ltb q 0 (omega arith)) (ne_eqb q 0 (λ z. omega (arith, l, z))))

-- ---- the pick

-- the best offer of the rows from i on
pub record Chosen (s : Measures) (own : ℕ) (index : ReadingIndex) (t : List ℕ) (i : ℕ) (o : Offer) : Type 0 where
  pub picked : pick own index (drop i (rows_of (read_directory s t))) ≡ offered s own index t o.row
  pub version : o.version ≡ (offered s own index t o.row).version
  pub fits : o.row + row_size s ≤ length t
  pub reads : is_some (read_row s (drop o.row t)) ≡ true

module _ (s : Measures) (own : ℕ) (index : ReadingIndex) (t : List ℕ) (b : Bytes t) (o : own < s.m) (h : s.m * row_size s ≤ length t)
    (e : is_some (read_directory s t) ≡ true) where
  abbrev rows : List Row
  rows = rows_of (read_directory s t)

  row_read : (i : ℕ) → i < s.m → read_row s (drop (i * row_size s) t) ≡ some (record { value = get_or rows i no_row; rest = drop (i * row_size s + row_size s) t })
  row_read i l =
      let x = some_value (read_directory s t) e in
      own_row_lem s t b i l x.0 x.1
      ∙ ap (λ (y : Option (Read (List Row))). some (record { value = get_or (rows_of y) i no_row; rest = drop (i * row_size s + row_size s) t })) (sym x.1)

  pub row_there : (i : ℕ) → i < s.m → (i * row_size s + row_size s ≤ length t) × (is_some (read_row s (drop (i * row_size s) t)) ≡ true)
  row_there i l = (omega (arith, below_rows i s.m (row_size s) l), ap is_some (row_read i l))

  offered_row : (i : ℕ) → i < s.m → offered s own index t (i * row_size s) ≡ candidate own index (get_or rows i no_row)
  unfolding offered
  offered_row i l = ap (λ (y : Option (Read Row)). candidate own index (row_of y)) (row_read i l)

  abbrev offer : ℕ → Offer
  offer i = record { row = i * row_size s; version = (offered s own index t (i * row_size s)).version }

  -- one row more
  pick_more : (i : ℕ) → i < s.m → (p : Pointer) → pick own index (drop (suc i) rows) ≡ p
      → pick own index (drop i rows)
      ≡ cond (version.below (offered s own index t (i * row_size s)).version p.version) p (offered s own index t (i * row_size s))
  unfolding pick
  pick_more i l p q =
      ap (pick own index) (drop-cons rows i no_row (omega (arith, rows-count s t b e)))
      ∙ ap₂ (λ (a c : Pointer). cond (version.below c.version a.version) a c) q (sym (offered_row i l))

  pub chosen_last : 1 ≤ s.m → Chosen s own index t (s.m - 1) (offer (s.m - 1))
  unfolding pick
  chosen_last l =
      let i = s.m - 1 in
      let k : i < s.m = omega arith in
      let n : suc i ≡ s.m = omega arith in
      let x = row_there i k in
      let d : pick own index (drop (suc i) rows) ≡ none_pointer = ap (λ (y : ℕ). pick own index (drop y rows)) (n ∙ sym (rows-count s t b e)) ∙ ap (pick own index) (drop-length rows) in
      record {
        picked = pick_more i k none_pointer d
            ∙ ap (λ (y : Bool). cond y none_pointer (offered s own index t (i * row_size s)))
            (none_lowest s (offered s own index t (i * row_size s)) (offered_good s own index t (i * row_size s) b o x.1));
        version = refl;
        fits = x.0;
        reads = x.1;
      }

  pub chosen_turn : (i : ℕ) (best : Offer) → 0 < i → i < s.m → Chosen s own index t i best
      → Chosen s own index t (i - 1) (cond (version.below (offer (i - 1)).version best.version) best (offer (i - 1)))
  chosen_turn i best z l c =
      let j = i - 1 in
      let k : j < s.m = omega arith in
      let n : suc j ≡ i = omega arith in
      let p : pick own index (drop j rows) ≡ cond (version.below (offer j).version best.version) (offered s own index t best.row) (offered s own index t (j * row_size s)) =
      pick_more j k (offered s own index t best.row) (ap (λ (y : ℕ). pick own index (drop y rows)) n ∙ c.picked)
      ∙ ap (λ (y : Version). cond (version.below (offer j).version y) (offered s own index t best.row) (offered s own index t (j * row_size s))) (sym c.version) in
      go (version.below (offer j).version best.version) p (row_there j k)
    where
      go : (y : Bool)
          → pick own index (drop (i - 1) rows) ≡ cond y (offered s own index t best.row) (offered s own index t ((i - 1) * row_size s))
          → ((i - 1) * row_size s + row_size s ≤ length t) × (is_some (read_row s (drop ((i - 1) * row_size s) t)) ≡ true)
          → Chosen s own index t (i - 1) (cond y best (offer (i - 1)))
      go true p x = record { picked = p; version = c.version; fits = c.fits; reads = c.reads }
      go false p x = record { picked = p; version = refl; fits = x.0; reads = x.1 }

-- ---- the request

pub request-laid : (room p : List ℕ) → Bytes p → 5 ≤ length p
    → splice room 0 (2 ∷ take 5 (drop 0 p)) ≡ lay (write_to_node (ToNode.request (version_at p 0))) room
unfolding write_to_node splice
request-laid room p b h =
    let z : 0 + length (2 ∷ take 5 (drop 0 p)) ≡ length (2 ∷ take 5 (drop 0 p)) = omega arith in
    ap (λ (k : ℕ). (2 ∷ take 5 (drop 0 p)) ++ drop k room) z ∙ ap (λ (u : List ℕ). (2 ∷ u) ++ drop (length (2 ∷ u)) room) (version-bytes p 0 b h)

-- ---- the work

pub fetched_laid : (t : List ℕ) (at size : ℕ) (p : List ℕ) → length p ≤ size → at + size ≤ length t
    → paste (paste t at (drop 0 p) (length p)) (at + length p) (replicate (at + size - (at + length p)) 0) (at + size - (at + length p))
    ≡ splice t at (p ++ replicate (size - length p) 0)
unfolding write_area
fetched_laid t at size p h l =
    area_put_lem t at size p l h
    ∙ paste_all t at (p ++ replicate (size - length p) 0) size (omega (arith, length-append p (replicate (size - length p) 0), length-replicate {A = ℕ} (size - length p) 0))
