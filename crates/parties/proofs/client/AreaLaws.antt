-- A client's record in its parts: where each field stands in the area, and what another phase writes there.
use mathlib.Core.Path.{◌≡◌, sym, ap, ◌∙◌}
use mathlib.Core.Bool.{true}
use mathlib.Core.List.{List, [], ◌∷◌, ◌++◌, append_assoc}
use mathlib.Core.Option.{some}
use Prim.Native.Nat.{ℕ, suc, ◌+◌, ◌-◌, ◌*◌, ◌%◌, ◌^◌, ◌<◌}
use native.Mathlib.Omega.{arith}
use lib.ListN.{length, get_or, take, drop, replicate, length-append}
use lib.Seq.{take_at, drop_at, drop-drop, take_all, paste}
use Rattle.coding.specs.Bytes.{Bytes}
use Rattle.coding.proofs.BytesLaws.{bytes_cons}
use Rattle.coding.proofs.PageLaws.{some_eq}
use Rattle.parties.specs.declared.Measures.{Measures}
use Rattle.parties.specs.declared.ReadingIndex.{ReadingIndex}
use Rattle.parties.specs.protocol.Format.{Read, read_number, write_number, write_many, write_area}
use Rattle.parties.specs.protocol.Measures.{passes, pointer_size}
use Rattle.parties.specs.protocol.Version.{no_version}
use Rattle.parties.specs.protocol.Pointer.{Pointer, none_pointer, write_pointer, write_version}
use Rattle.parties.specs.protocol.Directory.{write_index}
use Rattle.parties.specs.protocol.Client.{Phase as Work, step as step_of, Client, write_work, work_size, write_retained, retained, read_client, write_client, Retained}
use Rattle.parties.proofs.protocol.formats.FormatLaws.{format_number, Each, length_area, length-same}
use Rattle.parties.proofs.protocol.formats.MeasureLaws.{passed}
use Rattle.parties.proofs.protocol.formats.PointerLaws.{GoodPointer, length-number, length-version}
use Rattle.parties.proofs.protocol.formats.DirectoryLaws.{GoodIndex, length-index}
use Rattle.parties.proofs.protocol.formats.RowLaws.{pointer-fits}
use Rattle.parties.proofs.protocol.formats.BytesWritten.{bytes-append, bytes-number}
use Rattle.parties.proofs.protocol.formats.ClientLaws.{GoodPhase, GoodReserved, GoodClient, client_only, work_fits, length_retained, step_byte}
use Rattle.parties.specs.declared.Phase.{Phase}
use Rattle.parties.specs.client.Record.{record_of, area_size, work_at}
use Rattle.parties.proofs.records.SpliceLaws.{drop_past, many-part}

number_same : (w m n : ℕ) → m < 256 ^ w → n < 256 ^ w → write_number w m ≡ write_number w n → m ≡ n
number_same w m n a b e =
    ap (λ (r : Read ℕ). r.value)
    (some_eq (sym ((format_number w).back m a []) ∙ ap (λ (l : List ℕ). read_number w (l ++ [])) e ∙ (format_number w).back n b []))

-- ---- the record in its parts

-- the phase and the area hold a client's record; what stands beyond it is `rest`
pub record ShownClient (s : Measures) (p : Phase) (area : List ℕ) (c : Client) (rest : List ℕ) : Type 0 where
  pub good : GoodClient s c
  pub stands : p.step ≡ step_of c.phase
  pub reading : p.reading ≡ c.reading_index
  pub parts : area ≡ write_retained s (retained c) ++ (write_area (work_size s) (write_work s) c.phase ++ rest)

pub byte_written : (n : ℕ) (l : List ℕ) → n % 256 ≡ n → write_number 1 n ++ l ≡ n ∷ l
unfolding write_number
byte_written n l e = ap (λ (x : ℕ). x ∷ l) e

-- a client as the code writes it
pub written-parts : (s : Measures) (c : Client) (rest : List ℕ)
    → write_client s c ++ rest
    ≡ record_of (record { step = step_of c.phase; reading = c.reading_index })
    (write_retained s (retained c) ++ (write_area (work_size s) (write_work s) c.phase ++ rest))
unfolding write_client write_index
written-parts s c rest =
    let a = write_number 4 c.reading_index.0 in
    let b = write_retained s (retained c) in
    let d = write_area (work_size s) (write_work s) c.phase in
    let n : step_of c.phase % 256 ≡ step_of c.phase = omega (arith, step_byte c.phase) in
    append_assoc (write_number 1 (step_of c.phase)) (a ++ (b ++ d)) rest
    ∙ byte_written (step_of c.phase) ((a ++ (b ++ d)) ++ rest) n
    ∙ ap (λ (l : List ℕ). step_of c.phase ∷ l) (append_assoc a (b ++ d) rest ∙ ap (λ (l : List ℕ). a ++ l) (append_assoc b d rest))

pub shown : (s : Measures) (p : Phase) (area : List ℕ) → p.step < 256 → p.reading.0 < 256 ^ 4 → Bytes area
    → (r : Read Client) → read_client s (record_of p area) ≡ some r → ShownClient s p area r.value r.rest
shown s p area hs hr b r e =
    let n = write_number 4 p.reading.0 in
    let x = client_only s (record_of p area) r (bytes_cons p.step (n ++ area) hs (bytes-append n area (bytes-number 4 p.reading.0) b)) e in
    let c = r.value in
    let m = write_number 4 c.reading_index.0 in
    let t = write_retained s (retained c) ++ (write_area (work_size s) (write_work s) c.phase ++ r.rest) in
    let f : record_of p area ≡ step_of c.phase ∷ (m ++ t) = x.1 ∙ written-parts s c r.rest in
    let g : n ++ area ≡ m ++ t = ap (drop 1) f in
    let i : n ≡ m =
    sym (take_at n area 4 (length-number 4 p.reading.0)) ∙ ap (take 4) g ∙ take_at m t 4 (length-number 4 c.reading_index.0)
    in
    let v : p.reading.0 ≡ c.reading_index.0 = number_same 4 p.reading.0 c.reading_index.0 hr x.0.index i in
    record {
      good = x.0;
      stands = ap (λ (l : List ℕ). get_or l 0 0) f;
      reading = λ j. record { 0 = v j };
      parts =
          sym (drop_at n area 4 (length-number 4 p.reading.0)) ∙ ap (drop 4) g ∙ drop_at m t 4 (length-number 4 c.reading_index.0);
    }

-- where the fields stand
module _ (s : Measures) (h : passes s ≡ true) (p : Phase) (area : List ℕ) (c : Client) (rest : List ℕ) (x : ShownClient s p area c rest) where
  work_length : length (write_area (work_size s) (write_work s) c.phase) ≡ work_size s
  work_length = length_area (work_size s) (write_work s) c.phase (work_fits s (passed s h) c.phase x.good.phase)

  pub area_length : length area ≡ area_size s + length rest
  area_length =
      let r = write_retained s (retained c) in
      let w = write_area (work_size s) (write_work s) c.phase in
      omega (arith, ap length x.parts, length-append r (w ++ rest), length-append w rest, length_retained s c x.good, work_length)

  pub retained-part : take (work_at s) area ≡ write_retained s (retained c)
  retained-part =
      ap (take (work_at s)) x.parts
      ∙ take_at (write_retained s (retained c)) (write_area (work_size s) (write_work s) c.phase ++ rest) (work_at s) (length_retained s c x.good)

  pub work_onward : drop (work_at s) area ≡ write_area (work_size s) (write_work s) c.phase ++ rest
  work_onward =
      ap (drop (work_at s)) x.parts
      ∙ drop_at (write_retained s (retained c)) (write_area (work_size s) (write_work s) c.phase ++ rest) (work_at s) (length_retained s c x.good)

  -- the work as it is written, then its spare bytes
  pub work_front : drop (work_at s) area
      ≡ write_work s c.phase ++ (replicate (work_size s - length (write_work s c.phase)) 0 ++ rest)
  unfolding write_area
  work_front = work_onward ∙ append_assoc (write_work s c.phase) (replicate (work_size s - length (write_work s c.phase)) 0) rest

  pub beyond : drop (work_at s + work_size s) area ≡ rest
  beyond =
      sym (drop-drop (work_size s) (work_at s) area) ∙ ap (drop (work_size s)) work_onward
      ∙ drop_at (write_area (work_size s) (write_work s) c.phase) rest (work_size s) work_length

-- the area starts with what the client retains; the rest follows
pub record Retains (s : Measures) (area : List ℕ) (c : Client) (rest : List ℕ) : Type 0 where
  pub good : GoodClient s c
  pub parts : area ≡ write_retained s (retained c) ++ rest

abbrev pub area_of : Measures → Pointer → List ℕ
area_of s = write_area (pointer_size s) write_pointer

pub area_sized : (s : Measures) (q : Pointer) → GoodPointer s q → length (area_of s q) ≡ pointer_size s
area_sized s q g = length_area (pointer_size s) write_pointer q (pointer-fits s q g)

pub fields_are : (s : Measures) (x : Retained) (rest : List ℕ) → write_retained s x ++ rest
    ≡ write_many (area_of s) (x.written ∷ x.frozen) ++ (write_many write_version x.reserved ++ (write_many write_index x.frozen_indices ++ rest))
unfolding write_retained write_many
fields_are s x rest =
    let a = area_of s x.written in
    let b = write_many (area_of s) x.frozen in
    let v = write_many write_version x.reserved in
    let i = write_many write_index x.frozen_indices in
    append_assoc a (b ++ (v ++ i)) rest
    ∙ ap (λ (l : List ℕ). a ++ l) (append_assoc b (v ++ i) rest ∙ ap (λ (l : List ℕ). b ++ l) (append_assoc v i rest))
    ∙ sym (append_assoc a b (v ++ (i ++ rest)))

-- where its fields stand
module _ (s : Measures) (area : List ℕ) (c : Client) (rest : List ℕ) (x : Retains s area c rest) where
  area_fields : area
      ≡ write_many (area_of s) (c.written ∷ c.frozen) ++ (write_many write_version c.reserved ++ (write_many write_index c.frozen_indices ++ rest))
  area_fields = x.parts ∙ fields_are s (retained c) rest

  pointers_good : Each (GoodPointer s) (c.written ∷ c.frozen)
  pointers_good = (x.good.written, x.good.frozen.0)

  pointers-length : length (write_many (area_of s) (c.written ∷ c.frozen)) ≡ (s.m + 1) * pointer_size s
  pointers-length =
      length-same (area_of s) (GoodPointer s) (pointer_size s) (area_sized s) (c.written ∷ c.frozen) pointers_good
      ∙ ap (λ (n : ℕ). n * pointer_size s) (let e : suc (length c.frozen) ≡ s.m + 1 = omega (arith, x.good.frozen.1) in e)

  reserved-length : length (write_many write_version c.reserved) ≡ 5 * s.m
  reserved-length =
      length-same write_version (GoodReserved s) 5 (λ v g. length-version v) c.reserved x.good.reserved.0 ∙ omega (arith, x.good.reserved.1)

  pub written-part : take (pointer_size s) area ≡ write_area (pointer_size s) write_pointer c.written
  written-part =
      let z : 0 * pointer_size s ≡ 0 = omega arith in
      ap (take (pointer_size s)) area_fields
      ∙ ap (λ (n : ℕ). take (pointer_size s) (drop n (write_many (area_of s) (c.written ∷ c.frozen) ++
      (write_many write_version c.reserved ++ (write_many write_index c.frozen_indices ++ rest))))) (sym z)
      ∙ many-part (area_of s) (GoodPointer s) (pointer_size s) (area_sized s) none_pointer (c.written ∷ c.frozen) pointers_good 0 (omega arith) _

  pub frozen-part : (q : ℕ) → q < s.m
      → take (pointer_size s) (drop ((q + 1) * pointer_size s) area) ≡ write_area (pointer_size s) write_pointer (get_or c.frozen q none_pointer)
  frozen-part q b =
      let e : q + 1 ≡ suc q = omega arith in
      let l : suc q < suc (length c.frozen) = omega (arith, x.good.frozen.1) in
      rw e
      (ap (λ (t : List ℕ). take (pointer_size s) (drop (suc q * pointer_size s) t)) area_fields
      ∙ many-part (area_of s) (GoodPointer s) (pointer_size s) (area_sized s) none_pointer (c.written ∷ c.frozen) pointers_good (suc q) l _)

  pub reserved-part : (q : ℕ) → q < s.m
      → take 5 (drop ((s.m + 1) * pointer_size s + 5 * q) area) ≡ write_version (get_or c.reserved q no_version)
  reserved-part q b =
      let f = write_many (area_of s) (c.written ∷ c.frozen) in
      let t = write_many write_index c.frozen_indices ++ rest in
      ap (λ (l : List ℕ). take 5 (drop ((s.m + 1) * pointer_size s + 5 * q) l)) area_fields
      ∙ ap (take 5)
      (drop_past f (write_many write_version c.reserved ++ t) ((s.m + 1) * pointer_size s) (q * 5) ((s.m + 1) * pointer_size s + 5 * q) pointers-length (omega arith))
      ∙ many-part write_version (GoodReserved s) 5 (λ v g. length-version v) no_version c.reserved x.good.reserved.0 q
      (omega (arith, x.good.reserved.1)) t

  pub index-part : (q : ℕ) → q < s.m
      → take 4 (drop ((s.m + 1) * pointer_size s + 5 * s.m + 4 * q) area) ≡ write_index (get_or c.frozen_indices q (record { 0 = 0 }))
  index-part q b =
      let f = write_many (area_of s) (c.written ∷ c.frozen) in
      let v = write_many write_version c.reserved in
      let i = write_many write_index c.frozen_indices in
      let at = (s.m + 1) * pointer_size s + 5 * s.m + 4 * q in
      ap (λ (l : List ℕ). take 4 (drop at l)) area_fields
      ∙ ap (take 4)
      (drop_past f (v ++ (i ++ rest)) ((s.m + 1) * pointer_size s) (5 * s.m + 4 * q) at pointers-length (omega arith)
      ∙ drop_past v (i ++ rest) (5 * s.m) (q * 4) (5 * s.m + 4 * q) reserved-length (omega arith))
      ∙ many-part write_index GoodIndex 4 (λ n g. length-index n) (record { 0 = 0 }) c.frozen_indices x.good.indices.0 q
      (omega (arith, x.good.indices.1)) rest

-- ---- the record of another phase

-- an idle client's work is zeros
pub idle_work : (s : Measures) → write_area (work_size s) (write_work s) Work.idle ≡ replicate (work_size s) 0
unfolding write_area write_work
idle_work s = let e : work_size s - 0 ≡ work_size s = omega arith in ap (λ (n : ℕ). replicate n 0) e

-- a client in another phase, with another reading index
abbrev pub turned_to : Work → ReadingIndex → Client → Client
turned_to q i c =
    record {
      phase = q;
      reading_index = i;
      written = c.written;
      frozen = c.frozen;
      reserved = c.reserved;
      frozen_indices = c.frozen_indices;
    }

module _ (s : Measures) (h : passes s ≡ true) (p : Phase) (area : List ℕ) (c : Client) (rest : List ℕ) (x : ShownClient s p area c rest)
    (q : Work) (i : ReadingIndex) where
  -- its work is written over the old one
  pub turned-written : GoodPhase s q
      → write_client s (turned_to q i c) ++ rest
      ≡ record_of (record { step = step_of q; reading = i }) (paste area (work_at s) (write_area (work_size s) (write_work s) q) (work_size s))
  turned-written g =
      let r = write_retained s (retained c) in
      let w = write_area (work_size s) (write_work s) q in
      let l : length w ≡ work_size s = length_area (work_size s) (write_work s) q (work_fits s (passed s h) q g) in
      written-parts s (turned_to q i c) rest
      ∙ ap (λ (a : List ℕ). record_of (record { step = step_of q; reading = i }) a)
      (sym (append_assoc r w rest)
      ∙ (λ j. (sym (retained-part s h p area c rest x) j ++ sym (take_all (work_size s) w (omega arith)) j) ++ sym (beyond s h p area c rest x) j))

  -- a phase whose work is the same leaves the area as it is
  pub turned-kept : write_work s q ≡ write_work s c.phase
      → write_client s (turned_to q i c) ++ rest ≡ record_of (record { step = step_of q; reading = i }) area
  unfolding write_area
  turned-kept e =
      let r = write_retained s (retained c) in
      written-parts s (turned_to q i c) rest
      ∙ ap (λ (a : List ℕ). record_of (record { step = step_of q; reading = i }) a)
      (ap (λ (w : List ℕ). r ++ ((w ++ replicate (work_size s - length w) 0) ++ rest)) e ∙ sym x.parts)
