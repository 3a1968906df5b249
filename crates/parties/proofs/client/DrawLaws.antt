-- Laws of a deposit's first scan: what the rows show, the front of the store messages, the digests of the pieces.
use mathlib.Core.Path.{◌≡◌, refl, sym, ap, subst, ◌∙◌}
use mathlib.Core.Bool.{true, cond}
use mathlib.Core.List.{List, [], ◌∷◌, ◌++◌, append_assoc, append-nil}
use mathlib.Core.Option.{some}
use Prim.Native.Nat.{ℕ, suc, ◌+◌, ◌-◌, ◌*◌, ◌^◌, ◌<◌, ◌≤◌}
use native.Mathlib.Omega.{arith}
use borrow.Author.Tests.{leb-true}
use lib.Dec.{ltb}
use lib.ListN.{length, get_or, take, drop, set, replicate, length-replicate, length-append, length-drop, take-append-drop}
use lib.Seq.{take_at, drop_at, take_all, drop-cons, drop-length, drop-drop, paste, length-take-le}
use Rattle.coding.specs.Bytes.{Bytes, tabulate}
use Rattle.coding.specs.Pieces.{columns, piece}
use Rattle.coding.specs.declared.answer.Refusal.{Refusal}
use Rattle.coding.specs.Answer.{Outcome, outcome}
use Rattle.std.specs.Prelude.{Result, Ok, Err}
use Rattle.std.specs.Result.{result_unwrap_or}
use Rattle.coding.specs.Split.{SplitEnd, written, split}
use Rattle.coding.proofs.SplitLaws.{split_done}
use Rattle.coding.specs.Placed.{piece_digest}
use Rattle.coding.proofs.BytesLaws.{length-tabulate, get_or-tabulate, tabulate_ext}
use Rattle.coding.proofs.PageLaws.{some_eq}
use Rattle.coding.proofs.PlacedLaws.{length-digest}
use Rattle.parties.specs.declared.Measures.{Measures}
use Rattle.parties.specs.declared.Sequence.{Sequence}
use Rattle.parties.specs.declared.Version.{Version}
use Rattle.parties.specs.protocol.Format.{Read, read_number, write_number, write_many, write_area}
use Rattle.parties.specs.protocol.Measures.{passes, row_size}
use Rattle.parties.specs.protocol.Pointer.{write_pointer, write_version, write_named}
use Rattle.parties.specs.protocol.Directory.{Row, no_row, pointers_of, indices_of, map_of, write_content, write_fields, write_record, write_row, read_directory, write_directory}
use Rattle.parties.specs.protocol.Message.{ToNode, write_to_node}
use Rattle.parties.specs.protocol.Deposit.{highest, digests_of}
use Rattle.parties.specs.protocol.Client.{Phase as Work, Client, work_size, write_work, write_page}
use Rattle.parties.specs.protocol.ClientEvents.{room_size, stores_room}
use Rattle.parties.proofs.protocol.formats.FormatLaws.{Each, length_area, length-same}
use Rattle.parties.proofs.protocol.formats.EachLaws.{each_at, each-tabulate}
use Rattle.parties.proofs.protocol.formats.MeasureLaws.{passed}
use Rattle.parties.proofs.protocol.steps.GoodLaws.{proper_passed}
use Rattle.parties.proofs.protocol.formats.PointerLaws.{length-number, length-version}
use Rattle.parties.proofs.protocol.formats.RowLaws.{FitsRow, format_directory, length-directory}
use Rattle.parties.proofs.protocol.formats.ClientLaws.{GoodPhase}
use Rattle.parties.proofs.protocol.events.DepositLaws.{stores-sent}
use Rattle.parties.specs.declared.Phase.{Phase}
use Rattle.parties.specs.client.Record.{work_at, is_some}
use Rattle.parties.specs.client.Draw.{rows_of, room_digest, room_digests, stores_work}
use Rattle.parties.proofs.records.BytesLaws.{Copied, copied_length, copied_block, copied_all}
use Rattle.parties.proofs.records.PlaceLaws.{number_read}
use Rattle.parties.specs.records.Places.{splice}
use Rattle.parties.proofs.records.SpliceLaws.{tagged, splice_front, to_end, paste-join, many-part}
use Rattle.parties.proofs.client.AreaLaws.{byte_written, ShownClient, work_front}
use Rattle.parties.proofs.client.FormLaws.{sizes}
use Rattle.parties.proofs.client.GateLaws.{some_value}

-- ---- rows

abbrev sequence_of : Row → ℕ
sequence_of r = r.written.version.sequence.0

-- a row starts with its map and its written pointer's sequence
row_front : (r : Row) → (z : List ℕ) × (write_row r ≡ 15 ∷ (write_number 4 (sequence_of r) ++ z))
unfolding write_record write_fields write_content write_many write_pointer write_version map_of
row_front r =
    let q = write_number 4 (sequence_of r) in
    let c = write_number 1 r.written.version.client in
    let n = write_named r.written.named in
    let f = write_fields (some (pointers_of r.frozen) ∷ some (indices_of r.frozen_indices) ∷ some (indices_of (r.reading_index ∷ [])) ∷ []) in (
      c ++ (n ++ f),
      byte_written 15 (((q ++ c) ++ n) ++ [] ++ f) refl
          ∙ ap (λ (l : List ℕ). 15 ∷ l)
          (ap (λ (l : List ℕ). l ++ f) (append-nil ((q ++ c) ++ n)) ∙ append_assoc (q ++ c) n f ∙ append_assoc q c (n ++ f)),
    )

module _ (s : Measures) (t : List ℕ) (b : Bytes t) (o : is_some (read_directory s t) ≡ true) where
  abbrev read : Read (List Row)
  read = (some_value (read_directory s t) o).0

  rows-read : rows_of (read_directory s t) ≡ read.value
  rows-read = ap rows_of (some_value (read_directory s t) o).1

  kept : (Each (FitsRow s) read.value × (length read.value ≡ s.m)) × (t ≡ write_directory s read.value ++ read.rest)
  kept = (format_directory s).only t read b (some_value (read_directory s t) o).1

  pub rows-count : length (rows_of (read_directory s t)) ≡ s.m
  rows-count = ap length rows-read ∙ kept.0.1

  pub rows_fit : s.m * row_size s ≤ length t
  rows_fit =
      omega (arith, ap length kept.1, length-append (write_directory s read.value) read.rest, length-directory s read.value kept.0.0 kept.0.1)

  row_part : (i : ℕ) → i < s.m → take (row_size s) (drop (i * row_size s) t) ≡ write_area (row_size s) write_row (get_or read.value i no_row)
  unfolding write_directory
  row_part i h =
      ap (λ (l : List ℕ). take (row_size s) (drop (i * row_size s) l)) kept.1
      ∙ many-part (write_area (row_size s) write_row) (FitsRow s) (row_size s)
      (λ r g. length_area (row_size s) write_row r (leb-true (length (write_row r)) (row_size s) g.1)) no_row read.value kept.0.0 i
      (omega (arith, kept.0.1)) read.rest

  -- what is read after the map is the row's sequence
  pub row_sequence : (i : ℕ) → i < s.m → (q : ℕ) (u : List ℕ) → read_number 4 (drop (i * row_size s + 1) t) ≡ some (record { value = q; rest = u })
      → q ≡ (get_or (rows_of (read_directory s t)) i no_row).written.version.sequence.0
  unfolding write_area
  row_sequence i h q u e =
      let w = row_size s in
      let r = get_or read.value i no_row in
      let n = write_number 4 (sequence_of r) in
      let x = row_front r in
      let z = replicate {A = ℕ} (w - length (write_row r)) 0 in
      let a = drop w (drop (i * w) t) in
      let g = each_at (FitsRow s) no_row read.value kept.0.0 i (omega (arith, kept.0.1)) in
      let f : drop (i * w + 1) t ≡ n ++ (x.0 ++ (z ++ a)) =
      sym (drop-drop 1 (i * w) t) ∙ ap (drop 1) (sym (take-append-drop w (drop (i * w) t)))
      ∙ ap (λ (l : List ℕ). drop 1 (l ++ a)) (row_part i h)
      ∙ ap (λ (l : List ℕ). drop 1 ((l ++ z) ++ a)) x.1
      ∙ append_assoc (n ++ x.0) z a
      ∙ append_assoc n x.0 (z ++ a)
      in
      number_read 4 t (i * w + 1) (sequence_of r) (x.0 ++ (z ++ a)) g.0.0.0.1.1.0.0.0.0.0.0 f q u e
      ∙ ap (λ (l : List Row). sequence_of (get_or l i no_row)) (sym rows-read)

-- no row yet; one row more, from the last on
module _ (l : List Row) (n : ℕ) (e : length l ≡ n) where
  pub top_none : record { 0 = 0 } ≡ highest (drop n l)
  unfolding highest
  top_none = ap highest (sym (ap (λ (k : ℕ). drop k l) (sym e) ∙ drop-length l))

  pub top_more : (i : ℕ) → i < n → (q top : Sequence) → q ≡ (get_or l i no_row).written.version.sequence → top ≡ highest (drop (suc i) l)
      → cond (ltb top.0 q.0) q top ≡ highest (drop i l)
  unfolding highest
  top_more i h q top f g =
      (λ j. cond (ltb (g j).0 (f j).0) (f j) (g j)) ∙ ap highest (sym (drop-cons l i no_row (omega arith)))

-- ---- the front of the store messages

pub front_put : (v : Version) (room : List ℕ) → 6 ≤ length room
    → paste (set room 0 1) 1 (write_version v) 5 ≡ write_to_node (ToNode.store v []) ++ drop 6 room
unfolding write_to_node
front_put v room h =
    let w = write_version v in
    let l : length w ≡ 5 = length-version v in
    tagged room 1 w 0 5 (omega arith) (omega arith)
    ∙ ap (λ (x : List ℕ). splice room 0 (1 ∷ x)) (take_all 5 w (omega arith))
    ∙ splice_front room (1 ∷ w)
    ∙ (λ j. (1 ∷ sym (append-nil w) j) ++ drop (suc (l j)) room)

-- ---- digests

module _ (n f : ℕ) (v : Version) (len : ℕ) (room : List ℕ) where
  abbrev digests : List (List ℕ)
  digests = tabulate n (room_digest f v len room)

  abbrev sized : List ℕ → Type 0
  sized d = length d ≡ 32

  each-sized : Each sized digests
  each-sized = each-tabulate sized n (room_digest f v len room) (λ i h. length-digest (write_version v) (i + 1) (take len (drop (6 + i * f) room)))

  pub length-room-digests : length (room_digests n f v len room) ≡ 32 * n
  length-room-digests = length-same (λ d. d) sized 32 (λ d g. g) digests each-sized ∙ omega (arith, length-tabulate n (room_digest f v len room))

  digest-part : (i : ℕ) → i < n → take 32 (drop (32 * i) (room_digests n f v len room)) ≡ room_digest f v len room i
  digest-part i h =
      let z : 32 * i ≡ i * 32 = omega arith in
      rw z
      (ap (λ (l : List ℕ). take 32 (drop (i * 32) l)) (sym (append-nil (room_digests n f v len room)))
      ∙ many-part (λ d. d) sized 32 (λ d g. g) [] digests each-sized i (omega (arith, length-tabulate n (room_digest f v len room))) []
      ∙ get_or-tabulate n (room_digest f v len room) i [] h)

  module _ (t : List ℕ) (at : ℕ) (ht : at + 32 * n ≤ length t) where
    -- one digest more
    pub digests-more : (u : List ℕ) (i : ℕ) → Copied t at (room_digests n f v len room) 0 (32 * n) u (32 * i) → i < n
        → (w : List ℕ) → w ≡ paste u (at + 32 * i) (room_digest f v len room i) 32
        → Copied t at (room_digests n f v len room) 0 (32 * n) w (32 * (i + 1))
    digests-more u i c h w e =
        let all = room_digests n f v len room in
        let d = room_digest f v len room i in
        let y : 0 + 32 * i ≡ 32 * i = omega arith in
        let m : 32 * (i + 1) ≡ 32 * i + 32 = omega arith in
        let k : length d ≡ 32 = length-digest (write_version v) (i + 1) (take len (drop (6 + i * f) room)) in
        let x : take 32 d ≡ take 32 (drop (0 + 32 * i) all) =
        take_all 32 d (omega arith) ∙ sym (digest-part i h) ∙ ap (λ (m : ℕ). take 32 (drop m all)) (sym y)
        in
        rw m
        (copied_block t at all 0 (32 * n) ht (omega (arith, length-room-digests)) u (32 * i) c 32 (omega arith) w
        (e ∙ ap (λ (l : List ℕ). take (at + 32 * i) u ++ l ++ drop (at + 32 * i + 32) u) x))

    pub digests-length : (u : List ℕ) (l : ℕ) → Copied t at (room_digests n f v len room) 0 (32 * n) u l → length u ≡ length t
    digests-length u l c = copied_length t at (room_digests n f v len room) 0 (32 * n) ht (omega (arith, length-room-digests)) u l c

    pub digests-all : (u : List ℕ) (i : ℕ) → Copied t at (room_digests n f v len room) 0 (32 * n) u (32 * i) → n ≤ i
        → u ≡ paste t at (room_digests n f v len room) (32 * n)
    digests-all u i c h = copied_all t at (room_digests n f v len room) 0 (32 * n) ht (omega (arith, length-room-digests)) u (32 * i) c (omega arith)

-- ---- the pieces in the room

pub digests-there : (s : Measures) → passes s ≡ true → (v : Version) (bytes room : List ℕ) → length bytes ≤ s.k * s.f - 4 → room_size s ≤ length room
    → room_digests s.n s.f v (columns s.k (length bytes)) (stores_room s v bytes room) ≡ write_many (λ d. d) (digests_of s v bytes)
unfolding digests_of write_to_node
digests-there s h v bytes room short enough =
    ap (write_many (λ d. d))
    (tabulate_ext s.n (room_digest s.f v len r) (λ j. piece_digest (write_version v) (j + 1) (piece s.k bytes (j + 1)))
    (λ j l. ap (piece_digest (write_version v) (j + 1)) (there j l)))
  where
    len : ℕ
    len = columns s.k (length bytes)

    r : List ℕ
    r = stores_room s v bytes room

    front : 6 ≤ length r
    front =
        let w = write_version v in
        let z = (split s.n s.k s.f bytes (drop 6 room)).room in
        omega (arith, length-append (1 ∷ (w ++ [])) z, length-append w [], length-version v)

    there : (j : ℕ) → j < s.n → take len (drop (6 + j * s.f) r) ≡ piece s.k bytes (j + 1)
    there j l =
        let p = piece s.k bytes (j + 1) in
        let e : j + 1 - 1 ≡ j = omega arith in
        let x = some_eq (stores-sent s h v bytes room short enough (j + 1) (omega arith) (omega arith)) in
        ap (λ (i : ℕ). take len (drop (6 + i * s.f) r)) (sym e)
        ∙ sym (drop_at (take 6 r) (take len (drop (6 + (j + 1 - 1) * s.f) r)) 6 (length-take-le 6 r front))
        ∙ ap (drop 6) x
        ∙ drop_at (write_version v) p 5 (length-version v)

-- ---- the work area

-- the four writes of a deposit's work
pub stores_put : (s : Measures) → passes s ≡ true → (v : Version) (ds t : List ℕ) (at rest : ℕ) → length ds ≡ 32 * s.n → at + work_size s ≤ length t
    → rest ≡ at + 7 + 32 * s.n
    → paste (paste (paste (paste t at (write_version v) 5) (at + 5) (write_number 2 0) 2) (at + 7) ds (32 * s.n)) rest
    (replicate (at + work_size s - rest) 0) (at + work_size s - rest)
    ≡ paste t at (stores_work s v ds) (work_size s)
stores_put s h v ds t at rest e l f =
    let z = sizes s h in
    let n : ℕ = 32 * s.n in
    let k : ℕ = work_size s - (7 + n) in
    let w = write_version v in
    let o = write_number 2 0 in
    let lw : length w ≡ 5 = length-version v in
    let lo : length o ≡ 2 = length-number 2 0 in
    let zs = replicate {A = ℕ} k 0 in
    let lz : length zs ≡ k = length-replicate {A = ℕ} k 0 in
    let fits : 7 + n + k ≡ work_size s = omega (arith, z.pieces) in
    let q : at + work_size s - rest ≡ k = omega (arith, fits) in
    let a : at + 7 ≡ at + 5 + 2 = omega arith in
    let a2 : at + 7 ≡ at + (5 + 2) = omega arith in
    let la : length (w ++ o) ≡ 5 + 2 = omega (arith, length-append w o) in
    let lb : length ((w ++ o) ++ ds) ≡ 5 + 2 + n = omega (arith, length-append (w ++ o) ds) in
    let r : rest ≡ at + (5 + 2 + n) = omega arith in
    let t2 = paste (paste t at w 5) (at + 5) o 2 in
    let p2 : t2 ≡ paste t at (w ++ o) (5 + 2) = paste-join t at w o 5 2 lw lo (omega (arith, fits)) in
    let p3 : paste t2 (at + 7) ds n ≡ paste t at ((w ++ o) ++ ds) (5 + 2 + n) =
    (λ i. paste (p2 i) (a2 i) ds n) ∙ paste-join t at (w ++ o) ds (5 + 2) n la e (omega (arith, fits))
    in
    let g : 5 + 2 + n + k ≡ work_size s = omega (arith, fits) in
    (λ i. paste (p3 i) (r i) (replicate (q i) 0) (q i))
    ∙ paste-join t at ((w ++ o) ++ ds) zs (5 + 2 + n) k lb lz (omega (arith, fits))
    ∙ (λ i. paste t at (append_assoc w o ds i ++ zs) (g i))

-- ---- the page in the work area

module _ (s : Measures) (h : passes s ≡ true) (p : Phase) (area : List ℕ) (c : Client) (rest : List ℕ) (x : ShownClient s p area c rest) (bytes : List ℕ)
    (e : c.phase ≡ Work.scanning bytes) where
  abbrev spare : List ℕ
  spare = replicate (work_size s - length (write_work s c.phase)) 0 ++ rest

  page_onward : drop (work_at s) area ≡ write_number 4 (length bytes) ++ (bytes ++ spare)
  unfolding write_work write_page
  page_onward =
      work_front s h p area c rest x ∙ ap (λ (q : Work). write_work s q ++ spare) e ∙ append_assoc (write_number 4 (length bytes)) bytes spare

  pub page-short : length bytes ≤ s.k * s.f - 4
  page-short = leb-true (length bytes) (s.k * s.f - 4) (subst (GoodPhase s) e x.good.phase).1

  pub page-length : (n : ℕ) (u : List ℕ) → read_number 4 (drop (work_at s) area) ≡ some (record { value = n; rest = u }) → n ≡ length bytes
  page-length n u f =
      let z = sizes s h in
      let b : length bytes < 256 ^ 4 = omega (arith, z.frame, page-short) in
      number_read 4 area (work_at s) (length bytes) (bytes ++ spare) b page_onward n u f

  pub page-there : take (length bytes) (drop (work_at s + 4) area) ≡ bytes
  page-there =
      ap (take (length bytes))
      (sym (drop-drop 4 (work_at s) area) ∙ ap (drop 4) page_onward
      ∙ drop_at (write_number 4 (length bytes)) (bytes ++ spare) 4 (length-number 4 (length bytes)))
      ∙ take_at bytes spare (length bytes) refl

-- ---- the cut

module _ (s : Measures) (h : passes s ≡ true) (v : Version) (page room : List ℕ) (short : length page ≤ s.k * s.f - 4) (enough : room_size s ≤ length room) where
  abbrev behind : List ℕ
  behind = take (length room - 6) (drop 6 room)

  cut_end : split s.n s.k s.f page behind
      ≡ record { outcome = Outcome.gives (columns s.k (length page)); room = written s.k s.f page behind s.n }
  cut_end =
      split_done s.n s.k s.f page behind (proper_passed s (passed s h)) (rw (to_end room 6) (omega (arith, length-drop 6 room))) short

  -- the measures and the room that pass are not refused
  pub split-refuses : (r : Refusal) → outcome (Err r) ≡ (split s.n s.k s.f page behind).outcome → ⊥
  split-refuses r e = gives_none (sym (ap (λ (x : SplitEnd). x.outcome) cut_end) ∙ sym e)
    where
      gives_none : {m n : ℕ} → Outcome.gives m ≡ Outcome.refuses n → ⊥
      gives_none f = cc

  -- the answer is the length of a piece
  pub split-gives : (a : Result ℕ Refusal) → outcome a ≡ (split s.n s.k s.f page behind).outcome → result_unwrap_or a 0 ≡ columns s.k (length page)
  split-gives (Ok len) e = gives_same (e ∙ ap (λ (x : SplitEnd). x.outcome) cut_end)
    where
      gives_same : {m n : ℕ} → Outcome.gives m ≡ Outcome.gives n → m ≡ n
      gives_same f = cc
  split-gives (Err r) e = absurd (split-refuses r e)

  pub split-room : (u : List ℕ) → u ≡ (split s.n s.k s.f page behind).room
      → write_to_node (ToNode.store v []) ++ drop 6 (take 6 room ++ (u ++ drop (length room - 6) (drop 6 room))) ≡ stores_room s v page room
  split-room u e =
      let n : drop (length room - 6) (drop 6 room) ≡ [] = ap (λ (k : ℕ). drop k (drop 6 room)) (sym (length-drop 6 room)) ∙ drop-length (drop 6 room) in
      ap (λ (l : List ℕ). write_to_node (ToNode.store v []) ++ l)
      (drop_at (take 6 room) (u ++ drop (length room - 6) (drop 6 room)) 6 (length-take-le 6 room (omega arith))
      ∙ ap (λ (l : List ℕ). u ++ l) n ∙ append-nil u ∙ e ∙ ap (λ (l : List ℕ). (split s.n s.k s.f page l).room) (to_end room 6))
