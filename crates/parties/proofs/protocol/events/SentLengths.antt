-- How long is what a client's event sends, and what the directory and a node answer: by the measures alone, whatever bytes are lent.
use mathlib.Core.Path.{◌≡◌, refl, ap}
use mathlib.Core.Bool.{Bool, true, false, cond, not, ◌&&◌}
use mathlib.Core.List.{List, [], ◌∷◌, ◌++◌}
use mathlib.Core.Option.{Option, some, none as nothing}
use Prim.Native.Nat.{ℕ, ◌+◌, ◌-◌, ◌*◌, ◌≤◌}
use native.Mathlib.Nat.{mul-le-mul}
use native.Mathlib.Omega.{arith}
use borrow.Author.Tests.{leb-true, ltb-true, ltb-false}
use lib.Dec.{leb, ltb}
use lib.ListN.{length, set, length-append}
use Rattle.coding.specs.Bytes.{Bytes}
use Rattle.coding.specs.Answer.{Outcome}
use Rattle.coding.specs.Join.{join}
use Rattle.coding.proofs.Cases.{and-true}
use Rattle.coding.proofs.FrameLaws.{columns-within}
use Rattle.parties.specs.declared.Measures.{Measures}
use Rattle.std.specs.Prelude.{Option as StdOption, Some, None}
use Rattle.parties.specs.declared.Sequence.{Sequence}
use Rattle.parties.specs.declared.ReadingIndex.{ReadingIndex}
use Rattle.parties.specs.declared.Version.{Version}
use Rattle.parties.specs.Sizes.{Sized}
use Rattle.parties.specs.protocol.Measures.{passes, pointer_size, row_size}
use Rattle.parties.specs.protocol.Format.{Read, write_number, write_many}
use Rattle.parties.specs.protocol.Version.{next_sequence, next_index}
use Rattle.parties.specs.protocol.Nodes.{count, stands, with_node}
use Rattle.parties.specs.protocol.Pointer.{Pointer, is_none, write_version}
use Rattle.parties.specs.protocol.Directory.{Content, Row, read_directory, write_index, write_content, write_fields, map_of, write_record, write_row, row_fields, fresh_row, merge, update_row}
use Rattle.parties.specs.protocol.Owner.{own_fields, own_rows}
use Rattle.parties.specs.protocol.Verdict.{Verdict, sound, broken, record_verdict, rows_verdict}
use Rattle.parties.specs.protocol.Message.{ToNode, ToClient, answer, read_to_client, read_to_node, write_to_node, write_to_client}
use Rattle.parties.specs.protocol.NodeTable.{Held, read_table}
use Rattle.parties.specs.protocol.Node.{hand_back}
use Rattle.parties.specs.protocol.Client.{Phase, idle, scanning, storing, updating, freezing, raising, picking, fetching, Client, read_client, client_size, areas, lengths}
use Rattle.parties.specs.protocol.Deposit.{highest, pointer_of, deposit_fields, frozen_after, replaced, still_retained, freed}
use Rattle.parties.specs.protocol.Reading.{pick, counts, matches, all_counted, same_version}
use Rattle.parties.specs.protocol.Answer.{refused, waits, update, Served, refuses, serves}
use Rattle.parties.specs.protocol.ClientEvents.{Step, stays, does, after, on_client, unchanged, room_size, with_phase, lay, is_idle, begin_deposit, begin_reading, raise}
use Rattle.parties.specs.protocol.ClientEvents.{acknowledged_at, acknowledge, scanned_at, draw, freeze, stored_at, go_on, joined_at, counted, replied_at, message_at, on_rows, on_message}
use Rattle.parties.specs.protocol.ClientEvents.{start_deposit, start_reading, update_answer, scan_answer, client_message}
use Rattle.parties.specs.protocol.DirectoryEvents.{DirectoryEnd, directory_size, directory_scan, scanned as rowsIn, directory_update, on_table}
use Rattle.parties.specs.protocol.NodeEvents.{table_size, answer_size, held_after, answer_to, kept, node_message, on_message as onNode}
use Rattle.parties.proofs.protocol.model.Cells.{chosen}
use Rattle.parties.proofs.protocol.formats.MeasureLaws.{Passed, passed}
use Rattle.parties.proofs.protocol.formats.PointerLaws.{GoodPointer, length-number, length-version}
use Rattle.parties.proofs.protocol.formats.DirectoryLaws.{length-index}
use Rattle.parties.proofs.protocol.formats.RowLaws.{row_fits, fresh_good, update-fields, update_good}
use Rattle.parties.proofs.protocol.formats.NodeTableLaws.{GoodTable, FitsPlace, format_table}
use Rattle.parties.proofs.protocol.formats.NodeMapLaws.{count_with, with_below}
use Rattle.parties.proofs.protocol.formats.ClientLaws.{GoodPhase, GoodClient, client_only}
use Rattle.parties.proofs.protocol.events.FreeLaws.{free-length, replaced-length}
use Rattle.parties.proofs.protocol.model.QueueLaws.{hand-each}
use Rattle.parties.proofs.protocol.steps.GoodLaws.{formed_good}
use Rattle.parties.proofs.protocol.steps.CarryShows.{good_deposit}

abbrev SizedStep : Measures → Step → Type 0
SizedStep s (stays a) = Sized s a
SizedStep s (does a c r o) = Sized s a

either : (s : Measures) (b : Bool) (x y : Step) → SizedStep s x → SizedStep s y → SizedStep s (cond b x y)
either s true x y h k = h
either s false x y h k = k

-- ---- a deposit's start and a reading's

bounded_deposit : (s : Measures) (c : Client) (bytes : List ℕ) → SizedStep s (begin_deposit s c bytes)
unfolding begin_deposit
bounded_deposit s c bytes = either s (is_idle c.phase) _ _ (either s (leb (length bytes) (s.k * s.f - 4)) _ _ tt tt) tt

bounded_raise : (s : Measures) (c : Client) (room : List ℕ) (n : StdOption ReadingIndex) → SizedStep s (raise c room n)
unfolding write_record write_fields write_content write_many map_of
bounded_raise s c room (Some i) =
    let x = (write_index i ++ []) ++ [] in
    omega (arith, length-append (write_number 1 8) x, length-append (write_index i ++ []) [], length-append (write_index i) [], length-index i, length-number 1 8)
bounded_raise s c room None = tt

bounded_reading : (s : Measures) (c : Client) (room : List ℕ) → SizedStep s (begin_reading c room)
unfolding begin_reading
bounded_reading s c room = either s (is_idle c.phase) _ _ (bounded_raise s c room (next_index c.reading_index)) tt

-- ---- answers of the directory

bounded_acknowledged : (s : Measures) (c : Client) (room : List ℕ) (p : Phase) → SizedStep s (acknowledged_at c room p)
bounded_acknowledged s c room idle = tt
bounded_acknowledged s c room (scanning bytes) = tt
bounded_acknowledged s c room (storing v a ds) = tt
bounded_acknowledged s c room (updating p) = tt
bounded_acknowledged s c room (freezing p) = tt
bounded_acknowledged s c room raising = tt
bounded_acknowledged s c room picking = tt
bounded_acknowledged s c room (fetching p n m ps) = tt

-- a free list has at most 2m + 1 versions of 5 bytes
free-long : (l : List Version) → length (write_many write_version l) ≡ length l * 5
unfolding write_many
free-long [] = refl
free-long (v ∷ l) = omega (arith, length-append (write_version v) (write_many write_version l), length-version v, free-long l)

module _ (s : Measures) (p : Passed s) where
  bounded_draw : (own : ℕ) (c : Client) (room bytes : List ℕ) (n : StdOption Sequence) → length bytes ≤ s.k * s.f - 4 → SizedStep s (draw s own c room bytes n)
  bounded_draw own c room bytes (Some q) h = columns-within s.k s.f (length bytes) p.parts p.frame h
  bounded_draw own c room bytes None h = tt

  bounded_freeze : (own : ℕ) (c : Client) (room : List ℕ) (rows : List Row) (x : Pointer) → SizedStep s (freeze s own c room rows x)
  unfolding write_to_node
  bounded_freeze own c room rows x =
      let l = freed s own c rows x in
      let few : length l ≤ 2 * s.m + 1 = omega (arith, free-length (still_retained (frozen_after s own c rows x)) (replaced own c rows s.m), replaced-length own c rows s.m) in
      let one : 39 ≤ pointer_size s = omega (arith, p.parts) in
      let m : s.m + 1 ≤ s.m + 1 = omega arith in
      omega (arith, free-long l, few, mul-le-mul m one)

  bounded_scanned : (own : ℕ) (c : Client) (room : List ℕ) (rows : List Row) (x : Phase) → GoodPhase s x → SizedStep s (scanned_at s own c room rows x)
  bounded_scanned own c room rows idle g = tt
  bounded_scanned own c room rows (scanning bytes) g = bounded_draw own c room bytes (next_sequence (highest rows)) (leb-true (length bytes) (s.k * s.f - 4) g.1)
  bounded_scanned own c room rows (storing v a ds) g = tt
  bounded_scanned own c room rows (updating x) g = tt
  bounded_scanned own c room rows (freezing x) g = bounded_freeze own c room rows x
  bounded_scanned own c room rows raising g = tt
  bounded_scanned own c room rows picking g = either s (is_none (pick own c.reading_index rows)) _ _ tt tt
  bounded_scanned own c room rows (fetching x n m ps) g = tt

  -- ---- messages

  -- an update's record stands in a row
  deposit-fits : (c : Client) (x : Pointer) → GoodClient s c → GoodPointer s x → length (write_record (deposit_fields c x)) ≤ row_size s
  unfolding write_record write_fields map_of merge
  deposit-fits c x g h =
      let u = deposit_fields c x in
      let r = fresh_row s in
      let k = good_deposit s c x g h in
      let l = merge u (row_fields r) in
      let e : write_row (update_row u r) ≡ write_record l = ap write_record (update-fields s u r k (fresh_good s)) in
      let fits = row_fits s (update_row u r) (update_good s u r k (fresh_good s)) in
      let a = write_content (Content.pointers_of (x ∷ [])) in
      let b = write_content (Content.pointers_of c.frozen) in
      let d = write_content (Content.indices_of c.frozen_indices) in
      let f = write_content (Content.indices_of (record { 0 = 0 } ∷ [])) in
      omega (
        arith,
        fits,
        ap length e,
        length-append (write_number 1 15) (a ++ (b ++ (d ++ (f ++ [])))),
        length-append (write_number 1 7) (a ++ (b ++ (d ++ []))),
        length-number 1 15,
        length-number 1 7,
        length-append a (b ++ (d ++ (f ++ []))),
        length-append a (b ++ (d ++ [])),
        length-append b (d ++ (f ++ [])),
        length-append b (d ++ []),
        length-append d (f ++ []),
        length-append d [],
      )

  module _ (i : ℕ) (lo : 1 ≤ i) (up : i ≤ s.n) (c : Client) (g : GoodClient s c) (room out : List ℕ) where
    bounded_acknowledge : (v : Version) (a : ℕ) (ds : List (List ℕ)) → GoodPhase s (storing v a ds) → stands a i ≡ false
        → SizedStep s (acknowledge s c room out v (with_node a i) ds)
    bounded_acknowledge v a ds h new = go (ltb (count (with_node a i)) (s.t + s.k)) refl
      where
        go : (b : Bool) → ltb (count (with_node a i)) (s.t + s.k) ≡ b
            → SizedStep s (cond b (does waits (with_phase (storing v (with_node a i) ds) c) room out)
            (does (update (length (write_record (deposit_fields c (pointer_of v (with_node a i) ds)))))
            (with_phase (updating (pointer_of v (with_node a i) ds)) c)
            (lay (write_record (deposit_fields c (pointer_of v (with_node a i) ds))) room) out))
        go true e = tt
        go false e =
            let w = and-true (leb 1 v.sequence.0) _ h.1 in
            let enough : count (with_node a i) ≡ s.t + s.k =
            omega (arith, count_with a i lo (omega (arith, p.nodes.1)) new, h.3, ltb-false (count (with_node a i)) (s.t + s.k) e)
            in
            deposit-fits c (pointer_of v (with_node a i) ds) g
            (formed_good s p v (with_node a i) (leb-true 1 v.sequence.0 w.0) h.0.0 (ltb-true v.client s.m w.1) (with_below a i s.n lo up h.2) enough ds h.4 h.5)

    bounded_stored : (v : Version) (x : Phase) → GoodPhase s x → SizedStep s (stored_at s i c room out v x)
    bounded_stored v idle h = tt
    bounded_stored v (scanning bytes) h = tt
    bounded_stored v (storing w a ds) h = go (same_version v w) (stands a i) refl
      where
        go : (x y : Bool) → stands a i ≡ y → SizedStep s (cond (x && not y) (acknowledge s c room out w (with_node a i) ds) (stays waits))
        go true true e = tt
        go true false e = bounded_acknowledge w a ds h e
        go false y e = tt
    bounded_stored v (updating x) h = tt
    bounded_stored v (freezing x) h = tt
    bounded_stored v raising h = tt
    bounded_stored v picking h = tt
    bounded_stored v (fetching x n m ps) h = tt

    bounded_joined : (v : Version) (to : List ℕ) (o : Outcome) → SizedStep s (joined_at c room v to o)
    bounded_joined v to (Outcome.gives len) = tt
    bounded_joined v to (Outcome.refuses n) = tt

    bounded_on : (x : Pointer) (n m : ℕ) (ps : List (List ℕ)) → SizedStep s (go_on c room out x n m ps)
    bounded_on x n m ps = either s (all_counted x n) _ _ tt tt

    bounded_counted : (x : Pointer) (n m : ℕ) (ps : List (List ℕ)) (y : Option (List ℕ)) → SizedStep s (counted s i c room out x n m ps y)
    bounded_counted x n m ps nothing = bounded_on x n m ps
    bounded_counted x n m ps (some y) =
        let e = join s.n s.k s.f (with_node m i) (areas s (set ps (i - 1) y)) (lengths (set ps (i - 1) y)) out in
        either s (matches s x i y) _ _
        (either s (ltb (count (with_node m i)) s.k) _ _ (bounded_on x n (with_node m i) (set ps (i - 1) y)) (bounded_joined x.version e.out e.outcome))
        (bounded_on x n m ps)

    bounded_replied : (v : Version) (y : Option (List ℕ)) (x : Phase) → SizedStep s (replied_at s i c room out v y x)
    bounded_replied v y idle = tt
    bounded_replied v y (scanning bytes) = tt
    bounded_replied v y (storing w a ds) = tt
    bounded_replied v y (updating x) = tt
    bounded_replied v y (freezing x) = tt
    bounded_replied v y raising = tt
    bounded_replied v y picking = tt
    bounded_replied v y (fetching x n m ps) = either s (counts x n i v) _ _ (bounded_counted x (with_node n i) m ps y) tt

    bounded_message : (m : ToClient) → SizedStep s (message_at s i c room out m)
    bounded_message (ToClient.stored v) = bounded_stored v c.phase g.phase
    bounded_message ToClient.freed = tt
    bounded_message (ToClient.reply v x) = bounded_replied v (some x) c.phase
    bounded_message (ToClient.missing v) = bounded_replied v nothing c.phase

-- ---- events of a client, whatever bytes its record has

bounded_after : (s : Measures) (b room out rest : List ℕ) (x : Step) → SizedStep s x → Sized s (after s b room out rest x).answer
bounded_after s b room out rest (stays a) h = h
bounded_after s b room out rest (does a c r o) h = h

-- behind the three tests a step is done on the record that the bytes show
module _ (s : Measures) (b room out : List ℕ) (bytes : Bytes b) (f : Client → Step) where
  bounded_tested : (x y z : Bool) → (passes s ≡ true → z ≡ true → (c : Client) → GoodClient s c → SizedStep s (f c)) → passes s ≡ x
      → Sized s (cond x (cond y (cond z (on_client s b room out (read_client s b) f) (unchanged (refused 3) b room out)) (unchanged (refused 2) b room out))
      (unchanged (refused 1) b room out)).answer
  bounded_tested true true true h e = go (read_client s b) refl
    where
      go : (r : Option (Read Client)) → read_client s b ≡ r → Sized s (on_client s b room out r f).answer
      go nothing q = tt
      go (some r) q = bounded_after s b room out r.rest (f r.value) (h e refl r.value (client_only s b r bytes q).0)
  bounded_tested true true false h e = tt
  bounded_tested true false z h e = tt
  bounded_tested false y z h e = tt

-- a deposit's start sends a scan's call or nothing, whatever stands in the record
pub deposit_bounded : (s : Measures) (own : ℕ) (b new : List ℕ) → Sized s (start_deposit s own b new).answer
unfolding start_deposit
deposit_bounded s own b new = go (passes s) (leb (client_size s) (length b)) (ltb own s.m) (read_client s b)
  where
    go : (x y z : Bool) (r : Option (Read Client))
        → Sized s (cond x (cond y (cond z (on_client s b [] [] r (λ c. begin_deposit s c new)) (unchanged (refused 3) b [] [])) (unchanged (refused 2) b [] []))
        (unchanged (refused 1) b [] [])).answer
    go true true true nothing = tt
    go true true true (some r) = bounded_after s b [] [] r.rest (begin_deposit s r.value new) (bounded_deposit s r.value new)
    go true true false r = tt
    go true false z r = tt
    go false y z r = tt

module _ (s : Measures) (own : ℕ) (b : List ℕ) (bytes : Bytes b) where
  pub reading_bounded : (room : List ℕ) → Sized s (start_reading s own b room).answer
  unfolding start_reading
  reading_bounded room =
      bounded_tested s b room [] bytes (λ c. begin_reading c room) (passes s) (leb (client_size s) (length b) && leb (room_size s) (length room)) (ltb own s.m)
      (λ p z c g. bounded_reading s c room) refl

  pub updated_bounded : (room : List ℕ) → Sized s (update_answer s own b room).answer
  unfolding update_answer
  updated_bounded room =
      bounded_tested s b room [] bytes (λ c. acknowledged_at c room c.phase) (passes s) (leb (client_size s) (length b) && leb (room_size s) (length room)) (ltb own s.m)
      (λ p z c g. bounded_acknowledged s c room c.phase) refl

  pub scanned_bounded : (rows room : List ℕ) → Sized s (scan_answer s own b rows room).answer
  unfolding scan_answer
  scanned_bounded rows room =
      bounded_tested s b room [] bytes (λ c. on_rows (rows_verdict s rows) (λ l. scanned_at s own c room l c.phase)) (passes s)
      (leb (client_size s) (length b) && (leb (s.m * row_size s) (length rows) && leb (room_size s) (length room))) (ltb own s.m)
      (λ p z c g. go p c g (rows_verdict s rows)) refl
    where
      go : passes s ≡ true → (c : Client) → GoodClient s c → (r : Verdict (Read (List Row))) → SizedStep s (on_rows r (λ l. scanned_at s own c room l c.phase))
      go p c g (broken n) = tt
      go p c g (sound r) = bounded_scanned s (passed s p) own c room r.value c.phase g.phase

  pub message_bounded : (i : ℕ) (message room out : List ℕ) → Sized s (client_message s own i b message room out).answer
  unfolding client_message
  message_bounded i message room out =
      bounded_tested s b room out bytes (λ c. on_message (read_to_client s message) (λ m. message_at s i c room out m)) (passes s)
      (leb (client_size s) (length b) && (leb (room_size s) (length room) && leb (s.k * s.f - 4) (length out))) (ltb own s.m && (leb 1 i && leb i s.n))
      (λ p z c g.
      let w = and-true (leb 1 i) _ (and-true (ltb own s.m) _ z).1 in
      go (passed s p) c g (leb-true 1 i w.0) (leb-true i s.n w.1) (read_to_client s message)) refl
    where
      go : Passed s → (c : Client) → GoodClient s c → 1 ≤ i → i ≤ s.n → (m : Option ToClient) → SizedStep s (on_message m (λ m. message_at s i c room out m))
      go p c g lo up nothing = tt
      go p c g lo up (some m) = bounded_message s p i lo up c g room out m

-- ---- answers of the directory and of a node

-- so many bytes of a room at most
abbrev pub ServedIn : ℕ → Served → Type 0
ServedIn n (refuses r) = Unit {0}
ServedIn n (serves len) = len ≤ n

pub scan_bounded : (s : Measures) (table room : List ℕ) → ServedIn (directory_size s) (directory_scan s table room).answer
unfolding directory_scan
scan_bounded s table room = go (passes s) (leb (directory_size s) (length table) && leb (directory_size s) (length room)) (rows_verdict s table)
  where
    go : (x y : Bool) (r : Verdict (Read (List Row)))
        → ServedIn (directory_size s) (cond x (cond y (rowsIn s table room r) (record { answer = refuses 2; table = table; room = room }))
        (record { answer = refuses 1; table = table; room = room })).answer
    go true true (broken n) = tt
    go true true (sound r) = omega arith
    go true false r = tt
    go false y r = tt

-- an update is answered with no bytes
pub update_bounded : (s : Measures) (c : ℕ) (table fields : List ℕ) → ServedIn 0 (directory_update s c table fields).answer
unfolding directory_update
update_bounded s c table fields = go (passes s) (leb (directory_size s) (length table)) (ltb c s.m) (read_directory s table) (record_verdict s fields)
  where
    go : (x y z : Bool) (r : Option (Read (List Row))) (u : Verdict (List (Option Content)))
        → ServedIn 0 (cond x (cond y (cond z (on_table s c table r u) (record { answer = refuses 3; table = table; room = [] }))
        (record { answer = refuses 2; table = table; room = [] })) (record { answer = refuses 1; table = table; room = [] })).answer
    go true true true nothing u = tt
    go true true true (some r) (broken n) = tt
    go true true true (some r) (sound u) =
        chosen (λ (e : DirectoryEnd). ServedIn 0 e.answer) (own_rows 0 r.value && own_fields c u) _ _ (omega arith) tt
    go true true false r u = tt
    go true false z r u = tt
    go false y z r u = tt

-- a piece of a place
held-short : (s : Measures) (h : Held) → FitsPlace s h → length h.piece ≤ s.f
held-short s h g =
    let a = and-true (leb 1 h.version.sequence.0) _ g.0.0.1 in
    let b = and-true (ltb h.version.client s.m) _ a.1 in
    leb-true (length h.piece) s.f (and-true (leb 1 (length h.piece)) _ b.1).1

-- a reply: tag, version, flag, and a piece
reply_bounded : (s : Measures) (l : List Held) → GoodTable s l → (m : ToNode) → length (write_to_client (answer_to l m)) ≤ answer_size s
unfolding write_to_client
reply_bounded s l g (ToNode.store v p) = omega (arith, length-version v)
reply_bounded s l g (ToNode.request v) = go (hand_back v l) refl
  where
    go : (x : Option (List ℕ)) → hand_back v l ≡ x → length (write_to_client (answer v x)) ≤ answer_size s
    go nothing e = omega (arith, length-version v, length-append (write_version v) (0 ∷ []))
    go (some x) e =
        omega (arith, length-version v, length-append (write_version v) (1 ∷ x), held-short s (record { version = v; piece = x }) (hand-each (FitsPlace s) v x l g.1.0.0.0 e))
reply_bounded s l g (ToNode.free vs) = omega arith

pub node_bounded : (s : Measures) (i : ℕ) (table message room : List ℕ) → Bytes table → ServedIn (answer_size s) (node_message s i table message room).answer
unfolding node_message
node_bounded s i table message room bytes =
    go (passes s) (leb (table_size s) (length table) && leb (answer_size s) (length room)) (leb 1 i && leb i s.n) (read_table s table) refl (read_to_node s message)
  where
    held : (l : List Held) → GoodTable s l → (rest : List ℕ) (m : ToNode) (k : Option (List Held))
        → ServedIn (answer_size s) (kept s table room rest k (write_to_client (answer_to l m))).answer
    held l g rest m nothing = tt
    held l g rest m (some k) = reply_bounded s l g m

    go : (x y z : Bool) (r : Option (Read (List Held))) → read_table s table ≡ r → (m : Option ToNode)
        → ServedIn (answer_size s) (cond x (cond y (cond z (onNode s table room r m) (record { answer = refuses 3; table = table; room = room }))
        (record { answer = refuses 2; table = table; room = room })) (record { answer = refuses 1; table = table; room = room })).answer
    go true true true nothing e m = tt
    go true true true (some r) e nothing = tt
    go true true true (some r) e (some m) = held r.value ((format_table s).only table r bytes e).0 r.rest m (held_after s r.value m)
    go true true false r e m = tt
    go true false z r e m = tt
    go false y z r e m = tt
