-- An event that is refused leaves the client's record, room and output as they were, and a client's number out of bounds is refused.
use mathlib.Core.Path.{◌≡◌, refl, sym, ap, ◌∙◌}
use mathlib.Core.Bool.{Bool, true, false, cond, ◌&&◌, false≢true, not}
use mathlib.Core.List.{List, [], ◌++◌}
use mathlib.Core.Option.{Option, some, none}
use Prim.Native.Nat.{ℕ, ◌+◌, ◌-◌, ◌*◌, ◌≤◌}
use borrow.Author.Tests.{le-ltb}
use lib.Dec.{leb, ltb}
use lib.ListN.{length, drop, set}
use Rattle.coding.specs.Answer.{Outcome}
use Rattle.coding.specs.Join.{join}
use Rattle.parties.specs.declared.Measures.{Measures}
use Rattle.std.specs.Prelude.{Option as StdOption, Some, None}
use Rattle.parties.specs.declared.Sequence.{Sequence}
use Rattle.parties.specs.declared.ReadingIndex.{ReadingIndex}
use Rattle.parties.specs.declared.Version.{Version}
use Rattle.parties.specs.protocol.Measures.{passes, row_size}
use Rattle.parties.specs.protocol.Format.{Read}
use Rattle.parties.specs.protocol.Version.{next_sequence, next_index}
use Rattle.parties.specs.protocol.Nodes.{count, stands, with_node}
use Rattle.parties.specs.protocol.Pointer.{Pointer, is_none}
use Rattle.parties.specs.protocol.Directory.{Row}
use Rattle.parties.specs.protocol.Verdict.{Verdict, sound, broken, rows_verdict}
use Rattle.parties.specs.protocol.Message.{ToClient, read_to_client}
use Rattle.parties.specs.protocol.Client.{Phase, idle, scanning, storing, updating, freezing, raising, picking, fetching, Client, read_client, write_client, fresh_client, client_size, areas, lengths}
use Rattle.parties.specs.protocol.Deposit.{highest}
use Rattle.parties.specs.protocol.Reading.{pick, counts, matches, all_counted, same_version}
use Rattle.parties.specs.protocol.Answer.{ClientAnswer, refused, waits, scan, update, stores, requests, deposited, empty, page, spent, failed}
use Rattle.parties.specs.protocol.ClientEvents.{Step, stays, does, ClientEnd, after, on_client, guarded, unchanged, room_size, is_idle, begin_deposit, begin_reading, raise}
use Rattle.parties.specs.protocol.ClientEvents.{acknowledged_at, scanned_at, draw, stored_at, go_on, joined_at, counted, replied_at, message_at, on_rows, on_message}
use Rattle.parties.specs.protocol.ClientEvents.{client_fresh, start_deposit, start_reading, update_answer, scan_answer, client_message}
use Rattle.parties.specs.protocol.Run.{is_refused}

-- ---- steps of a client: one that changes the record is not refused

data Fair : Step → Type 0 where
  still : (a : ClientAnswer) → Fair (stays a)
  acts : (a : ClientAnswer) (c : Client) (r o : List ℕ) → is_refused a ≡ false → Fair (does a c r o)

fair_either : (b : Bool) (x y : Step) → Fair x → Fair y → Fair (cond b x y)
fair_either true x y h k = h
fair_either false x y h k = k

fair_deposit : (s : Measures) (c : Client) (bytes : List ℕ) → Fair (begin_deposit s c bytes)
unfolding begin_deposit
fair_deposit s c bytes = fair_either (is_idle c.phase) _ _ (fair_either (leb (length bytes) (s.k * s.f - 4)) _ _ (acts _ _ _ _ refl) (still _)) (still _)

fair_raise : (c : Client) (room : List ℕ) (n : StdOption ReadingIndex) → Fair (raise c room n)
fair_raise c room (Some i) = acts _ _ _ _ refl
fair_raise c room None = still _

fair_reading : (c : Client) (room : List ℕ) → Fair (begin_reading c room)
unfolding begin_reading
fair_reading c room = fair_either (is_idle c.phase) _ _ (fair_raise c room (next_index c.reading_index)) (still _)

fair_acknowledged : (c : Client) (room : List ℕ) (p : Phase) → Fair (acknowledged_at c room p)
fair_acknowledged c room idle = still _
fair_acknowledged c room (scanning bytes) = still _
fair_acknowledged c room (storing v a ds) = still _
fair_acknowledged c room (updating p) = acts _ _ _ _ refl
fair_acknowledged c room (freezing p) = still _
fair_acknowledged c room raising = acts _ _ _ _ refl
fair_acknowledged c room picking = still _
fair_acknowledged c room (fetching p n m ps) = still _

fair_draw : (s : Measures) (own : ℕ) (c : Client) (room bytes : List ℕ) (n : StdOption Sequence) → Fair (draw s own c room bytes n)
fair_draw s own c room bytes (Some q) = acts _ _ _ _ refl
fair_draw s own c room bytes None = acts _ _ _ _ refl

fair_scanned : (s : Measures) (own : ℕ) (c : Client) (room : List ℕ) (rows : List Row) (p : Phase) → Fair (scanned_at s own c room rows p)
fair_scanned s own c room rows idle = still _
fair_scanned s own c room rows (scanning bytes) = fair_draw s own c room bytes (next_sequence (highest rows))
fair_scanned s own c room rows (storing v a ds) = still _
fair_scanned s own c room rows (updating p) = still _
fair_scanned s own c room rows (freezing p) = acts _ _ _ _ refl
fair_scanned s own c room rows raising = still _
fair_scanned s own c room rows picking =
    fair_either (is_none (pick own c.reading_index rows)) _ _ (acts _ _ _ _ refl) (acts _ _ _ _ refl)
fair_scanned s own c room rows (fetching p n m ps) = still _

module _ (s : Measures) (i : ℕ) (c : Client) (room out : List ℕ) where
  fair_stored : (v : Version) (p : Phase) → Fair (stored_at s i c room out v p)
  fair_stored v idle = still _
  fair_stored v (scanning bytes) = still _
  fair_stored v (storing w a ds) =
      fair_either (same_version v w && not (stands a i)) _ _
      (fair_either (ltb (count (with_node a i)) (s.t + s.k)) _ _ (acts _ _ _ _ refl) (acts _ _ _ _ refl)) (still _)
  fair_stored v (updating p) = still _
  fair_stored v (freezing p) = still _
  fair_stored v raising = still _
  fair_stored v picking = still _
  fair_stored v (fetching p n m ps) = still _

  fair_joined : (v : Version) (to : List ℕ) (o : Outcome) → Fair (joined_at c room v to o)
  fair_joined v to (Outcome.gives len) = acts _ _ _ _ refl
  fair_joined v to (Outcome.refuses n) = still _

  fair_on : (p : Pointer) (n m : ℕ) (ps : List (List ℕ)) → Fair (go_on c room out p n m ps)
  fair_on p n m ps = fair_either (all_counted p n) _ _ (acts _ _ _ _ refl) (acts _ _ _ _ refl)

  fair_counted : (p : Pointer) (n m : ℕ) (ps : List (List ℕ)) (x : Option (List ℕ)) → Fair (counted s i c room out p n m ps x)
  fair_counted p n m ps none = fair_on p n m ps
  fair_counted p n m ps (some x) =
      let e = join s.n s.k s.f (with_node m i) (areas s (set ps (i - 1) x)) (lengths (set ps (i - 1) x)) out in
      fair_either (matches s p i x) _ _
      (fair_either (ltb (count (with_node m i)) s.k) _ _ (fair_on p n (with_node m i) (set ps (i - 1) x)) (fair_joined p.version e.out e.outcome))
      (fair_on p n m ps)

  fair_replied : (v : Version) (x : Option (List ℕ)) (p : Phase) → Fair (replied_at s i c room out v x p)
  fair_replied v x idle = still _
  fair_replied v x (scanning bytes) = still _
  fair_replied v x (storing w a ds) = still _
  fair_replied v x (updating p) = still _
  fair_replied v x (freezing p) = still _
  fair_replied v x raising = still _
  fair_replied v x picking = still _
  fair_replied v x (fetching p n m ps) = fair_either (counts p n i v) _ _ (fair_counted p (with_node n i) m ps x) (still _)

  fair_message : (m : ToClient) → Fair (message_at s i c room out m)
  fair_message (ToClient.stored v) = fair_stored v c.phase
  fair_message ToClient.freed = still _
  fair_message (ToClient.reply v x) = fair_replied v (some x) c.phase
  fair_message (ToClient.missing v) = fair_replied v none c.phase

fair_rows : (x : Verdict (Read (List Row))) (f : List Row → Step) → ((l : List Row) → Fair (f l)) → Fair (on_rows x f)
fair_rows (broken n) f h = still _
fair_rows (sound r) f h = h r.value

fair_heard : {A : Type 0} (x : Option A) (f : A → Step) → ((a : A) → Fair (f a)) → Fair (on_message x f)
fair_heard none f h = still _
fair_heard (some a) f h = h a

-- ---- events of a client

-- refused, it leaves record, room and output byte for byte as they came
abbrev pub Left : ClientEnd → List ℕ → List ℕ → List ℕ → Type 0
Left e client room out = (n : ℕ) → e.answer ≡ refused n → e ≡ unchanged (refused n) client room out

-- of an event on the record's bytes: what it leaves, and that a number out of bounds is refused
pub record Guarded (s : Measures) (c : ℕ) (room out : List ℕ) (f : List ℕ → ClientEnd) : Type 0 where
  pub left : (b : List ℕ) → Left (f b) b room out
  pub bounded : s.m ≤ c → (b : List ℕ) → is_refused (f b).answer ≡ true

unchanged_left : (a : ClientAnswer) (client room out : List ℕ) → Left (unchanged a client room out) client room out
unchanged_left a client room out n e = ap (λ (x : ClientAnswer). unchanged x client room out) e

after_left : (s : Measures) (client room out rest : List ℕ) (x : Step) → Fair x → Left (after s client room out rest x) client room out
after_left s client room out rest x (still a) = unchanged_left a client room out
after_left s client room out rest x (acts a c r o q) = λ n e. absurd (false≢true (sym q ∙ ap is_refused e))

on_left : (s : Measures) (client room out : List ℕ) (x : Option (Read Client)) (f : Client → Step) → ((c : Client) → Fair (f c))
    → Left (on_client s client room out x f) client room out
on_left s client room out none f h = unchanged_left (refused 4) client room out
on_left s client room out (some r) f h = after_left s client room out r.rest (f r.value) (h r.value)

-- the three tests
abbrev tested : Bool → Bool → Bool → ClientEnd → (ClientAnswer → ClientEnd) → ClientEnd
tested p enough within e refuse = cond p (cond enough (cond within e (refuse (refused 3))) (refuse (refused 2))) (refuse (refused 1))

tested_left : (p enough within : Bool) (e : ClientEnd) (client room out : List ℕ) → Left e client room out
    → Left (tested p enough within e (λ a. unchanged a client room out)) client room out
tested_left true true true e client room out h = h
tested_left true true false e client room out h = unchanged_left (refused 3) client room out
tested_left true false within e client room out h = unchanged_left (refused 2) client room out
tested_left false enough within e client room out h = unchanged_left (refused 1) client room out

tested_bounded : (p enough : Bool) (e : ClientEnd) (client room out : List ℕ)
    → is_refused (tested p enough false e (λ a. unchanged a client room out)).answer ≡ true
tested_bounded true true e client room out = refl
tested_bounded true false e client room out = refl
tested_bounded false enough e client room out = refl

refused_is : (a : ClientAnswer) → is_refused a ≡ true → (n : ℕ) × (a ≡ refused n)
refused_is (refused n) e = (n, refl)
refused_is waits e = absurd (false≢true e)
refused_is scan e = absurd (false≢true e)
refused_is (update len) e = absurd (false≢true e)
refused_is (stores v len) e = absurd (false≢true e)
refused_is (requests v nodes) e = absurd (false≢true e)
refused_is (deposited v len) e = absurd (false≢true e)
refused_is empty e = absurd (false≢true e)
refused_is (page v len) e = absurd (false≢true e)
refused_is spent e = absurd (false≢true e)
refused_is failed e = absurd (false≢true e)

-- of the record alone
pub left_record : (e : ClientEnd) (client room out : List ℕ) → Left e client room out → is_refused e.answer ≡ true → e.client ≡ client
left_record e client room out h q =
    let r = refused_is e.answer q in ap (λ (x : ClientEnd). x.client) (h r.0 r.1)

guarded-all : (s : Measures) (c : ℕ) (enough : List ℕ → Bool) (within : Bool) (room out : List ℕ) (f : Client → Step)
    → (s.m ≤ c → within ≡ false) → ((x : Client) → Fair (f x))
    → Guarded s c room out (λ b. guarded s (enough b) within (on_client s b room out (read_client s b) f) (λ a. unchanged a b room out))
guarded-all s c enough within room out f h k =
    record {
      left = λ b.
          tested_left (passes s) (enough b) within (on_client s b room out (read_client s b) f) b room out (on_left s b room out (read_client s b) f k);
      bounded = λ l b. rw (h l) (tested_bounded (passes s) (enough b) (on_client s b room out (read_client s b) f) b room out);
    }

module _ (s : Measures) (c : ℕ) where
  pub deposit-guarded : (bytes : List ℕ) → Guarded s c [] [] (λ b. start_deposit s c b bytes)
  unfolding start_deposit
  deposit-guarded bytes =
      guarded-all s c (λ b. leb (client_size s) (length b)) (ltb c s.m) [] [] (λ x. begin_deposit s x bytes) (le-ltb c s.m)
      (λ x. fair_deposit s x bytes)

  pub reading-guarded : (room : List ℕ) → Guarded s c room [] (λ b. start_reading s c b room)
  unfolding start_reading
  reading-guarded room =
      guarded-all s c (λ b. leb (client_size s) (length b) && leb (room_size s) (length room)) (ltb c s.m) room [] (λ x. begin_reading x room)
      (le-ltb c s.m) (λ x. fair_reading x room)

  pub updated-guarded : (room : List ℕ) → Guarded s c room [] (λ b. update_answer s c b room)
  unfolding update_answer
  updated-guarded room =
      guarded-all s c (λ b. leb (client_size s) (length b) && leb (room_size s) (length room)) (ltb c s.m) room []
      (λ x. acknowledged_at x room x.phase) (le-ltb c s.m) (λ x. fair_acknowledged x room x.phase)

  pub scanned-guarded : (rows room : List ℕ) → Guarded s c room [] (λ b. scan_answer s c b rows room)
  unfolding scan_answer
  scanned-guarded rows room =
      guarded-all s c
      (λ b. leb (client_size s) (length b) && (leb (s.m * row_size s) (length rows) && leb (room_size s) (length room))) (ltb c s.m) room []
      (λ x. on_rows (rows_verdict s rows) (λ l. scanned_at s c x room l x.phase)) (le-ltb c s.m)
      (λ x. fair_rows (rows_verdict s rows) _ (λ l. fair_scanned s c x room l x.phase))

  pub message_guarded : (i : ℕ) (message room out : List ℕ) → Guarded s c room out (λ b. client_message s c i b message room out)
  unfolding client_message
  message_guarded i message room out =
      guarded-all s c
      (λ b. leb (client_size s) (length b) && (leb (room_size s) (length room) && leb (s.k * s.f - 4) (length out)))
      (ltb c s.m && (leb 1 i && leb i s.n)) room out (λ x. on_message (read_to_client s message) (λ m. message_at s i x room out m))
      (λ h. rw (le-ltb c s.m h))
      (λ x. fair_heard (read_to_client s message) _ (λ m. fair_message s i x room out m))

-- ---- of a client all that was lent

-- Document 01: memory stays unchanged at every number but 7 in a deposit and 9 in a reading, which are the answers `spent` and `failed`.
pub record ClientLeaves (s : Measures) (own : ℕ) (client : List ℕ) : Type 0 where
  pub fresh : Left (client_fresh s client) client [] []
  pub deposit : (bytes : List ℕ) → Left (start_deposit s own client bytes) client [] []
  pub reading : (room : List ℕ) → Left (start_reading s own client room) client room []
  pub updated : (room : List ℕ) → Left (update_answer s own client room) client room []
  pub scanned : (rows room : List ℕ) → Left (scan_answer s own client rows room) client room []
  pub message : (i : ℕ) (message room out : List ℕ) → Left (client_message s own i client message room out) client room out

pub client_leaves : (s : Measures) (own : ℕ) (client : List ℕ) → ClientLeaves s own client
unfolding client_fresh
client_leaves s own client =
    record {
      fresh =
          tested_left (passes s) (leb (client_size s) (length client)) true
          (record { answer = waits; client = write_client s (fresh_client s) ++ drop (client_size s) client; room = []; out = [] }) client [] []
          (λ n e. absurd (false≢true (ap is_refused e)));
      deposit = λ bytes. (deposit-guarded s own bytes).left client;
      reading = λ room. (reading-guarded s own room).left client;
      updated = λ room. (updated-guarded s own room).left client;
      scanned = λ rows room. (scanned-guarded s own rows room).left client;
      message = λ i message room out. (message_guarded s own i message room out).left client;
    }
