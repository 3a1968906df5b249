-- What each function of the service leaves shows the run's state after the event: one lemma for each function, from its contract.
use mathlib.Core.Path.{◌≡◌, refl, sym, ap, subst⁻¹, ◌∙◌}
use mathlib.Core.Bool.{Bool, true, false, cond, ◌&&◌}
use mathlib.Core.List.{List, [], ◌∷◌}
use Prim.Native.Nat.{ℕ, ◌+◌, ◌≤◌, ◌<◌}
use native.Mathlib.Omega.{arith}
use native.Mathlib.Decide.{dec_lt}
use borrow.Author.Tests.{leb-true}
use lib.Dec.{leb}
use Rattle.parties.specs.declared.Measures.{Measures}
use Rattle.parties.specs.protocol.Measures.{passes}
use Rattle.parties.specs.protocol.Client.{client_size}
use Rattle.parties.specs.protocol.Answer.{Served, refuses, serves}
use Rattle.parties.specs.protocol.ClientEvents.{ClientEnd, start_deposit, start_reading, update_answer, scan_answer, client_message}
use Rattle.parties.specs.protocol.DirectoryEvents.{DirectoryEnd, directory_size, directory_update, directory_scan}
use Rattle.parties.specs.protocol.NodeEvents.{NodeEnd, table_size, node_message}
use Rattle.parties.specs.protocol.Run.{History, State, Answered, Call, scan_call, update_call, Return, updated, rows, upd, nothing}
use Rattle.parties.specs.protocol.Run.{stays, goes, told, carried, keeps, is_refused}
use Rattle.parties.specs.protocol.Run.{Event, deposit, reading, carry, hand, bring, deliver, lie, carry_out, tick}
use Rattle.parties.proofs.protocol.model.Cells.{by_eq}
use Rattle.parties.proofs.protocol.events.RunLaws.{head_scan, head_update, head_updated, head_rows, head_to_node, head_lost, head_to_client, none-called, none-returned, none_to_node, none_to_client}
use Rattle.parties.proofs.protocol.events.RefusalLaws.{Guarded, left_record, deposit-guarded, reading-guarded, updated-guarded, scanned-guarded, message_guarded}
use Rattle.parties.proofs.protocol.events.TableRefusalLaws.{Keeps, Refuses, refused-keeps, update-keeps, scan-keeps, node-keeps, node-refuses}
use Rattle.title.specs.Memory.{part_of, directory_in, table_at, table_in, record_at, record_in, PutBack}
use Rattle.title.specs.Service.{MemoryShows, Deposits, Reads, Updated, Scanned, ToClient, Updates, ToNode, Called, Returned, Brought, Delivered, Lied, Handed}
use Rattle.title.proofs.MemoryLaws.{table-within, record_within}
use Rattle.title.proofs.PartLaws.{directory-table, directory_record, table_record, directory-fits, tables_apart, records_apart}
use Rattle.title.proofs.PartLaws.{both_true, put_long, put_own, put_before, put_after, put_same}

module _ (s : Measures) (ok : passes s ≡ true) (memory after : List ℕ) (st : State) (o : MemoryShows s memory st) where
  -- the tables and records are those before
  same-shows : after ≡ memory → (t : State) → t.directory ≡ st.directory → t.nodes ≡ st.nodes → t.clients ≡ st.clients → MemoryShows s after t
  same-shows e t d n c =
      subst⁻¹ (λ (u : List ℕ). MemoryShows s u t) e
      (record {
        long = o.long;
        directory = o.directory ∙ sym d;
        nodes = λ i lo up. o.nodes i lo up ∙ sym (ap (λ (f : ℕ → List ℕ). f i) n);
        clients = λ j l. o.clients j l ∙ sym (ap (λ (f : ℕ → List ℕ). f j) c);
      })

  -- ---- what a party makes of its part of the memory, answer, room and output included, is what it makes of the run's

  pub client-same : (c : ℕ) → c < s.m → (f : List ℕ → ClientEnd) → f (record_in s c memory) ≡ f (st.clients c)
  client-same c l f = ap f (o.clients c l)

  pub directory-same : (f : List ℕ → DirectoryEnd) → f (directory_in s memory) ≡ f st.directory
  directory-same f = ap f o.directory

  pub node-same : (i : ℕ) → 1 ≤ i → i ≤ s.n → (f : List ℕ → NodeEnd) → f (table_in s i memory) ≡ f (st.nodes i)
  node-same i lo up f = ap f (o.nodes i lo up)

  -- ---- client c's record is written back

  module _ (c : ℕ) (new : List ℕ) (p : PutBack memory (record_at s c) (record_in s c memory) new after) where
    record_same : new ≡ record_in s c memory → after ≡ memory
    record_same = put_same s memory o.long (record_at s c) (client_size s) (record_within s ok c) new after p

    record_before : (to size : ℕ) → to + size ≤ record_at s c → part_of s to size after ≡ part_of s to size memory
    record_before = put_before s memory o.long (record_at s c) (client_size s) (record_within s ok c) new after p

    other_record : c < s.m → (j : ℕ) → j < s.m → (j ≡ c → ⊥) → record_in s j after ≡ record_in s j memory
    other_record l j k g = go (dec_lt j c)
      where
        go : Dec (j < c) → record_in s j after ≡ record_in s j memory
        go (yes h) = record_before (record_at s j) (client_size s) (records_apart s j c h l)
        go (no h) =
            let e : c < j = omega arith in
            put_after s memory o.long (record_at s c) (client_size s) (record_within s ok c) new after p (record_at s j) (client_size s) (records_apart s c j e k)

    record_shows : c < s.m → (t : State) → t.directory ≡ st.directory → t.nodes ≡ st.nodes → t.clients ≡ upd st.clients c new → MemoryShows s after t
    record_shows l t d n q =
        record {
          long = put_long s memory o.long (record_at s c) (client_size s) (record_within s ok c) new after p;
          directory = record_before 0 (directory_size s) (directory_record s c) ∙ o.directory ∙ sym d;
          nodes = λ i lo up.
              record_before (table_at s i) (table_size s) (table_record s ok i c) ∙ o.nodes i lo up ∙ sym (ap (λ (f : ℕ → List ℕ). f i) n);
          clients = λ j k. cell j k ∙ sym (ap (λ (f : ℕ → List ℕ). f j) q);
        }
      where
        cell : (j : ℕ) → j < s.m → record_in s j after ≡ upd st.clients c new j
        cell j k =
            by_eq j c (λ e g. rw e (rw g (put_own s memory o.long (record_at s c) (client_size s) (record_within s ok c) new after p)))
            (λ e g. rw e (other_record l j k g ∙ o.clients j k))

  -- an event of client c: refused, nothing changes; else its record does
  module _ (c : ℕ) {room out : List ℕ} (f : List ℕ → ClientEnd) (g : Guarded s c room out f)
      (p : PutBack memory (record_at s c) (record_in s c memory) (f (record_in s c memory)).client after) where
    turn_shows : (a : Answered) (h h' : History) (returns : ℕ → List Return) (to_client : ℕ → ℕ → List (List ℕ))
        → MemoryShows s after (cond (is_refused (f (st.clients c)).answer) (stays a h st) (goes s c (f (st.clients c)) returns to_client h' st)).state
    turn_shows a h h' returns to_client = go (dec_lt c s.m)
      where
        unchanged : is_refused (f (record_in s c memory)).answer ≡ true → after ≡ memory
        unchanged e = record_same c (f (record_in s c memory)).client p
            (left_record (f (record_in s c memory)) (record_in s c memory) room out (g.left (record_in s c memory)) e)

        known : c < s.m → record_in s c memory ≡ st.clients c → (b : Bool) → is_refused (f (st.clients c)).answer ≡ b
            → MemoryShows s after (cond b (stays a h st) (goes s c (f (st.clients c)) returns to_client h' st)).state
        known l e true q = same-shows (unchanged (ap (λ (x : List ℕ). is_refused (f x).answer) e ∙ q)) _ refl refl refl
        known l e false q =
            record_shows c (f (record_in s c memory)).client p l _ refl refl (ap (λ (x : List ℕ). upd st.clients c (f x).client) (sym e))

        go : Dec (c < s.m)
            → MemoryShows s after (cond (is_refused (f (st.clients c)).answer) (stays a h st) (goes s c (f (st.clients c)) returns to_client h' st)).state
        go (yes l) = known l (o.clients c l) (is_refused (f (st.clients c)).answer) refl
        go (no l) =
            let up : s.m ≤ c = omega arith in
            rw (g.bounded up (st.clients c)) (same-shows (unchanged (g.bounded up (record_in s c memory))) _ refl refl refl)

  -- deposit
  pub deposit-shows : (c : ℕ) (page : List ℕ) (honest : ℕ → Bool) → Deposits s c page memory after → MemoryShows s after (carry_out s honest (deposit c page) st).state
  unfolding carry_out
  deposit-shows c page honest p = turn_shows c (λ b. start_deposit s c b page) (deposit-guarded s c page) p _ _ _ _ _

  -- read
  pub read-shows : (c : ℕ) (room : List ℕ) (honest : ℕ → Bool) → Reads s c room memory after → MemoryShows s after (carry_out s honest (reading c room) st).state
  unfolding carry_out
  read-shows c room honest p = turn_shows c (λ b. start_reading s c b room) (reading-guarded s c room) p _ _ _ _ _

  -- updated
  pub updated-shows : (c : ℕ) (room : List ℕ) (honest : ℕ → Bool) (q : List Return) → st.returns c ≡ updated ∷ q → Updated s c room memory after
      → MemoryShows s after (carry_out s honest (hand c room) st).state
  updated-shows c room honest q e p =
      rw (head_updated s honest st c room q e) (turn_shows c (λ b. update_answer s c b room) (updated-guarded s c room) p _ _ _ _ _)

  -- scanned
  pub scanned-shows : (c : ℕ) (l room : List ℕ) (honest : ℕ → Bool) (q : List Return) → st.returns c ≡ rows l ∷ q → Scanned s c l room memory after
      → MemoryShows s after (carry_out s honest (hand c room) st).state
  scanned-shows c l room honest q e p =
      rw (head_rows s honest st c room l q e) (turn_shows c (λ b. scan_answer s c b l room) (scanned-guarded s c l room) p _ _ _ _ _)

  hand-shows : (c : ℕ) (room : List ℕ) (honest : ℕ → Bool) → Returned s c room (st.returns c) memory after
      → MemoryShows s after (carry_out s honest (hand c room) st).state
  hand-shows c room honest = go (st.returns c) refl
    where
      go : (q : List Return) → st.returns c ≡ q → Returned s c room q memory after → MemoryShows s after (carry_out s honest (hand c room) st).state
      go [] e p = rw (none-returned s honest st c room e) (same-shows p _ refl refl refl)
      go (updated ∷ q) e p = updated-shows c room honest q e p
      go (rows l ∷ q) e p = scanned-shows c l room honest q e p

  -- to_client
  pub to_client_shows : (i c : ℕ) (m room out : List ℕ) (honest : ℕ → Bool) (q : List (List ℕ)) → st.to_client i c ≡ m ∷ q
      → ToClient s c i m room out memory after → MemoryShows s after (carry_out s honest (deliver i c room out) st).state
  to_client_shows i c m room out honest q e p =
      rw (head_to_client s honest st i c room out m q e)
      (turn_shows c (λ b. client_message s c i b m room out) (message_guarded s c i m room out) p _ _ _ _ _)

  deliver-shows : (i c : ℕ) (room out : List ℕ) (honest : ℕ → Bool) → Delivered s c i room out (st.to_client i c) memory after
      → MemoryShows s after (carry_out s honest (deliver i c room out) st).state
  deliver-shows i c room out honest = go (st.to_client i c) refl
    where
      go : (q : List (List ℕ)) → st.to_client i c ≡ q → Delivered s c i room out q memory after
          → MemoryShows s after (carry_out s honest (deliver i c room out) st).state
      go [] e p = rw (none_to_client s honest st i c room out e) (same-shows p _ refl refl refl)
      go (m ∷ q) e p = to_client_shows i c m room out honest q e p

  -- to_client, with bytes of a dishonest node
  pub lie-shows : (i c : ℕ) (bytes room out : List ℕ) (honest : ℕ → Bool) → Lied s (honest i) c i bytes room out memory after
      → MemoryShows s after (carry_out s honest (lie i c bytes room out) st).state
  unfolding carry_out
  lie-shows i c bytes room out honest = go (honest i)
    where
      go : (h : Bool) → Lied s h c i bytes room out memory after
          → MemoryShows s after (cond h (stays nothing (tick st.history) st) (told s c i bytes st.to_client (client_message s c i (st.clients c) bytes room out) st)).state
      go true p = same-shows p _ refl refl refl
      go false p = turn_shows c (λ b. client_message s c i b bytes room out) (message_guarded s c i bytes room out) p _ _ _ _ _

  -- ---- the directory's table is written back

  module _ (new : List ℕ) (p : PutBack memory 0 (directory_in s memory) new after) where
    directory-shows : (t : State) → t.directory ≡ new → t.nodes ≡ st.nodes → t.clients ≡ st.clients → MemoryShows s after t
    directory-shows t d n c =
        record {
          long = put_long s memory o.long 0 (directory_size s) (directory-fits s) new after p;
          directory = put_own s memory o.long 0 (directory_size s) (directory-fits s) new after p ∙ sym d;
          nodes = λ i lo up. behind (table_at s i) (table_size s) (directory-table s i) ∙ o.nodes i lo up ∙ sym (ap (λ (f : ℕ → List ℕ). f i) n);
          clients = λ j l. behind (record_at s j) (client_size s) (directory_record s j) ∙ o.clients j l ∙ sym (ap (λ (f : ℕ → List ℕ). f j) c);
        }
      where
        behind : (to size : ℕ) → 0 + directory_size s ≤ to → part_of s to size after ≡ part_of s to size memory
        behind = put_after s memory o.long 0 (directory_size s) (directory-fits s) new after p

  module _ (c : ℕ) (q : List Call) (r : Return) (done same : History) where
    looked : after ≡ memory → (e : DirectoryEnd) → e.table ≡ st.directory → (a : Served) → MemoryShows s after (carried c q r e done same a st).state
    looked p e k (refuses n) = same-shows p _ refl refl refl
    looked p e k (serves len) = same-shows p _ k refl refl

    put_in : (new : List ℕ) → PutBack memory 0 (directory_in s memory) new after → (e : DirectoryEnd) → e.table ≡ new → (a : Served)
        → Keeps st.directory a e.table → MemoryShows s after (carried c q r e done same a st).state
    put_in new p e f (refuses n) k =
        same-shows (put_same s memory o.long 0 (directory_size s) (directory-fits s) new after p (sym f ∙ k ∙ sym o.directory)) _ refl refl refl
    put_in new p e f (serves len) k = directory-shows new p _ f refl refl

  -- update
  pub update-shows : (c : ℕ) (fields room : List ℕ) (honest : ℕ → Bool) (q : List Call) → st.calls c ≡ update_call fields ∷ q → Updates s c fields memory after
      → MemoryShows s after (carry_out s honest (carry c room) st).state
  update-shows c fields room honest q e p =
      let d = directory_update s c st.directory fields in
      rw (head_update s honest st c room fields q e)
      (put_in c q _ _ _ (directory_update s c (directory_in s memory) fields).table p d
      (ap (λ (x : List ℕ). (directory_update s c x fields).table) (sym o.directory))
      d.answer (update-keeps s st.directory c fields))

  -- scan: beside the memory, the answer and the rows are those of the run's directory
  pub scan-shows : (c : ℕ) (room : List ℕ) (honest : ℕ → Bool) (q : List Call) → st.calls c ≡ scan_call ∷ q → after ≡ memory
      → MemoryShows s after (carry_out s honest (carry c room) st).state × (directory_scan s (directory_in s memory) room ≡ directory_scan s st.directory room)
  scan-shows c room honest q e p =
      let d = directory_scan s st.directory room in (
        rw (head_scan s honest st c room q e) (looked c q _ _ _ p d (scan-keeps s st.directory room) d.answer),
        directory-same (λ x. directory_scan s x room),
      )

  carry-shows : (c : ℕ) (room : List ℕ) (honest : ℕ → Bool) → Called s c (st.calls c) memory after
      → MemoryShows s after (carry_out s honest (carry c room) st).state
  carry-shows c room honest = go (st.calls c) refl
    where
      go : (q : List Call) → st.calls c ≡ q → Called s c q memory after → MemoryShows s after (carry_out s honest (carry c room) st).state
      go [] e p = rw (none-called s honest st c room e) (same-shows p _ refl refl refl)
      go (scan_call ∷ q) e p = (scan-shows c room honest q e p).0
      go (update_call fields ∷ q) e p = update-shows c fields room honest q e p

  -- ---- node i's table is written back

  module _ (i : ℕ) (new : List ℕ) (p : PutBack memory (table_at s i) (table_in s i memory) new after) where
    table_same : new ≡ table_in s i memory → after ≡ memory
    table_same = put_same s memory o.long (table_at s i) (table_size s) (table-within s ok i) new after p

    table_before : (to size : ℕ) → to + size ≤ table_at s i → part_of s to size after ≡ part_of s to size memory
    table_before = put_before s memory o.long (table_at s i) (table_size s) (table-within s ok i) new after p

    table-after : (to size : ℕ) → table_at s i + table_size s ≤ to → part_of s to size after ≡ part_of s to size memory
    table-after = put_after s memory o.long (table_at s i) (table_size s) (table-within s ok i) new after p

    other-table : 1 ≤ i → i ≤ s.n → (j : ℕ) → 1 ≤ j → j ≤ s.n → (j ≡ i → ⊥) → table_in s j after ≡ table_in s j memory
    other-table lo up j lo' up' g = go (dec_lt j i)
      where
        go : Dec (j < i) → table_in s j after ≡ table_in s j memory
        go (yes h) = table_before (table_at s j) (table_size s) (tables_apart s j i lo' h up)
        go (no h) = let e : i < j = omega arith in table-after (table_at s j) (table_size s) (tables_apart s i j lo e up')

    table-shows : 1 ≤ i → i ≤ s.n → (t : State) → t.directory ≡ st.directory → t.nodes ≡ upd st.nodes i new → t.clients ≡ st.clients → MemoryShows s after t
    table-shows lo up t d n c =
        record {
          long = put_long s memory o.long (table_at s i) (table_size s) (table-within s ok i) new after p;
          directory = table_before 0 (directory_size s) (directory-table s i) ∙ o.directory ∙ sym d;
          nodes = λ j lo' up'. cell j lo' up' ∙ sym (ap (λ (f : ℕ → List ℕ). f j) n);
          clients = λ j l.
              table-after (record_at s j) (client_size s) (table_record s ok i j) ∙ o.clients j l ∙ sym (ap (λ (f : ℕ → List ℕ). f j) c);
        }
      where
        cell : (j : ℕ) → 1 ≤ j → j ≤ s.n → table_in s j after ≡ upd st.nodes i new j
        cell j lo' up' =
            by_eq j i (λ e g. rw e (rw g (put_own s memory o.long (table_at s i) (table_size s) (table-within s ok i) new after p)))
            (λ e g. rw e (other-table lo up j lo' up' g ∙ o.nodes j lo' up'))

  module _ (c i : ℕ) (q : List (List ℕ)) (m room : List ℕ) (p : ToNode s i m room memory after) where
    there : NodeEnd
    there = node_message s i (table_in s i memory) m room

    -- a node out of bounds
    strange : after ≡ memory → (e : NodeEnd) (a : Served) → Refuses a → MemoryShows s after (keeps c i q e a st).state
    strange f e (refuses n) h = same-shows f _ refl refl refl
    strange f e (serves len) h = absurd h

    own : 1 ≤ i → i ≤ s.n → (e : NodeEnd) → there ≡ e → (a : Served) → Keeps (st.nodes i) a e.table → MemoryShows s after (keeps c i q e a st).state
    unfolding there
    own lo up e f (refuses n) k =
        same-shows (table_same i there.table p (ap (λ (x : NodeEnd). x.table) f ∙ k ∙ sym (o.nodes i lo up))) _ refl refl refl
    own lo up e f (serves len) k =
        table-shows i there.table p lo up _ refl (ap (λ (x : NodeEnd). upd st.nodes i x.table) (sym f)) refl

    node-shows : MemoryShows s after (keeps c i q (node_message s i (st.nodes i) m room) (node_message s i (st.nodes i) m room).answer st).state
    unfolding there
    node-shows = go (leb 1 i && leb i s.n) refl
      where
        go : (b : Bool) → (leb 1 i && leb i s.n) ≡ b
            → MemoryShows s after (keeps c i q (node_message s i (st.nodes i) m room) (node_message s i (st.nodes i) m room).answer st).state
        go true e =
            let b = both_true (leb 1 i) (leb i s.n) e in
            let lo = leb-true 1 i b.0 in
            let up = leb-true i s.n b.1 in
            own lo up (node_message s i (st.nodes i) m room) (ap (λ (x : List ℕ). node_message s i x m room) (o.nodes i lo up))
            (node_message s i (st.nodes i) m room).answer (node-keeps s (st.nodes i) m room i)
        go false e =
            strange
            (table_same i there.table p
            (refused-keeps (table_in s i memory) there.table there.answer (node-refuses s (table_in s i memory) m room i e) (node-keeps s (table_in s i memory) m room i)))
            (node_message s i (st.nodes i) m room) (node_message s i (st.nodes i) m room).answer (node-refuses s (st.nodes i) m room i e)

  -- to_node
  pub to_node_shows : (c i : ℕ) (m room : List ℕ) (honest : ℕ → Bool) (q : List (List ℕ)) → honest i ≡ true → st.to_node c i ≡ m ∷ q → ToNode s i m room memory after
      → MemoryShows s after (carry_out s honest (bring c i room) st).state
  to_node_shows c i m room honest q h e p = rw (head_to_node s honest st c i room m q h e) (node-shows c i q m room p)

  bring-shows : (c i : ℕ) (room : List ℕ) (honest : ℕ → Bool) → Brought s (honest i) i room (st.to_node c i) memory after
      → MemoryShows s after (carry_out s honest (bring c i room) st).state
  bring-shows c i room honest = go (honest i) (st.to_node c i) refl refl
    where
      gone : (m : List ℕ) (q : List (List ℕ)) → honest i ≡ false → st.to_node c i ≡ m ∷ q → after ≡ memory
          → MemoryShows s after (carry_out s honest (bring c i room) st).state
      gone m q h e p = rw (head_lost s honest st c i room m q h e) (same-shows p _ refl refl refl)

      go : (h : Bool) (q : List (List ℕ)) → honest i ≡ h → st.to_node c i ≡ q → Brought s h i room q memory after
          → MemoryShows s after (carry_out s honest (bring c i room) st).state
      go true [] h e p = rw (none_to_node s honest st c i room e) (same-shows p _ refl refl refl)
      go false [] h e p = rw (none_to_node s honest st c i room e) (same-shows p _ refl refl refl)
      go true (m ∷ q) h e p = to_node_shows c i m room honest q h e p
      go false (m ∷ q) h e p = gone m q h e p

  -- every event
  pub handed-shows : (honest : ℕ → Bool) (e : Event) → Handed s honest e st memory after → MemoryShows s after (carry_out s honest e st).state
  handed-shows honest (deposit c page) p = deposit-shows c page honest p
  handed-shows honest (reading c room) p = read-shows c room honest p
  handed-shows honest (carry c room) p = carry-shows c room honest p
  handed-shows honest (hand c room) p = hand-shows c room honest p
  handed-shows honest (bring c i room) p = bring-shows c i room honest p
  handed-shows honest (deliver i c room out) p = deliver-shows i c room out honest p
  handed-shows honest (lie i c bytes room out) p = lie-shows i c bytes room out honest p
