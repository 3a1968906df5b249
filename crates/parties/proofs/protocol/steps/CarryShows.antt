-- Directory calls carried out are steps of the model.
use mathlib.Core.Path.{◌≡◌, refl, sym, ap, subst, ◌∙◌}
use mathlib.Core.Bool.{Bool, true}
use mathlib.Core.List.{List, [], ◌∷◌, ◌++◌, append-nil}
use mathlib.Core.Option.{Option, some}
use Prim.Native.Nat.{ℕ, ◌≤◌, ◌<◌}
use native.Mathlib.Omega.{arith}
use native.Mathlib.Decide.{dec_lt, dec_le}
use borrow.Author.Tests.{eq-eqb, ne_eqb, le-leb, lt-leb, lt-ltb, le-ltb}
use lib.Dec.{leb, eqb}
use lib.ListN.{length, get_or, take, drop, set, length-set}
use lib.Seq.{ext_get_or, get_or-set_same, get_or-set_other, take_all, take_at}
use Rattle.coding.specs.Bytes.{Bytes, tabulate}
use Rattle.coding.proofs.BytesLaws.{length-tabulate, get_or-tabulate, tabulate_ext}
use Rattle.parties.specs.declared.Measures.{Measures}
use Rattle.parties.specs.declared.ReadingIndex.{ReadingIndex}
use Rattle.parties.specs.protocol.Format.{whole}
use Rattle.parties.specs.protocol.Measures.{passes}
use Rattle.parties.specs.protocol.Pointer.{Pointer, all_pointers}
use Rattle.parties.specs.protocol.Directory.{Content, Row, no_row, read_record, write_record, read_directory, write_directory, update_row, merge, map_of, all_fields}
use Rattle.parties.specs.protocol.Owner.{own_fields, own_rows}
use Rattle.parties.specs.protocol.Verdict.{record_verdict}
use Rattle.parties.specs.protocol.Client.{Phase, Client, write_client}
use Rattle.parties.specs.protocol.Deposit.{deposit_fields}
use Rattle.parties.specs.protocol.Reading.{reading_fields}
use Rattle.parties.specs.protocol.Answer.{refuses, serves}
use Rattle.parties.specs.protocol.ClientEvents.{with_phase}
use Rattle.parties.specs.protocol.DirectoryEvents.{DirectoryEnd, directory_size, on_table, directory_update, scanned, directory_scan}
use Rattle.parties.specs.protocol.Run.{History, Call, scan_call, update_call, Return, updated, rows, State, by_server, upd}
use Rattle.parties.specs.protocol.Run.{tick, put_by as putsOf, put_in, stays, carries, carry, carry_out}
use Rattle.parties.proofs.protocol.model.Cells.{by_eq}
use Rattle.parties.proofs.protocol.formats.PointerLaws.{GoodPointer}
use Rattle.parties.proofs.protocol.formats.DirectoryLaws.{GoodIndex, GoodRecord, format_record}
use Rattle.parties.proofs.protocol.formats.VerdictLaws.{as_before}
use Rattle.parties.proofs.protocol.formats.RowLaws.{GoodRow, update_good}
use Rattle.parties.proofs.protocol.formats.OwnerLaws.{owner_verdict}
use Rattle.parties.proofs.protocol.formats.MessageLaws.{message_whole}
use Rattle.parties.proofs.protocol.formats.ClientLaws.{GoodClient}
use Rattle.parties.proofs.protocol.model.Model.{Rows, Turn, Shown, Model, Next, Marks, Quiet, rows_of, turned, published, put_by, raised_to}
use Rattle.parties.proofs.protocol.invariants.Invariants.{Own}
use Rattle.parties.proofs.protocol.invariants.OwnedKept.{forming_known, rows_known}
use Rattle.parties.proofs.protocol.invariants.Invariant.{Invariant}
use Rattle.parties.proofs.protocol.steps.View.{Shows, Follows, ClientShows, DirectoryShows, GoodRows, GoodTurn, phase_of, client_at, row_at, rows_at, calls_of, returns_of}
use Rattle.parties.proofs.protocol.steps.ViewLaws.{sane_quiet, others_turned, rows-turned, read-rows, length-rows, own_pointer_lem, own_pointers, rows_own}
use Rattle.parties.proofs.protocol.steps.ViewLaws.{ordinary, silent_follows, refused_follows, quiet_shown}

-- ---- an update of a row

-- what is stored in a tabulated list
pub set-tabulate : {A : Type 0} (n : ℕ) (f : ℕ → A) (c : ℕ) (v : A) → c < n → set (tabulate n f) c v ≡ tabulate n (upd f c v)
set-tabulate n f c v l =
    let m : length (set (tabulate n f) c v) ≡ n = length-set (tabulate n f) c v ∙ length-tabulate n f in
    ext_get_or v (set (tabulate n f) c v) (tabulate n (upd f c v)) (m ∙ sym (length-tabulate n (upd f c v)))
    (λ i b.
    let h : i < n = rw m at b in
    get_or-stored i h ∙ sym (get_or-tabulate n (upd f c v) i v h))
  where
    get_or-stored : (i : ℕ) → i < n → get_or (set (tabulate n f) c v) i v ≡ upd f c v i
    get_or-stored i h =
        by_eq i c (λ e q. rw e (rw q (get_or-set_same (tabulate n f) c v v (omega (arith, length-tabulate n f)))))
        (λ e q. rw e (get_or-set_other (tabulate n f) c i v v q ∙ get_or-tabulate n f i v h))

module _ (z : Measures) (u : List (Option Content)) (g : GoodRecord z u) where
  -- its record reads back
  pub read_record_lem : whole (read_record z) (write_record u) ≡ some u
  read_record_lem = (message_whole (read_record z) write_record (GoodRecord z) (format_record z)).back u g

  -- rows that are the same but for client c's, which is updated
  module _ (c : ℕ) (l : c < z.m) (a b : Rows) (h : GoodRows z a) (own : update_row u (row_at z a c) ≡ row_at z b c)
      (others : (w : ℕ) → (w ≡ c → ⊥) → row_at z a w ≡ row_at z b w) where
    rows-updated : set (rows_at z a) c (update_row u (get_or (rows_at z a) c no_row)) ≡ rows_at z b
    rows-updated =
        ap (λ (r : Row). set (rows_at z a) c (update_row u r)) (get_or-tabulate z.m (row_at z a) c no_row l)
        ∙ set-tabulate z.m (row_at z a) c (update_row u (row_at z a c)) l
        ∙ tabulate_ext z.m (upd (row_at z a) c (update_row u (row_at z a c))) (row_at z b)
        (λ w k. by_eq w c (λ e q. rw e (own ∙ ap (row_at z b) (sym q))) (λ e q. rw e (others w q)))

    rows_good : GoodRows z b
    rows_good w k =
        by_eq w c (λ e q. subst (λ (x : ℕ). GoodRow z (row_at z b x)) (sym q) (subst (GoodRow z) own (update_good z u (row_at z a c) g (h c l))))
        (λ e q. subst (GoodRow z) (others w q) (h w k))

    pub updated-rows : DirectoryShows z (write_directory z (set (rows_at z a) c (update_row u (get_or (rows_at z a) c no_row))) ++ []) b
    updated-rows =
        record {
          bytes = append-nil (write_directory z (set (rows_at z a) c (update_row u (get_or (rows_at z a) c no_row)))) ∙ ap (write_directory z) rows-updated;
          good = rows_good;
        }

-- the records that clients send are good
pub good_deposit : (z : Measures) (k : Client) (x : Pointer) → GoodClient z k → GoodPointer z x → GoodRecord z (deposit_fields k x)
unfolding map_of
good_deposit z k x g p = ((omega arith, refl), (refl, (((p, tt), refl), (refl, (g.frozen, (refl, (g.indices, (refl, tt))))))))

pub good_reading : (z : Measures) (i : ReadingIndex) → GoodIndex i → GoodRecord z (reading_fields i)
unfolding map_of
good_reading z i g = ((omega arith, refl), (refl, (refl, (refl, (refl, (((g, tt), refl), tt))))))

module _ (z : Measures) (honest : ℕ → Bool) (passed : passes z ≡ true) (st : State) (s : Model) (o : Shows z honest st s) (inv : Invariant z honest s)
    (c : ℕ) where
  -- the directory's table reads
  table-read : read_directory z st.directory ≡ some (record { value = rows_at z (rows_of s); rest = [] })
  table-read = ap (read_directory z) o.directory.bytes ∙ read-rows z (rows_of s) o.directory.good

  -- and its pointers are their owners'
  table_own : own_rows 0 (rows_at z (rows_of s)) ≡ true
  table_own = rows_own z s.p (rows_of s) (rows_known z s inv.owned)

  table-long : length st.directory ≡ directory_size z
  table-long = ap length o.directory.bytes ∙ length-rows z (rows_of s) o.directory.good

  long : leb (directory_size z) (length st.directory) ≡ true
  long = le-leb (directory_size z) (length st.directory) (omega (arith, table-long))

  -- the call that is under way at a turn
  queue : {t : Turn} → c < z.m → s.c.turn c ≡ t → st.calls c ≡ calls_of (client_at z s.c c) t
  queue l e = (o.client c l).calls ∙ ap (calls_of (client_at z s.c c)) e

  quiet : Quiet s.h (tick st.history)
  quiet = quiet_shown z honest st s o

  -- a call that is refused
  refuses_follows : (room : List ℕ) (n : ℕ) → ordinary n ≡ true → Follows z honest s (carry c room) (stays (by_server (refuses n)) (tick st.history) st)
  refuses_follows room n p = refused_follows z honest st s o (carry c room) (by_server (refuses n)) n refl p

  -- ---- a call that is carried out

  module _ (l : c < z.m) (t : Turn) (d : Shown) (h : History) where
    -- the client's turn is then t, and its row may have changed
    after : Model
    after = record { c = turned s.c c t; d = d; n = s.n; p = s.p; h = h }

    -- its call is done, its answer is under way, and its record is as it was
    carried-shows : (table : List ℕ) (r : Return) → DirectoryShows z table (rows_of after)
        → phase_of z (s.c.turn c) ≡ phase_of z t → GoodTurn z t → ((x : Client) → calls_of x t ≡ [])
        → returns_of z (s.c.turn c) ≡ [] → returns_of z t ≡ r ∷ []
        → Shows z honest
        (record {
          directory = table;
          nodes = st.nodes;
          clients = st.clients;
          calls = upd st.calls c [];
          returns = upd st.returns c (st.returns c ++ (r ∷ []));
          to_node = st.to_node;
          to_client = st.to_client;
          history = h;
        })
        after
    unfolding after
    carried-shows table r shown phase good called before returned =
        record {
          directory = shown;
          client = λ j k.
              by_eq j c
              (λ f g. rw f (subst (λ (x : ℕ). ClientShows z (st.clients x) [] (st.returns c ++ (r ∷ [])) (turned s.c c t) x) (sym g) own))
              (λ f g. rw f (others_turned z (st.clients j) (st.calls j) (st.returns j) s.c c j g (o.client j k) t));
          table = o.table;
          to_node = o.to_node;
          to_client = o.to_client;
          strangers = o.strangers;
          liars = o.liars;
          history = refl;
        }
      where
        own : ClientShows z (st.clients c) [] (st.returns c ++ (r ∷ [])) (turned s.c c t) c
        own =
            let w = o.client c l in
            let f : eqb c c ≡ true = eq-eqb c c refl in
            record {
              bytes = rw f (subst (λ (p : Phase). st.clients c ≡ write_client z (with_phase p (client_at z s.c c))) phase w.bytes);
              good = rw f (subst (λ (p : Phase). GoodClient z (with_phase p (client_at z s.c c))) phase w.good);
              calls = rw f (sym (called (client_at z (turned s.c c t) c)));
              returns = rw f (ap (λ (q : List Return). q ++ (r ∷ [])) (w.returns ∙ before) ∙ sym returned);
              turn = rw f good;
            }

  -- ---- scans

  module _ (room : List ℕ) where
    -- what a scan answers where its room is long enough
    answered : DirectoryEnd
    answered =
        record {
          answer = serves (directory_size z);
          table = st.directory;
          room = take (directory_size z) st.directory ++ drop (directory_size z) room;
        }

    scan-long : directory_size z ≤ length room → directory_scan z st.directory room ≡ answered
    unfolding directory_scan answered
    scan-long h =
        simp (passed, long, le-leb (directory_size z) (length room) h)
        (ap (scanned z st.directory room) (owner_verdict (read_directory z st.directory) _ true table-read table_own))

    scan-short : length room < directory_size z
        → directory_scan z st.directory room ≡ record { answer = refuses 2; table = st.directory; room = room }
    unfolding directory_scan
    scan-short h = simp (passed, long, lt-leb (directory_size z) (length room) h)

    -- the rows
    answer-rows : take (directory_size z) answered.room ≡ write_directory z (rows_at z (rows_of s))
    unfolding answered
    answer-rows =
        ap (λ (b : List ℕ). take (directory_size z) (b ++ drop (directory_size z) room)) (take_all (directory_size z) st.directory (omega (arith, table-long)))
        ∙ take_at st.directory (drop (directory_size z) room) (directory_size z) table-long
        ∙ o.directory.bytes

    -- a scan of a client at a turn after which the rows are under way
    module _ (l : c < z.m) (t : Turn) where
      scan_follows : st.calls c ≡ scan_call ∷ [] → Dec (directory_size z ≤ length room)
          → Next z honest s (after l t s.d (tick st.history))
          → put_by t (s.c.written c) ≡ put_by (s.c.turn c) (s.c.written c) → raised_to t (s.c.reading c) ≡ raised_to (s.c.turn c) (s.c.reading c)
          → phase_of z (s.c.turn c) ≡ phase_of z t → GoodTurn z t → ((x : Client) → calls_of x t ≡ [])
          → returns_of z (s.c.turn c) ≡ [] → returns_of z t ≡ rows (write_directory z (rows_at z (rows_of s))) ∷ []
          → Follows z honest s (carry c room) (carries z c room (st.calls c) st)
      unfolding after answered
      scan_follows q (no short) next put raised phase good called before returned =
          rw (q, scan-short (omega arith)) (refuses_follows room 2 refl)
      scan_follows q (yes h) next put raised phase good called before returned =
          rw (q, scan-long h)
          (record {
            model = after l t s.d (tick st.history);
            step = next;
            shows =
                carried-shows l t s.d (tick st.history) st.directory
                (rows (take (directory_size z) (take (directory_size z) st.directory ++ drop (directory_size z) room)))
                (rw (rows-turned s c t s.n s.p (tick st.history) put raised) o.directory)
                phase good called before (returned ∙ ap (λ (b : List ℕ). rows b ∷ []) (sym answer-rows));
            sane = sane_quiet (carry c room) (by_server (serves (directory_size z))) refl;
          })

  -- ---- updates

  module _ (u : List (Option Content)) (g : GoodRecord z u) (own : own_fields c u ≡ true) where
    -- what an update answers where its record reads
    put : DirectoryEnd
    put =
        record {
          answer = serves 0;
          table = write_directory z (set (rows_at z (rows_of s)) c (update_row u (get_or (rows_at z (rows_of s)) c no_row))) ++ [];
          room = [];
        }

    update-opened : c < z.m → directory_update z c st.directory (write_record u) ≡ put
    unfolding directory_update put
    update-opened l =
        simp (passed, long, lt-ltb c z.m l)
        (ap (λ r. on_table z c st.directory r (record_verdict z (write_record u))) table-read
        ∙ ap (on_table z c st.directory (some (record { value = rows_at z (rows_of s); rest = [] })))
        ((as_before z (write_record u)).conversely u (read_record_lem z u g))
        ∙ simp (table_own, own))

    module _ (l : c < z.m) (t : Turn) (d : Shown) where
      update_follows : (room : List ℕ) → st.calls c ≡ update_call (write_record u) ∷ []
          → Next z honest s (after l t d (put_in z c (write_record u) st.history))
          → update_row u (row_at z (rows_of s) c) ≡ row_at z (rows_of (after l t d (put_in z c (write_record u) st.history))) c
          → ((w : ℕ) → (w ≡ c → ⊥) → row_at z (rows_of s) w ≡ row_at z (rows_of (after l t d (put_in z c (write_record u) st.history))) w)
          → phase_of z (s.c.turn c) ≡ phase_of z t → GoodTurn z t → ((x : Client) → calls_of x t ≡ [])
          → returns_of z (s.c.turn c) ≡ [] → returns_of z t ≡ updated ∷ []
          → Follows z honest s (carry c room) (carries z c room (st.calls c) st)
      unfolding after put
      update_follows room q next own others phase good called before returned =
          rw (q, update-opened l)
          (record {
            model = after l t d (put_in z c (write_record u) st.history);
            step = next;
            shows =
                carried-shows l t d (put_in z c (write_record u) st.history) put.table updated
                (updated-rows z u g c l (rows_of s) (rows_of (after l t d (put_in z c (write_record u) st.history))) o.directory.good own others)
                phase good called before returned;
            sane = sane_quiet (carry c room) (by_server (serves 0)) refl;
          })

  -- ---- the two updates

  -- a deposit's update leaves its pointer in the row, with the frozen pointers and indices
  deposit_own : (x : Pointer) (l : c < z.m) (h : History) → s.c.turn c ≡ Turn.updating x
      → update_row (deposit_fields (client_at z s.c c) x) (row_at z (rows_of s) c) ≡ row_at z (rows_of (after l (Turn.updated x) (published s c) h)) c
  unfolding update_row merge after
  deposit_own x l h e = rw (eq-eqb c c refl) (rw e refl)

  deposit_others : (x : Pointer) (l : c < z.m) (h : History) (w : ℕ) → (w ≡ c → ⊥)
      → row_at z (rows_of s) w ≡ row_at z (rows_of (after l (Turn.updated x) (published s c) h)) w
  unfolding after
  deposit_others x l h w ne = rw (ne_eqb w c ne) refl

  -- a reading's update leaves its index there
  reading_own : (l : c < z.m) (h : History) → s.c.turn c ≡ Turn.raising
      → update_row (reading_fields (record { 0 = s.c.reading c })) (row_at z (rows_of s) c) ≡ row_at z (rows_of (after l Turn.raised s.d h)) c
  unfolding update_row merge after
  reading_own l h e = rw (eq-eqb c c refl) (rw e refl)

  reading_others : (l : c < z.m) (h : History) (w : ℕ) → (w ≡ c → ⊥) → row_at z (rows_of s) w ≡ row_at z (rows_of (after l Turn.raised s.d h)) w
  unfolding after
  reading_others l h w ne = rw (ne_eqb w c ne) refl

  -- what the history notes of an update
  put_marks : (u : List (Option Content)) → GoodRecord z u
      → Marks s.h (put_in z c (write_record u) st.history) s.h.operation (s.h.puts ++ putsOf (some u) (s.h.latest c))
  put_marks u g =
      subst (λ (h : History). Marks h (put_in z c (write_record u) st.history) h.operation (h.puts ++ putsOf (some u) (h.latest c))) o.history
      (record {
        time = refl;
        begun = refl;
        operations = refl;
        latest = refl;
        put = ap (λ (r : Option (List (Option Content))). st.history.puts ++ putsOf r (st.history.latest c)) (read_record_lem z u g);
      })

  -- the pointers that a client sends are its own
  deposit_owns : (x : Pointer) (l : c < z.m) → s.c.turn c ≡ Turn.updating x → own_fields c (deposit_fields (client_at z s.c c) x) ≡ true
  unfolding all_fields all_pointers
  deposit_owns x l e =
      let k = forming_known s.p s.c c x (subst (Own z s.p s.c c) e (inv.owned.own c l)) in
      simp (own_pointer_lem s.p c x k, own_pointers s.p c z.m (s.c.frozen c) (λ q. (inv.owned.frozen c q l).0))

  reading_owns : (i : ReadingIndex) → own_fields c (reading_fields i) ≡ true
  unfolding all_fields all_pointers
  reading_owns i = refl

  deposit-updates : (x : Pointer) (l : c < z.m) (room : List ℕ) → s.c.turn c ≡ Turn.updating x
      → Follows z honest s (carry c room) (carries z c room (st.calls c) st)
  unfolding after
  deposit-updates x l room e =
      let w = o.client c l in
      let u = deposit_fields (client_at z s.c c) x in
      let g : GoodRecord z u = good_deposit z (client_at z s.c c) x w.good (rw e at w.good.phase).0 in
      let h = put_in z c (write_record u) st.history in
      update_follows u g (deposit_owns x l e) l (Turn.updated x) (published s c) room (queue l e)
      (Next.publish c x h (put_marks u g) l e) (deposit_own x l h e) (deposit_others x l h) (rw e refl) tt (λ k. refl) (rw e refl) refl

  reading-updates : (l : c < z.m) (room : List ℕ) → s.c.turn c ≡ Turn.raising → Follows z honest s (carry c room) (carries z c room (st.calls c) st)
  unfolding after
  reading-updates l room e =
      let w = o.client c l in
      let u = reading_fields (record { 0 = s.c.reading c }) in
      let g : GoodRecord z u = good_reading z (record { 0 = s.c.reading c }) w.good.index in
      let h = put_in z c (write_record u) st.history in
      update_follows u g (reading_owns (record { 0 = s.c.reading c })) l Turn.raised s.d room (queue l e)
      (Next.raise c h (subst (Marks s.h h s.h.operation) (append-nil s.h.puts) (put_marks u g)) l e)
      (reading_own l h e) (reading_others l h) (rw e refl) tt (λ k. refl) (rw e refl) refl

  -- ---- by the client's turn

  -- nothing is under way
  no_call : (room : List ℕ) → st.calls c ≡ [] → Follows z honest s (carry c room) (carries z c room (st.calls c) st)
  no_call room q = rw q (silent_follows z honest st s o (carry c room))

  by_turn : (room : List ℕ) (l : c < z.m) (t : Turn) → s.c.turn c ≡ t → Follows z honest s (carry c room) (carries z c room (st.calls c) st)
  unfolding after
  by_turn room l Turn.idle e = no_call room (queue l e)
  by_turn room l (Turn.scanning bytes) e =
      scan_follows room l (Turn.scanned bytes (rows_of s)) (queue l e) (dec_le (directory_size z) (length room))
      (Next.scan-first c bytes (tick st.history) quiet l e) (rw e refl) (rw e refl) (rw e refl) o.directory.good (λ k. refl) (rw e refl) refl
  by_turn room l (Turn.scanned bytes a) e = no_call room (queue l e)
  by_turn room l (Turn.storing v bytes a) e = no_call room (queue l e)
  by_turn room l (Turn.updating x) e = deposit-updates x l room e
  by_turn room l (Turn.updated x) e = no_call room (queue l e)
  by_turn room l (Turn.freezing x) e =
      scan_follows room l (Turn.noticing x (rows_of s)) (queue l e) (dec_le (directory_size z) (length room))
      (Next.scan_second c x (tick st.history) quiet l e) (rw e refl) (rw e refl) (rw e refl) o.directory.good (λ k. refl) (rw e refl) refl
  by_turn room l (Turn.noticing x a) e = no_call room (queue l e)
  by_turn room l Turn.raising e = reading-updates l room e
  by_turn room l Turn.raised e = no_call room (queue l e)
  by_turn room l Turn.picking e =
      scan_follows room l (Turn.picked (rows_of s)) (queue l e) (dec_le (directory_size z) (length room))
      (Next.scan-reading c (tick st.history) quiet l e) (rw e refl) (rw e refl) (rw e refl) o.directory.good (λ k. refl) (rw e refl) refl
  by_turn room l (Turn.picked a) e = no_call room (queue l e)
  by_turn room l (Turn.fetching x n m ps) e = no_call room (queue l e)

  -- ---- a stranger's call

  module _ (room : List ℕ) (l : z.m ≤ c) where
    -- a scan answers into a queue that nobody reads
    stranger_scan : (q : List Call) → Dec (directory_size z ≤ length room) → Follows z honest s (carry c room) (carries z c room (scan_call ∷ q) st)
    unfolding answered
    stranger_scan q (no short) = rw (scan-short room (omega arith)) (refuses_follows room 2 refl)
    stranger_scan q (yes h) =
        rw (scan-long room h)
        (record {
          model = record { c = s.c; d = s.d; n = s.n; p = s.p; h = tick st.history };
          step = Next.refused (tick st.history) quiet;
          shows =
              record {
                directory = o.directory;
                client = λ j k. by_eq j c (λ f g. absurd (omega arith)) (λ f g. rw f (o.client j k));
                table = o.table;
                to_node = o.to_node;
                to_client = o.to_client;
                strangers = o.strangers;
                liars = o.liars;
                history = refl;
              };
          sane = sane_quiet (carry c room) (by_server (serves (directory_size z))) refl;
        })

    -- an update of no row is 3
    stranger_update : (fields : List ℕ) (q : List Call) → Follows z honest s (carry c room) (carries z c room (update_call fields ∷ q) st)
    unfolding directory_update
    stranger_update fields q =
        rw (passed, long, le-ltb c z.m l) (refuses_follows room 3 refl)

    stranger : (q : List Call) → st.calls c ≡ q → Follows z honest s (carry c room) (carries z c room (st.calls c) st)
    stranger [] e = no_call room e
    stranger (scan_call ∷ q) e = rw e (stranger_scan q (dec_le (directory_size z) (length room)))
    stranger (update_call fields ∷ q) e = rw e (stranger_update fields q)

pub carry_follows : (z : Measures) (honest : ℕ → Bool) (passed : passes z ≡ true) (st : State) (s : Model) (o : Shows z honest st s)
    → Invariant z honest s → (c : ℕ) (room : List ℕ) → Bytes room → Follows z honest s (carry c room) (carry_out z honest (carry c room) st)
unfolding carry_out
carry_follows z honest passed st s o inv c room b = go (dec_lt c z.m)
  where
    go : Dec (c < z.m) → Follows z honest s (carry c room) (carries z c room (st.calls c) st)
    go (yes l) = by_turn z honest passed st s o inv c room l (s.c.turn c) refl
    go (no l) = stranger z honest passed st s o inv c room (omega arith) (st.calls c) refl
