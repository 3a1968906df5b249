-- How the bytes of a run show a model: records and rows read back, and what all events have in common.
use mathlib.Core.Path.{◌≡◌, refl, sym, ap, subst, ◌∙◌}
use mathlib.Core.Bool.{Bool, true, false, cond, not, ◌&&◌, ◌||◌, true≢false}
use mathlib.Core.List.{List, [], ◌++◌, append-nil}
use mathlib.Core.Option.{Option, some, none}
use Prim.Native.Nat.{ℕ, ◌≤◌, ◌<◌}
use native.Mathlib.Omega.{arith}
use borrow.Author.Tests.{eq-eqb, ne_eqb, le-leb}
use lib.Dec.{leb, eqb}
use lib.ListN.{length}
use Rattle.coding.specs.Bytes.{tabulate}
use Rattle.coding.proofs.BytesLaws.{length-tabulate, get_or-tabulate}
use Rattle.coding.proofs.PageLaws.{none≢some, some_eq}
use Rattle.parties.specs.declared.Measures.{Measures}
use Rattle.parties.specs.protocol.Measures.{passes, row_size}
use Rattle.parties.specs.protocol.Pointer.{Pointer, all_pointers}
use Rattle.parties.specs.protocol.Directory.{no_row, write_row, read_directory, write_directory}
use Rattle.parties.specs.protocol.Owner.{own_pointer, own_row, own_rows}
use Rattle.parties.specs.protocol.Client.{Client, read_client, write_client, client_size}
use Rattle.parties.specs.protocol.Message.{ToNode}
use Rattle.parties.specs.protocol.ClientEvents.{ClientEnd, with_phase, message_to}
use Rattle.parties.specs.protocol.DirectoryEvents.{directory_size}
use Rattle.parties.specs.protocol.Run.{Reply, History, marked, mark, State, Event, Call, Return, Answered, tick, heard, stays, goes, sends, sent_to, called}
use Rattle.parties.specs.protocol.Claim.{Sane, number_of}
use Rattle.parties.proofs.protocol.model.Cells.{by_eq, upd_same}
use Rattle.parties.proofs.protocol.formats.FormatLaws.{Each}
use Rattle.parties.proofs.protocol.formats.EachLaws.{each-tabulate}
use Rattle.parties.proofs.protocol.formats.RowLaws.{FitsRow, format_directory, length-directory, row_fits}
use Rattle.parties.proofs.protocol.formats.OwnerLaws.{client_own, pointers_pass, own_rows_lem}
use Rattle.parties.proofs.protocol.formats.ClientLaws.{GoodPhase, GoodClient, client-back, length-client}
use Rattle.parties.proofs.protocol.model.Model.{Rows, Turn, Clients, Nodes, Past, Model, Next, Quiet, rows_of, turned, raised_by}
use Rattle.parties.proofs.protocol.model.Model.{frozen_by, put_by, raised_to, shown_written, shown_reading}
use Rattle.parties.proofs.protocol.invariants.Invariants.{Known, KnownRows}
use Rattle.parties.proofs.protocol.steps.View.{Shows, Follows, ClientShows, ToNodeShows, ToClientShows, GoodRows, GoodTurn}
use Rattle.parties.proofs.protocol.steps.View.{phase_of, client_at, row_at, rows_at, calls_of, returns_of}

-- ---- records read back

pub read-client : (z : Measures) → passes z ≡ true → (x : Client) → GoodClient z x → read_client z (write_client z x) ≡ some (record { value = x; rest = [] })
read-client z p x g = ap (read_client z) (sym (append-nil (write_client z x))) ∙ client-back z p x g []

pub long-client : (z : Measures) → passes z ≡ true → (x : Client) → GoodClient z x → leb (client_size z) (length (write_client z x)) ≡ true
long-client z p x g = le-leb (client_size z) (length (write_client z x)) (omega (arith, length-client z p x g))

-- ---- rows read back

module _ (z : Measures) (a : Rows) (good : GoodRows z a) where
  rows_fit : Each (FitsRow z) (rows_at z a)
  rows_fit =
      each-tabulate (FitsRow z) z.m (row_at z a)
      (λ w l. ((good w l, tt), le-leb (length (write_row (row_at z a w))) (row_size z) (row_fits z (row_at z a w) (good w l))))

  pub read-rows : read_directory z (write_directory z (rows_at z a)) ≡ some (record { value = rows_at z a; rest = [] })
  read-rows =
      ap (read_directory z) (sym (append-nil (write_directory z (rows_at z a))))
      ∙ (format_directory z).back (rows_at z a) (rows_fit, length-tabulate z.m (row_at z a)) []

  pub length-rows : length (write_directory z (rows_at z a)) ≡ directory_size z
  length-rows = length-directory z (rows_at z a) rows_fit (length-tabulate z.m (row_at z a))

  pub long-rows : leb (directory_size z) (length (write_directory z (rows_at z a))) ≡ true
  long-rows = le-leb (directory_size z) (length (write_directory z (rows_at z a))) (omega (arith, length-rows))

-- ---- and their pointers are their owners'

pub own_pointer_lem : (p : Past) (w : ℕ) (x : Pointer) → Known p w x → own_pointer w x ≡ true
own_pointer_lem p w x (Known.absent e) = ap (own_pointer w) e
own_pointer_lem p w x (Known.formed d e c h) = client_own w x c

pub own_pointers : (p : Past) (w n : ℕ) (f : ℕ → Pointer) → ((q : ℕ) → Known p w (f q)) → all_pointers (own_pointer w) (tabulate n f) ≡ true
own_pointers p w n f h =
    pointers_pass (own_pointer w) (tabulate n f) (each-tabulate (λ x. own_pointer w x ≡ true) n f (λ q b. own_pointer_lem p w (f q) (h q)))

pub rows_own : (z : Measures) (p : Past) (a : Rows) → KnownRows z p a → own_rows 0 (rows_at z a) ≡ true
unfolding all_pointers
rows_own z p a h =
    own_rows_lem (rows_at z a) (λ w b.
    let l : w < z.m = rw (length-tabulate z.m (row_at z a)) at b in
    let k = h w l in
    ap (own_row w) (get_or-tabulate z.m (row_at z a) w no_row l)
    ∙ simp (own_pointer_lem p w (a.written w) k.0, own_pointers p w z.m (a.frozen w) k.1))

-- ---- an event that changes nothing

-- numbers that may come: 8, 9, 11, 12 and 14 never do, and 4 is for bytes of a dishonest node
abbrev pub ordinary : ℕ → Bool
ordinary n = not (eqb n 4 || (eqb n 8 || (eqb n 9 || (eqb n 11 || (eqb n 12 || eqb n 14)))))

pub sane_number : (e : Event) (a : Answered) (n : ℕ) → number_of a ≡ some n → ordinary n ≡ true → Sane e a
sane_number e a n q p =
    record {
      room = λ h. other h refl;
      matching = λ h. other h refl;
      form = λ h. absurd (other h refl);
      lengths = λ h. other h refl;
      rules = λ h. other h refl;
      owners = λ h. other h refl;
    }
  where
    other : {k : ℕ} → number_of a ≡ some k → ordinary k ≡ false → ⊥
    other h f = true≢false (sym p ∙ ap ordinary (some_eq (sym q ∙ h)) ∙ f)

pub sane_quiet : (e : Event) (a : Answered) → number_of a ≡ none → Sane e a
sane_quiet e a q =
    record {
      room = λ h. none≢some (sym q ∙ h);
      matching = λ h. none≢some (sym q ∙ h);
      form = λ h. absurd (none≢some (sym q ∙ h));
      lengths = λ h. none≢some (sym q ∙ h);
      rules = λ h. none≢some (sym q ∙ h);
      owners = λ h. none≢some (sym q ∙ h);
    }

pub quiet_tick : (h : History) → Quiet h (tick h)
quiet_tick h = record { time = refl; begun = refl; operations = refl; latest = refl; put = refl }

pub quiet_heard : (z : Measures) (c i : ℕ) (m : List ℕ) (h : History) → Quiet h (tick (heard z c i m true h))
quiet_heard z c i m h = record { time = refl; begun = refl; operations = refl; latest = refl; put = refl }

-- an answer that marks nothing, whatever is heard with it
pub quiet_mark : (z : Measures) (c : ℕ) (e : ClientEnd) (h : History) (replied : List Reply)
    → marked z h.time e.answer e.client e.out (h.operation (h.latest c)) ≡ h.operation (h.latest c)
    → Quiet h
    (mark z c e (record { time = h.time; begun = h.begun; operation = h.operation; latest = h.latest; puts = h.puts; replied = replied }))
quiet_mark z c e h replied same =
    record { time = refl; begun = refl; operations = upd_same h.operation (h.latest c) _ same; latest = refl; put = refl }

module _ (z : Measures) (honest : ℕ → Bool) (st : State) (s : Model) (o : Shows z honest st s) where
  pub stays_follows : (e : Event) (a : Answered) (h : History) → Quiet st.history h → Sane e a → Follows z honest s e (stays a h st)
  stays_follows e a h q n =
      record {
        model = record { c = s.c; d = s.d; n = s.n; p = s.p; h = h };
        step = Next.refused h (rw o.history at q);
        shows =
            record {
              directory = o.directory;
              client = o.client;
              table = o.table;
              to_node = o.to_node;
              to_client = o.to_client;
              strangers = o.strangers;
              liars = o.liars;
              history = refl;
            };
        sane = n;
      }

  -- nothing was under way
  pub silent_follows : (e : Event) → Follows z honest s e (stays Answered.nothing (tick st.history) st)
  silent_follows e = stays_follows e Answered.nothing (tick st.history) (quiet_tick st.history) (sane_quiet e Answered.nothing refl)

  -- it is refused
  pub refused_follows : (e : Event) (a : Answered) (n : ℕ) → number_of a ≡ some n → ordinary n ≡ true → Follows z honest s e (stays a (tick st.history) st)
  refused_follows e a n q p = stays_follows e a (tick st.history) (quiet_tick st.history) (sane_number e a n q p)

  -- nothing happens to the model's operations either
  pub quiet_shown : Quiet s.h (tick st.history)
  quiet_shown = rw (← o.history) (quiet_tick st.history)

  -- a client's record is there and reads
  module _ (passed : passes z ≡ true) (c : ℕ) (l : c < z.m) where
    pub record_long : leb (client_size z) (length (st.clients c)) ≡ true
    record_long = let w = o.client c l in rw w.bytes (long-client z passed (client_at z s.c c) w.good)

    pub record_reads : read_client z (st.clients c) ≡ some (record { value = client_at z s.c c; rest = [] })
    record_reads = let w = o.client c l in ap (read_client z) w.bytes ∙ read-client z passed (client_at z s.c c) w.good

-- ---- other clients' records

module _ (z : Measures) (b : List ℕ) (cs : List Call) (rs : List Return) (k : Clients) (c j : ℕ) (ne : j ≡ c → ⊥) (o : ClientShows z b cs rs k j) where
  f : eqb j c ≡ false
  f = ne_eqb j c ne

  pub others_turned : (t : Turn) → ClientShows z b cs rs (turned k c t) j
  others_turned t =
      record { bytes = rw f o.bytes; good = rw f o.good; calls = rw f o.calls; returns = rw f o.returns; turn = rw f o.turn }

  pub others_raised : ClientShows z b cs rs (raised_by k c) j
  others_raised =
      record { bytes = rw f o.bytes; good = rw f o.good; calls = rw f o.calls; returns = rw f o.returns; turn = rw f o.turn }

  pub others_frozen : (x : Pointer) (a : Rows) → ClientShows z b cs rs (frozen_by k c x a) j
  others_frozen x a =
      record { bytes = rw f o.bytes; good = rw f o.good; calls = rw f o.calls; returns = rw f o.returns; turn = rw f o.turn }

-- ---- the record of a client whose turn changes

module _ (z : Measures) (k : Clients) (c : ℕ) (g : GoodClient z (client_at z k c)) (t : Turn) where
  pub own_turned : (cs : List Call) (rs : List Return) → GoodPhase z (phase_of z t) → GoodTurn z t
      → cs ≡ calls_of (with_phase (phase_of z t) (client_at z k c)) t → rs ≡ returns_of z t
      → ClientShows z (write_client z (with_phase (phase_of z t) (client_at z k c)) ++ []) cs rs (turned k c t) c
  own_turned cs rs gp gt ec er =
      let f : eqb c c ≡ true = eq-eqb c c refl in
      record {
        bytes = rw f (append-nil (write_client z (with_phase (phase_of z t) (client_at z k c))));
        good =
            rw f
            (record { phase = gp; index = g.index; written = g.written; frozen = g.frozen; reserved = g.reserved; indices = g.indices });
        calls = rw f ec;
        returns = rw f er;
        turn = rw f gt;
      }

-- ---- what the directory shows when a client's turn changes and its row does not

module _ (s : Model) (c : ℕ) where
  pub rows-turned : (t : Turn) (n : Nodes) (p : Past) (h : History)
      → put_by t (s.c.written c) ≡ put_by (s.c.turn c) (s.c.written c) → raised_to t (s.c.reading c) ≡ raised_to (s.c.turn c) (s.c.reading c)
      → rows_of (record { c = turned s.c c t; d = s.d; n = n; p = p; h = h }) ≡ rows_of s
  rows-turned t n p h f g i =
      record {
        written = λ w. by_eq {G = shown_written (turned s.c c t) w ≡ shown_written s.c w} w c (λ e q. rw e (rw q f)) (λ e q. rw e refl) i;
        frozen = s.d.frozen;
        indices = s.d.indices;
        reading = λ w. by_eq {G = shown_reading (turned s.c c t) w ≡ shown_reading s.c w} w c (λ e q. rw e (rw q g)) (λ e q. rw e refl) i;
      }

-- ---- an answer with which nothing is sent

same_way : {A : Type 0} (b : Bool) (x y : A) → x ≡ y → cond b x y ≡ y
same_way true x y e = e
same_way false x y e = refl

pub unsent : (z : Measures) (e : ClientEnd) (i : ℕ) (b : List (List ℕ)) (q : List ToNode) → message_to z e.answer e.room i ≡ none
    → ToNodeShows z b q → ToNodeShows z (sent_to (sends z e i) b) q
unsent z e i b q h o =
    subst (λ (x : Option (List ℕ)). ToNodeShows z (sent_to x b) q) (sym (same_way (leb 1 i && leb i z.n) (message_to z e.answer e.room i) none h)) o

-- ---- a client's event that is carried out

module _ (z : Measures) (honest : ℕ → Bool) (st : State) (s : Model) (o : Shows z honest st s) (c : ℕ) (within : c < z.m) (e : ClientEnd)
    (returns : ℕ → List Return) (to_client : ℕ → ℕ → List (List ℕ)) (h : History) (k : Clients) (n : Nodes) (p : Past) where
  pub goes-shows : ClientShows z e.client (called e.answer e.room (st.calls c)) (returns c) k c
      → ((j : ℕ) → (j ≡ c → ⊥) → j < z.m → ClientShows z (st.clients j) (st.calls j) (returns j) k j)
      → rows_of (record { c = k; d = s.d; n = n; p = p; h = h }) ≡ rows_of s
      → n.held ≡ s.n.held
      → ((i : ℕ) → honest i ≡ true → 1 ≤ i → i ≤ z.n → ToNodeShows z (sent_to (sends z e i) (st.to_node c i)) (n.to_node c i))
      → ((j i : ℕ) → (j ≡ c → ⊥) → n.to_node j i ≡ s.n.to_node j i)
      → ((i j : ℕ) → honest i ≡ true → 1 ≤ i → i ≤ z.n → j < z.m → ToClientShows z (to_client i j) (n.to_client i j))
      → ((i j : ℕ) → honest i ≡ false → to_client i j ≡ [])
      → Shows z honest (goes z c e returns to_client h st).state (record { c = k; d = s.d; n = n; p = p; h = h })
  goes-shows own others rows held sent other heard liars =
      record {
        directory = rw rows o.directory;
        client = λ j l.
            by_eq j c
            (λ f g. rw f (subst (λ (x : ℕ). ClientShows z e.client (called e.answer e.room (st.calls c)) (returns x) k x) (sym g) own))
            (λ f g. rw f (others j g l));
        table = λ i a lo up. rw held (o.table i a lo up);
        to_node = λ j i l a lo up.
            by_eq j c
            (λ f g. rw f (subst (λ (x : ℕ). ToNodeShows z (sent_to (sends z e i) (st.to_node c i)) (n.to_node x i)) (sym g) (sent i a lo up)))
            (λ f g. rw f (rw (other j i g) (o.to_node j i l a lo up)));
        to_client = heard;
        strangers = λ j i l. by_eq j c (λ f g. absurd (omega arith)) (λ f g. rw f (o.strangers j i l));
        liars = liars;
        history = refl;
      }
