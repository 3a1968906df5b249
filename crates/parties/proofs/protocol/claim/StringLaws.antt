-- The strings of a run are those of its history at the end, where no operation bears a second version: no event takes a string back.
use mathlib.Core.Path.{◌≡◌, refl, ap, ◌∙◌}
use mathlib.Core.Bool.{Bool, true, false, ◌&&◌, false≢true}
use mathlib.Core.Logic.{inl, inr}
use mathlib.Core.List.{List, [], ◌∷◌, ◌++◌}
use mathlib.Core.Option.{Option, some, none}
use Prim.Native.Nat.{ℕ, ◌≤◌, ◌<◌}
use native.Mathlib.Omega.{arith}
use borrow.Author.Tests.{ne_eqb}
use lib.ListN.{take}
use Rattle.coding.proofs.Cases.{and-true}
use Rattle.coding.proofs.PageLaws.{none≢some}
use Rattle.parties.specs.declared.Measures.{Measures}
use Rattle.parties.specs.declared.Version.{Version}
use Rattle.parties.specs.protocol.Message.{ToClient, read_to_client}
use Rattle.parties.specs.protocol.Answer.{ClientAnswer, refused, waits, scan, update, stores, requests, deposited, empty, page, spent, failed, Served, refuses, serves}
use Rattle.parties.specs.protocol.ClientEvents.{ClientEnd, start_deposit, start_reading, update_answer, scan_answer, client_message}
use Rattle.parties.specs.protocol.DirectoryEvents.{DirectoryEnd, directory_update, directory_scan}
use Rattle.parties.specs.protocol.NodeEvents.{NodeEnd, node_message}
use Rattle.parties.specs.protocol.Run.{Operation, Reply, History, Call, scan_call, update_call, Return, updated, rows, State, Event, deposit, reading, carry, hand, bring, deliver, lie, Answered, nothing, by_client, by_server, marked, upd₂, tick, mark, begin, replying, heard, put_in, Result, is_refused, goes, starts, returned, handed, told, delivered, carried, length_of, scan_by, update_by, carries, keeps, lost, brought, carry_out, run}
use Rattle.parties.specs.protocol.Claim.{Member, AllLent, StringOf, RunString, Differ}
use Rattle.parties.proofs.protocol.model.Cells.{by_eq, chosen}
use Rattle.parties.proofs.protocol.model.MemberLaws.{member_left}

-- ---- a version is borne once: a test that antt computes

unfoldable pub unborne : Option Version → Bool
unborne none = true
unborne (some v) = false

-- an answer marks no version, or that of an operation that bears none
unfoldable pub firstly : ClientAnswer → Operation → Bool
firstly (refused n) o = true
firstly waits o = true
firstly scan o = true
firstly (update len) o = true
firstly (stores v len) o = unborne o.version
firstly (requests v nodes) o = unborne o.version
firstly (deposited v len) o = true
firstly empty o = unborne o.version
firstly (page v len) o = true
firstly spent o = true
firstly failed o = true

abbrev pub client_of : Event → ℕ
client_of (deposit c bytes) = c
client_of (reading c room) = c
client_of (carry c room) = c
client_of (hand c room) = c
client_of (bring c i room) = c
client_of (deliver i c room out) = c
client_of (lie i c bytes room out) = c

unfoldable pub marks_once : ℕ → Answered → History → Bool
marks_once c nothing h = true
marks_once c (by_client a) h = firstly a (h.operation (h.latest c))
marks_once c (by_server a) h = true

-- so with every event of a list
unfoldable pub borne_once : Measures → (ℕ → Bool) → List Event → State → Bool
borne_once s honest [] st = true
borne_once s honest (e ∷ es) st =
    marks_once (client_of e) (carry_out s honest e st).answer st.history && borne_once s honest es (carry_out s honest e st).state

-- ---- a history that goes on: deposits keep their pages, versions and replies stay

record Grows (h h' : History) : Type 0 where
  begun : h.begun ≤ h'.begun
  page : (o : ℕ) → o < h.begun → (h'.operation o).page ≡ (h.operation o).page
  version : (o : ℕ) (v : Version) → o < h.begun → (h.operation o).version ≡ some v → (h'.operation o).version ≡ some v
  replied : (x : Reply) → Member x h.replied → Member x h'.replied

grows_strings : (s : Measures) (h h' : History) → Grows h h' → (x : List ℕ) → StringOf s h x → StringOf s h' x
grows_strings s h h' g x (StringOf.cut o i v bytes b d lo up e) =
    let l : o < h'.begun = omega (arith, g.begun, b.0) in
    StringOf.cut o i v bytes (l, g.version o v b.0 b.1) (g.page o b.0 ∙ d) lo up e
grows_strings s h h' g x (StringOf.came r a lo up e) = StringOf.came r (g.replied r a) lo up e

grows_tick : (h : History) → Grows h (tick h)
grows_tick h = record { begun = omega arith; page = λ o l. refl; version = λ o v l e. e; replied = λ x a. a }

grows_begin : (c : ℕ) (bytes : Option (List ℕ)) (h : History) → Grows h (begin c bytes h)
grows_begin c bytes h =
    record {
      begun = omega arith;
      page = λ o l. rw (ne_eqb o h.begun (λ e. omega arith)) refl;
      version = λ o v l e. rw (ne_eqb o h.begun (λ q. omega arith)) e;
      replied = λ x a. a;
    }

grows_put : (s : Measures) (c : ℕ) (fields : List ℕ) (h : History) → Grows h (put_in s c fields h)
grows_put s c fields h = record { begun = omega arith; page = λ o l. refl; version = λ o v l e. e; replied = λ x a. a }

marked-page : (s : Measures) (time : ℕ) (a : ClientAnswer) (client out : List ℕ) (o : Operation) → (marked s time a client out o).page ≡ o.page
marked-page s time (refused n) client out o = refl
marked-page s time waits client out o = refl
marked-page s time scan client out o = refl
marked-page s time (update len) client out o = refl
marked-page s time (stores v len) client out o = refl
marked-page s time (requests v nodes) client out o = refl
marked-page s time (deposited v len) client out o = refl
marked-page s time empty client out o = refl
marked-page s time (page v len) client out o = refl
marked-page s time spent client out o = refl
marked-page s time failed client out o = refl

bears_none : (v : Option Version) (w : Version) → unborne v ≡ true → v ≡ some w → ⊥
unfolding unborne
bears_none none w t e = none≢some e
bears_none (some v) w t e = false≢true t

marked-version : (s : Measures) (time : ℕ) (a : ClientAnswer) (client out : List ℕ) (o : Operation) (v : Version) → firstly a o ≡ true
    → o.version ≡ some v → (marked s time a client out o).version ≡ some v
unfolding firstly
marked-version s time (refused n) client out o v t e = e
marked-version s time waits client out o v t e = e
marked-version s time scan client out o v t e = e
marked-version s time (update len) client out o v t e = e
marked-version s time (stores w len) client out o v t e = absurd (bears_none o.version v t e)
marked-version s time (requests w nodes) client out o v t e = absurd (bears_none o.version v t e)
marked-version s time (deposited w len) client out o v t e = e
marked-version s time empty client out o v t e = absurd (bears_none o.version v t e)
marked-version s time (page w len) client out o v t e = e
marked-version s time spent client out o v t e = e
marked-version s time failed client out o v t e = e

grows_mark : (s : Measures) (c : ℕ) (e : ClientEnd) (h : History) → firstly e.answer (h.operation (h.latest c)) ≡ true → Grows h (mark s c e h)
grows_mark s c e h t =
    record {
      begun = omega arith;
      page = λ o l.
          by_eq o (h.latest c) (λ f q. rw f (rw q (marked-page s h.time e.answer e.client e.out (h.operation (h.latest c)))))
          (λ f q. rw f refl);
      version = λ o v l g.
          by_eq o (h.latest c)
          (λ f q. rw f (marked-version s h.time e.answer e.client e.out (h.operation (h.latest c)) v t (rw q at g)))
          (λ f q. rw f g);
      replied = λ x a. a;
    }

grows_heard : (s : Measures) (c i : ℕ) (message : List ℕ) (b : Bool) (h : History) → Grows h (heard s c i message b h)
grows_heard s c i message b h =
    record { begun = omega arith; page = λ o l. refl; version = λ o v l e. e; replied = λ x a. go (read_to_client s message) x a }
  where
    go : (m : Option ToClient) (x : Reply) → Member x h.replied → Member x (replying c i h.time b m h.replied)
    go none x a = a
    go (some (ToClient.stored v)) x a = a
    go (some ToClient.freed) x a = a
    go (some (ToClient.reply v y)) x a = member_left x h.replied _ a
    go (some (ToClient.missing v)) x a = a

grows_on : (h h' h'' : History) → Grows h h' → Grows h' h'' → Grows h h''
grows_on h h' h'' g k =
    record {
      begun = omega (arith, g.begun, k.begun);
      page = λ o l. k.page o (omega (arith, g.begun, l)) ∙ g.page o l;
      version = λ o v l e. k.version o v (omega (arith, g.begun, l)) (g.version o v l e);
      replied = λ x a. k.replied x (g.replied x a);
    }

-- ---- an event

module _ (s : Measures) (honest : ℕ → Bool) (st : State) where
  abbrev Goes : Result → Type 0
  Goes r = Grows st.history r.state.history

  started : (c : ℕ) (bytes : Option (List ℕ)) (e : ClientEnd) → Goes (starts s c bytes e st)
  started c bytes e =
      chosen Goes (is_refused e.answer) _ (goes s c e st.returns st.to_client (begin c bytes st.history) st) (grows_tick st.history)
      (grows_begin c bytes st.history)

  -- a client's event that is not its start, where a version is marked once
  abbrev Once : ℕ → Result → Type 0
  Once c r = marks_once c r.answer st.history ≡ true → Goes r

  answered : (c : ℕ) (q : List Return) (e : ClientEnd) → Once c (returned s c q e st)
  unfolding marks_once
  answered c q e =
      chosen (Once c) (is_refused e.answer) _ _ (λ t. grows_tick st.history) (λ t. grows_mark s c e st.history t)

  spoken : (c i : ℕ) (message : List ℕ) (to_client : ℕ → ℕ → List (List ℕ)) (e : ClientEnd) → Once c (told s c i message to_client e st)
  unfolding marks_once
  spoken c i message to_client e =
      let h = heard s c i message false st.history in
      let h' = heard s c i message true st.history in
      chosen (Once c) (is_refused e.answer) _ _
      (λ t. grows_on st.history h' (tick h') (grows_heard s c i message true st.history) (grows_tick h'))
      (λ t. grows_on st.history h (mark s c e h) (grows_heard s c i message false st.history) (grows_mark s c e h t))

  called : (c : ℕ) (q : List Call) (r : Return) (e : DirectoryEnd) (done : History) (a : Served) → Grows st.history done
      → Goes (carried c q r e done (tick st.history) a st)
  called c q r e done (refuses n) g = grows_tick st.history
  called c q r e done (serves len) g = g

  looked : (c : ℕ) (q : List Call) (e : DirectoryEnd) → Goes (scan_by c q e st)
  looked c q e =
      called c q (rows (take (length_of e.answer) e.room)) e (tick st.history) e.answer (grows_tick st.history)

  put : (c : ℕ) (fields : List ℕ) (q : List Call) (e : DirectoryEnd) → Goes (update_by s c fields q e st)
  put c fields q e = called c q updated e (put_in s c fields st.history) e.answer (grows_put s c fields st.history)

  kept : (c i : ℕ) (q : List (List ℕ)) (e : NodeEnd) (a : Served) → Goes (keeps c i q e a st)
  kept c i q e (refuses n) = grows_tick st.history
  kept c i q e (serves len) = grows_tick st.history

  event_grows : (e : Event) → marks_once (client_of e) (carry_out s honest e st).answer st.history ≡ true → Goes (carry_out s honest e st)
  unfolding carry_out marks_once
  event_grows (deposit c bytes) t = started c (some bytes) (start_deposit s c (st.clients c) bytes)
  event_grows (reading c room) t = started c none (start_reading s c (st.clients c) room)
  event_grows (carry c room) t = go (st.calls c)
    where
      go : (q : List Call) → Goes (carries s c room q st)
      go [] = grows_tick st.history
      go (scan_call ∷ q) = looked c q (directory_scan s st.directory room)
      go (update_call fields ∷ q) = put c fields q (directory_update s c st.directory fields)
  event_grows (hand c room) t = go (st.returns c) t
    where
      go : (q : List Return) → Once c (handed s c room q st)
      go [] = λ t. grows_tick st.history
      go (updated ∷ q) = answered c q (update_answer s c (st.clients c) room)
      go (rows b ∷ q) = answered c q (scan_answer s c (st.clients c) b room)
  event_grows (bring c i room) t = go (st.to_node c i)
    where
      go : (q : List (List ℕ)) → Goes (brought s honest c i room q st)
      go [] = grows_tick st.history
      go (m ∷ q) =
          chosen Goes (honest i) (keeps c i q (node_message s i (st.nodes i) m room) (node_message s i (st.nodes i) m room).answer st) (lost c i q st)
          (kept c i q (node_message s i (st.nodes i) m room) (node_message s i (st.nodes i) m room).answer) (grows_tick st.history)
  event_grows (deliver i c room out) t = go (st.to_client i c) t
    where
      go : (q : List (List ℕ)) → Once c (delivered s i c room out q st)
      go [] = λ t. grows_tick st.history
      go (m ∷ q) = spoken c i m (upd₂ st.to_client i c q) (client_message s c i (st.clients c) m room out)
  event_grows (lie i c bytes room out) t =
      chosen (Once c) (honest i) _ (told s c i bytes st.to_client (client_message s c i (st.clients c) bytes room out) st)
      (λ t. grows_tick st.history) (spoken c i bytes st.to_client (client_message s c i (st.clients c) bytes room out)) t

-- ---- a run

module _ (s : Measures) (honest : ℕ → Bool) where
  run_grows : (es : List Event) (st : State) → borne_once s honest es st ≡ true → Grows st.history (run s honest es st).history
  unfolding run borne_once
  run_grows [] st t = record { begun = omega arith; page = λ o l. refl; version = λ o v l e. e; replied = λ x a. a }
  run_grows (e ∷ es) st t =
      let st' = (carry_out s honest e st).state in
      let u = and-true (marks_once (client_of e) (carry_out s honest e st).answer st.history) _ t in
      grows_on st.history st'.history (run s honest es st').history (event_grows s honest st e u.0) (run_grows es st' u.1)

  -- so with a list and one event more
  pub borne_last : (es : List Event) (e : Event) (st : State) → borne_once s honest es st ≡ true
      → marks_once (client_of e) (carry_out s honest e (run s honest es st)).answer (run s honest es st).history ≡ true
      → borne_once s honest (es ++ (e ∷ [])) st ≡ true
  unfolding run borne_once
  borne_last [] e st t m = ap (λ (b : Bool). b && true) m
  borne_last (x ∷ es) e st t m =
      let u = and-true (marks_once (client_of x) (carry_out s honest x st).answer st.history) _ t in
      λ i. u.0 i && borne_last es e (carry_out s honest x st).state u.1 m i

  -- a string of the run is one of its history at the end
  run_strings : (es : List Event) (st : State) → borne_once s honest es st ≡ true → (x : List ℕ) → RunString s honest es st x
      → StringOf s (run s honest es st).history x
  unfolding run borne_once
  run_strings [] st t x p = p
  run_strings (e ∷ es) st t x (inl p) = grows_strings s st.history (run s honest (e ∷ es) st).history (run_grows (e ∷ es) st t) x p
  run_strings (e ∷ es) st t x (inr p) =
      run_strings es (carry_out s honest e st).state (and-true (marks_once (client_of e) (carry_out s honest e st).answer st.history) _ t).1 x p

  -- so the premise is one about that history
  pub differ-run : (es : List Event) (st : State) → borne_once s honest es st ≡ true → Differ (StringOf s (run s honest es st).history)
      → Differ (RunString s honest es st)
  differ-run es st t d x y p q = d x y (run_strings es st t x p) (run_strings es st t y q)

  -- a string of the first events is one of all
  pub front_strings : (es more : List Event) (st : State) (x : List ℕ) → RunString s honest es st x → RunString s honest (es ++ more) st x
  front_strings [] [] st x p = p
  front_strings [] (e ∷ more) st x p = inl p
  front_strings (e ∷ es) more st x (inl p) = inl p
  front_strings (e ∷ es) more st x (inr p) = inr (front_strings es more (carry_out s honest e st).state x p)

  -- one of the history at the end is the run's
  pub last_strings : (es : List Event) (st : State) (x : List ℕ) → StringOf s (run s honest es st).history x → RunString s honest es st x
  unfolding run
  last_strings [] st x p = p
  last_strings (e ∷ es) st x p = inr (last_strings es (carry_out s honest e st).state x p)

pub front-lent : (es more : List Event) → AllLent (es ++ more) → AllLent es
front-lent [] more l = tt
front-lent (e ∷ es) more l = (l.0, front-lent es more l.1)
