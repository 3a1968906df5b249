-- What a call of each event function leaves is what the run's next event leaves, for each way that the event can go.
use mathlib.Core.Path.{◌≡◌, refl, sym, ap, subst, subst⁻¹, ◌∙◌}
use mathlib.Core.Bool.{Bool, true, false, cond, false≢true}
use mathlib.Core.List.{List, [], ◌∷◌, ◌++◌, append-nil, map, map-append}
use mathlib.Core.Option.{some, none}
use Prim.Native.Nat.{ℕ, zero, suc, ◌+◌, ◌-◌, ◌≤◌, ◌<◌}
use native.Mathlib.Omega.{arith}
use borrow.Author.Tests.{leb-true}
use lib.Dec.{leb, ltb}
use lib.ListN.{length, take, drop, length-append, length-take}
use lib.Seq.{drop-drop, take-nil}
use Rattle.parties.specs.Sizes.{Sized}
use Rattle.std.specs.Prelude.{Result as Answer}
use Rattle.parties.specs.declared.Measures.{Measures}
use Rattle.parties.specs.protocol.Measures.{passes}
use Rattle.parties.specs.protocol.Answer.{Served}
use Rattle.parties.specs.protocol.ClientEvents.{ClientEnd, start_deposit, start_reading, update_answer, scan_answer, client_message, after}
use Rattle.parties.specs.protocol.DirectoryEvents.{DirectoryEnd, directory_update, directory_scan}
use Rattle.parties.specs.protocol.NodeEvents.{NodeEnd, node_message}
use Rattle.parties.specs.protocol.Run.{State, History, Call, scan_call, update_call, Return, updated, rows, Event, deposit, reading, carry, hand, bring, deliver, lie}
use Rattle.parties.specs.protocol.Run.{Answered, nothing, by_client, Result, upd, upd₂, tick, is_refused, called, length_of, carry_out, fresh, run}
use Rattle.parties.specs.protocol.Run.{stays, goes, starts, returned, told, carried, scan_by, update_by, keeps, lost, brought}
use Rattle.parties.proofs.protocol.events.DepositStartLaws.{deposit-room}
use Rattle.parties.proofs.protocol.model.Cells.{by_eq}
use Rattle.parties.proofs.protocol.events.RunLaws.{run-last, head_scan, head_update, head_updated, head_rows, head_to_node, head_to_client, none_to_node, none_to_client, none-called, none-returned}
use Rattle.parties.specs.Answer.{served}
use Rattle.parties.specs.declared.Refusal.{Refusal}
use Rattle.parties.specs.client.Answer.{answered}
use Rattle.parties.specs.declared.ClientAnswer.{ClientAnswer}
use Rattle.title.specs.Memory.{directory_in, table_at, table_in, record_at, record_in, PutBack}
use Rattle.title.specs.Service.{MemoryShows, Called, Returned, Brought, Delivered, Lied, Handed, Serves as MemoryServes}
use Rattle.title.proofs.Service.{serves-shows}
use Rattle.title.proofs.PartLaws.{both_true}
use Rattle.runs.specs.declared.answer.Happened.{Happened}
use Rattle.runs.specs.declared.answer.EventEnd.{EventEnd}
use Rattle.runs.specs.Parcels.{Parcel, proper_key, proper_all, Listed, keyed, bodies, FindsAt, Removed}
use Rattle.runs.specs.Sent.{sent}
use Rattle.runs.specs.UnderWay.{call_of, return_of, UnderWay, After}
use Rattle.runs.specs.Happens.{answer_of, out_delivered, out_after, room_carried, room_handed, room_brought, room_delivered, room_after, Goes}
use Rattle.runs.specs.Acts.{body, behind, tagged, Sends, Takes, Serves}
use Rattle.runs.proofs.PostLaws.{bodies-append, key-client, key-node}
use Rattle.runs.proofs.ParcelLaws.{nothing_in, body-keyed, body-other, found-bodies, other-bodies, keyed_by, not_kind, not_client, not_two}
use Rattle.runs.proofs.ParcelLaws.{proper_by, proper_one, listed_appended, listed_removed, found-body, found-key}
use Rattle.runs.proofs.SentLaws.{sent-calls, sent-returns, sent_to_clients, sent-other, sent_to_nodes, sent-proper, return-key, client-key}

-- ---- a function changed at a number, or at two, is what it was elsewhere

one_way : {A : Type 0} (f g : ℕ → A) (c : ℕ) (a : A) → a ≡ g c → ((d : ℕ) → (d ≡ c → ⊥) → f d ≡ g d) → (d : ℕ) → upd f c a d ≡ g d
one_way f g c a e o d = by_eq d c (λ t z. rw t (rw z e)) (λ t z. rw t (o d z))

two_way : {A : Type 0} (f g : ℕ → ℕ → A) (i c : ℕ) (a : A) → a ≡ g i c → ((j d : ℕ) → (j ≡ i → d ≡ c → ⊥) → f j d ≡ g j d)
    → (j d : ℕ) → upd₂ f i c a j d ≡ g j d
two_way f g i c a e o j d =
    by_eq j i
    (λ t z. rw t (by_eq d c (λ t' z'. rw t' (rw (z, z') e)) (λ t' z'. rw t' (rw z (o i d (λ x. z'))))))
    (λ t z. rw t (o j d (λ x y. z x)))

-- ---- one parcel fewer, or some more

more-bodies : (k c i : ℕ) (q p : List Parcel) → bodies k c i p ≡ [] → bodies k c i (q ++ p) ≡ bodies k c i q
more-bodies k c i q p e = bodies-append k c i q p ∙ ap (λ (l : List (List ℕ)). bodies k c i q ++ l) e ∙ append-nil (bodies k c i q)

last_own : (k c i : ℕ) (q : List Parcel) (b : List ℕ) → bodies k c i (q ++ (record { kind = k; client = c; node = i; bytes = b } ∷ [])) ≡ bodies k c i q ++ (b ∷ [])
last_own k c i q b =
    bodies-append k c i q _
    ∙ ap (λ (l : List (List ℕ)). bodies k c i q ++ l)
    (body-keyed k c i (record { kind = k; client = c; node = i; bytes = b }) [] (keyed_by k c i b) ∙ ap (λ (l : List (List ℕ)). b ∷ l) (nothing_in k c i))

last-other : (k c i : ℕ) (q : List Parcel) (x : Parcel) → keyed k c i x ≡ false → bodies k c i (q ++ (x ∷ [])) ≡ bodies k c i q
last-other k c i q x e = more-bodies k c i q (x ∷ []) (body-other k c i x [] e ∙ nothing_in k c i)

module _ (k c i : ℕ) (q : List Parcel) (at end : ℕ) (f : FindsAt k c i q at end) where
  first_own : bodies k c i q ≡ f.parcel.bytes ∷ bodies k c i (f.before ++ f.rest)
  first_own = ap (bodies k c i) f.parts ∙ found-bodies k c i f.parcel f.before f.rest f.same f.none

  first-other : (k' c' i' : ℕ) → keyed k' c' i' f.parcel ≡ false → bodies k' c' i' q ≡ bodies k' c' i' (f.before ++ f.rest)
  first-other k' c' i' e = ap (bodies k' c' i') f.parts ∙ other-bodies k' c' i' f.parcel f.before f.rest e

  other-kind : (k' c' i' : ℕ) → (k ≡ k' → ⊥) → bodies k' c' i' q ≡ bodies k' c' i' (f.before ++ f.rest)
  other-kind k' c' i' n = first-other k' c' i' (not_kind k c i k' c' i' f.parcel f.same n)

  other-client : (k' c' i' : ℕ) → (c ≡ c' → ⊥) → bodies k' c' i' q ≡ bodies k' c' i' (f.before ++ f.rest)
  other-client k' c' i' n = first-other k' c' i' (not_client k c i k' c' i' f.parcel f.same n)

  other-two : (k' c' i' : ℕ) → (c' ≡ c → i' ≡ i → ⊥) → bodies k' c' i' q ≡ bodies k' c' i' (f.before ++ f.rest)
  other-two k' c' i' n = first-other k' c' i' (not_two k c i k' c' i' f.parcel f.same n)

served-short : (front room : List ℕ) (len : ℕ) → length front ≤ 1 → len ≤ 70250 → length (front ++ take len room) < 4294967296
served-short front room len short few = omega (arith, length-append front (take len room), length-take len room)

-- ---- what is under way after a client's event that is not refused

module _ (s : Measures) (c : ℕ) (e : ClientEnd) (q : List Parcel) (st : State) (returns : ℕ → List Return) (to_client : ℕ → ℕ → List (List ℕ)) (history : History) where
  goes_way : ((d : ℕ) → st.calls d ≡ map call_of (bodies 0 d 0 q)) → ((d : ℕ) → returns d ≡ map return_of (bodies 1 d 0 q))
      → ((d i : ℕ) → st.to_node d i ≡ bodies 2 d i q) → ((i d : ℕ) → to_client i d ≡ bodies 3 d i q)
      → UnderWay (q ++ sent s c e.answer e.room) (goes s c e returns to_client history st).state
  goes_way ca re nd cl =
      let p = sent s c e.answer e.room in
      record {
        calls = one_way st.calls (λ d. map call_of (bodies 0 d 0 (q ++ sent s c e.answer e.room))) c (called e.answer e.room (st.calls c))
            (sent-calls s c e.answer e.room (st.calls c)
            ∙ ap (λ (l : List Call). l ++ map call_of (bodies 0 c 0 p)) (ca c)
            ∙ sym (map-append call_of (bodies 0 c 0 q) (bodies 0 c 0 p))
            ∙ ap (map call_of) (sym (bodies-append 0 c 0 q p)))
            (λ d n. ca d ∙ ap (map call_of) (sym (more-bodies 0 d 0 q p (sent-other s c e.answer e.room 0 d 0 (λ z. n (sym z))))));
        returns = λ d. re d ∙ ap (map return_of) (sym (more-bodies 1 d 0 q p (sent-returns s c e.answer e.room d 0)));
        to_node = λ d i.
            by_eq d c
            (λ t z. rw t (rw z
            (sent_to_nodes s c e i (st.to_node c i) ∙ ap (λ (l : List (List ℕ)). l ++ bodies 2 c i p) (nd c i) ∙ sym (bodies-append 2 c i q p))))
            (λ t n. rw t (nd d i ∙ sym (more-bodies 2 d i q p (sent-other s c e.answer e.room 2 d i (λ z. n (sym z))))));
        to_client = λ i d. cl i d ∙ sym (more-bodies 3 d i q p (sent_to_clients s c e.answer e.room d i));
      }

-- ---- what the parcels and the answer are after a result of the run

record Outcome (s : Measures) (r : Result) (result : EventEnd) (after : List ℕ) : Type 0 where
  parcels : List Parcel
  listed : Listed s parcels result.used after
  under_way : UnderWay parcels r.state
  answer : answer_of result.what ≡ some r.answer

module _ (s : Measures) (b : Bool) (x y : Result) (result : EventEnd) (after : List ℕ) where
  first-outcome : b ≡ true → Outcome s x result after → Outcome s (cond b x y) result after
  first-outcome e o = rw e o

  second_outcome : b ≡ false → Outcome s y result after → Outcome s (cond b x y) result after
  second_outcome e o = rw e o

module _ (s : Measures) (q : List Parcel) (st : State) (post : List ℕ) (used : ℕ) (l : Listed s q used post) (u : UnderWay q st) where
  stays-outcome : (a : Answered) (history : History) (result : EventEnd) (after : List ℕ) → result.used ≡ used → after ≡ post → answer_of result.what ≡ some a
      → Outcome s (stays a history st) result after
  stays-outcome a history result after e x k =
      record {
        parcels = q;
        listed = rw (e, x) l;
        under_way = record { calls = u.calls; returns = u.returns; to_node = u.to_node; to_client = u.to_client };
        answer = k;
      }

  -- ---- a client's answer

  module _ (c : ℕ) (a : Answer ClientAnswer Refusal) (room after : List ℕ) (e : ClientEnd) (h₁ h₂ : History)
      (k : answered a ≡ e.answer) (m : room ≡ e.room) (g : proper_all s (sent s c (answered a) room) ≡ true) where
    sends-outcome : (result : EventEnd) → Sends s c a room post used after result
        → Outcome s (cond (is_refused e.answer) (stays (by_client e.answer) h₁ st) (goes s c e st.returns st.to_client h₂ st)) result after
    sends-outcome result (Sends.refuses z x) =
        first-outcome s _ _ _ _ _ (sym (ap is_refused k) ∙ z)
        (stays-outcome (by_client e.answer) h₁ result after refl x (ap (λ y. some (by_client y)) k))
    sends-outcome result (Sends.sends to z x) =
        second_outcome s _ _ _ _ _ (sym (ap is_refused k) ∙ z)
        (record {
          parcels = q ++ sent s c e.answer e.room;
          listed = subst (λ (p : List Parcel). Listed s (q ++ p) to after) (λ j. sent s c (k j) (m j)) (listed_appended s q (sent s c (answered a) room) post used after to l g x);
          under_way = goes_way s c e q st st.returns st.to_client h₂ u.calls u.returns u.to_node u.to_client;
          answer = ap (λ y. some (by_client y)) k;
        })

    takes-outcome : (kind i at end : ℕ) (f : FindsAt kind c i q at end) (returns : ℕ → List Return) (to_client : ℕ → ℕ → List (List ℕ)) (result : EventEnd)
        → ((d : ℕ) → st.calls d ≡ map call_of (bodies 0 d 0 (f.before ++ f.rest)))
        → ((d : ℕ) → returns d ≡ map return_of (bodies 1 d 0 (f.before ++ f.rest)))
        → ((d j : ℕ) → st.to_node d j ≡ bodies 2 d j (f.before ++ f.rest))
        → ((j d : ℕ) → to_client j d ≡ bodies 3 d j (f.before ++ f.rest))
        → Takes s c a room post used at end after result
        → Outcome s (cond (is_refused e.answer) (stays (by_client e.answer) h₁ st) (goes s c e returns to_client h₂ st)) result after
    takes-outcome kind i at end f returns to_client result ca re nd cl (Takes.refuses z x) =
        first-outcome s _ _ _ _ _ (sym (ap is_refused k) ∙ z)
        (stays-outcome (by_client e.answer) h₁ result after refl x (ap (λ y. some (by_client y)) k))
    takes-outcome kind i at end f returns to_client result ca re nd cl (Takes.takes left to mid z d x) =
        second_outcome s _ _ _ _ _ (sym (ap is_refused k) ∙ z)
        (record {
          parcels = (f.before ++ f.rest) ++ sent s c e.answer e.room;
          listed =
              subst (λ (p : List Parcel). Listed s ((f.before ++ f.rest) ++ p) to after) (λ j. sent s c (k j) (m j))
              (listed_appended s (f.before ++ f.rest) (sent s c (answered a) room) mid left after to (listed_removed s kind c i q used post at end l f mid left d) g x);
          under_way = goes_way s c e (f.before ++ f.rest) st returns to_client h₂ ca re nd cl;
          answer = ap (λ y. some (by_client y)) k;
        })

  -- ---- the directory's answer

  module _ (c at end : ℕ) (f : FindsAt 0 c 0 q at end) (front room after : List ℕ) (e : DirectoryEnd) (r : Return) (done same : History)
      (key : proper_key s 1 c 0 ≡ true) (short : length front ≤ 1) where
    carried-outcome : (a : Answer ℕ Refusal) (result : EventEnd) → length_of (served a) ≤ 70250 → served a ≡ e.answer → return_of (front ++ take (length_of (served a)) room) ≡ r
        → Serves 1 c 0 front room post used at end after a result
        → Outcome s (carried c (map call_of (bodies 0 c 0 (f.before ++ f.rest))) r e done same e.answer st) result after
    carried-outcome a result few k m (Serves.refuses v x) =
        subst (λ (y : Served). Outcome s (carried c (map call_of (bodies 0 c 0 (f.before ++ f.rest))) r e done same y st) result after) k
        (stays-outcome _ same result after refl x refl)
    carried-outcome a result few k m (Serves.serves len left to mid d x) =
        let o = f.before ++ f.rest in
        let b = front ++ take len room in
        let y : Parcel = record { kind = 1; client = c; node = 0; bytes = b } in
        let g = keyed_by 1 c 0 b in
        subst (λ (v : Served). Outcome s (carried c (map call_of (bodies 0 c 0 (f.before ++ f.rest))) r e done same v st) result after) k
        (record {
          parcels = o ++ (y ∷ []);
          listed = listed_appended s o (y ∷ []) mid left after to (listed_removed s 0 c 0 q used post at end l f mid left d)
              (proper_one s y (proper_by s 1 c 0 b key (served-short front room len short few))) x;
          under_way =
              record {
                calls = one_way st.calls (λ d. map call_of (bodies 0 d 0 (o ++ (y ∷ [])))) c (map call_of (bodies 0 c 0 o))
                    (ap (map call_of) (sym (last-other 0 c 0 o y (not_kind 1 c 0 0 c 0 y g (λ z. omega arith)))))
                    (λ d n. u.calls d ∙ ap (map call_of)
                    (other-client 0 c 0 q at end f 0 d 0 (λ z. n (sym z)) ∙ sym (last-other 0 d 0 o y (not_kind 1 c 0 0 d 0 y g (λ z. omega arith)))));
                returns = one_way st.returns (λ d. map return_of (bodies 1 d 0 (o ++ (y ∷ [])))) c (st.returns c ++ (r ∷ []))
                    ((λ j. (u.returns c ∙ ap (map return_of) (other-kind 0 c 0 q at end f 1 c 0 (λ z. omega arith))) j ++ (sym m j ∷ []))
                    ∙ sym (map-append return_of (bodies 1 c 0 o) (b ∷ [])) ∙ ap (map return_of) (sym (last_own 1 c 0 o b)))
                    (λ d n. u.returns d ∙ ap (map return_of)
                    (other-kind 0 c 0 q at end f 1 d 0 (λ z. omega arith) ∙ sym (last-other 1 d 0 o y (not_client 1 c 0 1 d 0 y g (λ z. n (sym z))))));
                to_node = λ d j. u.to_node d j ∙ other-kind 0 c 0 q at end f 2 d j (λ z. omega arith) ∙ sym (last-other 2 d j o y (not_kind 1 c 0 2 d j y g (λ z. omega arith)));
                to_client = λ j d. u.to_client j d ∙ other-kind 0 c 0 q at end f 3 d j (λ z. omega arith) ∙ sym (last-other 3 d j o y (not_kind 1 c 0 3 d j y g (λ z. omega arith)));
              };
          answer = refl;
        })

  -- ---- a node's

  module _ (c i at end : ℕ) (f : FindsAt 2 c i q at end) where
    node_way : (d j : ℕ) → upd₂ st.to_node c i (bodies 2 c i (f.before ++ f.rest)) d j ≡ bodies 2 d j (f.before ++ f.rest)
    node_way =
        two_way st.to_node (λ d j. bodies 2 d j (f.before ++ f.rest)) c i (bodies 2 c i (f.before ++ f.rest)) refl
        (λ d j n. u.to_node d j ∙ other-two 2 c i q at end f 2 d j n)

    lost-outcome : (after : List ℕ) (left : ℕ) → Removed at end post used after left
        → Outcome s (lost c i (bodies 2 c i (f.before ++ f.rest)) st) (record { used = left; what = Happened.Taken }) after
    lost-outcome after left d =
        record {
          parcels = f.before ++ f.rest;
          listed = listed_removed s 2 c i q used post at end l f after left d;
          under_way =
              record {
                calls = λ d. u.calls d ∙ ap (map call_of) (other-kind 2 c i q at end f 0 d 0 (λ z. omega arith));
                returns = λ d. u.returns d ∙ ap (map return_of) (other-kind 2 c i q at end f 1 d 0 (λ z. omega arith));
                to_node = node_way;
                to_client = λ j d. u.to_client j d ∙ other-kind 2 c i q at end f 3 d j (λ z. omega arith);
              };
          answer = refl;
        }

    module _ (room after : List ℕ) (e : NodeEnd) (m : room ≡ e.room) (key : proper_key s 3 c i ≡ true) where
      keeps-outcome : (a : Answer ℕ Refusal) (result : EventEnd) → length_of (served a) ≤ 70250 → served a ≡ e.answer → Serves 3 c i [] room post used at end after a result
          → Outcome s (keeps c i (bodies 2 c i (f.before ++ f.rest)) e e.answer st) result after
      keeps-outcome a result few k (Serves.refuses v x) =
          subst (λ (y : Served). Outcome s (keeps c i (bodies 2 c i (f.before ++ f.rest)) e y st) result after) k
          (stays-outcome _ _ result after refl x refl)
      keeps-outcome a result few k (Serves.serves len left to mid d x) =
          let o = f.before ++ f.rest in
          let b = take len room in
          let y : Parcel = record { kind = 3; client = c; node = i; bytes = b } in
          let g = keyed_by 3 c i b in
          subst (λ (v : Served). Outcome s (keeps c i (bodies 2 c i (f.before ++ f.rest)) e v st) result after) k
          (record {
            parcels = o ++ (y ∷ []);
            listed = listed_appended s o (y ∷ []) mid left after to (listed_removed s 2 c i q used post at end l f mid left d)
                (proper_one s y (proper_by s 3 c i b key (served-short [] room len (omega arith) few))) x;
            under_way =
                record {
                  calls = λ d. u.calls d ∙ ap (map call_of) (other-kind 2 c i q at end f 0 d 0 (λ z. omega arith)
                      ∙ sym (last-other 0 d 0 o y (not_kind 3 c i 0 d 0 y g (λ z. omega arith))));
                  returns = λ d. u.returns d ∙ ap (map return_of) (other-kind 2 c i q at end f 1 d 0 (λ z. omega arith)
                      ∙ sym (last-other 1 d 0 o y (not_kind 3 c i 1 d 0 y g (λ z. omega arith))));
                  to_node = λ d j. node_way d j ∙ sym (last-other 2 d j o y (not_kind 3 c i 2 d j y g (λ z. omega arith)));
                  to_client = two_way st.to_client (λ j d. bodies 3 d j (o ++ (y ∷ []))) i c (st.to_client i c ++ (take len e.room ∷ []))
                      ((λ j. (u.to_client i c ∙ other-kind 2 c i q at end f 3 c i (λ z. omega arith)) j ++ (take len (sym m j) ∷ [])) ∙ sym (last_own 3 c i o b))
                      (λ j d n. u.to_client j d ∙ other-kind 2 c i q at end f 3 d j (λ z. omega arith)
                      ∙ sym (last-other 3 d j o y (not_two 3 c i 3 d j y g (λ z w. n w z))));
                };
            answer = refl;
          })

-- ---- calls and their answers, with their first byte

updated_by : (b : List ℕ) → tagged b ≡ false → return_of b ≡ updated
updated_by [] e = refl
updated_by (zero ∷ b) e = refl
updated_by (suc t ∷ b) e = absurd (false≢true (sym e))

rows_by : (b : List ℕ) → tagged b ≡ true → return_of b ≡ rows (drop 1 b)
rows_by [] e = absurd (false≢true e)
rows_by (zero ∷ b) e = absurd (false≢true e)
rows_by (suc t ∷ b) e = refl

scan_by_lem : (b : List ℕ) → tagged b ≡ false → call_of b ≡ scan_call
scan_by_lem [] e = refl
scan_by_lem (zero ∷ b) e = refl
scan_by_lem (suc t ∷ b) e = absurd (false≢true (sym e))

update_by_lem : (b : List ℕ) → tagged b ≡ true → call_of b ≡ update_call (drop 1 b)
update_by_lem [] e = absurd (false≢true e)
update_by_lem (zero ∷ b) e = absurd (false≢true e)
update_by_lem (suc t ∷ b) e = refl

drop_one : (n : ℕ) (l : List ℕ) → drop 1 (take n l) ≡ take (n - 1) (drop 1 l)
drop_one zero l = refl
drop_one (suc n) [] = sym (take-nil (suc n - 1))
drop_one (suc n) (x ∷ l) = ap (λ (k : ℕ). take k l) (suc_sub_one n)
  where
    suc_sub_one : (n : ℕ) → n ≡ suc n - 1
    suc_sub_one n = omega arith

behind_tag : (post : List ℕ) (at end : ℕ) → drop 1 (body post at end) ≡ behind post at end
behind_tag post at end =
    let m : end - (at + 7) - 1 ≡ end - (at + 8) = omega arith in
    let n : at + 7 + 1 ≡ at + 8 = omega arith in
    drop_one (end - (at + 7)) (drop (at + 7) post)
    ∙ ap (take (end - (at + 7) - 1)) (drop-drop 1 (at + 7) post)
    ∙ (λ j. take (m j) (drop (n j) post))

-- ---- events

-- the node of a message to one
key-first : (s : Measures) (c i : ℕ) → proper_key s 2 c i ≡ true → 1 ≤ i
unfolding proper_key
key-first s c i e = leb-true 1 i (both_true (leb 1 i) _ (both_true (ltb c s.m) _ e).1).0

module _ (s : Measures) (ok : passes s ≡ true) (honest : ℕ → Bool) (es : List Event) (memory post : List ℕ) (used : ℕ) (h : After s honest es memory post used) where
  shown : MemoryShows s memory (run s honest es (fresh s))
  shown = serves-shows s ok honest es memory h.serves

  -- the numbers of a parcel that was found
  found-client : (k c i at end : ℕ) → FindsAt k c i h.parcels at end → c < s.m
  found-client k c i at end f = key-client s k c i (found-key s k c i h.parcels used post at end h.listed f)

  next-after : (e : Event) (memory' after : List ℕ) (q : List Parcel) (to : ℕ) → Handed s honest e (run s honest es (fresh s)) memory memory'
      → Listed s q to after → UnderWay q (carry_out s honest e (run s honest es (fresh s))).state
      → After s honest (es ++ (e ∷ [])) memory' after to
  next-after e memory' after q to g l u =
      record {
        serves = MemoryServes.goes es e memory memory' h.serves g;
        parcels = q;
        listed = l;
        under_way = subst⁻¹ (UnderWay q) (run-last s honest es e (fresh s)) u;
      }

  goes_by : (e : Event) (r : Result) (result : EventEnd) (memory' after room out : List ℕ) → carry_out s honest e (run s honest es (fresh s)) ≡ r
      → Handed s honest e (run s honest es (fresh s)) memory memory' → Outcome s r result after
      → room ≡ room_after s honest e (run s honest es (fresh s)) → out ≡ out_after s honest e (run s honest es (fresh s))
      → Goes s honest es e result memory' after room out
  goes_by e r result memory' after room out k g o m w =
      record {
        after =
            next-after e memory' after o.parcels result.used g o.listed
            (subst⁻¹ (λ (x : Result). UnderWay o.parcels x.state) k o.under_way);
        answer = o.answer ∙ ap (λ (x : Result). some x.answer) (sym k);
        written = m;
        output = w;
      }

  -- ---- starts

  pub deposit-goes : (c : ℕ) (page : List ℕ) (a : Answer ClientAnswer Refusal) (memory' after : List ℕ) (result : EventEnd)
      → c < s.m → Sized s (answered a)
      → answered a ≡ (start_deposit s c (record_in s c memory) page).answer
      → PutBack memory (record_at s c) (record_in s c memory) (start_deposit s c (record_in s c memory) page).client memory'
      → Sends s c a [] post used after result
      → Goes s honest es (deposit c page) result memory' after [] []
  unfolding carry_out
  deposit-goes c page a memory' after result v z k p w =
      let st = run s honest es (fresh s) in
      let o = shown.clients c v in
      let e = start_deposit s c (st.clients c) page in
      goes_by (deposit c page) (starts s c (some page) e st) result memory' after [] [] refl p
      (sends-outcome s h.parcels st post used h.listed h.under_way c a [] after e _ _
      (k ∙ ap (λ (x : List ℕ). (start_deposit s c x page).answer) o) (sym (deposit-room s c (st.clients c) page))
      (sent-proper s ok c [] v (answered a) z) result w)
      refl
      refl

  pub reading-goes : (c : ℕ) (room room' : List ℕ) (a : Answer ClientAnswer Refusal) (memory' after : List ℕ) (result : EventEnd)
      → c < s.m → Sized s (answered a)
      → answered a ≡ (start_reading s c (record_in s c memory) room).answer
      → PutBack memory (record_at s c) (record_in s c memory) (start_reading s c (record_in s c memory) room).client memory'
      → room' ≡ (start_reading s c (record_in s c memory) room).room
      → Sends s c a room' post used after result
      → Goes s honest es (reading c room) result memory' after room' []
  unfolding carry_out
  reading-goes c room room' a memory' after result v z k p m w =
      let st = run s honest es (fresh s) in
      let o = shown.clients c v in
      let e = start_reading s c (st.clients c) room in
      goes_by (reading c room) (starts s c none e st) result memory' after room' [] refl p
      (sends-outcome s h.parcels st post used h.listed h.under_way c a room' after e _ _
      (k ∙ ap (λ (x : List ℕ). (start_reading s c x room).answer) o) (m ∙ ap (λ (x : List ℕ). (start_reading s c x room).room) o)
      (sent-proper s ok c room' v (answered a) z) result w)
      (m ∙ ap (λ (x : List ℕ). (start_reading s c x room).room) o)
      refl

  -- ---- nothing is under way

  pub carry-none : (c : ℕ) (room : List ℕ) → bodies 0 c 0 h.parcels ≡ []
      → Goes s honest es (carry c room) (record { used = used; what = Happened.Nothing }) memory post room []
  carry-none c room e =
      let st = run s honest es (fresh s) in
      let k = h.under_way.calls c ∙ ap (map call_of) e in
      goes_by (carry c room) (stays nothing (tick st.history) st) (record { used = used; what = Happened.Nothing }) memory post room []
      (none-called s honest st c room k)
      (subst⁻¹ (λ (x : List Call). Called s c x memory memory) k refl)
      (stays-outcome s h.parcels st post used h.listed h.under_way nothing (tick st.history) _ post refl refl refl)
      (sym (ap (room_carried s st.directory room) k))
      refl

  pub hand-none : (c : ℕ) (room : List ℕ) → bodies 1 c 0 h.parcels ≡ []
      → Goes s honest es (hand c room) (record { used = used; what = Happened.Nothing }) memory post room []
  hand-none c room e =
      let st = run s honest es (fresh s) in
      let k = h.under_way.returns c ∙ ap (map return_of) e in
      goes_by (hand c room) (stays nothing (tick st.history) st) (record { used = used; what = Happened.Nothing }) memory post room []
      (none-returned s honest st c room k)
      (subst⁻¹ (λ (x : List Return). Returned s c room x memory memory) k refl)
      (stays-outcome s h.parcels st post used h.listed h.under_way nothing (tick st.history) _ post refl refl refl)
      (sym (ap (room_handed s c (st.clients c) room) k))
      refl

  brought-none : (b : Bool) (i : ℕ) (room : List ℕ) → Brought s b i room [] memory memory
  brought-none true i room = refl
  brought-none false i room = refl

  pub bring-none : (c i : ℕ) (room : List ℕ) → bodies 2 c i h.parcels ≡ []
      → Goes s honest es (bring c i room) (record { used = used; what = Happened.Nothing }) memory post room []
  bring-none c i room e =
      let st = run s honest es (fresh s) in
      let k = h.under_way.to_node c i ∙ e in
      goes_by (bring c i room) (stays nothing (tick st.history) st) (record { used = used; what = Happened.Nothing }) memory post room []
      (none_to_node s honest st c i room k)
      (subst⁻¹ (λ (x : List (List ℕ)). Brought s (honest i) i room x memory memory) k (brought-none (honest i) i room))
      (stays-outcome s h.parcels st post used h.listed h.under_way nothing (tick st.history) _ post refl refl refl)
      (sym (ap (room_brought s (honest i) i (st.nodes i) room) k))
      refl

  pub deliver-none : (i c : ℕ) (room out : List ℕ) → bodies 3 c i h.parcels ≡ []
      → Goes s honest es (deliver i c room out) (record { used = used; what = Happened.Nothing }) memory post room out
  deliver-none i c room out e =
      let st = run s honest es (fresh s) in
      let k = h.under_way.to_client i c ∙ e in
      goes_by (deliver i c room out) (stays nothing (tick st.history) st) (record { used = used; what = Happened.Nothing }) memory post room out
      (none_to_client s honest st i c room out k)
      (subst⁻¹ (λ (x : List (List ℕ)). Delivered s c i room out x memory memory) k refl)
      (stays-outcome s h.parcels st post used h.listed h.under_way nothing (tick st.history) _ post refl refl refl)
      (sym (ap (room_delivered s i c (st.clients c) room out) k))
      (sym (ap (out_delivered s i c (st.clients c) room out) k))

  -- ---- a call

  pub carry-update-goes : (c : ℕ) (room : List ℕ) (at end : ℕ) (a : Answer ℕ Refusal) (memory' after : List ℕ) (result : EventEnd)
      → FindsAt 0 c 0 h.parcels at end
      → length_of (served a) ≤ 70250
      → tagged (body post at end) ≡ true
      → served a ≡ (directory_update s c (directory_in s memory) (behind post at end)).answer
      → PutBack memory 0 (directory_in s memory) (directory_update s c (directory_in s memory) (behind post at end)).table memory'
      → Serves 1 c 0 (0 ∷ []) [] post used at end after a result
      → Goes s honest es (carry c room) result memory' after room []
  carry-update-goes c room at end a memory' after result f few t k p w =
      let st = run s honest es (fresh s) in
      let fields = behind post at end in
      let q = map call_of (bodies 0 c 0 (f.before ++ f.rest)) in
      let e = directory_update s c st.directory fields in
      let x = sym (found-body s 0 c 0 h.parcels used post at end h.listed f) in
      let call = ap call_of x ∙ update_by_lem (body post at end) t ∙ ap update_call (behind_tag post at end) in
      let first : st.calls c ≡ update_call fields ∷ q =
      h.under_way.calls c ∙ ap (map call_of) (first_own 0 c 0 h.parcels at end f) ∙ ap (λ (y : Call). y ∷ q) call in
      goes_by (carry c room) (update_by s c fields q e st) result memory' after room [] (head_update s honest st c room fields q first)
      (subst⁻¹ (λ (y : List Call). Called s c y memory memory') first p)
      (carried-outcome s h.parcels st post used h.listed h.under_way c at end f (0 ∷ []) [] after e updated _ _
      (return-key s c (found-client 0 c 0 at end f)) (omega arith) a result few
      (k ∙ ap (λ (y : List ℕ). (directory_update s c y fields).answer) shown.directory) refl w)
      (sym (ap (room_carried s st.directory room) first))
      refl

  pub carry-scan-goes : (c : ℕ) (room room' : List ℕ) (at end : ℕ) (a : Answer ℕ Refusal) (after : List ℕ) (result : EventEnd)
      → FindsAt 0 c 0 h.parcels at end
      → length_of (served a) ≤ 70250
      → tagged (body post at end) ≡ false
      → served a ≡ (directory_scan s (directory_in s memory) room).answer
      → room' ≡ (directory_scan s (directory_in s memory) room).room
      → Serves 1 c 0 (1 ∷ []) room' post used at end after a result
      → Goes s honest es (carry c room) result memory after room' []
  carry-scan-goes c room room' at end a after result f few t k m w =
      let st = run s honest es (fresh s) in
      let q = map call_of (bodies 0 c 0 (f.before ++ f.rest)) in
      let e = directory_scan s st.directory room in
      let x = sym (found-body s 0 c 0 h.parcels used post at end h.listed f) in
      let call = ap call_of x ∙ scan_by_lem (body post at end) t in
      let first : st.calls c ≡ scan_call ∷ q =
      h.under_way.calls c ∙ ap (map call_of) (first_own 0 c 0 h.parcels at end f) ∙ ap (λ (y : Call). y ∷ q) call in
      let k' : served a ≡ e.answer = k ∙ ap (λ (y : List ℕ). (directory_scan s y room).answer) shown.directory in
      let m' : room' ≡ e.room = m ∙ ap (λ (y : List ℕ). (directory_scan s y room).room) shown.directory in
      goes_by (carry c room) (scan_by c q e st) result memory after room' [] (head_scan s honest st c room q first)
      (subst⁻¹ (λ (y : List Call). Called s c y memory memory) first refl)
      (carried-outcome s h.parcels st post used h.listed h.under_way c at end f (1 ∷ []) room' after e
      (rows (take (length_of e.answer) e.room)) _ _
      (return-key s c (found-client 0 c 0 at end f)) (omega arith) a result few k' (λ j. rows (take (length_of (k' j)) (m' j))) w)
      (m' ∙ sym (ap (room_carried s st.directory room) first))
      refl

  -- ---- the answer of a call

  taken-return : (c : ℕ) (room' : List ℕ) (at end : ℕ) (a : Answer ClientAnswer Refusal) (after : List ℕ) (result : EventEnd) (f : FindsAt 1 c 0 h.parcels at end) (e : ClientEnd)
      (h₁ h₂ : History) → answered a ≡ e.answer → room' ≡ e.room → proper_all s (sent s c (answered a) room') ≡ true
      → Takes s c a room' post used at end after result
      → Outcome s
      (cond (is_refused e.answer) (stays (by_client e.answer) h₁ (run s honest es (fresh s)))
      (goes s c e (upd (run s honest es (fresh s)).returns c (map return_of (bodies 1 c 0 (f.before ++ f.rest)))) (run s honest es (fresh s)).to_client h₂
      (run s honest es (fresh s)))) result after
  taken-return c room' at end a after result f e h₁ h₂ k m g w =
      let st = run s honest es (fresh s) in
      let o = f.before ++ f.rest in
      let u = h.under_way in
      takes-outcome s h.parcels st post used h.listed u c a room' after e h₁ h₂ k m g 1 0 at end f
      (upd st.returns c (map return_of (bodies 1 c 0 o))) st.to_client result
      (λ d. u.calls d ∙ ap (map call_of) (other-kind 1 c 0 h.parcels at end f 0 d 0 (λ z. omega arith)))
      (one_way st.returns (λ d. map return_of (bodies 1 d 0 o)) c (map return_of (bodies 1 c 0 o)) refl
      (λ d n. u.returns d ∙ ap (map return_of) (other-client 1 c 0 h.parcels at end f 1 d 0 (λ z. n (sym z)))))
      (λ d j. u.to_node d j ∙ other-kind 1 c 0 h.parcels at end f 2 d j (λ z. omega arith))
      (λ j d. u.to_client j d ∙ other-kind 1 c 0 h.parcels at end f 3 d j (λ z. omega arith))
      w

  pub hand-updated-goes : (c : ℕ) (room room' : List ℕ) (at end : ℕ) (a : Answer ClientAnswer Refusal) (memory' after : List ℕ) (result : EventEnd)
      → Sized s (answered a)
      → FindsAt 1 c 0 h.parcels at end
      → tagged (body post at end) ≡ false
      → answered a ≡ (update_answer s c (record_in s c memory) room).answer
      → PutBack memory (record_at s c) (record_in s c memory) (update_answer s c (record_in s c memory) room).client memory'
      → room' ≡ (update_answer s c (record_in s c memory) room).room
      → Takes s c a room' post used at end after result
      → Goes s honest es (hand c room) result memory' after room' []
  hand-updated-goes c room room' at end a memory' after result z f t k p m w =
      let st = run s honest es (fresh s) in
      let q = map return_of (bodies 1 c 0 (f.before ++ f.rest)) in
      let e = update_answer s c (st.clients c) room in
      let x = sym (found-body s 1 c 0 h.parcels used post at end h.listed f) in
      let r = ap return_of x ∙ updated_by (body post at end) t in
      let first : st.returns c ≡ updated ∷ q =
      h.under_way.returns c ∙ ap (map return_of) (first_own 1 c 0 h.parcels at end f) ∙ ap (λ (y : Return). y ∷ q) r in
      let o = shown.clients c (found-client 1 c 0 at end f) in
      goes_by (hand c room) (returned s c q e st) result memory' after room' [] (head_updated s honest st c room q first)
      (subst⁻¹ (λ (y : List Return). Returned s c room y memory memory') first p)
      (taken-return c room' at end a after result f e _ _ (k ∙ ap (λ (y : List ℕ). (update_answer s c y room).answer) o) (m ∙ ap (λ (y : List ℕ). (update_answer s c y room).room) o)
      (sent-proper s ok c room' (found-client 1 c 0 at end f) (answered a) z) w)
      (m ∙ ap (λ (y : List ℕ). (update_answer s c y room).room) o ∙ sym (ap (room_handed s c (st.clients c) room) first))
      refl

  pub hand-rows-goes : (c : ℕ) (room room' : List ℕ) (at end : ℕ) (a : Answer ClientAnswer Refusal) (memory' after : List ℕ) (result : EventEnd)
      → Sized s (answered a)
      → FindsAt 1 c 0 h.parcels at end
      → tagged (body post at end) ≡ true
      → answered a ≡ (scan_answer s c (record_in s c memory) (behind post at end) room).answer
      → PutBack memory (record_at s c) (record_in s c memory) (scan_answer s c (record_in s c memory) (behind post at end) room).client memory'
      → room' ≡ (scan_answer s c (record_in s c memory) (behind post at end) room).room
      → Takes s c a room' post used at end after result
      → Goes s honest es (hand c room) result memory' after room' []
  hand-rows-goes c room room' at end a memory' after result z f t k p m w =
      let st = run s honest es (fresh s) in
      let b = behind post at end in
      let q = map return_of (bodies 1 c 0 (f.before ++ f.rest)) in
      let e = scan_answer s c (st.clients c) b room in
      let x = sym (found-body s 1 c 0 h.parcels used post at end h.listed f) in
      let r = ap return_of x ∙ rows_by (body post at end) t ∙ ap rows (behind_tag post at end) in
      let first : st.returns c ≡ rows b ∷ q =
      h.under_way.returns c ∙ ap (map return_of) (first_own 1 c 0 h.parcels at end f) ∙ ap (λ (y : Return). y ∷ q) r in
      let o = shown.clients c (found-client 1 c 0 at end f) in
      goes_by (hand c room) (returned s c q e st) result memory' after room' [] (head_rows s honest st c room b q first)
      (subst⁻¹ (λ (y : List Return). Returned s c room y memory memory') first p)
      (taken-return c room' at end a after result f e _ _ (k ∙ ap (λ (y : List ℕ). (scan_answer s c y b room).answer) o) (m ∙ ap (λ (y : List ℕ). (scan_answer s c y b room).room) o)
      (sent-proper s ok c room' (found-client 1 c 0 at end f) (answered a) z) w)
      (m ∙ ap (λ (y : List ℕ). (scan_answer s c y b room).room) o ∙ sym (ap (room_handed s c (st.clients c) room) first))
      refl

  -- ---- a message to a node

  pub bring-honest-goes : (c i : ℕ) (room room' : List ℕ) (at end : ℕ) (a : Answer ℕ Refusal) (memory' after : List ℕ) (result : EventEnd)
      → honest i ≡ true
      → length_of (served a) ≤ 70250
      → FindsAt 2 c i h.parcels at end
      → served a ≡ (node_message s i (table_in s i memory) (body post at end) room).answer
      → PutBack memory (table_at s i) (table_in s i memory) (node_message s i (table_in s i memory) (body post at end) room).table memory'
      → room' ≡ (node_message s i (table_in s i memory) (body post at end) room).room
      → Serves 3 c i [] room' post used at end after a result
      → Goes s honest es (bring c i room) result memory' after room' []
  bring-honest-goes c i room room' at end a memory' after result t few f k p m w =
      let st = run s honest es (fresh s) in
      let key = found-key s 2 c i h.parcels used post at end h.listed f in
      let q = bodies 2 c i (f.before ++ f.rest) in
      let b = body post at end in
      let e = node_message s i (st.nodes i) b room in
      let first : st.to_node c i ≡ b ∷ q =
      h.under_way.to_node c i ∙ first_own 2 c i h.parcels at end f
      ∙ ap (λ (y : List ℕ). y ∷ q) (sym (found-body s 2 c i h.parcels used post at end h.listed f)) in
      let o = shown.nodes i (key-first s c i key) (key-node s 2 c i key) in
      goes_by (bring c i room) (keeps c i q e e.answer st) result memory' after room' [] (head_to_node s honest st c i room b q t first)
      (subst⁻¹ (λ (x : Bool). Brought s x i room (st.to_node c i) memory memory') t (subst⁻¹ (λ (y : List (List ℕ)). Brought s true i room y memory memory') first p))
      (keeps-outcome s h.parcels st post used h.listed h.under_way c i at end f room' after e
      (m ∙ ap (λ (y : List ℕ). (node_message s i y b room).room) o)
      (client-key s c i (key-client s 2 c i key) (key-first s c i key) (key-node s 2 c i key)) a result few
      (k ∙ ap (λ (y : List ℕ). (node_message s i y b room).answer) o) w)
      (m ∙ ap (λ (y : List ℕ). (node_message s i y b room).room) o ∙ sym (λ j. room_brought s (t j) i (st.nodes i) room (first j)))
      refl

  pub bring-dishonest-goes : (c i : ℕ) (room : List ℕ) (at end : ℕ) (after : List ℕ) (left : ℕ)
      → honest i ≡ false
      → FindsAt 2 c i h.parcels at end
      → Removed at end post used after left
      → Goes s honest es (bring c i room) (record { used = left; what = Happened.Taken }) memory after room []
  unfolding carry_out
  bring-dishonest-goes c i room at end after left t f d =
      let st = run s honest es (fresh s) in
      let q = bodies 2 c i (f.before ++ f.rest) in
      let b = f.parcel.bytes in
      let first : st.to_node c i ≡ b ∷ q = h.under_way.to_node c i ∙ first_own 2 c i h.parcels at end f in
      goes_by (bring c i room) (lost c i q st) (record { used = left; what = Happened.Taken }) memory after room []
      (ap (λ (y : List (List ℕ)). brought s honest c i room y st) first
      ∙ ap (λ (x : Bool). cond x (keeps c i q (node_message s i (st.nodes i) b room) (node_message s i (st.nodes i) b room).answer st) (lost c i q st)) t)
      (subst⁻¹ (λ (x : Bool). Brought s x i room (st.to_node c i) memory memory) t refl)
      (lost-outcome s h.parcels st post used h.listed h.under_way c i at end f after left d)
      (sym (λ j. room_brought s (t j) i (st.nodes i) room (first j)))
      refl

  -- ---- a message to a client

  pub deliver-goes : (i c : ℕ) (room out room' out' : List ℕ) (at end : ℕ) (a : Answer ClientAnswer Refusal) (memory' after : List ℕ) (result : EventEnd)
      → Sized s (answered a)
      → FindsAt 3 c i h.parcels at end
      → answered a ≡ (client_message s c i (record_in s c memory) (body post at end) room out).answer
      → PutBack memory (record_at s c) (record_in s c memory) (client_message s c i (record_in s c memory) (body post at end) room out).client memory'
      → room' ≡ (client_message s c i (record_in s c memory) (body post at end) room out).room
      → out' ≡ (client_message s c i (record_in s c memory) (body post at end) room out).out
      → Takes s c a room' post used at end after result
      → Goes s honest es (deliver i c room out) result memory' after room' out'
  deliver-goes i c room out room' out' at end a memory' after result z f k p m w' w =
      let st = run s honest es (fresh s) in
      let u = h.under_way in
      let l = f.before ++ f.rest in
      let q = bodies 3 c i l in
      let b = body post at end in
      let e = client_message s c i (st.clients c) b room out in
      let first : st.to_client i c ≡ b ∷ q =
      u.to_client i c ∙ first_own 3 c i h.parcels at end f
      ∙ ap (λ (y : List ℕ). y ∷ q) (sym (found-body s 3 c i h.parcels used post at end h.listed f)) in
      let o = shown.clients c (found-client 3 c i at end f) in
      goes_by (deliver i c room out) (told s c i b (upd₂ st.to_client i c q) e st) result memory' after room' out' (head_to_client s honest st i c room out b q first)
      (subst⁻¹ (λ (y : List (List ℕ)). Delivered s c i room out y memory memory') first p)
      (takes-outcome s h.parcels st post used h.listed u c a room' after e _ _
      (k ∙ ap (λ (y : List ℕ). (client_message s c i y b room out).answer) o) (m ∙ ap (λ (y : List ℕ). (client_message s c i y b room out).room) o)
      (sent-proper s ok c room' (found-client 3 c i at end f) (answered a) z) 3 i at end f st.returns (upd₂ st.to_client i c q) result
      (λ d. u.calls d ∙ ap (map call_of) (other-kind 3 c i h.parcels at end f 0 d 0 (λ z. omega arith)))
      (λ d. u.returns d ∙ ap (map return_of) (other-kind 3 c i h.parcels at end f 1 d 0 (λ z. omega arith)))
      (λ d j. u.to_node d j ∙ other-kind 3 c i h.parcels at end f 2 d j (λ z. omega arith))
      (two_way st.to_client (λ j d. bodies 3 d j l) i c q refl (λ j d y. u.to_client j d ∙ other-two 3 c i h.parcels at end f 3 d j (λ z x. y x z)))
      w)
      (m ∙ ap (λ (y : List ℕ). (client_message s c i y b room out).room) o ∙ sym (ap (room_delivered s i c (st.clients c) room out) first))
      (w' ∙ ap (λ (y : List ℕ). (client_message s c i y b room out).out) o ∙ sym (ap (out_delivered s i c (st.clients c) room out) first))

  -- ---- dishonest bytes

  pub lie-goes : (i c : ℕ) (bytes room out room' out' : List ℕ) (a : Answer ClientAnswer Refusal) (memory' after : List ℕ) (result : EventEnd)
      → honest i ≡ false
      → c < s.m → Sized s (answered a)
      → answered a ≡ (client_message s c i (record_in s c memory) bytes room out).answer
      → PutBack memory (record_at s c) (record_in s c memory) (client_message s c i (record_in s c memory) bytes room out).client memory'
      → room' ≡ (client_message s c i (record_in s c memory) bytes room out).room
      → out' ≡ (client_message s c i (record_in s c memory) bytes room out).out
      → Sends s c a room' post used after result
      → Goes s honest es (lie i c bytes room out) result memory' after room' out'
  unfolding carry_out
  lie-goes i c bytes room out room' out' a memory' after result t v z k p m w' w =
      let st = run s honest es (fresh s) in
      let e = client_message s c i (st.clients c) bytes room out in
      let o = shown.clients c v in
      goes_by (lie i c bytes room out) (told s c i bytes st.to_client e st) result memory' after room' out'
      (ap (λ (x : Bool). cond x (stays nothing (tick st.history) st) (told s c i bytes st.to_client e st)) t)
      (subst⁻¹ (λ (x : Bool). Lied s x c i bytes room out memory memory') t p)
      (sends-outcome s h.parcels st post used h.listed h.under_way c a room' after e _ _
      (k ∙ ap (λ (y : List ℕ). (client_message s c i y bytes room out).answer) o) (m ∙ ap (λ (y : List ℕ). (client_message s c i y bytes room out).room) o)
      (sent-proper s ok c room' v (answered a) z) result w)
      (m ∙ ap (λ (y : List ℕ). (client_message s c i y bytes room out).room) o ∙ sym (ap (λ (x : Bool). cond x room e.room) t))
      (w' ∙ ap (λ (y : List ℕ). (client_message s c i y bytes room out).out) o ∙ sym (ap (λ (x : Bool). cond x out e.out) t))

  pub lie-honest : (i c : ℕ) (bytes room out : List ℕ) → honest i ≡ true
      → Goes s honest es (lie i c bytes room out) (record { used = used; what = Happened.Nothing }) memory post room out
  unfolding carry_out
  lie-honest i c bytes room out t =
      let st = run s honest es (fresh s) in
      let e = client_message s c i (st.clients c) bytes room out in
      goes_by (lie i c bytes room out) (stays nothing (tick st.history) st) (record { used = used; what = Happened.Nothing }) memory post room out
      (ap (λ (x : Bool). cond x (stays nothing (tick st.history) st) (told s c i bytes st.to_client e st)) t)
      (subst⁻¹ (λ (x : Bool). Lied s x c i bytes room out memory memory) t refl)
      (stays-outcome s h.parcels st post used h.listed h.under_way nothing (tick st.history) _ post refl refl refl)
      (sym (ap (λ (x : Bool). cond x room e.room) t))
      (sym (ap (λ (x : Bool). cond x out e.out) t))
