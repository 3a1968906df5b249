-- The parts of an event: what its tests tell, and what its answers put under way.
use mathlib.Core.Path.{◌≡◌, refl, sym, ap, subst, ◌∙◌}
use mathlib.Core.Bool.{Bool, true, false, cond, not, ◌&&◌, false≢true}
use mathlib.Core.Logic.{◌⊎◌, inl, inr}
use mathlib.Core.List.{List, [], ◌∷◌, ◌++◌}
use Prim.Native.Nat.{ℕ, zero, suc, ◌+◌, ◌-◌, ◌*◌, ◌≤◌, ◌<◌, min}
use native.Mathlib.Decide.{dec_le}
use native.Mathlib.Omega.{arith}
use native.Mathlib.Nat.{mul-le-mul, mul-le-mul_right}
use borrow.Author.Tests.{le-leb, ne_eqb}
use lib.Dec.{leb, ltb, eqb}
use lib.ListN.{length, take, drop, get_or}
use lib.Seq.{drop-cons, get_or-drop, take_all, take-length}
use Rattle.std.specs.Prelude.{Option, Some, None, Result, Ok, Err, is_ok}
use Rattle.std.specs.declared.ops.Range.{Range}
use Rattle.parties.specs.declared.Measures.{Measures}
use Rattle.parties.specs.protocol.Measures.{passes}
use Rattle.parties.specs.Sizes.{sized, Sized}
use Rattle.parties.specs.protocol.Client.{client_size}
use Rattle.parties.specs.protocol.Answer.{Served, refuses, serves}
use Rattle.parties.specs.protocol.ClientEvents.{room_size, start_reading, update_answer, scan_answer, client_message}
use Rattle.parties.specs.protocol.DirectoryEvents.{directory_size, directory_update, directory_scan}
use Rattle.parties.specs.protocol.NodeEvents.{table_size, answer_size, node_message}
use Rattle.parties.proofs.protocol.events.SentLengths.{reading_bounded, updated_bounded, scanned_bounded, message_bounded, ServedIn, scan_bounded, update_bounded, node_bounded}
use Rattle.title.specs.Memory.{memory_size, part_of, table_at, table_in, record_at, record_in}
use Rattle.parties.proofs.protocol.formats.MeasureLaws.{passed}
use Rattle.parties.specs.protocol.Run.{Event, reading, lie, is_refused, length_of}
use Rattle.parties.specs.Answer.{served}
use Rattle.parties.specs.declared.ClientAnswer.{ClientAnswer}
use Rattle.parties.specs.client.Answer.{answered}
use Rattle.parties.specs.declared.Refusal.{Refusal}
use Rattle.runs.specs.declared.answer.Happened.{Happened}
use Rattle.runs.specs.declared.answer.EventEnd.{EventEnd}
use Rattle.runs.specs.Parcels.{call_kind, return_kind, to_node_kind, to_client_kind, no_node, proper_key, Broken, Looks, Sounds, ListFrom, Appended, Removed}
use Rattle.runs.specs.Sent.{longest_message, needed}
use Rattle.runs.specs.Acts.{Lent, body, tagged, Serves}
use Rattle.runs.specs.Event.{Cramped, Stopped, Waiting, Vacant, Waits, Halted, Uncleared, Carried}
use Rattle.runs.specs.Happens.{in_bounds, suffices, PostRoomy, Unready, Happens, lies_in, honest_in}
use Rattle.runs.proofs.SentLaws.{piece-within, room_small, rows-small}

-- ---- a client's answer

pub not_refused : (a : ClientAnswer) → is_refused (answered (Ok a)) ≡ false
not_refused ClientAnswer.Waits = refl
not_refused ClientAnswer.Scan = refl
not_refused (ClientAnswer.Update len) = refl
not_refused (ClientAnswer.Stores v len) = refl
not_refused (ClientAnswer.Requests v nodes) = refl
not_refused (ClientAnswer.Deposited v len) = refl
not_refused ClientAnswer.Empty = refl
not_refused (ClientAnswer.Page v len) = refl
not_refused ClientAnswer.Spent = refl
not_refused ClientAnswer.Failed = refl

pub refused_by : (a : Result ClientAnswer Refusal) (r : Refusal) → a ≡ Err r → is_refused (answered a) ≡ true
refused_by a r e = rw e refl

-- it is no refusal, and it is what is sent
pub answered_by : (a : Result ClientAnswer Refusal) (x : ClientAnswer) → a ≡ Ok x → (is_refused (answered a) ≡ false) × (answered a ≡ answered (Ok x))
answered_by a x e = rw e (not_refused x, refl)

-- ---- a parcel's first byte

pub tagged-empty : (post : List ℕ) (at end : ℕ) → end ≤ at + 7 → false ≡ tagged (body post at end)
tagged-empty post at end h =
    let e : end - (at + 7) ≡ 0 = omega arith in
    rw e

-- its value is no 0
tagged_cons : (x : ℕ) (l : List ℕ) → not (eqb x 0) ≡ tagged (x ∷ l)
tagged_cons zero l = refl
tagged_cons (suc x) l = let e : eqb (suc x) 0 ≡ false = ne_eqb (suc x) 0 (λ h. omega arith) in rw e

pub tagged_full : (post : List ℕ) (at end : ℕ) → at + 7 < end → end ≤ length post → not (eqb (get_or post (at + 7) 0) 0) ≡ tagged (body post at end)
tagged_full post at end h w =
    let e : end - (at + 7) ≡ suc (end - (at + 8)) = omega arith in
    let l : at + 7 < length post = omega arith in
    rw (e, drop-cons post (at + 7) 0 l) (tagged_cons (get_or post (at + 7) 0) (take (end - (at + 8)) (drop (suc (at + 7)) post)))

-- ---- sizes

pub sized_is : (s : Measures) (n : ℕ) → passes s ≡ true → sized s n ≡ n
sized_is s n ok = rw ok refl

pub needed-small : (s : Measures) → passes s ≡ true → needed s ≤ 1161784
needed-small s ok =
    let p = passed s ok in
    let n : s.n ≤ 16 = p.nodes.1 in
    let r : longest_message s ≤ 70257 = omega (arith, room_small s ok) in
    omega (arith, rows-small s ok, mul-le-mul n r)

-- ---- the directory's and a node's answers

-- there is room for an answer where the parcel that it answers was
pub appendable : (s : Measures) (a : Result ℕ Refusal) (len : ℕ) (front part room : List ℕ) (k : ℕ) (post : List ℕ) (used at end : ℕ) (mid : List ℕ) (left : ℕ)
    → PostRoomy s (length post) used × (8 + min (length_of (served a)) (length room) ≤ needed s) × (length front ≤ 1) × (at + 7 ≤ end) × (end ≤ used)
    → a ≡ Ok len → length part ≡ k → k ≡ min len (length room) → Removed at end post used mid left
    → (left + (7 + (length front + length part)) ≤ length mid) × (length front + length part ≤ 4294967295)
appendable s a len front part room k post used at end mid left p e l m r =
    let few : 8 + min len (length room) ≤ needed s = rw e at p.1 in
    let enough : used + needed s ≤ length post = p.0.enough in
    let x : length mid ≡ length post = r.long in
    let n : left + (end - at) ≡ used = r.count in
    (omega (arith, p.2), omega (arith, p.2, needed-small s p.0.measures))

take_least : (len : ℕ) (l : List ℕ) → take (min len (length l)) l ≡ take len l
take_least len l = go (dec_le len (length l))
  where
    go : Dec (len ≤ length l) → take (min len (length l)) l ≡ take len l
    go (yes h) = let e : min len (length l) ≡ len = omega arith in rw e
    go (no h) = let e : min len (length l) ≡ length l = omega arith in let n : length l ≤ len = omega arith in rw (e, take-length, take_all len l n)

pub serves-refused : (kind c i : ℕ) (front room post : List ℕ) (used at end : ℕ) (a : Result ℕ Refusal) (r : Refusal) → a ≡ Err r
    → Serves kind c i front room post used at end post a (record { used = used; what = Happened.ByServer a })
serves-refused kind c i front room post used at end a r e = rw e (Serves.refuses r refl)

pub serves-served : (kind c i : ℕ) (front room post : List ℕ) (used at end : ℕ) (after : List ℕ) (a : Result ℕ Refusal) (len : ℕ) → a ≡ Ok len
    → (part left to : ℕ) (mid : List ℕ) → part ≡ min len (length room) → Removed at end post used mid left
    → Appended (record { kind = kind; client = c; node = i; bytes = front ++ take part room } ∷ []) mid left after to
    → Serves kind c i front room post used at end after a (record { used = to; what = Happened.ByServer a })
serves-served kind c i front room post used at end after a len e part left to mid p r h =
    rw e (Serves.serves len left to mid r (rw (p, take_least len room) at h))

and_true_right : (b : Bool) → (b && true) ≡ b
and_true_right true = refl
and_true_right false = refl

-- ---- what is under way

pub looks_wait : (s : Measures) (kind c i : ℕ) (post : List ℕ) (used : ℕ) → PostRoomy s (length post) used → proper_key s kind c i ≡ true
    → (r : Result (Option (Range ℕ)) Refusal) → Looks s kind c i used post r → Waits s kind c i post used r
looks_wait s kind c i post used o k (Ok (Some place)) h = record { roomy = o; key = k; stands = h }
looks_wait s kind c i post used o k (Ok None) h = record { roomy = o; key = k; none = h }
looks_wait s kind c i post used o k (Err r) h = rw h.0 (Stopped.form o k h.1)

pub unsound : {A : Type 0} (s : Measures) (used : ℕ) (post : List ℕ) (at : ℕ) (r : Result A Refusal) → Sounds s used post at r → is_ok r ≡ false
    → ListFrom s used post at → ⊥
unsound s used post at (Ok x) h e = absurd (false≢true (sym e))
unsound s used post at (Err r) h e = h.1

-- ---- an event as a whole

module _ {s : Measures} {honest : ℕ → Bool} {e : Event} {used : ℕ} {x : Lent} where
  cramped-unready : {n : ℕ} → Cramped s (length x.post) used n → Unready s honest e used x n
  cramped-unready (Cramped.measures h) = Unready.measures h
  cramped-unready (Cramped.short h k) = Unready.short h k

  -- where a parcel is looked for: it ends here, or the parcel is carried
  module _ {kind c i : ℕ} (b : proper_key s kind c i ≡ in_bounds s e) where
    stopped-unready : suffices s honest e x ≡ true → {n : ℕ} → Stopped s kind c i x.post used n → Unready s honest e used x n
    stopped-unready k (Stopped.cramped m h) = cramped-unready h
    stopped-unready k (Stopped.outside r h) = Unready.outside r k (sym b ∙ h)
    stopped-unready k (Stopped.form r h f) = Unready.form r k (sym b ∙ h) f

    pub halted_happens : suffices s honest e x ≡ true
        → (Vacant s kind c i x.post used → Carried s honest e used x x (record { used = used; what = Happened.Nothing }))
        → {end : EventEnd} → Halted s kind c i x.post used end → Happens s honest e used x x end
    halted_happens k rests (Halted.stopped r h) = Happens.unready r (stopped-unready k h) refl
    halted_happens k rests (Halted.vacant v) =
        Happens.happens _ (record { roomy = v.roomy; bounds = sym b ∙ v.key; list = v.none.list }) refl (rests v).0 (rests v).1

    pub waiting_happens : {at end : ℕ} → Waiting s kind c i x.post used at end → {y : Lent} {result : EventEnd} → length y.post ≡ length x.post
        → Carried s honest e used x y result → Happens s honest e used x y result
    waiting_happens w l p = Happens.happens _ (record { roomy = w.roomy; bounds = sym b ∙ w.key; list = w.stands.list }) l p.0 p.1

  -- where a client is asked at once, and the event ends here
  late-unready : (all : Bool) (c i : ℕ) → PostRoomy s (length x.post) used → suffices s honest e x ≡ all → proper_key s to_client_kind c i ≡ in_bounds s e
      → (proper_key s to_client_kind c i ≡ false) ⊎ Broken s used x.post → (n : ℕ) → n ≡ cond all (cond (proper_key s to_client_kind c i) 4 3) 2
      → Unready s honest e used x n
  late-unready false c i r k b (inl h) n m = rw m (Unready.lacks r k (inl (sym b ∙ h)))
  late-unready false c i r k b (inr h) n m = rw m (Unready.lacks r k (inr h))
  late-unready true c i r k b late n m = go (proper_key s to_client_kind c i) refl late m
    where
      go : (y : Bool) → proper_key s to_client_kind c i ≡ y → (proper_key s to_client_kind c i ≡ false) ⊎ Broken s used x.post → n ≡ cond y 4 3 → Unready s honest e used x n
      go true q (inl h) m = absurd (false≢true (sym h ∙ q))
      go true q (inr h) m = rw m (Unready.form r k (sym b ∙ q) h)
      go false q late m = rw m (Unready.outside r k (sym b ∙ q))

  pub uncleared_happens : {c i : ℕ} {enough : Bool} → (passes s ≡ true → proper_key s to_client_kind c i ≡ in_bounds s e)
      → (passes s ≡ true → suffices s honest e x ≡ (leb (memory_size s) (length x.memory) && enough))
      → {end : EventEnd} → Uncleared s c i (length x.memory) enough x.post used end → Happens s honest e used x x end
  uncleared_happens b k (Uncleared.cramped r h) = Happens.unready r (cramped-unready h) refl
  uncleared_happens b k (Uncleared.late r p l n) = Happens.unready r (late-unready _ _ _ p (k p.measures) (b p.measures) l _ n) refl

-- the bounds of an event, by its key
pub call-bounds : (s : Measures) (c : ℕ) → proper_key s call_kind c no_node ≡ ltb c s.m
unfolding proper_key
call-bounds s c = and_true_right (ltb c s.m)

pub return-bounds : (s : Measures) (c : ℕ) → proper_key s return_kind c no_node ≡ ltb c s.m
unfolding proper_key
return-bounds s c = and_true_right (ltb c s.m)

pub node-bounds : (s : Measures) (c i : ℕ) → proper_key s to_node_kind c i ≡ (ltb c s.m && (leb 1 i && leb i s.n))
unfolding proper_key
node-bounds s c i = refl

pub client-bounds : (s : Measures) (c i : ℕ) → proper_key s to_client_kind c i ≡ (ltb c s.m && (leb 1 i && leb i s.n))
unfolding proper_key
client-bounds s c i = refl

-- a start has no node; the first one is always there
pub start_bounds : (s : Measures) → passes s ≡ true → (c : ℕ) → proper_key s to_client_kind c 1 ≡ ltb c s.m
unfolding proper_key
start_bounds s ok c = rw (le-leb 1 s.n (passed s ok).nodes.0) (and_true_right (ltb c s.m))

pub dishonest : (liars i : ℕ) (r : Bool) → r ≡ lies_in liars i → r ≡ true → honest_in liars i ≡ false
dishonest liars i r e t = ap not (sym e ∙ t)

pub honest_one : (liars i : ℕ) (r : Bool) → r ≡ lies_in liars i → r ≡ false → honest_in liars i ≡ true
honest_one liars i r e t = ap not (sym e ∙ t)

in_length : (a : Served) (n : ℕ) → ServedIn n a → length_of a ≤ n
in_length (refuses r) n h = omega arith
in_length (serves len) n h = h

-- ---- how long answers are, for memory of any bytes

taken-bytes : (n : ℕ) (b : List ℕ) → ((i : ℕ) → get_or b i 0 < 256) → (i : ℕ) → get_or (take n b) i 0 < 256
taken-bytes zero b h i = omega arith
taken-bytes (suc n) [] h i = omega arith
taken-bytes (suc n) (a ∷ b) h zero = h 0
taken-bytes (suc n) (a ∷ b) h (suc i) = taken-bytes n b (λ j. h (suc j)) i

module _ (s : Measures) (memory : List ℕ) (bytes : (i : ℕ) → get_or memory i 0 < 256) where
  part_bytes : (at size : ℕ) (i : ℕ) → get_or (part_of s at size memory) i 0 < 256
  unfolding part_of
  part_bytes at size i = go (leb (memory_size s) (length memory))
    where
      go : (b : Bool) → get_or (cond b (take size (drop at memory)) []) i 0 < 256
      go true = taken-bytes size (drop at memory) (λ j. rw (get_or-drop at memory j 0) (bytes (at + j))) i
      go false = omega arith

  module _ (c : ℕ) (a : Result ClientAnswer Refusal) where
    pub reading-sized : (room : List ℕ) → answered a ≡ (start_reading s c (record_in s c memory) room).answer → Sized s (answered a)
    reading-sized room e = subst (Sized s) (sym e) (reading_bounded s c (record_in s c memory) (part_bytes (record_at s c) (client_size s)) room)

    pub updated-sized : (room : List ℕ) → answered a ≡ (update_answer s c (record_in s c memory) room).answer → Sized s (answered a)
    updated-sized room e = subst (Sized s) (sym e) (updated_bounded s c (record_in s c memory) (part_bytes (record_at s c) (client_size s)) room)

    pub scanned-sized : (rows room : List ℕ) → answered a ≡ (scan_answer s c (record_in s c memory) rows room).answer → Sized s (answered a)
    scanned-sized rows room e = subst (Sized s) (sym e) (scanned_bounded s c (record_in s c memory) (part_bytes (record_at s c) (client_size s)) rows room)

    pub message_sized : (i : ℕ) (message room out : List ℕ) → answered a ≡ (client_message s c i (record_in s c memory) message room out).answer → Sized s (answered a)
    message_sized i message room out e =
        subst (Sized s) (sym e) (message_bounded s c (record_in s c memory) (part_bytes (record_at s c) (client_size s)) i message room out)

  pub node-length : (a : Result ℕ Refusal) (i : ℕ) (message room : List ℕ) → served a ≡ (node_message s i (table_in s i memory) message room).answer
      → length_of (served a) ≤ answer_size s
  node-length a i message room e = in_length (served a) (answer_size s) (subst (ServedIn (answer_size s)) (sym e) (node_bounded s i (table_in s i memory) message room (part_bytes (table_at s i) (table_size s))))

pub scan-length : (s : Measures) (a : Result ℕ Refusal) (table room : List ℕ) → served a ≡ (directory_scan s table room).answer → length_of (served a) ≤ directory_size s
scan-length s a table room e = in_length (served a) (directory_size s) (subst (ServedIn (directory_size s)) (sym e) (scan_bounded s table room))

pub update-length : (s : Measures) (a : Result ℕ Refusal) (c : ℕ) (table fields : List ℕ) → served a ≡ (directory_update s c table fields).answer → length_of (served a) ≤ 0
update-length s a c table fields e = in_length (served a) 0 (subst (ServedIn 0) (sym e) (update_bounded s c table fields))

-- there is room for a node's answer
pub answer-fits : (s : Measures) → passes s ≡ true → 8 + answer_size s ≤ needed s
answer-fits s ok =
    let p = passed s ok in
    omega (arith, piece-within s ok, mul-le-mul_right (longest_message s) p.nodes.0)

-- the slices that a client wants, as the code tests them
pub reading-suffices : (s : Measures) (honest : ℕ → Bool) (c : ℕ) (room : List ℕ) (x : Lent) (n : ℕ) → n ≡ room_size s
    → suffices s honest (reading c room) x ≡ (leb (memory_size s) (length x.memory) && leb n (length room))
reading-suffices s honest c room x n e = rw e refl

pub lie-suffices : (s : Measures) (honest : ℕ → Bool) (i c : ℕ) (bytes room out : List ℕ) (x : Lent) (b : Bool) → honest i ≡ false
    → b ≡ (leb (room_size s) (length room) && leb (s.k * s.f - 4) (length out))
    → suffices s honest (lie i c bytes room out) x ≡ (leb (memory_size s) (length x.memory) && b)
lie-suffices s honest i c bytes room out x b z e = rw (z, e) refl

pub lie-asks-none : (s : Measures) (honest : ℕ → Bool) (i c : ℕ) (bytes room out : List ℕ) (x : Lent) → honest i ≡ true
    → suffices s honest (lie i c bytes room out) x ≡ true
lie-asks-none s honest i c bytes room out x z = rw z refl

-- ---- numbers

pub some_used : (n : ℕ) → (n ≡ 0 → ⊥) → 0 < n
some_used zero h = absurd (h refl)
some_used (suc n) h = omega arith
