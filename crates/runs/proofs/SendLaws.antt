-- Laws of what a client's answer sends: its call, its message to a node, and the messages to all nodes.
use mathlib.Core.Path.{◌≡◌, refl, sym, ap, ◌∙◌}
use mathlib.Core.Bool.{Bool, true, false, cond}
use mathlib.Core.List.{List, [], ◌∷◌, ◌++◌}
use mathlib.Core.Logic.{◌≢◌}
use mathlib.Core.Option.{Option, some, none}
use Prim.Native.Nat.{ℕ, zero, suc, ◌+◌, ◌-◌, ◌*◌, ◌<◌, ◌≤◌, min}
use native.Mathlib.Nat.{mul-le-mul, suc-mul, mul-le-mul_right}
use native.Mathlib.Numerals.{add-one}
use native.Mathlib.Decide.{dec_lt}
use native.Mathlib.Omega.{arith}
use lib.ListN.{length, take, drop, length-append, length-take, length-drop}
use lib.Seq.{take_all}
use Rattle.std.specs.Prelude.{Result, Ok, Err}
use Rattle.std.specs.Prelude.{nat_lt, ◌==◌}
use Rattle.std.specs.Ordering.{ord_min, nat_cmp, is_lt}
use Rattle.std.specs.declared.cmp.Ordering.TheVariants.{Less, Equal, Greater}
use Rattle.std.proofs.lemmas.Bool.{ltb-true, ltb-false}
use Rattle.parties.specs.Sizes.{Sized}
use Rattle.parties.specs.declared.Measures.{Measures}
use Rattle.parties.specs.declared.Version.{Version}
use Rattle.parties.specs.protocol.Measures.{passes, row_size}
use Rattle.parties.specs.protocol.Nodes.{stands}
use Rattle.parties.specs.protocol.Format.{write_many}
use Rattle.parties.specs.protocol.Answer.{ClientAnswer as Answer, refused, waits, scan, update, stores, requests, deposited, empty, page, spent, failed}
use Rattle.parties.specs.protocol.ClientEvents.{room_size, message_to}
use Rattle.parties.proofs.protocol.formats.MeasureLaws.{passed}
use Rattle.parties.specs.declared.ClientAnswer.{ClientAnswer}
use Rattle.parties.specs.declared.Refusal.{Refusal}
use Rattle.parties.specs.client.Answer.{answered}
use Rattle.parties.proofs.records.SpliceLaws.{many-append}
use Rattle.runs.specs.Parcels.{Parcel, write_parcel, write_parcels, Appended}
use Rattle.runs.specs.Sent.{call, to_node, call_by, message_in, messages_by, longest_call, longest_message, needed}
use Rattle.runs.proofs.PostLaws.{length_one, appended_none, appended_more}
use Rattle.runs.proofs.SentLaws.{Short, message_short, piece-within, row_within}

pub as_sent : {p q : List Parcel} {post : List ℕ} {used : ℕ} {after : List ℕ} {r : ℕ} → p ≡ q → Appended p post used after r → Appended q post used after r
as_sent e x = rw e at x

-- ---- parts of a room that may be too short

-- the smaller of two numbers, as the library finds it
pub smaller : (n m r : ℕ) → r ≡ ord_min nat_cmp n m → r ≡ min n m
smaller n m r e = e ∙ go (nat_lt m n) refl
  where
    less : (b : Bool) → is_lt (cond b Less (cond (m == n) Equal Greater)) ≡ b
    less true = refl
    less false = other (m == n)
      where
        other : (b : Bool) → is_lt (cond b Equal Greater) ≡ false
        other true = refl
        other false = refl

    go : (b : Bool) → nat_lt m n ≡ b → ord_min nat_cmp n m ≡ min n m
    go true h = rw (less (nat_lt m n)) (rw h (let k : m < n = ltb-true m n h in omega arith))
    go false h = rw (less (nat_lt m n)) (rw h (let k : n ≤ m = ltb-false m n h in omega arith))

pub least_taken : (n m : ℕ) (l : List ℕ) → m ≡ min n (length l) → take m l ≡ take n l
least_taken n m l e = go (dec_lt n (length l))
  where
    go : Dec (n < length l) → take m l ≡ take n l
    go (yes h) = let z : m ≡ n = omega arith in ap (λ (x : ℕ). take x l) z
    go (no h) = take_all m l (omega arith) ∙ sym (take_all n l (omega arith))

drop_all : (n : ℕ) (l : List ℕ) → length l ≤ n → drop n l ≡ []
drop_all zero [] h = refl
drop_all zero (x ∷ l) h = absurd (omega arith)
drop_all (suc n) [] h = refl
drop_all (suc n) (x ∷ l) h = drop_all n l (omega arith)

pub least_dropped : (n m : ℕ) (l : List ℕ) → m ≡ min n (length l) → drop m l ≡ drop n l
least_dropped n m l e = go (dec_lt n (length l))
  where
    go : Dec (n < length l) → drop m l ≡ drop n l
    go (yes h) = let z : m ≡ n = omega arith in ap (λ (x : ℕ). drop x l) z
    go (no h) = drop_all m l (omega arith) ∙ sym (drop_all n l (omega arith))

-- n bytes from a place
pub least_part : (room : List ℕ) (at n from m : ℕ) → from ≡ min at (length room) → m ≡ min n (length room - from)
    → take (from + m - from) (drop from room) ≡ take n (drop at room)
least_part room at n from m e f =
    let z : from + m - from ≡ m = omega arith in
    ap (λ (x : ℕ). take x (drop from room)) z
    ∙ least_taken n m (drop from room) (f ∙ ap (min n) (sym (length-drop from room)))
    ∙ ap (take n) (least_dropped at from room e)

-- a message of two parts of a room, for a piece of so many bytes
pub parts_fit : (s : Measures) (room : List ℕ) (front from m len : ℕ) → passes s ≡ true → front ≤ 6 → m ≤ len → len ≤ s.f
    → length (take front room) + length (take (from + m - from) (drop from room)) ≤ room_size s
parts_fit s room front from m len ok h k l =
    omega (arith, length-take front room, length-take (from + m - from) (drop from room), piece-within s ok)

-- what an answer says of its lengths
pub sized-update : (s : Measures) (a : ClientAnswer) (len : ℕ) → Sized s (answered (Ok a)) → a ≡ ClientAnswer.Update len → len ≤ row_size s
sized-update s a len z e = rw e at z

pub sized-stores : (s : Measures) (a : ClientAnswer) (v : Version) (len : ℕ) → Sized s (answered (Ok a)) → a ≡ ClientAnswer.Stores v len → len ≤ s.f
sized-stores s a v len z e = rw e at z

pub sized-deposited : (s : Measures) (a : ClientAnswer) (v : Version) (len : ℕ) → Sized s (answered (Ok a)) → a ≡ ClientAnswer.Deposited v len → len ≤ row_size s
sized-deposited s a v len z e = rw e at z

-- ---- a call

-- the answers that are no call
pub no_call : (c : ℕ) (a : Result ClientAnswer Refusal) (room : List ℕ) → a ≢ Ok ClientAnswer.Scan → ((len : ℕ) → a ≢ Ok (ClientAnswer.Update len))
    → [] ≡ call_by c (answered a) room
no_call c (Err r) room k u = refl
no_call c (Ok ClientAnswer.Waits) room k u = refl
no_call c (Ok ClientAnswer.Scan) room k u = absurd (k refl)
no_call c (Ok (ClientAnswer.Update len)) room k u = absurd (u len refl)
no_call c (Ok (ClientAnswer.Stores v len)) room k u = refl
no_call c (Ok (ClientAnswer.Requests v nodes)) room k u = refl
no_call c (Ok (ClientAnswer.Deposited v len)) room k u = refl
no_call c (Ok ClientAnswer.Empty) room k u = refl
no_call c (Ok (ClientAnswer.Page v len)) room k u = refl
no_call c (Ok ClientAnswer.Spent) room k u = refl
no_call c (Ok ClientAnswer.Failed) room k u = refl

abbrev answer_in : Result ClientAnswer Refusal → ClientAnswer
answer_in (Ok a) = a
answer_in (Err r) = ClientAnswer.Waits

pub ok_same : (a b : ClientAnswer) → ◌≡◌ {A = Result ClientAnswer Refusal} (Ok a) (Ok b) → a ≡ b
ok_same a b e = ap answer_in e

-- ---- a message

module _ (s : Measures) (c i : ℕ) (a : ClientAnswer) (room : List ℕ) where
  pub stores-sent : (v : Version) (len front from m : ℕ) → a ≡ ClientAnswer.Stores v len → front ≡ min 6 (length room)
      → from ≡ min (6 + (i - 1) * s.f) (length room) → m ≡ min len (length room - from)
      → to_node c i (take front room ++ take (from + m - from) (drop from room)) ∷ [] ≡ message_in c i (message_to s (answered (Ok a)) room i)
  stores-sent v len front from m e f g h =
      rw e (λ j. to_node c i (least_taken 6 front room f j ++ least_part room (6 + (i - 1) * s.f) len from m g h j) ∷ [])

  pub no_request : (v : Version) (nodes : ℕ) (b : Bool) → a ≡ ClientAnswer.Requests v nodes → b ≡ stands nodes i → b ≡ false
      → [] ≡ message_in c i (message_to s (answered (Ok a)) room i)
  no_request v nodes b e g t = rw (e, ← g, t) refl

-- the answers with no message
pub no_message : (s : Measures) (c i : ℕ) (a : Result ClientAnswer Refusal) (room : List ℕ)
    → ((v : Version) (len : ℕ) → a ≢ Ok (ClientAnswer.Stores v len)) → ((v : Version) (nodes : ℕ) → a ≢ Ok (ClientAnswer.Requests v nodes))
    → ((v : Version) (len : ℕ) → a ≢ Ok (ClientAnswer.Deposited v len)) → [] ≡ message_in c i (message_to s (answered a) room i)
no_message s c i (Err r) room k q d = refl
no_message s c i (Ok ClientAnswer.Waits) room k q d = refl
no_message s c i (Ok ClientAnswer.Scan) room k q d = refl
no_message s c i (Ok (ClientAnswer.Update len)) room k q d = refl
no_message s c i (Ok (ClientAnswer.Stores v len)) room k q d = absurd (k v len refl)
no_message s c i (Ok (ClientAnswer.Requests v nodes)) room k q d = absurd (q v nodes refl)
no_message s c i (Ok (ClientAnswer.Deposited v len)) room k q d = absurd (d v len refl)
no_message s c i (Ok ClientAnswer.Empty) room k q d = refl
no_message s c i (Ok (ClientAnswer.Page v len)) room k q d = refl
no_message s c i (Ok ClientAnswer.Spent) room k q d = refl
no_message s c i (Ok ClientAnswer.Failed) room k q d = refl

-- ---- how long they are

none-short : (n : ℕ) → length (write_parcels []) ≤ n
unfolding write_many
none-short n = omega arith

module _ (s : Measures) (ok : passes s ≡ true) (c : ℕ) (a : Answer) (z : Sized s a) (room : List ℕ) where
  pub call-short : length (write_parcels (call_by c a room)) ≤ longest_call s
  call-short = go a z
    where
      go : (a : Answer) → Sized s a → length (write_parcels (call_by c a room)) ≤ longest_call s
      go (refused n) z = none-short (longest_call s)
      go waits z = none-short (longest_call s)
      go scan z = omega (arith, length_one (call c (0 ∷ [])))
      go (update len) z = omega (arith, length_one (call c (1 ∷ take len room)), length-take len room, row_within s ok)
      go (stores v len) z = none-short (longest_call s)
      go (requests v nodes) z = none-short (longest_call s)
      go (deposited v len) z = none-short (longest_call s)
      go empty z = none-short (longest_call s)
      go (page v len) z = none-short (longest_call s)
      go spent z = none-short (longest_call s)
      go failed z = none-short (longest_call s)

  one_short : (i : ℕ) (m : Option (List ℕ)) → Short s m → length (write_parcels (message_in c i m)) ≤ longest_message s
  one_short i none h = none-short (longest_message s)
  one_short i (some m) h = omega (arith, length_one (to_node c i m))

  pub messages_short : (j : ℕ) → length (write_parcels (messages_by s c a room j)) ≤ j * longest_message s
  unfolding messages_by
  messages_short zero = none-short (0 * longest_message s)
  messages_short (suc j) =
      let p = messages_by s c a room j in
      let q = message_in c (suc j) (message_to s a room (suc j)) in
      omega (
        arith,
        messages_short j,
        one_short (suc j) (message_to s a room (suc j)) (message_short s ok a z room (suc j)),
        ap length (many-append write_parcel p q),
        length-append (write_parcels p) (write_parcels q),
        suc-mul j (longest_message s),
      )

-- ---- messages to the nodes one after the other

-- where node i's piece stands is a small number
pub area_small : (s : Measures) → passes s ≡ true → (i : ℕ) → i ≤ s.n → (i ≤ 16) × ((i - 1) * s.f ≤ 65536)
area_small s h i l =
    let p = passed s h in
    let j : i - 1 ≤ 16 = omega (arith, p.nodes) in
    let k : (i - 1) * s.f ≤ 16 * 4096 = mul-le-mul j p.bytes.1 in (omega (arith, p.nodes), omega arith)

module _ (s : Measures) (c : ℕ) (a : Answer) (room post : List ℕ) (used : ℕ) where
  pub messages_none : used ≤ length post → Appended (messages_by s c a room 0) post used post used
  unfolding messages_by
  messages_none h = appended_none post used h

  module _ (i : ℕ) (mid : List ℕ) (at : ℕ) (x : Appended (messages_by s c a room i) post used mid at) where
    -- there is room for one more
    pub messages_room : passes s ≡ true → Sized s a → i < s.n → used + s.n * longest_message s ≤ length post → at + longest_message s ≤ length mid
    messages_room ok z l h =
        let k : suc i * longest_message s ≤ s.n * longest_message s = mul-le-mul_right (longest_message s) l in
        omega (arith, messages_short s ok c a z room i, x.count, x.long, suc-mul i (longest_message s))

    pub messages_more : (after : List ℕ) (r : ℕ) → Appended (message_in c (i + 1) (message_to s a room (i + 1))) mid at after r
        → Appended (messages_by s c a room (i + 1)) post used after r
    unfolding messages_by
    messages_more after r y =
        rw add-one
        (appended_more (messages_by s c a room i) (message_in c (suc i) (message_to s a room (suc i))) post used mid at after r x (rw add-one at y))

    pub messages_all : i ≤ s.n → s.n ≤ i → Appended (messages_by s c a room s.n) post used mid at
    messages_all l h = let e : i ≡ s.n = omega arith in rw e at x

  -- after a call there is room for the messages
  pub call-room : (mid : List ℕ) (at : ℕ) → passes s ≡ true → Sized s a → Appended (call_by c a room) post used mid at → used + needed s ≤ length post
      → at + s.n * longest_message s ≤ length mid
  call-room mid at ok z x h = omega (arith, call-short s ok c a z room, x.count, x.long)
