-- What a client's answer sends, in parcels, is what the run puts under way: calls, and messages to the nodes.
use mathlib.Core.Path.{◌≡◌, refl, sym, ap, ◌∙◌}
use mathlib.Core.Bool.{Bool, true, false, cond, ◌&&◌, false≢true}
use mathlib.Core.List.{List, [], ◌∷◌, ◌++◌, append-nil, map}
use mathlib.Core.Option.{Option, some, none}
use Prim.Native.Nat.{ℕ, zero, suc, ◌+◌, ◌-◌, ◌*◌, ◌≤◌, ◌<◌}
use native.Mathlib.Omega.{arith}
use native.Mathlib.Decide.{ℕ_discrete}
use native.Mathlib.Nat.{mul-le-mul, mul-le-mul_right}
use borrow.Author.Tests.{leb-true, le-leb, lt-ltb}
use lib.Dec.{leb}
use lib.ListN.{length, take, drop, length-append, length-take}
use Rattle.parties.specs.Sizes.{Sized}
use Rattle.parties.specs.declared.Measures.{Measures}
use Rattle.parties.specs.protocol.Measures.{passes, row_size}
use Rattle.parties.specs.protocol.DirectoryEvents.{directory_size}
use Rattle.parties.specs.protocol.Nodes.{stands}
use Rattle.parties.specs.protocol.Answer.{ClientAnswer, refused, waits, scan, update, stores, requests, deposited, empty, page, spent, failed}
use Rattle.parties.specs.protocol.ClientEvents.{ClientEnd, room_size, message_to}
use Rattle.parties.specs.protocol.Run.{Call, called, sent_to, sends}
use Rattle.parties.proofs.protocol.formats.MeasureLaws.{passed}
use Rattle.parties.proofs.records.SizeLaws.{row_bound, table_bound}
use Rattle.title.proofs.PartLaws.{both_true}
use Rattle.runs.specs.Parcels.{Parcel, proper_key, proper_all, keyed, bodies}
use Rattle.runs.specs.Sent.{call, to_node, call_by, message_in, messages_by, sent}
use Rattle.runs.specs.UnderWay.{call_of}
use Rattle.runs.proofs.PostLaws.{bodies-append}
use Rattle.runs.proofs.ParcelLaws.{nothing_in, body-keyed, body-other, keyed_by, not_kind, not_client, not_node, proper-++, proper_by, proper_one}

abbrev in_list : Option (List ℕ) → List (List ℕ)
in_list none = []
in_list (some m) = m ∷ []

-- ---- what has another key is not among them

module _ (k c i : ℕ) where
  one_none : (x : Parcel) → keyed k c i x ≡ false → bodies k c i (x ∷ []) ≡ []
  unfolding bodies
  one_none x e = body-other k c i x [] e

  both-none : (p q : List Parcel) → bodies k c i p ≡ [] → bodies k c i q ≡ [] → bodies k c i (p ++ q) ≡ []
  both-none p q e f = bodies-append k c i p q ∙ (λ j. e j ++ f j)

  call_none : (b : ℕ) (a : ClientAnswer) (room : List ℕ) → ((x : List ℕ) → keyed k c i (call b x) ≡ false) → bodies k c i (call_by b a room) ≡ []
  call_none b (refused n) room e = nothing_in k c i
  call_none b waits room e = nothing_in k c i
  call_none b scan room e = one_none _ (e (0 ∷ []))
  call_none b (update len) room e = one_none _ (e (1 ∷ take len room))
  call_none b (stores v len) room e = nothing_in k c i
  call_none b (requests v nodes) room e = nothing_in k c i
  call_none b (deposited v len) room e = nothing_in k c i
  call_none b empty room e = nothing_in k c i
  call_none b (page v len) room e = nothing_in k c i
  call_none b spent room e = nothing_in k c i
  call_none b failed room e = nothing_in k c i

  message_none : (b j : ℕ) (m : Option (List ℕ)) → ((x : List ℕ) → keyed k c i (to_node b j x) ≡ false) → bodies k c i (message_in b j m) ≡ []
  message_none b j none e = nothing_in k c i
  message_none b j (some m) e = one_none _ (e m)

  messages_none : (s : Measures) (b : ℕ) (a : ClientAnswer) (room : List ℕ) (n : ℕ)
      → ((j : ℕ) → 1 ≤ j → j ≤ n → (x : List ℕ) → keyed k c i (to_node b j x) ≡ false) → bodies k c i (messages_by s b a room n) ≡ []
  unfolding messages_by
  messages_none s b a room zero e = nothing_in k c i
  messages_none s b a room (suc n) e =
      both-none (messages_by s b a room n) (message_in b (suc n) (message_to s a room (suc n)))
      (messages_none s b a room n (λ j lo up. e j lo (omega arith)))
      (message_none b (suc n) (message_to s a room (suc n)) (e (suc n) (omega arith) (omega arith)))

  sent-none : (s : Measures) (b : ℕ) (a : ClientAnswer) (room : List ℕ) → ((x : List ℕ) → keyed k c i (call b x) ≡ false)
      → ((j : ℕ) (x : List ℕ) → keyed k c i (to_node b j x) ≡ false) → bodies k c i (sent s b a room) ≡ []
  sent-none s b a room e f =
      both-none (call_by b a room) (messages_by s b a room s.n) (call_none b a room e) (messages_none s b a room s.n (λ j lo up. f j))

module _ (s : Measures) (c : ℕ) (a : ClientAnswer) (room : List ℕ) where
  -- no answers of calls and no messages to clients
  pub sent-returns : (d i : ℕ) → bodies 1 d i (sent s c a room) ≡ []
  sent-returns d i =
      sent-none 1 d i s c a room (λ x. not_kind 0 c 0 1 d i (call c x) (keyed_by 0 c 0 x) (λ z. omega arith))
      (λ j x. not_kind 2 c j 1 d i (to_node c j x) (keyed_by 2 c j x) (λ z. omega arith))

  pub sent_to_clients : (d i : ℕ) → bodies 3 d i (sent s c a room) ≡ []
  sent_to_clients d i =
      sent-none 3 d i s c a room (λ x. not_kind 0 c 0 3 d i (call c x) (keyed_by 0 c 0 x) (λ z. omega arith))
      (λ j x. not_kind 2 c j 3 d i (to_node c j x) (keyed_by 2 c j x) (λ z. omega arith))

  -- nothing of another client
  pub sent-other : (k d i : ℕ) → (c ≡ d → ⊥) → bodies k d i (sent s c a room) ≡ []
  sent-other k d i n =
      sent-none k d i s c a room (λ x. not_client 0 c 0 k d i (call c x) (keyed_by 0 c 0 x) n)
      (λ j x. not_client 2 c j k d i (to_node c j x) (keyed_by 2 c j x) n)

-- ---- calls

own_call : (c : ℕ) (x : List ℕ) → bodies 0 c 0 (call c x ∷ []) ≡ x ∷ []
unfolding bodies
own_call c x = body-keyed 0 c 0 (call c x) [] (keyed_by 0 c 0 x)

called_by : (c : ℕ) (a : ClientAnswer) (room : List ℕ) (q : List Call) → called a room q ≡ q ++ map call_of (bodies 0 c 0 (call_by c a room))
unfolding bodies
called_by c (refused n) room q = sym (append-nil q)
called_by c waits room q = sym (append-nil q)
called_by c scan room q = ap (λ (l : List (List ℕ)). q ++ map call_of l) (sym (own_call c (0 ∷ [])))
called_by c (update len) room q = ap (λ (l : List (List ℕ)). q ++ map call_of l) (sym (own_call c (1 ∷ take len room)))
called_by c (stores v len) room q = sym (append-nil q)
called_by c (requests v nodes) room q = sym (append-nil q)
called_by c (deposited v len) room q = sym (append-nil q)
called_by c empty room q = sym (append-nil q)
called_by c (page v len) room q = sym (append-nil q)
called_by c spent room q = sym (append-nil q)
called_by c failed room q = sym (append-nil q)

pub sent-calls : (s : Measures) (c : ℕ) (a : ClientAnswer) (room : List ℕ) (q : List Call)
    → called a room q ≡ q ++ map call_of (bodies 0 c 0 (sent s c a room))
sent-calls s c a room q =
    called_by c a room q
    ∙ ap (λ (l : List (List ℕ)). q ++ map call_of l)
    (sym (append-nil (bodies 0 c 0 (call_by c a room)))
    ∙ ap (λ (l : List (List ℕ)). bodies 0 c 0 (call_by c a room) ++ l)
    (sym (messages_none 0 c 0 s c a room s.n (λ j lo up x. not_kind 2 c j 0 c 0 (to_node c j x) (keyed_by 2 c j x) (λ z. omega arith))))
    ∙ sym (bodies-append 0 c 0 (call_by c a room) (messages_by s c a room s.n)))

-- ---- messages to the nodes

module _ (s : Measures) (c : ℕ) (a : ClientAnswer) (room : List ℕ) (i : ℕ) where
  own_message : (m : Option (List ℕ)) → bodies 2 c i (message_in c i m) ≡ in_list m
  unfolding bodies
  own_message none = refl
  own_message (some m) = body-keyed 2 c i (to_node c i m) [] (keyed_by 2 c i m)

  other_messages : (n : ℕ) → ((j : ℕ) → 1 ≤ j → j ≤ n → j ≡ i → ⊥) → bodies 2 c i (messages_by s c a room n) ≡ []
  other_messages n d = messages_none 2 c i s c a room n (λ j lo up x. not_node 2 c j 2 c i (to_node c j x) (keyed_by 2 c j x) (d j lo up))

  own_messages : (n : ℕ) → 1 ≤ i → i ≤ n → bodies 2 c i (messages_by s c a room n) ≡ in_list (message_to s a room i)
  unfolding messages_by
  own_messages zero lo up = absurd (omega arith)
  own_messages (suc n) lo up = go (own_messages n lo) (ℕ_discrete i (suc n))
    where
      go : (i ≤ n → bodies 2 c i (messages_by s c a room n) ≡ in_list (message_to s a room i)) → Dec (i ≡ suc n)
          → bodies 2 c i (messages_by s c a room n ++ message_in c (suc n) (message_to s a room (suc n))) ≡ in_list (message_to s a room i)
      go before (yes e) =
          rw (← e)
          (bodies-append 2 c i (messages_by s c a room n) (message_in c i (message_to s a room i))
          ∙ (λ j. other_messages n (λ j lo up z. omega arith) j ++ own_message (message_to s a room i) j))
      go before (no e) =
          let strange =
          message_none 2 c i c (suc n) (message_to s a room (suc n))
          (λ x. not_node 2 c (suc n) 2 c i (to_node c (suc n) x) (keyed_by 2 c (suc n) x) (λ z. e (sym z))) in
          bodies-append 2 c i (messages_by s c a room n) (message_in c (suc n) (message_to s a room (suc n)))
          ∙ (λ j. before (omega arith) j ++ strange j)
          ∙ append-nil (in_list (message_to s a room i))

  sent_messages : bodies 2 c i (sent s c a room) ≡ bodies 2 c i (messages_by s c a room s.n)
  sent_messages =
      bodies-append 2 c i (call_by c a room) (messages_by s c a room s.n)
      ∙ ap (λ (l : List (List ℕ)). l ++ bodies 2 c i (messages_by s c a room s.n))
      (call_none 2 c i c a room (λ x. not_kind 0 c 0 2 c i (call c x) (keyed_by 0 c 0 x) (λ z. omega arith)))

sent_in : (m : Option (List ℕ)) (q : List (List ℕ)) → sent_to m q ≡ q ++ in_list m
sent_in none q = sym (append-nil q)
sent_in (some m) q = refl

out_of_bounds : (i n : ℕ) → (leb 1 i && leb i n) ≡ false → 1 ≤ i → i ≤ n → ⊥
out_of_bounds i n e lo up = false≢true (sym e ∙ simp (le-leb 1 i lo, le-leb i n up))

pub sent_to_nodes : (s : Measures) (c : ℕ) (e : ClientEnd) (i : ℕ) (q : List (List ℕ))
    → sent_to (sends s e i) q ≡ q ++ bodies 2 c i (sent s c e.answer e.room)
sent_to_nodes s c e i q = go (leb 1 i && leb i s.n) refl
  where
    go : (b : Bool) → (leb 1 i && leb i s.n) ≡ b
        → sent_to (cond b (message_to s e.answer e.room i) none) q ≡ q ++ bodies 2 c i (sent s c e.answer e.room)
    go true t =
        let b = both_true (leb 1 i) (leb i s.n) t in
        let m = own_messages s c e.answer e.room i s.n (leb-true 1 i b.0) (leb-true i s.n b.1) in
        sent_in (message_to s e.answer e.room i) q
        ∙ ap (λ (l : List (List ℕ)). q ++ l) (sym (sent_messages s c e.answer e.room i ∙ m))
    go false t =
        let m = other_messages s c e.answer e.room i s.n (λ j lo up z. out_of_bounds i s.n t (omega arith) (omega arith)) in
        sym (append-nil q) ∙ ap (λ (l : List (List ℕ)). q ++ l) (sym (sent_messages s c e.answer e.room i ∙ m))

-- ---- how long they are

module _ (s : Measures) (ok : passes s ≡ true) where
  -- a piece is no longer than n of them, a row than m
  pub piece-within : s.f ≤ s.n * s.f
  piece-within = let p = passed s ok in omega (arith, mul-le-mul_right s.f p.nodes.0)

  pub row_within : row_size s ≤ directory_size s
  row_within = let p = passed s ok in omega (arith, mul-le-mul_right (row_size s) p.clients.0)

  pub room_small : room_size s ≤ 70250
  room_small = let p = passed s ok in omega (arith, row_bound s ok, mul-le-mul p.nodes.1 p.bytes.1)

  pub rows-small : directory_size s ≤ 37664
  rows-small = table_bound s ok

abbrev pub Short : Measures → Option (List ℕ) → Type 0
Short s none = Unit {0}
Short s (some m) = length m ≤ room_size s

pub message_short : (s : Measures) → passes s ≡ true → (a : ClientAnswer) → Sized s a → (room : List ℕ) (i : ℕ) → Short s (message_to s a room i)
message_short s ok (refused n) z room i = tt
message_short s ok waits z room i = tt
message_short s ok scan z room i = tt
message_short s ok (update len) z room i = tt
message_short s ok (stores v len) z room i =
    let at = 6 + (i - 1) * s.f in
    omega (arith, length-append (take 6 room) (take len (drop at room)), length-take 6 room, length-take len (drop at room), piece-within s ok)
message_short s ok (requests v nodes) z room i = go (stands nodes i)
  where
    go : (b : Bool) → Short s (cond b (some (take 6 room)) none)
    go true = omega (arith, length-take 6 room)
    go false = tt
message_short s ok (deposited v len) z room i = omega (arith, length-take len room)
message_short s ok empty z room i = tt
message_short s ok (page v len) z room i = tt
message_short s ok spent z room i = tt
message_short s ok failed z room i = tt

-- ---- they are proper

-- the keys of a client's calls and messages
pub call-key : (s : Measures) (c : ℕ) → c < s.m → proper_key s 0 c 0 ≡ true
unfolding proper_key
call-key s c l = rw (lt-ltb c s.m l) refl

pub return-key : (s : Measures) (c : ℕ) → c < s.m → proper_key s 1 c 0 ≡ true
unfolding proper_key
return-key s c l = rw (lt-ltb c s.m l) refl

pub node-key : (s : Measures) (c i : ℕ) → c < s.m → 1 ≤ i → i ≤ s.n → proper_key s 2 c i ≡ true
unfolding proper_key
node-key s c i l lo up = rw (lt-ltb c s.m l, le-leb 1 i lo, le-leb i s.n up) refl

pub client-key : (s : Measures) (c i : ℕ) → c < s.m → 1 ≤ i → i ≤ s.n → proper_key s 3 c i ≡ true
unfolding proper_key
client-key s c i l lo up = rw (lt-ltb c s.m l, le-leb 1 i lo, le-leb i s.n up) refl

module _ (s : Measures) (ok : passes s ≡ true) (c : ℕ) (room : List ℕ) (small : c < s.m) where
  nothing-proper : proper_all s [] ≡ true
  unfolding proper_all
  nothing-proper = refl

  call-proper : (a : ClientAnswer) → Sized s a → proper_all s (call_by c a room) ≡ true
  call-proper (refused n) z = nothing-proper
  call-proper waits z = nothing-proper
  call-proper scan z = proper_one s _ (proper_by s 0 c 0 (0 ∷ []) (call-key s c small) (omega arith))
  call-proper (update len) z =
      proper_one s _ (proper_by s 0 c 0 (1 ∷ take len room) (call-key s c small) (omega (arith, length-take len room, row_within s ok, rows-small s ok)))
  call-proper (stores v len) z = nothing-proper
  call-proper (requests v nodes) z = nothing-proper
  call-proper (deposited v len) z = nothing-proper
  call-proper empty z = nothing-proper
  call-proper (page v len) z = nothing-proper
  call-proper spent z = nothing-proper
  call-proper failed z = nothing-proper

  message_proper : (i : ℕ) → 1 ≤ i → i ≤ s.n → (m : Option (List ℕ)) → Short s m → proper_all s (message_in c i m) ≡ true
  message_proper i lo up none h = nothing-proper
  message_proper i lo up (some m) h = proper_one s _ (proper_by s 2 c i m (node-key s c i small lo up) (omega (arith, room_small s ok)))

  messages_proper : (a : ClientAnswer) → Sized s a → (n : ℕ) → n ≤ s.n → proper_all s (messages_by s c a room n) ≡ true
  unfolding messages_by
  messages_proper a z zero l = nothing-proper
  messages_proper a z (suc n) l =
      proper-++ s (messages_by s c a room n) (message_in c (suc n) (message_to s a room (suc n))) (messages_proper a z n (omega arith))
      (message_proper (suc n) (omega arith) l (message_to s a room (suc n)) (message_short s ok a z room (suc n)))

  pub sent-proper : (a : ClientAnswer) → Sized s a → proper_all s (sent s c a room) ≡ true
  sent-proper a z = proper-++ s (call_by c a room) (messages_by s c a room s.n) (call-proper a z) (messages_proper a z s.n (omega arith))
