-- An event on memory of any bytes, damaged ones too, and on a list of parcels: what its party makes of its part of the memory, and what is then under way.
use Rattle.std.specs.Prelude.{◌≡◌, Bool, true, false, List, [], ◌∷◌, ◌++◌, ℕ, zero, suc, ◌+◌, ◌-◌, take, drop, Result, Ok, Err}
use Rattle.parties.specs.declared.Measures.{Measures}
use Rattle.parties.specs.protocol.ClientEvents.{ClientEnd, start_deposit, start_reading, update_answer, scan_answer, client_message}
use Rattle.parties.specs.protocol.DirectoryEvents.{directory_update, directory_scan}
use Rattle.parties.specs.protocol.NodeEvents.{node_message}
use Rattle.parties.specs.protocol.Run.{Event, deposit, reading, carry, hand, bring, deliver, lie, is_refused}
use Rattle.parties.specs.declared.Refusal.{Refusal}
use Rattle.parties.specs.Answer.{served}
use Rattle.parties.specs.declared.ClientAnswer.{ClientAnswer}
use Rattle.parties.specs.client.Answer.{answered}
use Rattle.title.specs.Memory.{directory_in, table_at, table_in, record_at, record_in, PutBack}
use Rattle.runs.specs.declared.answer.Happened.{Happened}
use Rattle.runs.specs.declared.answer.EventEnd.{EventEnd}
use Rattle.runs.specs.Parcels.{call_kind, return_kind, to_node_kind, to_client_kind, no_node, Stands, NoneStands, Appended, Removed}
use Rattle.runs.specs.Sent.{plain, filled, sent}

-- what is lent, before and after; where an event has no room or no output, [] stands for it
pub record Lent : Type 0 where
  pub memory : List ℕ
  pub post : List ℕ
  pub room : List ℕ
  pub out : List ℕ

-- the bytes of a parcel between two places
abbrev pub body : List ℕ → ℕ → ℕ → List ℕ
body post at end = take (end - (at + 7)) (drop (at + 7) post)

-- those behind its first
abbrev pub behind : List ℕ → ℕ → ℕ → List ℕ
behind post at end = take (end - (at + 8)) (drop (at + 8) post)

-- a call with fields, or an answer with rows
abbrev pub tagged : List ℕ → Bool
tagged [] = false
tagged (zero ∷ b) = false
tagged (suc t ∷ b) = true

-- a client's answer to a start or to dishonest bytes: unless it refuses, what it sends is put under way
pub data Sends (s : Measures) (c : ℕ) (a : Result ClientAnswer Refusal) (room post : List ℕ) (used : ℕ) (after : List ℕ) : EventEnd → Type 0 where
  refuses : is_refused (answered a) ≡ true → after ≡ post → Sends s c a room post used after (record { used = used; what = Happened.ByClient a })
  sends : (to : ℕ) → is_refused (answered a) ≡ false → Appended (sent s c (answered a) room) post used after to
      → Sends s c a room post used after (record { used = to; what = Happened.ByClient a })

-- its answer to a parcel, which is then no longer under way
pub data Takes (s : Measures) (c : ℕ) (a : Result ClientAnswer Refusal) (room post : List ℕ) (used at end : ℕ) (after : List ℕ) : EventEnd → Type 0 where
  refuses : is_refused (answered a) ≡ true → after ≡ post → Takes s c a room post used at end after (record { used = used; what = Happened.ByClient a })
  takes : (left to : ℕ) (mid : List ℕ) → is_refused (answered a) ≡ false → Removed at end post used mid left → Appended (sent s c (answered a) room) mid left after to
      → Takes s c a room post used at end after (record { used = to; what = Happened.ByClient a })

-- the directory's or a node's answer to a parcel: unless it refuses, it is under way in its place, as the last one
pub data Serves (kind c i : ℕ) (front room post : List ℕ) (used at end : ℕ) (after : List ℕ) : Result ℕ Refusal → EventEnd → Type 0 where
  refuses : (r : _) → after ≡ post → Serves kind c i front room post used at end after (Err r) (record { used = used; what = Happened.ByServer (Err r) })
  serves : (len left to : ℕ) (mid : List ℕ) → Removed at end post used mid left
      → Appended (record { kind = kind; client = c; node = i; bytes = front ++ take len room } ∷ []) mid left after to
      → Serves kind c i front room post used at end after (Ok len) (record { used = to; what = Happened.ByServer (Ok len) })

-- a client's event on its record: the answer, the record in its place, and the room
pub record AtClient (s : Measures) (c : ℕ) (a : Result ClientAnswer Refusal) (e : ClientEnd) (x y : Lent) : Type 0 where
  pub answer : answered a ≡ e.answer
  pub memory : PutBack x.memory (record_at s c) (record_in s c x.memory) e.client y.memory
  pub room : y.room ≡ e.room

-- an event that finds nothing to hand over, or for which an honest node would have to lie
abbrev pub Rests : Measures → (ℕ → Bool) → ℕ → List ℕ → Event → Type 0
Rests s honest used post (deposit c page) = ⊥
Rests s honest used post (reading c room) = ⊥
Rests s honest used post (carry c room) = NoneStands s call_kind c no_node used post
Rests s honest used post (hand c room) = NoneStands s return_kind c no_node used post
Rests s honest used post (bring c i room) = NoneStands s to_node_kind c i used post
Rests s honest used post (deliver i c room out) = NoneStands s to_client_kind c i used post
Rests s honest used post (lie i c bytes room out) = honest i ≡ true

pub data Acts (s : Measures) (honest : ℕ → Bool) (used : ℕ) (x y : Lent) : Event → EventEnd → Type 0 where
  rests : (e : Event) → Rests s honest used x.post e → y ≡ x → Acts s honest used x y e (record { used = used; what = Happened.Nothing })
  deposits : (c : ℕ) (page : List ℕ) (a : Result ClientAnswer Refusal) (result : EventEnd) → AtClient s c a (start_deposit s c (record_in s c x.memory) page) x y
      → y.out ≡ x.out → Sends s c a y.room x.post used y.post result → Acts s honest used x y (deposit c page) result
  reads : (c : ℕ) (a : Result ClientAnswer Refusal) (result : EventEnd) → AtClient s c a (start_reading s c (record_in s c x.memory) x.room) x y
      → y.out ≡ x.out → Sends s c a y.room x.post used y.post result → Acts s honest used x y (reading c x.room) result
  updates : (c at end : ℕ) (a : Result ℕ Refusal) (result : EventEnd) → Stands s call_kind c no_node used x.post at end → tagged (body x.post at end) ≡ true
      → served a ≡ (directory_update s c (directory_in s x.memory) (behind x.post at end)).answer
      → PutBack x.memory 0 (directory_in s x.memory) (directory_update s c (directory_in s x.memory) (behind x.post at end)).table y.memory
      → y.room ≡ x.room → y.out ≡ x.out → Serves return_kind c no_node (plain ∷ []) [] x.post used at end y.post a result → Acts s honest used x y (carry c x.room) result
  scans : (c at end : ℕ) (a : Result ℕ Refusal) (result : EventEnd) → Stands s call_kind c no_node used x.post at end → tagged (body x.post at end) ≡ false
      → served a ≡ (directory_scan s (directory_in s x.memory) x.room).answer → y.memory ≡ x.memory
      → y.room ≡ (directory_scan s (directory_in s x.memory) x.room).room → y.out ≡ x.out
      → Serves return_kind c no_node (filled ∷ []) y.room x.post used at end y.post a result → Acts s honest used x y (carry c x.room) result
  acknowledges : (c at end : ℕ) (a : Result ClientAnswer Refusal) (result : EventEnd) → Stands s return_kind c no_node used x.post at end → tagged (body x.post at end) ≡ false
      → AtClient s c a (update_answer s c (record_in s c x.memory) x.room) x y
      → y.out ≡ x.out → Takes s c a y.room x.post used at end y.post result → Acts s honest used x y (hand c x.room) result
  shows : (c at end : ℕ) (a : Result ClientAnswer Refusal) (result : EventEnd) → Stands s return_kind c no_node used x.post at end → tagged (body x.post at end) ≡ true
      → AtClient s c a (scan_answer s c (record_in s c x.memory) (behind x.post at end) x.room) x y
      → y.out ≡ x.out → Takes s c a y.room x.post used at end y.post result → Acts s honest used x y (hand c x.room) result
  brings : (c i at end : ℕ) (a : Result ℕ Refusal) (result : EventEnd) → honest i ≡ true → Stands s to_node_kind c i used x.post at end
      → served a ≡ (node_message s i (table_in s i x.memory) (body x.post at end) x.room).answer
      → PutBack x.memory (table_at s i) (table_in s i x.memory) (node_message s i (table_in s i x.memory) (body x.post at end) x.room).table y.memory
      → y.room ≡ (node_message s i (table_in s i x.memory) (body x.post at end) x.room).room → y.out ≡ x.out
      → Serves to_client_kind c i [] y.room x.post used at end y.post a result → Acts s honest used x y (bring c i x.room) result
  loses : (c i at end left : ℕ) → honest i ≡ false → Stands s to_node_kind c i used x.post at end → y.memory ≡ x.memory → y.room ≡ x.room → y.out ≡ x.out
      → Removed at end x.post used y.post left → Acts s honest used x y (bring c i x.room) (record { used = left; what = Happened.Taken })
  delivers : (i c at end : ℕ) (a : Result ClientAnswer Refusal) (result : EventEnd) → Stands s to_client_kind c i used x.post at end
      → AtClient s c a (client_message s c i (record_in s c x.memory) (body x.post at end) x.room x.out) x y
      → y.out ≡ (client_message s c i (record_in s c x.memory) (body x.post at end) x.room x.out).out
      → Takes s c a y.room x.post used at end y.post result → Acts s honest used x y (deliver i c x.room x.out) result
  lies : (i c : ℕ) (bytes : List ℕ) (a : Result ClientAnswer Refusal) (result : EventEnd) → honest i ≡ false
      → AtClient s c a (client_message s c i (record_in s c x.memory) bytes x.room x.out) x y
      → y.out ≡ (client_message s c i (record_in s c x.memory) bytes x.room x.out).out
      → Sends s c a y.room x.post used y.post result → Acts s honest used x y (lie i c bytes x.room x.out) result
