-- The oldest parcel of all, where every node is honest.
use Rattle.std.specs.Prelude.{◌≡◌, Bool, List, [], ℕ, ◌≤◌, length, get_or, Result, Ok, Err}
use Rattle.parties.specs.declared.Measures.{Measures}
use Rattle.parties.specs.protocol.Run.{carry, hand, bring, deliver}
use Rattle.parties.specs.records.Answer.{number}
use Rattle.parties.specs.declared.Refusal.{Refusal}
use Rattle.runs.specs.declared.parcels.Key.{Key}
use Rattle.runs.specs.declared.answer.Happened.{Happened}
use Rattle.runs.specs.declared.answer.EventEnd.{EventEnd}
use Rattle.runs.specs.Parcels.{kind_of, call_kind, return_kind, to_node_kind, to_client_kind, Broken}
use Rattle.runs.specs.Acts.{Lent}
use Rattle.runs.specs.Happens.{PostRoomy, Happens, honest_in}
use Rattle.runs.specs.Event.{Cramped}

-- every node is honest
abbrev pub honest_all : ℕ → Bool
honest_all = honest_in 0

-- the client and the node of the parcel in front
abbrev pub client_in : Lent → ℕ
client_in x = get_or x.post 1 0

abbrev pub node_in : Lent → ℕ
node_in x = get_or x.post 2 0

-- the key in front, or bytes that are no list of parcels
abbrev pub Fronts : Measures → List ℕ → ℕ → Result Key Refusal → Type 0
Fronts s post used (Ok key) = (7 ≤ used) × (get_or post 0 0 ≡ kind_of key.kind) × (key.client ≡ get_or post 1 0) × (key.node ≡ get_or post 2 0)
Fronts s post used (Err r) = (r ≡ Refusal.Form) × Broken s used post

-- where an event has no output, the one that is lent stays
abbrev pub without : Lent → Lent
without x = record { memory = x.memory; post = x.post; room = x.room; out = [] }

-- nor a room
abbrev pub alone : Lent → Lent
alone x = record { memory = x.memory; post = x.post; room = []; out = [] }

pub data Oldest (s : Measures) (used : ℕ) (x y : Lent) : EventEnd → Type 0 where
  cramped : (r : Refusal) → Cramped s (length x.post) used (number r) → y ≡ x → Oldest s used x y (record { used = used; what = Happened.Refused r })
  -- no parcel is under way
  none : PostRoomy s (length x.post) used → used ≡ 0 → y ≡ x → Oldest s used x y (record { used = used; what = Happened.Nothing })
  -- the bytes are no list of parcels, by the first one's heading
  form : PostRoomy s (length x.post) used → Broken s used x.post → y ≡ x → Oldest s used x y (record { used = used; what = Happened.Refused Refusal.Form })
  call : (result : EventEnd) → 7 ≤ used → get_or x.post 0 0 ≡ call_kind → y.out ≡ x.out
      → Happens s honest_all (carry (client_in x) x.room) used (without x) (without y) result → Oldest s used x y result
  return : (result : EventEnd) → 7 ≤ used → get_or x.post 0 0 ≡ return_kind → y.out ≡ x.out
      → Happens s honest_all (hand (client_in x) x.room) used (without x) (without y) result → Oldest s used x y result
  to_node : (result : EventEnd) → 7 ≤ used → get_or x.post 0 0 ≡ to_node_kind → y.out ≡ x.out
      → Happens s honest_all (bring (client_in x) (node_in x) x.room) used (without x) (without y) result → Oldest s used x y result
  to_client : (result : EventEnd) → 7 ≤ used → get_or x.post 0 0 ≡ to_client_kind
      → Happens s honest_all (deliver (node_in x) (client_in x) x.room x.out) used x y result → Oldest s used x y result
