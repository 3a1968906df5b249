-- The parts of an event, as the code carries them out.
use Rattle.std.specs.Prelude.{◌≡◌, Bool, true, false, cond, ◌&&◌, ◌⊎◌, List, ℕ, ◌+◌, ◌<◌, leb, length, Option, Some, None, Result, Ok, Err}
use Rattle.std.specs.declared.ops.Range.{Range}
use Rattle.parties.specs.declared.Measures.{Measures}
use Rattle.parties.specs.declared.Refusal.{Refusal}
use Rattle.parties.specs.protocol.Measures.{passes}
use Rattle.parties.specs.protocol.Run.{Event}
use Rattle.parties.specs.records.Answer.{number}
use Rattle.title.specs.Memory.{memory_size}
use Rattle.runs.specs.declared.answer.Happened.{Happened}
use Rattle.runs.specs.declared.answer.EventEnd.{EventEnd}
use Rattle.runs.specs.Parcels.{proper_key, to_client_kind, IsList, Broken, Stands, NoneStands}
use Rattle.runs.specs.Sent.{needed}
use Rattle.runs.specs.UnderWay.{After}
use Rattle.runs.specs.Acts.{Lent, Acts}
use Rattle.runs.specs.Happens.{PostRoomy, Goes}

-- measures and the slice of parcels
pub data Cramped (s : Measures) (post used : ℕ) : ℕ → Type 0 where
  measures : passes s ≡ false → Cramped s post used 1
  short : passes s ≡ true → post < used + needed s → Cramped s post used 2

abbrev pub Readies : {A : Type 0} → Measures → ℕ → ℕ → Result A Refusal → Type 0
Readies s post used (Ok x) = PostRoomy s post used
Readies s post used (Err r) = Cramped s post used (number r)

-- then numbers, and the list
pub data Stopped (s : Measures) (kind c i : ℕ) (post : List ℕ) (used : ℕ) : ℕ → Type 0 where
  cramped : (n : ℕ) → Cramped s (length post) used n → Stopped s kind c i post used n
  outside : PostRoomy s (length post) used → proper_key s kind c i ≡ false → Stopped s kind c i post used 3
  form : PostRoomy s (length post) used → proper_key s kind c i ≡ true → Broken s used post → Stopped s kind c i post used 4

-- then what is under way
pub record Waiting (s : Measures) (kind c i : ℕ) (post : List ℕ) (used at end : ℕ) : Type 0 where
  pub roomy : PostRoomy s (length post) used
  pub key : proper_key s kind c i ≡ true
  pub stands : Stands s kind c i used post at end

pub record Vacant (s : Measures) (kind c i : ℕ) (post : List ℕ) (used : ℕ) : Type 0 where
  pub roomy : PostRoomy s (length post) used
  pub key : proper_key s kind c i ≡ true
  pub none : NoneStands s kind c i used post

abbrev pub Waits : Measures → ℕ → ℕ → ℕ → List ℕ → ℕ → Result (Option (Range ℕ)) Refusal → Type 0
Waits s kind c i post used (Ok (Some place)) = Waiting s kind c i post used place.start place.end
Waits s kind c i post used (Ok None) = Vacant s kind c i post used
Waits s kind c i post used (Err r) = Stopped s kind c i post used (number r)

-- an event that does not go on ends here, and nothing changes: refused, or nothing is under way
pub data Halted (s : Measures) (kind c i : ℕ) (post : List ℕ) (used : ℕ) : EventEnd → Type 0 where
  stopped : (r : Refusal) → Stopped s kind c i post used (number r) → Halted s kind c i post used (record { used = used; what = Happened.Refused r })
  vacant : Vacant s kind c i post used → Halted s kind c i post used (record { used = used; what = Happened.Nothing })

abbrev pub Aheads : Measures → ℕ → ℕ → ℕ → List ℕ → ℕ → Result (Range ℕ) EventEnd → Type 0
Aheads s kind c i post used (Ok place) = Waiting s kind c i post used place.start place.end
Aheads s kind c i post used (Err e) = Halted s kind c i post used e

-- 2, 3 or 4: memory and the other slices that a client wants, its number and a node's, else the list
abbrev pub lowest_of : Measures → ℕ → ℕ → ℕ → Bool → ℕ
lowest_of s c i memory enough = cond (leb (memory_size s) memory && enough) (cond (proper_key s to_client_kind c i) 4 3) 2

-- where a client is asked at once, its numbers and the list are looked at together: its own tests may come before both
pub data Uncleared (s : Measures) (c i memory : ℕ) (enough : Bool) (post : List ℕ) (used : ℕ) : EventEnd → Type 0 where
  cramped : (r : Refusal) → Cramped s (length post) used (number r) → Uncleared s c i memory enough post used (record { used = used; what = Happened.Refused r })
  late : (r : Refusal) → PostRoomy s (length post) used → (proper_key s to_client_kind c i ≡ false) ⊎ Broken s used post → number r ≡ lowest_of s c i memory enough
      → Uncleared s c i memory enough post used (record { used = used; what = Happened.Refused r })

abbrev pub Clears : {A : Type 0} → Measures → ℕ → ℕ → ℕ → Bool → List ℕ → ℕ → Result A Refusal → Type 0
Clears s c i memory enough post used (Ok x) = PostRoomy s (length post) used × (proper_key s to_client_kind c i ≡ true) × IsList s used post
Clears s c i memory enough post used (Err r) = Uncleared s c i memory enough post used (record { used = used; what = Happened.Refused r })

-- the parcel that was found is carried to where it goes, and this is the run's event
abbrev pub Carried : Measures → (ℕ → Bool) → Event → ℕ → Lent → Lent → EventEnd → Type 0
Carried s honest e used x y result =
    Acts s honest used x y e result × ((es : List Event) → After s honest es x.memory x.post used → Goes s honest es e result y.memory y.post y.room y.out)
