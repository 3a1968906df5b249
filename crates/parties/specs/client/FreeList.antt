-- A deposit's free list as the code builds it: versions ascending behind a tag byte at the front of a room.
use Rattle.std.specs.Prelude.{◌≡◌, Bool, true, false, List, ℕ, ◌+◌, ◌≤◌, length}
use Rattle.parties.specs.declared.Measures.{Measures}
use Rattle.parties.specs.declared.Version.{Version}
use Rattle.parties.specs.protocol.Format.{write_many}
use Rattle.parties.specs.protocol.Measures.{passes}
use Rattle.parties.specs.protocol.Pointer.{write_version}
use Rattle.parties.specs.protocol.Message.{ToNode, write_to_node}
use Rattle.parties.specs.protocol.Client.{Retained, read_retained}
use Rattle.parties.specs.protocol.ClientEvents.{lay}
use Rattle.parties.specs.protocol.Deposit.{insert, free_list}
use Rattle.parties.specs.client.Record.{work_at, is_some}
use Rattle.parties.specs.records.Places.{version_at, from, splice}
use Rattle.parties.specs.client.Freeze.{kept_versions, replaced_by}

-- the area holds what a client retains
abbrev pub Holds : Measures → List ℕ → Type 0
Holds s area = (passes s ≡ true) × (is_some (read_retained s area) ≡ true) × (work_at s ≤ length area)

-- n versions behind the tag
abbrev pub list_in : ℕ → List ℕ → List Version
list_in n t = from (version_at t) 5 1 n

-- a version is in its place among the n of t
pub record Added (v : Version) (n : ℕ) (t : List ℕ) (r : ℕ) (u : List ℕ) : Type 0 where
  pub many : r ≡ length (insert v (list_in n t))
  pub laid : u ≡ splice t 1 (write_many write_version (insert v (list_in n t)))

-- unless it is left out
abbrev pub Adds : Bool → Version → ℕ → List ℕ → ℕ → List ℕ → Type 0
Adds true v n t r u = (r ≡ n) × (u ≡ t)
Adds false v n t r u = Added v n t r u

-- the room has a free list of n versions at its front, and beyond it what it had at first
pub record Listing (first : List ℕ) (l : List Version) (n : ℕ) (room : List ℕ) : Type 0 where
  pub many : n ≡ length l
  pub shown : list_in n room ≡ l
  pub laid : room ≡ lay (write_to_node (ToNode.free l)) first

-- the free list of the first q clients
abbrev pub freed_up_to : Measures → ℕ → Retained → Version → ℕ → List Version
freed_up_to s map x v q = free_list (kept_versions s map x v) (replaced_by map x q)

-- client q's versions are added to it
abbrev pub Frees : Measures → ℕ → Retained → Version → ℕ → ℕ → List ℕ → ℕ → List ℕ → Type 0
Frees s map x v q n t r u = (first : List ℕ) → Listing first (freed_up_to s map x v q) n t → Listing first (freed_up_to s map x v (q + 1)) r u
