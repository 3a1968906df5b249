-- What the parts of a node's events do on the bytes of its table and room.
use Rattle.std.specs.Prelude.{◌≡◌, Bool, true, ◌&&◌, not, List, ◌++◌, ℕ, ◌+◌, ◌-◌, ◌*◌, ◌≤◌, ltb, length, take, drop}
use Rattle.parties.specs.declared.Measures.{Measures}
use Rattle.parties.specs.declared.Version.{Version}
use Rattle.parties.specs.protocol.Format.{write_number, write_many}
use Rattle.parties.specs.protocol.Measures.{passes, place_size}
use Rattle.parties.specs.protocol.Version.{below, ascending}
use Rattle.parties.specs.protocol.Answer.{Served}
use Rattle.parties.specs.protocol.NodeTable.{Held, in_order, read_table}
use Rattle.parties.specs.protocol.Node.{release}
use Rattle.parties.specs.protocol.Message.{read_to_node}
use Rattle.parties.specs.protocol.NodeEvents.{NodeEnd, on_message, table_size, answer_size}
use Rattle.parties.specs.records.Places.{version_at, held_from, sound_at, sound_table, splice, place_of, every}
use Rattle.parties.specs.node.ToNode.{versions_from}

-- measures, slices and table are sound
pub record NodeReady (s : Measures) (t room : List ℕ) : Type 0 where
  pub measures : passes s ≡ true
  pub table : table_size s ≤ length t
  pub answer : answer_size s ≤ length room
  pub sound : sound_table s t ≡ true

-- answer, table and room after a message
pub record Ends (e : NodeEnd) (r : Served) (t u : List ℕ) : Type 0 where
  pub answer : r ≡ e.answer
  pub table : t ≡ e.table
  pub room : u ≡ e.room

abbrev pub event : Measures → List ℕ → List ℕ → List ℕ → NodeEnd
event s t b room = on_message s t room (read_table s t) (read_to_node s b)

-- the piece that a message brings
abbrev pub brought_by : List ℕ → Held
brought_by b = record { version = version_at b 1; piece = drop 6 b }

-- a place more: those from a position to an end go up, the new one is written, the count is raised
unfoldable pub inserted : Measures → List ℕ → ℕ → ℕ → Held → ℕ → List ℕ
inserted s t at end h count =
    splice (splice (splice t (at + place_size s) (take (end - at) (drop at t))) at (place_of s h)) 0 (write_number 2 count)

-- the listed version at a position is below v, or is v
abbrev pub list_behind : Version → List ℕ → ℕ → ℕ → Bool
list_behind v b at listed = ltb 0 listed && below (version_at b at) v

abbrev pub list_names : Version → List ℕ → ℕ → ℕ → Bool
list_names v b at listed = ltb 0 listed && (not (below (version_at b at) v) && not (below v (version_at b at)))

-- filled places of form and a list of form
pub record Listed (s : Measures) (t b : List ℕ) (count listed : ℕ) : Type 0 where
  pub bytes : s.f ≤ 4096
  pub places : 2 + count * place_size s ≤ length t
  pub each : every (sound_at s t) (place_size s) 2 count ≡ true
  pub order : in_order (held_from (place_size s) t 2 count) ≡ true
  pub list : 1 + listed * 5 ≤ length b
  pub ascends : ascending (versions_from b 1 listed) ≡ true

-- the kept places stand at the front
pub record Released (s : Measures) (t b : List ℕ) (count listed : ℕ) (u : List ℕ) (kept : ℕ) : Type 0 where
  pub many : kept ≡ length (release (versions_from b 1 listed) (held_from (place_size s) t 2 count))
  pub front : take (2 + kept * place_size s) u ≡ take 2 t ++ write_many (place_of s) (release (versions_from b 1 listed) (held_from (place_size s) t 2 count))
  pub rest : drop (2 + count * place_size s) u ≡ drop (2 + count * place_size s) t
  pub same : length u ≡ length t
  pub fewer : kept ≤ count
