-- Events at a data node (Algorithm 3): a message, its effect on the table, and the answer in a lent room.
use Rattle.std.specs.Prelude.{Bool, true, false, cond, ◌&&◌, ◌||◌, List, [], ◌++◌, ℕ, ◌+◌, ◌*◌, leb, ltb, length, drop}
use Rattle.std.proofs.Math.Option.{Option, some, none}
use Rattle.parties.specs.declared.Measures.{Measures}
use Rattle.parties.specs.protocol.Format.{Read}
use Rattle.parties.specs.protocol.Measures.{passes, places, place_size}
use Rattle.parties.specs.protocol.NodeTable.{Held, read_table, write_table}
use Rattle.parties.specs.protocol.Node.{keep, hand_back, release}
use Rattle.parties.specs.protocol.Message.{ToNode, store, request, free, ToClient, stored, freed, answer, read_to_node, write_to_client}
use Rattle.parties.specs.protocol.Answer.{Served, refuses, serves}

pub record NodeEnd : Type 0 where
  pub answer : Served
  pub table : List ℕ
  pub room : List ℕ

-- the bytes of a node table, and of the longest answer: a reply with a piece
abbrev pub table_size : Measures → ℕ
table_size s = 2 + places s * place_size s

abbrev pub answer_size : Measures → ℕ
answer_size s = 7 + s.f

-- a fresh table is written
unfoldable pub node_fresh : Measures → List ℕ → NodeEnd
node_fresh s table =
    cond (passes s)
    (cond (leb (table_size s) (length table))
    (record { answer = serves 0; table = write_table s [] ++ drop (table_size s) table; room = [] })
    (record { answer = refuses 2; table = table; room = [] }))
    (record { answer = refuses 1; table = table; room = [] })

abbrev pub is_held : Option (List ℕ) → Bool
is_held none = false
is_held (some p) = true

-- the held pieces after a message; 8 for a new version at a full table
abbrev pub held_after : Measures → List Held → ToNode → Option (List Held)
held_after s l (store v p) =
    cond (is_held (hand_back v l) || ltb (length l) (places s)) (some (keep (record { version = v; piece = p }) l)) none
held_after s l (request v) = some l
held_after s l (free vs) = some (release vs l)

-- storing is acknowledged with its version, dropping without one
abbrev pub answer_to : List Held → ToNode → ToClient
answer_to l (store v p) = stored v
answer_to l (request v) = answer v (hand_back v l)
answer_to l (free vs) = freed

abbrev pub kept : Measures → List ℕ → List ℕ → List ℕ → Option (List Held) → List ℕ → NodeEnd
kept s table room rest none reply = record { answer = refuses 8; table = table; room = room }
kept s table room rest (some l) reply =
    record { answer = serves (length reply); table = write_table s l ++ rest; room = reply ++ drop (length reply) room }

abbrev pub on_message : Measures → List ℕ → List ℕ → Option (Read (List Held)) → Option ToNode → NodeEnd
on_message s table room none m = record { answer = refuses 4; table = table; room = room }
on_message s table room (some r) none = record { answer = refuses 4; table = table; room = room }
on_message s table room (some r) (some m) = kept s table room r.rest (held_after s r.value m) (write_to_client (answer_to r.value m))

-- a message handed to node i
unfoldable pub node_message : Measures → ℕ → List ℕ → List ℕ → List ℕ → NodeEnd
node_message s i table message room =
    cond (passes s)
    (cond (leb (table_size s) (length table) && leb (answer_size s) (length room))
    (cond (leb 1 i && leb i s.n) (on_message s table room (read_table s table) (read_to_node s message))
    (record { answer = refuses 3; table = table; room = room }))
    (record { answer = refuses 2; table = table; room = room }))
    (record { answer = refuses 1; table = table; room = room })
