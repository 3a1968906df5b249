-- An event at the directory or a node that is refused leaves table and room as they were, and a node's number out of bounds is refused.
use mathlib.Core.Path.{◌≡◌, refl, sym, subst}
use mathlib.Core.Bool.{Bool, true, false, cond, ◌&&◌}
use mathlib.Core.List.{List, []}
use mathlib.Core.Option.{Option, some, none}
use Prim.Native.Nat.{ℕ}
use lib.Dec.{leb, ltb}
use lib.ListN.{length}
use Rattle.parties.specs.declared.Measures.{Measures}
use Rattle.parties.specs.protocol.Measures.{passes}
use Rattle.parties.specs.protocol.Format.{Read}
use Rattle.parties.specs.protocol.Directory.{Content, Row, read_directory}
use Rattle.parties.specs.protocol.Owner.{own_fields, own_rows}
use Rattle.parties.specs.protocol.Verdict.{Verdict, sound, broken, record_verdict, rows_verdict}
use Rattle.parties.specs.protocol.NodeTable.{Held, read_table}
use Rattle.parties.specs.protocol.Message.{ToNode, read_to_node, write_to_client}
use Rattle.parties.specs.protocol.Answer.{Served, refuses, serves}
use Rattle.parties.specs.protocol.DirectoryEvents.{DirectoryEnd, directory_size, directory_update, directory_scan, on_table, scanned, directory_fresh}
use Rattle.parties.specs.protocol.NodeEvents.{NodeEnd, table_size, answer_size, node_message, held_after, answer_to, kept, on_message, node_fresh}
use Rattle.parties.proofs.protocol.model.Cells.{chosen}

-- refused, it leaves table and room byte for byte as they came
abbrev pub Left : Served → List ℕ → List ℕ → List ℕ → List ℕ → Type 0
Left a table room table' room' = (n : ℕ) → a ≡ refuses n → (table' ≡ table) × (room' ≡ room)

abbrev pub Refuses : Served → Type 0
Refuses (refuses n) = Unit {0}
Refuses (serves len) = ⊥

as_came : (a : Served) (table room : List ℕ) → Left a table room table room
as_came a table room n e = (refl, refl)

served : (len : ℕ) (table room table' room' : List ℕ) → Left (serves len) table room table' room'
served len table room table' room' n e = absurd (subst Refuses (sym e) tt)

-- of the table alone
abbrev pub Keeps : List ℕ → Served → List ℕ → Type 0
Keeps old (refuses n) new = new ≡ old
Keeps old (serves len) new = Unit {0}

keeps-table : (a : Served) (table room table' room' : List ℕ) → Left a table room table' room' → Keeps table a table'
keeps-table (refuses n) table room table' room' h = (h n refl).0
keeps-table (serves len) table room table' room' h = tt

pub refused-keeps : (old new : List ℕ) (a : Served) → Refuses a → Keeps old a new → new ≡ old
refused-keeps old new (refuses n) h k = k
refused-keeps old new (serves len) h k = absurd h

-- ---- the directory

module _ (s : Measures) (table : List ℕ) where
  abbrev Leaving : List ℕ → DirectoryEnd → Type 0
  Leaving room e = Left e.answer table room e.table e.room

  -- the three tests
  abbrev tested : Bool → Bool → Bool → List ℕ → DirectoryEnd → DirectoryEnd
  tested a b d room e =
      cond a (cond b (cond d e
      (record { answer = refuses 3; table = table; room = room }))
      (record { answer = refuses 2; table = table; room = room }))
      (record { answer = refuses 1; table = table; room = room })

  tested_left : (a b d : Bool) (room : List ℕ) (e : DirectoryEnd) → Leaving room e → Leaving room (tested a b d room e)
  tested_left true true true room e h = h
  tested_left true true false room e h = as_came (refuses 3) table room
  tested_left true false d room e h = as_came (refuses 2) table room
  tested_left false b d room e h = as_came (refuses 1) table room

  updated_left : (c : ℕ) (r : Option (Read (List Row))) (u : Verdict (List (Option Content))) → Leaving [] (on_table s c table r u)
  updated_left c none u = as_came (refuses 4) table []
  updated_left c (some r) (broken n) = as_came (refuses n) table []
  updated_left c (some r) (sound u) =
      chosen (Leaving []) (own_rows 0 r.value && own_fields c u) _ _ (served 0 table [] _ []) (as_came (refuses 14) table [])

  scanned_left : (room : List ℕ) (r : Verdict (Read (List Row))) → Leaving room (scanned s table room r)
  scanned_left room (broken n) = as_came (refuses n) table room
  scanned_left room (sound r) = served (directory_size s) table room table _

  -- Document 01: memory stays unchanged at every number.
  pub record DirectoryLeaves (own : ℕ) (fields room : List ℕ) : Type 0 where
    pub fresh : Leaving [] (directory_fresh s table)
    pub update : Leaving [] (directory_update s own table fields)
    pub scan : Leaving room (directory_scan s table room)

  pub directory_leaves : (own : ℕ) (fields room : List ℕ) → DirectoryLeaves own fields room
  unfolding directory_fresh directory_update directory_scan
  directory_leaves own fields room =
      record {
        fresh = tested_left (passes s) (leb (directory_size s) (length table)) true [] _ (served 0 table [] _ []);
        update =
            tested_left (passes s) (leb (directory_size s) (length table)) (ltb own s.m) [] _
            (updated_left own (read_directory s table) (record_verdict s fields));
        scan =
            tested_left (passes s) (leb (directory_size s) (length table) && leb (directory_size s) (length room)) true room _
            (scanned_left room (rows_verdict s table));
      }

  pub update-keeps : (c : ℕ) (fields : List ℕ) → Keeps table (directory_update s c table fields).answer (directory_update s c table fields).table
  update-keeps c fields =
      let e = directory_update s c table fields in keeps-table e.answer table [] e.table e.room (directory_leaves c fields []).update

  -- a scan changes nothing
  pub scan-keeps : (room : List ℕ) → (directory_scan s table room).table ≡ table
  unfolding directory_scan
  scan-keeps room = go (passes s) (leb (directory_size s) (length table) && leb (directory_size s) (length room)) (rows_verdict s table)
    where
      go : (a b : Bool) (r : Verdict (Read (List Row))) → (cond a (cond b (scanned s table room r)
          (record { answer = refuses 2; table = table; room = room }))
          (record { answer = refuses 1; table = table; room = room })).table ≡ table
      go true true (broken n) = refl
      go true true (sound r) = refl
      go true false r = refl
      go false b r = refl

-- ---- a node

module _ (s : Measures) (table message room : List ℕ) where
  abbrev NodeLeaving : NodeEnd → Type 0
  NodeLeaving e = Left e.answer table room e.table e.room

  kept_left : (rest : List ℕ) (l : Option (List Held)) (reply : List ℕ) → NodeLeaving (kept s table room rest l reply)
  kept_left rest none reply = as_came (refuses 8) table room
  kept_left rest (some l) reply = served (length reply) table room _ _

  message_left : (r : Option (Read (List Held))) (m : Option ToNode) → NodeLeaving (on_message s table room r m)
  message_left none m = as_came (refuses 4) table room
  message_left (some r) none = as_came (refuses 4) table room
  message_left (some r) (some m) = kept_left r.rest (held_after s r.value m) (write_to_client (answer_to r.value m))

  abbrev tried : Bool → Bool → Bool → NodeEnd
  tried a b d =
      cond a (cond b (cond d (on_message s table room (read_table s table) (read_to_node s message))
      (record { answer = refuses 3; table = table; room = room }))
      (record { answer = refuses 2; table = table; room = room }))
      (record { answer = refuses 1; table = table; room = room })

  tried_left : (a b d : Bool) → NodeLeaving (tried a b d)
  tried_left true true true = message_left (read_table s table) (read_to_node s message)
  tried_left true true false = as_came (refuses 3) table room
  tried_left true false d = as_came (refuses 2) table room
  tried_left false b d = as_came (refuses 1) table room

  tried_refuses : (a b : Bool) → Refuses (tried a b false).answer
  tried_refuses true true = tt
  tried_refuses true false = tt
  tried_refuses false b = tt

  fresh_left : (a b : Bool) (new : List ℕ) (e : NodeEnd) → e ≡ cond a (cond b (record { answer = serves 0; table = new; room = [] })
      (record { answer = refuses 2; table = table; room = [] }))
      (record { answer = refuses 1; table = table; room = [] }) → Left e.answer table [] e.table e.room
  fresh_left true true new e q = rw q (served 0 table [] new [])
  fresh_left true false new e q = rw q (as_came (refuses 2) table [])
  fresh_left false b new e q = rw q (as_came (refuses 1) table [])

  -- the same of a node
  pub record NodeLeaves (i : ℕ) : Type 0 where
    pub fresh : Left (node_fresh s table).answer table [] (node_fresh s table).table (node_fresh s table).room
    pub brought : NodeLeaving (node_message s i table message room)

  pub node_leaves : (i : ℕ) → NodeLeaves i
  unfolding node_fresh node_message
  node_leaves i =
      record {
        fresh = fresh_left (passes s) (leb (table_size s) (length table)) _ (node_fresh s table) refl;
        brought = tried_left (passes s) (leb (table_size s) (length table) && leb (answer_size s) (length room)) (leb 1 i && leb i s.n);
      }

  pub node-keeps : (i : ℕ) → Keeps table (node_message s i table message room).answer (node_message s i table message room).table
  node-keeps i =
      let e = node_message s i table message room in keeps-table e.answer table room e.table e.room (node_leaves i).brought

  pub node-refuses : (i : ℕ) → (leb 1 i && leb i s.n) ≡ false → Refuses (node_message s i table message room).answer
  unfolding node_message
  node-refuses i h = rw h (tried_refuses (passes s) (leb (table_size s) (length table) && leb (answer_size s) (length room)))
