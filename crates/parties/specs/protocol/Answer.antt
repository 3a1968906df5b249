-- What the parties' events answer, in document 01's terms.
use Rattle.std.proofs.Math.Option.{Option, some, none}
use Rattle.std.specs.Prelude.{ℕ}
use Rattle.parties.specs.declared.Version.{Version}

-- of an event at a client
pub data ClientAnswer : Type 0 where
  -- refused with a number; nothing is changed
  refused : ℕ → ClientAnswer
  -- nothing more to do
  waits : ClientAnswer
  -- a directory call: a scan, or an update whose record of so many bytes stands at the front of the room
  scan : ClientAnswer
  update : ℕ → ClientAnswer
  -- the pieces of a version, each of so many bytes, to every node
  stores : Version → ℕ → ClientAnswer
  -- a request for a version, to the nodes of a bit map
  requests : Version → ℕ → ClientAnswer
  -- the deposit of a version ended; a free list's message of so many bytes to every node
  deposited : Version → ℕ → ClientAnswer
  -- the reading ended and found nothing
  empty : ClientAnswer
  -- the reading of a version ended with a page of so many bytes, at the front of the output
  page : Version → ℕ → ClientAnswer
  -- 7 in a deposit: it ended, and the record is as before it began
  spent : ClientAnswer
  -- 9: the reading ended
  failed : ClientAnswer

-- the papers' number of an answer, if it has one
abbrev pub number : ClientAnswer → Option ℕ
number (refused n) = some n
number waits = none
number scan = none
number (update len) = none
number (stores v len) = none
number (requests v nodes) = none
number (deposited v len) = none
number empty = none
number (page v len) = none
number spent = some 7
number failed = some 9

-- of an event at the directory or a node: so many bytes of answer at the front of the room
pub data Served : Type 0 where
  refuses : ℕ → Served
  serves : ℕ → Served
