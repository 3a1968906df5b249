-- What a client's answer sends, in parcels.
use Rattle.std.specs.Prelude.{List, [], ◌∷◌, ◌++◌, ℕ, zero, suc, ◌+◌, ◌*◌, take}
use Rattle.std.proofs.Math.Option.{Option, some, none}
use Rattle.parties.specs.declared.Measures.{Measures}
use Rattle.parties.specs.protocol.DirectoryEvents.{directory_size}
use Rattle.parties.specs.protocol.Answer.{ClientAnswer, refused, waits, scan, update, stores, requests, deposited, empty, page, spent, failed}
use Rattle.parties.specs.protocol.ClientEvents.{room_size, message_to}
use Rattle.runs.specs.Parcels.{Parcel, call_kind, return_kind, to_node_kind, to_client_kind, no_node}

-- the first byte of a call and of the answer of one: nothing follows, or fields or rows
abbrev pub plain : ℕ
plain = 0

abbrev pub filled : ℕ
filled = 1

-- a call: a scan's is plain, an update's has its fields
abbrev pub call : ℕ → List ℕ → Parcel
call c b = record { kind = call_kind; client = c; node = no_node; bytes = b }

-- the answer of one: an update's is plain, a scan's has its rows
abbrev pub return : ℕ → List ℕ → Parcel
return c b = record { kind = return_kind; client = c; node = no_node; bytes = b }

abbrev pub to_node : ℕ → ℕ → List ℕ → Parcel
to_node c i b = record { kind = to_node_kind; client = c; node = i; bytes = b }

abbrev pub to_client : ℕ → ℕ → List ℕ → Parcel
to_client i c b = record { kind = to_client_kind; client = c; node = i; bytes = b }

abbrev pub call_by : ℕ → ClientAnswer → List ℕ → List Parcel
call_by c (refused n) room = []
call_by c waits room = []
call_by c scan room = call c (plain ∷ []) ∷ []
call_by c (update len) room = call c (filled ∷ take len room) ∷ []
call_by c (stores v len) room = []
call_by c (requests v nodes) room = []
call_by c (deposited v len) room = []
call_by c empty room = []
call_by c (page v len) room = []
call_by c spent room = []
call_by c failed room = []

abbrev pub message_in : ℕ → ℕ → Option (List ℕ) → List Parcel
message_in c i none = []
message_in c i (some m) = to_node c i m ∷ []

-- messages to the nodes 1 to j
unfoldable pub messages_by : Measures → ℕ → ClientAnswer → List ℕ → ℕ → List Parcel
messages_by s c a room zero = []
messages_by s c a room (suc j) = messages_by s c a room j ++ message_in c (suc j) (message_to s a room (suc j))

abbrev pub sent : Measures → ℕ → ClientAnswer → List ℕ → List Parcel
sent s c a room = call_by c a room ++ messages_by s c a room s.n

-- ---- how long it is

-- with its heading of 7 bytes, an answer with all rows is the longest of calls and answers
abbrev pub longest_call : Measures → ℕ
longest_call s = 8 + directory_size s

-- a message to a node is a part of a client's room; an answer of one is no longer
abbrev pub longest_message : Measures → ℕ
longest_message s = 7 + room_size s

-- bytes that the parcels of one event take at most
abbrev pub needed : Measures → ℕ
needed s = longest_call s + s.n * longest_message s
