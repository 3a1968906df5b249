-- A run: a list of events under one set of measures, each carried out by its definition on the tables and records that the event before left.
use Rattle.std.specs.Prelude.{Bool, true, false, cond, ◌&&◌, List, [], ◌∷◌, ◌++◌, ℕ, ◌+◌, eqb, leb, take}
use Rattle.std.proofs.Math.Option.{Option, some, none}
use Rattle.parties.specs.declared.Measures.{Measures}
use Rattle.parties.specs.declared.Version.{Version}
use Rattle.parties.specs.protocol.Version.{no_version}
use Rattle.parties.specs.protocol.Format.{Read, whole}
use Rattle.parties.specs.protocol.Pointer.{Pointer, none_pointer}
use Rattle.parties.specs.protocol.Directory.{Content, pointers_in, read_record, write_directory, fresh_directory}
use Rattle.parties.specs.protocol.NodeTable.{write_table}
use Rattle.parties.specs.protocol.Message.{ToClient, read_to_client}
use Rattle.parties.specs.protocol.Client.{Phase, idle, scanning, storing, updating, freezing, raising, picking, fetching, Client, read_client, write_client, fresh_client}
use Rattle.parties.specs.protocol.Answer.{ClientAnswer, refused, waits, scan, update, stores, requests, deposited, empty, page, spent, failed, Served, refuses, serves}
use Rattle.parties.specs.protocol.ClientEvents.{ClientEnd, start_deposit, start_reading, update_answer, scan_answer, client_message, message_to}
use Rattle.parties.specs.protocol.DirectoryEvents.{DirectoryEnd, directory_update, directory_scan}
use Rattle.parties.specs.protocol.NodeEvents.{NodeEnd, node_message}

-- ---- the history of operations

pub record Operation : Type 0 where
  pub client : ℕ
  -- a deposit's bytes are the page handed in for it; a reading has none
  pub page : Option (List ℕ)
  -- the number of the event at which it began, and of that at which it ended
  pub began : ℕ
  pub ended : Option ℕ
  -- the version that it bears, a reading's pointer, and what a reading gave
  pub version : Option Version
  pub pointer : Option Pointer
  pub given : Option (List ℕ)

-- an update put a pointer in as written, for an operation
pub record Put : Type 0 where
  pub pointer : Pointer
  pub operation : ℕ

-- A reply with a piece was handed to a client. Its sender, its version and its piece are what a digest is taken over (document 02, i).
pub record Reply : Type 0 where
  pub client : ℕ
  pub node : ℕ
  pub version : Version
  pub piece : List ℕ
  -- the number of the event, and whether it was refused, so that the message is still under way
  pub time : ℕ
  pub refused : Bool

pub record History : Type 0 where
  -- events so far
  pub time : ℕ
  -- operations begun so far, by number in the order of their beginning; the one that a client began last
  pub begun : ℕ
  pub operation : ℕ → Operation
  pub latest : ℕ → ℕ
  -- the pointers put in as written, oldest first
  pub puts : List Put
  -- the replies with a piece, oldest first
  pub replied : List Reply

-- ---- the state

-- a directory call
pub data Call : Type 0 where
  scan_call : Call
  update_call : List ℕ → Call

-- its answer
pub data Return : Type 0 where
  updated : Return
  rows : List ℕ → Return

-- tables and records by number; what is under way, oldest first: calls and answers of a client, messages between a client and a node
pub record State : Type 0 where
  pub directory : List ℕ
  pub nodes : ℕ → List ℕ
  pub clients : ℕ → List ℕ
  pub calls : ℕ → List Call
  pub returns : ℕ → List Return
  pub to_node : ℕ → ℕ → List (List ℕ)
  pub to_client : ℕ → ℕ → List (List ℕ)
  pub history : History

abbrev pub upd : {A : Type 0} → (ℕ → A) → ℕ → A → ℕ → A
upd f i a j = cond (eqb j i) a (f j)

abbrev pub upd₂ : {A : Type 0} → (ℕ → ℕ → A) → ℕ → ℕ → A → ℕ → ℕ → A
upd₂ f i j a = upd f i (upd (f i) j a)

-- ---- events

-- An event carries all that its caller chooses: numbers, a page, and rooms and outputs of any length and bytes. A delivery names a queue.
pub data Event : Type 0 where
  deposit : ℕ → List ℕ → Event
  reading : ℕ → List ℕ → Event
  -- client c's oldest directory call is carried out, with a room for its answer
  carry : ℕ → List ℕ → Event
  -- client c's oldest answer is handed to it, with a room for what it sends
  hand : ℕ → List ℕ → Event
  -- the oldest message from client c to node i is handed over, with a room for the answer
  bring : ℕ → ℕ → List ℕ → Event
  -- the oldest message from node i to client c is handed over, with a room and an output
  deliver : ℕ → ℕ → List ℕ → List ℕ → Event
  -- a dishonest node i hands client c some bytes
  lie : ℕ → ℕ → List ℕ → List ℕ → List ℕ → Event

-- what an event answered: the party's answer, or nothing; nothing where none was under way, at a dishonest node, and at a lie of an honest one
pub data Answered : Type 0 where
  nothing : Answered
  by_client : ClientAnswer → Answered
  by_server : Served → Answered

-- ---- what a client's event leaves behind it

-- what is sent to a node stands last in its queue
abbrev pub sent_to : Option (List ℕ) → List (List ℕ) → List (List ℕ)
sent_to none q = q
sent_to (some m) q = q ++ (m ∷ [])

-- so does a call
abbrev pub called : ClientAnswer → List ℕ → List Call → List Call
called (refused n) room q = q
called waits room q = q
called scan room q = q ++ (scan_call ∷ [])
called (update len) room q = q ++ (update_call (take len room) ∷ [])
called (stores v len) room q = q
called (requests v nodes) room q = q
called (deposited v len) room q = q
called empty room q = q
called (page v len) room q = q
called spent room q = q
called failed room q = q

-- the pointer that a reading's record shows
abbrev pub pointer_at : Phase → Option Pointer
pointer_at idle = none
pointer_at (scanning bytes) = none
pointer_at (storing v a ds) = none
pointer_at (updating p) = none
pointer_at (freezing p) = none
pointer_at raising = none
pointer_at picking = none
pointer_at (fetching p n m ps) = some p

abbrev pub pointer_in : Option (Read Client) → Option Pointer
pointer_in none = none
pointer_in (some r) = pointer_at r.value.phase

-- marks of an operation: what it bears, a reading's pointer, its end, and what it gave
abbrev pub bearing : Version → Operation → Operation
bearing v o =
    record { client = o.client; page = o.page; began = o.began; ended = o.ended; version = some v; pointer = o.pointer; given = o.given }

abbrev pub pointing : Option Pointer → Operation → Operation
pointing p o =
    record { client = o.client; page = o.page; began = o.began; ended = o.ended; version = o.version; pointer = p; given = o.given }

abbrev pub ending : ℕ → Operation → Operation
ending time o =
    record { client = o.client; page = o.page; began = o.began; ended = some time; version = o.version; pointer = o.pointer; given = o.given }

abbrev pub giving : List ℕ → Operation → Operation
giving b o =
    record { client = o.client; page = o.page; began = o.began; ended = o.ended; version = o.version; pointer = o.pointer; given = some b }

-- a deposit bears its version once drawn; a reading, that of the pointer it picked, also if it is none; an operation is open until it ends;
-- what a reading gave stands at the front of the output
abbrev pub marked : Measures → ℕ → ClientAnswer → List ℕ → List ℕ → Operation → Operation
marked s time (refused n) client out o = o
marked s time waits client out o = o
marked s time scan client out o = o
marked s time (update len) client out o = o
marked s time (stores v len) client out o = bearing v o
marked s time (requests v nodes) client out o = bearing v (pointing (pointer_in (read_client s client)) o)
marked s time (deposited v len) client out o = ending time o
marked s time empty client out o = ending time (bearing no_version (pointing (some none_pointer) o))
marked s time (page v len) client out o = ending time (giving (take len out) o)
marked s time spent client out o = ending time o
marked s time failed client out o = ending time o

-- one event more
abbrev pub tick : History → History
tick h =
    record { time = h.time + 1; begun = h.begun; operation = h.operation; latest = h.latest; puts = h.puts; replied = h.replied }

-- the client's last operation as its event's answer marks it
abbrev pub mark : Measures → ℕ → ClientEnd → History → History
mark s c e h =
    record {
      time = h.time + 1;
      begun = h.begun;
      operation = upd h.operation (h.latest c) (marked s h.time e.answer e.client e.out (h.operation (h.latest c)));
      latest = h.latest;
      puts = h.puts;
      replied = h.replied;
    }

-- an operation begins at a start event that is not refused
abbrev pub begin : ℕ → Option (List ℕ) → History → History
begin c bytes h =
    record {
      time = h.time + 1;
      begun = h.begun + 1;
      operation =
          upd h.operation h.begun
          (record { client = c; page = bytes; began = h.time; ended = none; version = none; pointer = none; given = none });
      latest = upd h.latest c h.begun;
      puts = h.puts;
      replied = h.replied;
    }

-- a message that client c is handed by node i: if it is a reply with a piece, it is one more
abbrev pub replying : ℕ → ℕ → ℕ → Bool → Option ToClient → List Reply → List Reply
replying c i time b none l = l
replying c i time b (some (ToClient.stored v)) l = l
replying c i time b (some ToClient.freed) l = l
replying c i time b (some (ToClient.reply v x)) l =
    l ++ (record { client = c; node = i; version = v; piece = x; time = time; refused = b } ∷ [])
replying c i time b (some (ToClient.missing v)) l = l

abbrev pub heard : Measures → ℕ → ℕ → List ℕ → Bool → History → History
heard s c i message b h =
    record {
      time = h.time;
      begun = h.begun;
      operation = h.operation;
      latest = h.latest;
      puts = h.puts;
      replied = replying c i h.time b (read_to_client s message) h.replied;
    }

-- the written pointer of an update's record, if its bit stands
abbrev pub put_by : Option (List (Option Content)) → ℕ → List Put
put_by none o = []
put_by (some []) o = []
put_by (some (f ∷ l)) o = put_all (pointers_in f) o
  where
    put_all : List Pointer → ℕ → List Put
    put_all [] o = []
    put_all (p ∷ l) o = record { pointer = p; operation = o } ∷ []

abbrev pub put_in : Measures → ℕ → List ℕ → History → History
put_in s c fields h =
    record {
      time = h.time + 1;
      begun = h.begun;
      operation = h.operation;
      latest = h.latest;
      puts = h.puts ++ put_by (whole (read_record s) fields) (h.latest c);
      replied = h.replied;
    }

-- ---- carrying out

pub record Result : Type 0 where
  pub answer : Answered
  pub state : State

-- a refusal that changes nothing leaves its call, answer or message under way
abbrev pub stays : Answered → History → State → Result
stays a h st =
    record {
      answer = a;
      state =
          record {
            directory = st.directory;
            nodes = st.nodes;
            clients = st.clients;
            calls = st.calls;
            returns = st.returns;
            to_node = st.to_node;
            to_client = st.to_client;
            history = h;
          };
    }

-- messages go to the nodes 1 to n
abbrev pub sends : Measures → ClientEnd → ℕ → Option (List ℕ)
sends s e i = cond (leb 1 i && leb i s.n) (message_to s e.answer e.room i) none

-- a client's event, with the answers and messages that are then under way to clients
abbrev pub goes : Measures → ℕ → ClientEnd → (ℕ → List Return) → (ℕ → ℕ → List (List ℕ)) → History → State → Result
goes s c e returns to_client h st =
    record {
      answer = by_client e.answer;
      state =
          record {
            directory = st.directory;
            nodes = st.nodes;
            clients = upd st.clients c e.client;
            calls = upd st.calls c (called e.answer e.room (st.calls c));
            returns = returns;
            to_node = upd st.to_node c (λ i. sent_to (sends s e i) (st.to_node c i));
            to_client = to_client;
            history = h;
          };
    }

abbrev pub is_refused : ClientAnswer → Bool
is_refused (refused n) = true
is_refused waits = false
is_refused scan = false
is_refused (update len) = false
is_refused (stores v len) = false
is_refused (requests v nodes) = false
is_refused (deposited v len) = false
is_refused empty = false
is_refused (page v len) = false
is_refused spent = false
is_refused failed = false

-- a start
abbrev pub starts : Measures → ℕ → Option (List ℕ) → ClientEnd → State → Result
starts s c bytes e st =
    cond (is_refused e.answer) (stays (by_client e.answer) (tick st.history) st)
    (goes s c e st.returns st.to_client (begin c bytes st.history) st)

-- the answer of a directory call
abbrev pub returned : Measures → ℕ → List Return → ClientEnd → State → Result
returned s c q e st =
    cond (is_refused e.answer) (stays (by_client e.answer) (tick st.history) st)
    (goes s c e (upd st.returns c q) st.to_client (mark s c e st.history) st)

abbrev pub handed : Measures → ℕ → List ℕ → List Return → State → Result
handed s c room [] st = stays nothing (tick st.history) st
handed s c room (updated ∷ q) st = returned s c q (update_answer s c (st.clients c) room) st
handed s c room (rows b ∷ q) st = returned s c q (scan_answer s c (st.clients c) b room) st

-- a message of node i to client c, with the messages that are then under way to clients
abbrev pub told : Measures → ℕ → ℕ → List ℕ → (ℕ → ℕ → List (List ℕ)) → ClientEnd → State → Result
told s c i message to_client e st =
    cond (is_refused e.answer) (stays (by_client e.answer) (tick (heard s c i message true st.history)) st)
    (goes s c e st.returns to_client (mark s c e (heard s c i message false st.history)) st)

abbrev pub delivered : Measures → ℕ → ℕ → List ℕ → List ℕ → List (List ℕ) → State → Result
delivered s i c room out [] st = stays nothing (tick st.history) st
delivered s i c room out (m ∷ q) st = told s c i m (upd₂ st.to_client i c q) (client_message s c i (st.clients c) m room out) st

-- a directory call: its table, the calls and answers that are then under way
abbrev pub carried : ℕ → List Call → Return → DirectoryEnd → History → History → Served → State → Result
carried c q r e done same (refuses n) st = stays (by_server (refuses n)) same st
carried c q r e done same (serves len) st =
    record {
      answer = by_server (serves len);
      state =
          record {
            directory = e.table;
            nodes = st.nodes;
            clients = st.clients;
            calls = upd st.calls c q;
            returns = upd st.returns c (st.returns c ++ (r ∷ []));
            to_node = st.to_node;
            to_client = st.to_client;
            history = done;
          };
    }

abbrev pub length_of : Served → ℕ
length_of (refuses n) = 0
length_of (serves len) = len

abbrev pub scan_by : ℕ → List Call → DirectoryEnd → State → Result
scan_by c q e st =
    carried c q (rows (take (length_of e.answer) e.room)) e (tick st.history) (tick st.history) e.answer st

abbrev pub update_by : Measures → ℕ → List ℕ → List Call → DirectoryEnd → State → Result
update_by s c fields q e st = carried c q updated e (put_in s c fields st.history) (tick st.history) e.answer st

abbrev pub carries : Measures → ℕ → List ℕ → List Call → State → Result
carries s c room [] st = stays nothing (tick st.history) st
carries s c room (scan_call ∷ q) st = scan_by c q (directory_scan s st.directory room) st
carries s c room (update_call fields ∷ q) st = update_by s c fields q (directory_update s c st.directory fields) st

-- a message to an honest node: its table, and the answer under way
abbrev pub keeps : ℕ → ℕ → List (List ℕ) → NodeEnd → Served → State → Result
keeps c i q e (refuses n) st = stays (by_server (refuses n)) (tick st.history) st
keeps c i q e (serves len) st =
    record {
      answer = by_server (serves len);
      state =
          record {
            directory = st.directory;
            nodes = upd st.nodes i e.table;
            clients = st.clients;
            calls = st.calls;
            returns = st.returns;
            to_node = upd₂ st.to_node c i q;
            to_client = upd₂ st.to_client i c (st.to_client i c ++ (take len e.room ∷ []));
            history = tick st.history;
          };
    }

-- a message to a dishonest node is gone; nothing is said of what such a node keeps
abbrev pub lost : ℕ → ℕ → List (List ℕ) → State → Result
lost c i q st =
    record {
      answer = nothing;
      state =
          record {
            directory = st.directory;
            nodes = st.nodes;
            clients = st.clients;
            calls = st.calls;
            returns = st.returns;
            to_node = upd₂ st.to_node c i q;
            to_client = st.to_client;
            history = tick st.history;
          };
    }

abbrev pub brought : Measures → (ℕ → Bool) → ℕ → ℕ → List ℕ → List (List ℕ) → State → Result
brought s honest c i room [] st = stays nothing (tick st.history) st
brought s honest c i room (m ∷ q) st =
    cond (honest i)
    (keeps c i q (node_message s i (st.nodes i) m room) (node_message s i (st.nodes i) m room).answer st)
    (lost c i q st)

-- one event, where `honest` tells the honest nodes
unfoldable pub carry_out : Measures → (ℕ → Bool) → Event → State → Result
carry_out s honest (deposit c bytes) st = starts s c (some bytes) (start_deposit s c (st.clients c) bytes) st
carry_out s honest (reading c room) st = starts s c none (start_reading s c (st.clients c) room) st
carry_out s honest (carry c room) st = carries s c room (st.calls c) st
carry_out s honest (hand c room) st = handed s c room (st.returns c) st
carry_out s honest (bring c i room) st = brought s honest c i room (st.to_node c i) st
carry_out s honest (deliver i c room out) st = delivered s i c room out (st.to_client i c) st
carry_out s honest (lie i c bytes room out) st =
    cond (honest i) (stays nothing (tick st.history) st) (told s c i bytes st.to_client (client_message s c i (st.clients c) bytes room out) st)

-- fresh tables and client records, no message under way, no operation
abbrev pub fresh : Measures → State
fresh s =
    record {
      directory = write_directory s (fresh_directory s);
      nodes = λ i. write_table s [];
      clients = λ c. write_client s (fresh_client s);
      calls = λ c. [];
      returns = λ c. [];
      to_node = λ c i. [];
      to_client = λ i c. [];
      history =
          record {
            time = 0;
            begun = 0;
            operation = λ o. record { client = 0; page = none; began = 0; ended = none; version = none; pointer = none; given = none };
            latest = λ c. 0;
            puts = [];
            replied = [];
          };
    }

-- the state after a list of events
unfoldable pub run : Measures → (ℕ → Bool) → List Event → State → State
run s honest [] st = st
run s honest (e ∷ es) st = run s honest es (carry_out s honest e st).state
