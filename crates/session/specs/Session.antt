-- A session of `stand`: what a line prints, and what follows it.
use Rattle.std.specs.Prelude.{◌≡◌, Bool, true, false, cond, ◌&&◌, ◌⊎◌, List, [], ◌∷◌, ◌++◌, ℕ, ◌+◌, ◌-◌, ◌*◌, ◌<◌, ◌≤◌, leb, ltb, length, take, drop, slice_index}
use Rattle.parties.specs.declared.Measures.{Measures}
use Rattle.parties.specs.protocol.Measures.{passes}
use Rattle.parties.specs.protocol.ClientEvents.{room_size}
use Rattle.parties.specs.protocol.DirectoryEvents.{directory_size}
use Rattle.parties.specs.protocol.Run.{Event, deposit, reading}
use Rattle.parties.specs.protocol.Claim.{AllLent}
use Rattle.title.specs.Memory.{memory_size, memory_fresh}
use Rattle.runs.specs.declared.answer.EventEnd.{EventEnd}
use Rattle.runs.specs.UnderWay.{After}
use Rattle.runs.specs.Acts.{Lent}
use Rattle.runs.specs.Sent.{needed}
use Rattle.runs.specs.Happens.{Happens}
use Rattle.runs.specs.Oldest.{honest_all, without, alone}
use Rattle.lines.specs.Read.{begun as lineBegun, next_of, next_page, ended_of, Read}
use Rattle.lines.specs.Command.{Asked, asked_of, given}
use Rattle.lines.specs.Text.{written, put_line}
use Rattle.lines.specs.Sentences.{header_line, refused_line}
use Rattle.session.specs.declared.session.Session.{Session}
use Rattle.session.specs.declared.session.Lengths.{Lengths}
use Rattle.session.specs.declared.space.Slices.{Slices}
use Rattle.session.specs.Settle.{Desk, lent_of, desk, Settles}

-- ---- what is kept from byte to byte

-- after a `config`, memory and parcels are those of a run with every node honest
pub record Runs (x : Session) (memory post : List ℕ) : Type 0 where
  pub events : List Event
  pub lent : AllLent events
  pub measures : passes x.measures ≡ true
  pub after : After x.measures honest_all events memory post x.used

-- and the line that is being read is read so far
pub record Live (x : Session) (memory post page : List ℕ) : Type 0 where
  pub runs : x.stage ≡ 1 → Runs x memory post
  pub line : List ℕ
  pub read : Read line x.reading page

-- a new line is read, and nothing of it yet
abbrev pub new_line : ℕ → Measures → ℕ → Session
new_line stage s used = record { stage = stage; measures = s; used = used; «open» = false; reading = lineBegun }

-- before the first line there are no measures
abbrev pub started : Session
started = new_line 0 (record { m = 0; n = 0; k = 0; t = 0; f = 0 }) 0

-- all that a session has from byte to byte
pub record Held : Type 0 where
  pub session : Session
  pub lent : Lent
  pub page : List ℕ
  pub text : List ℕ

abbrev pub LiveIn : Held → Type 0
LiveIn x = Live x.session x.lent.memory x.lent.post x.page

abbrev pub held : Session → Lent → List ℕ → List ℕ → Held
held x lent page text = record { session = x; lent = lent; page = page; text = text }

-- in the slices
abbrev pub held_in : Session → Slices → List ℕ → Held
held_in x s page = held x (lent_of s) page s.text.now

-- with the length of a line in the text
abbrev pub desk_of : Held → ℕ → Desk
desk_of x len = desk x.lent x.session.used x.text len

-- what the line that is read asks for, if it ends here
abbrev pub asks : Held → Asked
asks x = given (asked_of (ended_of x.session.reading)) x.page

-- ---- the first line

-- the program has memory for such measures
abbrev pub small : Measures → Bool
small s = leb s.m 3 && leb s.f 64

-- and its slices suffice for them: a room for what a client sends and for rows, an output for a page, a page for one byte more, so that a longer
-- one is told from it, a text for a line, and parcels for twice what an event sends at most
abbrev pub slices_long : Measures → Lengths → Bool
slices_long s l =
    leb (room_size s) l.room && (leb (directory_size s) l.room && (leb (s.k * s.f - 4) l.out && (ltb (s.k * s.f - 4) l.page
    && (leb (2 * (s.k * s.f) + 32) l.text && leb (2 * needed s) l.post))))

abbrev pub lengths : Held → Lengths
lengths x =
    record { room = length x.lent.room; out = length x.lent.out; post = length x.lent.post; page = length x.page; text = length x.text }

-- what it prints, the stage after it, and the memory
pub record Reply : Type 0 where
  pub line : List ℕ
  pub stage : ℕ
  pub memory : List ℕ

abbrev pub refuses : ℕ → List ℕ → Reply
refuses x memory = record { line = refused_line x; stage = 2; memory = memory }

-- a `config`: 1 for its measures; 2 for those that are too big, and for slices or a memory that are too short; else the header, and a fresh memory
unfoldable pub opens : Measures → Lengths → List ℕ → Reply
opens s l memory =
    cond (passes s)
    (cond (small s)
    (cond (slices_long s l)
    (cond (leb (memory_size s) (length memory))
    (record { line = header_line s.m s.n s.k s.t s.f; stage = 1; memory = (memory_fresh s memory).memory })
    (refuses 2 memory)) (refuses 2 memory)) (refuses 2 memory)) (refuses 1 memory)

-- any other first line: 4
abbrev pub first_reply : Asked → Lengths → List ℕ → Reply
first_reply (Asked.config m n k t f) l memory = opens (record { m = m; n = n; k = k; t = t; f = f }) l memory
first_reply (Asked.read c) l memory = refuses 4 memory
first_reply (Asked.deposit c bytes) l memory = refuses 4 memory
first_reply Asked.other l memory = refuses 4 memory

-- a `config` sets the measures, and any other first line leaves them
abbrev pub first_measures : Asked → Measures → Measures
first_measures (Asked.config m n k t f) s = record { m = m; n = n; k = k; t = t; f = f }
first_measures (Asked.read c) s = s
first_measures (Asked.deposit c bytes) s = s
first_measures Asked.other s = s

-- a reply is printed, and the measures are these
pub record Replies (w : Reply) (s : Measures) (text memory' text' : List ℕ) (y : Session) (len : ℕ) : Type 0 where
  pub line : written text' len ≡ put_line text w.line
  pub memory : memory' ≡ w.memory
  pub next : y ≡ new_line w.stage s 0

abbrev pub First : Asked → Measures → Lengths → List ℕ → List ℕ → List ℕ → List ℕ → Session → ℕ → Type 0
First a s l memory text memory' text' y len = Replies (first_reply a l memory) (first_measures a s) text memory' text' y len

-- ---- a later line

-- the start of a reading of client c, which is lent no output; of a deposit, which is lent no room either
pub record Reads (s : Measures) (c used : ℕ) (x y : Lent) (result : EventEnd) : Type 0 where
  pub event : Happens s honest_all (reading c x.room) used (without x) (without y) result
  pub out : y.out ≡ x.out

pub record Deposits (s : Measures) (c used : ℕ) (page : List ℕ) (x y : Lent) (result : EventEnd) : Type 0 where
  pub event : Happens s honest_all (deposit c page) used (alone x) (alone y) result
  pub room : y.room ≡ x.room
  pub out : y.out ≡ x.out

-- an operation of client c: its start, then parcels are handed over
pub record Operates (s : Measures) (c : ℕ) (Starts : Lent → EventEnd → Type 0) (x y : Desk) : Type 0 where
  pub result : EventEnd
  pub mid : Lent
  pub starts : Starts mid result
  pub settles : Settles s c result mid x.text y.lent y.text (record { used = y.used; len = y.len })

-- a refusal, by its number
pub record Refuses (n : ℕ) (x y : Desk) : Type 0 where
  pub line : written y.text y.len ≡ put_line x.text (refused_line n)
  pub lent : y.lent ≡ x.lent
  pub used : y.used ≡ x.used

-- a `config`, or a line of another form: 4
abbrev pub Later : Asked → Measures → Desk → Desk → Type 0
Later (Asked.config m n k t f) s x y = Refuses 4 x y
Later (Asked.read c) s x y = Operates s c (Reads s c x.used x.lent) x y
Later (Asked.deposit c bytes) s x y = Operates s c (Deposits s c x.used bytes x.lent) x y
Later Asked.other s x y = Refuses 4 x y

-- ---- a line that asks for this ended, by the stage; the page is as it was

pub record Ends (x : Held) (a : Asked) (y : Held) (len : ℕ) : Type 0 where
  pub page : y.page ≡ x.page
  pub first : x.session.stage ≡ 0 → First a x.session.measures (lengths x) x.lent.memory x.text y.lent.memory y.text y.session len
      × (y.lent.post ≡ x.lent.post) × (y.lent.room ≡ x.lent.room) × (y.lent.out ≡ x.lent.out)
  pub later : x.session.stage ≡ 1 → Later a x.session.measures (desk_of x 0) (desk_of y len)
      × (y.session ≡ new_line 1 x.session.measures y.session.used)
  pub over : 1 < x.session.stage → (y ≡ x) × (len ≡ 0)

-- of the bytes p of a line it is `stand_line p` that is asked for; but of a page, where the slice would be too short for the measures, only the bytes
-- for which it has room
abbrev pub within : Measures → List ℕ → Asked → Asked
within s page (Asked.config m n k t f) = Asked.config m n k t f
within s page (Asked.read c) = Asked.read c
within s page (Asked.deposit c bytes) = Asked.deposit c (cond (ltb (s.k * s.f - 4) (length page)) bytes (take (length page) bytes))
within s page Asked.other = Asked.other

-- ---- a byte b of a line: nothing is printed

abbrev pub taken : Held → ℕ → Held
taken x b =
    held (record { stage = x.session.stage; measures = x.session.measures; used = x.session.used; «open» = true; reading = next_of x.session.reading b (length x.page) })
    x.lent (next_page x.session.reading b x.page) x.text

-- ---- a byte of the input: a line feed ends the line; in any case a session stays live

pub record Feeds (x : Held) (b : ℕ) (y : Held) (len : ℕ) : Type 0 where
  pub live : LiveIn x → LiveIn y
  pub ends : b ≡ 10 → Ends x (asks x) y len
  pub takes : (b ≡ 10 → ⊥) → (y ≡ taken x b) × (len ≡ 0)

-- its end: a last line may lack its line feed
pub record Closes (x y : Held) (len : ℕ) : Type 0 where
  pub live : LiveIn x → LiveIn y
  pub ends : x.session.open ≡ true → Ends x (asks x) y len
  pub over : x.session.open ≡ false → (y ≡ x) × (len ≡ 0)

-- bytes of the input, one after the other
pub data FeedsAll (x : Held) : List ℕ → Held → Type 0 where
  begun : FeedsAll x [] x
  more : (bytes : List ℕ) (b len : ℕ) (y z : Held) → FeedsAll x bytes y → Feeds y b z len → FeedsAll x (bytes ++ (b ∷ [])) z

-- the line that is due at one of them could not be written: all before it are fed, and it is the last; this is what is lent after it
pub record FeedsSome (x : Held) (bytes : List ℕ) (lent : Lent) (page text : List ℕ) : Type 0 where
  pub session : Session
  pub before : Held
  pub fed : ℕ
  pub len : ℕ
  pub within : fed < length bytes
  pub feeds : FeedsAll x (take fed bytes) before
  pub last : Feeds before (slice_index bytes fed) (held session lent page text) len
  pub due : (0 < len) × (len ≤ length text)

-- a read of standard input, of at most so many bytes: n of them stand at the front of the slice
-- what it leaves in that many bytes of the slice is free, also where it gives none; the rest is as it was
pub record Gives (most : ℕ) (input input' : List ℕ) (n : ℕ) : Type 0 where
  pub few : n ≤ most
  pub fits : n ≤ length input
  pub same : length input' ≡ length input
  pub rest : drop most input' ≡ drop most input

-- parts of standard input are read and fed, one after the other; so many bytes may still be read
pub data FeedsParts (x : Held) (input : List ℕ) (most : ℕ) : Held → List ℕ → ℕ → Type 0 where
  unfed : FeedsParts x input most x input most
  part : (y z : Held) (before after : List ℕ) (left n : ℕ) → FeedsParts x input most y before left → (y.session.stage ≡ 2 → ⊥) → Gives left before after n
      → 0 < n → FeedsAll y (take n after) z → FeedsParts x input most z after (left - n)

-- until no byte is left to read or a first line was refused, and then nothing is read, or a read gives none
pub record FeedsInput (x : Held) (input : List ℕ) (most : ℕ) (y : Held) (input' : List ℕ) (left : ℕ) : Type 0 where
  pub before : List ℕ
  pub parts : FeedsParts x input most y before left
  pub unread : (left ≡ 0) ⊎ (y.session.stage ≡ 2) → input' ≡ before
  pub last : 0 < left → (y.session.stage ≡ 2 → ⊥) → Gives left before input' 0

-- a read fails: of the slice it leaves what one leaves that gives none; or a line cannot be written, and then the last part is fed up to its byte
pub data FeedsPart (x : Held) (input : List ℕ) (most : ℕ) (lent : Lent) (page text : List ℕ) : List ℕ → Type 0 where
  unread : (y : Session) (before after : List ℕ) (left : ℕ) → FeedsParts x input most (held y lent page text) before left → 0 < left → (y.stage ≡ 2 → ⊥)
      → Gives left before after 0 → FeedsPart x input most lent page text after
  unwritten : (y : Held) (before after : List ℕ) (left n : ℕ) → FeedsParts x input most y before left → (y.session.stage ≡ 2 → ⊥) → Gives left before after n
      → 0 < n → FeedsSome y (take n after) lent page text → FeedsPart x input most lent page text after

pub record Closed (x y : Held) : Type 0 where
  pub len : ℕ
  pub closes : Closes x y len

-- its last line is due and could not be written: it is closed all the same
pub record Closing (x : Held) (lent : Lent) (page text : List ℕ) : Type 0 where
  pub session : Session
  pub len : ℕ
  pub closes : Closes x (held session lent page text) len
  pub due : (0 < len) × (len ≤ length text)
