-- An operation of `stand`: after its start, parcels are handed over one by one, oldest first.
use Rattle.std.specs.Prelude.{◌≡◌, cond, ◌⊎◌, List, ℕ, ◌+◌, ◌<◌, ◌≤◌, ltb, length, slice_index}
use Rattle.std.specs.Borrow.{MutBor}
use Rattle.parties.specs.declared.Measures.{Measures}
use Rattle.parties.specs.protocol.Run.{deliver}
use Rattle.parties.specs.protocol.Claim.{Lent as Given}
use Rattle.runs.specs.declared.answer.Happened.{Happened}
use Rattle.runs.specs.declared.answer.EventEnd.{EventEnd}
use Rattle.runs.specs.Acts.{Lent}
use Rattle.runs.specs.Oldest.{Oldest}
use Rattle.lines.specs.Text.{written}
use Rattle.session.specs.declared.settle.Settled.{Settled}
use Rattle.session.specs.declared.space.Slices.{Slices}
use Rattle.session.specs.Say.{happened_line, put_told}

-- what is lent, the bytes of parcels under way, the text, and the length of its line
pub record Desk : Type 0 where
  pub lent : Lent
  pub used : ℕ
  pub text : List ℕ
  pub len : ℕ

abbrev pub lend : List ℕ → List ℕ → List ℕ → List ℕ → Lent
lend memory post room out = record { memory = memory; post = post; room = room; out = out }

-- what stands in the slices, the text apart
abbrev pub lent_of : Slices → Lent
lent_of s = lend s.memory.now s.post.now s.room.now s.out.now

abbrev pub Bytes : List ℕ → Type 0
Bytes s = (i : ℕ) → slice_index s i < 256

-- it is the same slice, as long, and of bytes if it was: of a slice in a struct that is lent the prover knows neither
pub record SameSlice (x y : MutBor (List ℕ)) : Type 0 where
  pub name : y.ghost_name ≡ x.ghost_name
  pub long : length y.now ≡ length x.now
  pub bytes : Bytes x.now → Bytes y.now

pub record SameSlices (x y : Slices) : Type 0 where
  pub memory : SameSlice x.memory y.memory
  pub room : SameSlice x.room y.room
  pub out : SameSlice x.out y.out
  pub post : SameSlice x.post y.post
  pub text : SameSlice x.text y.text

abbrev pub desk : Lent → ℕ → List ℕ → ℕ → Desk
desk lent used text len = record { lent = lent; used = used; text = text; len = len }

-- the line of an answer, if it has one, takes the place of the one before
pub record Tells (c : ℕ) (what : Happened) (out text : List ℕ) (len : ℕ) (text' : List ℕ) (len' : ℕ) : Type 0 where
  pub n : ℕ
  pub says : written text' n ≡ put_told text (happened_line c what out)
  pub line_length : len' ≡ cond (ltb 0 n) n len

-- so many parcels are handed over, the oldest first; the room and the output have bytes in them
pub data Hands (s : Measures) (c : ℕ) (x : Desk) : ℕ → Desk → Type 0 where
  begun : Hands s c x 0 x
  goes : (n : ℕ) (y z : Desk) (result : EventEnd) → Hands s c x n y → Given (deliver 0 0 y.lent.room y.lent.out)
      → Oldest s y.used y.lent z.lent result → z.used ≡ result.used → Tells c result.what z.lent.out y.text y.len z.text z.len
      → Hands s c x (n + 1) z

-- more parcels than an operation has
abbrev pub most_parcels : ℕ
most_parcels = 128

-- the start's line, then parcels until none is under way, or so many
pub record Settles (s : Measures) (c : ℕ) (start : EventEnd) (x : Lent) (text : List ℕ) (y : Lent) (text' : List ℕ) (r : Settled) : Type 0 where
  pub said : List ℕ
  pub len : ℕ
  pub starts : Tells c start.what x.out text 0 said len
  pub events : ℕ
  pub most : events ≤ most_parcels
  pub done : (r.used ≡ 0) ⊎ (events ≡ most_parcels)
  pub hands : Hands s c (desk x start.used said len) events
      (desk y r.used text' r.len)
