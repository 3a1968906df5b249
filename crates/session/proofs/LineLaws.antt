-- Laws of what a line of a session prints.
use mathlib.Core.Path.{◌≡◌, refl, sym, ap, ◌∙◌}
use mathlib.Core.Bool.{Bool, true, false, cond}
use mathlib.Core.List.{List, [], ◌∷◌, ◌++◌}
use mathlib.Core.Logic.{◌≢◌}
use Prim.Native.Nat.{ℕ, ◌-◌, ◌*◌, ◌<◌, ◌≤◌, min}
use native.Mathlib.Decide.{dec_le}
use native.Mathlib.Nat.{mul-le-mul}
use native.Mathlib.Omega.{arith}
use borrow.Author.Tests.{ltb-true, lt-leb, le-leb}
use lib.Dec.{ltb}
use lib.ListN.{length, take}
use lib.Seq.{take_all, length-take-le}
use Rattle.parties.specs.declared.Measures.{Measures}
use Rattle.parties.specs.protocol.Measures.{passes}
use Rattle.parties.specs.protocol.Answer.{refuses as refusal, serves}
use Rattle.parties.specs.protocol.Run.{deposit, reading}
use Rattle.parties.proofs.protocol.formats.MeasureLaws.{passed}
use Rattle.parties.specs.declared.Refusal.{Refusal}
use Rattle.parties.specs.records.Answer.{number}
use Rattle.parties.specs.Answer.{served}
use Rattle.title.specs.Memory.{memory_size, MemoryEnd, memory_fresh}
use Rattle.title.specs.Part.{short}
use Rattle.title.proofs.FreshMemoryLaws.{fresh-refused, fresh-served}
use Rattle.runs.specs.declared.answer.EventEnd.{EventEnd}
use Rattle.runs.specs.Acts.{Lent}
use Rattle.runs.specs.Happens.{Happens}
use Rattle.runs.specs.Oldest.{honest_all, without, alone}
use Rattle.std.specs.Prelude.{Option as Told, Some, None, Result, Ok, Err}
use Rattle.std.proofs.lemmas.List.{take_min}
use Rattle.runs.proofs.StartLaws.{deposit-long}
use Rattle.lines.specs.declared.command.Command.{Command}
use Rattle.lines.specs.declared.read.Reading.{Reading}
use Rattle.lines.specs.declared.read.Line.{Line}
use Rattle.lines.specs.Line.{Kept}
use Rattle.lines.specs.Read.{ended_of, Read}
use Rattle.lines.specs.Command.{Asked, Asks, stand_line, asked_of, given}
use Rattle.lines.specs.Text.{written, put_line}
use Rattle.lines.specs.Sentences.{header_line, refused_line}
use Rattle.lines.proofs.ReadLaws.{next-read, ended-read}
use Rattle.lines.proofs.CommandLaws.{asked-line}
use Rattle.session.specs.declared.session.Session.{Session}
use Rattle.session.specs.declared.session.Lengths.{Lengths}
use Rattle.session.specs.declared.settle.Settled.{Settled}
use Rattle.session.specs.Settle.{Desk, desk, Settles}
use Rattle.session.specs.Session.{Held, new_line, desk_of, asks, small, slices_long, lengths, Reply, refuses, opens, first_reply, first_measures, Replies, First}
use Rattle.session.specs.Session.{Reads, Deposits as StartsDeposit, Operates, Refuses, Later, Ends, within, taken}
use Rattle.session.proofs.SessionLaws.{fresh-long}

-- ---- whether the slices suffice

pub frame_bound : (s : Measures) → passes s ≡ true → (4 ≤ s.k * s.f) × (s.k * s.f ≤ 65536) × (s.n * s.f ≤ 65536)
frame_bound s p =
    let q = passed s p in
    let k : s.k ≤ 16 = omega (arith, q.enough, q.nodes.1) in (q.frame, mul-le-mul k q.bytes.1, mul-le-mul q.nodes.1 q.bytes.1)

-- ---- a `config`

module _ (s : Measures) (l : Lengths) (memory : List ℕ) where
  pub opens-measures : passes s ≡ false → opens s l memory ≡ refuses 1 memory
  unfolding opens
  opens-measures e = rw e refl

  pub opens_big : passes s ≡ true → small s ≡ false → opens s l memory ≡ refuses 2 memory
  unfolding opens
  opens_big e f = rw (e, f) refl

  pub opens_scarce : passes s ≡ true → small s ≡ true → slices_long s l ≡ false → opens s l memory ≡ refuses 2 memory
  unfolding opens
  opens_scarce e f w = rw (e, f, w) refl

  -- the service refuses a memory that is too short, and nothing else
  pub opens-short : (a : Result ℕ Refusal) (r : Refusal) (n : ℕ) → passes s ≡ true → small s ≡ true → slices_long s l ≡ true → a ≡ Err r → served a ≡ (memory_fresh s memory).answer → n ≡ number r
      → (opens s l memory ≡ refuses n memory) × ((memory_fresh s memory).memory ≡ memory)
  unfolding opens
  opens-short a r n e f w g h m = go (dec_le (memory_size s) (length memory))
    where
      go : Dec (memory_size s ≤ length memory) → (opens s l memory ≡ refuses n memory) × ((memory_fresh s memory).memory ≡ memory)
      go (yes q) =
          let i : refusal (number r) ≡ serves 0 = sym (ap served g) ∙ h ∙ ap (λ (x : MemoryEnd). x.answer) (fresh-served s memory e q) in
          let z : ◌≡◌ {A = ℕ} 0 1 = cc in absurd (omega arith)
      go (no q) =
          let d = fresh-refused s memory 2 (short e (omega arith)) in
          let i : refusal (number r) ≡ refusal 2 = sym (ap served g) ∙ h ∙ sym d.0 in
          let j : 2 ≡ n = cc in
          (rw (e, f, w, lt-leb (memory_size s) (length memory) (omega arith)) (ap (λ (x : ℕ). refuses x memory) j), sym d.1)

  pub opens-taken : (a : Result ℕ Refusal) (k : ℕ) → passes s ≡ true → small s ≡ true → slices_long s l ≡ true → a ≡ Ok k → served a ≡ (memory_fresh s memory).answer
      → opens s l memory ≡ record { line = header_line s.m s.n s.k s.t s.f; stage = 1; memory = (memory_fresh s memory).memory }
  unfolding opens
  opens-taken a k e f w g h =
      let d : memory_size s ≤ length memory = fresh-long s memory a k e g h in rw (e, f, w, le-leb (memory_size s) (length memory) d) refl

-- ---- a reply

pub replied : (w v : Reply) (s : Measures) (text memory' text' : List ℕ) (y : Session) (n len : ℕ) → w ≡ v → written text' n ≡ put_line text v.line
    → memory' ≡ v.memory → len ≡ n → y ≡ new_line v.stage s 0 → Replies w s text memory' text' y len
replied w v s text memory' text' y n len e l m q g = rw (e, q) (record { line = l; memory = m; next = g })

-- ---- what the line that ended asks for

pub asked_is : (r : Reading) (l : Line) (a : Told Command) → l ≡ ended_of r → a ≡ asked_of l → asked_of (ended_of r) ≡ a
asked_is r l a e f = ap asked_of (sym e) ∙ sym f

-- ---- a refusal at a later line

pub refused_again : (x : Lent) (text text' : List ℕ) (n k used used' len : ℕ) → len ≡ k → used' ≡ used → written text' k ≡ put_line text (refused_line n)
    → Refuses n (desk x used text 0) (desk x used' text' len)
refused_again x text text' n k used used' len e u l = record { line = rw e l; lent = refl; used = u }

-- ---- a line of bytes p: what is kept of it asks for what p asks for

module _ (l : Lengths) (memory : List ℕ) (x s : Measures) where
  first-line : (a : Asked) (page : List ℕ) (r : Told Command) → Asks a page r
      → (first_reply (given r page) l memory ≡ first_reply (within s page a) l memory) × (first_measures (given r page) x ≡ first_measures (within s page a) x)
  first-line (Asked.config m n k t f) page (Some (Command.Config m' n' k' t' f')) h = rw (h.0, h.1, h.2, h.3, h.4) (refl, refl)
  first-line (Asked.config m n k t f) page (Some (Command.Read c)) h = absurd h
  first-line (Asked.config m n k t f) page (Some (Command.Deposit c b)) h = absurd h
  first-line (Asked.config m n k t f) page None h = absurd h
  first-line (Asked.read c) page (Some (Command.Config m n k t f)) h = absurd h
  first-line (Asked.read c) page (Some (Command.Read c')) h = (refl, refl)
  first-line (Asked.read c) page (Some (Command.Deposit c' b)) h = absurd h
  first-line (Asked.read c) page None h = absurd h
  first-line (Asked.deposit c bytes) page (Some (Command.Config m n k t f)) h = absurd h
  first-line (Asked.deposit c bytes) page (Some (Command.Read c')) h = absurd h
  first-line (Asked.deposit c bytes) page (Some (Command.Deposit c' n)) h = (refl, refl)
  first-line (Asked.deposit c bytes) page None h = absurd h
  first-line Asked.other page (Some (Command.Config m n k t f)) h = absurd h
  first-line Asked.other page (Some (Command.Read c)) h = absurd h
  first-line Asked.other page (Some (Command.Deposit c n)) h = absurd h
  first-line Asked.other page None h = (refl, refl)

-- the part of the slice that is deposited: the bytes that were given, as far as there was room
kept-page : (bytes page : List ℕ) (n : ℕ) → Kept bytes n page → take n page ≡ take (length page) bytes
kept-page bytes page n k =
    let w : n ≡ min (length page) (length bytes) = omega (arith, k.size) in k.front ∙ ap (λ (m : ℕ). take m bytes) w ∙ take_min (length page) bytes

-- if more were given, the page is too long for the measures either way
kept-starts : (s : Measures) (c used n : ℕ) (bytes page : List ℕ) (x y : Lent) (result : EventEnd) → Kept bytes n page
    → StartsDeposit s c used (take n page) x y result → StartsDeposit s c used (cond (ltb (s.k * s.f - 4) (length page)) bytes (take (length page) bytes)) x y result
kept-starts s c used n bytes page x y result k h = go (ltb (s.k * s.f - 4) (length page)) refl
  where
    by : (b : List ℕ) → Happens s honest_all (deposit c b) used (alone x) (alone y) result → StartsDeposit s c used b x y result
    by b e = record { event = e; room = h.room; out = h.out }

    part : Happens s honest_all (deposit c (take (length page) bytes)) used (alone x) (alone y) result
    part = rw (kept-page bytes page n k) at h.event

    whole : s.k * s.f - 4 < length page → Dec (length bytes ≤ length page) → Happens s honest_all (deposit c bytes) used (alone x) (alone y) result
    whole w (yes l) = rw (take_all (length page) bytes l) at part
    whole w (no l) =
        let m : length page ≤ length bytes = omega arith in
        let a : s.k * s.f - 4 < length (take (length page) bytes) = omega (arith, length-take-le (length page) bytes m) in
        let b : s.k * s.f - 4 < length bytes = omega arith in deposit-long s honest_all c used (alone x) (alone y) (take (length page) bytes) bytes a b result part

    go : (b : Bool) → ltb (s.k * s.f - 4) (length page) ≡ b → StartsDeposit s c used (cond b bytes (take (length page) bytes)) x y result
    go true q = by bytes (whole (ltb-true (s.k * s.f - 4) (length page) q) (dec_le (length bytes) (length page)))
    go false q = by (take (length page) bytes) part

-- ---- a line that asks for something else

-- a first line that is no `config`
pub first-other : (r : Told Command) (page : List ℕ) (x : Measures) (l : Lengths) (memory text memory' text' : List ℕ) (y : Session) (len : ℕ)
    → ((m n k t f : ℕ) → r ≢ Some (Command.Config m n k t f)) → Replies (refuses 4 memory) x text memory' text' y len → First (given r page) x l memory text memory' text' y len
first-other (Some (Command.Config m n k t f)) page x l memory text memory' text' y len o w = absurd (o m n k t f refl)
first-other (Some (Command.Read c)) page x l memory text memory' text' y len o w = w
first-other (Some (Command.Deposit c n)) page x l memory text memory' text' y len o w = w
first-other None page x l memory text memory' text' y len o w = w

-- a later line that starts no operation
pub later-other : (r : Told Command) (page : List ℕ) (s : Measures) (x y : Desk) → ((c : ℕ) → r ≢ Some (Command.Read c)) → ((c n : ℕ) → r ≢ Some (Command.Deposit c n))
    → Refuses 4 x y → Later (given r page) s x y
later-other (Some (Command.Config m n k t f)) page s x y o d z = z
later-other (Some (Command.Read c)) page s x y o d z = absurd (o c refl)
later-other (Some (Command.Deposit c n)) page s x y o d z = absurd (d c n refl)
later-other None page s x y o d z = z

module _ (s : Measures) (x y : Desk) where
  later-line : (a : Asked) (page : List ℕ) (r : Told Command) → Asks a page r → Later (given r page) s x y → Later (within s page a) s x y
  later-line (Asked.config m n k t f) page (Some (Command.Config m' n' k' t' f')) h z = z
  later-line (Asked.config m n k t f) page (Some (Command.Read c)) h z = absurd h
  later-line (Asked.config m n k t f) page (Some (Command.Deposit c b)) h z = absurd h
  later-line (Asked.config m n k t f) page None h z = absurd h
  later-line (Asked.read c) page (Some (Command.Config m n k t f)) h z = absurd h
  later-line (Asked.read c) page (Some (Command.Read c')) h z = rw h at z
  later-line (Asked.read c) page (Some (Command.Deposit c' b)) h z = absurd h
  later-line (Asked.read c) page None h z = absurd h
  later-line (Asked.deposit c bytes) page (Some (Command.Config m n k t f)) h z = absurd h
  later-line (Asked.deposit c bytes) page (Some (Command.Read c')) h z = absurd h
  later-line (Asked.deposit c bytes) page (Some (Command.Deposit c' n)) h z =
      let o : Operates s c (StartsDeposit s c x.used (take n page) x.lent) x y = rw h.0 at z in
      record { result = o.result; mid = o.mid; starts = kept-starts s c x.used n bytes page x.lent o.mid o.result h.1 o.starts; settles = o.settles }
  later-line (Asked.deposit c bytes) page None h z = absurd h
  later-line Asked.other page (Some (Command.Config m n k t f)) h z = absurd h
  later-line Asked.other page (Some (Command.Read c)) h z = absurd h
  later-line Asked.other page (Some (Command.Deposit c n)) h z = absurd h
  later-line Asked.other page None h z = z

-- so, where the front p of a line was read, its end is as p says
pub ends-line : (p : List ℕ) (x y : Held) (len : ℕ) → Read p x.session.reading x.page → Ends x (asks x) y len
    → Ends x (within x.session.measures x.page (stand_line p)) y len
ends-line p x y len h e =
    let l = ended_of x.session.reading in
    let q : Asks (stand_line p) x.page (asked_of l) = asked-line p x.page l (ended-read p x.page x.session.reading h) in
    record {
      page = e.page;
      first = λ z.
          let f = e.first z in
          let g = first-line (lengths x) x.lent.memory x.session.measures x.session.measures (stand_line p) x.page (asked_of l) q in
          (rw (g.0, g.1) at f.0, f.1, f.2, f.3);
      later = λ z.
          let f = e.later z in (later-line x.session.measures (desk_of x 0) (desk_of y len) (stand_line p) x.page (asked_of l) q f.0, f.1);
      over = e.over;
    }

-- and each byte more is read
pub taken-read : (p : List ℕ) (x : Held) (b : ℕ) → b < 256 → Read p x.session.reading x.page → Read (p ++ (b ∷ [])) (taken x b).session.reading (taken x b).page
taken-read p x b u h = next-read p x.session.reading b x.page u h

-- an operation, from its start on
module _ (s : Measures) (c used : ℕ) (before mid end : Lent) (result : EventEnd) (text text' : List ℕ) (r : Settled) (used' len : ℕ)
    (p : Settles s c result mid text end text' r) (u : used' ≡ r.used) (l : len ≡ r.len) where
  pub reads : ((honest : ℕ → Bool) → Happens s honest (reading c before.room) used (without before) (without mid) result) → mid.out ≡ before.out
      → Operates s c (Reads s c used before) (desk before used text 0) (desk end used' text' len)
  reads h o = record { result = result; mid = mid; starts = record { event = h honest_all; out = o }; settles = rw (u, l) p }

  pub deposits : (b : List ℕ) → Happens s honest_all (deposit c b) used (alone before) (alone mid) result → mid.room ≡ before.room → mid.out ≡ before.out
      → Operates s c (StartsDeposit s c used b before) (desk before used text 0) (desk end used' text' len)
  deposits b h m o = record { result = result; mid = mid; starts = record { event = h; room = m; out = o }; settles = rw (u, l) p }
