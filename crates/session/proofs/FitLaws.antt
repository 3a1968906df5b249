-- In a session whose `config` was taken the text has room for every line, so that of `put_line` only the case of a line that fits occurs. Of a client's answer
-- this asks that its numbers fit their types and its page the measures (`Bounded`).
use mathlib.Core.Path.{◌≡◌, refl, sym, ap, ◌∙◌}
use mathlib.Core.Bool.{Bool, true, false, cond}
use mathlib.Core.List.{List, ◌++◌}
use mathlib.Core.Option.{some, none}
use Prim.Native.Nat.{ℕ, ◌+◌, ◌-◌, ◌*◌, ◌<◌, ◌≤◌}
use native.Mathlib.Omega.{arith}
use borrow.Author.Tests.{leb-true, le-leb}
use lib.Dec.{leb, ltb}
use lib.ListN.{length, take, drop, length-append, length-take, length-drop}
use lib.Seq.{take_at}
use Rattle.std.specs.Prelude.{Ok, Err}
use Rattle.parties.specs.declared.Measures.{Measures}
use Rattle.parties.specs.declared.Version.{Version}
use Rattle.parties.specs.protocol.Measures.{passes}
use Rattle.parties.specs.protocol.ClientEvents.{room_size}
use Rattle.parties.specs.protocol.DirectoryEvents.{directory_size}
use Rattle.parties.proofs.protocol.formats.MeasureLaws.{passed}
use Rattle.parties.specs.declared.Refusal.{Refusal}
use Rattle.parties.specs.records.Answer.{number}
use Rattle.title.specs.Memory.{memory_size}
use Rattle.parties.specs.declared.ClientAnswer.{ClientAnswer}
use Rattle.runs.specs.declared.answer.Happened.{Happened}
use Rattle.lines.specs.Text.{Written, written, put_line}
use Rattle.lines.specs.Sentences.{header_line, refused_line}
use Rattle.lines.proofs.WordsLaws.{and_left, and_right}
use Rattle.lines.proofs.LengthLaws.{header_length, refused-length, deposited-length, nothing-length, page-length}
use Rattle.session.specs.declared.session.Session.{Session}
use Rattle.session.specs.declared.session.Lengths.{Lengths}
use Rattle.session.specs.Say.{client_line, happened_line, put_told}
use Rattle.session.specs.Session.{small, slices_long, Reply, refuses, opens, Replies}

-- slices that suffice have a text of so many bytes
pub text-enough : (s : Measures) (l : Lengths) → slices_long s l ≡ true → 2 * (s.k * s.f) + 32 ≤ l.text
text-enough s l e =
    let a = and_right (leb (room_size s) l.room) _ e in
    let b = and_right (leb (directory_size s) l.room) _ a in
    let c = and_right (leb (s.k * s.f - 4) l.out) _ b in
    let d = and_right (ltb (s.k * s.f - 4) l.page) _ c in
    leb-true (2 * (s.k * s.f) + 32) l.text (and_left (leb (2 * (s.k * s.f) + 32) l.text) _ d)

number_small : (r : Refusal) → number r < 100
number_small Refusal.Measures = omega arith
number_small Refusal.Short = omega arith
number_small Refusal.Number = omega arith
number_small Refusal.Form = omega arith
number_small Refusal.Length = omega arith
number_small Refusal.Rule = omega arith
number_small Refusal.Owner = omega arith
number_small Refusal.OutOfTurn = omega arith
number_small Refusal.TooLong = omega arith
number_small Refusal.Spent = omega arith
number_small Refusal.Full = omega arith

-- versions as `u32` and `u8` hold them, and a page that is no longer than k pieces of F bytes hold
pub record Bounded (s : Measures) (a : ClientAnswer) : Type 0 where
  pub deposited : (v : Version) (n : ℕ) → a ≡ ClientAnswer.Deposited v n → v.sequence.0 < 4294967296
  pub page : (v : Version) (n : ℕ) → a ≡ ClientAnswer.Page v n → (v.sequence.0 < 4294967296) × (v.client < 256) × (n ≤ s.k * s.f - 4)

-- a line that is said to be this one
same_line : (d l : List ℕ) (n : ℕ) → some d ≡ some l → length d ≤ n → length l ≤ n
same_line d l n e h =
    let f : d ≡ l = cc in rw f at h

no_line : (l : List ℕ) (n : ℕ) → none ≡ some l → length l ≤ n
no_line l n e =
    let z : ◌≡◌ {A = ℕ} 0 1 = cc in omega arith

module _ (s : Measures) (ok : passes s ≡ true) where
  pub refused-fits : (x : ℕ) → x < 100 → length (refused_line x) ≤ 2 * (s.k * s.f) + 32
  refused-fits x h = omega (arith, refused-length x h)

  pub header_fits : small s ≡ true → length (header_line s.m s.n s.k s.t s.f) ≤ 2 * (s.k * s.f) + 32
  header_fits e =
      let q = passed s ok in
      let a : s.m ≤ 3 = leb-true s.m 3 (and_left (leb s.m 3) (leb s.f 64) e) in
      let b : s.f ≤ 64 = leb-true s.f 64 (and_right (leb s.m 3) (leb s.f 64) e) in
      let d : s.n ≤ 16 = q.nodes.1 in
      let g : 2 * s.t + s.k ≤ s.n = q.enough in
      omega (arith, header_length s.m s.n s.k s.t s.f (omega arith) (omega arith) (omega arith) (omega arith) (omega arith))

  module _ (c : ℕ) (h : c < 4294967296) (out l : List ℕ) where
    client-fits : (a : ClientAnswer) → Bounded s a → client_line c a out ≡ some l → length l ≤ 2 * (s.k * s.f) + 32
    client-fits ClientAnswer.Waits b e = no_line l _ e
    client-fits ClientAnswer.Scan b e = no_line l _ e
    client-fits (ClientAnswer.Update n) b e = no_line l _ e
    client-fits (ClientAnswer.Stores v n) b e = no_line l _ e
    client-fits (ClientAnswer.Requests v n) b e = no_line l _ e
    client-fits (ClientAnswer.Deposited v n) b e =
        same_line _ l _ e (omega (arith, deposited-length c h v.sequence.0 (b.deposited v n refl)))
    client-fits ClientAnswer.Empty b e = same_line _ l _ e (omega (arith, nothing-length c h))
    client-fits (ClientAnswer.Page v n) b e =
        let p = b.page v n refl in
        let f : 4 ≤ s.k * s.f = (passed s ok).frame in
        let t : length (take n out) ≤ n = omega (arith, length-take n out) in
        same_line _ l _ e (omega (arith, p.2, page-length c h v.sequence.0 v.client (take n out) p.0 p.1))
    client-fits ClientAnswer.Spent b e = same_line _ l _ e (refused-fits 7 (omega arith))
    client-fits ClientAnswer.Failed b e = same_line _ l _ e (refused-fits 9 (omega arith))

    -- whatever an operation of client c tells
    pub line-fits : (what : Happened) → ((a : ClientAnswer) → what ≡ Happened.ByClient (Ok a) → Bounded s a) → happened_line c what out ≡ some l
        → length l ≤ 2 * (s.k * s.f) + 32
    line-fits (Happened.Refused r) b e = same_line _ l _ e (refused-fits (number r) (number_small r))
    line-fits Happened.Nothing b e = no_line l _ e
    line-fits Happened.Taken b e = no_line l _ e
    line-fits (Happened.ByClient (Err r)) b e = same_line _ l _ e (refused-fits (number r) (number_small r))
    line-fits (Happened.ByClient (Ok a)) b e = client-fits a (b a refl) e
    line-fits (Happened.ByServer a) b e = no_line l _ e

-- ---- so each line stands whole in the text, and leaves it as long as it was

abbrev Whole : List ℕ → List ℕ → List ℕ → ℕ → Type 0
Whole line text after r = (r ≡ length line) × (take r after ≡ line) × (length after ≡ length text)

whole : (line text after : List ℕ) (r : ℕ) → written after r ≡ put_line text line → length line ≤ length text → Whole line text after r
unfolding put_line
whole line text after r x h =
    let w : written after r ≡ written (line ++ drop (length line) text) (length line) = x ∙ simp (le-leb (length line) (length text) h) in
    let a : r ≡ length line = ap (λ (z : Written). z.answer) w in
    let e : after ≡ line ++ drop (length line) text = ap (λ (z : Written). z.text) w in
    let n : length after ≡ length text = ap length e ∙ simp (length-append, length-drop) (omega arith) in
    (a, ap (take r) e ∙ take_at line (drop (length line) text) r (sym a), n)

opened : (p q r t : Bool) (a : Reply) (memory : List ℕ)
    → (cond p (cond q (cond r (cond t a (refuses 2 memory)) (refuses 2 memory)) (refuses 2 memory)) (refuses 1 memory)).stage ≡ 1
    → (p ≡ true) × (q ≡ true) × (r ≡ true) × (t ≡ true)
opened true true true true a memory e = (refl, refl, refl, refl)
opened true true true false a memory e = absurd (omega arith)
opened true true false t a memory e = absurd (omega arith)
opened true false r t a memory e = absurd (omega arith)
opened false q r t a memory e = absurd (omega arith)

-- of a `config` that is taken
pub header_whole : (s : Measures) (l : Lengths) (memory text memory' text' : List ℕ) (y : Session) (len : ℕ) → l.text ≡ length text
    → (opens s l memory).stage ≡ 1 → Replies (opens s l memory) s text memory' text' y len
    → Whole (header_line s.m s.n s.k s.t s.f) text text' len × (2 * (s.k * s.f) + 32 ≤ length text')
unfolding opens
header_whole s l memory text memory' text' y len e g w =
    let o = opened (passes s) (small s) (slices_long s l) (leb (memory_size s) (length memory)) _ memory g in
    let i : written text' len ≡ put_line text (header_line s.m s.n s.k s.t s.f) = rw (o.0, o.1, o.2, o.3) at w.line in
    let f = text-enough s l o.2 in
    let v = whole _ text text' len i (omega (arith, header_fits s o.0 o.1)) in (v, omega (arith, v.2))

-- of an answer, in a text that has room
module _ (s : Measures) (ok : passes s ≡ true) (text after : List ℕ) (r : ℕ) (room : 2 * (s.k * s.f) + 32 ≤ length text) where
  pub refused-whole : (x : ℕ) → x < 100 → written after r ≡ put_line text (refused_line x) → Whole (refused_line x) text after r
  refused-whole x h i = whole _ text after r i (omega (arith, refused-fits s ok x h))

  pub told-whole : (c : ℕ) → c < 4294967296 → (what : Happened) → ((a : ClientAnswer) → what ≡ Happened.ByClient (Ok a) → Bounded s a) → (out l : List ℕ)
      → happened_line c what out ≡ some l → written after r ≡ put_told text (happened_line c what out) → Whole l text after r
  told-whole c h what b out l e i =
      let f = line-fits s ok c h out l what b e in
      let j : written after r ≡ put_line text l = rw e at i in whole l text after r j (omega arith)
