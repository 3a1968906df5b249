-- Laws of the tests before an event at a client.
use mathlib.Core.Path.{◌≡◌, refl, sym, ap, subst, ◌∙◌}
use mathlib.Core.Bool.{Bool, true, false, true≢false, cond, ◌&&◌}
use mathlib.Core.List.{List}
use mathlib.Core.Option.{Option, some, none}
use Prim.Native.Nat.{ℕ, ◌+◌, ◌^◌, ◌<◌, ◌≤◌}
use native.Mathlib.Decide.{dec_le}
use native.Mathlib.Omega.{arith}
use borrow.Author.Tests.{le-leb, lt-leb}
use lib.Dec.{leb}
use lib.ListN.{length, length-append}
use Rattle.coding.specs.Bytes.{Bytes}
use Rattle.coding.proofs.Cases.{and-true}
use Rattle.parties.specs.declared.Measures.{Measures}
use Rattle.parties.specs.protocol.Format.{Read, write_number}
use Rattle.parties.specs.protocol.Measures.{passes}
use Rattle.parties.specs.protocol.Answer.{ClientAnswer, refused}
use Rattle.parties.specs.protocol.Client.{Client, read_client, client_size, work_size}
use Rattle.parties.specs.protocol.ClientEvents.{Step, ClientEnd, unchanged, after, on_client, guarded}
use Rattle.parties.proofs.protocol.formats.PointerLaws.{length-number}
use Rattle.parties.specs.declared.Phase.{Phase}
use Rattle.parties.specs.declared.Refusal.{Refusal}
use Rattle.std.specs.Prelude.{Option as StdOption, Some, None, Result, Ok, Err}
use Rattle.std.specs.Option.{ok_or}
use Rattle.std.specs.Result.{IsErrAnd}
use Rattle.std.proofs.lemmas.Result.{err_from_is_err_and}
use Rattle.parties.specs.records.Answer.{number}
use Rattle.parties.specs.client.Record.{record_of, area_size, is_some, work_at}
use Rattle.parties.specs.client.Gate.{Gated}
use Rattle.parties.proofs.client.AreaLaws.{ShownClient, shown, area_length}

pub record_length : (p : Phase) (area : List ℕ) → length (record_of p area) ≡ 5 + length area
record_length p area =
    let n = write_number 4 p.reading.0 in omega (arith, length-append n area, length-number 4 p.reading.0)

-- a record is long enough if its area is
pub long_record : (s : Measures) (p : Phase) (area : List ℕ) → leb (client_size s) (length (record_of p area)) ≡ leb (area_size s) (length area)
long_record s p area = go (dec_le (area_size s) (length area))
  where
    go : Dec (area_size s ≤ length area) → leb (client_size s) (length (record_of p area)) ≡ leb (area_size s) (length area)
    go (yes h) =
        le-leb (client_size s) (length (record_of p area)) (omega (arith, record_length p area)) ∙ sym (le-leb (area_size s) (length area) h)
    go (no h) =
        lt-leb (client_size s) (length (record_of p area)) (omega (arith, record_length p area)) ∙ sym (lt-leb (area_size s) (length area) (omega arith))

-- tests of which the code makes some at once
pub two_fail : (m a b r : Bool) → r ≡ (m && a) → r ≡ false → false ≡ (m && (a && b))
two_fail true a b r e f = ap (λ (x : Bool). x && b) (sym f ∙ e)
two_fail false a b r e f = refl

pub two_hold : (m a b r : Bool) → r ≡ (m && a) → r ≡ true → b ≡ (m && (a && b))
two_hold true a b r e f = ap (λ (x : Bool). x && b) (sym f ∙ e)
two_hold false a b r e f = absurd (true≢false (sym f ∙ e))

pub three_fail : (m a b c r : Bool) → r ≡ (m && (a && b)) → r ≡ false → false ≡ (m && (a && (b && c)))
three_fail true a b c r e f = two_fail a b c r e f
three_fail false a b c r e f = refl

pub three_hold : (m a b c r : Bool) → r ≡ (m && (a && b)) → r ≡ true → c ≡ (m && (a && (b && c)))
three_hold true a b c r e f = two_hold a b c r e f
three_hold false a b c r e f = absurd (true≢false (sym f ∙ e))

-- with the rows between area and room
pub rows_fail : (m a w b r : Bool) → r ≡ (m && (a && b)) → r ≡ false → false ≡ (m && (a && (w && b)))
rows_fail true true true b r e f = sym f ∙ e
rows_fail true true false b r e f = refl
rows_fail true false w b r e f = refl
rows_fail false a w b r e f = refl

pub rows_hold : (m a w b r : Bool) → r ≡ (m && (a && b)) → r ≡ true → w ≡ (m && (a && (w && b)))
rows_hold true true true b r e f = sym f ∙ e
rows_hold true true false b r e f = refl
rows_hold true false w b r e f = absurd (true≢false (sym f ∙ e))
rows_hold false a w b r e f = absurd (true≢false (sym f ∙ e))

module _ (s : Measures) (enough within : Bool) (e : ClientEnd) (refuse : ClientAnswer → ClientEnd) where
  pub guarded-measures : passes s ≡ false → guarded s enough within e refuse ≡ refuse (refused 1)
  guarded-measures h = simp h

  module _ (h : passes s ≡ true) where
    pub guarded-short : enough ≡ false → guarded s enough within e refuse ≡ refuse (refused 2)
    guarded-short a = simp (h, a)

    pub guarded-number : enough ≡ true → within ≡ false → guarded s enough within e refuse ≡ refuse (refused 3)
    guarded-number a b = simp (h, a, b)

    pub guarded_through : enough ≡ true → within ≡ true → guarded s enough within e refuse ≡ e
    guarded_through a b = simp (h, a, b)

pub broken_record : (s : Measures) (client room out : List ℕ) (o : Option (Read Client)) (f : Client → Step) → is_some o ≡ false
    → on_client s client room out o f ≡ unchanged (refused 4) client room out
broken_record s client room out none f e = refl
broken_record s client room out (some r) f e = absurd (true≢false e)

-- what an open gate lets through
pub some_value : {A : Type 0} (o : Option A) → is_some o ≡ true → (a : A) × (o ≡ some a)
some_value none e = absurd (true≢false (sym e))
some_value (some a) e = (a, refl)

-- the gate of an event: measures that pass and slices that are long enough are told in one
module _ (s : Measures) (p : Phase) (area : List ℕ) (long enough within : Bool) (e : enough ≡ (passes s && long)) (r : Result (Unit {0}) Refusal) (g : Gated s p area enough within r) where
  pub gated_open : (x : Unit {0}) → r ≡ Ok x → (passes s ≡ true) × (long ≡ true) × (within ≡ true) × (is_some (read_client s (record_of p area)) ≡ true)
  gated_open x q =
      let o = subst (Gated s p area enough within) q g in
      let m = and-true (passes s) long (sym e ∙ o.0) in (m.0, m.1, o.1, o.2)

  pub gated_shut : (n : Refusal) → r ≡ Err n → (room out : List ℕ) (f : Client → Step)
      → guarded s long within (on_client s (record_of p area) room out (read_client s (record_of p area)) f) (λ a. unchanged a (record_of p area) room out)
      ≡ unchanged (refused (number n)) (record_of p area) room out
  gated_shut n q room out f =
      let x = on_client s (record_of p area) room out (read_client s (record_of p area)) f in
      let y : ClientAnswer → ClientEnd = λ a. unchanged a (record_of p area) room out in
      sym (told (passes s) (cond within x (y (refused 3))) (y (refused 2)) (y (refused 1)))
      ∙ ap (λ (b : Bool). guarded s b within x y) (sym e) ∙ subst (Gated s p area enough within) q g room out f
    where
      told : (b : Bool) (x y z : ClientEnd) → cond b (cond (b && long) x y) z ≡ cond b (cond long x y) z
      told true x y z = refl
      told false x y z = refl

-- the step of a record that reads
pub through : (s : Measures) (enough within : Bool) (client room out : List ℕ) (f : Client → Step) (refuse : ClientAnswer → ClientEnd) (r : Read Client)
    → passes s ≡ true → enough ≡ true → within ≡ true → read_client s client ≡ some r
    → guarded s enough within (on_client s client room out (read_client s client) f) refuse ≡ after s client room out r.rest (f r.value)
through s enough within client room out f refuse r h a b e =
    guarded_through s enough within (on_client s client room out (read_client s client) f) refuse h a b
    ∙ ap (λ (o : Option (Read Client)). on_client s client room out o f) e

-- ---- behind an open gate

-- what every event finds there
pub record Opened (s : Measures) (p : Phase) (area : List ℕ) : Type 0 where
  pub measures : passes s ≡ true
  pub step : p.step < 256
  pub reading : p.reading.0 < 256 ^ 4
  pub bytes : Bytes area
  pub reads : is_some (read_client s (record_of p area)) ≡ true

pub opens : (s : Measures) (p : Phase) (area : List ℕ) → passes s ≡ true → is_some (read_client s (record_of p area)) ≡ true
    → p.step < 256 → p.reading.0 < 256 ^ 4 → Bytes area → Opened s p area
opens s p area h r a b c = record { measures = h; step = a; reading = b; bytes = c; reads = r }

module _ (s : Measures) (p : Phase) (area : List ℕ) (opened : Opened s p area) where
  -- the client whose record it is
  abbrev pub found : Read Client
  found = (some_value (read_client s (record_of p area)) opened.reads).0

  pub found-reads : read_client s (record_of p area) ≡ some found
  found-reads = (some_value (read_client s (record_of p area)) opened.reads).1

  pub found-shows : ShownClient s p area found.value found.rest
  found-shows = shown s p area opened.step opened.reading opened.bytes found found-reads

  pub work_within : work_at s + work_size s ≤ length area
  work_within = omega (arith, area_length s opened.measures p area found.value found.rest found-shows)

-- an event that its gate lets through
pub record Entered (s : Measures) (p : Phase) (area : List ℕ) (long numbers : Bool) : Type 0 where
  pub opened : Opened s p area
  pub enough : long ≡ true
  pub within : numbers ≡ true

pub enters : (s : Measures) (p : Phase) (area : List ℕ) (long enough numbers : Bool) → enough ≡ (passes s && long)
    → (r : Result (Unit {0}) Refusal) → Gated s p area enough numbers r → (x : Unit {0}) → r ≡ Ok x
    → p.step < 256 → p.reading.0 < 256 ^ 4 → Bytes area → Entered s p area long numbers
enters s p area long enough numbers e r g x q a b c =
    let o = gated_open s p area long enough numbers e r g x q in
    record { opened = record { measures = o.0; step = a; reading = b; bytes = c; reads = o.3 }; enough = o.1; within = o.2 }

-- the refusal that a `?` hands on
pub handed : {T : Type 0} (n : Refusal) (r : Result T Refusal) → IsErrAnd r (λ x. x ≡ n) → r ≡ Err n
handed n r e = let p = err_from_is_err_and r e in p.1 ∙ ap Err p.2

-- an option as a result
pub some_result : {A : Type 0} (n : Refusal) {o : StdOption A} {x : A} → ok_or o n ≡ Ok x → o ≡ Some x
some_result n {o = None} e = absurd (cc)
some_result n {o = Some y} e = cc

pub none_result : {A : Type 0} (n : Refusal) {r : Refusal} {o : StdOption A} → ok_or o n ≡ Err r → (o ≡ None) × (r ≡ n)
none_result n {o = None} e = (refl, cc)
none_result n {o = Some y} e = absurd (cc)
