-- The rows of a scan: what each way out leaves.
use mathlib.Core.Path.{◌≡◌, refl, sym, ap, ◌∙◌}
use mathlib.Core.Bool.{Bool, true, false, cond, ◌&&◌}
use mathlib.Core.List.{List, []}
use mathlib.Core.Option.{Option, some}
use Prim.Native.Nat.{ℕ, ◌+◌, ◌-◌, ◌*◌, ◌≤◌}
use native.Mathlib.Omega.{arith}
use lib.Dec.{leb, ltb}
use lib.ListN.{length, replicate}
use lib.Seq.{paste}
use Rattle.parties.specs.declared.Measures.{Measures}
use Rattle.parties.specs.declared.Sequence.{Sequence}
use Rattle.std.specs.Prelude.{Option as StdOption, Some, None}
use Rattle.parties.specs.protocol.Format.{Read}
use Rattle.parties.specs.protocol.Measures.{row_size}
use Rattle.parties.specs.protocol.Version.{next_sequence}
use Rattle.parties.specs.protocol.Directory.{Row, read_directory}
use Rattle.parties.specs.protocol.Owner.{own_rows}
use Rattle.parties.specs.protocol.Verdict.{Verdict, broken, rows_verdict}
use Rattle.parties.specs.protocol.Reading.{pick}
use Rattle.parties.specs.protocol.Deposit.{highest}
use Rattle.parties.specs.protocol.Answer.{ClientAnswer, refused, spent}
use Rattle.parties.specs.protocol.Client.{Phase as Work, step as step_of, Client, read_client, client_size, work_size}
use Rattle.parties.specs.protocol.ClientEvents.{Step, stays, does, with_phase, draw, freeze, fetch, scanned_at, on_rows, ClientEnd, room_size, unchanged, after, on_client, guarded, scan_answer}
use Rattle.parties.specs.declared.Phase.{Phase}
use Rattle.parties.specs.records.Form.{rest, holds}
use Rattle.parties.specs.client.Record.{record_of, area_size, work_at, is_some}
use Rattle.parties.specs.client.Draw.{rows_of, page_of, draw_end}
use Rattle.parties.specs.client.Choose.{fetch_end}
use Rattle.parties.specs.client.Freeze.{new_pointer, freeze_end}
use Rattle.parties.specs.client.Scan.{scanned_end, spent_end}
use Rattle.parties.proofs.records.FormLaws.{left_read}
use Rattle.parties.proofs.records.RecordLaws.{rows-sound}
use Rattle.parties.proofs.client.AreaLaws.{idle_work, ShownClient, turned-written}
use Rattle.parties.proofs.client.GateLaws.{long_record, through, Opened, found, found-reads, found-shows}
use Rattle.parties.proofs.client.StepLaws.{scanning-step, freezing-step, picking-step}

-- ---- what the rows do, by the step of the phase

module _ (s : Measures) (own : ℕ) (c : Client) (room : List ℕ) (l : List Row) where
  other : (q : Work) → (step_of q ≡ 1 → ⊥) → (step_of q ≡ 4 → ⊥) → (step_of q ≡ 6 → ⊥) → scanned_at s own c room l q ≡ stays (refused 5)
  other Work.idle d e f = refl
  other (Work.scanning page) d e f = absurd (d refl)
  other (Work.storing v a ds) d e f = refl
  other (Work.updating x) d e f = refl
  other (Work.freezing x) d e f = absurd (e refl)
  other Work.raising d e f = refl
  other Work.picking d e f = absurd (f refl)
  other (Work.fetching x n m ps) d e f = refl

module _ (s : Measures) (p : Phase) (area : List ℕ) (opened : Opened s p area) where
  abbrev client : List ℕ
  client = record_of p area

  abbrev read : Read Client
  read = found s p area opened

  abbrev c : Client
  c = read.value

  shows : ShownClient s p area c read.rest
  shows = found-shows s p area opened

  -- the work is zeros
  pub spent_leaves : (at : ℕ) → at ≡ work_at s → (size : ℕ) → size ≡ work_size s
      → (a : List ℕ) → a ≡ paste area at (replicate (at + size - at) 0) (at + size - at) → (room : List ℕ)
      → spent_end s client room
      ≡ record { answer = spent; client = record_of (record { step = 0; reading = p.reading }) a; room = room; out = [] }
  unfolding spent_end
  spent_leaves at ea size es a ew room =
      let k : at + size - at ≡ work_size s = omega arith in
      let w : paste area (work_at s) (replicate (work_size s) 0) (work_size s) ≡ a =
      (λ i. paste area (sym ea i) (replicate (sym k i) 0) (sym k i)) ∙ sym ew
      in
      ap (λ (x : Option (Read Client)). on_client s client room [] x (λ c. does spent (with_phase Work.idle c) room [])) (found-reads s p area opened)
      ∙ (λ j. record {
        answer = spent;
        client =
            (turned-written s opened.measures p area c read.rest shows Work.idle c.reading_index tt
            ∙ (λ i. record_of (record { step = 0; reading = sym shows.reading i }) (paste area (work_at s) (idle_work s i) (work_size s)))
            ∙ (λ i. record_of (record { step = 0; reading = p.reading }) (w i))) j;
        room = room;
        out = [];
      })

  module _ (own : ℕ) (rows room : List ℕ) where
    abbrev l : List Row
    l = rows_of (read_directory s rows)

    through_rows : (f : Client → Step) → scanned_at s own c room l c.phase ≡ f c → scanned_end s own client rows room ≡ on_client s client room [] (read_client s client) f
    unfolding scanned_end
    through_rows f e =
        ap (λ (x : Option (Read Client)). on_client s client room [] x (λ c. scanned_at s own c room l c.phase)) (found-reads s p area opened)
        ∙ ap (after s client room [] read.rest) e
        ∙ ap (λ (x : Option (Read Client)). on_client s client room [] x f) (sym (found-reads s p area opened))

    scanned-first : p.step ≡ 1 → (n : StdOption Sequence) → next_sequence (highest l) ≡ n
        → scanned_end s own client rows room ≡ on_client s client room [] (read_client s client) (λ c. draw s own c room (page_of c.phase) n)
    scanned-first d n e =
        through_rows (λ c. draw s own c room (page_of c.phase) n)
        (ap (scanned_at s own c room l) (scanning-step c.phase (sym shows.stands ∙ d)) ∙ ap (draw s own c room (page_of c.phase)) e)

    pub scanned_draws : p.step ≡ 1 → (q : Sequence) → next_sequence (highest l) ≡ Some q
        → scanned_end s own client rows room ≡ draw_end s own q client room
    unfolding draw_end
    scanned_draws d q e = scanned-first d (Some q) e

    pub scanned-spent : p.step ≡ 1 → next_sequence (highest l) ≡ None → scanned_end s own client rows room ≡ spent_end s client room
    unfolding spent_end
    scanned-spent d e = scanned-first d None e

    pub scanned_freezes : p.step ≡ 4 → scanned_end s own client rows room ≡ freeze_end s own client rows room
    unfolding freeze_end
    scanned_freezes d =
        through_rows (λ c. freeze s own c room l (new_pointer c.phase)) (ap (scanned_at s own c room l) (freezing-step c.phase (sym shows.stands ∙ d)))

    pub scanned_fetches : p.step ≡ 6 → scanned_end s own client rows room ≡ fetch_end s own client rows room
    unfolding fetch_end
    scanned_fetches d =
        through_rows (λ c. fetch s c room (pick own c.reading_index l)) (ap (scanned_at s own c room l) (picking-step c.phase (sym shows.stands ∙ d)))

    pub scanned-other : (p.step ≡ 1 → ⊥) → (p.step ≡ 4 → ⊥) → (p.step ≡ 6 → ⊥) → scanned_end s own client rows room ≡ unchanged (refused 5) client room []
    unfolding scanned_end
    scanned-other d e f =
        ap (λ (x : Option (Read Client)). on_client s client room [] x (λ c. scanned_at s own c room l c.phase)) (found-reads s p area opened)
        ∙ ap (after s client room [] read.rest)
        (other s own c room l c.phase (λ x. d (shows.stands ∙ x)) (λ x. e (shows.stands ∙ x)) (λ x. f (shows.stands ∙ x)))

-- a sequence that is drawn is at least 1
abbrev drawn_of : StdOption Sequence → ℕ
drawn_of (Some q) = q.0
drawn_of None = 1

pub drawn_one : (t q : Sequence) → next_sequence t ≡ Some q → 1 ≤ q.0
drawn_one t q e = go (ltb t.0 4294967295) (ap drawn_of e)
  where
    go : (b : Bool) → drawn_of (cond b (Some (record { 0 = t.0 + 1 })) None) ≡ q.0 → 1 ≤ q.0
    go true f = omega arith
    go false f = omega arith

-- ---- the event

module _ (s : Measures) (own : ℕ) (p : Phase) (area rows room : List ℕ) where
  abbrev bytes : List ℕ
  bytes = record_of p area

  abbrev refuses : ClientAnswer → ClientEnd
  refuses a = unchanged a bytes room []

  abbrev does_it : Client → Step
  does_it c = on_rows (rows_verdict s rows) (λ l. scanned_at s own c room l c.phase)

  -- long enough, as the code and as the definitions test it
  abbrev enough : Bool
  enough = leb (area_size s) (length area) && (leb (s.m * row_size s) (length rows) && leb (room_size s) (length room))

  all-long : (leb (client_size s) (length bytes) && (leb (s.m * row_size s) (length rows) && leb (room_size s) (length room))) ≡ enough
  all-long = ap (λ (b : Bool). b && (leb (s.m * row_size s) (length rows) && leb (room_size s) (length room))) (long_record s p area)

  pub scan_shut : (n : ClientEnd)
      → guarded s enough (ltb own s.m) (on_client s bytes room [] (read_client s bytes) does_it) refuses ≡ n
      → scan_answer s own bytes rows room ≡ n
  unfolding scan_answer
  scan_shut n g = ap (λ (b : Bool). guarded s b (ltb own s.m) (on_client s bytes room [] (read_client s bytes) does_it) refuses) all-long ∙ g

  module _ (opened : Opened s p area) (within : ltb own s.m ≡ true) (t : enough ≡ true) where
    scan_through : scan_answer s own bytes rows room ≡ after s bytes room [] (found s p area opened).rest (does_it (found s p area opened).value)
    scan_through =
        scan_shut (after s bytes room [] (found s p area opened).rest (does_it (found s p area opened).value))
        (through s enough (ltb own s.m) bytes room [] does_it refuses (found s p area opened) opened.measures t within (found-reads s p area opened))

    pub scan-broken : (n : ℕ) → rows_verdict s rows ≡ broken n → scan_answer s own bytes rows room ≡ unchanged (refused n) bytes room []
    scan-broken n f =
        scan_through
        ∙ ap (λ (x : Verdict (Read (List Row))). after s bytes room [] (found s p area opened).rest
        (on_rows x (λ l. scanned_at s own (found s p area opened).value room l (found s p area opened).value.phase))) f

    -- the rows read
    module _ (v : List ℕ) (f : rest (read_directory s rows) ≡ some v) where
      pub rows-read : is_some (read_directory s rows) ≡ true
      rows-read = ap is_some (left_read (read_directory s rows) v f).1

      pub scan-goes : true ≡ holds (own_rows 0) (read_directory s rows) → scan_answer s own bytes rows room ≡ scanned_end s own bytes rows room
      unfolding scanned_end
      scan-goes o =
          let c = found s p area opened in
          let d = rows-sound s rows v f o in
          scan_through
          ∙ ap (λ (x : Verdict (Read (List Row))). after s bytes room [] c.rest (on_rows x (λ l. scanned_at s own c.value room l c.value.phase))) d.2
          ∙ ap (λ (x : Option (Read (List Row))). after s bytes room [] c.rest (scanned_at s own c.value room (rows_of x) c.value.phase)) (sym d.1)
          ∙ ap (λ (x : Option (Read Client)). on_client s bytes room [] x (λ c. scanned_at s own c room (rows_of (read_directory s rows)) c.phase))
          (sym (found-reads s p area opened))
