-- The start of an operation and the acknowledgement of an update: what each way out leaves.
use mathlib.Core.Path.{◌≡◌, refl, sym, ap, ◌∙◌}
use mathlib.Core.Bool.{Bool, true, false, cond, ◌&&◌}
use mathlib.Core.List.{List, [], ◌∷◌, ◌++◌, append_assoc, append-nil}
use Prim.Native.Nat.{ℕ, ◌+◌, ◌-◌, ◌*◌, ◌<◌, ◌≤◌}
use native.Mathlib.Omega.{arith}
use borrow.Author.Tests.{le-leb, lt-leb}
use lib.Dec.{leb, ltb}
use lib.ListN.{length, take, drop, set, replicate, length-append, length-replicate, replicate-append-replicate}
use lib.Seq.{drop_at, take_all, drop-drop, paste, take-paste, drop-paste}
use Rattle.coding.specs.Bytes.{Bytes}
use Rattle.parties.specs.declared.Measures.{Measures}
use Rattle.parties.specs.declared.ReadingIndex.{ReadingIndex}
use Rattle.std.specs.Prelude.{Option as StdOption, Some, None}
use Rattle.parties.specs.protocol.Format.{Read, write_number, write_many, write_area}
use Rattle.parties.specs.protocol.Version.{next_index}
use Rattle.parties.specs.protocol.Directory.{write_index, map_of, write_content, write_fields, write_record}
use Rattle.parties.specs.protocol.Reading.{reading_fields}
use Rattle.parties.specs.protocol.Answer.{ClientAnswer, refused, scan, update}
use Rattle.parties.specs.protocol.Client.{Phase as Work, step as step_of, Client, read_client, client_size, write_work, write_page, work_size}
use Rattle.parties.specs.protocol.ClientEvents.{Step, stays, does, with_phase, is_idle, lay, raise, begin_deposit, begin_reading, acknowledged_at, ClientEnd, room_size, unchanged, after}
use Rattle.parties.specs.protocol.ClientEvents.{guarded, on_client, start_deposit, start_reading, update_answer}
use Rattle.parties.proofs.protocol.formats.PointerLaws.{length-number}
use Rattle.parties.proofs.protocol.formats.ClientLaws.{GoodPhase}
use Rattle.parties.specs.declared.Phase.{Phase}
use Rattle.parties.specs.client.Record.{record_of, area_size, work_at}
use Rattle.parties.specs.client.Freeze.{new_pointer}
use Rattle.parties.proofs.client.FormLaws.{sizes}
use Rattle.parties.proofs.client.AreaLaws.{byte_written, idle_work, ShownClient, turned-written, turned-kept, work_onward, beyond, area_length}
use Rattle.parties.proofs.client.GateLaws.{long_record, through, Opened, found, found-reads, found-shows}
use Rattle.parties.proofs.client.StepLaws.{idle-step, busy_step, updating-step, raising-step}

other_step : (c : Client) (room : List ℕ) (q : Work) → (step_of q ≡ 3 → ⊥) → (step_of q ≡ 5 → ⊥) → acknowledged_at c room q ≡ stays (refused 5)
other_step c room Work.idle d e = refl
other_step c room (Work.scanning page) d e = refl
other_step c room (Work.storing v a ds) d e = refl
other_step c room (Work.updating x) d e = absurd (d refl)
other_step c room (Work.freezing x) d e = refl
other_step c room Work.raising d e = absurd (e refl)
other_step c room Work.picking d e = refl
other_step c room (Work.fetching x k m ps) d e = refl

-- ---- a reading's update record

reading_record : (i : ReadingIndex) → write_record (reading_fields i) ≡ 8 ∷ write_number 4 i.0
unfolding write_record write_fields write_content write_many write_index map_of
reading_record i =
    ap (λ (l : List ℕ). write_number 1 8 ++ l) (append-nil (write_number 4 i.0 ++ []) ∙ append-nil (write_number 4 i.0))
    ∙ byte_written 8 (write_number 4 i.0) refl

-- as it is put into the room
reading-room : (i : ReadingIndex) (room : List ℕ) → 5 ≤ length room
    → lay (write_record (reading_fields i)) room ≡ paste (set room 0 8) 1 (write_number 4 i.0) 4
reading-room i [] h = absurd (omega arith)
reading-room i (x ∷ t) h =
    let w = write_number 4 i.0 in
    let l : length (8 ∷ w) ≡ 5 = omega (arith, length-number 4 i.0) in
    rw (reading_record i)
    (ap (λ (n : ℕ). (8 ∷ w) ++ drop n (x ∷ t)) l ∙ ap (λ (v : List ℕ). (8 ∷ v) ++ drop 4 t) (sym (take_all 4 w (omega (arith, length-number 4 i.0)))))

-- ---- the events

-- the parts of an end
pub ends-two : (x y : ClientEnd) → x ≡ y → (y.answer ≡ x.answer) × (y.client ≡ x.client)
ends-two x y e = (ap (λ (z : ClientEnd). z.answer) (sym e), ap (λ (z : ClientEnd). z.client) (sym e))

pub ends_three : (x y : ClientEnd) → x ≡ y → (y.answer ≡ x.answer) × (y.client ≡ x.client) × (y.room ≡ x.room)
ends_three x y e = (ap (λ (z : ClientEnd). z.answer) (sym e), ap (λ (z : ClientEnd). z.client) (sym e), ap (λ (z : ClientEnd). z.room) (sym e))

pub ends-four : (x y : ClientEnd) → x ≡ y → (y.answer ≡ x.answer) × (y.client ≡ x.client) × (y.room ≡ x.room) × (y.out ≡ x.out)
ends-four x y e = let t = ends_three x y e in (t.0, t.1, t.2, ap (λ (z : ClientEnd). z.out) (sym e))

-- refused by a shut gate
module _ (s : Measures) (own : ℕ) (p : Phase) (area : List ℕ) where
  abbrev bytes : List ℕ
  bytes = record_of p area

  module _ (page : List ℕ) where
    pub deposit_shut : (n : ClientEnd)
        → guarded s (leb (area_size s) (length area)) (ltb own s.m) (on_client s bytes [] [] (read_client s bytes) (λ c. begin_deposit s c page)) (λ a. unchanged a bytes [] []) ≡ n
        → start_deposit s own bytes page ≡ n
    unfolding start_deposit
    deposit_shut n g =
        ap (λ (b : Bool). guarded s b (ltb own s.m) (on_client s bytes [] [] (read_client s bytes) (λ c. begin_deposit s c page)) (λ a. unchanged a bytes [] []))
        (long_record s p area) ∙ g

  module _ (room : List ℕ) where
    -- long enough, as the code and as the definitions test it
    pub both_long : (leb (client_size s) (length bytes) && leb (room_size s) (length room)) ≡ (leb (area_size s) (length area) && leb (room_size s) (length room))
    both_long = ap (λ (b : Bool). b && leb (room_size s) (length room)) (long_record s p area)

    abbrev refuses : ClientAnswer → ClientEnd
    refuses a = unchanged a bytes room []

    module _ (n : ClientEnd) where
      pub reading_shut : guarded s (leb (area_size s) (length area) && leb (room_size s) (length room)) (ltb own s.m) (on_client s bytes room [] (read_client s bytes) (λ c. begin_reading c room)) refuses ≡ n
          → start_reading s own bytes room ≡ n
      unfolding start_reading
      reading_shut g =
          ap (λ (b : Bool). guarded s b (ltb own s.m) (on_client s bytes room [] (read_client s bytes) (λ c. begin_reading c room)) refuses) both_long ∙ g

      pub update_shut : guarded s (leb (area_size s) (length area) && leb (room_size s) (length room)) (ltb own s.m) (on_client s bytes room [] (read_client s bytes) (λ c. acknowledged_at c room c.phase)) refuses ≡ n
          → update_answer s own bytes room ≡ n
      unfolding update_answer
      update_shut g =
          ap (λ (b : Bool). guarded s b (ltb own s.m) (on_client s bytes room [] (read_client s bytes) (λ c. acknowledged_at c room c.phase)) refuses)
          both_long ∙ g

module _ (s : Measures) (own : ℕ) (p : Phase) (area : List ℕ) (opened : Opened s p area) (within : ltb own s.m ≡ true) where
  abbrev client : List ℕ
  client = record_of p area

  abbrev read : Read Client
  read = found s p area opened

  shows : ShownClient s p area read.value read.rest
  shows = found-shows s p area opened

  -- with a room
  module _ (room : List ℕ) (enough : (leb (client_size s) (length client) && leb (room_size s) (length room)) ≡ true) where
    abbrev went : Step → ClientEnd
    went x = after s client room [] read.rest x

    reading_through : start_reading s own client room ≡ went (begin_reading read.value room)
    unfolding start_reading
    reading_through =
        through s (leb (client_size s) (length client) && leb (room_size s) (length room)) (ltb own s.m) client room [] (λ c. begin_reading c room)
        (λ a. unchanged a client room []) read opened.measures enough within (found-reads s p area opened)

    pub reading_busy : (p.step ≡ 0 → ⊥) → start_reading s own client room ≡ unchanged (refused 5) client room []
    unfolding begin_reading
    reading_busy d =
        reading_through ∙ ap (λ (x : Bool). went (cond x (raise read.value room (next_index read.value.reading_index)) (stays (refused 5))))
        (busy_step read.value.phase (λ e. d (shows.stands ∙ e)))

    reading-idle : p.step ≡ 0 → (n : StdOption ReadingIndex) → next_index p.reading ≡ n → start_reading s own client room ≡ went (raise read.value room n)
    unfolding begin_reading
    reading-idle d n e =
        reading_through
        ∙ ap (λ (x : Work). went (cond (is_idle x) (raise read.value room (next_index read.value.reading_index)) (stays (refused 5))))
        (idle-step read.value.phase (sym shows.stands ∙ d))
        ∙ ap (λ (x : StdOption ReadingIndex). went (raise read.value room x)) (ap next_index (sym shows.reading) ∙ e)

    pub reading-spent : p.step ≡ 0 → next_index p.reading ≡ None → start_reading s own client room ≡ unchanged (refused 7) client room []
    reading-spent d e = reading-idle d None e

    pub reading_raised : p.step ≡ 0 → (i : ReadingIndex) → next_index p.reading ≡ Some i → 5 ≤ length room
        → start_reading s own client room
        ≡ record {
          answer = update 5;
          client = record_of (record { step = 5; reading = i }) area;
          room = paste (set room 0 8) 1 (write_number 4 i.0) 4;
          out = [];
        }
    unfolding write_work
    reading_raised d i e l =
        let c = read.value in
        let n : length (write_record (reading_fields i)) ≡ 5 = ap length (reading_record i) ∙ omega (arith, length-number 4 i.0) in
        let w : write_work s Work.raising ≡ write_work s c.phase = ap (write_work s) (sym (idle-step c.phase (sym shows.stands ∙ d))) in
        reading-idle d (Some i) e
        ∙ (λ j. record {
          answer = update (n j);
          client = turned-kept s opened.measures p area c read.rest shows Work.raising i w j;
          room = reading-room i room l j;
          out = [];
        })

    update_through : update_answer s own client room ≡ went (acknowledged_at read.value room read.value.phase)
    unfolding update_answer
    update_through =
        through s (leb (client_size s) (length client) && leb (room_size s) (length room)) (ltb own s.m) client room [] (λ c. acknowledged_at c room c.phase)
        (λ a. unchanged a client room []) read opened.measures enough within (found-reads s p area opened)

    pub update_other : (p.step ≡ 3 → ⊥) → (p.step ≡ 5 → ⊥) → update_answer s own client room ≡ unchanged (refused 5) client room []
    update_other d e =
        update_through ∙ ap went (other_step read.value room read.value.phase (λ x. d (shows.stands ∙ x)) (λ x. e (shows.stands ∙ x)))

    pub update-freezing : p.step ≡ 3
        → update_answer s own client room
        ≡ record { answer = scan; client = record_of (record { step = 4; reading = p.reading }) area; room = room; out = [] }
    unfolding write_work
    update-freezing d =
        let c = read.value in
        let x = updating-step c.phase (sym shows.stands ∙ d) in
        let w : write_work s (Work.freezing (new_pointer c.phase)) ≡ write_work s c.phase = ap (write_work s) (sym x) in
        update_through ∙ ap (λ (q : Work). went (acknowledged_at c room q)) x
        ∙ (λ j. record {
          answer = scan;
          client = turned-kept s opened.measures p area c read.rest shows (Work.freezing (new_pointer c.phase)) c.reading_index w j;
          room = room;
          out = [];
        })
        ∙ (λ j. record { answer = scan; client = record_of (record { step = 4; reading = sym shows.reading j }) area; room = room; out = [] })

    pub update-picking : p.step ≡ 5
        → update_answer s own client room
        ≡ record { answer = scan; client = record_of (record { step = 6; reading = p.reading }) area; room = room; out = [] }
    unfolding write_work
    update-picking d =
        let c = read.value in
        let x = raising-step c.phase (sym shows.stands ∙ d) in
        let w : write_work s Work.picking ≡ write_work s c.phase = ap (write_work s) (sym x) in
        update_through ∙ ap (λ (q : Work). went (acknowledged_at c room q)) x
        ∙ (λ j. record {
          answer = scan;
          client = turned-kept s opened.measures p area c read.rest shows Work.picking c.reading_index w j;
          room = room;
          out = [];
        })
        ∙ (λ j. record { answer = scan; client = record_of (record { step = 6; reading = sym shows.reading j }) area; room = room; out = [] })

  -- with a page
  module _ (page : List ℕ) (enough : leb (client_size s) (length client) ≡ true) where
    abbrev goes : Step → ClientEnd
    goes x = after s client [] [] read.rest x

    deposit_through : start_deposit s own client page ≡ goes (begin_deposit s read.value page)
    unfolding start_deposit
    deposit_through =
        through s (leb (client_size s) (length client)) (ltb own s.m) client [] [] (λ c. begin_deposit s c page) (λ a. unchanged a client [] []) read opened.measures enough within
        (found-reads s p area opened)

    abbrev tried : Bool → Bool → ClientEnd
    tried x y = goes (cond x (cond y (does scan (with_phase (Work.scanning page) read.value) [] []) (stays (refused 6))) (stays (refused 5)))

    pub deposit_busy : (p.step ≡ 0 → ⊥) → start_deposit s own client page ≡ unchanged (refused 5) client [] []
    unfolding begin_deposit
    deposit_busy d =
        deposit_through
        ∙ ap (λ (x : Bool). tried x (leb (length page) (s.k * s.f - 4))) (busy_step read.value.phase (λ e. d (shows.stands ∙ e)))

    deposit-idle : p.step ≡ 0 → (y : Bool) → leb (length page) (s.k * s.f - 4) ≡ y → start_deposit s own client page ≡ tried true y
    unfolding begin_deposit
    deposit-idle d y e =
        deposit_through
        ∙ (λ j. tried (is_idle (idle-step read.value.phase (sym shows.stands ∙ d) j)) (e j))

    pub deposit-long : p.step ≡ 0 → s.k * s.f - 4 < length page → start_deposit s own client page ≡ unchanged (refused 6) client [] []
    deposit-long d e = deposit-idle d false (lt-leb (length page) (s.k * s.f - 4) e)

    -- the page's length and the page, over zeros
    module _ (d : p.step ≡ 0) (bp : Bytes page) (fits : length page ≤ s.k * s.f - 4) where
      abbrev work : List ℕ
      work = write_work s (Work.scanning page)

      work_page : work ≡ write_number 4 (length page) ++ page
      unfolding write_work write_page
      work_page = refl

      page_good : GoodPhase s (Work.scanning page)
      page_good = (bp, le-leb (length page) (s.k * s.f - 4) fits)

      work_length : length work ≡ 4 + length page
      work_length = ap length work_page ∙ length-append (write_number 4 (length page)) page ∙ omega (arith, length-number 4 (length page))

      room_left : 4 + length page ≤ work_size s
      room_left = let z = sizes s opened.measures in omega (arith, fits, z.frame, z.pieces)

      zeros_there : drop (work_at s) area ≡ replicate (work_size s) 0 ++ read.rest
      zeros_there =
          work_onward s opened.measures p area read.value read.rest shows
          ∙ ap (λ (q : Work). write_area (work_size s) (write_work s) q ++ read.rest) (idle-step read.value.phase (sym shows.stands ∙ d))
          ∙ ap (λ (l : List ℕ). l ++ read.rest) (idle_work s)

      -- what stands behind the page
      behind : drop (work_at s + 4 + length page) area ≡ replicate (work_size s - (4 + length page)) 0 ++ read.rest
      behind =
          let k : work_at s + 4 + length page ≡ work_at s + (4 + length page) = omega arith in
          let w : (4 + length page) + (work_size s - (4 + length page)) ≡ work_size s = omega (arith, room_left) in
          let z = replicate {A = ℕ} (4 + length page) 0 in
          let y = replicate {A = ℕ} (work_size s - (4 + length page)) 0 in
          ap (λ (n : ℕ). drop n area) k ∙ sym (drop-drop (4 + length page) (work_at s) area) ∙ ap (drop (4 + length page)) zeros_there
          ∙ ap (λ (l : List ℕ). drop (4 + length page) (l ++ read.rest))
          (ap (λ (n : ℕ). replicate n 0) (sym w) ∙ sym (replicate-append-replicate (4 + length page) (work_size s - (4 + length page)) 0))
          ∙ ap (drop (4 + length page)) (append_assoc z y read.rest)
          ∙ drop_at z (y ++ read.rest) (4 + length page) (length-replicate {A = ℕ} (4 + length page) 0)

      deposit_area : paste area (work_at s) (write_area (work_size s) (write_work s) (Work.scanning page)) (work_size s)
          ≡ paste (paste area (work_at s) (write_number 4 (length page)) 4) (work_at s + 4) page (length page)
      unfolding write_area
      deposit_area =
          let n = write_number 4 (length page) in
          let f = take (work_at s) area in
          let y = replicate {A = ℕ} (work_size s - (4 + length page)) 0 in
          let u = paste area (work_at s) n 4 in
          let la : work_at s + work_size s ≤ length area = omega (arith, area_length s opened.measures p area read.value read.rest shows) in
          let ln : 4 ≤ length n = omega (arith, length-number 4 (length page)) in
          let lw : length (work ++ replicate (work_size s - length work) 0) ≤ work_size s =
          omega (arith, length-append work (replicate (work_size s - length work) 0), length-replicate {A = ℕ} (work_size s - length work) 0, work_length, room_left)
          in
          let a : take (work_at s + 4) u ≡ f ++ take 4 n = take-paste area (work_at s) n 4 (omega arith) ln in
          let t : take 4 n ≡ n = take_all 4 n (omega (arith, length-number 4 (length page))) in
          let v : drop (work_at s + 4 + length page) u ≡ drop (work_at s + 4 + length page) area =
          sym (drop-drop (length page) (work_at s + 4) u) ∙ ap (drop (length page)) (drop-paste area (work_at s) n 4 (omega arith) ln)
          ∙ drop-drop (length page) (work_at s + 4) area
          in
          (λ j. (f ++ take_all (work_size s) (work ++ replicate (work_size s - length work) 0) lw j) ++ beyond s opened.measures p area read.value read.rest shows j)
          ∙ (λ j. (f ++ (work_page j ++ replicate (work_size s - work_length j) 0)) ++ read.rest)
          ∙ append_assoc f ((n ++ page) ++ y) read.rest
          ∙ ap (λ (l : List ℕ). f ++ l) (append_assoc (n ++ page) y read.rest ∙ append_assoc n page (y ++ read.rest))
          ∙ sym (append_assoc f n (page ++ (y ++ read.rest)))
          ∙ sym (append_assoc (f ++ n) page (y ++ read.rest))
          ∙ sym (λ j. ((a ∙ ap (λ (l : List ℕ). f ++ l) t) j ++ take_all (length page) page (omega arith) j) ++ (v ∙ behind) j)

      pub deposit-begun : start_deposit s own client page
          ≡ record {
            answer = scan;
            client =
                record_of (record { step = 1; reading = p.reading })
                (paste (paste area (work_at s) (write_number 4 (length page)) 4) (work_at s + 4) page (length page));
            room = [];
            out = [];
          }
      deposit-begun =
          let c = read.value in
          deposit-idle d true (le-leb (length page) (s.k * s.f - 4) fits)
          ∙ (λ j. record {
            answer = scan;
            client =
                (turned-written s opened.measures p area c read.rest shows (Work.scanning page) c.reading_index page_good
                ∙ (λ i. record_of (record { step = 1; reading = sym shows.reading i }) (deposit_area i))) j;
            room = [];
            out = [];
          })
