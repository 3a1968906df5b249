-- A deposit's first scan whose answer has a next sequence: what it leaves.
use mathlib.Core.Path.{◌≡◌, sym, ap, ◌∙◌}
use mathlib.Core.Bool.{true}
use mathlib.Core.List.{List, [], ◌++◌}
use mathlib.Core.Option.{Option, some}
use Prim.Native.Nat.{ℕ, ◌+◌, ◌-◌, ◌*◌, ◌^◌, ◌<◌, ◌≤◌}
use native.Mathlib.Omega.{arith}
use borrow.Author.Tests.{le-leb, lt-ltb}
use lib.ListN.{length, take, drop, replicate, length-append, length-drop}
use lib.Seq.{paste, length-take-le}
use Rattle.coding.specs.Pieces.{columns}
use Rattle.parties.specs.declared.Measures.{Measures}
use Rattle.parties.specs.declared.Sequence.{Sequence}
use Rattle.parties.specs.declared.Version.{Version}
use Rattle.std.specs.Prelude.{Some}
use Rattle.parties.specs.protocol.Format.{Read, read_number, write_number, write_many, write_area}
use Rattle.parties.specs.protocol.Measures.{passes}
use Rattle.parties.specs.protocol.Pointer.{write_version}
use Rattle.parties.specs.protocol.Answer.{stores}
use Rattle.parties.specs.protocol.Client.{Phase as Work, Client, work_size, write_work, write_stores}
use Rattle.parties.specs.protocol.Deposit.{digests_of}
use Rattle.parties.specs.protocol.ClientEvents.{on_client, draw, room_size, stores_room}
use Rattle.parties.proofs.protocol.formats.PointerLaws.{length-number, length-version}
use Rattle.parties.proofs.protocol.events.DepositLaws.{storing_good}
use Rattle.parties.specs.declared.Phase.{Phase}
use Rattle.parties.specs.client.Record.{record_of, work_at}
use Rattle.parties.specs.client.Draw.{room_digests, stores_work, page_of, draw_end}
use Rattle.parties.proofs.client.FormLaws.{sizes}
use Rattle.parties.proofs.client.AreaLaws.{ShownClient, turned-written}
use Rattle.parties.proofs.client.GateLaws.{work_within, Opened, found, found-reads, found-shows}
use Rattle.parties.proofs.client.DrawLaws.{length-room-digests, digests-there, page-short, page-length, page-there}
use Rattle.parties.proofs.client.StepLaws.{scanning-step}

module _ (s : Measures) (own : ℕ) (within : own < s.m) (p : Phase) (area : List ℕ) (opened : Opened s p area) (d : p.step ≡ 1) where
  abbrev client : List ℕ
  client = record_of p area

  abbrev read : Read Client
  read = found s p area opened

  h : passes s ≡ true
  h = opened.measures

  shows : ShownClient s p area read.value read.rest
  shows = found-shows s p area opened

  abbrev bytes : List ℕ
  bytes = page_of read.value.phase

  phase_is : read.value.phase ≡ Work.scanning bytes
  phase_is = scanning-step read.value.phase (sym shows.stands ∙ d)

  module _ (n : ℕ) (u : List ℕ) (f : read_number 4 (drop (work_at s) area) ≡ some (record { value = n; rest = u })) where
    n_is : n ≡ length bytes
    n_is = page-length s h p area read.value read.rest shows bytes phase_is n u f

    drawn_short : n ≤ s.k * s.f - 4
    drawn_short = omega (arith, n_is, page-short s h p area read.value read.rest shows bytes phase_is)

    drawn_page : take n (drop (work_at s + 4) area) ≡ bytes
    drawn_page =
        ap (λ (k : ℕ). take k (drop (work_at s + 4) area)) n_is ∙ page-there s h p area read.value read.rest shows bytes phase_is

    module _ (q : Sequence) (one : 1 ≤ q.0) (hq : q.0 < 256 ^ 4) (room : List ℕ) (enough : room_size s ≤ length room) where
      abbrev v : Version
      v = record { sequence = q; client = own }

      short : length bytes ≤ s.k * s.f - 4
      short = page-short s h p area read.value read.rest shows bytes phase_is

      work_is : write_area (work_size s) (write_work s) (Work.storing v 0 (digests_of s v bytes))
          ≡ stores_work s v (room_digests s.n s.f v (columns s.k (length bytes)) (stores_room s v bytes room))
      unfolding write_area write_work write_stores
      work_is =
          let w = write_version v in
          let z = write_number 2 0 in
          let r = room_digests s.n s.f v (columns s.k (length bytes)) (stores_room s v bytes room) in
          let e : write_many (λ d. d) (digests_of s v bytes) ≡ r = sym (digests-there s h v bytes room short enough) in
          let l : length (w ++ (z ++ r)) ≡ 7 + 32 * s.n =
          omega (
            arith,
            length-append w (z ++ r),
            length-append z r,
            length-version v,
            length-number 2 0,
            length-room-digests s.n s.f v (columns s.k (length bytes)) (stores_room s v bytes room),
          )
          in
          ap (λ (x : List ℕ). (w ++ (z ++ x)) ++ replicate (work_size s - length (w ++ (z ++ x))) 0) e
          ∙ ap (λ (k : ℕ). (w ++ (z ++ r)) ++ replicate (work_size s - k) 0) l

      drawn_bytes : draw_end s own q client room
          ≡ record {
            answer = stores v (columns s.k (length bytes));
            client =
                record_of (record { step = 2; reading = p.reading })
                (paste area (work_at s) (stores_work s v (room_digests s.n s.f v (columns s.k (length bytes)) (stores_room s v bytes room))) (work_size s));
            room = stores_room s v bytes room;
            out = [];
          }
      unfolding draw_end
      drawn_bytes =
          let c = read.value in
          let g = storing_good s h v bytes ((hq, omega (arith, (sizes s h).clients)), simp (le-leb 1 q.0 one, lt-ltb own s.m within)) in
          ap (λ (x : Option (Read Client)). on_client s client room [] x (λ c. draw s own c room (page_of c.phase) (Some q))) (found-reads s p area opened)
          ∙ (λ j. record {
            answer = stores v (columns s.k (length bytes));
            client =
                (turned-written s h p area c read.rest shows (Work.storing v 0 (digests_of s v bytes)) c.reading_index g
                ∙ (λ i. record_of (record { step = 2; reading = sym shows.reading i }) (paste area (work_at s) (work_is i) (work_size s)))) j;
            room = stores_room s v bytes room;
            out = [];
          })

      drawn : (page : List ℕ) → page ≡ take n (drop (work_at s + 4) area) → (len : ℕ) → len ≡ columns s.k (length page)
          → (r : List ℕ) → r ≡ stores_room s v page room
          → (a : List ℕ) → a ≡ paste area (work_at s) (stores_work s v (room_digests s.n s.f v len r)) (work_size s)
          → draw_end s own q client room
          ≡ record { answer = stores v len; client = record_of (record { step = 2; reading = p.reading }) a; room = r; out = [] }
      drawn page e len l r x a y =
          let z : page ≡ bytes = e ∙ drawn_page in
          let l2 : len ≡ columns s.k (length bytes) = l ∙ ap (λ (t : List ℕ). columns s.k (length t)) z in
          let x2 : r ≡ stores_room s v bytes room = x ∙ ap (λ (t : List ℕ). stores_room s v t room) z in
          let y2 = y ∙ (λ i. paste area (work_at s) (stores_work s v (room_digests s.n s.f v (l2 i) (x2 i))) (work_size s)) in
          drawn_bytes
          ∙ (λ j. record {
            answer = stores v (sym l2 j);
            client = record_of (record { step = 2; reading = p.reading }) (sym y2 j);
            room = sym x2 j;
            out = [];
          })

  -- the same, with the work's place as the code computes it
  module _ (at : ℕ) (w : at ≡ work_at s) (n : ℕ) (u : List ℕ) (f : read_number 4 (drop at area) ≡ some (record { value = n; rest = u })) where
    there : read_number 4 (drop (work_at s) area) ≡ some (record { value = n; rest = u })
    there = ap (λ (k : ℕ). read_number 4 (drop k area)) (sym w) ∙ f

    pub page-fits : at + 4 + n ≤ length area
    page-fits = let z = sizes s h in omega (arith, work_within s p area opened, drawn_short n u there, z.frame, z.pieces)

    pub page_short_at : length (take (at + 4 + n - (at + 4)) (drop (at + 4) area)) ≤ s.k * s.f - 4
    page_short_at =
        omega (
          arith,
          drawn_short n u there,
          page-fits,
          length-drop (at + 4) area,
          length-take-le (at + 4 + n - (at + 4)) (drop (at + 4) area) (omega (arith, page-fits, length-drop (at + 4) area)),
        )

    pub drawn_at : (q : Sequence) → 1 ≤ q.0 → q.0 < 256 ^ 4 → (room : List ℕ) → room_size s ≤ length room
        → (len : ℕ) → len ≡ columns s.k (length (take (at + 4 + n - (at + 4)) (drop (at + 4) area)))
        → (r : List ℕ) → r ≡ stores_room s (record { sequence = q; client = own }) (take (at + 4 + n - (at + 4)) (drop (at + 4) area)) room
        → (a : List ℕ) → a ≡ paste area at (stores_work s (record { sequence = q; client = own }) (room_digests s.n s.f (record { sequence = q; client = own }) len r)) (work_size s)
        → draw_end s own q client room
        ≡ record {
          answer = stores (record { sequence = q; client = own }) len;
          client = record_of (record { step = 2; reading = p.reading }) a;
          room = r;
          out = [];
        }
    drawn_at q one hq room enough len l r x a y =
        let k : at + 4 + n - (at + 4) ≡ n = omega arith in
        drawn n u there q one hq room enough (take (at + 4 + n - (at + 4)) (drop (at + 4) area)) (λ i. take (k i) (drop (w i + 4) area)) len l r x a
        (y ∙ (λ i. paste area (w i) (stores_work s (record { sequence = q; client = own }) (room_digests s.n s.f (record { sequence = q; client = own }) len r)) (work_size s)))
