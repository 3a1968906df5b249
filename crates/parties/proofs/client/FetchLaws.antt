-- A reading's scan: what it leaves where no pointer is found, and where one is.
use mathlib.Core.Path.{◌≡◌, refl, sym, ap, ◌∙◌}
use mathlib.Core.Bool.{Bool, true, false, cond}
use mathlib.Core.List.{List, [], ◌∷◌, ◌++◌, append_assoc}
use mathlib.Core.Option.{Option, some}
use Prim.Native.Nat.{ℕ, zero, suc, ◌+◌, ◌-◌, ◌*◌, ◌≤◌}
use native.Mathlib.Omega.{arith}
use borrow.Author.Tests.{eqb-true}
use lib.Dec.{eqb}
use lib.ListN.{length, drop, replicate, length-append, length-replicate, replicate-append-replicate}
use lib.Seq.{drop_at, paste}
use Rattle.coding.proofs.Cases.{and-true}
use Rattle.parties.specs.declared.Measures.{Measures}
use Rattle.parties.specs.declared.ReadingIndex.{ReadingIndex}
use Rattle.parties.specs.declared.Version.{Version}
use Rattle.parties.specs.protocol.Format.{Read, read_number, write_number, write_many, write_area}
use Rattle.parties.specs.protocol.Measures.{passes}
use Rattle.parties.specs.protocol.Version.{is_no_version}
use Rattle.parties.specs.protocol.Pointer.{Pointer, is_none, write_version, write_named, write_pointer}
use Rattle.parties.specs.protocol.Directory.{read_directory}
use Rattle.parties.specs.protocol.Reading.{pick}
use Rattle.parties.specs.protocol.Message.{ToNode, write_to_node}
use Rattle.parties.specs.protocol.Answer.{empty, requests}
use Rattle.parties.specs.protocol.Client.{Phase as Work, Client, work_size, write_work, write_fetches, write_pieces, lengths}
use Rattle.parties.specs.protocol.ClientEvents.{ClientEnd, does, with_phase, lay, fetch, after, on_client}
use Rattle.parties.proofs.protocol.formats.MeasureLaws.{passed}
use Rattle.parties.proofs.protocol.formats.PointerLaws.{GoodPointer, length-version, none-pointer}
use Rattle.parties.proofs.protocol.formats.RowLaws.{pointer-fits}
use Rattle.parties.proofs.protocol.steps.GoodLaws.{asking_good}
use Rattle.parties.specs.declared.Phase.{Phase}
use Rattle.parties.specs.client.Record.{record_of, work_at}
use Rattle.parties.specs.records.Places.{version_at, splice}
use Rattle.parties.specs.client.Draw.{rows_of}
use Rattle.parties.specs.client.Choose.{fetch_end}
use Rattle.parties.proofs.client.FormLaws.{sizes}
use Rattle.parties.proofs.client.AreaLaws.{ShownClient, turned-written, turned-kept}
use Rattle.parties.proofs.client.GateLaws.{Opened, found, found-reads, found-shows}
use Rattle.parties.proofs.records.SpliceLaws.{paste_all, many_zeros}
use Rattle.parties.proofs.records.RecordLaws.{not_none}
use Rattle.parties.proofs.records.PlaceLaws.{number_read}
use Rattle.parties.proofs.client.ChooseLaws.{version-shown}
use Rattle.parties.proofs.client.StepLaws.{picking-step}

-- ---- the work of a reading whose nodes are asked

no_lengths : (n : ℕ) → lengths (replicate n []) ≡ replicate n 0
no_lengths zero = refl
no_lengths (suc n) = ap (λ (l : List ℕ). 0 ∷ l) (no_lengths n)

-- spare bytes after zeros
spare : (u : List ℕ) (j n : ℕ) → length u + j ≤ n
    → (u ++ replicate j 0) ++ replicate (n - length (u ++ replicate j 0)) 0 ≡ u ++ replicate (n - length u) 0
spare u j n h =
    let z = replicate {A = ℕ} j 0 in
    let l : length (u ++ z) ≡ length u + j = length-append u z ∙ omega (arith, length-replicate {A = ℕ} j 0) in
    let k : j + (n - (length u + j)) ≡ n - length u = omega arith in
    ap (λ (m : ℕ). (u ++ z) ++ replicate (n - m) 0) l
    ∙ append_assoc u z (replicate (n - (length u + j)) 0)
    ∙ ap (λ (t : List ℕ). u ++ t) (replicate-append-replicate j (n - (length u + j)) 0 ∙ ap (λ (m : ℕ). replicate m 0) k)

module _ (s : Measures) (h : passes s ≡ true) (x : Pointer) (g : GoodPointer s x) where
  abbrev asking : Work
  asking = Work.fetching x 0 0 (replicate s.n [])

  no_pieces : write_work s asking ≡ write_pointer x ++ replicate (suc (suc (suc (suc (s.n * 2 + s.n * s.f))))) 0
  unfolding write_work write_fetches write_pieces write_number write_area
  no_pieces =
      let k : s.f - 0 ≡ s.f = omega arith in
      ap (λ (t : List ℕ). write_pointer x ++ (0 ∷ 0 ∷ 0 ∷ 0 ∷ t))
      ((λ j. (ap (write_many (write_number 2)) (no_lengths s.n) ∙ many_zeros (write_number 2) 0 2 refl s.n) j
      ++ many_zeros (write_area s.f (λ p. p)) [] s.f (ap (λ (m : ℕ). replicate m 0) k) s.n j)
      ∙ replicate-append-replicate (s.n * 2) (s.n * s.f) 0)

  -- the pointer, then zeros
  asking_work : write_area (work_size s) (write_work s) asking ≡ write_pointer x ++ replicate (work_size s - length (write_pointer x)) 0
  unfolding write_area
  asking_work =
      ap (λ (w : List ℕ). w ++ replicate (work_size s - length w) 0) no_pieces
      ∙ spare (write_pointer x) (suc (suc (suc (suc (s.n * 2 + s.n * s.f))))) (work_size s)
      (omega (arith, pointer-fits s x g, (sizes s h).pieces))

  -- the nodes that a pointer's bytes name
  map-shown : (u : List ℕ) → u ≡ write_pointer x → (n : ℕ) (r : List ℕ) → read_number 2 (drop 5 u) ≡ some (record { value = n; rest = r })
      → n ≡ x.named.nodes
  unfolding write_pointer write_named
  map-shown u e n r f =
      let z = write_many (λ d. d) x.named.digests in
      number_read 2 u 5 x.named.nodes z g.0.1.0
      (ap (drop 5) e ∙ drop_at (write_version x.version) (write_number 2 x.named.nodes ++ z) 5 (length-version x.version)) n r f

-- ---- the scan's answer

module _ (s : Measures) (own : ℕ) (p : Phase) (area : List ℕ) (opened : Opened s p area) (d : p.step ≡ 6) where
  abbrev client : List ℕ
  client = record_of p area

  abbrev read : Read Client
  read = found s p area opened

  h : passes s ≡ true
  h = opened.measures

  shows : ShownClient s p area read.value read.rest
  shows = found-shows s p area opened

  module _ (rows room : List ℕ) (x : Pointer) (q : x ≡ pick own p.reading (rows_of (read_directory s rows))) (g : GoodPointer s x) where
    abbrev went : Bool → ClientEnd
    went y =
        after s client room [] read.rest
        (cond y (does empty (with_phase Work.idle read.value) room [])
        (does (requests x.version x.named.nodes) (with_phase (Work.fetching x 0 0 (replicate s.n [])) read.value)
        (lay (write_to_node (ToNode.request x.version)) room) []))

    goes : fetch_end s own client rows room ≡ went (is_none x)
    unfolding fetch_end
    goes =
        ap (λ (r : Option (Read Client)). on_client s client room [] r (λ c. fetch s c room (pick own c.reading_index (rows_of (read_directory s rows))))) (found-reads s p area opened)
        ∙ ap (λ (i : ReadingIndex). after s client room [] read.rest (fetch s read.value room (pick own i (rows_of (read_directory s rows))))) (sym shows.reading)
        ∙ ap (λ (y : Pointer). after s client room [] read.rest (fetch s read.value room y)) (sym q)

    pub finds_none : is_no_version x.version ≡ true
        → fetch_end s own client rows room
        ≡ record { answer = empty; client = record_of (record { step = 0; reading = p.reading }) area; room = room; out = [] }
    unfolding write_work
    finds_none e =
        let c = read.value in
        let w : write_work s Work.idle ≡ write_work s c.phase = ap (write_work s) (sym (picking-step c.phase (sym shows.stands ∙ d))) in
        goes ∙ ap went (none-pointer s x g (eqb-true x.version.sequence.0 0 (and-true (eqb x.version.sequence.0 0) _ e).0))
        ∙ (λ j. record {
          answer = empty;
          client =
              (turned-kept s h p area c read.rest shows Work.idle c.reading_index w
              ∙ (λ i. record_of (record { step = 0; reading = sym shows.reading i }) area)) j;
          room = room;
          out = [];
        })

    -- as the code finds it: the pointer's bytes, its version and its map
    module _ (u : List ℕ) (e : u ≡ write_pointer x) where
      pub asks : (v : Version) → v ≡ version_at u 0 → is_no_version v ≡ false
          → (map : ℕ) (k : List ℕ) → read_number 2 (drop 5 u) ≡ some (record { value = map; rest = k })
          → (at : ℕ) → at ≡ work_at s → (size : ℕ) → size ≡ work_size s
          → (a : List ℕ) → a ≡ splice area at (u ++ replicate (size - length u) 0)
          → (r : List ℕ) → r ≡ lay (write_to_node (ToNode.request (version_at u 0))) room
          → fetch_end s own client rows room
          ≡ record { answer = requests v map; client = record_of (record { step = 7; reading = p.reading }) a; room = r; out = [] }
      asks v ev ne map k em at ea size es a ew r er =
          let c = read.value in
          let y = write_pointer x in
          let vs : v ≡ x.version = ev ∙ version-shown s x g u e in
          let ms : map ≡ x.named.nodes = map-shown s h x g u e map k em in
          let n : is_none x ≡ false = not_none x (ap is_no_version (sym vs) ∙ ne) in
          let l : work_size s ≡ length (y ++ replicate (work_size s - length y) 0) =
          omega (arith, length-append y (replicate (work_size s - length y) 0), length-replicate {A = ℕ} (work_size s - length y) 0, pointer-fits s x g)
          in
          let w : paste area (work_at s) (write_area (work_size s) (write_work s) (Work.fetching x 0 0 (replicate s.n []))) (work_size s) ≡ a =
          ap (λ (z : List ℕ). paste area (work_at s) z (work_size s)) (asking_work s h x g)
          ∙ paste_all area (work_at s) (y ++ replicate (work_size s - length y) 0) (work_size s) l
          ∙ (λ i. splice area (sym ea i) (sym e i ++ replicate (sym es i - length (sym e i)) 0))
          ∙ sym ew
          in
          goes ∙ ap went n
          ∙ (λ j. record {
            answer = requests (sym vs j) (sym ms j);
            client =
                (turned-written s h p area c read.rest shows (Work.fetching x 0 0 (replicate s.n [])) c.reading_index (asking_good s (passed s h) x g n)
                ∙ (λ i. record_of (record { step = 7; reading = sym shows.reading i }) (w i))) j;
            room = (ap (λ (z : Version). lay (write_to_node (ToNode.request z)) room) (sym (version-shown s x g u e)) ∙ sym er) j;
            out = [];
          })
