-- Acknowledgements of a version's stores: what each way out leaves.
use mathlib.Core.Path.{◌≡◌, refl, sym, ap, subst, ◌∙◌}
use mathlib.Core.Bool.{Bool, true, false, cond, not, ◌&&◌}
use mathlib.Core.List.{List, [], ◌++◌, append_assoc}
use mathlib.Core.Option.{Option, some}
use Prim.Native.Nat.{ℕ, ◌+◌, ◌-◌, ◌*◌, ◌^◌, ◌<◌, ◌≤◌}
use native.Mathlib.Omega.{arith}
use borrow.Author.Tests.{leb-true, lt-ltb, le-ltb, not-true, ltb-true}
use lib.Dec.{leb, ltb}
use lib.ListN.{length, get_or, take, drop, replicate, length-append}
use lib.Seq.{paste, take_at, drop_at, take-add, drop-drop, take_all, ext_get_or}
use Rattle.coding.proofs.Cases.{and-true}
use Rattle.coding.proofs.BytesLaws.{length-tabulate, get_or-tabulate}
use Rattle.parties.specs.declared.Measures.{Measures}
use Rattle.parties.specs.declared.Version.{Version}
use Rattle.parties.specs.protocol.Format.{Read, read_number, write_number, write_many, write_area}
use Rattle.parties.specs.protocol.Measures.{passes, pointer_size}
use Rattle.parties.specs.protocol.Nodes.{count, stands, with_node}
use Rattle.parties.specs.protocol.Pointer.{Pointer, is_none, write_version, write_pointer}
use Rattle.parties.specs.protocol.Directory.{write_record}
use Rattle.parties.specs.protocol.Reading.{same_version}
use Rattle.parties.specs.protocol.Deposit.{pointer_of, deposit_fields}
use Rattle.parties.specs.protocol.Answer.{waits, update}
use Rattle.parties.specs.protocol.Client.{Phase as Work, step as step_of, Client, retained, write_retained, read_retained}
use Rattle.parties.specs.protocol.Client.{read_some, write_stores, write_work, work_size}
use Rattle.parties.specs.protocol.ClientEvents.{Step, stays, does, with_phase, lay, acknowledge, stored_at, ClientEnd, unchanged, after, on_client}
use Rattle.parties.proofs.protocol.formats.FormatLaws.{length_area}
use Rattle.parties.proofs.protocol.formats.MeasureLaws.{passed}
use Rattle.parties.proofs.protocol.formats.NodeMapLaws.{with_below, count_with}
use Rattle.parties.proofs.protocol.formats.PointerLaws.{GoodPointer, length-number, length-version, some_pointer, some_length}
use Rattle.parties.proofs.protocol.formats.ClientLaws.{GoodDigest, GoodPhase, map-fits, work_fits}
use Rattle.parties.proofs.protocol.steps.GoodLaws.{formed_good}
use Rattle.parties.specs.declared.Phase.{Phase}
use Rattle.parties.specs.client.Record.{record_of, area_size, work_at, is_some}
use Rattle.parties.specs.records.Places.{version_at, number_at}
use Rattle.parties.specs.client.Found.{retained_in, pointer_in}
use Rattle.parties.specs.client.Publish.{digests_in, pointer_from, update_of, stored_end}
use Rattle.parties.proofs.client.FormLaws.{sizes}
use Rattle.parties.proofs.client.AreaLaws.{ShownClient, written-parts, turned_to, turned-written, area_length, retained-part, work_onward, beyond}
use Rattle.parties.proofs.client.FoundLaws.{kept-reads, kept_is, pointer-reads, pointer_is}
use Rattle.parties.proofs.client.GateLaws.{work_within, Opened, found, found-shows, found-reads}
use Rattle.parties.proofs.records.PlaceLaws.{number-told, number-there, version-there}
use Rattle.parties.proofs.records.SpliceLaws.{many-part}
use Rattle.parties.proofs.client.StepLaws.{stores_of, storing-step}

-- ---- the test of an acknowledgement

pub adds_by : (v w u : Version) (z t : Bool) → w ≡ u → same_version v w ≡ t → (t && z) ≡ (same_version v u && z)
adds_by v w u z t e f = ap (λ (b : Bool). b && z) (sym f ∙ ap (same_version v) e)

other_step : (s : Measures) (i : ℕ) (c : Client) (room out : List ℕ) (v : Version) (q : Work) → (step_of q ≡ 2 → ⊥)
    → stored_at s i c room out v q ≡ stays waits
other_step s i c room out v Work.idle d = refl
other_step s i c room out v (Work.scanning page) d = refl
other_step s i c room out v (Work.storing w a ds) d = absurd (d refl)
other_step s i c room out v (Work.updating x) d = refl
other_step s i c room out v (Work.freezing x) d = refl
other_step s i c room out v Work.raising d = refl
other_step s i c room out v Work.picking d = refl
other_step s i c room out v (Work.fetching x n m ps) d = refl

-- ---- the ways out

module _ (s : Measures) (p : Phase) (area : List ℕ) (opened : Opened s p area) (i : ℕ) (v : Version) where
  abbrev client : List ℕ
  client = record_of p area

  abbrev read : Read Client
  read = found s p area opened

  abbrev c : Client
  c = read.value

  abbrev rest : List ℕ
  rest = read.rest

  h : passes s ≡ true
  h = opened.measures

  shows : ShownClient s p area c rest
  shows = found-shows s p area opened

  abbrev went : List ℕ → List ℕ → Step → ClientEnd
  went room out x = after s client room out rest x

  through : (room out : List ℕ) → stored_end s i v client room out ≡ went room out (stored_at s i c room out v c.phase)
  unfolding stored_end
  through room out = ap (λ (x : Option (Read Client)). on_client s client room out x (λ c. stored_at s i c room out v c.phase)) (found-reads s p area opened)

  pub map-there : work_at s + 7 ≤ length area
  map-there = omega (arith, work_within s p area opened)

  -- the version is the one stored, and the node is new
  abbrev adds : Bool
  adds = same_version v (version_at area (work_at s)) && not (stands (number_at area (work_at s + 5)) i)

  -- with the work's place as the code computes it
  module _ (at : ℕ) (z : at ≡ work_at s) where
    pub adds_at : (r t : Bool) → r ≡ (same_version v (version_at area at) && not (stands (number_at area (at + 5)) i)) → r ≡ t → adds ≡ t
    adds_at r t e f = (λ j. same_version v (version_at area (sym z j)) && not (stands (number_at area (sym z j + 5)) i)) ∙ sym e ∙ f

    pub map_at : (n : ℕ) (u : List ℕ) → read_number 2 (drop (at + 5) area) ≡ some (record { value = n; rest = u }) → (m : ℕ) → m ≡ with_node n i
        → m ≡ with_node (number_at area (work_at s + 5)) i
    map_at n u e m f =
        f ∙ ap (λ (x : ℕ). with_node x i)
        (number-told area (at + 5) n u (omega (arith, z, map-there)) e ∙ ap (λ (k : ℕ). number_at area (k + 5)) z)

  pub stored_other : (p.step ≡ 2 → ⊥) → (room out : List ℕ) → stored_end s i v client room out ≡ unchanged waits client room out
  stored_other d room out = through room out ∙ ap (went room out) (other_step s i c room out v c.phase (λ e. d (shows.stands ∙ e)))

  module _ (d : p.step ≡ 2) where
    abbrev w : Version
    w = (stores_of c.phase).version

    abbrev a : ℕ
    a = (stores_of c.phase).acknowledged

    abbrev ds : List (List ℕ)
    ds = (stores_of c.phase).digests

    phase_is : c.phase ≡ Work.storing w a ds
    phase_is = storing-step c.phase (sym shows.stands ∙ d)

    good : GoodPhase s (Work.storing w a ds)
    good = subst (GoodPhase s) phase_is shows.good.phase

    -- digests and spare bytes, which a map does not change
    abbrev behind : List ℕ
    behind = write_many (λ d. d) ds ++ (replicate (work_size s - (7 + length (write_many (λ d. d) ds))) 0 ++ rest)

    work_with : (m : ℕ) → write_area (work_size s) (write_work s) (Work.storing w m ds) ++ rest ≡ write_version w ++ (write_number 2 m ++ behind)
    unfolding write_area write_work write_stores
    work_with m =
        let x = write_version w in
        let y = write_number 2 m in
        let z = write_many (λ d. d) ds in
        let u : List ℕ = replicate (work_size s - (7 + length z)) 0 in
        let l : length (x ++ (y ++ z)) ≡ 7 + length z = omega (arith, length-append x (y ++ z), length-append y z, length-version w, length-number 2 m) in
        ap (λ (n : ℕ). ((x ++ (y ++ z)) ++ replicate (work_size s - n) 0) ++ rest) l
        ∙ append_assoc (x ++ (y ++ z)) u rest ∙ append_assoc x (y ++ z) (u ++ rest)
        ∙ ap (λ (l : List ℕ). x ++ l) (append_assoc y z (u ++ rest))

    onward : drop (work_at s) area ≡ write_version w ++ (write_number 2 a ++ behind)
    onward =
        work_onward s h p area c rest shows ∙ ap (λ (q : Work). write_area (work_size s) (write_work s) q ++ rest) phase_is ∙ work_with a

    version_is : version_at area (work_at s) ≡ w
    version_is = (version-there area (work_at s) w (write_number 2 a ++ behind) good.0 onward).1

    past_version : drop (work_at s + 5) area ≡ write_number 2 a ++ behind
    past_version = sym (drop-drop 5 (work_at s) area) ∙ ap (drop 5) onward ∙ drop_at (write_version w) (write_number 2 a ++ behind) 5 (length-version w)

    map_is : number_at area (work_at s + 5) ≡ a
    map_is = (number-there area (work_at s + 5) a behind (map-fits s (passed s h) a good.2) past_version).1

    past_map : drop (work_at s + 5 + 2) area ≡ behind
    past_map = sym (drop-drop 2 (work_at s + 5) area) ∙ ap (drop 2) past_version ∙ drop_at (write_number 2 a) behind 2 (length-number 2 a)

    digest_is : (j : ℕ) → j < s.n → take 32 (drop (work_at s + 7 + 32 * j) area) ≡ get_or ds j []
    digest_is j l =
        let k : work_at s + 7 + 32 * j ≡ work_at s + 5 + 2 + j * 32 = omega arith in
        let z : List ℕ = replicate (work_size s - (7 + length (write_many (λ d. d) ds))) 0 ++ rest in
        ap (λ (n : ℕ). take 32 (drop n area)) k
        ∙ ap (take 32) (sym (drop-drop (j * 32) (work_at s + 5 + 2) area) ∙ ap (drop (j * 32)) past_map)
        ∙ many-part (λ d. d) GoodDigest 32 (λ d g. g.1) [] ds good.4 j (omega (arith, good.5)) z

    digests_are : digests_in s.n area (work_at s) ≡ ds
    digests_are =
        let f : ℕ → List ℕ = λ j. take 32 (drop (work_at s + 7 + 32 * j) area) in
        ext_get_or [] (digests_in s.n area (work_at s)) ds (length-tabulate s.n f ∙ sym good.5)
        (λ j l.
        let k : j < s.n = omega (arith, length-tabulate s.n f) in
        get_or-tabulate s.n f j [] k ∙ digest_is j k)

    formed_is : (m : ℕ) → pointer_from s m area (work_at s) ≡ pointer_of w m ds
    unfolding pointer_from
    formed_is m = λ j. pointer_of (version_is j) m (digests_are j)

    stored_by_lem : (room out : List ℕ) (t : Bool) → adds ≡ t
        → stored_end s i v client room out ≡ went room out (cond t (acknowledge s c room out w (with_node a i) ds) (stays waits))
    stored_by_lem room out t e =
        through room out ∙ ap (λ (q : Work). went room out (stored_at s i c room out v q)) phase_is
        ∙ ap (λ (x : Bool). went room out (cond x (acknowledge s c room out w (with_node a i) ds) (stays waits)))
        ((λ j. same_version v (sym version_is j) && not (stands (sym map_is j) i)) ∙ e)

    pub stored_old : adds ≡ false → (room out : List ℕ) → stored_end s i v client room out ≡ unchanged waits client room out
    stored_old e room out = stored_by_lem room out false e

    -- one node more
    module _ (e : adds ≡ true) (m : ℕ) (f : m ≡ with_node (number_at area (work_at s + 5)) i) where
      m_is : m ≡ with_node a i
      m_is = f ∙ ap (λ (x : ℕ). with_node x i) map_is

      abbrev chosen : List ℕ → List ℕ → Bool → Step
      chosen room out t =
          cond t (does waits (with_phase (Work.storing w m ds) c) room out)
          (does (update (length (write_record (deposit_fields c (pointer_of w m ds)))))
          (with_phase (Work.updating (pointer_of w m ds)) c)
          (lay (write_record (deposit_fields c (pointer_of w m ds))) room) out)

      stored_new : (room out : List ℕ) (t : Bool) → ltb (count m) (s.t + s.k) ≡ t → stored_end s i v client room out ≡ went room out (chosen room out t)
      stored_new room out t g =
          stored_by_lem room out true e ∙ ap (λ (n : ℕ). went room out (acknowledge s c room out w n ds)) (sym m_is)
          ∙ ap (λ (x : Bool). went room out (chosen room out x)) g

      -- fewer than t + k: the map alone changes
      few_area : write_retained s (retained c) ++ (write_area (work_size s) (write_work s) (Work.storing w m ds) ++ rest)
          ≡ paste area (work_at s + 5) (write_number 2 m) 2
      few_area =
          let r = write_retained s (retained c) in
          let x = write_version w in
          let y = write_number 2 m in
          let q : take (work_at s + 5) area ≡ r ++ x =
          take-add (work_at s) 5 area
          ∙ (λ j. retained-part s h p area c rest shows j ++ (ap (take 5) onward ∙ take_at x (write_number 2 a ++ behind) 5 (length-version w)) j)
          in
          ap (λ (l : List ℕ). r ++ l) (work_with m) ∙ sym (append_assoc r x (y ++ behind)) ∙ sym (append_assoc (r ++ x) y behind)
          ∙ (λ j. (sym q j ++ sym (take_all 2 y (omega (arith, length-number 2 m))) j) ++ sym past_map j)

      pub stored-few : count m < s.t + s.k → (at : ℕ) → at ≡ work_at s → (x : List ℕ) → x ≡ paste area (at + 5) (write_number 2 m) 2 → (room out : List ℕ)
          → stored_end s i v client room out ≡ record { answer = waits; client = record_of p x; room = room; out = out }
      stored-few l at z x y room out =
          let u = y ∙ (λ j. paste area (z j + 5) (write_number 2 m) 2) in
          stored_new room out true (lt-ltb (count m) (s.t + s.k) l)
          ∙ (λ j. record {
            answer = waits;
            client =
                (written-parts s (turned_to (Work.storing w m ds) c.reading_index c) rest
                ∙ (λ k. record_of (record { step = sym d k; reading = sym shows.reading k }) ((few_area ∙ sym u) k))) j;
            room = room;
            out = out;
          })

      -- t + k: the pointer is published
      module _ (lo : 1 ≤ i) (up : i ≤ s.n) (many : s.t + s.k ≤ count m) where
        new : stands a i ≡ false
        new =
            ap (λ (n : ℕ). stands n i) (sym map_is)
            ∙ not-true (stands (number_at area (work_at s + 5)) i) (and-true (same_version v (version_at area (work_at s))) (not (stands (number_at area (work_at s + 5)) i)) e).1

        pub published_bits : m < 2 ^ s.n
        published_bits = subst (λ (n : ℕ). n < 2 ^ s.n) (sym m_is) (with_below a i s.n lo up good.2)

        pub published_enough : count m ≡ s.t + s.k
        published_enough = omega (arith, many, ap count m_is, count_with a i lo (omega (arith, up, (sizes s h).nodes)) new, good.3)

        abbrev q : Pointer
        q = pointer_of w m ds

        sequence : 1 ≤ w.sequence.0
        sequence = leb-true 1 w.sequence.0 (and-true (leb 1 w.sequence.0) (ltb w.client s.m) good.1).0

        q_good : GoodPointer s q
        q_good =
            formed_good s (passed s h) w m sequence good.0.0
            (ltb-true w.client s.m (and-true (leb 1 w.sequence.0) (ltb w.client s.m) good.1).1) published_bits published_enough ds good.4 good.5

        q_some : is_none q ≡ false
        unfolding pointer_of
        q_some = some_pointer q (λ z. omega (arith, sequence, z))

        abbrev published : Client
        published = turned_to (Work.updating q) c.reading_index c

        -- the area with the pointer
        module _ (at : ℕ) (z : at ≡ work_at s) (x : List ℕ)
            (y : x ≡ paste area at (write_pointer (pointer_from s m area at) ++ replicate (work_size s - pointer_size s) 0) (work_size s)) where
          x_is : x ≡ paste area (work_at s) (write_area (work_size s) (write_work s) (Work.updating q)) (work_size s)
          unfolding write_area write_work
          x_is =
              let l = some_length s q q_good q_some in
              y ∙ (λ j. paste area (z j) (write_pointer (pointer_from s m area (z j)) ++ replicate (work_size s - pointer_size s) 0) (work_size s))
              ∙ (λ j. paste area (work_at s) (write_pointer (formed_is m j) ++ replicate (work_size s - pointer_size s) 0) (work_size s))
              ∙ (λ j. paste area (work_at s) (write_pointer q ++ replicate (work_size s - sym l j) 0) (work_size s))

          abbrev turned : Phase
          turned = record { step = 3; reading = p.reading }

          published_shows : ShownClient s turned x published rest
          published_shows =
              let r = write_retained s (retained c) in
              let u = write_area (work_size s) (write_work s) (Work.updating q) in
              let l : length u ≡ work_size s = length_area (work_size s) (write_work s) (Work.updating q) (work_fits s (passed s h) (Work.updating q) (q_good, q_some)) in
              record {
                good =
                    record {
                      phase = (q_good, q_some);
                      index = shows.good.index;
                      written = shows.good.written;
                      frozen = shows.good.frozen;
                      reserved = shows.good.reserved;
                      indices = shows.good.indices;
                    };
                stands = refl;
                reading = shows.reading;
                parts =
                    x_is ∙ (λ j. (retained-part s h p area c rest shows j ++ take_all (work_size s) u (omega arith) j) ++ beyond s h p area c rest shows j)
                    ∙ append_assoc r u rest;
              }

          work_is : write_work s (Work.updating q) ≡ write_pointer q
          unfolding write_work
          work_is = refl

          pub published_retained : is_some (read_retained s x) ≡ true
          published_retained = kept-reads s h turned x published rest published_shows

          pub published_pointer : is_some (read_some s (drop (work_at s) x)) ≡ true
          published_pointer = pointer-reads s h turned x published rest published_shows q work_is q_good q_some

          pub published_long : area_size s ≤ length x
          published_long = omega (arith, area_length s h turned x published rest published_shows)

          update_is : update_of (retained_in s x) (pointer_in s x) ≡ write_record (deposit_fields c q)
          update_is =
              λ j. update_of (kept_is s h turned x published rest published_shows j) (pointer_is s h turned x published rest published_shows q work_is q_good q_some j)

          pub stored_published : (room : List ℕ) (len : ℕ) → len ≡ length (update_of (retained_in s x) (pointer_in s x))
              → (r : List ℕ) → r ≡ lay (update_of (retained_in s x) (pointer_in s x)) room → (out : List ℕ)
              → stored_end s i v client room out ≡ record { answer = update len; client = record_of turned x; room = r; out = out }
          stored_published room len l r e out =
              stored_new room out false (le-ltb (count m) (s.t + s.k) many)
              ∙ (λ j. record {
                answer = update ((ap length (sym update_is) ∙ sym l) j);
                client =
                    (turned-written s h p area c rest shows (Work.updating q) c.reading_index (q_good, q_some)
                    ∙ (λ k. record_of (record { step = 3; reading = sym shows.reading k }) (sym x_is k))) j;
                room = (ap (λ (u : List ℕ). lay u room) (sym update_is) ∙ sym e) j;
                out = out;
              })
