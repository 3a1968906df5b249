-- A deposit's second scan: what it leaves, where a bit map has the clients whose readings are noticed.
use mathlib.Core.Path.{◌≡◌, refl, sym, ap, ap₂, subst, ◌∙◌}
use mathlib.Core.Bool.{true, false, cond}
use mathlib.Core.List.{List, [], ◌∷◌, ◌++◌, map, append_assoc}
use mathlib.Core.Option.{Option}
use Prim.Native.Nat.{ℕ, zero, suc, ◌+◌, ◌-◌, ◌<◌, ◌≤◌}
use native.Mathlib.Omega.{arith}
use lib.ListN.{length, get_or, drop, replicate}
use Rattle.coding.proofs.BytesLaws.{tabulate_ext, map-tabulate}
use Rattle.coding.proofs.Cases.{chosen_of}
use Rattle.parties.specs.declared.Measures.{Measures}
use Rattle.parties.specs.declared.Version.{Version}
use Rattle.parties.specs.protocol.Format.{Read}
use Rattle.parties.specs.protocol.Measures.{passes}
use Rattle.parties.specs.protocol.Nodes.{stands}
use Rattle.parties.specs.protocol.Version.{no_version}
use Rattle.parties.specs.protocol.Pointer.{Pointer, none_pointer, is_none, write_version, write_named, write_pointer}
use Rattle.parties.specs.protocol.Directory.{Row, no_row, read_directory}
use Rattle.parties.specs.protocol.Message.{ToNode, write_to_node}
use Rattle.parties.specs.protocol.Answer.{deposited}
use Rattle.parties.specs.protocol.Client.{Phase as Work, Client, Retained, retained, read_client, read_retained, read_some, work_size, write_work, write_retained, write_client}
use Rattle.parties.specs.protocol.Deposit.{noticed, frozen_after, replaced, still_retained, free_list, freed}
use Rattle.parties.specs.protocol.ClientEvents.{on_client, freeze, lay}
use Rattle.parties.proofs.protocol.formats.PointerLaws.{GoodPointer}
use Rattle.parties.proofs.protocol.formats.ClientLaws.{GoodPhase}
use Rattle.parties.specs.declared.Phase.{Phase}
use Rattle.parties.specs.client.Record.{record_of, area_size, work_at, is_some}
use Rattle.parties.specs.records.Places.{version_at}
use Rattle.parties.specs.client.Draw.{rows_of}
use Rattle.parties.specs.client.Found.{retained_in, pointer_in}
use Rattle.parties.specs.client.Freeze.{Notices, retained_after, kept_versions, replaced_by, freed_by, new_pointer, freeze_end}
use Rattle.parties.proofs.client.AreaLaws.{ShownClient, area_length, work_front, beyond, written-parts, idle_work}
use Rattle.parties.proofs.client.GateLaws.{Opened, found as open-found, found-reads, found-shows}
use Rattle.parties.proofs.records.PlaceLaws.{version-there}
use Rattle.parties.proofs.client.FoundLaws.{kept-reads, kept_is, pointer-reads, pointer_is}
use Rattle.parties.proofs.client.StepLaws.{freezing-step}

-- ---- by the bit map as by the rows

module _ (s : Measures) (own : ℕ) (map : ℕ) (c : Client) (rows : List Row) (notices : Notices s own (retained c) rows map) where
  told : (q : ℕ) → q < s.m → stands map (q + 1) ≡ noticed own c rows q
  unfolding noticed
  told q l = notices q l

  after_is : (p : Pointer) → retained_after s map (retained c) rows p ≡ retained (frozen_after s own c rows p)
  unfolding retained_after frozen_after
  after_is p =
      λ j. record {
        written = p;
        frozen = tabulate_ext s.m _ _ (λ q l i. cond (told q l i) p (get_or c.frozen q none_pointer)) j;
        reserved = tabulate_ext s.m _ _ (λ q l i. cond (told q l i) c.written.version (get_or c.reserved q no_version)) j;
        frozen_indices = tabulate_ext s.m _ _ (λ q l i. cond (told q l i) (get_or rows q no_row).reading_index (get_or c.frozen_indices q (record { 0 = 0 }))) j;
      }

  kept_is_still : (p : Pointer) → kept_versions s map (retained c) p.version ≡ still_retained (frozen_after s own c rows p)
  unfolding kept_versions frozen_after
  kept_is_still p =
      ap₂ (λ (a b : List Version). a ++ b)
      (tabulate_ext s.m _ (λ q. (cond (noticed own c rows q) p (get_or c.frozen q none_pointer)).version)
      (λ q l.
      (λ i. cond (told q l i) p.version (get_or c.frozen q none_pointer).version)
      ∙ chosen_of (λ (x : Pointer). x.version) (noticed own c rows q) p (get_or c.frozen q none_pointer))
      ∙ sym (map-tabulate (λ (x : Pointer). x.version) s.m (λ q. cond (noticed own c rows q) p (get_or c.frozen q none_pointer))))
      (tabulate_ext s.m _ _ (λ q l i. cond (told q l i) c.written.version (get_or c.reserved q no_version)))

  replaced_is : (n : ℕ) → n ≤ s.m → replaced_by map (retained c) n ≡ replaced own c rows n
  unfolding replaced_by replaced
  replaced_is zero h = refl
  replaced_is (suc q) h =
      λ i. cond (told q h i) ((get_or c.frozen q none_pointer).version ∷ get_or c.reserved q no_version ∷ replaced_is q (omega arith) i) (replaced_is q (omega arith) i)

  freed_is : (p : Pointer) → freed_by s map (retained c) p.version ≡ freed s own c rows p
  freed_is p = ap₂ free_list (kept_is_still p) (replaced_is s.m (omega arith))

-- ---- the record that is shown

module _ (s : Measures) (p : Phase) (area : List ℕ) (opened : Opened s p area) (d : p.step ≡ 4) where
  abbrev client : List ℕ
  client = record_of p area

  abbrev read : Read Client
  read = open-found s p area opened

  abbrev found : Client
  found = read.value

  h : passes s ≡ true
  h = opened.measures

  shows : ShownClient s p area found read.rest
  shows = found-shows s p area opened

  abbrev new : Pointer
  new = new_pointer found.phase

  phase_is : found.phase ≡ Work.freezing new
  phase_is = freezing-step found.phase (sym shows.stands ∙ d)

  new_good : GoodPointer s new × (is_none new ≡ false)
  new_good = subst (GoodPhase s) phase_is shows.good.phase

  writes : write_work s found.phase ≡ write_pointer new
  unfolding write_work
  writes = ap (write_work s) phase_is

  pub freeze-long : area_size s ≤ length area
  freeze-long = omega (arith, area_length s h p area found read.rest shows)

  pub freeze-retained : is_some (read_retained s area) ≡ true
  freeze-retained = kept-reads s h p area found read.rest shows

  pub freeze-pointer : is_some (read_some s (drop (work_at s) area)) ≡ true
  freeze-pointer = pointer-reads s h p area found read.rest shows new writes new_good.0 new_good.1

  version_is : version_at area (work_at s) ≡ new.version
  unfolding write_pointer
  version_is =
      let v = write_version new.version in
      let n = write_named new.named in
      let z = replicate {A = ℕ} (work_size s - length (write_work s found.phase)) 0 ++ read.rest in
      (version-there area (work_at s) new.version (n ++ z) new_good.0.0.0
      (work_front s h p area found read.rest shows ∙ ap (λ (w : List ℕ). w ++ z) writes ∙ append_assoc v n z)).1

  module _ (own : ℕ) (rows : List Row) where
    abbrev after : Client
    after = frozen_after s own found rows new

    frozen-client : write_client s after ++ read.rest
        ≡ record_of (record { step = 0; reading = p.reading }) (write_retained s (retained after) ++ (replicate (work_size s) 0 ++ drop (area_size s) area))
    unfolding frozen_after
    frozen-client =
        let k : work_at s + work_size s ≡ area_size s = omega arith in
        written-parts s after read.rest
        ∙ (λ i. record_of (record { step = 0; reading = sym shows.reading i })
        (write_retained s (retained after)
        ++ (idle_work s i ++ (sym (beyond s h p area found read.rest shows) ∙ ap (λ (n : ℕ). drop n area) k) i)))

    module _ (map : ℕ) (notices : Notices s own (retained_in s area) rows map) where
      retained_is : retained_in s area ≡ retained found
      retained_is = kept_is s h p area found read.rest shows

      notices_found : Notices s own (retained found) rows map
      notices_found = subst (λ (x : Retained). Notices s own x rows map) retained_is notices

      after-found : retained_after s map (retained_in s area) rows (pointer_in s area) ≡ retained after
      after-found =
          (λ i. retained_after s map (retained_is i) rows (pointer_is s h p area found read.rest shows new writes new_good.0 new_good.1 i))
          ∙ after_is s own map found rows notices_found new

      module _ (v : Version) (ev : v ≡ version_at area (work_at s)) where
        abbrev list : List Version
        list = freed_by s map (retained_in s area) v

        list_is : list ≡ freed s own found rows new
        list_is = (λ i. freed_by s map (retained_is i) ((ev ∙ version_is) i)) ∙ freed_is s own map found rows notices_found new

        frozen-ends : (room : List ℕ) (len : ℕ) → len ≡ length (write_to_node (ToNode.free list))
            → (r : List ℕ) → r ≡ lay (write_to_node (ToNode.free list)) room
            → (a : List ℕ) → a ≡ write_retained s (retained_after s map (retained_in s area) rows (pointer_in s area)) ++ (replicate (work_size s) 0 ++ drop (area_size s) area)
            → on_client s client room [] (read_client s client) (λ c. freeze s own c room rows (new_pointer c.phase))
            ≡ record { answer = deposited v len; client = record_of (record { step = 0; reading = p.reading }) a; room = r; out = [] }
        frozen-ends room len el r er a ea =
            let l2 : length (write_to_node (ToNode.free (freed s own found rows new))) ≡ len =
            ap (λ (l : List Version). length (write_to_node (ToNode.free l))) (sym list_is) ∙ sym el
            in
            let r2 : lay (write_to_node (ToNode.free (freed s own found rows new))) room ≡ r =
            ap (λ (l : List Version). lay (write_to_node (ToNode.free l)) room) (sym list_is) ∙ sym er
            in
            let a2 : write_retained s (retained after) ++ (replicate (work_size s) 0 ++ drop (area_size s) area) ≡ a =
            ap (λ (x : Retained). write_retained s x ++ (replicate (work_size s) 0 ++ drop (area_size s) area)) (sym after-found) ∙ sym ea
            in
            ap (λ (x : Option (Read Client)). on_client s client room [] x (λ c. freeze s own c room rows (new_pointer c.phase))) (found-reads s p area opened)
            ∙ (λ j. record {
              answer = deposited (sym (ev ∙ version_is) j) (l2 j);
              client = (frozen-client ∙ ap (λ (x : List ℕ). record_of (record { step = 0; reading = p.reading }) x) a2) j;
              room = r2 j;
              out = [];
            })

  -- the same, with the work's place as the code computes it
  pub frozen : (own map : ℕ) (rows : List ℕ) → Notices s own (retained_in s area) (rows_of (read_directory s rows)) map
      → (at : ℕ) → at ≡ work_at s → (v : Version) → v ≡ version_at area at
      → (room : List ℕ) (len : ℕ) → len ≡ length (write_to_node (ToNode.free (freed_by s map (retained_in s area) v)))
      → (r : List ℕ) → r ≡ lay (write_to_node (ToNode.free (freed_by s map (retained_in s area) v))) room
      → (a : List ℕ) → a ≡ write_retained s (retained_after s map (retained_in s area) (rows_of (read_directory s rows)) (pointer_in s area)) ++ (replicate (work_size s) 0 ++ drop (area_size s) area)
      → freeze_end s own client rows room
      ≡ record { answer = deposited v len; client = record_of (record { step = 0; reading = p.reading }) a; room = r; out = [] }
  unfolding freeze_end
  frozen own map rows notices at w v ev = frozen-ends own (rows_of (read_directory s rows)) map notices v (ev ∙ ap (version_at area) w)
