-- A reply to a reading: what stands in the work area, and what each way out leaves.
use mathlib.Core.Path.{◌≡◌, refl, sym, ap, ◌∙◌, subst}
use mathlib.Core.Bool.{Bool, true, false, cond, not, ◌&&◌}
use mathlib.Core.List.{List, [], ◌∷◌, ◌++◌, append_assoc}
use mathlib.Core.Option.{Option, some, none}
use Prim.Native.Nat.{ℕ, zero, suc, ◌+◌, ◌-◌, ◌*◌, ◌^◌, ◌<◌, ◌≤◌}
use native.Mathlib.Omega.{arith}
use borrow.Author.Tests.{leb-true, lt-ltb, le-ltb}
use lib.Dec.{leb, ltb}
use lib.ListN.{length, get_or, take, drop, set, replicate, length-append, length-set, length-map, take-append-drop, get_or-map}
use lib.Seq.{paste, take_at, drop_at, take_all, drop-drop, ext_get_or}
use Rattle.coding.specs.Answer.{Outcome}
use Rattle.coding.specs.Bytes.{Bytes, tabulate}
use Rattle.coding.specs.Placed.{piece_digest}
use Rattle.coding.specs.Join.{JoinEnd, join}
use Rattle.coding.specs.Nodes.{all, nodes_of}
use Rattle.coding.proofs.BytesLaws.{length-tabulate, get_or-tabulate, tabulate_ext}
use Rattle.coding.proofs.Cases.{and-true}
use Rattle.coding.proofs.RefusalLaws.{join_kept}
use Rattle.parties.specs.declared.Measures.{Measures}
use Rattle.parties.specs.declared.Version.{Version}
use Rattle.parties.specs.protocol.Format.{Read, write_number, write_many, write_area}
use Rattle.parties.specs.protocol.Measures.{passes, pointer_size}
use Rattle.parties.specs.protocol.Nodes.{nodes_in, count, stands, with_node}
use Rattle.parties.specs.protocol.Pointer.{Pointer, write_version, write_named, write_pointer}
use Rattle.parties.specs.protocol.Reading.{same_version, same_bytes, digest_of, matches, all_counted}
use Rattle.parties.specs.protocol.Answer.{refused, waits, page, failed}
use Rattle.parties.specs.protocol.Client.{Phase as Work, step as step_of, Client, Fetches, write_client, lengths, areas, write_pieces, write_fetches, write_work, work_size, write_retained, retained}
use Rattle.parties.specs.protocol.ClientEvents.{Step, stays, does, with_phase, go_on, joined_at, ends, counted, replied_at, unchanged, after, on_client}
use Rattle.parties.proofs.protocol.formats.FormatLaws.{Each, length_area, length-same}
use Rattle.parties.proofs.protocol.formats.EachLaws.{each_set, each_at, each_all}
use Rattle.parties.proofs.protocol.formats.MeasureLaws.{passed}
use Rattle.parties.proofs.protocol.formats.PointerLaws.{length-number, length-version, some_count, some_length}
use Rattle.parties.proofs.protocol.formats.NodeMapLaws.{with_below}
use Rattle.parties.proofs.protocol.formats.ClientLaws.{GoodDigest, ShortPiece, GoodPhase, map-fits, length-areas, length_retained}
use Rattle.parties.specs.declared.Phase.{Phase}
use Rattle.parties.specs.declared.ClientAnswer.{ClientAnswer}
use Rattle.parties.specs.declared.client.reply.Standing.{Standing}
use Rattle.std.specs.Prelude.{Ok}
use Rattle.parties.specs.client.Answer.{answered}
use Rattle.parties.specs.records.Places.{number_at}
use Rattle.parties.specs.client.Record.{record_of, work_at}
use Rattle.parties.specs.client.Step.{phase_after}
use Rattle.parties.specs.client.Reply.{replied_end, maps_at, standing_at, counts_at, digest_place, matches_at, went_on, cleared, mapped, area_put, piece_put, lengths_with}
use Rattle.parties.proofs.client.FormLaws.{sizes}
use Rattle.parties.proofs.client.AreaLaws.{ShownClient, written-parts, area_length, idle_work, turned-written}
use Rattle.parties.proofs.client.GateLaws.{work_within, Opened, found, found-reads, found-shows}
use Rattle.parties.proofs.client.MatchLaws.{rank_below, digest-found}
use Rattle.parties.proofs.records.PlaceLaws.{number-there, version-there}
use Rattle.parties.proofs.records.SpliceLaws.{paste_all, splice-parts, drop_past, paste_past, many-part, many_put}
use Rattle.parties.proofs.client.StepLaws.{fetches_of, fetching-step}

-- where the lengths stand, after the maps; then the areas
abbrev pub lengths_at : Measures → ℕ
lengths_at s = maps_at s + 4

-- ---- bytes at places

-- one of many values of one length, behind a first part, written over
put_behind : {A : Type 0} (w : A → List ℕ) (g : A → Type 0) (k : ℕ) → ((a : A) → g a → length (w a) ≡ k) → (l : List A) → Each g l
    → (j : ℕ) → j < length l → (a : A) → g a → (p z : List ℕ) (n at : ℕ) → length p ≡ n → at ≡ n + j * k
    → paste (p ++ (write_many w l ++ z)) at (w a) k ≡ p ++ (write_many w (set l j a) ++ z)
put_behind w g k h l e j b a ga p z n at d f =
    paste_past p (write_many w l ++ z) (w a) n (j * k) k at d f
    ∙ ap (λ (x : List ℕ). p ++ x) (many_put w g k h l e j b a z (w a) (take_all k (w a) (omega (arith, h a ga))))

map-set : (ps : List (List ℕ)) (j : ℕ) (x : List ℕ) → lengths (set ps j x) ≡ set (lengths ps) j (length x)
map-set [] j x = refl
map-set (p ∷ ps) zero x = refl
map-set (p ∷ ps) (suc j) x = ap (λ (l : List ℕ). length p ∷ l) (map-set ps j x)

units : (l : List ℕ) → Each (λ x. Unit {0}) l
units = each_all (λ x. Unit {0}) (λ x. tt)

-- two numbers behind two parts
maps_put : (r a b d z b' d' : List ℕ) (at : ℕ) → length r + length a ≡ at → length b ≡ 2 → length d ≡ 2 → length b' ≡ 2 → length d' ≡ 2
    → paste (paste (r ++ (a ++ (b ++ (d ++ z)))) at b' 2) (at + 2) d' 2 ≡ r ++ (a ++ (b' ++ (d' ++ z)))
maps_put r a b d z b' d' at e lb ld lb' ld' =
    let f : length (r ++ a) ≡ at = length-append r a ∙ e in
    let g : length ((r ++ a) ++ b') ≡ at + 2 = length-append (r ++ a) b' ∙ omega (arith, f) in
    ap (λ (l : List ℕ). paste (paste l at b' 2) (at + 2) d' 2) (sym (append_assoc r a (b ++ (d ++ z))))
    ∙ ap (λ (l : List ℕ). paste l (at + 2) d' 2)
    (paste_all ((r ++ a) ++ (b ++ (d ++ z))) at b' 2 (omega arith) ∙ splice-parts (r ++ a) b (d ++ z) b' at f (omega arith)
    ∙ sym (append_assoc (r ++ a) b' (d ++ z)))
    ∙ paste_all (((r ++ a) ++ b') ++ (d ++ z)) (at + 2) d' 2 (omega arith) ∙ splice-parts ((r ++ a) ++ b') d z d' (at + 2) g (omega arith)
    ∙ append_assoc (r ++ a) b' (d' ++ z) ∙ append_assoc r a (b' ++ (d' ++ z))

-- ---- the work of a reading

module _ (s : Measures) (h : passes s ≡ true) (q : Pointer) (n m : ℕ) (ps : List (List ℕ)) (g : GoodPhase s (Work.fetching q n m ps)) (rest : List ℕ) where
  pointer-long : length (write_pointer q) ≡ pointer_size s
  pointer-long = some_length s q g.0 g.1

  lengths-long : length (write_many (write_number 2) (lengths ps)) ≡ 2 * s.n
  lengths-long =
      length-same (write_number 2) (λ l. Unit {0}) 2 (λ l u. length-number 2 l) (lengths ps) (units (lengths ps))
      ∙ omega (arith, length-map ps length, g.6)

  areas-long : length (areas s ps) ≡ s.n * s.f
  areas-long = length-areas s ps g.5 ∙ ap (λ (k : ℕ). k * s.f) g.6

  abbrev tail : List ℕ
  tail = replicate (work_size s - (pointer_size s + 4 + 2 * s.n + s.n * s.f)) 0 ++ rest

  fetching-parts : write_area (work_size s) (write_work s) (Work.fetching q n m ps) ++ rest
      ≡ write_pointer q ++ (write_number 2 n ++ (write_number 2 m ++ (write_many (write_number 2) (lengths ps) ++ (areas s ps ++ tail))))
  unfolding write_area write_work write_fetches write_pieces
  fetching-parts =
      let a = write_pointer q in
      let b = write_number 2 n in
      let d = write_number 2 m in
      let l = write_many (write_number 2) (lengths ps) in
      let w = areas s ps in
      let k : length (a ++ (b ++ (d ++ (l ++ w)))) ≡ pointer_size s + 4 + 2 * s.n + s.n * s.f =
      omega (
        arith,
        length-append a (b ++ (d ++ (l ++ w))),
        length-append b (d ++ (l ++ w)),
        length-append d (l ++ w),
        length-append l w,
        length-number 2 n,
        length-number 2 m,
        pointer-long,
        lengths-long,
        areas-long,
      )
      in
      ap (λ (x : ℕ). ((a ++ (b ++ (d ++ (l ++ w)))) ++ replicate (work_size s - x) 0) ++ rest) k
      ∙ append_assoc (a ++ (b ++ (d ++ (l ++ w)))) _ rest
      ∙ append_assoc a (b ++ (d ++ (l ++ w))) tail
      ∙ ap (λ (x : List ℕ). a ++ x)
      (append_assoc b (d ++ (l ++ w)) tail
      ∙ ap (λ (x : List ℕ). b ++ x)
      (append_assoc d (l ++ w) tail ∙ ap (λ (x : List ℕ). d ++ x) (append_assoc l w tail)))

other_step : (s : Measures) (i : ℕ) (c : Client) (room out : List ℕ) (v : Version) (y : Option (List ℕ)) (q : Work) → (step_of q ≡ 7 → ⊥)
    → replied_at s i c room out v y q ≡ stays waits
other_step s i c room out v y Work.idle e = refl
other_step s i c room out v y (Work.scanning bytes) e = refl
other_step s i c room out v y (Work.storing w a ds) e = refl
other_step s i c room out v y (Work.updating x) e = refl
other_step s i c room out v y (Work.freezing x) e = refl
other_step s i c room out v y Work.raising e = refl
other_step s i c room out v y Work.picking e = refl
other_step s i c room out v y (Work.fetching p n m ps) e = absurd (e refl)

-- ---- what stands where

module _ (s : Measures) (h : passes s ≡ true) (p : Phase) (area : List ℕ) (c : Client) (rest : List ℕ) (x : ShownClient s p area c rest)
    (q : Pointer) (n m : ℕ) (ps : List (List ℕ)) (e : c.phase ≡ Work.fetching q n m ps) where
  good : GoodPhase s (Work.fetching q n m ps)
  good = subst (GoodPhase s) e x.good.phase

  abbrev kept : List ℕ
  kept = write_retained s (retained c)

  kept-long : length kept ≡ work_at s
  kept-long = length_retained s c x.good

  abbrev ptr : List ℕ
  ptr = write_pointer q

  abbrev lens : List ℕ
  lens = write_many (write_number 2) (lengths ps)

  abbrev spare : List ℕ
  spare = tail s h q n m ps good rest

  area_parts : area ≡ kept ++ (ptr ++ (write_number 2 n ++ (write_number 2 m ++ (lens ++ (areas s ps ++ spare)))))
  area_parts =
      x.parts
      ∙ ap (λ (w : Work). kept ++ (write_area (work_size s) (write_work s) w ++ rest)) e
      ∙ ap (λ (l : List ℕ). kept ++ l) (fetching-parts s h q n m ps good rest)

  long_area : lengths_at s + 2 * s.n + s.n * s.f ≤ length area
  long_area = omega (arith, area_length s h p area c rest x, (sizes s h).pieces)

  -- behind the pointer
  maps_onward : drop (maps_at s) area ≡ write_number 2 n ++ (write_number 2 m ++ (lens ++ (areas s ps ++ spare)))
  maps_onward =
      ap (drop (maps_at s)) area_parts
      ∙ drop_past kept (ptr ++ (write_number 2 n ++ (write_number 2 m ++ (lens ++ (areas s ps ++ spare))))) (work_at s) (pointer_size s) (maps_at s) kept-long refl
      ∙ drop_at ptr (write_number 2 n ++ (write_number 2 m ++ (lens ++ (areas s ps ++ spare)))) (pointer_size s) (pointer-long s h q n m ps good rest)

  standing_is : standing_at area (work_at s) (maps_at s)
      ≡ record { version = q.version; named = q.named.nodes; counted = n; matching = m }
  unfolding write_pointer write_named
  standing_is =
      let r = write_number 2 n ++ (write_number 2 m ++ (lens ++ (areas s ps ++ spare))) in
      let a = write_version q.version in
      let b = write_number 2 q.named.nodes in
      let d = write_many (λ d. d) q.named.digests in
      let onward : drop (work_at s) area ≡ a ++ (b ++ (d ++ r)) =
      ap (drop (work_at s)) area_parts ∙ drop_at kept (ptr ++ r) (work_at s) kept-long ∙ append_assoc a (b ++ d) r ∙ ap (λ (l : List ℕ). a ++ l) (append_assoc b d r)
      in
      let f = (version-there area (work_at s) q.version (b ++ (d ++ r)) good.0.0.0 onward).1 in
      let k = (number-there area (work_at s + 5) q.named.nodes (d ++ r) good.0.0.1.0
      (sym (drop-drop 5 (work_at s) area) ∙ ap (drop 5) onward ∙ drop_at a (b ++ (d ++ r)) 5 (length-version q.version))).1
      in
      let t = (number-there area (maps_at s) n (write_number 2 m ++ (lens ++ (areas s ps ++ spare))) good.2 maps_onward).1 in
      let u = (number-there area (maps_at s + 2) m (lens ++ (areas s ps ++ spare)) (map-fits s (passed s h) m good.3)
      (sym (drop-drop 2 (maps_at s) area) ∙ ap (drop 2) maps_onward ∙ drop_at (write_number 2 n) (write_number 2 m ++ (lens ++ (areas s ps ++ spare))) 2 (length-number 2 n))).1
      in
      λ i. record { version = f i; named = k i; counted = t i; matching = u i }

  -- a named node's digest
  module _ (i : ℕ) (lo : 1 ≤ i) (up : i ≤ s.n) (there : stands q.named.nodes i ≡ true) where
    abbrev place : ℕ
    place = digest_place (work_at s) q.named.nodes i

    rank-few : length (nodes_of q.named.nodes (i - 1)) < length q.named.digests
    rank-few =
        omega (arith, rank_below q.named.nodes i lo (omega (arith, (sizes s h).nodes)) there, good.0.0.1.1.1)

    digest-fits : place + 32 ≤ length area
    digest-fits = omega (arith, rank-few, good.0.0.1.1.1, some_count s q good.0 good.1, long_area)

    digest-there : take 32 (drop place area) ≡ digest_of q i
    unfolding write_pointer write_named
    digest-there =
        let j = length (nodes_of q.named.nodes (i - 1)) in
        let r = write_number 2 n ++ (write_number 2 m ++ (lens ++ (areas s ps ++ spare))) in
        let a = write_version q.version in
        let b = write_number 2 q.named.nodes in
        let d = write_many (λ d. d) q.named.digests in
        let la : length (kept ++ (a ++ b)) ≡ work_at s + 7 =
        omega (arith, length-append kept (a ++ b), length-append a b, kept-long, length-version q.version, length-number 2 q.named.nodes)
        in
        let parts : area ≡ (kept ++ (a ++ b)) ++ (d ++ r) =
        area_parts
        ∙ ap (λ (l : List ℕ). kept ++ l) (append_assoc a (b ++ d) r ∙ ap (λ (l : List ℕ). a ++ l) (append_assoc b d r) ∙ sym (append_assoc a b (d ++ r)))
        ∙ sym (append_assoc kept (a ++ b) (d ++ r))
        in
        ap (λ (l : List ℕ). take 32 (drop place l)) parts
        ∙ ap (take 32) (drop_past (kept ++ (a ++ b)) (d ++ r) (work_at s + 7) (j * 32) place la (omega arith))
        ∙ many-part (λ d. d) GoodDigest 32 (λ d g. g.1) [] q.named.digests good.0.0.1.1.0 j rank-few r
        ∙ sym (digest-found q.named.nodes i lo (omega (arith, (sizes s h).nodes)) there q.named.digests good.0.0.1.1.1)

    matches-there : (y : List ℕ) → matches_at s.f q.version i y area place ≡ matches s q i y
    unfolding matches_at matches
    matches-there y =
        ap (λ (l : List ℕ). leb 1 (length y) && (leb (length y) s.f && same_bytes (piece_digest (write_version q.version) i y) l)) digest-there

  -- ---- what is written

  -- other maps
  maps_written : (n' m' : ℕ) → mapped s n' m' area ≡ kept ++ (ptr ++ (write_number 2 n' ++ (write_number 2 m' ++ (lens ++ (areas s ps ++ spare)))))
  unfolding mapped
  maps_written n' m' =
      ap (λ (l : List ℕ). paste (paste l (maps_at s) (write_number 2 n') 2) (maps_at s + 2) (write_number 2 m') 2) area_parts
      ∙ maps_put kept ptr (write_number 2 n) (write_number 2 m) (lens ++ (areas s ps ++ spare)) (write_number 2 n') (write_number 2 m') (maps_at s)
      (omega (arith, kept-long, pointer-long s h q n m ps good rest)) (length-number 2 n) (length-number 2 m) (length-number 2 n') (length-number 2 m')

  abbrev front : List ℕ
  front = kept ++ (ptr ++ (write_number 2 n ++ write_number 2 m))

  front_long : length front ≡ lengths_at s
  front_long =
      omega (
        arith,
        length-append kept (ptr ++ (write_number 2 n ++ write_number 2 m)),
        length-append ptr (write_number 2 n ++ write_number 2 m),
        length-append (write_number 2 n) (write_number 2 m),
        length-number 2 n,
        length-number 2 m,
        kept-long,
        pointer-long s h q n m ps good rest,
      )

  front-joined : (z : List ℕ) → kept ++ (ptr ++ (write_number 2 n ++ (write_number 2 m ++ z))) ≡ front ++ z
  front-joined z =
      ap (λ (l : List ℕ). kept ++ l)
      (ap (λ (l : List ℕ). ptr ++ l) (sym (append_assoc (write_number 2 n) (write_number 2 m) z)) ∙ sym (append_assoc ptr (write_number 2 n ++ write_number 2 m) z))
      ∙ sym (append_assoc kept (ptr ++ (write_number 2 n ++ write_number 2 m)) z)

  -- a piece of node i
  module _ (i : ℕ) (lo : 1 ≤ i) (up : i ≤ s.n) (y : List ℕ) (b : Bytes y) (short : length y ≤ s.f) where
    abbrev more : List (List ℕ)
    more = set ps (i - 1) y

    more-short : Each (ShortPiece s) more
    more-short = each_set (ShortPiece s) ps (i - 1) y (b, short) good.5

    more-many : length more ≡ s.n
    more-many = length-set ps (i - 1) y ∙ good.6

    -- its area alone
    area_written : (l : List ℕ) → length l ≡ 2 * s.n → area_put (lengths_at s) s.n s.f i y (front ++ (l ++ (areas s ps ++ spare))) ≡ front ++ (l ++ (areas s more ++ spare))
    area_written l k =
        ap (λ (t : List ℕ). area_put (lengths_at s) s.n s.f i y t) (sym (append_assoc front l (areas s ps ++ spare)))
        ∙ put_behind (write_area s.f (λ p. p)) (ShortPiece s) s.f (λ p g. length_area s.f (λ p. p) p g.1) ps good.5 (i - 1) (omega (arith, good.6)) y (b, short)
        (front ++ l) spare (lengths_at s + 2 * s.n) (lengths_at s + 2 * s.n + (i - 1) * s.f) (length-append front l ∙ omega (arith, front_long)) refl
        ∙ append_assoc front l (areas s more ++ spare)

    -- with its length
    piece-written : piece_put (lengths_at s) s.n s.f i y area
        ≡ kept ++ (ptr ++ (write_number 2 n ++ (write_number 2 m ++ (write_many (write_number 2) (lengths more) ++ (areas s more ++ spare)))))
    unfolding piece_put
    piece-written =
        let l2 = write_many (write_number 2) (set (lengths ps) (i - 1) (length y)) in
        let k : length l2 ≡ 2 * s.n =
        length-same (write_number 2) (λ l. Unit {0}) 2 (λ l u. length-number 2 l) (set (lengths ps) (i - 1) (length y)) (units (set (lengths ps) (i - 1) (length y)))
        ∙ omega (arith, length-set (lengths ps) (i - 1) (length y), length-map ps length, good.6)
        in
        ap (λ (t : List ℕ). area_put (lengths_at s) s.n s.f i y (paste t (lengths_at s + 2 * (i - 1)) (write_number 2 (length y)) 2))
        (area_parts ∙ front-joined (lens ++ (areas s ps ++ spare)))
        ∙ ap (λ (t : List ℕ). area_put (lengths_at s) s.n s.f i y t)
        (put_behind (write_number 2) (λ l. Unit {0}) 2 (λ l u. length-number 2 l) (lengths ps) (units (lengths ps)) (i - 1) (omega (arith, length-map ps length, good.6))
        (length y) tt front (areas s ps ++ spare) (lengths_at s) (lengths_at s + 2 * (i - 1)) front_long (omega arith))
        ∙ area_written l2 k
        ∙ ap (λ (l : List ℕ). front ++ (write_many (write_number 2) l ++ (areas s more ++ spare))) (sym (map-set ps (i - 1) y))
        ∙ sym (front-joined (write_many (write_number 2) (lengths more) ++ (areas s more ++ spare)))

    -- the record with it
    piece-shown : ShownClient s p (piece_put (lengths_at s) s.n s.f i y area) (with_phase (Work.fetching q n m more) c) rest
    piece-shown =
        let gm : GoodPhase s (Work.fetching q n m more) = (good.0, good.1, good.2, good.3, good.4, more-short, more-many) in
        record {
          good =
              record {
                phase = gm;
                index = x.good.index;
                written = x.good.written;
                frozen = x.good.frozen;
                reserved = x.good.reserved;
                indices = x.good.indices;
              };
          stands = x.stands ∙ ap step_of e;
          reading = x.reading;
          parts = piece-written ∙ ap (λ (l : List ℕ). kept ++ l) (sym (fetching-parts s h q n m more gm rest));
        }

    -- what is joined
    areas-there : take (s.n * s.f) (drop (lengths_at s + 2 * s.n) (area_put (lengths_at s) s.n s.f i y area)) ≡ areas s more
    areas-there =
        let l = lengths-long s h q n m ps good rest in
        ap (λ (t : List ℕ). take (s.n * s.f) (drop (lengths_at s + 2 * s.n) t))
        (ap (λ (t : List ℕ). area_put (lengths_at s) s.n s.f i y t) (area_parts ∙ front-joined (lens ++ (areas s ps ++ spare)))
        ∙ area_written lens l ∙ sym (append_assoc front lens (areas s more ++ spare)))
        ∙ ap (take (s.n * s.f)) (drop_at (front ++ lens) (areas s more ++ spare) (lengths_at s + 2 * s.n) (length-append front lens ∙ omega (arith, front_long, l)))
        ∙ take_at (areas s more) spare (s.n * s.f) (length-areas s more more-short ∙ ap (λ (k : ℕ). k * s.f) more-many)

    lengths-there : lengths_with area (lengths_at s) s.n i (length y) ≡ lengths more
    lengths-there = ap (λ (l : List ℕ). set l (i - 1) (length y)) (tabulate_ext s.n _ (λ j. get_or (lengths ps) j 0) one ∙ listed) ∙ sym (map-set ps (i - 1) y)
      where
        many : length (lengths ps) ≡ s.n
        many = length-map ps length ∙ good.6

        one : (j : ℕ) → j < s.n → number_at area (lengths_at s + 2 * j) ≡ get_or (lengths ps) j 0
        one j l =
            let t = areas s ps ++ spare in
            let k : lengths_at s + 2 * j ≡ lengths_at s + j * 2 = omega arith in
            let d : drop (lengths_at s + 2 * j) area ≡ drop (j * 2) (lens ++ t) =
            ap (drop (lengths_at s + 2 * j)) (area_parts ∙ front-joined (lens ++ t)) ∙ drop_past front (lens ++ t) (lengths_at s) (j * 2) (lengths_at s + 2 * j) front_long k
            in
            let w = many-part (write_number 2) (λ l. Unit {0}) 2 (λ l u. length-number 2 l) 0 (lengths ps) (units (lengths ps)) j (omega (arith, many)) t in
            (number-there area (lengths_at s + 2 * j) (get_or (lengths ps) j 0) (drop 2 (drop (j * 2) (lens ++ t)))
            (omega (arith, (sizes s h).bytes, get_or-map length ps j [], (each_at (ShortPiece s) [] ps good.5 j (omega (arith, good.6))).1))
            (d ∙ sym (take-append-drop 2 (drop (j * 2) (lens ++ t))) ∙ ap (λ (l : List ℕ). l ++ drop 2 (drop (j * 2) (lens ++ t))) w)).1

        listed : tabulate s.n (λ j. get_or (lengths ps) j 0) ≡ lengths ps
        listed =
            ext_get_or 0 (tabulate s.n (λ j. get_or (lengths ps) j 0)) (lengths ps) (length-tabulate s.n (λ j. get_or (lengths ps) j 0) ∙ sym many)
            (λ j l. get_or-tabulate s.n (λ j. get_or (lengths ps) j 0) j 0 (rw (length-tabulate s.n (λ j. get_or (lengths ps) j 0)) at l))

  -- ---- ways out

  reading-kept : c.reading_index ≡ p.reading
  reading-kept = sym x.reading

  idle_end : write_client s (with_phase Work.idle c) ++ rest ≡ record_of (record { step = 0; reading = p.reading }) (cleared s area)
  unfolding cleared
  idle_end =
      turned-written s h p area c rest x Work.idle c.reading_index tt
      ∙ (λ j. record_of (record { step = 0; reading = reading-kept j }) (paste area (work_at s) (idle_work s j) (work_size s)))

  -- it goes on with other maps, or fails
  module _ (n' m' : ℕ) (fits : n' < 256 ^ 2) (bits : m' < 2 ^ s.n) (few : count m' < s.k) (room out : List ℕ) where
    going : (client : List ℕ) → after s client room out rest (go_on c room out q n' m' ps)
        ≡ record {
          answer = answered (Ok (went_on (all_counted q n')));
          client = record_of (phase_after p (went_on (all_counted q n'))) (cond (all_counted q n') (cleared s area) (mapped s n' m' area));
          room = room;
          out = out;
        }
    going client = go (all_counted q n')
      where
        waits_end : write_client s (with_phase (Work.fetching q n' m' ps) c) ++ rest ≡ record_of p (mapped s n' m' area)
        waits_end =
            let gn : GoodPhase s (Work.fetching q n' m' ps) = (good.0, good.1, fits, bits, few, good.5, good.6) in
            let st : 7 ≡ p.step = sym (x.stands ∙ ap step_of e) in
            written-parts s (with_phase (Work.fetching q n' m' ps) c) rest
            ∙ (λ j. record_of (record { step = st j; reading = reading-kept j })
            ((ap (λ (l : List ℕ). kept ++ l) (fetching-parts s h q n' m' ps gn rest) ∙ sym (maps_written n' m')) j))

        go : (b : Bool) → after s client room out rest (cond b (does failed (with_phase Work.idle c) room out) (does waits (with_phase (Work.fetching q n' m' ps) c) room out))
            ≡ record {
              answer = answered (Ok (went_on b));
              client = record_of (phase_after p (went_on b)) (cond b (cleared s area) (mapped s n' m' area));
              room = room;
              out = out;
            }
        go true = λ j. record { answer = failed; client = idle_end j; room = room; out = out }
        go false = λ j. record { answer = waits; client = waits_end j; room = room; out = out }

-- ---- what the code writes, with places as it computes them

pub clear_done : (s : Measures) (t : List ℕ) (at size : ℕ) → at ≡ work_at s → size ≡ work_size s
    → paste t at (replicate (at + size - at) 0) (at + size - at) ≡ cleared s t
unfolding cleared
clear_done s t at size a b =
    let k : at + size - at ≡ work_size s = omega arith in λ j. paste t (a j) (replicate (k j) 0) (k j)

pub maps_done : (s : Measures) (t : List ℕ) (n m at size : ℕ) → at ≡ work_at s → size ≡ pointer_size s
    → paste (paste t (at + size) (write_number 2 n) 2) (at + size + 2) (write_number 2 m) 2 ≡ mapped s n m t
unfolding mapped
maps_done s t n m at size a b = λ j. paste (paste t (a j + b j) (write_number 2 n) 2) (a j + b j + 2) (write_number 2 m) 2

-- the join of the areas with a piece of node i among them
abbrev join_at : Measures → ℕ → ℕ → List ℕ → List ℕ → ℕ → List ℕ → JoinEnd
join_at s i matching y area at out =
    join s.n s.k s.f matching (take (s.n * s.f) (drop (at + 2 * s.n) (area_put at s.n s.f i y area))) (lengths_with area at s.n i (length y)) out

pub join-told : (s : Measures) (i : ℕ) (y area out : List ℕ) (at m n : ℕ) → at ≡ lengths_at s → m ≡ n → (z : JoinEnd)
    → z.outcome ≡ (join_at s i m y area at out).outcome → z.out ≡ (join_at s i m y area at out).out → z ≡ join_at s i n y area (lengths_at s) out
join-told s i y area out at m n a e z f g = (λ j. record { outcome = f j; out = g j }) ∙ (λ j. join_at s i (e j) y area (a j) out)

-- ---- the events

pub matches-short : (f : ℕ) (v : Version) (i : ℕ) (y t : List ℕ) (at : ℕ) → matches_at f v i y t at ≡ true → length y ≤ f
unfolding matches_at
matches-short f v i y t at e =
    leb-true (length y) f (and-true (leb (length y) f) _ (and-true (leb 1 (length y)) _ e).1).0

module _ (s : Measures) (p : Phase) (area : List ℕ) (opened : Opened s p area) where
  abbrev client : List ℕ
  client = record_of p area

  abbrev read : Read Client
  read = found s p area opened

  h : passes s ≡ true
  h = opened.measures

  shows : ShownClient s p area read.value read.rest
  shows = found-shows s p area opened

  pub lengths-within : lengths_at s + 2 * s.n + s.n * s.f ≤ length area
  lengths-within = omega (arith, work_within s p area opened, (sizes s h).pieces)

  module _ (i : ℕ) (v : Version) (y : Option (List ℕ)) (room out : List ℕ) where
    replied : replied_end s i v y client room out ≡ after s client room out read.rest (replied_at s i read.value room out v y read.value.phase)
    unfolding replied_end
    replied =
        ap (λ (x : Option (Read Client)). on_client s client room out x (λ c. replied_at s i c room out v y c.phase)) (found-reads s p area opened)

    pub other_end : (p.step ≡ 7 → ⊥) → replied_end s i v y client room out ≡ unchanged waits client room out
    other_end d =
        replied
        ∙ ap (after s client room out read.rest) (other_step s i read.value room out v y read.value.phase (λ k. d (shows.stands ∙ k)))

  -- an open reading
  module _ (d : p.step ≡ 7) where
    abbrev held : Fetches
    held = fetches_of read.value.phase

    phase_is : read.value.phase ≡ Work.fetching held.pointer held.counted held.matching held.pieces
    phase_is = fetching-step read.value.phase (sym shows.stands ∙ d)

    abbrev st : Standing
    st = record { version = held.pointer.version; named = held.pointer.named.nodes; counted = held.counted; matching = held.matching }

    st_is : standing_at area (work_at s) (maps_at s) ≡ st
    st_is = standing_is s h p area read.value read.rest shows held.pointer held.counted held.matching held.pieces phase_is

    phase_good : GoodPhase s (Work.fetching held.pointer held.counted held.matching held.pieces)
    phase_good = subst (GoodPhase s) phase_is shows.good.phase

    module _ (i : ℕ) (lo : 1 ≤ i) (up : i ≤ s.n) (v : Version) where
      -- the phase's step, by its test
      tested : (y : Option (List ℕ)) (room out : List ℕ) (b : Bool) → counts_at st i v ≡ b
          → replied_end s i v y client room out
          ≡ after s client room out read.rest
          (cond b (counted s i read.value room out held.pointer (with_node held.counted i) held.matching held.pieces y) (stays waits))
      tested y room out b e =
          replied i v y room out
          ∙ ap (λ (w : Work). after s client room out read.rest (replied_at s i read.value room out v y w)) phase_is
          ∙ ap (λ (x : Bool). after s client room out read.rest
          (cond x (counted s i read.value room out held.pointer (with_node held.counted i) held.matching held.pieces y) (stays waits))) e

      named-there : counts_at st i v ≡ true → stands held.pointer.named.nodes i ≡ true
      named-there e =
          let b = not (stands held.counted i) in
          (and-true (stands held.pointer.named.nodes i) b (and-true (same_version v held.pointer.version) (stands held.pointer.named.nodes i && b) e).1).0

      abbrev placed : Standing → ℕ
      placed x = digest_place (work_at s) x.named i

      abbrev Matches : Standing → List ℕ → Bool
      Matches x y = matches_at s.f x.version i y area (placed x)

      matched_is : counts_at st i v ≡ true → (y : List ℕ) → Matches st y ≡ matches s held.pointer i y
      matched_is e =
          matches-there s h p area read.value read.rest shows held.pointer held.counted held.matching held.pieces phase_is i lo up (named-there e)

      counted-small : with_node held.counted i < 256 ^ 2
      counted-small =
          let k : held.counted < 2 ^ 16 = omega (arith, phase_good.2) in
          omega (arith, with_below held.counted i 16 lo (omega (arith, (sizes s h).nodes)) k)

      -- what goes on ends as the code leaves it
      abbrev Ends : Standing → List ℕ → Option (List ℕ) → ℕ → ℕ → Type 0
      Ends x t y n' m' =
          (room out : List ℕ) (r : ClientAnswer) → r ≡ went_on (all (stands n') (nodes_in x.named))
          → (a : List ℕ) → a ≡ cond (all (stands n') (nodes_in x.named)) (cleared s t) (mapped s n' m' t)
          → replied_end s i v y client room out ≡ record { answer = answered (Ok r); client = record_of (phase_after p r) a; room = room; out = out }

      ends_at : (t : List ℕ) (y : Option (List ℕ)) (n' m' : ℕ)
          → ((room out : List ℕ) → replied_end s i v y client room out
          ≡ record {
            answer = answered (Ok (went_on (all_counted held.pointer n')));
            client = record_of (phase_after p (went_on (all_counted held.pointer n'))) (cond (all_counted held.pointer n') (cleared s t) (mapped s n' m' t));
            room = room;
            out = out;
          }) → Ends st t y n' m'
      ends_at t y n' m' f room out r re a ae =
          f room out ∙ (λ j. record { answer = answered (Ok (sym re j)); client = record_of (phase_after p (sym re j)) (sym ae j); room = room; out = out })

      went : (y : Option (List ℕ)) → counts_at st i v ≡ true
          → ((room out : List ℕ) → counted s i read.value room out held.pointer (with_node held.counted i) held.matching held.pieces y
          ≡ go_on read.value room out held.pointer (with_node held.counted i) held.matching held.pieces)
          → Ends st area y (with_node held.counted i) held.matching
      went y e f =
          ends_at area y (with_node held.counted i) held.matching
          (λ room out.
          tested y room out true e ∙ ap (after s client room out read.rest) (f room out)
          ∙ going s h p area read.value read.rest shows held.pointer held.counted held.matching held.pieces phase_is
          (with_node held.counted i) held.matching counted-small phase_good.3 phase_good.4 room out client)

      missed_st : (y : List ℕ) → counts_at st i v ≡ true → Matches st y ≡ false → Ends st area (some y) (with_node st.counted i) st.matching
      missed_st y e f =
          went (some y) e
          (λ room out. ap (λ (b : Bool).
          cond b
          (cond (ltb (count (with_node held.matching i)) s.k)
          (go_on read.value room out held.pointer (with_node held.counted i) (with_node held.matching i) (set held.pieces (i - 1) y))
          (ends read.value room held.pointer.version
          (join s.n s.k s.f (with_node held.matching i) (areas s (set held.pieces (i - 1) y)) (lengths (set held.pieces (i - 1) y)) out)))
          (go_on read.value room out held.pointer (with_node held.counted i) held.matching held.pieces))
          (sym (matched_is e y) ∙ f))

      -- with a piece that matches
      module _ (y : List ℕ) (by : Bytes y) (e : counts_at st i v ≡ true) (f : Matches st y ≡ true) where
        short : length y ≤ s.f
        short = matches-short s.f st.version i y area (placed st) f

        abbrev after_match : List ℕ → List ℕ → Bool → Step
        after_match room out b =
            cond b
            (go_on read.value room out held.pointer (with_node held.counted i) (with_node held.matching i) (set held.pieces (i - 1) y))
            (ends read.value room held.pointer.version
            (join s.n s.k s.f (with_node held.matching i) (areas s (set held.pieces (i - 1) y)) (lengths (set held.pieces (i - 1) y)) out))

        matched : (room out : List ℕ) (b : Bool) → ltb (count (with_node held.matching i)) s.k ≡ b
            → replied_end s i v (some y) client room out ≡ after s client room out read.rest (after_match room out b)
        matched room out b k =
            tested (some y) room out true e
            ∙ ap (λ (x : Bool). after s client room out read.rest
            (cond x (after_match room out (ltb (count (with_node held.matching i)) s.k))
            (go_on read.value room out held.pointer (with_node held.counted i) held.matching held.pieces)))
            (sym (matched_is e y) ∙ f)
            ∙ ap (λ (x : Bool). after s client room out read.rest (after_match room out x)) k

        more_st : count (with_node st.matching i) < s.k
            → Ends st (piece_put (lengths_at s) s.n s.f i y area) (some y) (with_node st.counted i) (with_node st.matching i)
        more_st few =
            ends_at (piece_put (lengths_at s) s.n s.f i y area) (some y) (with_node st.counted i) (with_node st.matching i)
            (λ room out.
            matched room out true (lt-ltb (count (with_node held.matching i)) s.k few)
            ∙ going s h p (piece_put (lengths_at s) s.n s.f i y area) (with_phase (Work.fetching held.pointer held.counted held.matching (set held.pieces (i - 1) y))
            read.value) read.rest
            (piece-shown s h p area read.value read.rest shows held.pointer held.counted held.matching held.pieces phase_is i lo up y by short)
            held.pointer held.counted held.matching (set held.pieces (i - 1) y) refl
            (with_node held.counted i) (with_node held.matching i) counted-small
            (with_below held.matching i s.n lo up phase_good.3) few room out client)

        module _ (enough : s.k ≤ count (with_node st.matching i)) (room out : List ℕ) (z : JoinEnd)
            (ze : z ≡ join_at s i (with_node st.matching i) y area (lengths_at s) out) where
          abbrev all-pieces : List (List ℕ)
          all-pieces = set held.pieces (i - 1) y

          joined : z ≡ join s.n s.k s.f (with_node held.matching i) (areas s all-pieces) (lengths all-pieces) out
          joined =
              ze
              ∙ (λ j. join s.n s.k s.f (with_node held.matching i)
              (areas-there s h p area read.value read.rest shows held.pointer held.counted held.matching held.pieces phase_is i lo up y by short j)
              (lengths-there s h p area read.value read.rest shows held.pointer held.counted held.matching held.pieces phase_is i lo up y by short j) out)

          finished : replied_end s i v (some y) client room out ≡ after s client room out read.rest (ends read.value room held.pointer.version z)
          finished =
              matched room out false (le-ltb (count (with_node held.matching i)) s.k enough)
              ∙ ap (λ (x : JoinEnd). after s client room out read.rest (ends read.value room held.pointer.version x)) (sym joined)

          page_st : (len : ℕ) → z.outcome ≡ Outcome.gives len
              → replied_end s i v (some y) client room out
              ≡ record { answer = page st.version len; client = record_of (record { step = 0; reading = p.reading }) (cleared s area); room = room; out = z.out }
          page_st len g =
              finished ∙ ap (λ (x : Outcome). after s client room out read.rest (joined_at read.value room held.pointer.version z.out x)) g
              ∙ (λ j. record {
                answer = page held.pointer.version len;
                client = idle_end s h p area read.value read.rest shows held.pointer held.counted held.matching held.pieces phase_is j;
                room = room;
                out = z.out;
              })

          refused_st : (r : ℕ) → z.outcome ≡ Outcome.refuses r
              → replied_end s i v (some y) client room out ≡ record { answer = refused 4; client = client; room = room; out = z.out }
          refused_st r g =
              finished ∙ ap (λ (x : Outcome). after s client room out read.rest (joined_at read.value room held.pointer.version z.out x)) g
              ∙ (λ j. record { answer = refused 4; client = client; room = room; out = sym kept_out j })
            where
              kept_out : z.out ≡ out
              kept_out =
                  ap (λ (x : JoinEnd). x.out) joined
                  ∙ join_kept s.n s.k s.f (with_node held.matching i) (areas s all-pieces) (lengths all-pieces) out r (sym (ap (λ (x : JoinEnd). x.outcome) joined) ∙ g)

      -- as the code reads it
      module _ (x : Standing) (xe : x ≡ standing_at area (work_at s) (maps_at s)) where
        same : st ≡ x
        same = sym (xe ∙ st_is)

        pub digest-within : counts_at x i v ≡ true → placed x + 32 ≤ length area
        digest-within =
            subst (λ (z : Standing). counts_at z i v ≡ true → placed z + 32 ≤ length area) same
            (λ e. digest-fits s h p area read.value read.rest shows held.pointer held.counted held.matching held.pieces phase_is i lo up (named-there e))

        pub skipped_end : (y : Option (List ℕ)) (room out : List ℕ) → counts_at x i v ≡ false → replied_end s i v y client room out ≡ unchanged waits client room out
        skipped_end y room out e = tested y room out false (ap (λ (z : Standing). counts_at z i v) same ∙ e)

        pub missing_end : counts_at x i v ≡ true → Ends x area none (with_node x.counted i) x.matching
        missing_end =
            subst (λ (z : Standing). counts_at z i v ≡ true → Ends z area none (with_node z.counted i) z.matching) same
            (λ e. went none e (λ room out. refl))

        pub missed_end : (y : List ℕ) → counts_at x i v ≡ true → Matches x y ≡ false → Ends x area (some y) (with_node x.counted i) x.matching
        missed_end y =
            subst (λ (z : Standing). counts_at z i v ≡ true → Matches z y ≡ false → Ends z area (some y) (with_node z.counted i) z.matching) same (missed_st y)

        pub more_end : (y : List ℕ) → Bytes y → counts_at x i v ≡ true → Matches x y ≡ true → count (with_node x.matching i) < s.k
            → Ends x (piece_put (lengths_at s) s.n s.f i y area) (some y) (with_node x.counted i) (with_node x.matching i)
        more_end y by =
            subst (λ (z : Standing). counts_at z i v ≡ true → Matches z y ≡ true → count (with_node z.matching i) < s.k
            → Ends z (piece_put (lengths_at s) s.n s.f i y area) (some y) (with_node z.counted i) (with_node z.matching i)) same (more_st y by)

        abbrev Joined : Standing → List ℕ → List ℕ → JoinEnd → Type 0
        Joined u y out z = z ≡ join_at s i (with_node u.matching i) y area (lengths_at s) out

        pub page_end_lem : (y : List ℕ) → Bytes y → counts_at x i v ≡ true → Matches x y ≡ true → s.k ≤ count (with_node x.matching i)
            → (room out : List ℕ) (z : JoinEnd) → Joined x y out z → (len : ℕ) → z.outcome ≡ Outcome.gives len
            → replied_end s i v (some y) client room out
            ≡ record { answer = page x.version len; client = record_of (record { step = 0; reading = p.reading }) (cleared s area); room = room; out = z.out }
        page_end_lem y by =
            subst (λ (u : Standing). counts_at u i v ≡ true → Matches u y ≡ true → s.k ≤ count (with_node u.matching i)
            → (room out : List ℕ) (z : JoinEnd) → Joined u y out z → (len : ℕ) → z.outcome ≡ Outcome.gives len
            → replied_end s i v (some y) client room out
            ≡ record { answer = page u.version len; client = record_of (record { step = 0; reading = p.reading }) (cleared s area); room = room; out = z.out }) same
            (page_st y by)

        pub refused_end : (y : List ℕ) → Bytes y → counts_at x i v ≡ true → Matches x y ≡ true → s.k ≤ count (with_node x.matching i)
            → (room out : List ℕ) (z : JoinEnd) → Joined x y out z → (r : ℕ) → z.outcome ≡ Outcome.refuses r
            → replied_end s i v (some y) client room out ≡ record { answer = refused 4; client = client; room = room; out = z.out }
        refused_end y by =
            subst (λ (u : Standing). counts_at u i v ≡ true → Matches u y ≡ true → s.k ≤ count (with_node u.matching i)
            → (room out : List ℕ) (z : JoinEnd) → Joined u y out z → (r : ℕ) → z.outcome ≡ Outcome.refuses r
            → replied_end s i v (some y) client room out ≡ record { answer = refused 4; client = client; room = room; out = z.out }) same
            (refused_st y by)
