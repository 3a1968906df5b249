-- Laws of a deposit's free list: what the area retains, what stays, and versions put in their places.
use mathlib.Core.Path.{◌≡◌, refl, sym, ap, ap₂, subst, ◌∙◌}
use mathlib.Core.Bool.{Bool, true, false, true≢false, not, cond, ◌&&◌, ◌||◌, or-true}
use mathlib.Core.List.{List, [], ◌∷◌, ◌++◌, append_assoc}
use mathlib.Core.Logic.{◌⊎◌, inl, inr}
use Prim.Native.Nat.{ℕ, zero, suc, ◌+◌, ◌-◌, ◌*◌, ◌<◌, ◌≤◌}
use native.Mathlib.Nat.{mul-le-mul_left, mul-le-mul_right}
use native.Mathlib.Decide.{ℕ_discrete, dec_lt}
use native.Mathlib.Omega.{arith}
use borrow.Author.Tests.{lt-ltb, le-ltb, ltb-true, eq-eqb, ne_eqb, not-true}
use lib.Dec.{ltb}
use lib.ListN.{length, get_or, take, drop, set, replicate, length-append, length-drop, take-append-drop}
use lib.Seq.{drop_at, drop-drop, drop-append-add, take-add, length-take-le, paste}
use Rattle.coding.specs.Bytes.{Bytes, tabulate}
use Rattle.coding.proofs.BytesLaws.{tabulate-none, tabulate-more}
use Rattle.coding.proofs.Cases.{and-true}
use Rattle.parties.specs.declared.Measures.{Measures}
use Rattle.parties.specs.declared.Version.{Version}
use Rattle.parties.specs.protocol.Format.{write_many, write_area}
use Rattle.parties.specs.protocol.Measures.{passes, pointer_size}
use Rattle.parties.specs.protocol.Version.{below, no_version, is_no_version}
use Rattle.parties.specs.protocol.Nodes.{stands}
use Rattle.parties.specs.protocol.Pointer.{Pointer, none_pointer, write_version, write_named, write_pointer}
use Rattle.parties.specs.protocol.Node.{listed}
use Rattle.parties.specs.protocol.Message.{ToNode, write_to_node}
use Rattle.parties.specs.protocol.Client.{Retained}
use Rattle.parties.specs.protocol.ClientEvents.{room_size, lay}
use Rattle.parties.specs.protocol.Deposit.{insert, free_list}
use Rattle.parties.specs.protocol.Reading.{same_version}
use Rattle.parties.proofs.protocol.formats.FormatLaws.{Each}
use Rattle.parties.proofs.protocol.formats.EachLaws.{each_at}
use Rattle.parties.proofs.protocol.formats.VersionLaws.{not_below_back}
use Rattle.parties.proofs.protocol.formats.PointerLaws.{GoodVersion, length-version, GoodPointer}
use Rattle.parties.proofs.protocol.formats.ClientLaws.{GoodReserved, keeper}
use Rattle.parties.proofs.protocol.events.FreeLaws.{listed-append, insert-length, free-length, listed-split, tabulate-listed}
use Rattle.parties.proofs.protocol.formats.MessageLaws.{length_versions}
use Rattle.parties.specs.client.Record.{work_at}
use Rattle.parties.specs.records.Places.{version_at, from, rank, splice}
use Rattle.parties.specs.client.Found.{retained_in}
use Rattle.parties.specs.client.Freeze.{kept_versions, replaced_by, freed_by, frozen_now, reserved_now}
use Rattle.parties.specs.client.FreeList.{Holds, list_in, Added, Adds, Listing, freed_up_to}
use Rattle.parties.proofs.records.PositionLaws.{from-length, from-split, from_first, from-none}
use Rattle.parties.proofs.records.PlaceLaws.{version-there}
use Rattle.parties.proofs.node.ShownLaws.{version-bytes}
use Rattle.parties.proofs.node.SeekLaws.{rank-within, rank_stop}
use Rattle.parties.proofs.records.SpliceLaws.{paste-splice, paste_all, splice-parts, splice_self, many-append}
use Rattle.parties.proofs.records.SizeLaws.{pointers_bound}
use Rattle.parties.proofs.client.AreaLaws.{Retains, written-part, frozen-part, reserved-part}
use Rattle.parties.proofs.client.FoundLaws.{kept}

-- ---- versions in the area

-- the version of a pointer in its area
pointer-there : (s : Measures) (t : List ℕ) (at : ℕ) (p : Pointer) → GoodPointer s p
    → take (pointer_size s) (drop at t) ≡ write_area (pointer_size s) write_pointer p → (at + 5 ≤ length t) × (version_at t at ≡ p.version)
unfolding write_area write_pointer
pointer-there s t at p g e =
    let z = replicate {A = ℕ} (pointer_size s - length (write_pointer p)) 0 in
    let r = drop (pointer_size s) (drop at t) in
    version-there t at p.version ((write_named p.named ++ z) ++ r) g.0.0
    (sym (take-append-drop (pointer_size s) (drop at t))
    ∙ ap (λ (l : List ℕ). l ++ r) (e ∙ append_assoc (write_version p.version) (write_named p.named) z)
    ∙ append_assoc (write_version p.version) (write_named p.named ++ z) r)

module _ (s : Measures) (area : List ℕ) (b : Bytes area) (h : Holds s area) where
  abbrev held : Retained
  held = retained_in s area

  there : Retains s area (keeper held) (drop (work_at s) area)
  there = kept s area b h.1

  pub written-there : (0 + 5 ≤ length area) × (version_at area 0 ≡ held.written.version)
  written-there = pointer-there s area 0 held.written there.good.written (written-part s area (keeper held) (drop (work_at s) area) there)

  module _ (q : ℕ) (l : q < s.m) where
    frozen_good : GoodPointer s (get_or held.frozen q none_pointer)
    frozen_good = each_at (GoodPointer s) none_pointer held.frozen there.good.frozen.0 q (omega (arith, there.good.frozen.1))

    reserved_good : GoodVersion (get_or held.reserved q no_version)
    reserved_good = (each_at (GoodReserved s) no_version held.reserved there.good.reserved.0 q (omega (arith, there.good.reserved.1))).0

    pub frozen-there : (at : ℕ) → at ≡ (q + 1) * pointer_size s → (at + 5 ≤ length area) × (version_at area at ≡ (get_or held.frozen q none_pointer).version)
    frozen-there at e =
        pointer-there s area at (get_or held.frozen q none_pointer) frozen_good
        (ap (λ (k : ℕ). take (pointer_size s) (drop k area)) e ∙ frozen-part s area (keeper held) (drop (work_at s) area) there q l)

    pub reserved-there : (at : ℕ) → at ≡ (s.m + 1) * pointer_size s + 5 * q → (at + 5 ≤ length area) × (version_at area at ≡ get_or held.reserved q no_version)
    reserved-there at e =
        version-there area at (get_or held.reserved q no_version) (drop 5 (drop at area)) reserved_good
        (sym (take-append-drop 5 (drop at area))
        ∙ ap (λ (x : List ℕ). x ++ drop 5 (drop at area))
        (ap (λ (k : ℕ). take 5 (drop k area)) e ∙ reserved-part s area (keeper held) (drop (work_at s) area) there q l))

  -- the versions that may be freed are in five bytes each
  replaced_good : (map q : ℕ) → q ≤ s.m → Each GoodVersion (replaced_by map held q)
  unfolding replaced_by
  replaced_good map zero l = (there.good.written.0.0, tt)
  replaced_good map (suc q) l = go (stands map (q + 1)) (replaced_good map q (omega arith))
    where
      go : (c : Bool) → Each GoodVersion (replaced_by map held q)
          → Each GoodVersion (cond c ((get_or held.frozen q none_pointer).version ∷ get_or held.reserved q no_version ∷ replaced_by map held q) (replaced_by map held q))
      go true e = ((frozen_good q (omega arith)).0.0, (reserved_good q (omega arith), e))
      go false e = e

-- ---- what stays

same-listed : (a b : Version) → same_version a b ≡ listed a (b ∷ [])
unfolding listed
same-listed a b = go (below a b || below b a)
  where
    go : (c : Bool) → not c ≡ cond c false true
    go true = refl
    go false = refl

or_false : (a b : Bool) → (a || b) ≡ false → (a ≡ false) × (b ≡ false)
or_false true b e = absurd (true≢false e)
or_false false b e = (refl, e)

module _ (v : Version) where
  listed-tabulate : (f : ℕ → Version) (m q : ℕ) → q < m → listed v (f q ∷ []) ≡ true → listed v (tabulate m f) ≡ true
  unfolding listed
  listed-tabulate f m q h e = go (listed-split v (f q) [] e)
    where
      go : (f q ≡ v) ⊎ (listed v [] ≡ true) → listed v (tabulate m f) ≡ true
      go (inl x) = tabulate-listed v m f q h x
      go (inr x) = absurd (true≢false (sym x))

  -- of the first q clients none keeps v
  pub record Clear (f g : ℕ → Version) (q : ℕ) : Type 0 where
    pub other : listed v (no_version ∷ []) ≡ false
    pub frozen : listed v (tabulate q f) ≡ false
    pub reserved : listed v (tabulate q g) ≡ false

  -- the version none is only itself
  pub none-same : is_no_version v ≡ same_version v no_version
  none-same = go (ℕ_discrete q 0) (ℕ_discrete c 255) (dec_lt c 255)
    where
      q : ℕ
      q = v.sequence.0

      c : ℕ
      c = v.client

      go : Dec (q ≡ 0) → Dec (c ≡ 255) → Dec (c < 255) → is_no_version v ≡ same_version v no_version
      go (no n) d l = simp (ne_eqb q 0 n, le-ltb q 0 (omega arith), lt-ltb 0 q (omega arith))
      go (yes z) (yes e) l = simp (eq-eqb q 0 z, eq-eqb 0 q (sym z), le-ltb q 0 (omega arith), le-ltb 0 q (omega arith), eq-eqb c 255 e, le-ltb c 255 (omega arith), le-ltb 255 c (omega arith))
      go (yes z) (no n) (yes l) = simp (eq-eqb q 0 z, le-ltb q 0 (omega arith), ne_eqb c 255 n, lt-ltb c 255 l)
      go (yes z) (no n) (no l) =
          simp (eq-eqb q 0 z, eq-eqb 0 q (sym z), le-ltb q 0 (omega arith), le-ltb 0 q (omega arith), ne_eqb c 255 n, le-ltb c 255 (omega arith), lt-ltb 255 c (omega arith))

  pub clear_none : (f g : ℕ → Version) → same_version v no_version ≡ false → Clear f g 0
  unfolding listed
  clear_none f g e =
      record {
        other = sym (same-listed v no_version) ∙ e;
        frozen = ap (listed v) (tabulate-none f);
        reserved = ap (listed v) (tabulate-none g);
      }

  pub clear_more : (f g : ℕ → Version) (q : ℕ) → Clear f g q → (listed v (f q ∷ []) || listed v (g q ∷ [])) ≡ false → Clear f g (q + 1)
  clear_more f g q c e =
      let x = or_false (listed v (f q ∷ [])) (listed v (g q ∷ [])) e in
      record {
        other = c.other;
        frozen = listed_next f ∙ ap₂ (λ (a b : Bool). a || b) c.frozen x.0;
        reserved = listed_next g ∙ ap₂ (λ (a b : Bool). a || b) c.reserved x.1;
      }
    where
      listed_next : (h : ℕ → Version) → listed v (tabulate (q + 1) h) ≡ (listed v (tabulate q h) || listed v (h q ∷ []))
      listed_next h =
          let z : q + 1 ≡ suc q = omega arith in
          ap (λ (k : ℕ). listed v (tabulate k h)) z ∙ ap (listed v) (tabulate-more q h) ∙ listed-append v (tabulate q h) (h q ∷ [])

  module _ (s : Measures) (map : ℕ) (x : Retained) (new : Version) where
    abbrev stayed : Bool
    stayed = listed v (no_version ∷ kept_versions s map x new)

    parts : stayed ≡ (listed v (no_version ∷ []) || (listed v (tabulate s.m (frozen_now map x new)) || listed v (tabulate s.m (reserved_now map x))))
    unfolding kept_versions
    parts =
        listed-append v (no_version ∷ []) (kept_versions s map x new)
        ∙ ap (λ (b : Bool). listed v (no_version ∷ []) || b) (listed-append v (tabulate s.m (frozen_now map x new)) (tabulate s.m (reserved_now map x)))

    pub stays-none : same_version v no_version ≡ true → true ≡ stayed
    stays-none e =
        sym (parts ∙ ap (λ (b : Bool). b || (listed v (tabulate s.m (frozen_now map x new)) || listed v (tabulate s.m (reserved_now map x))))
        (sym (same-listed v no_version) ∙ e))

    pub stays-found : (q : ℕ) → q < s.m → Clear (frozen_now map x new) (reserved_now map x) q
        → (listed v (frozen_now map x new q ∷ []) || listed v (reserved_now map x q ∷ [])) ≡ true → true ≡ stayed
    stays-found q h c e =
        sym (parts ∙ ap (λ (b : Bool). b || (listed v (tabulate s.m (frozen_now map x new)) || listed v (tabulate s.m (reserved_now map x)))) c.other
        ∙ go (listed v (frozen_now map x new q ∷ [])) refl e)
      where
        go : (a : Bool) → listed v (frozen_now map x new q ∷ []) ≡ a → (a || listed v (reserved_now map x q ∷ [])) ≡ true
            → (listed v (tabulate s.m (frozen_now map x new)) || listed v (tabulate s.m (reserved_now map x))) ≡ true
        go true f e = ap (λ (b : Bool). b || listed v (tabulate s.m (reserved_now map x))) (listed-tabulate (frozen_now map x new) s.m q h f)
        go false f e =
            ap (λ (b : Bool). listed v (tabulate s.m (frozen_now map x new)) || b) (listed-tabulate (reserved_now map x) s.m q h e)
            ∙ or-true (listed v (tabulate s.m (frozen_now map x new)))

    pub stays_not : (q : ℕ) → q ≡ s.m → Clear (frozen_now map x new) (reserved_now map x) q → false ≡ stayed
    stays_not q e c =
        let d = subst (Clear (frozen_now map x new) (reserved_now map x)) e c in
        sym (parts ∙ ap₂ (λ (a b : Bool). a || b) d.other (ap₂ (λ (a b : Bool). a || b) d.frozen d.reserved))

-- ---- a version in its place

insert_longer : (v : Version) (l : List Version) → length l ≤ length (insert v l)
unfolding insert
insert_longer v [] = omega arith
insert_longer v (w ∷ l) = go (below v w) (below w v) (insert_longer v l)
  where
    go : (a b : Bool) → length l ≤ length (insert v l) → suc (length l) ≤ length (cond a (v ∷ w ∷ l) (cond b (w ∷ insert v l) (w ∷ l)))
    go true b i = omega arith
    go false true i = omega arith
    go false false i = omega arith

insert_good : (g : Version → Type 0) (v : Version) (l : List Version) → g v → Each g l → Each g (insert v l)
unfolding insert
insert_good g v [] h e = (h, tt)
insert_good g v (w ∷ l) h e = go (below v w) (below w v) (insert_good g v l h e.1)
  where
    go : (a b : Bool) → Each g (insert v l) → Each g (cond a (v ∷ w ∷ l) (cond b (w ∷ insert v l) (w ∷ l)))
    go true b i = (h, e)
    go false true i = (e.0, i)
    go false false i = e

free_good : (g : Version → Type 0) (k l : List Version) → Each g l → Each g (free_list k l)
unfolding free_list
free_good g k [] e = tt
free_good g k (v ∷ l) e = go (listed v (no_version ∷ k)) (free_good g k l e.1)
  where
    go : (a : Bool) → Each g (free_list k l) → Each g (cond a (free_list k l) (insert v (free_list k l)))
    go true i = i
    go false i = insert_good g v (free_list k l) e.0 i

module _ (t : List ℕ) (v : Version) where
  -- those below it stay where they are
  insert-rank : (at n : ℕ) → insert v (from (version_at t) 5 at n)
      ≡ from (version_at t) 5 at (rank 5 t v at n) ++ insert v (from (version_at t) 5 (at + rank 5 t v at n * 5) (n - rank 5 t v at n))
  unfolding rank from insert
  insert-rank at zero = refl
  insert-rank at (suc n) = go (insert-rank (at + 5) n) (below (version_at t at) v) refl
    where
      r : ℕ
      r = rank 5 t v (at + 5) n

      go : insert v (from (version_at t) 5 (at + 5) n) ≡ from (version_at t) 5 (at + 5) r ++ insert v (from (version_at t) 5 (at + 5 + r * 5) (n - r))
          → (b : Bool) → below (version_at t at) v ≡ b
          → insert v (version_at t at ∷ from (version_at t) 5 (at + 5) n)
          ≡ from (version_at t) 5 at (cond b (r + 1) 0) ++ insert v (from (version_at t) 5 (at + cond b (r + 1) 0 * 5) (suc n - cond b (r + 1) 0))
      go ih true e =
          let q : r + 1 ≡ suc r = omega arith in
          let z : suc n - suc r ≡ n - r = omega arith in
          let y : at + suc r * 5 ≡ at + 5 + r * 5 = omega arith in
          rw (q, z, y) (simp (not_below_back (version_at t at) v e, e) (ap (λ (l : List Version). version_at t at ∷ l) ih))
      go ih false e =
          let y : at + 0 * 5 ≡ at = omega arith in
          let z : suc n - 0 ≡ suc n = omega arith in rw (y, z)

  module _ (n j : ℕ) (e : j ≡ rank 5 t v 1 n) where
    pub place_within : j ≤ n
    place_within = rw e (rank-within 5 t v 1 n)

    split : insert v (list_in n t) ≡ list_in j t ++ insert v (from (version_at t) 5 (1 + j * 5) (n - j))
    split =
        insert-rank 1 n
        ∙ ap (λ (k : ℕ). from (version_at t) 5 1 k ++ insert v (from (version_at t) 5 (1 + k * 5) (n - k))) (sym e)

    whole : list_in n t ≡ list_in j t ++ from (version_at t) 5 (1 + j * 5) (n - j)
    whole = let k : n ≡ j + (n - j) = omega (arith, place_within) in ap (λ (i : ℕ). list_in i t) k ∙ from-split (version_at t) 5 1 j (n - j)

    -- the version stands there
    insert_old : (ltb j n && not (below v (version_at t (1 + j * 5)))) ≡ true → insert v (list_in n t) ≡ list_in n t
    unfolding insert
    insert_old h =
        let x = and-true (ltb j n) (not (below v (version_at t (1 + j * 5)))) h in
        let l : j < n = ltb-true j n x.0 in
        let f = from_first (version_at t) 5 (1 + j * 5) (n - j) (omega arith) in
        let a : below v (version_at t (1 + j * 5)) ≡ false = not-true (below v (version_at t (1 + j * 5))) x.1 in
        let b : below (version_at t (1 + j * 5)) v ≡ false = subst (λ (k : ℕ). below (version_at t (1 + k * 5)) v ≡ false) (sym e) (rank_stop 5 t v 1 n (subst (λ (k : ℕ). k < n) e l)) in
        split
        ∙ ap (λ (y : List Version). list_in j t ++ insert v y) f
        ∙ ap (λ (y : List Version). list_in j t ++ y)
        (ap₂ (λ (c d : Bool). cond c (v ∷ version_at t (1 + j * 5) ∷ from (version_at t) 5 (1 + j * 5 + 5) (n - j - 1))
        (cond d (version_at t (1 + j * 5) ∷ insert v (from (version_at t) 5 (1 + j * 5 + 5) (n - j - 1))) (version_at t (1 + j * 5) ∷ from (version_at t) 5 (1 + j * 5 + 5) (n - j - 1)))) a b
        ∙ sym f)
        ∙ sym whole

    -- it does not
    insert_new : (ltb j n && not (below v (version_at t (1 + j * 5)))) ≡ false
        → insert v (list_in n t) ≡ list_in j t ++ (v ∷ from (version_at t) 5 (1 + j * 5) (n - j))
    unfolding insert
    insert_new h = split ∙ ap (λ (y : List Version). list_in j t ++ y) (go (dec_lt j n) (below v (version_at t (1 + j * 5))) refl)
      where
        go : Dec (j < n) → (c : Bool) → below v (version_at t (1 + j * 5)) ≡ c
            → insert v (from (version_at t) 5 (1 + j * 5) (n - j)) ≡ v ∷ from (version_at t) 5 (1 + j * 5) (n - j)
        go (no l) c f = rw (from-none (version_at t) 5 (1 + j * 5) (n - j) (omega arith))
        go (yes l) true f = rw (from_first (version_at t) 5 (1 + j * 5) (n - j) (omega arith)) (simp f)
        go (yes l) false f = absurd (true≢false (sym (simp (lt-ltb j n l, f)) ∙ h))

-- ---- the bytes of a list

run-bytes : (t : List ℕ) → Bytes t → (at n : ℕ) → at + n * 5 ≤ length t → take (n * 5) (drop at t) ≡ write_many write_version (from (version_at t) 5 at n)
unfolding write_many from
run-bytes t b at zero h = refl
run-bytes t b at (suc n) h =
    let k : suc n * 5 ≡ 5 + n * 5 = omega arith in
    ap (λ (i : ℕ). take i (drop at t)) k ∙ take-add 5 (n * 5) (drop at t)
    ∙ ap₂ (λ (x y : List ℕ). x ++ y) (version-bytes t at b (omega arith))
    (ap (take (n * 5)) (drop-drop 5 at t) ∙ run-bytes t b (at + 5) n (omega arith))

list-shown : (t : List ℕ) (l : List Version) (at : ℕ) (y : List ℕ) → Each GoodVersion l → drop at t ≡ write_many write_version l ++ y
    → from (version_at t) 5 at (length l) ≡ l
unfolding write_many from
list-shown t [] at y g e = refl
list-shown t (v ∷ l) at y g e =
    let d : drop at t ≡ write_version v ++ (write_many write_version l ++ y) = e ∙ append_assoc (write_version v) (write_many write_version l) y in
    ap₂ (λ (w : Version) (k : List Version). w ∷ k) (version-there t at v (write_many write_version l ++ y) g.0 d).1
    (list-shown t l (at + 5) y g.1 (sym (drop-drop 5 at t) ∙ ap (drop 5) d ∙ drop_at (write_version v) (write_many write_version l ++ y) 5 (length-version v)))

-- ---- as the code does

pub put_in_laid : (t : List ℕ) (j n : ℕ) (v : Version) → j ≤ n → 6 + n * 5 ≤ length t → (t1 t2 : List ℕ)
    → t1 ≡ paste t (1 + j * 5 + 5) (drop (1 + j * 5) t) (1 + n * 5 - (1 + j * 5)) → t2 ≡ paste t1 (1 + j * 5) (write_version v) 5
    → t2 ≡ splice (splice t (6 + j * 5) (take ((n - j) * 5) (drop (1 + j * 5) t))) (1 + j * 5) (write_version v)
put_in_laid t j n v h l t1 t2 e f =
    let a : 1 + j * 5 + 5 ≡ 6 + j * 5 = omega arith in
    let k : 1 + n * 5 - (1 + j * 5) ≡ (n - j) * 5 = omega arith in
    f ∙ paste_all t1 (1 + j * 5) (write_version v) 5 (sym (length-version v))
    ∙ ap (λ (u : List ℕ). splice u (1 + j * 5) (write_version v))
    (e ∙ ap₂ (λ (x y : ℕ). paste t x (drop (1 + j * 5) t) y) a k
    ∙ paste-splice t (6 + j * 5) (drop (1 + j * 5) t) ((n - j) * 5) (rw length-drop (omega arith)))

-- a range that went up by five, and five bytes before it
grown : (t : List ℕ) (j k : ℕ) (v : List ℕ) → length v ≡ 5 → 6 + j * 5 + k * 5 ≤ length t
    → splice (splice t (6 + j * 5) (take (k * 5) (drop (1 + j * 5) t))) (1 + j * 5) v
    ≡ splice t 1 (take (j * 5) (drop 1 t) ++ (v ++ take (k * 5) (drop (1 + j * 5) t)))
unfolding splice
grown t j k v e h =
    let at = 1 + j * 5 in
    let a = take (j * 5) (drop 1 t) in
    let x = take 5 (drop at t) in
    let w = take (k * 5) (drop at t) in
    let la : length a ≡ j * 5 = length-take-le (j * 5) (drop 1 t) (rw length-drop (omega arith)) in
    let lx : length x ≡ 5 = length-take-le 5 (drop at t) (rw length-drop (omega arith)) in
    let lw : length w ≡ k * 5 = length-take-le (k * 5) (drop at t) (rw length-drop (omega arith)) in
    let lo : length (take 1 t) ≡ 1 = length-take-le 1 t (omega arith) in
    let s : 6 + j * 5 ≡ at + 5 = omega arith in
    let f : take (6 + j * 5) t ≡ (take 1 t ++ a) ++ x =
    ap (λ (i : ℕ). take i t) s ∙ take-add at 5 t ∙ ap (λ (u : List ℕ). u ++ x) (take-add 1 (j * 5) t) in
    let g : length (take 1 t ++ a) ≡ at = length-append (take 1 t) a ∙ omega arith in
    let m : 6 + j * 5 + length w ≡ 1 + length (a ++ (v ++ w)) = omega (arith, length-append a (v ++ w), length-append v w) in
    let d = drop (6 + j * 5 + length w) t in
    ap (λ (u : List ℕ). splice (u ++ (w ++ d)) at v) f
    ∙ ap (λ (u : List ℕ). splice u at v) (append_assoc (take 1 t ++ a) x (w ++ d))
    ∙ splice-parts (take 1 t ++ a) x (w ++ d) v at g (lx ∙ sym e)
    ∙ append_assoc (take 1 t) a (v ++ (w ++ d))
    ∙ ap (λ (u : List ℕ). take 1 t ++ (a ++ u)) (sym (append_assoc v w d))
    ∙ ap (λ (u : List ℕ). take 1 t ++ u) (sym (append_assoc a (v ++ w) d))
    ∙ ap (λ (i : ℕ). take 1 t ++ ((a ++ (v ++ w)) ++ drop i t)) m

module _ (t : List ℕ) (b : Bytes t) (v : Version) (n j : ℕ) (e : j ≡ rank 5 t v 1 n) (l : 6 + n * 5 ≤ length t) where
  pub added_old : (ltb j n && not (below v (version_at t (1 + j * 5)))) ≡ true → Added v n t n t
  added_old h =
      let q = insert_old t v n j e h in
      record {
        many = sym (ap length q ∙ from-length (version_at t) 5 1 n);
        laid = splice_self t 1 (n * 5) ∙ ap (splice t 1) (run-bytes t b 1 n (omega arith) ∙ ap (write_many write_version) (sym q));
      }

  pub added_new : (ltb j n && not (below v (version_at t (1 + j * 5)))) ≡ false → (u : List ℕ)
      → u ≡ splice (splice t (6 + j * 5) (take ((n - j) * 5) (drop (1 + j * 5) t))) (1 + j * 5) (write_version v) → Added v n t (n + 1) u
  unfolding write_many
  added_new h u f =
      let q = insert_new t v n j e h in
      let w : j ≤ n = place_within t v n j e in
      let r = from (version_at t) 5 (1 + j * 5) (n - j) in
      record {
        many =
            sym (ap length q ∙ length-append (list_in j t) (v ∷ r) ∙ omega (arith, from-length (version_at t) 5 1 j, from-length (version_at t) 5 (1 + j * 5) (n - j)));
        laid =
            f ∙ grown t j (n - j) (write_version v) (length-version v) (omega arith)
            ∙ ap₂ (λ (x y : List ℕ). splice t 1 (x ++ (write_version v ++ y))) (run-bytes t b 1 j (omega arith)) (run-bytes t b (1 + j * 5) (n - j) (omega arith))
            ∙ ap (splice t 1) (sym (ap (write_many write_version) q ∙ many-append write_version (list_in j t) (v ∷ r)));
      }

pub adds_in : (b : Bool) (v : Version) (n : ℕ) (t : List ℕ) (r : ℕ) (u : List ℕ) → b ≡ false → Added v n t r u → Adds b v n t r u
adds_in true v n t r u e a = absurd (true≢false e)
adds_in false v n t r u e a = a

pub adds_few : (b : Bool) (v : Version) (n : ℕ) (t : List ℕ) (r : ℕ) (u : List ℕ) → Adds b v n t r u → r ≤ n + 1
adds_few true v n t r u a = omega (arith, a.0)
adds_few false v n t r u a = omega (arith, a.many, insert-length v (list_in n t), from-length (version_at t) 5 1 n)

-- ---- the list in the room

-- the tag alone
listing_none : (room : List ℕ) → 6 ≤ length room → Listing room [] 0 (set room 0 3)
unfolding write_to_node write_many from
listing_none [] h = absurd (omega arith)
listing_none (x ∷ room) h = record { many = refl; shown = refl; laid = refl }

-- a version more
listing_more : (first : List ℕ) (l : List Version) (n : ℕ) (room : List ℕ) (v : Version) (r : ℕ) (u : List ℕ) → Each GoodVersion l → GoodVersion v
    → Listing first l n room → Added v n room r u → Listing first (insert v l) r u
unfolding write_to_node splice
listing_more first l n room v r u g h x a =
    let w = write_many write_version l in
    let k = insert v l in
    let z = write_many write_version k in
    let m : r ≡ length k = a.many ∙ ap (λ (y : List Version). length (insert v y)) x.shown in
    let i : length w + (length z - length w) ≡ length z = omega (arith, length_versions l, length_versions k, insert_longer v l) in
    let o : 1 + length z ≡ suc (length z) = omega arith in
    let j : suc (length w) + (length z - length w) ≡ suc (length z) = omega arith in
    let d : drop (length z) (w ++ drop (suc (length w)) first) ≡ drop (suc (length z)) first =
    ap (λ (p : ℕ). drop p (w ++ drop (suc (length w)) first)) (sym i)
    ∙ drop-append-add w (drop (suc (length w)) first) (length z - length w)
    ∙ drop-drop (length z - length w) (suc (length w)) first ∙ ap (λ (p : ℕ). drop p first) j in
    let y : u ≡ 3 ∷ (z ++ drop (suc (length z)) first) =
    a.laid ∙ ap (λ (q : List Version). splice room 1 (write_many write_version (insert v q))) x.shown
    ∙ ap (λ (q : List ℕ). splice q 1 z) x.laid ∙ ap (λ (p : ℕ). 3 ∷ (z ++ drop p (3 ∷ (w ++ drop (suc (length w)) first)))) o
    ∙ ap (λ (q : List ℕ). 3 ∷ (z ++ q)) d in
    record {
      many = m;
      shown = ap (λ (p : ℕ). list_in p u) m ∙ list-shown u k 1 (drop (suc (length z)) first) (insert_good GoodVersion v l h g) (ap (drop 1) y);
      laid = y;
    }

listing_step : (first : List ℕ) (kept l : List Version) (n : ℕ) (room : List ℕ) (v : Version) (r : ℕ) (u : List ℕ) → Each GoodVersion l → GoodVersion v
    → Listing first (free_list kept l) n room → Adds (listed v (no_version ∷ kept)) v n room r u → Listing first (free_list kept (v ∷ l)) r u
unfolding free_list
listing_step first kept l n room v r u g h x a = go (listed v (no_version ∷ kept)) a
  where
    go : (b : Bool) → Adds b v n room r u → Listing first (cond b (free_list kept l) (insert v (free_list kept l))) r u
    go true c = subst (λ (k : ℕ). Listing first (free_list kept l) k u) (sym c.0) (subst (Listing first (free_list kept l) n) (sym c.1) x)
    go false c = listing_more first (free_list kept l) n room v r u (free_good GoodVersion kept l g) h x c

module _ (s : Measures) (area : List ℕ) (b : Bytes area) (h : Holds s area) (map : ℕ) (new : Version) where
  abbrev mine : Retained
  mine = retained_in s area

  abbrev kepts : List Version
  kepts = kept_versions s map mine new

  pub started : (room : List ℕ) → 6 ≤ length room → (r : ℕ) (u : List ℕ) (v : Version) → v ≡ mine.written.version
      → Adds (listed v (no_version ∷ kepts)) v 0 (set room 0 3) r u → Listing room (freed_up_to s map mine new 0) r u
  unfolding replaced_by free_list
  started room l r u v e a =
      listing_step room kepts [] 0 (set room 0 3) mine.written.version r u tt (replaced_good s area b h map 0 (omega arith)).0 (listing_none room l)
      (subst (λ (w : Version). Adds (listed w (no_version ∷ kepts)) w 0 (set room 0 3) r u) e a)

  module _ (q : ℕ) (l : q < s.m) where
    next : replaced_by map mine (q + 1)
        ≡ cond (stands map (q + 1)) ((get_or mine.frozen q none_pointer).version ∷ get_or mine.reserved q no_version ∷ replaced_by map mine q) (replaced_by map mine q)
    unfolding replaced_by
    next = let e : q + 1 ≡ suc q = omega arith in ap (replaced_by map mine) e

    pub skipped : stands map (q + 1) ≡ false → (first : List ℕ) (n : ℕ) (t : List ℕ)
        → Listing first (freed_up_to s map mine new q) n t → Listing first (freed_up_to s map mine new (q + 1)) n t
    skipped e first n t x =
        subst (λ (k : List Version). Listing first (free_list kepts k) n t)
        (sym (next ∙ ap (λ (c : Bool). cond c ((get_or mine.frozen q none_pointer).version ∷ get_or mine.reserved q no_version ∷ replaced_by map mine q) (replaced_by map mine q)) e)) x

    pub client-freed : stands map (q + 1) ≡ true → (first : List ℕ) (n : ℕ) (t : List ℕ) (m : ℕ) (t1 : List ℕ) (r : ℕ) (u : List ℕ) (v w : Version)
        → v ≡ get_or mine.reserved q no_version → w ≡ (get_or mine.frozen q none_pointer).version
        → Adds (listed v (no_version ∷ kepts)) v n t m t1 → Adds (listed w (no_version ∷ kepts)) w m t1 r u
        → Listing first (freed_up_to s map mine new q) n t → Listing first (freed_up_to s map mine new (q + 1)) r u
    client-freed e first n t m t1 r u v w ev ew a c x =
        let k = replaced_by map mine q in
        let v' = get_or mine.reserved q no_version in
        let w' = (get_or mine.frozen q none_pointer).version in
        let g = replaced_good s area b h map q (omega arith) in
        let gv = reserved_good s area b h q l in
        let y = listing_step first kepts k n t v' m t1 g gv x (subst (λ (z : Version). Adds (listed z (no_version ∷ kepts)) z n t m t1) ev a) in
        subst (λ (i : List Version). Listing first (free_list kepts i) r u)
        (sym (next ∙ ap (λ (d : Bool). cond d (w' ∷ v' ∷ k) k) e))
        (listing_step first kepts (v' ∷ k) m t1 w' r u (gv, g) (frozen_good s area b h q l).0.0 y
        (subst (λ (z : Version). Adds (listed z (no_version ∷ kepts)) z m t1 r u) ew c))

-- ---- sizes

replaced-few : (map : ℕ) (x : Retained) (q : ℕ) → length (replaced_by map x q) ≤ 2 * q + 1
unfolding replaced_by
replaced-few map x zero = omega arith
replaced-few map x (suc q) = go (stands map (q + 1)) (replaced-few map x q)
  where
    go : (c : Bool) → length (replaced_by map x q) ≤ 2 * q + 1
        → length (cond c ((get_or x.frozen q none_pointer).version ∷ get_or x.reserved q no_version ∷ replaced_by map x q) (replaced_by map x q)) ≤ 2 * suc q + 1
    go true e = omega arith
    go false e = omega arith

-- at most 2q + 1 versions of the first q clients
freed-few : (s : Measures) (map : ℕ) (x : Retained) (new : Version) (q : ℕ) → length (freed_up_to s map x new q) ≤ 2 * q + 1
freed-few s map x new q = omega (arith, free-length (kept_versions s map x new) (replaced_by map x q), replaced-few map x q)

pub room-enough : (s : Measures) → 10 * s.m + 6 ≤ room_size s
room-enough s = let p : 7 ≤ pointer_size s = omega arith in omega (arith, mul-le-mul_left (s.m + 1) p)

list_length : (l : List Version) → length (write_to_node (ToNode.free l)) ≡ 1 + 5 * length l
unfolding write_to_node
list_length l = omega (arith, length_versions l)

module _ (s : Measures) (map : ℕ) (x : Retained) (new : Version) (q : ℕ) (first : List ℕ) (n : ℕ) (room : List ℕ) (l : Listing first (freed_up_to s map x new q) n room) where
  pub listing_few : n ≤ 2 * q + 1
  listing_few = omega (arith, l.many, freed-few s map x new q)

  -- the list of all clients is the message
  pub listing_all : q ≡ s.m
      → (1 + 5 * n ≡ length (write_to_node (ToNode.free (freed_by s map x new)))) × (room ≡ lay (write_to_node (ToNode.free (freed_by s map x new))) first)
  listing_all e =
      let y = subst (λ (k : ℕ). Listing first (freed_up_to s map x new k) n room) e l in
      (sym (list_length (freed_by s map x new) ∙ omega (arith, y.many)), y.laid)

-- the place of a frozen pointer is a small number
pub frozen_bound : (s : Measures) → passes s ≡ true → (q : ℕ) → q < s.m → (q + 1) * pointer_size s ≤ 4671
frozen_bound s h q l = let k : q + 1 ≤ s.m + 1 = omega arith in omega (arith, mul-le-mul_right (pointer_size s) k, pointers_bound s h)

-- ---- ways out

pub kept-first : (v a f : Version) → a ≡ f → same_version v a ≡ true → (y : Bool) → true ≡ (listed v (f ∷ []) || y)
kept-first v a f p e y = ap (λ (b : Bool). b || y) (sym e ∙ same-listed v a ∙ ap (λ (x : Version). listed v (x ∷ [])) p)

pub kept_second : (v a f b g : Version) → a ≡ f → same_version v a ≡ false → b ≡ g → same_version v b ≡ (listed v (f ∷ []) || listed v (g ∷ []))
kept_second v a f b g p e q =
    same-listed v b ∙ ap (λ (x : Version). listed v (x ∷ [])) q
    ∙ ap (λ (c : Bool). c || listed v (g ∷ [])) (sym e ∙ same-listed v a ∙ ap (λ (x : Version). listed v (x ∷ [])) p)
