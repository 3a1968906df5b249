-- A reading's choice: the pointer picked is some row's offer, and none is higher.
use mathlib.Core.Path.{◌≡◌, refl, sym, ap, subst, ◌∙◌}
use mathlib.Core.Bool.{Bool, true, false, cond}
use mathlib.Core.List.{List, [], ◌∷◌}
use Prim.Native.Nat.{ℕ, zero, suc, ◌<◌, ◌≤◌}
use native.Mathlib.Omega.{arith}
use borrow.Author.Tests.{ltb-true, ltb-false, le-ltb}
use lib.Dec.{ltb}
use lib.ListN.{length, get_or}
use Rattle.coding.proofs.BytesLaws.{length-tabulate, get_or-tabulate}
use Rattle.parties.specs.declared.Measures.{Measures}
use Rattle.parties.specs.declared.ReadingIndex.{ReadingIndex}
use Rattle.parties.specs.protocol.Version.{below, no_version}
use Rattle.parties.specs.protocol.Pointer.{Pointer, none_pointer}
use Rattle.parties.specs.protocol.Directory.{Row, no_row}
use Rattle.parties.specs.protocol.Reading.{candidate, pick}
use Rattle.parties.proofs.protocol.model.Model.{ver, Rows, offer, Picks}
use Rattle.parties.proofs.protocol.model.VersionNumbers.{below_num}
use Rattle.parties.proofs.protocol.steps.View.{row_at, rows_at}

-- a pointer's client fits a byte, and none is not above it
abbrev pub Told : Pointer → Type 0
Told x = (x.version.client < 256) × (255 ≤ ver x)

-- ---- over any rows

module _ (c : ℕ) (i : ReadingIndex) where
  abbrev AllTold : List Row → Type 0
  AllTold l = (j : ℕ) → j < length l → Told (candidate c i (get_or l j no_row))

  tail_told : (r : Row) (l : List Row) → AllTold (r ∷ l) → AllTold l
  tail_told r l t j h = t (suc j) (omega arith)

  -- the two ways of a choice between a row's candidate and the pick of the rest
  data Choice (r : Row) (l : List Row) : Type 0 where
    rest : pick c i (r ∷ l) ≡ pick c i l → ver (candidate c i r) ≤ ver (pick c i l) → Choice r l
    first : pick c i (r ∷ l) ≡ candidate c i r → ver (pick c i l) ≤ ver (candidate c i r) → Choice r l

  choice : (r : Row) (l : List Row) → Told (candidate c i r) → Told (pick c i l) → Choice r l
  unfolding pick
  choice r l t u = go (below (candidate c i r).version (pick c i l).version) refl
    where
      order : below (candidate c i r).version (pick c i l).version ≡ ltb (ver (candidate c i r)) (ver (pick c i l))
      order = below_num (candidate c i r).version (pick c i l).version t.0 u.0

      go : (b : Bool) → below (candidate c i r).version (pick c i l).version ≡ b → Choice r l
      go true e = rest (rw e refl) (omega (arith, ltb-true (ver (candidate c i r)) (ver (pick c i l)) (sym order ∙ e)))
      go false e = first (rw e refl) (ltb-false (ver (candidate c i r)) (ver (pick c i l)) (sym order ∙ e))

  pick-told : (l : List Row) → AllTold l → Told (pick c i l)
  unfolding pick
  pick-told [] t = (omega arith, omega arith)
  pick-told (r ∷ l) t = go (choice r l (t 0 (omega arith)) (pick-told l (tail_told r l t))) (pick-told l (tail_told r l t))
    where
      go : Choice r l → Told (pick c i l) → Told (pick c i (r ∷ l))
      go (rest e h) ih = subst Told (sym e) ih
      go (first e h) ih = subst Told (sym e) (t 0 (omega arith))

  pick_top : (l : List Row) → AllTold l → (j : ℕ) → j < length l → ver (candidate c i (get_or l j no_row)) ≤ ver (pick c i l)
  pick_top [] t j h = absurd (omega arith)
  pick_top (r ∷ l) t j h = go (choice r l (t 0 (omega arith)) (pick-told l (tail_told r l t))) (pick_top l (tail_told r l t)) j h
    where
      go : Choice r l → ((j : ℕ) → j < length l → ver (candidate c i (get_or l j no_row)) ≤ ver (pick c i l)) → (j : ℕ) → j < length (r ∷ l)
          → ver (candidate c i (get_or (r ∷ l) j no_row)) ≤ ver (pick c i (r ∷ l))
      go (rest e h) ih zero b = rw e h
      go (rest e h) ih (suc j) b = rw e (ih j (omega arith))
      go (first e h) ih zero b = rw e (omega arith)
      go (first e h) ih (suc j) b = rw e (omega (arith, ih j (omega arith)))

  -- alone, a row's candidate is picked: none is not above it
  alone : (r : Row) → Told (candidate c i r) → pick c i (r ∷ []) ≡ candidate c i r
  unfolding pick
  alone r t =
      rw (below_num (candidate c i r).version no_version t.0 (omega arith))
      (rw (le-ltb (ver (candidate c i r)) (ver none_pointer) t.1))

  pick_row : (l : List Row) → AllTold l → 1 ≤ length l → (j : ℕ) × (j < length l) × (candidate c i (get_or l j no_row) ≡ pick c i l)
  pick_row [] t h = absurd (omega arith)
  pick_row (r ∷ []) t h = (0, omega arith, sym (alone r (t 0 (omega arith))))
  pick_row (r ∷ q ∷ l) t h =
      go (choice r (q ∷ l) (t 0 (omega arith)) (pick-told (q ∷ l) (tail_told r (q ∷ l) t))) (pick_row (q ∷ l) (tail_told r (q ∷ l) t) (omega arith))
    where
      go : Choice r (q ∷ l) → (j : ℕ) × (j < length (q ∷ l)) × (candidate c i (get_or (q ∷ l) j no_row) ≡ pick c i (q ∷ l))
          → (j : ℕ) × (j < length (r ∷ q ∷ l)) × (candidate c i (get_or (r ∷ q ∷ l) j no_row) ≡ pick c i (r ∷ q ∷ l))
      go (rest e b) ih = (suc ih.0, omega (arith, ih.1), ih.2 ∙ sym e)
      go (first e b) ih = (0, omega arith, sym e)

-- ---- over a model's rows

module _ (z : Measures) (a : Rows) (c r : ℕ) (l : c < z.m) (t : (w : ℕ) → w < z.m → Told (offer a c r w)) where
  candidate_at : (w : ℕ) → candidate c (record { 0 = r }) (row_at z a w) ≡ offer a c r w
  candidate_at w =
      λ j. cond (ltb (get_or-tabulate {A = ReadingIndex} z.m (λ q. record { 0 = a.indices w q }) c (record { 0 = 0 }) l j).0 r) (a.written w)
      (get_or-tabulate z.m (a.frozen w) c none_pointer l j)

  shown : (w : ℕ) → w < z.m → candidate c (record { 0 = r }) (get_or (rows_at z a) w no_row) ≡ offer a c r w
  shown w h = ap (candidate c (record { 0 = r })) (get_or-tabulate z.m (row_at z a) w no_row h) ∙ candidate_at w

  many : length (rows_at z a) ≡ z.m
  many = length-tabulate z.m (row_at z a)

  rows_told : AllTold c (record { 0 = r }) (rows_at z a)
  rows_told w h = let b : w < z.m = omega (arith, many) in subst Told (sym (shown w b)) (t w b)

  pub picks : 1 ≤ z.m → Picks z a c r (pick c (record { 0 = r }) (rows_at z a))
  picks one =
      let x = pick_row c (record { 0 = r }) (rows_at z a) rows_told (omega (arith, many)) in
      let b : x.0 < z.m = omega (arith, many, x.1) in
      record {
        row = x.0;
        within = b;
        offered = sym (shown x.0 b) ∙ x.2;
        top = λ w h. subst (λ (y : Pointer). ver y ≤ ver (pick c (record { 0 = r }) (rows_at z a))) (shown w h)
            (pick_top c (record { 0 = r }) (rows_at z a) rows_told w (omega (arith, many)));
      }
