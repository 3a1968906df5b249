-- Places and a list of versions, walked together: what is listed is dropped.
use mathlib.Core.Path.{◌≡◌, refl, sym, ap, ap₂, ◌∙◌}
use mathlib.Core.Bool.{Bool, true, false, ◌&&◌, not, true≢false}
use mathlib.Core.List.{List, [], ◌∷◌, map}
use Prim.Native.Nat.{ℕ, ◌+◌, ◌-◌, ◌<◌}
use native.Mathlib.Decide.{dec_lt}
use native.Mathlib.Omega.{arith}
use borrow.Author.Tests.{lt-ltb, ltb-true, not-true}
use lib.Dec.{ltb}
use Rattle.coding.proofs.Cases.{and-true}
use Rattle.parties.specs.declared.Version.{Version}
use Rattle.parties.specs.protocol.Version.{below, ascending}
use Rattle.parties.specs.protocol.NodeTable.{Held, in_order}
use Rattle.parties.specs.protocol.Node.{listed, release}
use Rattle.parties.proofs.protocol.formats.FormatLaws.{Each}
use Rattle.parties.proofs.protocol.formats.VersionLaws.{below_true, true_below, below_trans}
use Rattle.parties.proofs.protocol.events.NodeLaws.{not_below_back}
use Rattle.parties.specs.records.Places.{version_at, held_at, held_from}
use Rattle.parties.specs.node.ToNode.{versions_from}
use Rattle.parties.specs.node.NodeCode.{list_behind, list_names}
use Rattle.parties.proofs.records.PositionLaws.{from_first, from-none}

-- ---- ascending versions

-- a version below the first is below all
all_above : (v w : Version) (l : List Version) → below v w ≡ true → ascending (w ∷ l) ≡ true → Each (λ x. below v x ≡ true) (w ∷ l)
unfolding ascending
all_above v w [] h e = (h, tt)
all_above v w (x ∷ l) h e =
    let a = and-true (below w x) (ascending (x ∷ l)) e in
    (h, all_above v x l (true_below v x (below_trans v w x (below_true v w h) (below_true w x a.0))) a.1)

-- a version below all of a list is not listed
not_listed : (v : Version) (l : List Version) → Each (λ x. below v x ≡ true) l → listed v l ≡ false
unfolding listed
not_listed v [] e = refl
not_listed v (w ∷ l) e = simp e.0 (not_listed v l e.1)

-- what is below all places does not matter
unlisted : (w : Version) (vs : List Version) (l : List Held) → Each (λ x. below w x ≡ true) (map (λ h. h.version) l) → release (w ∷ vs) l ≡ release vs l
unfolding release listed
unlisted w vs [] e = refl
unlisted w vs (x ∷ l) e =
    simp (not_below_back w x.version e.0, e.0, unlisted w vs l e.1)

module _ (w : Version) (vs : List Version) (x : Held) (l : List Held) where
  release-behind : below w x.version ≡ true → in_order (x ∷ l) ≡ true → release (w ∷ vs) (x ∷ l) ≡ release vs (x ∷ l)
  release-behind h o = unlisted w vs (x ∷ l) (all_above w x.version (map (λ h. h.version) l) h o)

  release-named : below x.version w ≡ false → below w x.version ≡ false → release (w ∷ vs) (x ∷ l) ≡ release (w ∷ vs) l
  unfolding release listed
  release-named h k = simp (h, k)

  release-before : below x.version w ≡ true → ascending (w ∷ vs) ≡ true → release (w ∷ vs) (x ∷ l) ≡ x ∷ release (w ∷ vs) l
  unfolding release
  release-before h o = simp (not_listed x.version (w ∷ vs) (all_above x.version w vs h o))

release-all : (x : Held) (l : List Held) → release [] (x ∷ l) ≡ x ∷ release [] l
unfolding release listed
release-all x l = refl

-- ---- the two walks

tail_ascends : (w : Version) (l : List Version) → ascending (w ∷ l) ≡ true → ascending l ≡ true
unfolding ascending
tail_ascends w [] e = refl
tail_ascends w (x ∷ l) e = (and-true (below w x) (ascending (x ∷ l)) e).1

-- the places from a position on, and the versions from another
module _ (z : ℕ) (t b : List ℕ) (from left at more : ℕ) where
  first_place : 0 < left → held_from z t from left ≡ held_at t from ∷ held_from z t (from + z) (left - 1)
  first_place h = from_first (held_at t) z from left h

  first-listed : 0 < more → versions_from b at more ≡ version_at b at ∷ versions_from b (at + 5) (more - 1)
  first-listed h = from_first (version_at b) 5 at more h

  pub next-order : 0 < left → in_order (held_from z t from left) ≡ true → in_order (held_from z t (from + z) (left - 1)) ≡ true
  next-order h o =
      tail_ascends (version_at t from) (map (λ h. h.version) (held_from z t (from + z) (left - 1))) (sym (ap in_order (first_place h)) ∙ o)

  pub next-ascends : 0 < more → ascending (versions_from b at more) ≡ true → ascending (versions_from b (at + 5) (more - 1)) ≡ true
  next-ascends h o = tail_ascends (version_at b at) (versions_from b (at + 5) (more - 1)) (sym (ap ascending (first-listed h)) ∙ o)

  -- the listed version is not held
  pub walk_behind : 0 < left → in_order (held_from z t from left) ≡ true → list_behind (version_at t from) b at more ≡ true
      → (0 < more) × (release (versions_from b at more) (held_from z t from left) ≡ release (versions_from b (at + 5) (more - 1)) (held_from z t from left))
  walk_behind h o q =
      let a = and-true (ltb 0 more) (below (version_at b at) (version_at t from)) q in
      let k : 0 < more = ltb-true 0 more a.0 in
      let x = held_from z t (from + z) (left - 1) in (
        k,
        ap₂ release (first-listed k) (first_place h)
            ∙ release-behind (version_at b at) (versions_from b (at + 5) (more - 1)) (held_at t from) x a.1 (sym (ap in_order (first_place h)) ∙ o)
            ∙ ap (release (versions_from b (at + 5) (more - 1))) (sym (first_place h)),
      )

  -- the place is listed
  pub walk_named : 0 < left → list_names (version_at t from) b at more ≡ true
      → release (versions_from b at more) (held_from z t from left) ≡ release (versions_from b at more) (held_from z t (from + z) (left - 1))
  walk_named h q =
      let a = and-true (ltb 0 more) _ q in
      let c = and-true (not (below (version_at b at) (version_at t from))) (not (below (version_at t from) (version_at b at))) a.1 in
      let k : 0 < more = ltb-true 0 more a.0 in
      let x = held_from z t (from + z) (left - 1) in
      ap₂ release (first-listed k) (first_place h)
      ∙ release-named (version_at b at) (versions_from b (at + 5) (more - 1)) (held_at t from) x (not-true _ c.1) (not-true _ c.0)
      ∙ ap (λ (l : List Version). release l x) (sym (first-listed k))

  -- the place is kept
  pub walk_kept : 0 < left → ascending (versions_from b at more) ≡ true → list_behind (version_at t from) b at more ≡ false → list_names (version_at t from) b at more ≡ false
      → release (versions_from b at more) (held_from z t from left) ≡ held_at t from ∷ release (versions_from b at more) (held_from z t (from + z) (left - 1))
  walk_kept h o p q = go (dec_lt 0 more)
    where
      x : List Held
      x = held_from z t (from + z) (left - 1)

      go : Dec (0 < more) → release (versions_from b at more) (held_from z t from left) ≡ held_at t from ∷ release (versions_from b at more) x
      go (no k) =
          let e : versions_from b at more ≡ [] = from-none (version_at b) 5 at more (omega arith) in
          ap₂ release e (first_place h) ∙ release-all (held_at t from) x ∙ ap (λ (l : List Version). held_at t from ∷ release l x) (sym e)
      go (yes k) =
          let a : below (version_at b at) (version_at t from) ≡ false = sym (ap (λ (c : Bool). c && below (version_at b at) (version_at t from)) (lt-ltb 0 more k)) ∙ p in
          let d : not (below (version_at t from) (version_at b at)) ≡ false =
          sym (simp (lt-ltb 0 more k, a)) ∙ q
          in
          ap₂ release (first-listed k) (first_place h)
          ∙ release-before (version_at b at) (versions_from b (at + 5) (more - 1)) (held_at t from) x (then_not _ d) (sym (ap ascending (first-listed k)) ∙ o)
          ∙ ap (λ (l : List Version). held_at t from ∷ release l x) (sym (first-listed k))
        where
          then_not : (b : Bool) → not b ≡ false → b ≡ true
          then_not true e = refl
          then_not false e = absurd (true≢false e)
