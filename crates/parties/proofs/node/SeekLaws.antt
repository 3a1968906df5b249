-- The place of a version: what stands before it is below, and a step on the places goes on from there.
use mathlib.Core.Path.{◌≡◌, refl, sym, ap, ap₂, ◌∙◌}
use mathlib.Core.Bool.{Bool, true, false, cond, not, true≢false}
use mathlib.Core.List.{List, [], ◌∷◌, ◌++◌}
use mathlib.Core.Option.{some, none}
use Prim.Native.Nat.{ℕ, zero, suc, ◌+◌, ◌-◌, ◌*◌, ◌<◌, ◌≤◌}
use native.Mathlib.Nat.{zero-mul}
use native.Mathlib.Decide.{dec_lt}
use native.Mathlib.Omega.{arith}
use borrow.Author.Tests.{lt-ltb, ltb-true, not-true}
use lib.Dec.{ltb}
use Rattle.coding.proofs.BytesLaws.{stride}
use Rattle.coding.proofs.Cases.{and-true}
use Rattle.parties.specs.declared.Version.{Version}
use Rattle.parties.specs.protocol.Version.{below}
use Rattle.parties.specs.protocol.NodeTable.{Held}
use Rattle.parties.specs.protocol.Node.{keep, hand_back}
use Rattle.parties.proofs.protocol.formats.FormatLaws.{Each}
use Rattle.parties.proofs.protocol.events.NodeLaws.{not_below_back, hand-more, hand-same}
use Rattle.parties.specs.records.Places.{version_at, piece_at, held_at, from, held_from, rank, stands_at}
use Rattle.parties.proofs.records.PositionLaws.{next_place, from-split, from_first, from-none}

module _ (z : ℕ) (t : List ℕ) where
  module _ (v : Version) where
    pub rank-within : (at n : ℕ) → rank z t v at n ≤ n
    unfolding rank
    rank-within at zero = omega arith
    rank-within at (suc n) = go (rank-within (at + z) n) (below (version_at t at) v)
      where
        go : rank z t v (at + z) n ≤ n → (b : Bool) → cond b (rank z t v (at + z) n + 1) 0 ≤ suc n
        go ih true = omega arith
        go ih false = omega arith

    -- each place before it is below the version
    pub rank_passed : (at n : ℕ) → Each (λ x. below x.version v ≡ true) (held_from z t at (rank z t v at n))
    unfolding rank from
    rank_passed at zero = tt
    rank_passed at (suc n) = go (rank_passed (at + z) n) (below (version_at t at) v) refl
      where
        go : Each (λ x. below x.version v ≡ true) (held_from z t (at + z) (rank z t v (at + z) n)) → (b : Bool) → below (version_at t at) v ≡ b
            → Each (λ x. below x.version v ≡ true) (held_from z t at (cond b (rank z t v (at + z) n + 1) 0))
        go ih true e =
            let q : rank z t v (at + z) n + 1 ≡ suc (rank z t v (at + z) n) = omega arith in rw q (e, ih)
        go ih false e = tt

    -- and the place itself is not
    pub rank_stop : (at n : ℕ) → rank z t v at n < n → below (version_at t (at + rank z t v at n * z)) v ≡ false
    unfolding rank
    rank_stop at zero h = absurd (omega arith)
    rank_stop at (suc n) h = go (rank_stop (at + z) n) (below (version_at t at) v) refl h
      where
        go : (rank z t v (at + z) n < n → below (version_at t (at + z + rank z t v (at + z) n * z)) v ≡ false) → (b : Bool) → below (version_at t at) v ≡ b
            → cond b (rank z t v (at + z) n + 1) 0 < suc n → below (version_at t (at + cond b (rank z t v (at + z) n + 1) 0 * z)) v ≡ false
        go ih true e h =
            let q : rank z t v (at + z) n + 1 ≡ suc (rank z t v (at + z) n) = omega arith in
            rw (q, next_place at (rank z t v (at + z) n) z) (ih (omega arith))
        go ih false e h = let q : at + 0 * z ≡ at = omega (arith, zero-mul z) in rw q e

-- a step passes what is below its version
pub keep_past : (h : Held) (a b : List Held) → Each (λ x. below x.version h.version ≡ true) a → keep h (a ++ b) ≡ a ++ keep h b
unfolding keep
keep_past h [] b e = refl
keep_past h (x ∷ a) b e =
    simp (not_below_back x.version h.version e.0, e.0) (ap (λ (l : List Held). x ∷ l) (keep_past h a b e.1))

pub hand_past : (v : Version) (a b : List Held) → Each (λ x. below x.version v ≡ true) a → hand_back v (a ++ b) ≡ hand_back v b
hand_past v [] b e = refl
hand_past v (x ∷ a) b e = hand-more v x (a ++ b) (not_below_back x.version v e.0) e.0 ∙ hand_past v a b e.1

-- ---- what the code finds

-- the count of the places passed, and the rank from here
module _ (z : ℕ) (t : List ℕ) (v : Version) (at n : ℕ) where
  pub rank_end : n ≤ 0 → rank z t v at n ≡ 0
  unfolding rank
  rank_end h = let e : n ≡ 0 = omega arith in rw e refl

  rank-first : 0 < n → rank z t v at n ≡ cond (below (version_at t at) v) (rank z t v (at + z) (n - 1) + 1) 0
  unfolding rank
  rank-first h = let e : n ≡ suc (n - 1) = omega arith in ap (rank z t v at) e

  module _ (w : Version) (e : w ≡ version_at t at) (h : 0 < n) where
    pub rank-found : below w v ≡ false → rank z t v at n ≡ 0
    rank-found b = rank-first h ∙ rw (← e) (simp b)

    pub rank_on : below w v ≡ true → rank z t v at n ≡ rank z t v (at + z) (n - 1) + 1
    rank_on b = rank-first h ∙ rw (← e) (simp b)

-- a turn of a loop over n places from `first` on, of which j are passed
pub rank_turn : (z : ℕ) (t : List ℕ) (v : Version) (first n j : ℕ) → j < n → (w : Version) → w ≡ version_at t (first + j * z) → below w v ≡ true
    → rank z t v (first + j * z) (n - j) ≡ rank z t v (first + (j + 1) * z) (n - (j + 1)) + 1
rank_turn z t v first n j h w e b =
    let x : first + j * z + z ≡ first + (j + 1) * z = omega (arith, stride j z) in
    let y : n - j - 1 ≡ n - (j + 1) = omega arith in
    rank_on z t v (first + j * z) (n - j) w e (omega arith) b ∙ ap (λ (r : ℕ). r + 1) (ap₂ (rank z t v) x y)

-- ---- the place of a version

module _ (z : ℕ) (t : List ℕ) (n : ℕ) (h : Held) (j : ℕ) (e : j ≡ rank z t h.version 2 n) where
  within : j ≤ n
  within = rw e (rank-within z t h.version 2 n)

  pub seek_split : held_from z t 2 n ≡ held_from z t 2 j ++ held_from z t (2 + j * z) (n - j)
  seek_split = let k : n ≡ j + (n - j) = omega (arith, within) in ap (held_from z t 2) k ∙ from-split (held_at t) z 2 j (n - j)

  passed : Each (λ x. below x.version h.version ≡ true) (held_from z t 2 j)
  passed = rw e (rank_passed z t h.version 2 n)

  stop : j < n → below (version_at t (2 + j * z)) h.version ≡ false
  stop k = rw e (rank_stop z t h.version 2 n (rw e at k))

  -- the version stands there
  module _ (s : stands_at z t n j h.version ≡ true) where
    pub stands-within : j < n
    stands-within = ltb-true j n (and-true (ltb j n) (not (below h.version (version_at t (2 + j * z)))) s).0

    same : below h.version (version_at t (2 + j * z)) ≡ false
    same = not-true (below h.version (version_at t (2 + j * z))) (and-true (ltb j n) (not (below h.version (version_at t (2 + j * z)))) s).1

    pub stands-split : held_from z t 2 n ≡ held_from z t 2 j ++ (held_at t (2 + j * z) ∷ held_from z t (2 + j * z + z) (n - j - 1))
    stands-split =
        seek_split ∙ ap (λ (l : List Held). held_from z t 2 j ++ l) (from_first (held_at t) z (2 + j * z) (n - j) (omega (arith, stands-within)))

    pub stands-hand : hand_back h.version (held_from z t 2 n) ≡ some (piece_at t (2 + j * z))
    stands-hand =
        ap (hand_back h.version) stands-split
        ∙ hand_past h.version (held_from z t 2 j) (held_at t (2 + j * z) ∷ held_from z t (2 + j * z + z) (n - j - 1)) passed
        ∙ hand-same h.version (held_at t (2 + j * z)) (held_from z t (2 + j * z + z) (n - j - 1)) same (stop stands-within)

    pub stands-keep : keep h (held_from z t 2 n) ≡ held_from z t 2 j ++ (h ∷ held_from z t (2 + j * z + z) (n - j - 1))
    unfolding keep
    stands-keep =
        ap (keep h) stands-split
        ∙ keep_past h (held_from z t 2 j) (held_at t (2 + j * z) ∷ held_from z t (2 + j * z + z) (n - j - 1)) passed
        ∙ simp (same, stop stands-within)

  -- it does not
  module _ (s : stands_at z t n j h.version ≡ false) where
    -- the places after it are none, or begin above
    absent : (P : List Held → Type 0) → P [] → ((x : Held) (l : List Held) → below h.version x.version ≡ true → P (x ∷ l)) → P (held_from z t (2 + j * z) (n - j))
    absent P a b = go (dec_lt j n) (below h.version (version_at t (2 + j * z))) refl
      where
        go : Dec (j < n) → (c : Bool) → below h.version (version_at t (2 + j * z)) ≡ c → P (held_from z t (2 + j * z) (n - j))
        go (no q) c r = rw (from-none (held_at t) z (2 + j * z) (n - j) (omega arith)) a
        go (yes q) true r = rw (from_first (held_at t) z (2 + j * z) (n - j) (omega arith)) (b (held_at t (2 + j * z)) (held_from z t (2 + j * z + z) (n - j - 1)) r)
        go (yes q) false r = absurd (true≢false (sym (simp (lt-ltb j n q, r)) ∙ s))

    pub absent_hand : hand_back h.version (held_from z t 2 n) ≡ none
    unfolding hand_back
    absent_hand =
        ap (hand_back h.version) seek_split
        ∙ hand_past h.version (held_from z t 2 j) (held_from z t (2 + j * z) (n - j)) passed
        ∙ absent (λ l. hand_back h.version l ≡ none) refl (λ x l q. simp q)

    pub absent_keep : keep h (held_from z t 2 n) ≡ held_from z t 2 j ++ (h ∷ held_from z t (2 + j * z) (n - j))
    unfolding keep
    absent_keep =
        ap (keep h) seek_split
        ∙ keep_past h (held_from z t 2 j) (held_from z t (2 + j * z) (n - j)) passed
        ∙ ap (λ (l : List Held). held_from z t 2 j ++ l) (absent (λ l. keep h l ≡ h ∷ l) refl (λ x l q. simp q))
