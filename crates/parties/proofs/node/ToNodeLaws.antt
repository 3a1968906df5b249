-- Messages to a node: what their reader tells, as tests on their bytes.
use mathlib.Core.Path.{◌≡◌, refl, sym, ap, ◌∙◌}
use mathlib.Core.Bool.{Bool, true, false, cond, ◌&&◌}
use mathlib.Core.List.{List, [], ◌∷◌}
use mathlib.Core.Option.{Option, some, none}
use Prim.Native.Nat.{ℕ, suc, ◌+◌, ◌-◌, ◌*◌, ◌/◌, ◌%◌, ◌<◌, ◌≤◌}
use native.Mathlib.Decide.{dec_le, ℕ_discrete}
use native.Mathlib.Omega.{arith}
use borrow.Author.Tests.{le-leb, lt-leb, leb-true, eq-eqb, ne_eqb}
use lib.Dec.{leb, eqb}
use lib.ListN.{length, get_or, drop, length-drop}
use Rattle.coding.proofs.Cases.{and-true}
use Rattle.parties.specs.declared.Measures.{Measures}
use Rattle.parties.specs.declared.Version.{Version}
use Rattle.parties.specs.protocol.Format.{Read, check, chain, whole, given, end_with, read_number, read_many}
use Rattle.parties.specs.protocol.Version.{ascending}
use Rattle.parties.specs.protocol.Version as version
use Rattle.parties.specs.protocol.Pointer.{read_version}
use Rattle.parties.specs.protocol.Message.{proper_version, read_proper, read_stored, read_versions, ToNode, read_to_node}
use Rattle.parties.specs.records.Places.{version_at, every, proper_at, version_alone}
use Rattle.parties.specs.node.ToNode.{versions_from, listed_from, store_sound, free_sound}
use Rattle.parties.proofs.records.PositionLaws.{ordered-all, given-read}
use Rattle.parties.proofs.records.PlaceLaws.{read-version}

-- two tests that tell the same
leb_same : (a b c d : ℕ) → (a ≤ b → c ≤ d) → (c ≤ d → a ≤ b) → leb a b ≡ leb c d
leb_same a b c d there back = go (dec_le a b)
  where
    go : Dec (a ≤ b) → leb a b ≡ leb c d
    go (yes h) = le-leb a b h ∙ sym (le-leb c d (there h))
    go (no h) = lt-leb a b (omega arith) ∙ sym (not_le (dec_le c d))
      where
        not_le : Dec (c ≤ d) → leb c d ≡ false
        not_le (yes k) = absurd (h (back k))
        not_le (no k) = lt-leb c d (omega arith)

pub eqb_same : (a b c d : ℕ) → (a ≡ b → c ≡ d) → (c ≡ d → a ≡ b) → eqb a b ≡ eqb c d
eqb_same a b c d there back = go (ℕ_discrete a b)
  where
    go : Dec (a ≡ b) → eqb a b ≡ eqb c d
    go (yes h) = eq-eqb a b h ∙ sym (eq-eqb c d (there h))
    go (no h) = ne_eqb a b h ∙ sym (ne_eqb c d (λ k. h (back k)))

never : {A : Type 0} (c : Bool) (a : Option A) → cond (c && false) a none ≡ none
never true a = refl
never false a = refl

-- a value alone, under its constructor
whole_of : {A C : Type 0} (q : Bool) (a : A) (u : List ℕ) (make : A → C)
    → chain (chain {A = Read A} (cond q (some (record { value = a; rest = u })) none) (λ x. cond (eqb (length x.rest) 0) (some x.value) none)) (λ v. some (make v))
    ≡ cond (eqb (length u) 0 && q) (some (make a)) none
whole_of true a u make = go (eqb (length u) 0)
  where
    go : (c : Bool) → chain (cond c (some a) none) (λ v. some (make v)) ≡ cond (c && true) (some (make a)) none
    go true = refl
    go false = refl
whole_of false a u make = sym (never (eqb (length u) 0) (some (make a)))

-- ---- versions

short-version : (u : List ℕ) → length u < 5 → read_version u ≡ none
unfolding read_version read_number
short-version [] h = refl
short-version (a ∷ []) h = refl
short-version (a ∷ b ∷ []) h = refl
short-version (a ∷ b ∷ c ∷ []) h = refl
short-version (a ∷ b ∷ c ∷ d ∷ []) h = refl
short-version (a ∷ b ∷ c ∷ d ∷ e ∷ u) h = absurd (omega arith)

module _ (s : Measures) (b : List ℕ) where
  pub proper-read : (at : ℕ) → at + 5 ≤ length b
      → read_proper s (drop at b) ≡ cond (proper_at s b at) (some (record { value = version_at b at; rest = drop (at + 5) b })) none
  unfolding read_proper proper_at
  proper-read at h = rw (read-version b at h) (go (proper_version s (version_at b at)))
    where
      go : (q : Bool) → check q (version_at b at) (drop (at + 5) b) ≡ cond q (some (record { value = version_at b at; rest = drop (at + 5) b })) none
      go true = refl
      go false = refl

  proper_sequence : (at : ℕ) → proper_at s b at ≡ true → 1 ≤ (version_at b at).sequence.0
  unfolding proper_at
  proper_sequence at e = leb-true 1 (version_at b at).sequence.0 (and-true (leb 1 (version_at b at).sequence.0) _ e).0

pub proper-short : (s : Measures) (u : List ℕ) → length u < 5 → read_proper s u ≡ none
unfolding read_proper
proper-short s u h = rw (short-version u h) refl

-- ---- the three messages

abbrev pub store_of : List ℕ → ToNode
store_of b = ToNode.store (version_at b 1) (drop 6 b)

abbrev pub request_of : List ℕ → ToNode
request_of b = ToNode.request (version_at b 1)

abbrev pub free_of : List ℕ → ToNode
free_of b = ToNode.free (versions_from b 1 ((length b - 1) / 5))

pub tag_is : {A : Type 0} (x n : ℕ) (a b : A) → x ≡ n → cond (eqb x n) a b ≡ a
tag_is x n a b h = ap (λ (t : Bool). cond t a b) (eq-eqb x n h)

pub tag_not : {A : Type 0} (x n : ℕ) (a b : A) → (x ≡ n → ⊥) → cond (eqb x n) a b ≡ b
tag_not x n a b h = ap (λ (t : Bool). cond t a b) (ne_eqb x n h)

module _ (s : Measures) where
  store_long : (b : List ℕ) → 6 ≤ length b
      → end_with (read_proper s) (λ v. read_stored s) ToNode.store (drop 1 b) ≡ cond (store_sound s b) (some (store_of b)) none
  unfolding store_sound
  store_long b h = rw (proper-read s b 1 (omega arith), sizes) (after (proper_at s b 1))
    where
      l : length (drop 6 b) ≡ length b - 6
      l = length-drop 6 b

      sizes : (leb 7 (length b) && leb (length b) (6 + s.f)) ≡ (leb 1 (length (drop 6 b)) && leb (length (drop 6 b)) s.f)
      sizes =
          ap (λ (x : Bool). x && leb (length b) (6 + s.f)) (leb_same 7 (length b) 1 (length (drop 6 b)) (λ x. omega (arith, l)) (λ x. omega (arith, l)))
          ∙ ap (λ (x : Bool). leb 1 (length (drop 6 b)) && x)
          (leb_same (length b) (6 + s.f) (length (drop 6 b)) s.f (λ x. omega (arith, l)) (λ x. omega (arith, l)))

      piece : (c : Bool) → chain (cond c (some (drop 6 b)) none) (λ p. some (ToNode.store (version_at b 1) p)) ≡ cond (c && true) (some (store_of b)) none
      piece true = refl
      piece false = refl

      after : (q : Bool)
          → chain {A = Read Version} (cond q (some (record { value = version_at b 1; rest = drop 6 b })) none)
          (λ x. chain (read_stored s x.rest) (λ p. some (ToNode.store x.value p)))
          ≡ cond ((leb 1 (length (drop 6 b)) && leb (length (drop 6 b)) s.f) && q) (some (store_of b)) none
      after true = piece (leb 1 (length (drop 6 b)) && leb (length (drop 6 b)) s.f)
      after false = sym (never (leb 1 (length (drop 6 b)) && leb (length (drop 6 b)) s.f) (some (store_of b)))

  pub tag_store : (b : List ℕ) → 1 ≤ length b → get_or b 0 0 ≡ 1 → read_to_node s b ≡ cond (store_sound s b) (some (store_of b)) none
  unfolding read_to_node store_sound
  tag_store [] h e = absurd (omega arith)
  tag_store (x ∷ u) h e = tag_is x 1 _ _ e ∙ go (dec_le 6 (suc (length u)))
    where
      go : Dec (6 ≤ suc (length u)) → end_with (read_proper s) (λ v. read_stored s) ToNode.store u ≡ cond (store_sound s (x ∷ u)) (some (store_of (x ∷ u))) none
      go (yes k) = store_long (x ∷ u) k
      go (no k) = rw (proper-short s u (omega arith), lt-leb 7 (suc (length u)) (omega arith)) refl

  -- a version and nothing after it
  pub alone : {C : Type 0} (make : Version → C) (x : ℕ) (u : List ℕ)
      → chain (whole (read_proper s) u) (λ v. some (make v)) ≡ cond (version_alone s (x ∷ u)) (some (make (version_at (x ∷ u) 1))) none
  unfolding version_alone
  alone make x u = go (dec_le 6 (suc (length u)))
    where
      go : Dec (6 ≤ suc (length u)) → chain (whole (read_proper s) u) (λ v. some (make v)) ≡ cond (version_alone s (x ∷ u)) (some (make (version_at (x ∷ u) 1))) none
      go (yes k) =
          let e : eqb (suc (length u)) 6 ≡ eqb (length (drop 5 u)) 0 = eqb_same (suc (length u)) 6 (length (drop 5 u)) 0 (λ q. omega (arith, length-drop 5 u)) (λ q. omega (arith, length-drop 5 u)) in
          rw (proper-read s (x ∷ u) 1 k, e) (whole_of (proper_at s (x ∷ u) 1) (version_at (x ∷ u) 1) (drop 5 u) make)
      go (no k) = rw (proper-short s u (omega arith), ne_eqb (suc (length u)) 6 (λ q. omega arith)) refl

  pub tag_request : (b : List ℕ) → 1 ≤ length b → get_or b 0 0 ≡ 2 → read_to_node s b ≡ cond (version_alone s b) (some (request_of b)) none
  unfolding read_to_node
  tag_request [] h e = absurd (omega arith)
  tag_request (x ∷ u) h e = tag_not x 1 _ _ (λ q. omega arith) ∙ tag_is x 2 _ _ e ∙ alone ToNode.request x u

  pub tag_free : (b : List ℕ) → 1 ≤ length b → get_or b 0 0 ≡ 3 → read_to_node s b ≡ cond (free_sound s b) (some (free_of b)) none
  unfolding read_to_node read_versions free_sound
  tag_free [] h e = absurd (omega arith)
  tag_free (x ∷ u) h e = tag_not x 1 _ _ (λ q. omega arith) ∙ tag_not x 2 _ _ (λ q. omega arith) ∙ tag_is x 3 _ _ e ∙ go
    where
      b : List ℕ
      b = x ∷ u

      n : ℕ
      n = (suc (length u) - 1) / 5

      count : length u / 5 ≡ n
      count = let e : length u ≡ suc (length u) - 1 = omega arith in ap (λ (k : ℕ). k / 5) e

      left : eqb ((suc (length u) - 1) % 5) 0 ≡ eqb (length (drop (1 + n * 5) b)) 0
      left = let e : (suc (length u) - 1) % 5 ≡ length (drop (1 + n * 5) b) = rw length-drop (omega arith) in ap (λ (k : ℕ). eqb k 0) e

      go : chain (whole (given ascending (read_many (read_proper s) (length u / 5))) u) (λ l. some (ToNode.free l)) ≡ cond (free_sound s b) (some (free_of b)) none
      go =
          rw (
            count,
            given-read (read_proper s) b 5 (proper_at s b) (version_at b) (proper-read s b) ascending 1 n (omega arith)
                (listed_from s b version.no_version 1 n) (ordered-all (proper_at s b) (version_at b) 5 (proper_sequence s b) 1 n),
            left,
          )
          (whole_of (listed_from s b version.no_version 1 n) (versions_from b 1 n) (drop (1 + n * 5) b) ToNode.free)

  pub tag_other : (b : List ℕ) → 1 ≤ length b → (get_or b 0 0 ≡ 1 → ⊥) → (get_or b 0 0 ≡ 2 → ⊥) → (get_or b 0 0 ≡ 3 → ⊥) → read_to_node s b ≡ none
  unfolding read_to_node
  tag_other [] h p q r = refl
  tag_other (x ∷ u) h p q r = tag_not x 1 _ _ p ∙ tag_not x 2 _ _ q ∙ tag_not x 3 _ _ r

  pub tag_none : (b : List ℕ) → length b < 1 → read_to_node s b ≡ none
  unfolding read_to_node
  tag_none [] h = refl
  tag_none (x ∷ u) h = absurd (omega arith)

-- ---- what the code finds

module _ (s : Measures) (b : List ℕ) where
  pub store-short : length b < 7 → false ≡ store_sound s b
  unfolding store_sound
  store-short h = sym (simp (lt-leb 7 (length b) h))

  pub store-wide : 7 ≤ length b → 6 + s.f < length b → false ≡ store_sound s b
  unfolding store_sound
  store-wide h k = sym (simp (le-leb 7 (length b) h, lt-leb (length b) (6 + s.f) k))

  pub store-version : 7 ≤ length b → length b ≤ 6 + s.f → proper_at s b 1 ≡ store_sound s b
  unfolding store_sound
  store-version h k = sym (simp (le-leb 7 (length b) h, le-leb (length b) (6 + s.f) k))

  pub free-length : ((length b - 1) % 5 ≡ 0 → ⊥) → false ≡ free_sound s b
  unfolding free_sound
  free-length h = sym (simp (ne_eqb ((length b - 1) % 5) 0 h))

  pub free_versions : (length b - 1) % 5 ≡ 0 → listed_from s b version.no_version 1 ((length b - 1) / 5) ≡ free_sound s b
  unfolding free_sound
  free_versions h = sym (simp (eq-eqb ((length b - 1) % 5) 0 h))

  -- what a message of form tells
  pub store_sizes : store_sound s b ≡ true → (7 ≤ length b) × (length b ≤ 6 + s.f)
  unfolding store_sound
  store_sizes e =
      let a = and-true (leb 7 (length b)) (leb (length b) (6 + s.f)) (and-true (leb 7 (length b) && leb (length b) (6 + s.f)) (proper_at s b 1) e).0 in
      (leb-true 7 (length b) a.0, leb-true (length b) (6 + s.f) a.1)

  pub free-ascends : free_sound s b ≡ true → ascending (versions_from b 1 ((length b - 1) / 5)) ≡ true
  unfolding free_sound
  free-ascends e =
      (and-true (every (proper_at s b) 5 1 ((length b - 1) / 5)) (ascending (versions_from b 1 ((length b - 1) / 5)))
      (sym (ordered-all (proper_at s b) (version_at b) 5 (proper_sequence s b) 1 ((length b - 1) / 5)) ∙ (and-true (eqb ((length b - 1) % 5) 0) _ e).1)
      ).1
