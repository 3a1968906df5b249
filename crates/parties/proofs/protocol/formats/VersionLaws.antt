-- Laws of the order of versions, and when two are the same.
use mathlib.Core.Path.{◌≡◌, refl, sym, ◌∙◌}
use mathlib.Core.Bool.{Bool, true, false, ◌||◌, true≢false}
use Prim.Native.Nat.{◌<◌, ◌≤◌}
use native.Mathlib.Decide.{dec_lt}
use native.Mathlib.Omega.{arith}
use borrow.Author.Tests.{not-true, lt-ltb, le-ltb, ltb-true, ltb-false, eq-eqb, ne_eqb}
use lib.Dec.{ltb}
use Rattle.parties.specs.declared.Version.{Version}
use Rattle.parties.specs.protocol.Version.{below, no_version}
use Rattle.parties.specs.protocol.Reading.{same_version}
use Rattle.parties.proofs.protocol.model.Cells.{is_false}

module _ (a b : Version) where
  pub below_less : a.sequence.0 < b.sequence.0 → below a b ≡ true
  below_less h = simp (lt-ltb a.sequence.0 b.sequence.0 h)

  pub below_more : b.sequence.0 < a.sequence.0 → below a b ≡ false
  below_more h = simp (le-ltb a.sequence.0 b.sequence.0 (omega arith), ne_eqb a.sequence.0 b.sequence.0 (λ e. omega arith))

  pub below-same : a.sequence.0 ≡ b.sequence.0 → below a b ≡ ltb a.client b.client
  below-same h = simp (le-ltb a.sequence.0 b.sequence.0 (omega arith), eq-eqb a.sequence.0 b.sequence.0 h)

-- none is below every version that a deposit draws
pub none_below : (v : Version) → 1 ≤ v.sequence.0 → below no_version v ≡ true
none_below v h = below_less no_version v h

-- the order as a fact
pub data Below (a b : Version) : Type 0 where
  earlier : a.sequence.0 < b.sequence.0 → Below a b
  beside : a.sequence.0 ≡ b.sequence.0 → a.client < b.client → Below a b

pub below_true : (a b : Version) → below a b ≡ true → Below a b
below_true a b e = go (dec_lt a.sequence.0 b.sequence.0) (dec_lt b.sequence.0 a.sequence.0)
  where
    go : Dec (a.sequence.0 < b.sequence.0) → Dec (b.sequence.0 < a.sequence.0) → Below a b
    go (yes h) k = earlier h
    go (no h) (yes k) = absurd (true≢false (sym e ∙ below_more a b k))
    go (no h) (no k) =
        let q : a.sequence.0 ≡ b.sequence.0 = omega arith in beside q (ltb-true a.client b.client (sym (below-same a b q) ∙ e))

pub true_below : (a b : Version) → Below a b → below a b ≡ true
true_below a b (earlier h) = below_less a b h
true_below a b (beside q h) = below-same a b q ∙ lt-ltb a.client b.client h

pub below_trans : (a b c : Version) → Below a b → Below b c → Below a c
below_trans a b c (earlier h) (earlier k) = earlier (omega arith)
below_trans a b c (earlier h) (beside q k) = earlier (omega arith)
below_trans a b c (beside q h) (earlier k) = earlier (omega arith)
below_trans a b c (beside q h) (beside r k) = beside (q ∙ r) (omega arith)

pub below_irrefl : (a : Version) → Below a a → ⊥
below_irrefl a (earlier h) = omega arith
below_irrefl a (beside q h) = omega arith

pub not_below_self : (v : Version) → below v v ≡ false
not_below_self v = is_false (below v v) (λ e. below_irrefl v (below_true v v e))

pub not_below_back : (a b : Version) → below a b ≡ true → below b a ≡ false
not_below_back a b e = is_false (below b a) (λ f. below_irrefl a (below_trans a b a (below_true a b e) (below_true b a f)))

-- two versions of which neither is below the other are the same
pub neither_below : (a b : Version) → below a b ≡ false → below b a ≡ false → a ≡ b
neither_below a b e f = go (dec_lt a.sequence.0 b.sequence.0) (dec_lt b.sequence.0 a.sequence.0)
  where
    go : Dec (a.sequence.0 < b.sequence.0) → Dec (b.sequence.0 < a.sequence.0) → a ≡ b
    go (yes h) k = absurd (true≢false (sym (below_less a b h) ∙ e))
    go (no h) (yes k) = absurd (true≢false (sym (below_less b a k) ∙ f))
    go (no h) (no k) =
        let q : a.sequence.0 ≡ b.sequence.0 = omega arith in
        let x : b.client ≤ a.client = ltb-false a.client b.client (sym (below-same a b q) ∙ e) in
        let y : a.client ≤ b.client = ltb-false b.client a.client (sym (below-same b a (sym q)) ∙ f) in
        let z : a.client ≡ b.client = omega arith in
        λ i. record { sequence = record { 0 = q i }; client = z i }

-- and versions that are the same are just those that the test finds so
pub same_eq : (u v : Version) → same_version u v ≡ true → u ≡ v
same_eq u v e = go (below u v) refl (below v u) refl (not-true (below u v || below v u) e)
  where
    go : (a : Bool) → below u v ≡ a → (b : Bool) → below v u ≡ b → (a || b) ≡ false → u ≡ v
    go true p b q h = absurd (true≢false h)
    go false p true q h = absurd (true≢false h)
    go false p false q h = neither_below u v p q

pub eq_same : (u v : Version) → u ≡ v → same_version u v ≡ true
eq_same u v e = rw e (simp (not_below_self v))
