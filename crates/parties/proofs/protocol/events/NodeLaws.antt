-- What a node's table shows after each step, and that it stays in order.
use mathlib.Core.Path.{◌≡◌, refl, sym, ap, ◌∙◌}
use mathlib.Core.Bool.{Bool, true, false, ◌&&◌, true≢false}
use mathlib.Core.List.{List, [], ◌∷◌, ◌++◌}
use mathlib.Core.Option.{some, none}
use Prim.Native.Nat.{ℕ, suc, ◌+◌, ◌≤◌, ◌^◌, ◌<◌}
use native.Mathlib.Omega.{arith}
use borrow.Author.Tests.{leb-true, le-leb}
use lib.ListN.{length, length-append}
use lib.Dec.{leb, ltb}
use Rattle.coding.proofs.Cases.{and-true}
use Rattle.parties.specs.declared.Measures.{Measures}
use Rattle.parties.specs.declared.Version.{Version}
use Rattle.parties.specs.protocol.Pointer.{write_version}
use Rattle.parties.specs.protocol.Format.{write_number}
use Rattle.parties.specs.protocol.Measures.{places, place_size}
use Rattle.parties.specs.protocol.Version.{below, ascending}
use Rattle.parties.specs.protocol.NodeTable.{Held, in_order, write_piece, write_held, read_table, write_table}
use Rattle.parties.specs.protocol.Node.{keep, hand_back, listed, release}
use Rattle.parties.proofs.protocol.formats.FormatLaws.{Each}
use Rattle.parties.proofs.protocol.formats.VersionLaws.{Below, below_true, true_below, below_trans, neither_below}
pub use Rattle.parties.proofs.protocol.formats.VersionLaws.{not_below_self, not_below_back}
use Rattle.parties.proofs.protocol.formats.PointerLaws.{length-number, length-version}
use Rattle.parties.proofs.protocol.formats.NodeTableLaws.{GoodHeld, FitsPlace, GoodTable, format_table}

-- a version is below the first one of a list
abbrev First : Version → List Held → Type 0
First v [] = Unit {0}
First v (x ∷ l) = Below v x.version

pub split-ascending : (x : Held) (l : List Held) → in_order (x ∷ l) ≡ true → First x.version l × (in_order l ≡ true)
unfolding ascending
split-ascending x [] e = (tt, refl)
split-ascending x (y ∷ l) e =
    let a = and-true (below x.version y.version) (in_order (y ∷ l)) e in (below_true x.version y.version a.0, a.1)

join-ascending : (x : Held) (l : List Held) → First x.version l → in_order l ≡ true → in_order (x ∷ l) ≡ true
unfolding ascending
join-ascending x [] f e = refl
join-ascending x (y ∷ l) f e = ap (λ (b : Bool). b && in_order (y ∷ l)) (true_below x.version y.version f) ∙ e

first_less : (v w : Version) (l : List Held) → Below v w → First w l → First v l
first_less v w [] h f = tt
first_less v w (x ∷ l) h f = below_trans v w x.version h f

-- how a version stands to another
data Order (a b : Version) : Type 0 where
  less : below a b ≡ true → Order a b
  more : below a b ≡ false → below b a ≡ true → Order a b
  same : below a b ≡ false → below b a ≡ false → Order a b

order : (a b : Version) → Order a b
order a b = go (below a b) refl (below b a) refl
  where
    go : (x : Bool) → below a b ≡ x → (y : Bool) → below b a ≡ y → Order a b
    go true p y q = less p
    go false p true q = more p q
    go false p false q = same p q

-- the three ways of a step at a place
module _ (h x : Held) (l : List Held) where
  keep_less : below h.version x.version ≡ true → keep h (x ∷ l) ≡ h ∷ x ∷ l
  unfolding keep
  keep_less p = simp p

  keep-more : below h.version x.version ≡ false → below x.version h.version ≡ true → keep h (x ∷ l) ≡ x ∷ keep h l
  unfolding keep
  keep-more p q = simp (p, q)

  keep_same : below h.version x.version ≡ false → below x.version h.version ≡ false → keep h (x ∷ l) ≡ h ∷ l
  unfolding keep
  keep_same p q = simp (p, q)

keep-first : (v : Version) (h : Held) (l : List Held) → Below v h.version → First v l → First v (keep h l)
unfolding keep
keep-first v h [] b f = b
keep-first v h (x ∷ l) b f = go (order h.version x.version)
  where
    go : Order h.version x.version → First v (keep h (x ∷ l))
    go (less p) = rw (keep_less h x l p) b
    go (more p q) = rw (keep-more h x l p q) f
    go (same p q) = rw (keep_same h x l p q) b

-- a table in order stays in order
pub keep-ascending : (h : Held) (l : List Held) → in_order l ≡ true → in_order (keep h l) ≡ true
unfolding keep ascending
keep-ascending h [] e = refl
keep-ascending h (x ∷ l) e = go (keep-ascending h l) (order h.version x.version)
  where
    go : (in_order l ≡ true → in_order (keep h l) ≡ true) → Order h.version x.version → in_order (keep h (x ∷ l)) ≡ true
    go ih (less p) = rw (keep_less h x l p) (join-ascending h (x ∷ l) (below_true h.version x.version p) e)
    go ih (more p q) =
        let a = split-ascending x l e in
        rw (keep-more h x l p q)
        (join-ascending x (keep h l) (keep-first x.version h l (below_true x.version h.version q) a.0) (ih a.1))
    go ih (same p q) =
        let a = split-ascending x l e in
        rw (keep_same h x l p q) (join-ascending h l (rw (neither_below h.version x.version p q) a.0) a.1)

pub keep-each : (g : Held → Type 0) (h : Held) (l : List Held) → g h → Each g l → Each g (keep h l)
unfolding keep
keep-each g h [] a b = (a, tt)
keep-each g h (x ∷ l) a b = go (keep-each g h l a b.1) (order h.version x.version)
  where
    go : Each g (keep h l) → Order h.version x.version → Each g (keep h (x ∷ l))
    go ih (less p) = rw (keep_less h x l p) (a, b)
    go ih (more p q) = rw (keep-more h x l p q) (b.0, ih)
    go ih (same p q) = rw (keep_same h x l p q) (a, b.1)

-- one place more at the most
pub keep-length : (h : Held) (l : List Held) → length (keep h l) ≤ length l + 1
unfolding keep
keep-length h [] = omega arith
keep-length h (x ∷ l) = go (keep-length h l) (order h.version x.version)
  where
    go : length (keep h l) ≤ length l + 1 → Order h.version x.version → length (keep h (x ∷ l)) ≤ suc (length l) + 1
    go ih (less p) = rw (keep_less h x l p) (omega arith)
    go ih (more p q) = rw (keep-more h x l p q) (omega arith)
    go ih (same p q) = rw (keep_same h x l p q) (omega arith)

module _ (v : Version) (x : Held) (l : List Held) where
  hand_less : below v x.version ≡ true → hand_back v (x ∷ l) ≡ none
  unfolding hand_back
  hand_less p = simp p

  pub hand-more : below v x.version ≡ false → below x.version v ≡ true → hand_back v (x ∷ l) ≡ hand_back v l
  unfolding hand_back
  hand-more p q = simp (p, q)

  pub hand-same : below v x.version ≡ false → below x.version v ≡ false → hand_back v (x ∷ l) ≡ some x.piece
  unfolding hand_back
  hand-same p q = simp (p, q)

-- what was stored is handed back
pub hand-kept : (h : Held) (l : List Held) → hand_back h.version (keep h l) ≡ some h.piece
unfolding keep
hand-kept h [] = hand-same h.version h [] (not_below_self h.version) (not_below_self h.version)
hand-kept h (x ∷ l) = go (hand-kept h l) (order h.version x.version)
  where
    own : (t : List Held) → hand_back h.version (h ∷ t) ≡ some h.piece
    own t = hand-same h.version h t (not_below_self h.version) (not_below_self h.version)

    go : hand_back h.version (keep h l) ≡ some h.piece → Order h.version x.version → hand_back h.version (keep h (x ∷ l)) ≡ some h.piece
    go ih (less p) = rw (keep_less h x l p) (own (x ∷ l))
    go ih (more p q) = rw (keep-more h x l p q) (hand-more h.version x (keep h l) p q ∙ ih)
    go ih (same p q) = rw (keep_same h x l p q) (own l)

-- below the first of a table, nothing is held
hand_first : (v : Version) (l : List Held) → First v l → hand_back v l ≡ none
unfolding hand_back
hand_first v [] f = refl
hand_first v (x ∷ l) f = hand_less v x l (true_below v x.version f)

-- another version's piece is handed back as before
pub hand-other : (v : Version) (h : Held) (l : List Held) → in_order l ≡ true → (v ≡ h.version → ⊥) → hand_back v (keep h l) ≡ hand_back v l
unfolding keep hand_back
hand-other v h [] e d = go (order v h.version)
  where
    go : Order v h.version → hand_back v (h ∷ []) ≡ none
    go (less p) = hand_less v h [] p
    go (more p q) = hand-more v h [] p q
    go (same p q) = absurd (d (neither_below v h.version p q))
hand-other v h (x ∷ l) e d = go (hand-other v h l (split-ascending x l e).1 d) (order h.version x.version) (order v h.version) (order v x.version)
  where
    go : hand_back v (keep h l) ≡ hand_back v l → Order h.version x.version → Order v h.version → Order v x.version
        → hand_back v (keep h (x ∷ l)) ≡ hand_back v (x ∷ l)
    go ih (less p) (less r) o =
        rw (keep_less h x l p)
        (hand_less v h (x ∷ l) r
        ∙ sym (hand_less v x l (true_below v x.version
        (below_trans v h.version x.version (below_true v h.version r) (below_true h.version x.version p)))))
    go ih (less p) (more r s) o = rw (keep_less h x l p) (hand-more v h (x ∷ l) r s)
    go ih (less p) (same r s) o = absurd (d (neither_below v h.version r s))
    go ih (more p q) k (less a) = rw (keep-more h x l p q) (hand_less v x (keep h l) a ∙ sym (hand_less v x l a))
    go ih (more p q) k (more a b) = rw (keep-more h x l p q) (hand-more v x (keep h l) a b ∙ ih ∙ sym (hand-more v x l a b))
    go ih (more p q) k (same a b) = rw (keep-more h x l p q) (hand-same v x (keep h l) a b ∙ sym (hand-same v x l a b))
    go ih (same p q) (less r) o =
        let z = neither_below h.version x.version p q in
        rw (keep_same h x l p q) (hand_less v h l r ∙ sym (hand_less v x l (sym (ap (below v) z) ∙ r)))
    go ih (same p q) (more r s) o =
        let z = neither_below h.version x.version p q in
        rw (keep_same h x l p q)
        (hand-more v h l r s ∙ sym (hand-more v x l (sym (ap (below v) z) ∙ r) (sym (ap (λ (w : Version). below w v) z) ∙ s)))
    go ih (same p q) (same r s) o = absurd (d (neither_below v h.version r s))

-- dropping
module _ (vs : List Version) (x : Held) (l : List Held) where
  release-listed : listed x.version vs ≡ true → release vs (x ∷ l) ≡ release vs l
  unfolding release
  release-listed p = simp p

  release-kept : listed x.version vs ≡ false → release vs (x ∷ l) ≡ x ∷ release vs l
  unfolding release
  release-kept p = simp p

release-first : (vs : List Version) (v : Version) (l : List Held) → First v l → in_order l ≡ true → First v (release vs l)
unfolding release
release-first vs v [] f e = tt
release-first vs v (x ∷ l) f e =
    let a = split-ascending x l e in
    go (release-first vs v l (first_less v x.version l f a.0) a.1) (listed x.version vs) refl
  where
    go : First v (release vs l) → (b : Bool) → listed x.version vs ≡ b → First v (release vs (x ∷ l))
    go ih true p = rw (release-listed vs x l p) ih
    go ih false p = rw (release-kept vs x l p) f

pub release-ascending : (vs : List Version) (l : List Held) → in_order l ≡ true → in_order (release vs l) ≡ true
unfolding release ascending
release-ascending vs [] e = refl
release-ascending vs (x ∷ l) e =
    let a = split-ascending x l e in go (release-ascending vs l a.1) a (listed x.version vs) refl
  where
    go : in_order (release vs l) ≡ true → First x.version l × (in_order l ≡ true) → (b : Bool) → listed x.version vs ≡ b
        → in_order (release vs (x ∷ l)) ≡ true
    go ih a true p = rw (release-listed vs x l p) ih
    go ih a false p = rw (release-kept vs x l p) (join-ascending x (release vs l) (release-first vs x.version l a.0 a.1) ih)

pub release-each : (g : Held → Type 0) (vs : List Version) (l : List Held) → Each g l → Each g (release vs l)
unfolding release
release-each g vs [] b = tt
release-each g vs (x ∷ l) b = go (release-each g vs l b.1) (listed x.version vs) refl
  where
    go : Each g (release vs l) → (t : Bool) → listed x.version vs ≡ t → Each g (release vs (x ∷ l))
    go ih true p = rw (release-listed vs x l p) ih
    go ih false p = rw (release-kept vs x l p) (b.0, ih)

pub release_length : (vs : List Version) (l : List Held) → length (release vs l) ≤ length l
unfolding release
release_length vs [] = omega arith
release_length vs (x ∷ l) = go (release_length vs l) (listed x.version vs) refl
  where
    go : length (release vs l) ≤ length l → (t : Bool) → listed x.version vs ≡ t → length (release vs (x ∷ l)) ≤ suc (length l)
    go ih true p = rw (release-listed vs x l p) (omega arith)
    go ih false p = rw (release-kept vs x l p) (omega arith)

-- a listed version is gone, every other is as it was
pub hand_released : (vs : List Version) (v : Version) (l : List Held) → in_order l ≡ true → listed v vs ≡ true → hand_back v (release vs l) ≡ none
unfolding release hand_back
hand_released vs v [] e p = refl
hand_released vs v (x ∷ l) e p =
    let a = split-ascending x l e in go (hand_released vs v l a.1 p) a (listed x.version vs) refl (order v x.version)
  where
    go : hand_back v (release vs l) ≡ none → First x.version l × (in_order l ≡ true) → (b : Bool) → listed x.version vs ≡ b → Order v x.version
        → hand_back v (release vs (x ∷ l)) ≡ none
    go ih a true q o = rw (release-listed vs x l q) ih
    go ih a false q (less r) = rw (release-kept vs x l q) (hand_less v x (release vs l) r)
    go ih a false q (more r s) = rw (release-kept vs x l q) (hand-more v x (release vs l) r s ∙ ih)
    go ih a false q (same r s) = absurd (true≢false (sym p ∙ ap (λ (w : Version). listed w vs) (neither_below v x.version r s) ∙ q))

pub hand_left : (vs : List Version) (v : Version) (l : List Held) → in_order l ≡ true → listed v vs ≡ false → hand_back v (release vs l) ≡ hand_back v l
unfolding release hand_back
hand_left vs v [] e p = refl
hand_left vs v (x ∷ l) e p =
    let a = split-ascending x l e in go (hand_left vs v l a.1 p) a (listed x.version vs) refl (order v x.version)
  where
    go : hand_back v (release vs l) ≡ hand_back v l → First x.version l × (in_order l ≡ true) → (b : Bool) → listed x.version vs ≡ b
        → Order v x.version → hand_back v (release vs (x ∷ l)) ≡ hand_back v (x ∷ l)
    go ih a true q (less r) =
        rw (release-listed vs x l q)
        (ih ∙ hand_first v l (first_less v x.version l (below_true v x.version r) a.0) ∙ sym (hand_less v x l r))
    go ih a true q (more r s) = rw (release-listed vs x l q) (ih ∙ sym (hand-more v x l r s))
    go ih a true q (same r s) = absurd (true≢false (sym q ∙ ap (λ (w : Version). listed w vs) (sym (neither_below v x.version r s)) ∙ p))
    go ih a false q (less r) = rw (release-kept vs x l q) (hand_less v x (release vs l) r ∙ sym (hand_less v x l r))
    go ih a false q (more r s) = rw (release-kept vs x l q) (hand-more v x (release vs l) r s ∙ ih ∙ sym (hand-more v x l r s))
    go ih a false q (same r s) = rw (release-kept vs x l q) (hand-same v x (release vs l) r s ∙ sym (hand-same v x l r s))

-- ---- tables

-- a piece that is proper fits its place
pub held_fits : (s : Measures) (h : Held) → GoodHeld s h → FitsPlace s h
unfolding write_held write_piece
held_fits s h g =
    let a = and-true (leb 1 h.version.sequence.0) _ g.1 in
    let b = and-true (ltb h.version.client s.m) _ a.1 in
    let c = and-true (leb 1 (length h.piece)) _ b.1 in
    let l : length h.piece ≤ s.f = leb-true (length h.piece) s.f c.1 in (
      (g, tt),
      le-leb (length (write_version h.version ++ (write_number 2 (length h.piece) ++ h.piece))) (place_size s)
          (omega (
            arith,
            length-append (write_version h.version) (write_number 2 (length h.piece) ++ h.piece),
            length-version h.version,
            length-append (write_number 2 (length h.piece)) h.piece,
            length-number 2 (length h.piece),
          )),
    )

-- the places of a table, however many
good_table : (s : Measures) (l : List Held) → Each (FitsPlace s) l → in_order l ≡ true → length l ≤ places s → places s < 256 ^ 2 → GoodTable s l
good_table s l e a n p = ((omega arith, le-leb (length l) (places s) n), (((e, refl), a), tt))

-- a table stays well formed: storing where there is room, dropping always
pub keep_good : (s : Measures) (h : Held) (l : List Held) → places s < 256 ^ 2 → GoodHeld s h → GoodTable s l → length (keep h l) ≤ places s
    → GoodTable s (keep h l)
keep_good s h l p g t n =
    good_table s (keep h l) (keep-each (FitsPlace s) h l (held_fits s h g) t.1.0.0.0) (keep-ascending h l t.1.0.1) n p

pub release_good : (s : Measures) (vs : List Version) (l : List Held) → places s < 256 ^ 2 → GoodTable s l → GoodTable s (release vs l)
release_good s vs l p t =
    good_table s (release vs l) (release-each (FitsPlace s) vs l t.1.0.0.0) (release-ascending vs l t.1.0.1)
    (omega (arith, release_length vs l, leb-true (length l) (places s) t.0.1)) p

pub empty_good : (s : Measures) → GoodTable s []
unfolding ascending
empty_good s = ((omega arith, le-leb 0 (places s) (omega arith)), (((tt, refl), refl), tt))

-- a fresh table shows no piece
pub fresh-table : (s : Measures) → places s < 256 ^ 2 → (rest : List ℕ) → read_table s (write_table s [] ++ rest) ≡ some (record { value = []; rest = rest })
fresh-table s p = (format_table s).back [] (empty_good s)
