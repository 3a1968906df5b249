-- What a node holds of a client's versions, along the messages under way to it.
use mathlib.Core.Path.{◌≡◌, refl, sym, ap, ◌∙◌}
use mathlib.Core.Bool.{Bool, true, false, cond, not, ◌&&◌, ◌||◌, true≢false, and-true, and-false}
use mathlib.Core.List.{List, [], ◌∷◌, ◌++◌}
use Prim.Native.Nat.{ℕ, zero, suc, ◌+◌, ◌*◌, ◌≤◌, ◌<◌}
use native.Mathlib.Decide.{ℕ_discrete}
use native.Mathlib.Omega.{arith}
use borrow.Author.Tests.{ne_eqb}
use lib.Dec.{eqb}
use lib.ListN.{length}
use Rattle.parties.specs.declared.Measures.{Measures}
use Rattle.parties.specs.declared.Version.{Version}
use Rattle.parties.specs.protocol.NodeTable.{Held, in_order}
use Rattle.parties.specs.protocol.Node.{keep, release, listed}
use Rattle.parties.specs.protocol.NodeEvents.{is_held}
use Rattle.parties.specs.protocol.Message.{ToNode}
use Rattle.parties.specs.protocol.Reading.{same_version}
use Rattle.parties.proofs.protocol.model.Cells.{by_eq}
use Rattle.parties.proofs.protocol.formats.MeasureLaws.{Passed}
use Rattle.parties.proofs.protocol.formats.VersionLaws.{same_eq, eq_same}
use Rattle.parties.proofs.protocol.events.NodeLaws.{hand-kept, hand-other, hand_released, hand_left}
use Rattle.parties.proofs.protocol.model.Model.{Turn, Clients, Past, Model}
use Rattle.parties.specs.protocol.Claim.{Member}
use Rattle.parties.proofs.protocol.invariants.Invariants.{Owned, Depositing, Keeps, Bounded, Plays, Sound, effect, holding}
use Rattle.parties.proofs.protocol.model.MemberLaws.{member_first}

-- ---- a node's table

-- what a node holds after a message, by the version
pub holding_kept : (h : Held) (l : List Held) → in_order l ≡ true → (u : Version) → holding (keep h l) u ≡ (same_version u h.version || holding l u)
holding_kept h l o u = go (same_version u h.version) refl
  where
    go : (b : Bool) → same_version u h.version ≡ b → holding (keep h l) u ≡ (b || holding l u)
    go true p = rw (same_eq u h.version p) (ap is_held (hand-kept h l))
    go false p = ap is_held (hand-other u h l o (λ e. true≢false (sym (eq_same u h.version e) ∙ p)))

pub holding_released : (vs : List Version) (l : List Held) → in_order l ≡ true → (u : Version) → holding (release vs l) u ≡ (holding l u && not (listed u vs))
holding_released vs l o u = go (listed u vs) refl
  where
    go : (b : Bool) → listed u vs ≡ b → holding (release vs l) u ≡ (holding l u && not b)
    go true p = ap is_held (hand_released vs u l o p) ∙ sym (and-false (holding l u))
    go false p = ap is_held (hand_left vs u l o p) ∙ sym (and-true (holding l u))

-- a message goes by what is held of a version alone
effect_ext : (m : ToNode) (f g : Version → Bool) (u : Version) → f u ≡ g u → effect m f u ≡ effect m g u
effect_ext (ToNode.store v x) f g u e = ap (λ (b : Bool). same_version u v || b) e
effect_ext (ToNode.request v) f g u e = e
effect_ext (ToNode.free l) f g u e = ap (λ (b : Bool). b && not (listed u l)) e

-- a client's message does nothing to another client's versions
pub effect_other : (z : Measures) (p : Past) (c i : ℕ) (m : ToNode) → Sound z p c i m
    → (f : Version → Bool) (u : Version) → (u.client ≡ c → ⊥) → effect m f u ≡ f u
effect_other z p c i (ToNode.store v x) d f u n = go (same_version u v) refl
  where
    go : (b : Bool) → same_version u v ≡ b → (b || f u) ≡ f u
    go true e = absurd (n (ap (λ (w : Version). w.client) (same_eq u v e) ∙ d.2))
    go false e = refl
effect_other z p c i (ToNode.request v) d f u n = refl
effect_other z p c i (ToNode.free l) d f u n = go (listed u l) refl
  where
    go : (b : Bool) → listed u l ≡ b → (f u && not b) ≡ f u
    go true e = absurd (n (d u e))
    go false e = and-true (f u)

-- ---- what a client keeps

-- two clients' records keep the same
abbrev pub Alike : Measures → Clients → Clients → ℕ → Type 0
Alike z k k' w = (u : Version) → (Keeps z k w u → Keeps z k' w u) × (Keeps z k' w u → Keeps z k w u)

-- records that agree but for the turn, whose drawn version passes over
pub keeps_as : (z : Measures) (k k' : Clients) (w : ℕ) (u : Version) → (Depositing (k.turn w) u → Keeps z k' w u)
    → k.written w ≡ k'.written w → k.frozen w ≡ k'.frozen w → k.reserved w ≡ k'.reserved w → Keeps z k w u → Keeps z k' w u
keeps_as z k k' w u t a b c (Keeps.current h) = t h
keeps_as z k k' w u t a b c (Keeps.written h) = Keeps.written (rw a at h)
keeps_as z k k' w u t a b c (Keeps.frozen q l h) = Keeps.frozen q l (rw b at h)
keeps_as z k k' w u t a b c (Keeps.reserved q l h) = Keeps.reserved q l (rw c at h)

-- ---- along a queue

-- by the versions of the client alone, and by what it keeps
pub plays_ext : (z : Measures) (k k' : Clients) (w : ℕ) → Alike z k k' w → (f g : Version → Bool) → ((u : Version) → u.client ≡ w → f u ≡ g u)
    → (q : List ToNode) → Plays z k w f q → Plays z k' w g q
plays_ext z k k' w a f g e [] p =
    (λ u c h. (a u).0 (p.0 u c (e u c ∙ h)), λ u c h. sym (e u c) ∙ p.1 u c ((a u).1 h))
plays_ext z k k' w a f g e (m ∷ q) p = (
  record { versions = p.0.versions; few = p.0.few; all = λ u c h. p.0.all u c (e u c ∙ h) },
  plays_ext z k k' w a (effect m f) (effect m g) (λ u c. effect_ext m f g u (e u c)) q p.1,
)

pub plays_alike : (z : Measures) (k k' : Clients) (w : ℕ) → Alike z k k' w → (f : Version → Bool) (q : List ToNode) → Plays z k w f q → Plays z k' w f q
plays_alike z k k' w a f = plays_ext z k k' w a f f (λ u c. refl)

-- what is sent stands last
pub plays_append : (z : Measures) (k k' : Clients) (w : ℕ) (ms : List ToNode) → ((f : Version → Bool) → Plays z k w f [] → Plays z k' w f ms)
    → (f : Version → Bool) (q : List ToNode) → Plays z k w f q → Plays z k' w f (q ++ ms)
plays_append z k k' w ms h f [] p = h f p
plays_append z k k' w ms h f (m ∷ q) p = (p.0, plays_append z k k' w ms h (effect m f) q p.1)

-- ---- at most 2m versions

-- what is frozen and reserved for the other clients below n
spare : Clients → ℕ → ℕ → List Version
spare k w zero = []
spare k w (suc n) = cond (eqb n w) (spare k w n) ((k.frozen w n).version ∷ k.reserved w n ∷ spare k w n)

spare_length : (k : Clients) (w n : ℕ) → (length (spare k w n) ≤ 2 * n) × (w < n → length (spare k w n) + 2 ≤ 2 * n)
unfolding spare
spare_length k w zero = (omega arith, λ h. absurd (omega arith))
spare_length k w (suc n) = go (spare_length k w n)
  where
    go : (length (spare k w n) ≤ 2 * n) × (w < n → length (spare k w n) + 2 ≤ 2 * n)
        → (length (spare k w (suc n)) ≤ 2 * suc n) × (w < suc n → length (spare k w (suc n)) + 2 ≤ 2 * suc n)
    go ih =
        by_eq n w (λ f g. rw f (omega (arith, ih.0), λ h. omega (arith, ih.0)))
        (λ f g. rw f (omega (arith, ih.0), λ h. let b : w < n = omega arith in omega (arith, ih.1 b)))

spare_all : (k : Clients) (w q n : ℕ) → q < n → (q ≡ w → ⊥) → Member (k.frozen w q).version (spare k w n) × Member (k.reserved w q) (spare k w n)
unfolding spare
spare_all k w q zero h d = absurd (omega arith)
spare_all k w q (suc n) h d = go (spare_all k w q n) (ℕ_discrete q n)
  where
    go : (q < n → (q ≡ w → ⊥) → Member (k.frozen w q).version (spare k w n) × Member (k.reserved w q) (spare k w n)) → Dec (q ≡ n)
        → Member (k.frozen w q).version (spare k w (suc n)) × Member (k.reserved w q) (spare k w (suc n))
    go ih (yes e) = rw (ne_eqb n w (rw e at d), e) (Member.here _, Member.there _ _ (Member.here _))
    go ih (no e) =
        let m = ih (omega arith) d in
        by_eq n w (λ f g. rw f m) (λ f g. rw f (Member.there _ _ (Member.there _ _ m.0), Member.there _ _ (Member.there _ _ m.1)))

-- the version that a turn has drawn, if it has
current_one : (t : Turn) (d : Version) → (v : Version) × ((u : Version) → Depositing t u → v ≡ u)
current_one Turn.idle d = (d, λ u h. absurd h)
current_one (Turn.scanning bytes) d = (d, λ u h. absurd h)
current_one (Turn.scanned bytes a) d = (d, λ u h. absurd h)
current_one (Turn.storing v bytes a) d = (v, λ u h. h)
current_one (Turn.updating x) d = (x.version, λ u h. h)
current_one (Turn.updated x) d = (x.version, λ u h. h)
current_one (Turn.freezing x) d = (x.version, λ u h. h)
current_one (Turn.noticing x a) d = (x.version, λ u h. h)
current_one Turn.raising d = (d, λ u h. absurd h)
current_one Turn.raised d = (d, λ u h. absurd h)
current_one Turn.picking d = (d, λ u h. absurd h)
current_one (Turn.picked a) d = (d, λ u h. absurd h)
current_one (Turn.fetching p n m ps) d = (d, λ u h. absurd h)

-- a version of client w that it keeps is one of 2m
module _ (z : Measures) (s : Model) (pa : Passed z) (o : Owned z s) (w : ℕ) (l : w < z.m) where
  kept : List Version
  kept = (current_one (s.c.turn w) (s.c.written w).version).0 ∷ (s.c.written w).version ∷ spare s.c w z.m

  -- what it freezes and reserves for itself is none, of no client
  self_frozen : (q : ℕ) (u : Version) → u.client ≡ w → (s.c.frozen w q).version ≡ u → q ≡ w → ⊥
  self_frozen q u c h e =
      let x : u.client ≡ 255 = sym (ap (λ v. v.client) h) ∙ ap (λ n. (s.c.frozen w n).version.client) e ∙ ap (λ p. p.version.client) (o.self w l).0
      in omega arith

  self_reserved : (q : ℕ) (u : Version) → u.client ≡ w → s.c.reserved w q ≡ u → q ≡ w → ⊥
  self_reserved q u c h e =
      let x : u.client ≡ 255 = sym (ap (λ v. v.client) h) ∙ ap (λ n. (s.c.reserved w n).client) e ∙ ap (λ v. v.client) (o.self w l).1 in omega arith

  kept-all : (u : Version) → u.client ≡ w → Keeps z s.c w u → Member u kept
  unfolding kept
  kept-all u c (Keeps.current h) = member_first _ _ _ ((current_one (s.c.turn w) (s.c.written w).version).1 u h)
  kept-all u c (Keeps.written h) = Member.there _ _ (member_first _ _ _ h)
  kept-all u c (Keeps.frozen q i h) =
      Member.there _ _ (Member.there _ _ (rw h at (spare_all s.c w q z.m i (self_frozen q u c h)).0))
  kept-all u c (Keeps.reserved q i h) =
      Member.there _ _ (Member.there _ _ (rw h at (spare_all s.c w q z.m i (self_reserved q u c h)).1))

  pub plays_bounded : (f : Version → Bool) → Plays z s.c w f [] → Bounded z w f
  unfolding kept
  plays_bounded f p = record {
    versions = kept;
    few = omega (arith, (spare_length s.c w z.m).1 l);
    all = λ u c e. kept-all u c (p.0 u c e);
  }

  -- so are the versions that a node holds, whatever is under way to it
  pub plays_few : (f : Version → Bool) (q : List ToNode) → Plays z s.c w f q → Bounded z w f
  plays_few f [] p = plays_bounded f p
  plays_few f (m ∷ q) p = p.0
