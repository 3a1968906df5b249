-- What is known of the past stays known: when a version is drawn, and when its pointer is formed.
use mathlib.Core.Path.{◌≡◌, refl, sym, ap, ◌∙◌}
use mathlib.Core.Bool.{true, false, true≢false}
use mathlib.Core.Logic.{◌⊎◌, inl, inr}
use mathlib.Core.List.{List}
use Prim.Native.Nat.{ℕ, ◌%◌, ◌≤◌, ◌<◌}
use native.Mathlib.Omega.{arith}
use borrow.Author.Tests.{ne_eqb}
use lib.Dec.{ltb, eqb}
use Rattle.parties.specs.declared.Measures.{Measures}
use Rattle.parties.specs.declared.Version.{Version}
use Rattle.parties.specs.protocol.Pointer.{Pointer, none_pointer}
use Rattle.parties.specs.protocol.Deposit.{pointer_of}
use Rattle.parties.proofs.protocol.model.Cells.{by_eq, is_false, chosen}
use Rattle.parties.proofs.protocol.formats.MeasureLaws.{Passed}
use Rattle.parties.proofs.protocol.model.Model.{num, ver, Rows, Turn, Past, Model, offer, drawn_by, pointed_by, pointed, Above, last}
use Rattle.parties.proofs.protocol.invariants.Invariants.{Known, KnownVersion, KnownRows, Owned, Drawing}
use Rattle.parties.proofs.protocol.model.VersionNumbers.{num_client}

-- a client's number fits a byte
pub client-fits : (z : Measures) (w : ℕ) → Passed z → w < z.m → w < 256
client-fits z w ok l = omega (arith, ok.clients.1)

-- a version drawn stays drawn with its page, and its pointer stays once it is formed
pub record Later (p q : Past) : Type 0 where
  pub drawn : (v : ℕ) → p.drawn v ≡ true → q.drawn v ≡ true
  pub pages : (v : ℕ) → p.drawn v ≡ true → q.pages v ≡ p.pages v
  pub pointers : (v : ℕ) → p.drawn v ≡ true → (p.pointers v ≡ none_pointer) ⊎ (q.pointers v ≡ p.pointers v)

-- of client w no pointer is formed either
abbrev pub Stays : Past → Past → ℕ → Type 0
Stays p q w = (v : ℕ) → v % 256 ≡ w → p.drawn v ≡ true → q.pointers v ≡ p.pointers v

-- nothing is drawn or formed, at most an operation begins
pub later_same : (p : Past) {f : ℕ → ℕ → ℕ}
    → Later p (record { drawn = p.drawn; pages = p.pages; deposits = p.deposits; pointers = p.pointers; shown = f })
later_same p = record { drawn = λ v d. d; pages = λ v d. refl; pointers = λ v d. inr refl }

-- a version is drawn that was not
module _ (p : Past) (u : ℕ) (bytes : List ℕ) (o : ℕ) (fresh : p.drawn u ≡ false) where
  other : (v : ℕ) → p.drawn v ≡ true → eqb v u ≡ false
  other v d = ne_eqb v u (λ e. true≢false (sym d ∙ ap p.drawn e ∙ fresh))

  pub drawn_stays : (v : ℕ) → p.drawn v ≡ true → (drawn_by p u bytes o).pointers v ≡ p.pointers v
  drawn_stays v d = rw (other v d)

  pub drawn_later : Later p (drawn_by p u bytes o)
  drawn_later =
      record { drawn = λ v d. rw (other v d) d; pages = λ v d. rw (other v d); pointers = λ v d. inr (drawn_stays v d) }

pub pointed_version : (z : Measures) (v : Version) (bytes : List ℕ) (a : ℕ) → (pointed z v bytes a).version ≡ v
unfolding pointer_of
pointed_version z v bytes a = refl

-- a version gets its pointer that had none
pub pointed_stays : (p : Past) (u : ℕ) (x : Pointer) (v : ℕ) → (v ≡ u → ⊥) → (pointed_by p u x).pointers v ≡ p.pointers v
pointed_stays p u x v d = rw (ne_eqb v u d)

pub pointed_later : (p : Past) (u : ℕ) (x : Pointer) → p.pointers u ≡ none_pointer → Later p (pointed_by p u x)
pointed_later p u x e =
    record {
      drawn = λ v d. d;
      pages = λ v d. refl;
      pointers = λ v d. by_eq v u (λ f g. inl (ap p.pointers g ∙ e)) (λ f g. inr (pointed_stays p u x v g));
    }

-- ---- known pointers and versions

-- a pointer formed is not none
pub some_formed : (p : Past) (x : Pointer) → p.pointers (ver x) ≡ x → 256 ≤ ver x → p.pointers (ver x) ≡ none_pointer → ⊥
some_formed p x e h n = let q : ver x ≡ 255 = ap ver (sym e ∙ n) in omega arith

-- and stays the version's
pub formed_kept : (p q : Past) (x : Pointer) → Later p q → p.drawn (ver x) ≡ true → p.pointers (ver x) ≡ x → 256 ≤ ver x
    → q.pointers (ver x) ≡ x
formed_kept p q x g d e h = go (g.pointers (ver x) d)
  where
    go : (p.pointers (ver x) ≡ none_pointer) ⊎ (q.pointers (ver x) ≡ p.pointers (ver x)) → q.pointers (ver x) ≡ x
    go (inl n) = absurd (some_formed p x e h n)
    go (inr s) = s ∙ e

pub known_kept : (p q : Past) (w : ℕ) (x : Pointer) → Later p q → Known p w x → Known q w x
known_kept p q w x g (Known.absent e) = Known.absent e
known_kept p q w x g (Known.formed d e c h) = Known.formed (g.drawn (ver x) d) (formed_kept p q x g d e h) c h

pub rows-kept : (z : Measures) (p q : Past) (a : Rows) → Later p q → KnownRows z p a → KnownRows z q a
rows-kept z p q a g h w l = (known_kept p q w (a.written w) g (h w l).0, λ c. known_kept p q w (a.frozen w c) g ((h w l).1 c))

-- what known rows offer a reader
pub known_offer : (z : Measures) (p : Past) (a : Rows) → KnownRows z p a → (c r w : ℕ) → w < z.m → Known p w (offer a c r w)
known_offer z p a h c r w l = chosen (Known p w) (ltb (a.indices w c) r) (a.written w) (a.frozen w c) (h w l).0 ((h w l).1 c)

pub version-kept : (p q : Past) (w : ℕ) (v : Version) → Later p q → KnownVersion p w v → KnownVersion q w v
version-kept p q w v g (KnownVersion.absent e) = KnownVersion.absent e
version-kept p q w v g (KnownVersion.drawn d c h) = KnownVersion.drawn (g.drawn (num v) d) c h

-- the version of a known pointer is known
pub pointer-version : (p : Past) (w : ℕ) (x : Pointer) → Known p w x → KnownVersion p w x.version
pointer-version p w x (Known.absent e) = KnownVersion.absent (ap (λ (y : Pointer). y.version) e)
pointer-version p w x (Known.formed d e c h) = KnownVersion.drawn d c h

-- ---- the version that a deposit draws

-- a known pointer whose sequence is below a version's is below it
known_less : (p : Past) (w : ℕ) (x : Pointer) (v : Version) → w < 256 → Known p w x → x.version.sequence.0 < v.sequence.0 → ver x < num v
known_less p w x v l (Known.absent e) h = let z : ver x ≡ 255 = ap ver e in omega arith
known_less p w x v l (Known.formed d e c n) h = omega arith

-- it is above the one written before, and drawn for the first time
pub draw-fresh : (z : Measures) (s : Model) (c : ℕ) (bytes : List ℕ) (a : Rows) (v : Version)
    → Passed z → Owned z s → Drawing z s → c < z.m → s.c.turn c ≡ Turn.scanned bytes a → v.client ≡ c → Above z a v.sequence.0
    → (ver (s.c.written c) < num v) × (s.p.drawn (num v) ≡ false)
draw-fresh z s c bytes a v ok o dr l e ec ab =
    let own = rw e at (o.own c l) in
    let b = client-fits z c ok l in
    let h : (s.c.written c).version.sequence.0 < v.sequence.0 = rw own.2 at (ab c l) in
    let less : ver (s.c.written c) < num v = known_less s.p c (s.c.written c) v b (o.written c l) h in
    (less, is_false (s.p.drawn (num v)) (undrawn b less))
  where
    undrawn : c < 256 → ver (s.c.written c) < num v → s.p.drawn (num v) ≡ true → ⊥
    undrawn b less d =
        let y : num v ≤ last s.c (num v % 256) = (dr (num v) d).before in
        let q : num v % 256 ≡ c = num_client v (omega arith) ∙ ec in
        let x : num v ≤ ver (s.c.written c) = rw e at (rw q at y) in
        omega arith
