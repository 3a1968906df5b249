-- Cases of a test, and of a function changed at one number or at two.
use mathlib.Core.Path.{◌≡◌, refl}
use mathlib.Core.Bool.{Bool, true, false, cond, ◌&&◌}
use Prim.Native.Nat.{ℕ}
use native.Mathlib.Decide.{ℕ_discrete}
use borrow.Author.Tests.{eq-eqb, ne_eqb}
use lib.Dec.{eqb}
use Rattle.parties.specs.protocol.Run.{upd, upd₂}

pub is_false : (b : Bool) → (b ≡ true → ⊥) → b ≡ false
is_false true n = absurd (n refl)
is_false false n = refl

-- of two tests the second tells nothing, or all
pub and_all : (a : Bool) → (a && true) ≡ a
and_all true = refl
and_all false = refl

pub and_none : (a : Bool) → (a && false) ≡ false
and_none true = refl
and_none false = refl

-- what holds of both holds of the one chosen
pub chosen : {A : Type 0} (P : A → Type 0) (b : Bool) (x y : A) → P x → P y → P (cond b x y)
chosen P true x y h k = h
chosen P false x y h k = k

-- two numbers are the same, or not
by_dec : {G : Type 0} {j c : ℕ} → Dec (j ≡ c) → (eqb j c ≡ true → j ≡ c → G) → (eqb j c ≡ false → (j ≡ c → ⊥) → G) → G
by_dec {j = j} {c = c} (yes e) y n = y (eq-eqb j c e) e
by_dec {j = j} {c = c} (no e) y n = n (ne_eqb j c e) e

pub by_eq : {G : Type 0} → (j c : ℕ) → (eqb j c ≡ true → j ≡ c → G) → (eqb j c ≡ false → (j ≡ c → ⊥) → G) → G
by_eq j c y n = by_dec (ℕ_discrete j c) y n

-- a function changed at a number to the value that it has there is the same
pub upd_same : {A : Type 0} (f : ℕ → A) (i : ℕ) (a : A) → a ≡ f i → upd f i a ≡ f
upd_same f i a e k j = by_eq {G = upd f i a j ≡ f j} j i (λ g q. rw g (rw q e)) (λ g q. rw g refl) k

-- a function changed at two numbers
pub by_two : {A : Type 0} (p : ℕ → ℕ → A → Type 0) (f : ℕ → ℕ → A) (i c : ℕ) (a : A) → p i c a → ((j w : ℕ) → p j w (f j w)) → (j w : ℕ)
    → p j w (upd₂ f i c a j w)
by_two p f i c a n o j w =
    by_eq j i (λ e g. by_eq w c (λ e' g'. simp (e, e') (rw g (rw g' n))) (λ e' g'. simp (e, e') (rw g (o i w)))) (λ e g. rw e (o j w))

pub two-same : {A : Type 0} (f : ℕ → ℕ → A) (i c : ℕ) (a : A) → upd₂ f i c a i c ≡ a
two-same f i c a = simp (eq-eqb i i refl, eq-eqb c c refl)
