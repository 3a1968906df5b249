-- Tests: one that antt computes at each number below n, and what it tells; both halves of a conjunction; what a test chooses.
use Rattle.std.proofs.Common.{◌≡◌, ℕ, zero, suc, ◌<◌, Bool, true, false, cond, ◌&&◌, T, sym, refl, ap, subst, arith}
use mathlib.Core.Bool.{false≢true}
use native.Mathlib.Decide.{ℕ_discrete}

abbrev pub both : Bool → Bool → Bool
both true b = b
both false b = false

both_left : (a b : Bool) → T (both a b) → T a
both_left true b t = tt
both_left false b t = t

both_right : (a b : Bool) → T (both a b) → T b
both_right true b t = t
both_right false b t = absurd t

abbrev pub all_below : ℕ → (ℕ → Bool) → Bool
all_below zero f = true
all_below (suc n) f = both (f n) (all_below n f)

pub each_below : (n : ℕ) (f : ℕ → Bool) → T (all_below n f) → (i : ℕ) → i < n → T (f i)
each_below zero f t i h = absurd (omega arith)
each_below (suc n) f t i h = go (each_below n f (both_right (f n) (all_below n f) t) i) (ℕ_discrete i n)
  where
    go : (i < n → T (f i)) → Dec (i ≡ n) → T (f i)
    go below (yes e) = subst (λ (m : ℕ). T (f m)) (sym e) (both_left (f n) (all_below n f) t)
    go below (no e) = below (omega arith)

pub and-true : (a b : Bool) → (a && b) ≡ true → (a ≡ true) × (b ≡ true)
and-true true b h = (refl, h)
and-true false b h = absurd (false≢true h)

pub chosen_yes : {A : Type 0} (b : Bool) (x y : A) → b ≡ true → x ≡ cond b x y
chosen_yes b x y e = ap (λ (c : Bool). cond c x y) (sym e)

pub chosen_no : {A : Type 0} (b : Bool) (x y : A) → b ≡ false → y ≡ cond b x y
chosen_no b x y e = ap (λ (c : Bool). cond c x y) (sym e)

-- a function of the one chosen
pub chosen_of : {A B : Type 0} (f : A → B) (b : Bool) (x y : A) → cond b (f x) (f y) ≡ f (cond b x y)
chosen_of f true x y = refl
chosen_of f false x y = refl
