-- Laws of what is left after a reader.
use mathlib.Core.Path.{◌≡◌, refl, sym, ap, subst, ◌∙◌}
use mathlib.Core.Bool.{Bool, true, false, cond, ◌&&◌}
use mathlib.Core.List.{List, [], ◌∷◌}
use mathlib.Core.Option.{Option, some, none}
use Prim.Native.Nat.{ℕ, zero, suc, ◌+◌, ◌-◌, ◌*◌, ◌<◌, ◌≤◌}
use native.Mathlib.Nat.{suc-mul}
use native.Mathlib.Decide.{dec_le}
use native.Mathlib.Omega.{arith}
use borrow.Author.Tests.{le-leb, lt-leb}
use lib.Dec.{leb, eqb}
use lib.ListN.{length, take, drop, length-append, length-drop}
use lib.Seq.{drop-drop}
use Rattle.std.specs.Prelude.{Option as StdOption, Some, None}
use Rattle.coding.specs.Nodes.{all}
use Rattle.coding.specs.Bytes.{Bytes}
use Rattle.coding.proofs.PageLaws.{none≢some, some_eq}
use Rattle.parties.specs.protocol.Format.{Read, Reader, bind, check, both, given, mapped, chain, read_byte, read_number, read_many, read_bytes, read_zeros, read_area}
use Rattle.parties.proofs.protocol.formats.FormatLaws.{Format}
use Rattle.parties.specs.records.Form.{rest, told, Within, Formed, holds}

-- what a form test tells
pub record Goes (t : List ℕ) (at next : ℕ) (o : Option (List ℕ)) : Type 0 where
  pub left : o ≡ some (drop next t)
  pub from : at ≤ next
  pub to : next ≤ length t

pub formed_sound : (t : List ℕ) (at next : ℕ) (left : Option (List ℕ)) (r : StdOption ℕ) → Formed t at left r → r ≡ Some next → Goes t at next left
formed_sound t at next left r f e =
    let w : Within at (length t) (Some next) = subst (Within at (length t)) e f.within in
    record { left = sym f.told ∙ ap (told t) e; from = w.0; to = w.1 }

pub formed_broken : (t : List ℕ) (at : ℕ) (left : Option (List ℕ)) (r : StdOption ℕ) → Formed t at left r → r ≡ None → left ≡ none
formed_broken t at left r f e = sym f.told ∙ ap (told t) e

-- what a test that breaks off tells
pub formed_none : (t : List ℕ) (at : ℕ) (left : Option (List ℕ)) (r : StdOption ℕ) → r ≡ None → left ≡ none → Formed t at left r
formed_none t at left r e f = subst (Formed t at left) (sym e) (record { told = sym f; within = tt })

-- the value goes with what is left
pub left_read : {A : Type 0} (o : Option (Read A)) (u : List ℕ) → rest o ≡ some u → (r : Read A) × (o ≡ some r) × (r.rest ≡ u)
left_read none u e = absurd (none≢some e)
left_read (some r) u e = (r, refl, some_eq e)

pub none_read : {A : Type 0} (o : Option (Read A)) → rest o ≡ none → o ≡ none
none_read none e = refl
none_read (some r) e = absurd (none≢some (sym e))

-- a value that is tested
pub rest-check : {A : Type 0} (b : Bool) (a : A) (t : List ℕ) → rest (check b a t) ≡ cond b (some t) none
rest-check true a t = refl
rest-check false a t = refl

-- a value that is given only if it passes
module _ {A : Type 0} (p : A → Bool) (r : Reader A) (u : List ℕ) where
  pub given-held : (v : List ℕ) → rest (given p r u) ≡ some v → (rest (r u) ≡ some v) × (true ≡ holds p (r u))
  given-held v = go (r u)
    where
      tested : (b : Bool) (x : Read A) → rest (check b x.value x.rest) ≡ some v → (some x.rest ≡ some v) × (true ≡ b)
      tested true x h = (h, refl)
      tested false x h = absurd (none≢some h)

      go : (o : Option (Read A)) → rest (bind o (λ a t. check (p a) a t)) ≡ some v → (rest o ≡ some v) × (true ≡ holds p o)
      go none h = absurd (none≢some h)
      go (some x) h = tested (p x.value) x h

  pub given_unheld : rest (given p r u) ≡ none → false ≡ holds p (r u)
  given_unheld = go (r u)
    where
      tested : (b : Bool) (x : Read A) → rest (check b x.value x.rest) ≡ none → false ≡ b
      tested true x h = absurd (none≢some (sym h))
      tested false x h = refl

      go : (o : Option (Read A)) → rest (bind o (λ a t. check (p a) a t)) ≡ none → false ≡ holds p o
      go none h = refl
      go (some x) h = tested (p x.value) x h

-- two tests are one
pub given_both : {A : Type 0} (p q : A → Bool) (r : Reader A) (u : List ℕ) → given q (given p r) u ≡ given (λ a. p a && q a) r u
given_both {A} p q r u = go (r u)
  where
    tested : (b : Bool) (x : Read A)
        → bind (check b x.value x.rest) (λ a t. check (q a) a t) ≡ check (b && q x.value) x.value x.rest
    tested true x = refl
    tested false x = refl

    go : (o : Option (Read A)) → bind (bind o (λ a t. check (p a) a t)) (λ a t. check (q a) a t) ≡ bind o (λ a t. check (p a && q a) a t)
    go none = refl
    go (some x) = tested (p x.value) x

pub none_either : (b : Bool) → ◌≡◌ {A = Option (List ℕ)} none (cond b none none)
none_either true = refl
none_either false = refl

-- a value made of another leaves the same
pub rest_make : {A B : Type 0} (f : A → B) (o : Option (Read A)) → rest (bind o (λ a t. some (record { value = f a; rest = t }))) ≡ rest o
rest_make f none = refl
rest_make f (some r) = refl

pub rest-mapped : {A B : Type 0} (f : A → B) (r : Reader A) (s : List ℕ) → rest (mapped f r s) ≡ rest (r s)
rest-mapped f r s = rest_make f (r s)

pub rest_both : {A B C : Type 0} (ra : Reader A) (rb : Reader B) (make : A → B → C) (s : List ℕ)
    → rest (both ra (λ a. rb) make s) ≡ chain (rest (ra s)) (λ u. rest (rb u))
rest_both {A} {B} {C} ra rb make s = go (ra s)
  where
    go : (o : Option (Read A)) → rest (bind o (λ a t. bind (rb t) (λ b u. some (record { value = make a b; rest = u })))) ≡ chain (rest o) (λ u. rest (rb u))
    go none = refl
    go (some a) = rest_make (make a.value) (rb a.rest)

pub rest-many-none : {A : Type 0} (r : Reader A) (s : List ℕ) → rest (read_many r 0 s) ≡ some s
unfolding read_many
rest-many-none r s = refl

pub rest-many : {A : Type 0} (r : Reader A) (n : ℕ) (s : List ℕ) → rest (read_many r (suc n) s) ≡ chain (rest (r s)) (λ u. rest (read_many r n u))
unfolding read_many
rest-many r n s = rest_both r (read_many r n) (λ a l. a ∷ l) s

-- one turn of a loop over n values, of which i are read; a value that breaks its form; the end
module _ {A : Type 0} (r : Reader A) (n i : ℕ) (u : List ℕ) where
  pub many_turn : i < n → (v : List ℕ) → rest (r u) ≡ some v → rest (read_many r (n - i) u) ≡ rest (read_many r (n - (i + 1)) v)
  many_turn h v e =
      let d : n - i ≡ suc (n - (i + 1)) = omega arith in
      rw d (rest-many r (n - (i + 1)) u ∙ ap (λ (o : Option (List ℕ)). chain o (λ u. rest (read_many r (n - (i + 1)) u))) e)

  pub many-broken : i < n → rest (r u) ≡ none → rest (read_many r (n - i) u) ≡ none
  many-broken h e =
      let d : n - i ≡ suc (n - (i + 1)) = omega arith in
      rw d (rest-many r (n - (i + 1)) u ∙ ap (λ (o : Option (List ℕ)). chain o (λ u. rest (read_many r (n - (i + 1)) u))) e)

  pub many_end : n ≤ i → rest (read_many r (n - i) u) ≡ some u
  many_end h = let d : n - i ≡ 0 = omega arith in rw d (rest-many-none r u)

-- ---- readers of a fixed number of bytes

abbrev pub Fixed : {A : Type 0} → ℕ → Reader A → Type 0
Fixed w r = (u : List ℕ) → rest (r u) ≡ cond (leb w (length u)) (some (drop w u)) none

module _ {A : Type 0} (w : ℕ) (r : Reader A) (f : Fixed w r) (u : List ℕ) where
  pub fixed_fits : w ≤ length u → rest (r u) ≡ some (drop w u)
  fixed_fits h = f u ∙ simp (le-leb w (length u) h)

  pub fixed_short : length u < w → rest (r u) ≡ none
  fixed_short h = f u ∙ simp (lt-leb w (length u) h)

pub fixed_nothing : {A : Type 0} (a : A) → Fixed 0 (λ s. some (record { value = a; rest = s }))
fixed_nothing a u = simp (le-leb 0 (length u) (omega arith))

pub fixed_bytes : (n : ℕ) → Fixed n (read_bytes n)
unfolding read_bytes
fixed_bytes n u = go (leb n (length u))
  where
    go : (b : Bool) → rest (cond b (some (record { value = take n u; rest = drop n u })) none) ≡ cond b (some (drop n u)) none
    go true = refl
    go false = refl

module _ {A B C : Type 0} (a b : ℕ) (ra : Reader A) (rb : Reader B) (make : A → B → C) (fa : Fixed a ra) (fb : Fixed b rb) where
  pub fixed_then : Fixed (a + b) (both ra (λ x. rb) make)
  fixed_then u = rest_both ra rb make u ∙ go (dec_le a (length u)) (dec_le (a + b) (length u))
    where
      go : Dec (a ≤ length u) → Dec (a + b ≤ length u) → chain (rest (ra u)) (λ v. rest (rb v)) ≡ cond (leb (a + b) (length u)) (some (drop (a + b) u)) none
      go (yes h) (yes k) =
          let l : b ≤ length (drop a u) = rw length-drop (omega arith) in
          simp (le-leb (a + b) (length u) k) (rw (fixed_fits a ra fa u h) (fixed_fits b rb fb (drop a u) l ∙ ap some (drop-drop b a u)))
      go (yes h) (no k) =
          let l : length (drop a u) < b = rw length-drop (omega arith) in
          simp (lt-leb (a + b) (length u) (omega arith)) (rw (fixed_fits a ra fa u h) (fixed_short b rb fb (drop a u) l))
      go (no h) (yes k) = absurd (omega arith)
      go (no h) (no k) =
          simp (lt-leb (a + b) (length u) (omega arith)) (rw (fixed_short a ra fa u (omega arith)) refl)

fixed_byte : Fixed 1 read_byte
fixed_byte [] = refl
fixed_byte (x ∷ u) = simp (le-leb 1 (length (x ∷ u)) (omega arith))

pub fixed_number : (w : ℕ) → Fixed w (read_number w)
unfolding read_number
fixed_number zero u = fixed_nothing {A = ℕ} 0 u
fixed_number (suc w) u =
    let e : w + 1 ≡ suc w = omega arith in rw (← e) (fixed_then w 1 (read_number w) read_byte (λ n b. n * 256 + b) (fixed_number w) fixed_byte u)

pub fixed_mapped : {A B : Type 0} (w : ℕ) (f : A → B) (r : Reader A) → Fixed w r → Fixed w (mapped f r)
fixed_mapped w f r h u = rest-mapped f r u ∙ h u

pub fixed_many : {A : Type 0} (w : ℕ) (r : Reader A) → Fixed w r → (n : ℕ) → Fixed (n * w) (read_many r n)
unfolding read_many
fixed_many {A} w r f zero u = let e : 0 * w ≡ 0 = omega arith in rw e (fixed_nothing {A = List A} [] u)
fixed_many w r f (suc n) u =
    let e : w + n * w ≡ suc n * w = omega (arith, suc-mul n w) in rw (← e) (fixed_then w (n * w) r (read_many r n) (λ a l. a ∷ l) f (fixed_many w r f n) u)

-- ---- zeros, and areas

pub rest_zeros : (n : ℕ) (u : List ℕ) → n ≤ length u → rest (read_zeros n u) ≡ cond (all (λ b. eqb b 0) (take n u)) (some (drop n u)) none
unfolding read_zeros read_bytes
rest_zeros n u h = simp (le-leb n (length u) h) (go (all (λ b. eqb b 0) (take n u)))
  where
    go : (b : Bool) → rest {A = Unit {0}} (bind (check b (take n u) (drop n u)) (λ z t. some (record { value = tt; rest = t }))) ≡ cond b (some (drop n u)) none
    go true = refl
    go false = refl

module _ {A : Type 0} (n : ℕ) (r : Reader A) (w : A → List ℕ) (g : A → Type 0) (f : Format A r w g)
    (fits : (a : A) → g a → length (w a) ≤ n) (u : List ℕ) (b : Bytes u) where
  pub rest_area : (v : List ℕ) → rest (r u) ≡ some v → rest (read_area n r w u) ≡ rest (read_zeros (n - (length u - length v)) v)
  unfolding read_area
  rest_area v e =
      let x = left_read (r u) v e in
      let o = f.only u x.0 b x.1 in
      let h : length (w x.0.value) ≤ n = fits x.0.value o.0 in
      let l : length (w x.0.value) ≡ length u - length v =
      omega (arith, ap length o.1, length-append (w x.0.value) x.0.rest, ap length x.2)
      in
      rw x.1
      (go x.0 h (read_zeros (n - length (w x.0.value)) x.0.rest)
      ∙ ap (λ (k : ℕ). rest (read_zeros (n - k) x.0.rest)) l
      ∙ ap (λ (z : List ℕ). rest (read_zeros (n - (length u - length v)) z)) x.2)
    where
      go : (x : Read A) → length (w x.value) ≤ n → (o : Option (Read (Unit {0})))
          → rest (bind (bind o (λ z t. some (record { value = x.value; rest = t }))) (λ a t. check (leb (length (w a)) n) a t)) ≡ rest o
      go x h none = refl
      go x h (some y) = simp (le-leb (length (w x.value)) n h)

  pub none_area : rest (r u) ≡ none → rest (read_area n r w u) ≡ none
  unfolding read_area
  none_area e = rw (none_read (r u) e) refl
