-- Laws of formats: what is written reads back the same, and what reads is exactly what was written.
use mathlib.Core.Path.{◌≡◌, refl, sym, ap, ap₂, subst, ◌∙◌}
use mathlib.Core.Bool.{Bool, true, false, cond}
use mathlib.Core.List.{List, [], ◌∷◌, ◌++◌, append_assoc}
use mathlib.Core.Option.{Option, some, none}
use Prim.Native.Nat.{ℕ, zero, suc, ◌+◌, ◌-◌, ◌*◌, ◌/◌, ◌%◌, ◌^◌, ◌<◌, ◌≤◌}
use native.Mathlib.Nat.{div-lt_iff_lt-mul, div-add-mod', pow-suc, suc-mul}
use native.Mathlib.Omega.{arith}
use native.Mathlib.Decide.{dec_le}
use borrow.Author.Tests.{le-leb, lt-leb, eq-eqb, eqb-true}
use lib.Dec.{leb, eqb}
use lib.ListN.{length, get_or, take, drop, replicate, length-replicate, length-append, take-append-drop}
use lib.Seq.{take_at, drop_at, length-take-le, ext_get_or}
use Rattle.coding.specs.Nodes.{all}
use Rattle.coding.specs.Bytes.{Bytes}
use Rattle.coding.proofs.BytesLaws.{zeros_at}
use Rattle.coding.proofs.PageLaws.{none≢some, some_eq, all_at, all_from}
use Rattle.coding.proofs.PolynomialLaws.{bytes_take}
use Rattle.parties.specs.protocol.Format.{Read, Reader, bind, check, both, given, mapped, read_nothing, read_byte, read_number, write_number}
use Rattle.parties.specs.protocol.Format.{read_many, write_many, read_each, read_bytes, read_zeros, read_area, write_area}

-- a reader and a writer that undo each other on the values that are good
pub record Format (A : Type 0) (read : Reader A) (write : A → List ℕ) (good : A → Type 0) : Type 0 where
  pub back : (a : A) → good a → (s : List ℕ) → read (write a ++ s) ≡ some (record { value = a; rest = s })
  pub only : (s : List ℕ) (r : Read A) → Bytes s → read s ≡ some r → (good r.value) × (s ≡ write r.value ++ r.rest)

-- what stands after some bytes is bytes
pub bytes_rest : (p s : List ℕ) → Bytes (p ++ s) → Bytes s
bytes_rest [] s b = b
bytes_rest (x ∷ p) s b = bytes_rest p s (λ i. b (suc i))

-- one byte
pub number_one : (b : ℕ) (u : List ℕ) → read_number 1 (b ∷ u) ≡ some (record { value = b; rest = u })
unfolding read_number
number_one b u = let e : 0 * 256 + b ≡ b = omega arith in ap (λ (x : ℕ). some (record { value = x; rest = u })) e

-- two formats, one after the other, where the second may go by the first one's value
module _ {A B C : Type 0} (ra : Reader A) (wa : A → List ℕ) (ga : A → Type 0) (rb : A → Reader B) (wb : A → B → List ℕ) (gb : A → B → Type 0)
    (make : A → B → C) (first : C → A) (second : C → B)
    (made : (c : C) → make (first c) (second c) ≡ c) (one : (a : A) (b : B) → ga a → gb a b → first (make a b) ≡ a)
    (two : (a : A) (b : B) → second (make a b) ≡ b)
    (fa : Format A ra wa ga) (fb : (a : A) → Format B (rb a) (wb a) (gb a)) where
  pub format_then : Format C
      (both ra rb make)
      (λ c. wa (first c) ++ wb (first c) (second c))
      (λ c. ga (first c) × gb (first c) (second c))
  format_then =
      record {
        back = λ c g s.
            ap (λ (t : List ℕ). bind (ra t) (λ a t. bind (rb a t) (λ b u. some (record { value = make a b; rest = u }))))
            (append_assoc (wa (first c)) (wb (first c) (second c)) s)
            ∙ ap (λ (r : Option (Read A)). bind r (λ a t. bind (rb a t) (λ b u. some (record { value = make a b; rest = u }))))
            (fa.back (first c) g.0 (wb (first c) (second c) ++ s))
            ∙ ap (λ (r : Option (Read B)). bind r (λ b u. some (record { value = make (first c) b; rest = u })))
            ((fb (first c)).back (second c) g.1 s)
            ∙ ap (λ (x : C). some (record { value = x; rest = s })) (made c);
        only = λ s r b e. parts s r b (ra s) refl e;
      }
    where
      ends : (s : List ℕ) (r : Read C) (a : Read A) → Bytes s → ra s ≡ some a → (b : Option (Read B)) → rb a.value a.rest ≡ b
          → bind b (λ b u. some (record { value = make a.value b; rest = u })) ≡ some r
          → (ga (first r.value) × gb (first r.value) (second r.value))
          × (s ≡ (wa (first r.value) ++ wb (first r.value) (second r.value)) ++ r.rest)
      ends s r a b p none q e = absurd (none≢some e)
      ends s r a b p (some y) q e =
          let x = fa.only s a b p in
          let z = (fb a.value).only a.rest y (bytes_rest (wa a.value) a.rest (rw x.1 at b)) q in
          rw (← some_eq e)
          (rw (one a.value y.value x.0 z.0, two a.value y.value) (
            (x.0, z.0),
            x.1 ∙ ap (λ (t : List ℕ). wa a.value ++ t) z.1 ∙ sym (append_assoc (wa a.value) (wb a.value y.value) y.rest),
          ))

      parts : (s : List ℕ) (r : Read C) → Bytes s → (a : Option (Read A)) → ra s ≡ a
          → bind a (λ a t. bind (rb a t) (λ b u. some (record { value = make a b; rest = u }))) ≡ some r
          → (ga (first r.value) × gb (first r.value) (second r.value))
          × (s ≡ (wa (first r.value) ++ wb (first r.value) (second r.value)) ++ r.rest)
      parts s r b none p e = absurd (none≢some e)
      parts s r b (some a) p e = ends s r a b p (rb a.value a.rest) refl e

-- only values that pass a test
module _ {A : Type 0} (ra : Reader A) (wa : A → List ℕ) (ga : A → Type 0) (test : A → Bool) (fa : Format A ra wa ga) where
  pub format_check : Format A (given test ra) wa (λ a. ga a × (test a ≡ true))
  format_check =
      record {
        back = λ a g s.
            ap (λ (r : Option (Read A)). bind r (λ a t. check (test a) a t)) (fa.back a g.0 s)
            ∙ ap (λ (b : Bool). check b a s) g.1;
        only = λ s r b e. read s r b (ra s) refl e;
      }
    where
      passed : (s : List ℕ) (r a : Read A) → Bytes s → ra s ≡ some a → (t : Bool) → test a.value ≡ t → check t a.value a.rest ≡ some r
          → (ga r.value × (test r.value ≡ true)) × (s ≡ wa r.value ++ r.rest)
      passed s r a b p false q e = absurd (none≢some e)
      passed s r a b p true q e =
          let x = fa.only s a b p in rw (← some_eq e) ((x.0, q), x.1)

      read : (s : List ℕ) (r : Read A) → Bytes s → (a : Option (Read A)) → ra s ≡ a → bind a (λ a t. check (test a) a t) ≡ some r
          → (ga r.value × (test r.value ≡ true)) × (s ≡ wa r.value ++ r.rest)
      read s r b none p e = absurd (none≢some e)
      read s r b (some a) p e = passed s r a b p (test a.value) refl e

-- values of another type
module _ {A B : Type 0} (ra : Reader A) (wa : A → List ℕ) (ga : A → Type 0) (f : A → B) (wb : B → List ℕ) (gb : B → Type 0)
    (there : (a : A) → ga a → gb (f a) × (wb (f a) ≡ wa a)) (fa : Format A ra wa ga) where
  pub as_back : (a : A) → ga a → (s : List ℕ) → mapped f ra (wb (f a) ++ s) ≡ some (record { value = f a; rest = s })
  as_back a h s =
      ap (λ (t : List ℕ). mapped f ra (t ++ s)) (there a h).1
      ∙ ap (λ (r : Option (Read A)). bind r (λ a t. some (record { value = f a; rest = t }))) (fa.back a h s)

  pub as_only : (s : List ℕ) (r : Read B) → Bytes s → mapped f ra s ≡ some r → gb r.value × (s ≡ wb r.value ++ r.rest)
  as_only s r b e = go (ra s) refl e
    where
      go : (a : Option (Read A)) → ra s ≡ a → bind a (λ a t. some (record { value = f a; rest = t })) ≡ some r
          → gb r.value × (s ≡ wb r.value ++ r.rest)
      go none p e = absurd (none≢some e)
      go (some a) p e =
          let x = fa.only s a b p in
          let y = there a.value x.0 in
          rw (← some_eq e) (y.0, x.1 ∙ ap (λ (t : List ℕ). t ++ a.rest) (sym y.1))

-- and g takes a good one back
module _ {A B : Type 0} (ra : Reader A) (wa : A → List ℕ) (ga : A → Type 0) (f : A → B) (g : B → A) (wb : B → List ℕ) (gb : B → Type 0)
    (there : (a : A) → ga a → gb (f a) × (wb (f a) ≡ wa a)) (back : (b : B) → gb b → ga (g b) × (f (g b) ≡ b) × (wb b ≡ wa (g b)))
    (fa : Format A ra wa ga) where
  pub format_as : Format B (mapped f ra) wb gb
  format_as =
      record {
        back = λ b h s.
            let x = back b h in
            subst (λ (y : B). mapped f ra (wb y ++ s) ≡ some (record { value = y; rest = s })) x.1
            (as_back ra wa ga f wb gb there fa (g b) x.0 s);
        only = as_only ra wa ga f wb gb there fa;
      }

pub format_nothing : Format (Unit {0}) read_nothing (λ u. []) (λ u. Unit {0})
format_nothing = record { back = λ u g s. refl; only = λ s r b e. rw (← some_eq e) (tt, refl) }

-- numbers of w bytes
number-back : (w n : ℕ) → n < 256 ^ w → (s : List ℕ) → read_number w (write_number w n ++ s) ≡ some (record { value = n; rest = s })
unfolding read_number write_number
number-back zero n h s = let e : n ≡ 0 = omega arith in rw e
number-back (suc w) n h s =
    let q : n / 256 < 256 ^ w = (div-lt_iff_lt-mul {k = 256} (omega arith)).1 (rw pow-suc at h) in
    ap (λ (t : List ℕ). bind (read_number w t) (λ n t. bind (read_byte t) (λ b u. some (record { value = n * 256 + b; rest = u }))))
    (append_assoc (write_number w (n / 256)) (n % 256 ∷ []) s)
    ∙ ap (λ (r : Option (Read ℕ)). bind r (λ n t. bind (read_byte t) (λ b u. some (record { value = n * 256 + b; rest = u }))))
    (number-back w (n / 256) q (n % 256 ∷ s))
    ∙ ap (λ (x : ℕ). some (record { value = x; rest = s })) (div-add-mod' n 256)

number_only : (w : ℕ) (s : List ℕ) (r : Read ℕ) → Bytes s → read_number w s ≡ some r → (r.value < 256 ^ w) × (s ≡ write_number w r.value ++ r.rest)
unfolding read_number write_number
number_only zero s r b e = rw (← some_eq e) (omega arith, refl)
number_only (suc w) s r b e = go (read_number w s) (number_only w s) refl e
  where
    last : (a : Read ℕ) (t : List ℕ) → a.rest ≡ t → (a.value < 256 ^ w) × (s ≡ write_number w a.value ++ t)
        → bind (read_byte t) (λ b u. some (record { value = a.value * 256 + b; rest = u })) ≡ some r
        → (r.value < 256 ^ suc w) × (s ≡ (write_number w (r.value / 256) ++ (r.value % 256 ∷ [])) ++ r.rest)
    last a [] q h e = absurd (none≢some e)
    last a (x ∷ u) q h e =
        let bx : x < 256 = bytes_rest (write_number w a.value) (x ∷ u) (rw h.1 at b) 0 in
        let d : (a.value * 256 + x) / 256 ≡ a.value = omega arith in
        let m : (a.value * 256 + x) % 256 ≡ x = omega arith in
        let l : a.value < 256 ^ w = h.0 in
        rw (← some_eq e) (
          rw pow-suc (omega arith),
          h.1
              ∙ sym (append_assoc (write_number w a.value) (x ∷ []) u)
              ∙ ap₂ (λ (y : ℕ) (z : ℕ). (write_number w y ++ (z ∷ [])) ++ u) (sym d) (sym m),
        )

    go : (a : Option (Read ℕ)) → ((r : Read ℕ) → Bytes s → read_number w s ≡ some r → (r.value < 256 ^ w) × (s ≡ write_number w r.value ++ r.rest))
        → read_number w s ≡ a → bind a (λ n t. bind (read_byte t) (λ b u. some (record { value = n * 256 + b; rest = u }))) ≡ some r
        → (r.value < 256 ^ suc w) × (s ≡ (write_number w (r.value / 256) ++ (r.value % 256 ∷ [])) ++ r.rest)
    go none ih p e = absurd (none≢some e)
    go (some a) ih p e = last a a.rest refl (ih a b p) e

pub format_number : (w : ℕ) → Format ℕ (read_number w) (write_number w) (λ n. n < 256 ^ w)
format_number w = record { back = number-back w; only = number_only w }

-- n values of one format
abbrev pub Each : {A : Type 0} → (A → Type 0) → List A → Type 0
Each g [] = Unit {0}
Each g (a ∷ l) = g a × Each g l

module _ {A : Type 0} (ra : Reader A) (wa : A → List ℕ) (ga : A → Type 0) (fa : Format A ra wa ga) where
  many-back : (l : List A) → Each ga l → (s : List ℕ) → read_many ra (length l) (write_many wa l ++ s) ≡ some (record { value = l; rest = s })
  unfolding read_many write_many
  many-back [] g s = refl
  many-back (a ∷ l) g s =
      ap (λ (t : List ℕ). bind (ra t) (λ a t. bind (read_many ra (length l) t) (λ l u. some (record { value = a ∷ l; rest = u }))))
      (append_assoc (wa a) (write_many wa l) s)
      ∙ ap (λ (r : Option (Read A)). bind r (λ a t. bind (read_many ra (length l) t) (λ l u. some (record { value = a ∷ l; rest = u }))))
      (fa.back a g.0 (write_many wa l ++ s))
      ∙ ap (λ (r : Option (Read (List A))). bind r (λ l u. some (record { value = a ∷ l; rest = u }))) (many-back l g.1 s)

  many_only : (n : ℕ) (s : List ℕ) (r : Read (List A)) → Bytes s → read_many ra n s ≡ some r
      → (Each ga r.value × (length r.value ≡ n)) × (s ≡ write_many wa r.value ++ r.rest)
  unfolding read_many write_many
  many_only zero s r b e = rw (← some_eq e) ((tt, refl), refl)
  many_only (suc n) s r b e = go (many_only n) (ra s) refl e
    where
      tail : (a : Read A) → (ga a.value) × (s ≡ wa a.value ++ a.rest) → (l : Option (Read (List A)))
          → ((t : Read (List A)) → l ≡ some t → (Each ga t.value × (length t.value ≡ n)) × (a.rest ≡ write_many wa t.value ++ t.rest))
          → bind l (λ l u. some (record { value = a.value ∷ l; rest = u })) ≡ some r
          → (Each ga r.value × (length r.value ≡ suc n)) × (s ≡ write_many wa r.value ++ r.rest)
      tail a h none ih e = absurd (none≢some e)
      tail a h (some t) ih e =
          let x = ih t refl in
          rw (← some_eq e) (
            ((h.0, x.0.0), ap suc x.0.1),
            h.1 ∙ ap (λ (u : List ℕ). wa a.value ++ u) x.1 ∙ sym (append_assoc (wa a.value) (write_many wa t.value) t.rest),
          )

      go : ((s : List ℕ) (r : Read (List A)) → Bytes s → read_many ra n s ≡ some r
          → (Each ga r.value × (length r.value ≡ n)) × (s ≡ write_many wa r.value ++ r.rest))
          → (a : Option (Read A)) → ra s ≡ a
          → bind a (λ a t. bind (read_many ra n t) (λ l u. some (record { value = a ∷ l; rest = u }))) ≡ some r
          → (Each ga r.value × (length r.value ≡ suc n)) × (s ≡ write_many wa r.value ++ r.rest)
      go ih none p e = absurd (none≢some e)
      go ih (some a) p e =
          let h = fa.only s a b p in
          tail a h (read_many ra n a.rest) (λ t q. ih a.rest t (bytes_rest (wa a.value) a.rest (rw h.1 at b)) q) e

  pub format_many : (n : ℕ) → Format (List A) (read_many ra n) (write_many wa) (λ l. Each ga l × (length l ≡ n))
  format_many n =
      record {
        back = λ l g s. ap (λ (k : ℕ). read_many ra k (write_many wa l ++ s)) (sym g.1) ∙ many-back l g.0 s;
        only = many_only n;
      }

-- one value for each number of a list
abbrev pub EachOf : {A : Type 0} → (ℕ → A → Type 0) → List ℕ → List A → Type 0
EachOf g [] [] = Unit {0}
EachOf g [] (a ∷ l) = ⊥
EachOf g (x ∷ xs) [] = ⊥
EachOf g (x ∷ xs) (a ∷ l) = g x a × EachOf g xs l

module _ {A : Type 0} (ra : ℕ → Reader A) (wa : A → List ℕ) (ga : ℕ → A → Type 0) (fa : (x : ℕ) → Format A (ra x) wa (ga x)) where
  each_back : (xs : List ℕ) (l : List A) → EachOf ga xs l → (s : List ℕ) → read_each ra xs (write_many wa l ++ s) ≡ some (record { value = l; rest = s })
  unfolding read_each write_many
  each_back [] [] g s = refl
  each_back [] (a ∷ l) g s = absurd g
  each_back (x ∷ xs) [] g s = absurd g
  each_back (x ∷ xs) (a ∷ l) g s =
      ap (λ (t : List ℕ). bind (ra x t) (λ a t. bind (read_each ra xs t) (λ l u. some (record { value = a ∷ l; rest = u }))))
      (append_assoc (wa a) (write_many wa l) s)
      ∙ ap (λ (r : Option (Read A)). bind r (λ a t. bind (read_each ra xs t) (λ l u. some (record { value = a ∷ l; rest = u }))))
      ((fa x).back a g.0 (write_many wa l ++ s))
      ∙ ap (λ (r : Option (Read (List A))). bind r (λ l u. some (record { value = a ∷ l; rest = u }))) (each_back xs l g.1 s)

  each_only : (xs : List ℕ) (s : List ℕ) (r : Read (List A)) → Bytes s → read_each ra xs s ≡ some r
      → EachOf ga xs r.value × (s ≡ write_many wa r.value ++ r.rest)
  unfolding read_each write_many
  each_only [] s r b e = rw (← some_eq e) (tt, refl)
  each_only (x ∷ xs) s r b e = go (each_only xs) (ra x s) refl e
    where
      tail : (a : Read A) → (ga x a.value) × (s ≡ wa a.value ++ a.rest) → (l : Option (Read (List A)))
          → ((t : Read (List A)) → l ≡ some t → EachOf ga xs t.value × (a.rest ≡ write_many wa t.value ++ t.rest))
          → bind l (λ l u. some (record { value = a.value ∷ l; rest = u })) ≡ some r
          → EachOf ga (x ∷ xs) r.value × (s ≡ write_many wa r.value ++ r.rest)
      tail a h none ih e = absurd (none≢some e)
      tail a h (some t) ih e =
          let y = ih t refl in
          rw (← some_eq e) (
            (h.0, y.0),
            h.1 ∙ ap (λ (u : List ℕ). wa a.value ++ u) y.1 ∙ sym (append_assoc (wa a.value) (write_many wa t.value) t.rest),
          )

      go : ((s : List ℕ) (r : Read (List A)) → Bytes s → read_each ra xs s ≡ some r → EachOf ga xs r.value × (s ≡ write_many wa r.value ++ r.rest))
          → (a : Option (Read A)) → ra x s ≡ a
          → bind a (λ a t. bind (read_each ra xs t) (λ l u. some (record { value = a ∷ l; rest = u }))) ≡ some r
          → EachOf ga (x ∷ xs) r.value × (s ≡ write_many wa r.value ++ r.rest)
      go ih none p e = absurd (none≢some e)
      go ih (some a) p e =
          let h = (fa x).only s a b p in
          tail a h (read_each ra xs a.rest) (λ t q. ih a.rest t (bytes_rest (wa a.value) a.rest (rw h.1 at b)) q) e

  pub format_each : (xs : List ℕ) → Format (List A) (read_each ra xs) (write_many wa) (EachOf ga xs)
  format_each xs = record { back = each_back xs; only = each_only xs }

-- bytes as they are
pub format_bytes : (n : ℕ) → Format (List ℕ) (read_bytes n) (λ l. l) (λ l. Bytes l × (length l ≡ n))
unfolding read_bytes
format_bytes n =
    record {
      back = λ l g s.
          let h : n ≤ length (l ++ s) = rw length-append (omega (arith, g.1)) in
          simp (le-leb n (length (l ++ s)) h)
          (λ i. some (record { value = take_at l s n g.1 i; rest = drop_at l s n g.1 i }));
      only = λ s r b e. go s r b (dec_le n (length s)) e;
    }
  where
    go : (s : List ℕ) (r : Read (List ℕ)) → Bytes s → Dec (n ≤ length s)
        → cond (leb n (length s)) (some (record { value = take n s; rest = drop n s })) none ≡ some r
        → (Bytes r.value × (length r.value ≡ n)) × (s ≡ r.value ++ r.rest)
    go s r b (yes h) e =
        let x : some (record { value = take n s; rest = drop n s }) ≡ some r = sym (simp (le-leb n (length s) h)) ∙ e in
        rw (← some_eq x) ((bytes_take n s b, length-take-le n s h), sym (take-append-drop n s))
    go s r b (no h) e = absurd (none≢some (sym (simp (lt-leb n (length s) (omega arith))) ∙ e))

-- zeros
pub format_zeros : (n : ℕ) → Format (Unit {0}) (read_zeros n) (λ u. replicate n 0) (λ u. Unit {0})
unfolding read_zeros
format_zeros n =
    format_as (given (all (λ b. eqb b 0)) (read_bytes n)) (λ l. l) (λ l. (Bytes l × (length l ≡ n)) × (all (λ b. eqb b 0) l ≡ true))
    (λ l. tt) (λ u. replicate n 0) (λ u. replicate n 0) (λ u. Unit {0})
    (λ l h. (tt, zeros l h)) (λ u h. (zero_bytes, refl, refl))
    (format_check (read_bytes n) (λ l. l) (λ l. Bytes l × (length l ≡ n)) (all (λ b. eqb b 0)) (format_bytes n))
  where
    zeros : (l : List ℕ) → (Bytes l × (length l ≡ n)) × (all (λ b. eqb b 0) l ≡ true) → replicate n 0 ≡ l
    zeros l h =
        ext_get_or 0 (replicate n 0) l (length-replicate {A = ℕ} n 0 ∙ sym h.0.1)
        (λ i t.
        let z : i < length l = rw (length-replicate {A = ℕ} n 0 ∙ sym h.0.1) at t in
        zeros_at n i ∙ sym (eqb-true (get_or l i 0) 0 (all_at (λ b. eqb b 0) l h.1 i z)))

    zero_bytes : (Bytes (replicate n 0) × (length (replicate {A = ℕ} n 0) ≡ n)) × (all (λ b. eqb b 0) (replicate n 0) ≡ true)
    zero_bytes = (
      ((λ i. rw (zeros_at n i) (omega arith)), length-replicate {A = ℕ} n 0),
      all_from (λ b. eqb b 0) (replicate n 0) (λ i t. eq-eqb (get_or (replicate n 0) i 0) 0 (zeros_at n i)),
    )

-- a value at the front of an area whose spare bytes are zero
module _ {A : Type 0} (n : ℕ) (ra : Reader A) (wa : A → List ℕ) (ga : A → Type 0) (fa : Format A ra wa ga) where
  pub format_area : Format A (read_area n ra wa) (write_area n wa) (λ a. (ga a × Unit {0}) × (leb (length (wa a)) n ≡ true))
  unfolding read_area write_area
  format_area =
      format_check (both ra (λ a. read_zeros (n - length (wa a))) (λ a z. a)) (write_area n wa) (λ a. ga a × Unit {0}) (λ a. leb (length (wa a)) n)
      (format_then ra wa ga (λ a. read_zeros (n - length (wa a))) (λ a u. replicate (n - length (wa a)) 0) (λ a u. Unit {0})
      (λ a z. a) (λ a. a) (λ a. tt) (λ a. refl) (λ a z g h. refl) (λ a z. refl) fa (λ a. format_zeros (n - length (wa a))))

-- lengths

pub length_area : {A : Type 0} (n : ℕ) (w : A → List ℕ) (a : A) → length (w a) ≤ n → length (write_area n w a) ≡ n
unfolding write_area
length_area n w a h = length-append (w a) (replicate (n - length (w a)) 0) ∙ omega (arith, length-replicate {A = ℕ} (n - length (w a)) 0)

-- values of one length
pub length-same : {A : Type 0} (w : A → List ℕ) (g : A → Type 0) (k : ℕ) → ((a : A) → g a → length (w a) ≡ k) → (l : List A) → Each g l
    → length (write_many w l) ≡ length l * k
unfolding write_many
length-same w g k h [] e = omega arith
length-same w g k h (a ∷ l) e =
    length-append (w a) (write_many w l) ∙ omega (arith, h a e.0, length-same w g k h l e.1, suc-mul (length l) k)
