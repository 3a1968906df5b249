-- A record read by lengths alone and then tested by the rule of its pointers is document 01's record.
use mathlib.Core.Path.{◌≡◌, refl, sym, ap, subst, ◌∙◌}
use mathlib.Core.Bool.{Bool, true, false, cond, ◌&&◌, ◌||◌}
use mathlib.Core.List.{List, [], ◌∷◌}
use mathlib.Core.Option.{Option, some, none}
use Prim.Native.Nat.{ℕ, zero, suc, ◌/◌, ◌%◌}
use lib.Dec.{eqb}
use lib.ListN.{length}
use Rattle.coding.proofs.PageLaws.{none≢some, some_eq}
use Rattle.parties.specs.declared.Measures.{Measures}
use Rattle.parties.specs.protocol.Format.{Read, Reader, bind, check, both, given, mapped, chain, whole, read_many, read_number}
use Rattle.parties.specs.protocol.Pointer.{Pointer, proper_pointer, all_pointers, read_any_pointer, read_pointer}
use Rattle.parties.specs.protocol.Directory.{Field, pointers, indices, Content, pointers_of, indices_of, fields, read_index, read_content, read_fields}
use Rattle.parties.specs.protocol.Directory.{proper_map, read_record, pointers_in, all_fields}
use Rattle.parties.specs.protocol.Verdict.{Verdict, sound, broken, by_rule, by_length, record_verdict, AsBefore}
use Rattle.parties.proofs.protocol.formats.FormatLaws.{number_one}
use Rattle.parties.proofs.protocol.formats.DirectoryLaws.{as_list}

-- ---- readers that test what they read

module _ {A B C : Type 0} (make : A → B → C) (u : List ℕ) where
  both_ext : (ra ra' : Reader A) (rb rb' : Reader B) → ((v : List ℕ) → ra v ≡ ra' v) → ((v : List ℕ) → rb v ≡ rb' v)
      → both ra (λ a. rb) make u ≡ both ra' (λ a. rb') make u
  both_ext ra ra' rb rb' d e =
      ap (λ (o : Option (Read A)). bind o (λ a t. bind (rb t) (λ b v. some (record { value = make a b; rest = v })))) (d u) ∙ go (ra' u)
    where
      go : (o : Option (Read A))
          → bind o (λ a t. bind (rb t) (λ b v. some (record { value = make a b; rest = v })))
          ≡ bind o (λ a t. bind (rb' t) (λ b v. some (record { value = make a b; rest = v })))
      go none = refl
      go (some x) = ap (λ (o : Option (Read B)). bind o (λ b v. some (record { value = make x.value b; rest = v }))) (e x.rest)

  -- two values that are tested, each by itself, are a value of both that is tested
  both-given : (p : A → Bool) (q : B → Bool) (test : C → Bool) → ((a : A) (b : B) → test (make a b) ≡ (p a && q b)) → (ra : Reader A) (rb : Reader B)
      → both (given p ra) (λ a. given q rb) make u ≡ given test (both ra (λ a. rb) make) u
  both-given p q test e ra rb = go (ra u)
    where
      made : (b c d : Bool) → d ≡ (b && c) → (x : A) (y : B) (t v : List ℕ)
          → bind (check b x t) (λ a t. bind (check c y v) (λ b v. some (record { value = make a b; rest = v }))) ≡ check d (make x y) v
      made true true d h x y t v = rw h refl
      made true false d h x y t v = rw h refl
      made false c d h x y t v = rw h refl

      second : (b : Bool) (x : A) → p x ≡ b → (t : List ℕ) (o : Option (Read B))
          → bind (check b x t) (λ a t. bind (bind o (λ b v. check (q b) b v)) (λ b v. some (record { value = make a b; rest = v })))
          ≡ bind (bind o (λ b v. some (record { value = make x b; rest = v }))) (λ c v. check (test c) c v)
      second true x h t none = refl
      second false x h t none = refl
      second b x h t (some y) = made b (q y.value) (test (make x y.value)) (e x y.value ∙ ap (λ (c : Bool). c && q y.value) h) x y.value t y.rest

      first : (b : Bool) (x : Read A) → p x.value ≡ b
          → bind (check b x.value x.rest) (λ a t. bind (bind (rb t) (λ b v. check (q b) b v)) (λ b v. some (record { value = make a b; rest = v })))
          ≡ bind (bind (rb x.rest) (λ b v. some (record { value = make x.value b; rest = v }))) (λ c v. check (test c) c v)
      first true x h = second true x.value h x.rest (rb x.rest)
      first false x h = second false x.value h x.rest (rb x.rest)

      go : (o : Option (Read A))
          → bind (bind o (λ a t. check (p a) a t)) (λ a t. bind (bind (rb t) (λ b v. check (q b) b v)) (λ b v. some (record { value = make a b; rest = v })))
          ≡ bind (bind o (λ a t. bind (rb t) (λ b v. some (record { value = make a b; rest = v })))) (λ c v. check (test c) c v)
      go none = refl
      go (some x) = first (p x.value) x refl

module _ {A B : Type 0} (f : A → B) (u : List ℕ) where
  mapped_ext : (r r' : Reader A) → ((v : List ℕ) → r v ≡ r' v) → mapped f r u ≡ mapped f r' u
  mapped_ext r r' e = ap (λ (o : Option (Read A)). bind o (λ a t. some (record { value = f a; rest = t }))) (e u)

  mapped-given : (test : B → Bool) (r : Reader A) → mapped f (given (λ a. test (f a)) r) u ≡ given test (mapped f r) u
  mapped-given test r = go (r u)
    where
      tested : (b : Bool) (a : A) (t : List ℕ) → bind (check b a t) (λ a t. some (record { value = f a; rest = t })) ≡ check b (f a) t
      tested true a t = refl
      tested false a t = refl

      go : (o : Option (Read A))
          → bind (bind o (λ a t. check (test (f a)) a t)) (λ a t. some (record { value = f a; rest = t }))
          ≡ bind (bind o (λ a t. some (record { value = f a; rest = t }))) (λ b t. check (test b) b t)
      go none = refl
      go (some x) = tested (test (f x.value)) x.value x.rest

whole-given : {A : Type 0} (test : A → Bool) (r : Reader A) (u : List ℕ) → whole (given test r) u ≡ chain (whole r u) (λ a. cond (test a) (some a) none)
whole-given {A} test r u = go (r u)
  where
    ends : (b c : Bool) (a : A) (t : List ℕ) → eqb (length t) 0 ≡ c
        → chain (check b a t) (λ x. cond (eqb (length x.rest) 0) (some x.value) none) ≡ chain (cond c (some a) none) (λ a. cond b (some a) none)
    ends true true a t e = simp e
    ends true false a t e = simp e
    ends false true a t e = refl
    ends false false a t e = refl

    at : (c : Bool) (x : Read A) → eqb (length x.rest) 0 ≡ c
        → chain (check (test x.value) x.value x.rest) (λ x. cond (eqb (length x.rest) 0) (some x.value) none)
        ≡ chain (cond c (some x.value) none) (λ a. cond (test a) (some a) none)
    at true x e = ends (test x.value) true x.value x.rest e
    at false x e = ends (test x.value) false x.value x.rest e

    go : (o : Option (Read A))
        → chain (bind o (λ a t. check (test a) a t)) (λ x. cond (eqb (length x.rest) 0) (some x.value) none)
        ≡ chain (chain o (λ x. cond (eqb (length x.rest) 0) (some x.value) none)) (λ a. cond (test a) (some a) none)
    go none = refl
    go (some x) = at (eqb (length x.rest) 0) x refl

-- ---- fields whose pointers are tested, each by itself

module _ (test : Pointer → Bool) (r : Reader Pointer) where
  many_tested : (n : ℕ) (u : List ℕ) → read_many (given test r) n u ≡ given (all_pointers test) (read_many r n) u
  unfolding read_many all_pointers
  many_tested zero u = refl
  many_tested (suc n) u =
      both_ext ◌∷◌ u (given test r) (given test r) (read_many (given test r) n) (given (all_pointers test) (read_many r n)) (λ v. refl) (many_tested n)
      ∙ both-given ◌∷◌ u test (all_pointers test) (all_pointers test) (λ p l. refl) r (read_many r n)

  abbrev pub tested : Content → Bool
  tested c = all_pointers test (pointers_in (some c))

  pub content_tested : (f : Field) (u : List ℕ) → read_content (given test r) f u ≡ given tested (read_content r f) u
  unfolding read_content all_pointers
  content_tested (pointers n) u =
      mapped_ext pointers_of u (read_many (given test r) n) (given (all_pointers test) (read_many r n)) (many_tested n)
      ∙ mapped-given pointers_of u tested (read_many r n)
  content_tested (indices n) u = go (read_many read_index n u)
    where
      go : (o : Option (Read _)) → bind o (λ l t. some (record { value = indices_of l; rest = t }))
          ≡ bind (bind o (λ l t. some (record { value = indices_of l; rest = t }))) (λ c t. check (tested c) c t)
      go none = refl
      go (some x) = refl

  pub fields_tested : (fs : List Field) (map : ℕ) (u : List ℕ) → read_fields (given test r) fs map u ≡ given (all_fields test) (read_fields r fs map) u
  unfolding read_fields all_fields all_pointers
  fields_tested [] map u = refl
  fields_tested (f ∷ fs) map u = go (fields_tested fs (map / 2)) (eqb (map % 2) 1)
    where
      go : ((v : List ℕ) → read_fields (given test r) fs (map / 2) v ≡ given (all_fields test) (read_fields r fs (map / 2)) v)
          → (b : Bool)
          → cond b
          (mapped as_list (both (read_content (given test r) f) (λ c. read_fields (given test r) fs (map / 2)) (λ c l. (c, l))))
          (mapped (λ l. none ∷ l) (read_fields (given test r) fs (map / 2))) u
          ≡ given (all_fields test)
          (cond b
          (mapped as_list (both (read_content r f) (λ c. read_fields r fs (map / 2)) (λ c l. (c, l))))
          (mapped (λ l. none ∷ l) (read_fields r fs (map / 2)))) u
      go others true =
          mapped_ext as_list u (both (read_content (given test r) f) (λ c. read_fields (given test r) fs (map / 2)) (λ c l. (c, l)))
          (given (λ x. all_fields test (as_list x)) (both (read_content r f) (λ c. read_fields r fs (map / 2)) (λ c l. (c, l))))
          (λ v.
          both_ext (λ c l. (c, l)) v (read_content (given test r) f) (given tested (read_content r f))
          (read_fields (given test r) fs (map / 2)) (given (all_fields test) (read_fields r fs (map / 2))) (content_tested f) others
          ∙ both-given (λ c l. (c, l)) v tested (all_fields test) (λ x. all_fields test (as_list x)) (λ c l. refl) (read_content r f)
          (read_fields r fs (map / 2)))
          ∙ mapped-given as_list u (all_fields test) (both (read_content r f) (λ c. read_fields r fs (map / 2)) (λ c l. (c, l)))
      go others false =
          mapped_ext (λ l. none ∷ l) u (read_fields (given test r) fs (map / 2)) (given (all_fields test) (read_fields r fs (map / 2))) others
          ∙ mapped-given (λ l. none ∷ l) u (all_fields test) (read_fields r fs (map / 2))

-- document 01's fields are those by their lengths, tested by the rule
pub fields-proper : (s : Measures) (fs : List Field) (map : ℕ) (u : List ℕ)
    → read_fields (read_pointer s) fs map u ≡ given (all_fields (proper_pointer s)) (read_fields read_any_pointer fs map) u
unfolding read_pointer
fields-proper s fs map u = fields_tested (proper_pointer s) read_any_pointer fs map u

-- ---- its verdict

abbrev pub shown : {A : Type 0} → Verdict A → Option A
shown (sound a) = some a
shown (broken n) = none

shown-sound : {A : Type 0} (v : Verdict A) (a : A) → shown v ≡ some a → v ≡ sound a
shown-sound (sound b) a e = ap sound (some_eq e)
shown-sound (broken n) a e = absurd (none≢some e)

module _ (s : Measures) where
  shown_rule : (l : List (Option Content)) → shown (by_rule s l) ≡ cond (all_fields (proper_pointer s) l) (some l) none
  shown_rule l = go (all_fields (proper_pointer s) l)
    where
      go : (b : Bool) → shown (cond b (sound l) (broken 12)) ≡ cond b (some l) none
      go true = refl
      go false = refl

  shown-length : (o : Option (List (Option Content))) → shown (by_length s o) ≡ chain o (λ l. cond (all_fields (proper_pointer s) l) (some l) none)
  shown-length none = refl
  shown-length (some l) = shown_rule l

  shown-none : shown (record_verdict s []) ≡ whole (read_record s) []
  unfolding record_verdict read_record read_number
  shown-none = refl

  shown_record : (t : List ℕ) → shown (record_verdict s t) ≡ whole (read_record s) t
  unfolding record_verdict read_record
  shown_record [] = shown-none
  shown_record (b ∷ u) = rw (number_one b u) (go (proper_map s b))
    where
      all : (o : Option (Read (List (Option Content))))
          → chain o (λ x. cond (eqb (length x.rest) 0) (some x.value) none)
          ≡ chain (bind o (λ l v. some (record { value = l; rest = v }))) (λ x. cond (eqb (length x.rest) 0) (some x.value) none)
      all none = refl
      all (some x) = refl

      go : (c : Bool)
          → shown (cond c (by_length s (whole (read_fields read_any_pointer (fields s) b) u)) (broken 4))
          ≡ chain (bind (check c b u) (λ map t. bind (read_fields (read_pointer s) (fields s) map t) (λ l v. some (record { value = l; rest = v }))))
          (λ x. cond (eqb (length x.rest) 0) (some x.value) none)
      go true =
          shown-length (whole (read_fields read_any_pointer (fields s) b) u)
          ∙ sym (whole-given (all_fields (proper_pointer s)) (read_fields read_any_pointer (fields s) b) u)
          ∙ ap (λ (o : Option (Read (List (Option Content)))). chain o (λ x. cond (eqb (length x.rest) 0) (some x.value) none))
          (sym (fields-proper s (fields s) b u))
          ∙ all (read_fields (read_pointer s) (fields s) b u)
      go false = refl

  abbrev Numbered : Verdict (List (Option Content)) → Type 0
  Numbered (sound l) = Unit {0}
  Numbered (broken n) = (eqb n 4 || (eqb n 11 || eqb n 12)) ≡ true

  numbered : (t : List ℕ) → Numbered (record_verdict s t)
  unfolding record_verdict
  numbered [] = refl
  numbered (b ∷ u) = by_map (proper_map s b)
    where
      by_rule_lem : (l : List (Option Content)) (c : Bool) → Numbered (cond c (sound l) (broken 12))
      by_rule_lem l true = tt
      by_rule_lem l false = refl

      by_length_lem : (o : Option (List (Option Content))) → Numbered (by_length s o)
      by_length_lem none = refl
      by_length_lem (some l) = by_rule_lem l (all_fields (proper_pointer s) l)

      by_map : (c : Bool) → Numbered (cond c (by_length s (whole (read_fields read_any_pointer (fields s) b) u)) (broken 4))
      by_map true = by_length_lem (whole (read_fields read_any_pointer (fields s) b) u)
      by_map false = refl

  -- the theorem
  pub as_before : (t : List ℕ) → AsBefore s t
  as_before t =
      record {
        numbers = λ n e. subst Numbered e (numbered t);
        reads = λ l e. sym (shown_record t) ∙ ap shown e;
        conversely = λ l e. shown-sound (record_verdict s t) l (shown_record t ∙ e);
      }
