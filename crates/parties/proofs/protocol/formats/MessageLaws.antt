-- Messages as bytes: written and read back.
use mathlib.Core.Path.{◌≡◌, refl, sym, ap, ◌∙◌}
use mathlib.Core.Bool.{Bool, true, false, cond, ◌&&◌}
use mathlib.Core.List.{List, [], ◌∷◌, ◌++◌, append-nil}
use mathlib.Core.Option.{Option, some, none}
use Prim.Native.Nat.{ℕ, suc, ◌*◌, ◌/◌}
use native.Mathlib.Nat.{suc-mul}
use native.Mathlib.Decide.{ℕ_discrete}
use native.Mathlib.Omega.{arith}
use borrow.Author.Tests.{eq-eqb, ne_eqb, eqb-true}
use lib.Dec.{leb, eqb}
use lib.ListN.{length, length-append}
use Rattle.coding.specs.Bytes.{Bytes}
use Rattle.coding.proofs.Cases.{and-true}
use Rattle.coding.proofs.PageLaws.{none≢some, some_eq}
use Rattle.parties.specs.declared.Measures.{Measures}
use Rattle.parties.specs.declared.Version.{Version}
use Rattle.parties.specs.protocol.Format.{Reader, Read, given, read_many, write_many, chain, whole, end_with}
use Rattle.parties.specs.protocol.Version.{ascending}
use Rattle.parties.specs.protocol.Pointer.{read_version, write_version}
use Rattle.parties.specs.protocol.Message.{proper_version, read_proper, ToNode, ToClient, read_stored, read_versions, read_answer}
use Rattle.parties.specs.protocol.Message.{answer, read_to_node, write_to_node, read_to_client, write_to_client}
use Rattle.parties.proofs.protocol.formats.FormatLaws.{Format, format_check, format_many, Each, bytes_rest}
use Rattle.parties.proofs.protocol.formats.PointerLaws.{GoodVersion, format_version, length-version}

-- a reader of all bytes and a writer that undo each other on the values that are good
pub record Message (A : Type 0) (read : List ℕ → Option A) (write : A → List ℕ) (good : A → Type 0) : Type 0 where
  pub back : (a : A) → good a → read (write a) ≡ some a
  pub only : (s : List ℕ) (a : A) → Bytes s → read s ≡ some a → good a × (s ≡ write a)

-- a format whose value is all there is
pub message_whole : {A : Type 0} (r : Reader A) (w : A → List ℕ) (g : A → Type 0) → Format A r w g → Message A (whole r) w g
message_whole r w g f =
    record {
      back = λ a h.
          ap (λ (t : List ℕ). whole r t) (sym (append-nil (w a)))
          ∙ ap (λ (o : Option (Read _)). chain o (λ x. cond (eqb (length x.rest) 0) (some x.value) none)) (f.back a h []);
      only = λ s a b e. go s a b (r s) refl e;
    }
  where
    ended : (s : List ℕ) (a : _) (x : Read _) → g x.value × (s ≡ w x.value ++ x.rest) → (t : List ℕ) → x.rest ≡ t
        → cond (eqb (length t) 0) (some x.value) none ≡ some a → g a × (s ≡ w a)
    ended s a x h [] p e = rw (← some_eq e) (h.0, h.1 ∙ ap (λ (t : List ℕ). w x.value ++ t) p ∙ append-nil (w x.value))
    ended s a x h (y ∷ t) p e = absurd (none≢some (sym (ap (λ (c : Bool). cond c (some x.value) none) (ne_eqb (suc (length t)) 0 (λ z. omega arith))) ∙ e))

    go : (s : List ℕ) (a : _) → Bytes s → (o : Option (Read _)) → r s ≡ o
        → chain o (λ x. cond (eqb (length x.rest) 0) (some x.value) none) ≡ some a → g a × (s ≡ w a)
    go s a b none p e = absurd (none≢some e)
    go s a b (some x) p e = ended s a x (f.only s x b p) x.rest refl e

-- a format, and a reader of all bytes after it
module _ {A B C : Type 0} (ra : Reader A) (wa : A → List ℕ) (ga : A → Type 0) (rb : A → List ℕ → Option B) (wb : A → B → List ℕ) (gb : A → B → Type 0)
    (make : A → B → C) (fa : Format A ra wa ga) (fb : (a : A) → Message B (rb a) (wb a) (gb a)) where
  end_back : (a : A) (b : B) → ga a → gb a b → end_with ra rb make (wa a ++ wb a b) ≡ some (make a b)
  end_back a b g h =
      ap (λ (o : Option (Read A)). chain o (λ x. chain (rb x.value x.rest) (λ b. some (make x.value b)))) (fa.back a g (wb a b))
      ∙ ap (λ (o : Option B). chain o (λ b. some (make a b))) ((fb a).back b h)

  end_only : (s : List ℕ) (c : C) → Bytes s → end_with ra rb make s ≡ some c
      → (a : A) × (b : B) × ga a × gb a b × (c ≡ make a b) × (s ≡ wa a ++ wb a b)
  end_only s c bs e = go (ra s) refl e
    where
      last : (x : Read A) → ga x.value × (s ≡ wa x.value ++ x.rest) → (o : Option B) → rb x.value x.rest ≡ o
          → chain o (λ b. some (make x.value b)) ≡ some c → (a : A) × (b : B) × ga a × gb a b × (c ≡ make a b) × (s ≡ wa a ++ wb a b)
      last x h none p e = absurd (none≢some e)
      last x h (some b) p e =
          let y = (fb x.value).only x.rest b (bytes_rest (wa x.value) x.rest (rw h.1 at bs)) p in
          (x.value, b, h.0, y.0, sym (some_eq e), h.1 ∙ ap (λ (t : List ℕ). wa x.value ++ t) y.1)

      go : (o : Option (Read A)) → ra s ≡ o → chain o (λ x. chain (rb x.value x.rest) (λ b. some (make x.value b))) ≡ some c
          → (a : A) × (b : B) × ga a × gb a b × (c ≡ make a b) × (s ≡ wa a ++ wb a b)
      go none p e = absurd (none≢some e)
      go (some x) p e = last x (fa.only s x bs p) (rb x.value x.rest) refl e

-- the versions that messages name
abbrev pub GoodNamedVersion : Measures → Version → Type 0
GoodNamedVersion s v = GoodVersion v × (proper_version s v ≡ true)

pub format_proper : (s : Measures) → Format Version (read_proper s) write_version (GoodNamedVersion s)
unfolding read_proper
format_proper s = format_check read_version write_version GoodVersion (proper_version s) format_version

abbrev pub GoodStored : Measures → List ℕ → Type 0
GoodStored s p = Bytes p × ((leb 1 (length p) && leb (length p) s.f) ≡ true)

message_stored : (s : Measures) → Message (List ℕ) (read_stored s) (λ p. p) (GoodStored s)
message_stored s =
    record {
      back = λ p g. ap (λ (c : Bool). cond c (some p) none) g.1;
      only = λ p a b e. go p a b (leb 1 (length p) && leb (length p) s.f) refl e;
    }
  where
    go : (p a : List ℕ) → Bytes p → (c : Bool) → (leb 1 (length p) && leb (length p) s.f) ≡ c → cond c (some p) none ≡ some a
        → GoodStored s a × (p ≡ a)
    go p a b false q e = absurd (none≢some e)
    go p a b true q e = rw (← some_eq e) ((b, q), refl)

abbrev pub GoodAnswer : Option (List ℕ) → Type 0
GoodAnswer none = Unit {0}
GoodAnswer (some p) = Bytes p

-- a piece after a 1, or "not held" as a 0 alone
abbrev write_answer : Option (List ℕ) → List ℕ
write_answer none = 0 ∷ []
write_answer (some p) = 1 ∷ p

message_answer : Message (Option (List ℕ)) read_answer write_answer GoodAnswer
message_answer = record { back = back; only = λ s a b e. only s a b e }
  where
    back : (o : Option (List ℕ)) → GoodAnswer o → read_answer (write_answer o) ≡ some o
    back none g = refl
    back (some p) g = refl

    other : (x : ℕ) (p : List ℕ) (a : Option (List ℕ)) → (c : Bool) → (eqb x 0 && eqb (length p) 0) ≡ c → cond c (some none) none ≡ some a
        → GoodAnswer a × ((x ∷ p) ≡ write_answer a)
    other x p a false q e = absurd (none≢some e)
    other x [] a true q e =
        let z : x ≡ 0 = eqb-true x 0 (and-true (eqb x 0) (eqb 0 0) q).0 in rw (← some_eq e) (tt, rw z)
    other x (y ∷ p) a true q e = absurd (omega (arith, eqb-true (suc (length p)) 0 (and-true (eqb x 0) (eqb (suc (length p)) 0) q).1))

    only : (s : List ℕ) (a : Option (List ℕ)) → Bytes s → read_answer s ≡ some a → GoodAnswer a × (s ≡ write_answer a)
    only [] a b e = absurd (none≢some e)
    only (x ∷ p) a b e = go (ℕ_discrete x 1)
      where
        go : Dec (x ≡ 1) → GoodAnswer a × ((x ∷ p) ≡ write_answer a)
        go (yes h) =
            let z : some (some p) ≡ some a =
            sym (ap (λ (c : Bool). cond c (some (some p)) (cond (eqb x 0 && eqb (length p) 0) (some none) none)) (eq-eqb x 1 h)) ∙ e
            in
            rw (← some_eq z) ((λ i. b (suc i)), rw h)
        go (no h) =
            let z : cond (eqb x 0 && eqb (length p) 0) (some none) none ≡ some a =
            sym (ap (λ (c : Bool). cond c (some (some p)) (cond (eqb x 0 && eqb (length p) 0) (some none) none)) (ne_eqb x 1 h)) ∙ e
            in other x p a (eqb x 0 && eqb (length p) 0) refl z

-- a version has 5 bytes, so that a list of them tells how many they are
pub length_versions : (l : List Version) → length (write_many write_version l) ≡ length l * 5
unfolding write_many
length_versions [] = omega arith
length_versions (v ∷ l) = length-append (write_version v) (write_many write_version l) ∙ omega (arith, length-version v, length_versions l, suc-mul (length l) 5)

abbrev pub GoodVersions : Measures → List Version → Type 0
GoodVersions s l = Each (GoodNamedVersion s) l × (ascending l ≡ true)

message_versions : (s : Measures) → Message (List Version) (read_versions s) (write_many write_version) (GoodVersions s)
unfolding read_versions
message_versions s =
    record {
      back = λ l g.
          let n : length (write_many write_version l) / 5 ≡ length l = ap (λ (x : ℕ). x / 5) (length_versions l) ∙ omega arith in
          ap (λ (k : ℕ). whole (given ascending (read_many (read_proper s) k)) (write_many write_version l)) n
          ∙ (counted (length l)).back l ((g.0, refl), g.1);
      only = λ b l bs e.
          let x = (counted (length b / 5)).only b l bs e in ((x.0.0.0, x.0.1), x.1);
    }
  where
    counted : (n : ℕ) → Message (List Version) (whole (given ascending (read_many (read_proper s) n))) (write_many write_version)
        (λ l. (Each (GoodNamedVersion s) l × (length l ≡ n)) × (ascending l ≡ true))
    counted n =
        message_whole (given ascending (read_many (read_proper s) n)) (write_many write_version)
        (λ l. (Each (GoodNamedVersion s) l × (length l ≡ n)) × (ascending l ≡ true))
        (format_check (read_many (read_proper s) n) (write_many write_version) (λ l. Each (GoodNamedVersion s) l × (length l ≡ n)) ascending
        (format_many (read_proper s) write_version (GoodNamedVersion s) (format_proper s) n))

abbrev pub GoodToNode : Measures → ToNode → Type 0
GoodToNode s (ToNode.store v p) = GoodNamedVersion s v × GoodStored s p
GoodToNode s (ToNode.request v) = GoodNamedVersion s v
GoodToNode s (ToNode.free l) = GoodVersions s l

abbrev pub GoodToClient : Measures → ToClient → Type 0
GoodToClient s (ToClient.stored v) = GoodNamedVersion s v
GoodToClient s ToClient.freed = Unit {0}
GoodToClient s (ToClient.reply v p) = GoodNamedVersion s v × Bytes p
GoodToClient s (ToClient.missing v) = GoodNamedVersion s v

-- a message of one part, under its constructor
one_part : {A C : Type 0} (r : List ℕ → Option A) (w : A → List ℕ) (g : A → Type 0) (make : A → C) → Message A r w g → (s : List ℕ) (c : C) → Bytes s
    → chain (r s) (λ a. some (make a)) ≡ some c → (a : A) × g a × (c ≡ make a) × (s ≡ w a)
one_part r w g make m s c b e = go (r s) refl e
  where
    go : (o : Option _) → r s ≡ o → chain o (λ a. some (make a)) ≡ some c → (a : _) × g a × (c ≡ make a) × (s ≡ w a)
    go none p e = absurd (none≢some e)
    go (some a) p e = let x = m.only s a b p in (a, x.0, sym (some_eq e), x.1)

-- the way that a tag's test takes
tag_is : {A : Type 0} (x n : ℕ) (a b : Option A) (c : A) → x ≡ n → cond (eqb x n) a b ≡ some c → a ≡ some c
tag_is x n a b c h e = sym (ap (λ (t : Bool). cond t a b) (eq-eqb x n h)) ∙ e

tag_not : {A : Type 0} (x n : ℕ) (a b : Option A) (c : A) → (x ≡ n → ⊥) → cond (eqb x n) a b ≡ some c → b ≡ some c
tag_not x n a b c h e = sym (ap (λ (t : Bool). cond t a b) (ne_eqb x n h)) ∙ e

pub message_to_node : (s : Measures) → Message ToNode (read_to_node s) write_to_node (GoodToNode s)
unfolding read_to_node write_to_node
message_to_node s = record { back = back; only = λ b m bs e. only b m bs e }
  where
    alone-version : Message Version (whole (read_proper s)) write_version (GoodNamedVersion s)
    alone-version = message_whole (read_proper s) write_version (GoodNamedVersion s) (format_proper s)

    back : (m : ToNode) → GoodToNode s m → read_to_node s (write_to_node m) ≡ some m
    back (ToNode.store v p) g =
        end_back (read_proper s) write_version (GoodNamedVersion s) (λ v. read_stored s) (λ v p. p) (λ v. GoodStored s) ToNode.store
        (format_proper s) (λ v. message_stored s) v p g.0 g.1
    back (ToNode.request v) g = ap (λ (o : Option Version). chain o (λ v. some (ToNode.request v))) (alone-version.back v g)
    back (ToNode.free l) g = ap (λ (o : Option (List Version)). chain o (λ l. some (ToNode.free l))) ((message_versions s).back l g)

    only : (b : List ℕ) (m : ToNode) → Bytes b → read_to_node s b ≡ some m → GoodToNode s m × (b ≡ write_to_node m)
    only [] m bs e = absurd (none≢some e)
    only (x ∷ b) m bs e = go (ℕ_discrete x 1) (ℕ_discrete x 2) (ℕ_discrete x 3)
      where
        bb : Bytes b
        bb = λ i. bs (suc i)

        go : Dec (x ≡ 1) → Dec (x ≡ 2) → Dec (x ≡ 3) → GoodToNode s m × ((x ∷ b) ≡ write_to_node m)
        go (yes h) j k =
            let y = end_only (read_proper s) write_version (GoodNamedVersion s) (λ v. read_stored s) (λ v p. p) (λ v. GoodStored s) ToNode.store
            (format_proper s) (λ v. message_stored s) b m bb (tag_is x 1 _ _ m h e)
            in rw y.4 ((y.2, y.3), λ i. h i ∷ y.5 i)
        go (no h) (yes j) k =
            let y =
            one_part (whole (read_proper s)) write_version (GoodNamedVersion s) ToNode.request alone-version b m bb (tag_is x 2 _ _ m j (tag_not x 1 _ _ m h e))
            in
            rw y.2 (y.1, λ i. j i ∷ y.3 i)
        go (no h) (no j) (yes k) =
            let y = one_part (read_versions s) (write_many write_version) (GoodVersions s) ToNode.free (message_versions s) b m bb
            (tag_is x 3 _ _ m k (tag_not x 2 _ _ m j (tag_not x 1 _ _ m h e)))
            in rw y.2 (y.1, λ i. k i ∷ y.3 i)
        go (no h) (no j) (no k) = absurd (none≢some (tag_not x 3 _ _ m k (tag_not x 2 _ _ m j (tag_not x 1 _ _ m h e))))

pub message_to_client : (s : Measures) → Message ToClient (read_to_client s) write_to_client (GoodToClient s)
unfolding read_to_client write_to_client
message_to_client s = record { back = back; only = λ b m bs e. only b m bs e }
  where
    alone-version : Message Version (whole (read_proper s)) write_version (GoodNamedVersion s)
    alone-version = message_whole (read_proper s) write_version (GoodNamedVersion s) (format_proper s)

    back : (m : ToClient) → GoodToClient s m → read_to_client s (write_to_client m) ≡ some m
    back (ToClient.stored v) g = ap (λ (o : Option Version). chain o (λ v. some (ToClient.stored v))) (alone-version.back v g)
    back ToClient.freed g = refl
    back (ToClient.reply v p) g =
        end_back (read_proper s) write_version (GoodNamedVersion s) (λ v. read_answer) (λ v. write_answer) (λ v. GoodAnswer) answer
        (format_proper s) (λ v. message_answer) v (some p) g.0 g.1
    back (ToClient.missing v) g =
        end_back (read_proper s) write_version (GoodNamedVersion s) (λ v. read_answer) (λ v. write_answer) (λ v. GoodAnswer) answer
        (format_proper s) (λ v. message_answer) v none g tt

    answered : (v : Version) (o : Option (List ℕ)) (x : ℕ) (b : List ℕ) → x ≡ 6 → GoodNamedVersion s v → GoodAnswer o → b ≡ write_version v ++ write_answer o
        → GoodToClient s (answer v o) × ((x ∷ b) ≡ write_to_client (answer v o))
    answered v none x b h g a e = (g, λ i. h i ∷ e i)
    answered v (some p) x b h g a e = ((g, a), λ i. h i ∷ e i)

    only : (b : List ℕ) (m : ToClient) → Bytes b → read_to_client s b ≡ some m → GoodToClient s m × (b ≡ write_to_client m)
    only [] m bs e = absurd (none≢some e)
    only (x ∷ b) m bs e = go (ℕ_discrete x 4) (ℕ_discrete x 5) (ℕ_discrete x 6)
      where
        bb : Bytes b
        bb = λ i. bs (suc i)

        alone : (b : List ℕ) → x ≡ 5 → cond (eqb (length b) 0) (some ToClient.freed) none ≡ some m → GoodToClient s m × ((x ∷ b) ≡ write_to_client m)
        alone [] h q = rw (← some_eq q) (tt, λ i. h i ∷ [])
        alone (y ∷ b) h q = absurd (none≢some (tag_not (suc (length b)) 0 _ _ m (λ z. omega arith) q))

        go : Dec (x ≡ 4) → Dec (x ≡ 5) → Dec (x ≡ 6) → GoodToClient s m × ((x ∷ b) ≡ write_to_client m)
        go (yes h) j k =
            let y = one_part (whole (read_proper s)) write_version (GoodNamedVersion s) ToClient.stored alone-version b m bb (tag_is x 4 _ _ m h e) in
            rw y.2 (y.1, λ i. h i ∷ y.3 i)
        go (no h) (yes j) k = alone b j (tag_is x 5 _ _ m j (tag_not x 4 _ _ m h e))
        go (no h) (no j) (yes k) =
            let y = end_only (read_proper s) write_version (GoodNamedVersion s) (λ v. read_answer) (λ v. write_answer) (λ v. GoodAnswer) answer
            (format_proper s) (λ v. message_answer) b m bb (tag_is x 6 _ _ m k (tag_not x 5 _ _ m j (tag_not x 4 _ _ m h e)))
            in rw y.4 (answered y.0 y.1 x b k y.2 y.3 y.5)
        go (no h) (no j) (no k) = absurd (none≢some (tag_not x 6 _ _ m k (tag_not x 5 _ _ m j (tag_not x 4 _ _ m h e))))
