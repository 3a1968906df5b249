-- Parcels one after the other: which are under way between a client and a node, and what stands when one more is written or one is taken out.
use mathlib.Core.Path.{◌≡◌, refl, sym, ap, subst, ◌∙◌}
use mathlib.Core.Bool.{Bool, true, false, cond, ◌&&◌}
use mathlib.Core.List.{List, [], ◌∷◌, ◌++◌, append_assoc}
use Prim.Native.Nat.{ℕ, ◌+◌, ◌-◌, ◌≤◌, ◌<◌}
use native.Mathlib.Omega.{arith}
use borrow.Author.Tests.{eqb-true, ne_eqb, eq-eqb, lt-ltb}
use lib.Dec.{eqb}
use lib.ListN.{length, take, drop, length-append, take-append-drop}
use lib.Seq.{take_at, drop_at, drop-drop, take-take, length-take-le}
use Rattle.title.proofs.PartLaws.{both_true}
use Rattle.parties.specs.declared.Measures.{Measures}
use Rattle.parties.specs.protocol.Format.{write_number, write_many}
use Rattle.parties.proofs.protocol.model.Cells.{by_eq}
use Rattle.parties.proofs.protocol.formats.PointerLaws.{length-number}
use Rattle.parties.proofs.records.SpliceLaws.{many-append}
use Rattle.runs.specs.Parcels.{Parcel, write_parcel, write_parcels, proper_key, proper, proper_all, Listed, keyed, bodies, FindsAt, Appended, Removed}
use Rattle.runs.specs.Acts.{body}
use Rattle.runs.proofs.PostLaws.{bodies-append, length-parcel}

-- ---- what is under way of a kind between a client and a node

pub nothing_in : (k c i : ℕ) → bodies k c i [] ≡ []
unfolding bodies
nothing_in k c i = refl

-- one parcel, with its key or with another
pub body-keyed : (k c i : ℕ) (x : Parcel) (q : List Parcel) → keyed k c i x ≡ true → bodies k c i (x ∷ q) ≡ x.bytes ∷ bodies k c i q
unfolding bodies
body-keyed k c i x q e = ap (λ (b : Bool). cond b (x.bytes ∷ bodies k c i q) (bodies k c i q)) e

pub body-other : (k c i : ℕ) (x : Parcel) (q : List Parcel) → keyed k c i x ≡ false → bodies k c i (x ∷ q) ≡ bodies k c i q
unfolding bodies
body-other k c i x q e = ap (λ (b : Bool). cond b (x.bytes ∷ bodies k c i q) (bodies k c i q)) e

-- a parcel behind others that are not of its key is the oldest
pub found-bodies : (k c i : ℕ) (x : Parcel) (before rest : List Parcel) → keyed k c i x ≡ true → bodies k c i before ≡ []
    → bodies k c i (before ++ (x ∷ rest)) ≡ x.bytes ∷ bodies k c i (before ++ rest)
found-bodies k c i x before rest e n =
    bodies-append k c i before (x ∷ rest)
    ∙ ap (λ (l : List (List ℕ)). l ++ bodies k c i (x ∷ rest)) n
    ∙ body-keyed k c i x rest e
    ∙ ap (λ (l : List (List ℕ)). x.bytes ∷ l) (sym (bodies-append k c i before rest ∙ ap (λ (l : List (List ℕ)). l ++ bodies k c i rest) n))

pub other-bodies : (k c i : ℕ) (x : Parcel) (before rest : List Parcel) → keyed k c i x ≡ false
    → bodies k c i (before ++ (x ∷ rest)) ≡ bodies k c i (before ++ rest)
other-bodies k c i x before rest e =
    bodies-append k c i before (x ∷ rest) ∙ ap (λ (l : List (List ℕ)). bodies k c i before ++ l) (body-other k c i x rest e) ∙ sym (bodies-append k c i before rest)

-- a parcel's key
pub record Key (k c i : ℕ) (x : Parcel) : Type 0 where
  pub kind : x.kind ≡ k
  pub client : x.client ≡ c
  pub node : x.node ≡ i

pub key_of : (k c i : ℕ) (x : Parcel) → keyed k c i x ≡ true → Key k c i x
key_of k c i x e =
    let a = both_true (eqb x.kind k) _ e in
    let b = both_true (eqb x.client c) _ a.1 in
    record { kind = eqb-true x.kind k a.0; client = eqb-true x.client c b.0; node = eqb-true x.node i b.1 }

pub keyed_by : (k c i : ℕ) (b : List ℕ) → keyed k c i (record { kind = k; client = c; node = i; bytes = b }) ≡ true
keyed_by k c i b = simp (eq-eqb k k refl, eq-eqb c c refl, eq-eqb i i refl)

both_false : (a b : Bool) → b ≡ false → (a && b) ≡ false
both_false true b e = e
both_false false b e = refl

-- it is not keyed by another kind, another client or another node
pub not_kind : (k c i k' c' i' : ℕ) (x : Parcel) → keyed k c i x ≡ true → (k ≡ k' → ⊥) → keyed k' c' i' x ≡ false
not_kind k c i k' c' i' x e n =
    let y = key_of k c i x e in
    ap (λ (b : Bool). b && (eqb x.client c' && eqb x.node i')) (ne_eqb x.kind k' (λ z. n (sym y.kind ∙ z)))

pub not_client : (k c i k' c' i' : ℕ) (x : Parcel) → keyed k c i x ≡ true → (c ≡ c' → ⊥) → keyed k' c' i' x ≡ false
not_client k c i k' c' i' x e n =
    let y = key_of k c i x e in
    both_false (eqb x.kind k') _
    (ap (λ (b : Bool). b && eqb x.node i') (ne_eqb x.client c' (λ z. n (sym y.client ∙ z))))

pub not_node : (k c i k' c' i' : ℕ) (x : Parcel) → keyed k c i x ≡ true → (i ≡ i' → ⊥) → keyed k' c' i' x ≡ false
not_node k c i k' c' i' x e n =
    let y = key_of k c i x e in
    both_false (eqb x.kind k') _ (both_false (eqb x.client c') _ (ne_eqb x.node i' (λ z. n (sym y.node ∙ z))))

-- nor by both another client and node
pub not_two : (k c i k' c' i' : ℕ) (x : Parcel) → keyed k c i x ≡ true → (c' ≡ c → i' ≡ i → ⊥) → keyed k' c' i' x ≡ false
not_two k c i k' c' i' x e n =
    by_eq c' c (λ t z. not_node k c i k' c' i' x e (λ y. n z (sym y))) (λ t z. not_client k c i k' c' i' x e (λ y. z (sym y)))

-- ---- proper ones

pub proper-++ : (s : Measures) (p q : List Parcel) → proper_all s p ≡ true → proper_all s q ≡ true → proper_all s (p ++ q) ≡ true
unfolding proper_all
proper-++ s [] q a b = b
proper-++ s (x ∷ p) q a b =
    let e = both_true (proper s x) (proper_all s p) a in
    ap (λ (t : Bool). t && proper_all s (p ++ q)) e.0 ∙ proper-++ s p q e.1 b

pub proper_by : (s : Measures) (k c i : ℕ) (b : List ℕ) → proper_key s k c i ≡ true → length b < 4294967296
    → proper s (record { kind = k; client = c; node = i; bytes = b }) ≡ true
proper_by s k c i b e g = rw (e, lt-ltb (length b) 4294967296 g) refl

pub proper_one : (s : Measures) (x : Parcel) → proper s x ≡ true → proper_all s (x ∷ []) ≡ true
unfolding proper_all
proper_one s x e = ap (λ (t : Bool). t && true) e

-- one among others
pub proper_of : (s : Measures) (p : List Parcel) (x : Parcel) (q : List Parcel) → proper_all s (p ++ (x ∷ q)) ≡ true → proper s x ≡ true
unfolding proper_all
proper_of s [] x q a = (both_true (proper s x) (proper_all s q) a).0
proper_of s (y ∷ p) x q a = proper_of s p x q (both_true (proper s y) (proper_all s (p ++ (x ∷ q))) a).1

-- without one of them
proper_but : (s : Measures) (p : List Parcel) (x : Parcel) (q : List Parcel) → proper_all s (p ++ (x ∷ q)) ≡ true → proper_all s (p ++ q) ≡ true
unfolding proper_all
proper_but s [] x q a = (both_true (proper s x) (proper_all s q) a).1
proper_but s (y ∷ p) x q a =
    let e = both_true (proper s y) (proper_all s (p ++ (x ∷ q))) a in
    ap (λ (t : Bool). t && proper_all s (p ++ q)) e.0 ∙ proper_but s p x q e.1

-- ---- their bytes

-- what stands before a parcel's own bytes
header : Parcel → List ℕ
header p = p.kind ∷ (write_number 1 p.client ++ (write_number 1 p.node ++ write_number 4 (length p.bytes)))

header_long : (p : Parcel) → length (header p) ≡ 7
unfolding header
header_long p =
    let n = write_number 1 p.node ++ write_number 4 (length p.bytes) in
    omega (
      arith,
      length-append (write_number 1 p.client) n,
      length-append (write_number 1 p.node) (write_number 4 (length p.bytes)),
      length-number 1 p.client,
      length-number 1 p.node,
      length-number 4 (length p.bytes),
    )

header_first : (p : Parcel) → write_parcel p ≡ header p ++ p.bytes
unfolding header
header_first p = simp append_assoc

-- the parcels with one between them
pub parcels-parts : (p : List Parcel) (x : Parcel) (q : List Parcel) → write_parcels (p ++ (x ∷ q)) ≡ write_parcels p ++ (write_parcel x ++ write_parcels q)
unfolding write_many
parcels-parts p x q = many-append write_parcel p (x ∷ q)

-- ---- one more is written

pub listed_appended : (s : Measures) (q p : List Parcel) (post : List ℕ) (used : ℕ) (after : List ℕ) (r : ℕ) → Listed s q used post → proper_all s p ≡ true
    → Appended p post used after r → Listed s (q ++ p) r after
listed_appended s q p post used after r l g a =
    record {
      within = a.within;
      written = a.written ∙ ap (λ (t : List ℕ). t ++ write_parcels p) l.written ∙ sym (many-append write_parcel q p);
      all_proper = proper-++ s q p l.all_proper g;
    }

-- ---- one is taken out

regroup : (a h b r t : List ℕ) → (a ++ ((h ++ b) ++ r)) ++ t ≡ a ++ (h ++ (b ++ (r ++ t)))
regroup a h b r t = simp append_assoc

-- a part between two places
between : (a h b r : List ℕ) (at end : ℕ) → at ≡ length a → length h ≡ 7 → end ≡ at + (7 + length b)
    → take (end - (at + 7)) (drop (at + 7) (a ++ (h ++ (b ++ r)))) ≡ b
between a h b r at end p q e =
    let n : length b ≡ end - (at + 7) = omega arith in
    ap (take (end - (at + 7))) (sym (drop-drop 7 at (a ++ (h ++ (b ++ r)))) ∙ ap (drop 7) (drop_at a (h ++ (b ++ r)) at (sym p)) ∙ drop_at h (b ++ r) 7 q)
    ∙ take_at b r (end - (at + 7)) n

module _ (s : Measures) (k c i : ℕ) (q : List Parcel) (used : ℕ) (post : List ℕ) (at end : ℕ) (l : Listed s q used post) (f : FindsAt k c i q at end) where
  -- the used bytes, in parts
  parts : take used post ≡ write_parcels f.before ++ (write_parcel f.parcel ++ write_parcels f.rest)
  parts = l.written ∙ ap write_parcels f.parts ∙ parcels-parts f.before f.parcel f.rest

  parts-long : used ≡ at + (7 + length f.parcel.bytes) + length (write_parcels f.rest)
  parts-long =
      let x = write_parcel f.parcel ++ write_parcels f.rest in
      let a = length-append (write_parcels f.before) x in
      let b = length-append (write_parcel f.parcel) (write_parcels f.rest) in
      omega (arith, sym (length-take-le used post l.within) ∙ ap length parts, a, b, length-parcel f.parcel, f.first)

  pub found_within : (at + 7 ≤ end) × (end ≤ used)
  found_within = (omega (arith, f.last), omega (arith, f.last, parts-long))

  -- all bytes, in parts
  whole : post ≡ write_parcels f.before ++ (header f.parcel ++ (f.parcel.bytes ++ (write_parcels f.rest ++ drop used post)))
  whole =
      let x = header f.parcel in
      let b = f.parcel.bytes in
      sym (take-append-drop used post)
      ∙ ap (λ (t : List ℕ). t ++ drop used post) (parts ∙ ap (λ (t : List ℕ). write_parcels f.before ++ (t ++ write_parcels f.rest)) (header_first f.parcel))
      ∙ regroup (write_parcels f.before) x b (write_parcels f.rest) (drop used post)

  pub found-body : body post at end ≡ f.parcel.bytes
  found-body =
      ap (λ (t : List ℕ). body t at end) whole
      ∙ between (write_parcels f.before) (header f.parcel) f.parcel.bytes (write_parcels f.rest ++ drop used post) at end
      f.first (header_long f.parcel) f.last

  -- a parcel that was found has a proper key
  pub found-key : proper_key s k c i ≡ true
  found-key =
      let y = key_of k c i f.parcel f.same in
      subst (λ (t : ℕ). proper_key s t c i ≡ true) y.kind
      (subst (λ (t : ℕ). proper_key s f.parcel.kind t i ≡ true) y.client
      (subst (λ (t : ℕ). proper_key s f.parcel.kind f.parcel.client t ≡ true) y.node
      (both_true (proper_key s f.parcel.kind f.parcel.client f.parcel.node) _
      (proper_of s f.before f.parcel f.rest (subst (λ (p : List Parcel). proper_all s p ≡ true) f.parts l.all_proper))).0))

  pub listed_removed : (after : List ℕ) (r : ℕ) → Removed at end post used after r → Listed s (f.before ++ f.rest) r after
  listed_removed after r d =
      record {
        within = d.within;
        written = d.written ∙ (λ j. front j ++ behind j) ∙ sym (many-append write_parcel f.before f.rest);
        all_proper = proper_but s f.before f.parcel f.rest (subst (λ (p : List Parcel). proper_all s p ≡ true) f.parts l.all_proper);
      }
    where
      front : take at post ≡ write_parcels f.before
      front =
          let n : at ≤ used = omega (arith, parts-long) in
          sym (take-take at used post n) ∙ ap (take at) parts ∙ take_at (write_parcels f.before) _ at (sym f.first)

      behind : drop end (take used post) ≡ write_parcels f.rest
      behind =
          let u = write_parcels f.before in
          let v = write_parcel f.parcel in
          let n : length (u ++ v) ≡ end = omega (arith, length-append u v, length-parcel f.parcel, f.first, f.last) in
          ap (drop end) (parts ∙ sym (append_assoc u v (write_parcels f.rest))) ∙ drop_at (u ++ v) (write_parcels f.rest) end n
