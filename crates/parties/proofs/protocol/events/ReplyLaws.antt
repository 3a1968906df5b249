-- Laws of messages to clients on values: which replies match, how many must, and what the matching pieces join to.
use mathlib.Core.Path.{◌≡◌, refl, sym, ap, subst, ◌∙◌}
use mathlib.Core.Bool.{Bool, true, false, cond, false≢true, true≢false}
use mathlib.Core.Logic.{◌⊎◌, inl, inr}
use mathlib.Core.List.{List, [], ◌∷◌, ◌++◌, map, append_assoc}
use mathlib.Core.Option.{some}
use Prim.Native.Nat.{ℕ, zero, suc, ◌+◌, ◌-◌, ◌*◌, ◌^◌, ◌<◌, ◌≤◌}
use native.Mathlib.Nat.{suc-mul}
use native.Mathlib.Decide.{ℕ_discrete}
use native.Mathlib.Omega.{arith}
use borrow.Author.Tests.{le-leb, eq-eqb, ne_eqb, eqb-true}
use lib.Dec.{leb, eqb}
use lib.ListN.{length, get_or, take, drop, replicate, length-drop, length-map, get_or-map}
use lib.Seq.{take-append_seam, get_or-drop, drop-append-add}
use Rattle.coding.specs.Bytes.{Bytes}
use Rattle.coding.specs.Pieces.{columns, piece}
use Rattle.coding.specs.Placed.{digest_input, piece_digest}
use Rattle.coding.specs.Answer.{Outcome}
use Rattle.coding.specs.Nodes.{nodes_of, sound, first_length}
use Rattle.coding.specs.Join.{join}
use Rattle.coding.proofs.BytesLaws.{get_or-tabulate}
use Rattle.coding.proofs.Cases.{and-true}
use Rattle.coding.proofs.NodesLaws.{nodes-few, nodes-within, sound-rest, first-length}
use Rattle.coding.proofs.PageLaws.{all_at, all_from}
use Rattle.coding.proofs.PlacedLaws.{digest_is, input_apart}
use Rattle.coding.proofs.RoundTripLaws.{piece_in_lem, length-piece}
use Rattle.coding.proofs.JoinEndLaws.{joined-page}
use Rattle.parties.specs.declared.Measures.{Measures}
use Rattle.parties.specs.declared.Version.{Version}
use Rattle.parties.specs.protocol.Format.{write_many, write_area}
use Rattle.parties.specs.protocol.Nodes.{nodes_in, count, stands}
use Rattle.parties.specs.protocol.Pointer.{Pointer, none_pointer, write_version}
use Rattle.parties.specs.protocol.Client.{lengths, areas}
use Rattle.parties.specs.protocol.Deposit.{digests_of, pointer_of}
use Rattle.parties.specs.protocol.Reading.{same_bytes, digest_at, digest_of, matches, all_counted}
use Rattle.parties.specs.protocol.Run.{History}
use Rattle.parties.specs.protocol.Claim.{StringOf, Differ, dishonest}
use Rattle.parties.proofs.protocol.formats.FormatLaws.{Each, length_area}
use Rattle.parties.proofs.protocol.formats.MeasureLaws.{Passed}
use Rattle.parties.proofs.protocol.formats.NodeMapLaws.{nodes-all, nodes_stand, stands-listed, count-step}
use Rattle.parties.proofs.protocol.formats.ClientLaws.{ShortPiece, length-areas}
use Rattle.parties.proofs.protocol.formats.BytesWritten.{bytes-areas}
use Rattle.parties.proofs.protocol.model.Model.{ver, Model, pointed}
use Rattle.parties.proofs.protocol.invariants.Invariants.{Known, Drawing, Pointed, unnum}
use Rattle.parties.proofs.protocol.invariants.Chronicle.{Deposited}
use Rattle.parties.proofs.protocol.model.VersionNumbers.{unnum_num}
use Rattle.parties.proofs.protocol.model.PastLaws.{some_formed}
use Rattle.parties.proofs.protocol.steps.GoodLaws.{proper_passed, piece_some, piece-short}

-- ---- digests that are the same

same_bytes_lem : (s : List ℕ) → same_bytes s s ≡ true
unfolding same_bytes
same_bytes_lem [] = refl
same_bytes_lem (x ∷ s) = rw (eq-eqb x x refl) (same_bytes_lem s)

bytes_same : (s t : List ℕ) → same_bytes s t ≡ true → s ≡ t
unfolding same_bytes
bytes_same [] [] e = refl
bytes_same [] (y ∷ t) e = absurd (false≢true e)
bytes_same (x ∷ s) [] e = absurd (false≢true e)
bytes_same (x ∷ s) (y ∷ t) e =
    let a = and-true (eqb x y) _ e in λ i. eqb-true x y a.0 i ∷ bytes_same s t a.1 i

-- ---- the digest of a node in a pointer

digest_at_lem : (xs : List ℕ) (f : ℕ → List ℕ) (i s : ℕ) → s < length xs → get_or xs s 0 ≡ i → digest_at xs (map f xs) i ≡ f i
unfolding digest_at
digest_at_lem [] f i s l e = absurd (omega arith)
digest_at_lem (x ∷ xs) f i s l e = go s l e (ℕ_discrete x i) (λ s l e. digest_at_lem xs f i s l e)
  where
    go : (s : ℕ) → s < length (x ∷ xs) → get_or (x ∷ xs) s 0 ≡ i → Dec (x ≡ i)
        → ((s : ℕ) → s < length xs → get_or xs s 0 ≡ i → digest_at xs (map f xs) i ≡ f i) → digest_at (x ∷ xs) (map f (x ∷ xs)) i ≡ f i
    go s l e (yes d) ih = rw (eq-eqb x i d) (ap f d)
    go zero l e (no d) ih = absurd (d e)
    go (suc s) l e (no d) ih = rw (ne_eqb x i d) (ih s (omega arith) e)

module _ (z : Measures) (p : Passed z) (v : Version) (page : List ℕ) (nodes i : ℕ) (lo : 1 ≤ i) (up : i ≤ z.n) (named : stands nodes i ≡ true) where
  pub pointed_digest : digest_of (pointed z v page nodes) i ≡ piece_digest (write_version v) i (piece z.k page i)
  unfolding pointer_of digests_of
  pointed_digest =
      let x = stands-listed nodes i lo (omega (arith, p.nodes.1)) named in
      let e : i - 1 + 1 ≡ i = omega arith in
      digest_at_lem (nodes_in nodes) (λ j. get_or (digests_of z v page) (j - 1) []) i x.0 x.1 x.2
      ∙ get_or-tabulate z.n (λ j. piece_digest (write_version v) (j + 1) (piece z.k page (j + 1))) (i - 1) [] (omega arith)
      ∙ ap (λ (j : ℕ). piece_digest (write_version v) j (piece z.k page j)) e

  -- the piece that the deposit cut matches
  pub own_matches : length page ≤ z.k * z.f - 4 → matches z (pointed z v page nodes) i (piece z.k page i) ≡ true
  unfolding matches pointer_of
  own_matches short =
      simp (
        le-leb 1 (length (piece z.k page i)) (piece_some z p page short i),
        le-leb (length (piece z.k page i)) z.f (piece-short z p page short i),
        pointed_digest,
        same_bytes_lem (piece_digest (write_version v) i (piece z.k page i)),
      )

  -- and what matches has its digest
  pub matches-digest : (x : List ℕ) → matches z (pointed z v page nodes) i x ≡ true
      → piece_digest (write_version v) i x ≡ piece_digest (write_version v) i (piece z.k page i)
  unfolding matches pointer_of
  matches-digest x e =
      let a = and-true (leb 1 (length x)) _ e in
      let b = and-true (leb (length x) z.f) _ a.1 in
      bytes_same _ _ b.1 ∙ pointed_digest

-- ---- how many pieces match once every named node's reply is counted

-- of the nodes named, those that do not match are dishonest
matching-most : (honest : ℕ → Bool) (nodes m j : ℕ)
    → ((i : ℕ) → honest i ≡ true → 1 ≤ i → i ≤ j → stands nodes i ≡ true → stands m i ≡ true)
    → length (nodes_of nodes j) ≤ length (nodes_of m j) + dishonest honest j
matching-most honest nodes m zero h = omega (arith, nodes-few nodes 0)
matching-most honest nodes m (suc j) h =
    go (honest (suc j)) refl (stands nodes (suc j)) refl (stands m (suc j)) refl
    (matching-most honest nodes m j (λ i a lo up. h i a lo (omega arith))) (count-step nodes j) (count-step m j)
  where
    go : (a : Bool) → honest (suc j) ≡ a → (b : Bool) → stands nodes (suc j) ≡ b → (d : Bool) → stands m (suc j) ≡ d
        → length (nodes_of nodes j) ≤ length (nodes_of m j) + dishonest honest j
        → length (nodes_of nodes (suc j)) ≡ length (nodes_of nodes j) + cond b 1 0
        → length (nodes_of m (suc j)) ≡ length (nodes_of m j) + cond d 1 0
        → length (nodes_of nodes (suc j)) ≤ length (nodes_of m (suc j)) + (cond a 0 1 + dishonest honest j)
    go true ea true eb false ed ih p q = absurd (true≢false (sym (h (suc j) ea (omega arith) (omega arith) eb) ∙ ed))
    go true ea true eb true ed ih p q = omega arith
    go true ea false eb d ed ih p q = omega arith
    go false ea true eb d ed ih p q = omega arith
    go false ea false eb d ed ih p q = omega arith

module _ (z : Measures) (p : Passed z) (honest : ℕ → Bool) (few : dishonest honest z.n ≤ z.t) where
  pub enough_match : (nodes m : ℕ) → nodes < 2 ^ z.n → m < 2 ^ z.n → count nodes ≡ z.t + z.k
      → ((i : ℕ) → honest i ≡ true → 1 ≤ i → i ≤ z.n → stands nodes i ≡ true → stands m i ≡ true)
      → z.k ≤ count m
  enough_match nodes m ln lm e h =
      omega (
        arith,
        matching-most honest nodes m z.n h,
        ap length (nodes-all nodes z.n ln p.nodes.1),
        ap length (nodes-all m z.n lm p.nodes.1),
      )

-- every named node is counted
pub all-counted : (x : Pointer) (n i : ℕ) → all_counted x n ≡ true → 1 ≤ i → i ≤ 16 → stands x.named.nodes i ≡ true → stands n i ≡ true
all-counted x n i e lo up h =
    let y = stands-listed x.named.nodes i lo up h in
    ap (stands n) (sym y.2) ∙ all_at (stands n) (nodes_in x.named.nodes) e y.0 y.1

-- ---- the areas that joining takes

-- each piece stands at the front of its area
area_piece : (z : Measures) (ps : List (List ℕ)) (j : ℕ) → Each (ShortPiece z) ps → j < length ps
    → take (length (get_or ps j [])) (drop (j * z.f) (areas z ps)) ≡ get_or ps j []
unfolding write_many write_area
area_piece z [] j g l = absurd (omega arith)
area_piece z (p ∷ ps) zero g l =
    let e : 0 * z.f ≡ 0 = omega arith in
    rw e
    (ap (take (length p)) (append_assoc p (replicate (z.f - length p) 0) (areas z ps)) ∙ take-append_seam p (replicate (z.f - length p) 0 ++ areas z ps))
area_piece z (p ∷ ps) (suc j) g l =
    let a = write_area z.f (λ p. p) p in
    let e : suc j * z.f ≡ length a + j * z.f = omega (arith, suc-mul j z.f, length_area z.f (λ p. p) p g.0.1) in
    ap (take (length (get_or ps j []))) (ap (λ (x : ℕ). drop x (a ++ areas z ps)) e ∙ drop-append-add a (areas z ps) (j * z.f))
    ∙ area_piece z ps j g.1 (omega arith)

-- k pieces of a page, each in its area, join to the page
module _ (z : Measures) (p : Passed z) (page : List ℕ) (b : Bytes page) (short : length page ≤ z.k * z.f - 4) (m : ℕ) (ps : List (List ℕ))
    (bits : m < 2 ^ z.n)
    (each : Each (ShortPiece z) ps) (many : length ps ≡ z.n) (enough : z.k ≤ count m)
    (pieces : (i : ℕ) → 1 ≤ i → i ≤ z.n → stands m i ≡ true → get_or ps (i - 1) [] ≡ piece z.k page i) where
  named : nodes_in m ≡ nodes_of m z.n
  named = nodes-all m z.n bits p.nodes.1

  -- a node that matches, with its piece and its length
  node_at : (s : ℕ) → s < length (nodes_of m z.n) → (1 ≤ get_or (nodes_of m z.n) s 0) × (get_or (nodes_of m z.n) s 0 ≤ z.n)
      × (get_or ps (get_or (nodes_of m z.n) s 0 - 1) [] ≡ piece z.k page (get_or (nodes_of m z.n) s 0))
  node_at s l =
      let w = nodes-within m z.n s l in
      let t : stands m (get_or (nodes_of m z.n) s 0) ≡ true = rw named at (nodes_stand m s (rw named l)).0 in
      (w.0, w.1, pieces (get_or (nodes_of m z.n) s 0) w.0 w.1 t)

  length_at : (s : ℕ) → s < length (nodes_of m z.n) → get_or (lengths ps) (get_or (nodes_of m z.n) s 0 - 1) 0 ≡ columns z.k (length page)
  length_at s l =
      get_or-map length ps (get_or (nodes_of m z.n) s 0 - 1) [] ∙ ap length (node_at s l).2 ∙ length-piece z.k page (get_or (nodes_of m z.n) s 0)

  pub joined-reading : (out : List ℕ) → z.k * z.f - 4 ≤ length out
      → join z.n z.k z.f m (areas z ps) (lengths ps) out ≡ record { outcome = Outcome.gives (length page); out = page ++ drop (length page) out }
  joined-reading out long =
      let xs = nodes_of m z.n in
      let c = columns z.k (length page) in
      let h : z.k ≤ length xs = rw named at enough in
      let some : 0 < length xs = omega (arith, p.parts) in
      let f : c ≡ get_or (lengths ps) (get_or xs 0 0 - 1) 0 = sym (length_at 0 some) in
      let g : first_length (lengths ps) xs ≡ c = first-length (lengths ps) xs some ∙ sym f in
      let one : 1 ≤ c = rw (length-piece z.k page 1) at (piece_some z p page short 1) in
      let fits : c ≤ z.f = rw (length-piece z.k page 1) at (piece-short z p page short 1) in
      let s : sound z.f (lengths ps) xs ≡ true =
      sound-rest z.f (lengths ps) xs some c f one fits
      ∙ all_from (λ i. eqb (get_or (lengths ps) (i - 1) 0) c) (drop 1 xs)
      (λ i l.
      let d : 1 + i < length xs = omega (arith, length-drop 1 xs) in
      ap (λ (x : ℕ). eqb (get_or (lengths ps) (x - 1) 0) c) (get_or-drop 1 xs i 0)
      ∙ eq-eqb (get_or (lengths ps) (get_or xs (1 + i) 0 - 1) 0) c (length_at (1 + i) d))
      in
      let r : z.n * z.f ≤ length (areas z ps) = omega (arith, length-areas z ps each, ap (λ (x : ℕ). x * z.f) many) in
      joined-page z.n z.k z.f m (areas z ps) (lengths ps) out (bytes-areas z ps each) (proper_passed z p) r
      (omega (arith, length-map ps length, many)) long bits s h page b short
      (λ i l.
      let y = node_at i (omega arith) in
      let j = get_or xs i 0 in
      let e : length (get_or ps (j - 1) []) ≡ c = ap length y.2 ∙ length-piece z.k page j in
      rw g
      (sym y.2
      ∙ sym (area_piece z ps (j - 1) each (omega (arith, y.0, y.1, many)))
      ∙ ap (λ (x : ℕ). take x (drop ((j - 1) * z.f) (areas z ps))) e
      ∙ sym (piece_in_lem z.f (areas z ps) c j)))

-- ---- the pointer that a reading has picked is its deposit's

pub record Picked (z : Measures) (s : Model) (x : Pointer) : Type 0 where
  pub drawn : s.p.drawn (ver x) ≡ true
  pub version : unnum (ver x) ≡ x.version
  pub pointer : x ≡ pointed z x.version (s.p.pages (ver x)) x.named.nodes
  pub within : x.named.nodes < 2 ^ z.n
  pub enough : count x.named.nodes ≡ z.t + z.k
  pub bytes : Bytes (s.p.pages (ver x))
  pub long : length (s.p.pages (ver x)) ≤ z.k * z.f - 4

pub known_picked : (z : Measures) → Passed z → (s : Model) → Drawing z s → (x : Pointer) → x.version.client < z.m → Known s.p x.version.client x
    → 256 ≤ ver x → Picked z s x
unfolding pointer_of
known_picked z p s o x l (Known.absent e) h = let n : ver x ≡ 255 = ap ver e in absurd (omega arith)
known_picked z p s o x l (Known.formed d e c g) h = go (o (ver x) d).pointer
  where
    go : (s.p.pointers (ver x) ≡ none_pointer) ⊎ Pointed z s.p (ver x) → Picked z s x
    go (inl q) = absurd (some_formed s.p x e h q)
    go (inr q) =
        let y = o (ver x) d in
        let v : unnum (ver x) ≡ x.version = unnum_num x.version (omega (arith, p.clients.1)) in
        let f : x ≡ pointed z (unnum (ver x)) (s.p.pages (ver x)) q.nodes = sym e ∙ q.pointer in
        let n : x.named.nodes ≡ q.nodes = ap (λ (w : Pointer). w.named.nodes) f in
        record {
          drawn = d;
          version = v;
          pointer = f ∙ ap (λ (w : Version). pointed z w (s.p.pages (ver x)) q.nodes) v ∙ ap (pointed z x.version (s.p.pages (ver x))) (sym n);
          within = rw n q.within;
          enough = rw n q.enough;
          bytes = y.bytes;
          long = y.long;
        }

-- ---- which pieces match the pointer that a reading has picked (document 02, i)

module _ (z : Measures) (p : Passed z) (s : Model) (x : Pointer) (pick : Picked z s x) (i : ℕ) (lo : 1 ≤ i) (up : i ≤ z.n)
    (named : stands x.named.nodes i ≡ true) where
  -- its deposit's piece at the node does
  pub own_matched : (y : List ℕ) → y ≡ piece z.k (s.p.pages (ver x)) i → matches z x i y ≡ true
  own_matched y e =
      ap (matches z x i) e
      ∙ subst (λ (w : Pointer). matches z w i (piece z.k (s.p.pages (ver x)) i) ≡ true) (sym pick.pointer)
      (own_matches z p x.version (s.p.pages (ver x)) x.named.nodes i lo up named pick.long)

  -- and no other that the premise on digests is about
  pub matched_own : (h : History) → Deposited h s.p (ver x) → Differ (StringOf z h) → (y : List ℕ)
      → StringOf z h (digest_input (write_version x.version) i y) → matches z x i y ≡ true → y ≡ piece z.k (s.p.pages (ver x)) i
  matched_own h d differ y came same =
      let g = s.p.pages (ver x) in
      let v = write_version x.version in
      let cut = StringOf.cut (s.p.deposits (ver x)) i x.version g (d.begun, d.version ∙ ap some pick.version) d.page lo up refl in
      let e =
      matches-digest z p x.version g x.named.nodes i lo up named y (subst (λ (w : Pointer). matches z w i y ≡ true) pick.pointer same)
      in
      (input_apart v v i i y (piece z.k g i) refl
      (differ (digest_input v i y) (digest_input v i (piece z.k g i)) came cut (digest_is v i y ∙ e ∙ sym (digest_is v i (piece z.k g i))))).2
