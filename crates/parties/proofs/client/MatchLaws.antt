-- Laws of a reply's tests: which nodes are counted, whether bytes are the same, and where a node's digest stands.
use mathlib.Core.Path.{◌≡◌, refl, sym, ap, ◌∙◌}
use mathlib.Core.Bool.{Bool, true, false, not, ◌&&◌, true≢false}
use mathlib.Core.List.{List, [], ◌∷◌, ◌++◌, append_assoc}
use Prim.Native.Nat.{ℕ, suc, ◌+◌, ◌-◌, ◌<◌, ◌≤◌}
use native.Mathlib.Omega.{arith}
use borrow.Author.Tests.{eq-eqb, ne_eqb, le-leb, lt-leb, not-true}
use lib.Dec.{eqb}
use lib.ListN.{length, get_or, take, drop, length-append}
use lib.Pointwise.{pointwise}
use Rattle.coding.specs.Placed.{piece_digest}
use Rattle.coding.specs.Nodes.{all, nodes_of}
use Rattle.coding.proofs.Cases.{and-true}
use Rattle.coding.proofs.NodesLaws.{nodes_start, nodes_skip, nodes-more, nodes-split, nodes-within, all_none, all_one, all_append}
use Rattle.coding.proofs.PageLaws.{all_at}
use Rattle.parties.specs.declared.Version.{Version}
use Rattle.parties.specs.protocol.Nodes.{nodes_in, stands}
use Rattle.parties.specs.protocol.Pointer.{write_version}
use Rattle.parties.specs.protocol.Reading.{same_bytes, digest_at}
use Rattle.parties.proofs.protocol.formats.NodeMapLaws.{stands-listed}
use Rattle.parties.specs.client.Reply.{matches_at}
use Rattle.parties.proofs.records.NodesLaws.{bit_of}

-- ---- nodes counted

all-last : (f : ℕ → Bool) (xs : List ℕ) (x : ℕ) → all f xs ≡ true → f x ≡ true → all f (xs ++ (x ∷ [])) ≡ true
all-last f xs x e h = all_append f xs (x ∷ []) ∙ (λ i. e i && (all_one f x ∙ h) i)

module _ (named counted : ℕ) where
  pub counted_none : all (stands counted) (nodes_of named 0) ≡ true
  counted_none = ap (all (stands counted)) (nodes_start named) ∙ all_none (stands counted)

  pub counted_turn : (i : ℕ) → (stands named (i + 1) && not (stands counted (i + 1))) ≡ false
      → all (stands counted) (nodes_of named i) ≡ true → all (stands counted) (nodes_of named (i + 1)) ≡ true
  counted_turn i e a = go (stands named (i + 1)) refl (stands counted (i + 1)) refl e
    where
      go : (b : Bool) → stands named (i + 1) ≡ b → (d : Bool) → stands counted (i + 1) ≡ d → (b && not d) ≡ false
          → all (stands counted) (nodes_of named (i + 1)) ≡ true
      go false f d g e = ap (all (stands counted)) (nodes_skip named i (sym (bit_of named i) ∙ f)) ∙ a
      go true f true g e =
          ap (all (stands counted)) (nodes-more named i (sym (bit_of named i) ∙ f)) ∙ all-last (stands counted) (nodes_of named i) (i + 1) a g
      go true f false g e = absurd (true≢false e)

  pub counted-out : (i : ℕ) → 1 ≤ i → i ≤ 16 → (stands named i && not (stands counted i)) ≡ true → false ≡ all (stands counted) (nodes_in named)
  counted-out i lo up e = go (all (stands counted) (nodes_in named)) refl
    where
      go : (b : Bool) → all (stands counted) (nodes_in named) ≡ b → false ≡ b
      go false f = refl
      go true f =
          let a = and-true (stands named i) (not (stands counted i)) e in
          let x = stands-listed named i lo up a.0 in
          absurd (true≢false (sym (all_at (stands counted) (nodes_in named) f x.0 x.1) ∙ ap (stands counted) x.2 ∙ not-true (stands counted i) a.1))

-- ---- bytes that are the same

-- as the library compares them
pub same_pointwise : (s t : List ℕ) → pointwise eqb s t ≡ same_bytes s t
unfolding same_bytes
same_pointwise [] [] = refl
same_pointwise [] (y ∷ t) = refl
same_pointwise (x ∷ s) [] = refl
same_pointwise (x ∷ s) (y ∷ t) = ap (λ (b : Bool). eqb x y && b) (same_pointwise s t)

-- ---- a node's digest

digest_past : (xs b : List ℕ) (i : ℕ) (ds : List (List ℕ)) → ((s : ℕ) → s < length xs → get_or xs s 0 ≡ i → ⊥) → length xs < length ds
    → digest_at (xs ++ (i ∷ b)) ds i ≡ get_or ds (length xs) []
unfolding digest_at
digest_past [] b i [] n l = absurd (omega arith)
digest_past [] b i (d ∷ ds) n l = rw (eq-eqb i i refl) refl
digest_past (x ∷ xs) b i [] n l = absurd (omega arith)
digest_past (x ∷ xs) b i (d ∷ ds) n l =
    rw (ne_eqb x i (n 0 (omega arith))) (digest_past xs b i ds (λ s h. n (suc s) (omega arith)) (omega arith))

module _ (map i : ℕ) (lo : 1 ≤ i) (up : i ≤ 16) (named : stands map i ≡ true) where
  nodes_around : (b : List ℕ) × (nodes_in map ≡ nodes_of map (i - 1) ++ (i ∷ b))
  nodes_around =
      let x = nodes-split map i (16 - i) in
      let e : 16 ≡ i + (16 - i) = omega arith in
      let f : i ≡ i - 1 + 1 = omega arith in
      let g : i - 1 + 1 ≡ i = omega arith in
      let m : nodes_of map i ≡ nodes_of map (i - 1) ++ (i ∷ []) =
      ap (nodes_of map) f ∙ nodes-more map (i - 1) (sym (bit_of map (i - 1)) ∙ ap (stands map) g ∙ named)
      ∙ ap (λ (k : ℕ). nodes_of map (i - 1) ++ (k ∷ [])) g
      in
      (x.0, ap (nodes_of map) e ∙ x.1 ∙ ap (λ (l : List ℕ). l ++ x.0) m ∙ append_assoc (nodes_of map (i - 1)) (i ∷ []) x.0)

  -- it is one of those named
  pub rank_below : length (nodes_of map (i - 1)) < length (nodes_in map)
  rank_below =
      let x = nodes_around in omega (arith, ap length x.1, length-append (nodes_of map (i - 1)) (i ∷ x.0))

  -- its digest stands after those of the nodes below it
  pub digest-found : (ds : List (List ℕ)) → length ds ≡ length (nodes_in map)
      → digest_at (nodes_in map) ds i ≡ get_or ds (length (nodes_of map (i - 1))) []
  digest-found ds e =
      let x = nodes_around in
      ap (λ (l : List ℕ). digest_at l ds i) x.1
      ∙ digest_past (nodes_of map (i - 1)) x.0 i ds (λ s h f. omega (arith, nodes-within map (i - 1) s h)) (omega (arith, rank_below))

-- ---- a piece that matches

module _ (f : ℕ) (v : Version) (i : ℕ) (y t : List ℕ) (at : ℕ) where
  pub match_empty : length y < 1 → false ≡ matches_at f v i y t at
  unfolding matches_at
  match_empty a = simp (lt-leb 1 (length y) a)

  pub match_long : 1 ≤ length y → f < length y → false ≡ matches_at f v i y t at
  unfolding matches_at
  match_long a b = simp (le-leb 1 (length y) a, lt-leb (length y) f b)

  pub match_digest : 1 ≤ length y → length y ≤ f → (d : List ℕ) → d ≡ piece_digest (write_version v) i y → same_bytes d (take 32 (drop at t)) ≡ matches_at f v i y t at
  unfolding matches_at
  match_digest a b d e = ap (λ (l : List ℕ). same_bytes l (take 32 (drop at t))) e ∙ sym (simp (le-leb 1 (length y) a, le-leb (length y) f b))
