-- A reading's steps (Algorithm 2) on a client's record.
use Rattle.std.specs.Prelude.{Bool, true, false, cond, not, ◌&&◌, ◌||◌, List, [], ◌∷◌, ℕ, leb, ltb, eqb, length, get_or}
use Rattle.std.proofs.Math.Option.{Option, some, none}
use Rattle.coding.specs.Nodes.{all}
use Rattle.coding.specs.Placed.{piece_digest}
use Rattle.parties.specs.declared.Measures.{Measures}
use Rattle.parties.specs.declared.ReadingIndex.{ReadingIndex}
use Rattle.parties.specs.declared.Version.{Version}
use Rattle.parties.specs.protocol.Version.{below}
use Rattle.parties.specs.protocol.Nodes.{nodes_in, stands}
use Rattle.parties.specs.protocol.Pointer.{Pointer, none_pointer, write_version}
use Rattle.parties.specs.protocol.Directory.{Content, indices_of, Row}

-- dir-Update | c, (*, *, *, readindex)
abbrev pub reading_fields : ReadingIndex → List (Option Content)
reading_fields i = none ∷ none ∷ none ∷ some (indices_of (i ∷ [])) ∷ []

-- of a row, the written pointer if the index exceeds the row's frozen index for this client, else its frozen pointer
abbrev pub candidate : ℕ → ReadingIndex → Row → Pointer
candidate own i r =
    cond (ltb (get_or r.frozen_indices own (record { 0 = 0 })).0 i.0) r.written (get_or r.frozen own none_pointer)

-- highestread(M, c, readindex): the highest version wins, on a tie the lowest row's
unfoldable pub pick : ℕ → ReadingIndex → List Row → Pointer
pick own i [] = none_pointer
pick own i (r ∷ l) = cond (below (candidate own i r).version (pick own i l).version) (pick own i l) (candidate own i r)

abbrev pub same_version : Version → Version → Bool
same_version v w = not (below v w || below w v)

unfoldable pub same_bytes : List ℕ → List ℕ → Bool
same_bytes [] [] = true
same_bytes [] (y ∷ t) = false
same_bytes (x ∷ s) [] = false
same_bytes (x ∷ s) (y ∷ t) = eqb x y && same_bytes s t

-- readptr.hash[i]: the digest that stands for a node, where digests stand for the nodes in order
unfoldable pub digest_at : List ℕ → List (List ℕ) → ℕ → List ℕ
digest_at [] ds i = []
digest_at (x ∷ xs) [] i = []
digest_at (x ∷ xs) (d ∷ ds) i = cond (eqb x i) d (digest_at xs ds i)

abbrev pub digest_of : Pointer → ℕ → List ℕ
digest_of p i = digest_at (nodes_in p.named.nodes) p.named.digests i

-- vts = readptr.ts ∧ readlist[i] = ⊥: the first reply of a named node with this version
abbrev pub counts : Pointer → ℕ → ℕ → Version → Bool
counts p counted i v = same_version v p.version && (stands p.named.nodes i && not (stands counted i))

-- v ≠ ⊥ ∧ H(v) = readptr.hash[i]; a piece of 0 or over F bytes never matches
unfoldable pub matches : Measures → Pointer → ℕ → List ℕ → Bool
matches s p i piece =
    leb 1 (length piece) && (leb (length piece) s.f && same_bytes (piece_digest (write_version p.version) i piece) (digest_of p i))

-- every named node's reply is counted
abbrev pub all_counted : Pointer → ℕ → Bool
all_counted p counted = all (stands counted) (nodes_in p.named.nodes)
