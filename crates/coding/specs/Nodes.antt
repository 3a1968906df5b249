-- The nodes that a bit map names, and the lengths of their pieces.
use Rattle.std.specs.Prelude.{ℕ, zero, suc, ◌-◌, ◌/◌, ◌%◌, ◌^◌, Bool, true, cond, ◌&&◌, List, [], ◌∷◌, ◌++◌, ◌==◌, nat_eq, nat_le, slice_index}

unfoldable pub all : (ℕ → Bool) → List ℕ → Bool
all f [] = true
all f (x ∷ xs) = f x && all f xs

-- the nodes 1 to n whose bit stands, ascending: bit i − 1 is node i's
unfoldable pub nodes_of : ℕ → ℕ → List ℕ
nodes_of present zero = []
nodes_of present (suc i) = nodes_of present i ++ cond (present / 2 ^ i % 2 == 1) (suc i ∷ []) []

-- the pieces of the nodes have one length, from 1 to F; that of node i is entry i − 1
unfoldable pub sound : ℕ → List ℕ → List ℕ → Bool
unfolding all
sound F lens [] = true
sound F lens (x ∷ xs) =
    nat_le 1 (slice_index lens (x - 1)) && (nat_le (slice_index lens (x - 1)) F && all (λ i. nat_eq (slice_index lens (i - 1)) (slice_index lens (x - 1))) xs)

-- the length of the first node's piece
unfoldable pub first_length : List ℕ → List ℕ → ℕ
first_length lens [] = 0
first_length lens (x ∷ xs) = slice_index lens (x - 1)
