-- A bit map of nodes, as pointers and client records have it: bit i − 1 for node i.
use Rattle.std.specs.Prelude.{Bool, cond, List, ℕ, ◌+◌, ◌-◌, ◌/◌, ◌%◌, ◌^◌, eqb, length}
use Rattle.coding.specs.Nodes.{nodes_of}

-- the nodes 1 to 16 that a bit map names, ascending
abbrev pub nodes_in : ℕ → List ℕ
nodes_in map = nodes_of map 16

abbrev pub count : ℕ → ℕ
count map = length (nodes_in map)

-- a node's bit stands
unfoldable pub stands : ℕ → ℕ → Bool
stands map i = eqb (map / 2 ^ (i - 1) % 2) 1

-- the map in which a node's bit stands too
unfoldable pub with_node : ℕ → ℕ → ℕ
unfolding stands
with_node map i = cond (stands map i) map (map + 2 ^ (i - 1))
