-- The part of a field that its pointer takes.
use Rattle.std.specs.Prelude.{cond, List, ℕ, ◌+◌, ◌*◌, ltb, get_or, take}
use Rattle.parties.specs.protocol.Nodes.{count}
use Rattle.parties.specs.declared.ReadingIndex.{ReadingIndex}

-- a pointer's bit map stands after the 5 bytes of its version
abbrev pub map_of : List ℕ → ℕ
map_of s = get_or s 5 0 * 256 + get_or s 6 0

-- version, bit map and 32 bytes for each node; all of the bytes if there are fewer
unfoldable pub pointer_part : List ℕ → List ℕ
pointer_part s = take (7 + 32 * count (map_of s)) s

-- the written pointer if the index exceeds the frozen index, else the frozen pointer
abbrev pub picked_part : List ℕ → List ℕ → ReadingIndex → ReadingIndex → List ℕ
picked_part written frozen i frozen_index = cond (ltb frozen_index.0 i.0) (pointer_part written) (pointer_part frozen)
