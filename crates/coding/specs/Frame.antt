-- The frame by position, without its list: what the private functions of splitting cite.
use Rattle.std.specs.Prelude.{ℕ, List, ◌++◌, length, slice_index}
use Rattle.coding.specs.Bytes.{four_bytes}

-- a byte of the length or of the page, and 0 past them
abbrev pub frame_byte : List ℕ → ℕ → ℕ
frame_byte page p = slice_index (four_bytes (length page) ++ page) p
