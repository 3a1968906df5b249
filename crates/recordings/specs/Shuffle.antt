-- What the private functions of samples of three bytes say: a block of 48 bytes whose halves are interleaved.
use Rattle.std.specs.Prelude.{ℕ, ◌+◌, ◌*◌, ◌/◌, ◌%◌}

-- where in its block the byte came from that a shuffle brings to place m
abbrev pub shuffled : ℕ → ℕ
shuffled m = m / 2 + m % 2 * 24

-- the same in a row of blocks
abbrev pub in_blocks : (ℕ → ℕ) → ℕ → ℕ
in_blocks f m = m / 48 * 48 + f (m % 48)
