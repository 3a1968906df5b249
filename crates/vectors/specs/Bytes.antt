-- Bytes to work on, and sums of them.
use Rattle.std.specs.Prelude.{cond, List, [], ◌∷◌, ◌++◌, ℕ, zero, suc, ◌+◌, ◌*◌, ◌/◌, ◌%◌, ltb, length}

-- what stands at a place
abbrev pub poison_at : ℕ → ℕ
poison_at i = (i % 256 * 13 + 170) % 256

-- at the first places, so many of them
unfoldable pub poison_of : ℕ → List ℕ
poison_of zero = []
poison_of (suc n) = poison_of n ++ (poison_at n ∷ [])

-- the sum so far, with one byte more
abbrev pub summed : ℕ → ℕ → ℕ
summed h b = (h * 257 + b + 1) % 4294967296

unfoldable pub checksum_from : ℕ → List ℕ → ℕ
checksum_from h [] = h
checksum_from h (b ∷ s) = checksum_from (summed h b) s

-- a sum that goes on with the bytes of another slice
abbrev pub chained_from : ℕ → List ℕ → ℕ
chained_from h s = (h % 4294967296 * 31 + checksum_from 0 s) % 4294967296

-- a digit in hexadecimal: `0` to `9`, `a` to `f`
abbrev pub hex_digit : ℕ → ℕ
hex_digit d = cond (ltb d 10) (48 + d) (87 + d)

-- a byte: two digits
abbrev pub hex_pair : ℕ → List ℕ
hex_pair b = hex_digit (b / 16) ∷ hex_digit (b % 16) ∷ []

unfoldable pub hex_of : List ℕ → List ℕ
hex_of [] = []
hex_of (b ∷ s) = hex_pair b ++ hex_of s

-- the bytes after a space, if there are no more than that
abbrev pub few_of : ℕ → List ℕ → List ℕ
few_of most s = cond (ltb most (length s)) [] (32 ∷ hex_of s)
