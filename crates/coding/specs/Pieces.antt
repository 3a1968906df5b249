-- Pieces: how a page is framed and cut.
use Rattle.std.specs.Prelude.{ℕ, ◌+◌, ◌-◌, ◌*◌, ◌/◌, Bool, ◌&&◌, List, ◌++◌, length, replicate, nat_le, slice_index}
use Rattle.coding.specs.Field.{product, power, sum}
use Rattle.coding.specs.Bytes.{tabulate, four_bytes}

-- the measures of splitting and joining: n nodes, k pieces make the page, a piece has at most F bytes
unfoldable pub proper : ℕ → ℕ → ℕ → Bool
proper n k F = nat_le 1 n && (nat_le n 16 && (nat_le 1 k && (nat_le k n && (nat_le 1 F && (nat_le F 4096 && nat_le 4 (k * F))))))

-- the length of a piece: the fewest columns of k bytes that hold the length and the page
unfoldable pub columns : ℕ → ℕ → ℕ
columns k n = (4 + n + (k - 1)) / k

-- Frame: page length in 4 bytes, the page, then fewest zero bytes up to a multiple of k
unfoldable pub frame : ℕ → List ℕ → List ℕ
frame k page = four_bytes (length page) ++ (page ++ replicate (columns k (length page) * k - (4 + length page)) 0)

-- byte j of piece i: the sum over r from 0 to k − 1 of frame byte (jk + r) times i to the power r
unfoldable pub piece_byte : ℕ → List ℕ → ℕ → ℕ → ℕ
piece_byte k f i j = sum k (λ r. product (slice_index f (j * k + r)) (power i r))

-- piece i of a page
unfoldable pub piece : ℕ → List ℕ → ℕ → List ℕ
piece k page i = tabulate (columns k (length page)) (piece_byte k (frame k page) i)
