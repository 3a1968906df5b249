-- The measures, and the lengths that follow from them.
use Rattle.std.specs.Prelude.{Bool, ◌&&◌, ℕ, ◌+◌, ◌*◌, leb}
use Rattle.parties.specs.declared.Measures.{Measures}

-- m clients, n nodes, k pieces make a page, t nodes may be dishonest, a piece has at most f bytes
unfoldable pub passes : Measures → Bool
passes s =
    leb 1 s.m && (leb s.m 8 && (leb 1 s.n && (leb s.n 16 && (leb 1 s.k && (leb (2 * s.t + s.k) s.n
    && (leb 1 s.f && (leb s.f 4096 && leb 4 (s.k * s.f))))))))

-- the longest pointer: version, bit map and t + k digests
abbrev pub pointer_size : Measures → ℕ
pointer_size s = 7 + 32 * (s.t + s.k)

-- a directory row's area
abbrev pub row_size : Measures → ℕ
row_size s = 1 + (s.m + 1) * pointer_size s + 4 * s.m + 4

-- a node table's places, and the bytes of one
abbrev pub places : Measures → ℕ
places s = 2 * (s.m * s.m)

abbrev pub place_size : Measures → ℕ
place_size s = 7 + s.f
