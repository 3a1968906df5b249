-- A data node's table.
use Rattle.std.specs.Prelude.{Bool, ◌&&◌, List, ◌++◌, map, ℕ, ◌-◌, ◌*◌, leb, ltb, length, replicate}
use Rattle.parties.specs.declared.Measures.{Measures}
use Rattle.parties.specs.declared.Version.{Version}
use Rattle.parties.specs.protocol.Format.{Reader, both, given, read_number, write_number, read_bytes, read_many, write_many, read_zeros, read_area, write_area}
use Rattle.parties.specs.protocol.Measures.{places, place_size}
use Rattle.parties.specs.protocol.Version.{ascending}
use Rattle.parties.specs.protocol.Pointer.{read_version, write_version}

-- a piece that a node holds
pub record Held : Type 0 where
  pub version : Version
  pub piece : List ℕ

-- a filled place has sequence at least 1, client below m and length 1 to F
abbrev pub proper_held : Measures → Held → Bool
proper_held s h = leb 1 h.version.sequence.0 && (ltb h.version.client s.m && (leb 1 (length h.piece) && leb (length h.piece) s.f))

-- length in 2 bytes, then the piece
unfoldable pub read_piece : Reader (List ℕ)
read_piece = both (read_number 2) (λ n. read_bytes n) (λ n p. p)

unfoldable pub write_piece : List ℕ → List ℕ
write_piece p = write_number 2 (length p) ++ p

unfoldable pub read_held : Measures → Reader Held
read_held s = given (proper_held s) (both read_version (λ v. read_piece) (λ v p. record { version = v; piece = p }))

unfoldable pub write_held : Held → List ℕ
write_held h = write_version h.version ++ write_piece h.piece

-- strictly ascending by version
abbrev pub in_order : List Held → Bool
in_order l = ascending (map (λ h. h.version) l)

-- the filled places, in areas of 7 + F bytes
unfoldable pub read_places : Measures → ℕ → Reader (List Held)
read_places s n = given in_order (read_many (read_area (place_size s) (read_held s) write_held) n)

unfoldable pub write_places : Measures → List Held → List ℕ
write_places s = write_many (write_area (place_size s) write_held)

-- a node table is a count (2 bytes), then 2m² places, filled from the front; the rest is zero
unfoldable pub read_table : Measures → Reader (List Held)
read_table s =
    both (given (λ n. leb n (places s)) (read_number 2))
    (λ n. both (read_places s n) (λ l. read_zeros ((places s - n) * place_size s)) (λ l z. l))
    (λ n l. l)

unfoldable pub write_table : Measures → List Held → List ℕ
write_table s l = write_number 2 (length l) ++ (write_places s l ++ replicate ((places s - length l) * place_size s) 0)
