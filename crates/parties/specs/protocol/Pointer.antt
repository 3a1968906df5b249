-- Pointers.
use Rattle.std.specs.Prelude.{Bool, true, ◌&&◌, ◌||◌, List, [], ◌∷◌, ◌++◌, ℕ, ◌+◌, ◌^◌, leb, ltb, eqb, length}
use Rattle.parties.specs.declared.Measures.{Measures}
use Rattle.parties.specs.declared.Version.{Version}
use Rattle.parties.specs.protocol.Format.{Reader, both, given, read_number, write_number, read_bytes, read_many, write_many}
use Rattle.parties.specs.protocol.Version.{no_client, no_version}
use Rattle.parties.specs.protocol.Nodes.{nodes_in}

-- a version in 5 bytes: the sequence in 4, the client in 1
unfoldable pub read_version : Reader Version
read_version = both (read_number 4) (λ q. read_number 1) (λ q c. record { sequence = record { 0 = q }; client = c })

unfoldable pub write_version : Version → List ℕ
write_version v = write_number 4 v.sequence.0 ++ write_number 1 v.client

-- a two-byte bit map of nodes (bit i − 1 for node i), then a digest of 32 bytes for each node whose bit stands, ascending
pub record Named : Type 0 where
  pub nodes : ℕ
  pub digests : List (List ℕ)

pub record Pointer : Type 0 where
  pub version : Version
  pub named : Named

-- none: sequence 0, client 255, empty map
abbrev pub none_pointer : Pointer
none_pointer = record { version = no_version; named = record { nodes = 0; digests = [] } }

abbrev pub is_none : Pointer → Bool
is_none p = eqb p.version.sequence.0 0 && (eqb p.version.client no_client && eqb p.named.nodes 0)

-- a pointer is none, or has sequence at least 1, client below m and exactly t + k bits, all for nodes 1 to n
unfoldable pub proper_pointer : Measures → Pointer → Bool
proper_pointer s p =
    is_none p
    || (leb 1 p.version.sequence.0 && (ltb p.version.client s.m
    && (eqb (length (nodes_in p.named.nodes)) (s.t + s.k) && ltb p.named.nodes (2 ^ s.n))))

-- every pointer passes a test
unfoldable pub all_pointers : (Pointer → Bool) → List Pointer → Bool
all_pointers test [] = true
all_pointers test (p ∷ l) = test p && all_pointers test l

unfoldable pub read_named : Reader Named
read_named = both (read_number 2) (λ map. read_many (read_bytes 32) (length (nodes_in map))) (λ map ds. record { nodes = map; digests = ds })

unfoldable pub write_named : Named → List ℕ
write_named x = write_number 2 x.nodes ++ write_many (λ d. d) x.digests

-- a pointer by its length alone: 7 bytes, and 32 for each standing bit of its node map
abbrev pub read_any_pointer : Reader Pointer
read_any_pointer = both read_version (λ v. read_named) (λ v x. record { version = v; named = x })

unfoldable pub read_pointer : Measures → Reader Pointer
read_pointer s = given (proper_pointer s) read_any_pointer

unfoldable pub write_pointer : Pointer → List ℕ
write_pointer p = write_version p.version ++ write_named p.named
