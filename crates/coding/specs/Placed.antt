-- The digest of a placed piece: SHA-256 of its version, its node and its bytes.
use Rattle.std.specs.Prelude.{ℕ, List, ◌∷◌, ◌++◌}
use Rattle.coding.specs.Sha256.{sha256}

-- what is digested of the piece of a version (its 5 bytes) at a node (1 byte): document 02 (i)
unfoldable pub digest_input : List ℕ → ℕ → List ℕ → List ℕ
digest_input version node piece = version ++ (node ∷ piece)

unfoldable pub piece_digest : List ℕ → ℕ → List ℕ → List ℕ
piece_digest version node piece = sha256 (digest_input version node piece)
