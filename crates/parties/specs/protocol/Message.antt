-- Messages between clients and nodes. Their bytes are free: a tag byte, then the fields; a piece and a list end where the message
-- ends, so that neither has a length of its own.
use Rattle.std.specs.Prelude.{Bool, cond, ◌&&◌, List, [], ◌∷◌, ◌++◌, ℕ, ◌/◌, leb, ltb, eqb, length}
use Rattle.std.proofs.Math.Option.{Option, some, none}
use Rattle.parties.specs.declared.Measures.{Measures}
use Rattle.parties.specs.declared.Version.{Version}
use Rattle.parties.specs.protocol.Format.{Reader, given, read_many, write_many, chain, whole, end_with}
use Rattle.parties.specs.protocol.Version.{ascending}
use Rattle.parties.specs.protocol.Pointer.{read_version, write_version}

-- each version named has sequence at least 1 and client below m
abbrev pub proper_version : Measures → Version → Bool
proper_version s v = leb 1 v.sequence.0 && ltb v.client s.m

unfoldable pub read_proper : Measures → Reader Version
read_proper s = given (proper_version s) read_version

-- to a node: keep a piece, hand one back, drop the listed versions
pub data ToNode : Type 0 where
  store : Version → List ℕ → ToNode
  request : Version → ToNode
  free : List Version → ToNode

-- to a client: a piece is stored, listed versions are dropped, a piece, or "not held"
pub data ToClient : Type 0 where
  stored : Version → ToClient
  freed : ToClient
  reply : Version → List ℕ → ToClient
  missing : Version → ToClient

-- the first byte of each
abbrev pub store_tag : ℕ
store_tag = 1

abbrev pub request_tag : ℕ
request_tag = 2

abbrev pub free_tag : ℕ
free_tag = 3

abbrev pub stored_tag : ℕ
stored_tag = 4

abbrev pub freed_tag : ℕ
freed_tag = 5

abbrev pub reply_tag : ℕ
reply_tag = 6

-- a piece to store has 1 to F bytes
abbrev pub read_stored : Measures → List ℕ → Option (List ℕ)
read_stored s p = cond (leb 1 (length p) && leb (length p) s.f) (some p) none

-- a list to drop is strictly ascending and may be empty
unfoldable pub read_versions : Measures → List ℕ → Option (List Version)
read_versions s b = whole (given ascending (read_many (read_proper s) (length b / 5))) b

-- a piece of any length after a 1, or "not held" as a 0 alone
abbrev pub read_answer : List ℕ → Option (Option (List ℕ))
read_answer [] = none
read_answer (b ∷ p) = cond (eqb b 1) (some (some p)) (cond (eqb b 0 && eqb (length p) 0) (some none) none)

abbrev pub answer : Version → Option (List ℕ) → ToClient
answer v none = missing v
answer v (some p) = reply v p

unfoldable pub read_to_node : Measures → List ℕ → Option ToNode
read_to_node s [] = none
read_to_node s (tag ∷ b) =
    cond (eqb tag store_tag) (end_with (read_proper s) (λ v. read_stored s) store b)
    (cond (eqb tag request_tag) (chain (whole (read_proper s) b) (λ v. some (request v)))
    (cond (eqb tag free_tag) (chain (read_versions s b) (λ l. some (free l))) none))

unfoldable pub write_to_node : ToNode → List ℕ
write_to_node (store v p) = store_tag ∷ (write_version v ++ p)
write_to_node (request v) = request_tag ∷ write_version v
write_to_node (free l) = free_tag ∷ write_many write_version l

unfoldable pub read_to_client : Measures → List ℕ → Option ToClient
read_to_client s [] = none
read_to_client s (tag ∷ b) =
    cond (eqb tag stored_tag) (chain (whole (read_proper s) b) (λ v. some (stored v)))
    (cond (eqb tag freed_tag) (cond (eqb (length b) 0) (some freed) none)
    (cond (eqb tag reply_tag) (end_with (read_proper s) (λ v. read_answer) answer b) none))

unfoldable pub write_to_client : ToClient → List ℕ
write_to_client (stored v) = stored_tag ∷ write_version v
write_to_client freed = freed_tag ∷ []
write_to_client (reply v p) = reply_tag ∷ (write_version v ++ (1 ∷ p))
write_to_client (missing v) = reply_tag ∷ (write_version v ++ (0 ∷ []))
