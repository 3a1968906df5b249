-- Digests into an output: the answer and the output after it.
use Rattle.std.specs.Prelude.{List, cond, ℕ, length, take, ltb}
use Rattle.std.proofs.Math.Seq.{paste}
use Rattle.coding.specs.Answer.{Outcome, gives, refuses}
use Rattle.coding.specs.Sha256.{sha256}
use Rattle.coding.specs.Placed.{piece_digest}

pub record DigestEnd : Type 0 where
  pub outcome : Outcome
  pub out : List ℕ

-- refused for a slice that is too short: the output is as it was
abbrev pub short : List ℕ → DigestEnd
short out = record { outcome = refuses 2; out = out }

-- the digest d stands in the first 32 bytes, and the rest of the output is as it was
unfoldable pub into : List ℕ → List ℕ → DigestEnd
into out d = cond (ltb (length out) 32) (short out) (record { outcome = gives 0; out = paste out 0 d 32 })

unfoldable pub digest : List ℕ → List ℕ → DigestEnd
digest s out = into out (sha256 s)

-- the version is the first five bytes of its slice
unfoldable pub digest_placed : List ℕ → ℕ → List ℕ → List ℕ → DigestEnd
digest_placed version node piece out =
    cond (ltb (length version) 5) (short out) (into out (piece_digest (take 5 version) node piece))
