-- Splitting, whole and one piece alone: the answer and the room after it.
use Rattle.std.specs.Prelude.{ℕ, zero, suc, ◌-◌, ◌*◌, cond, ◌&&◌, List, length, nat_le, nat_lt}
use Rattle.std.proofs.Math.Seq.{paste}
use Rattle.coding.specs.Pieces.{proper, columns, piece}
use Rattle.coding.specs.Answer.{Outcome}

pub record SplitEnd : Type 0 where
  pub outcome : Outcome
  pub room : List ℕ

-- the room begins with n areas of F bytes: piece i stands at the front of area i, and what lies beyond it is as it was
unfoldable pub written : ℕ → ℕ → List ℕ → List ℕ → ℕ → List ℕ
written k F page room zero = room
written k F page room (suc i) = paste (written k F page room i) (i * F) (piece k page (suc i)) (columns k (length page))

unfoldable pub split : ℕ → ℕ → ℕ → List ℕ → List ℕ → SplitEnd
split n k F page room =
    cond (proper n k F)
    (cond (nat_lt (length room) (n * F)) (record { outcome = Outcome.refuses 2; room = room })
    (cond (nat_lt (k * F - 4) (length page)) (record { outcome = Outcome.refuses 6; room = room })
    (record { outcome = Outcome.gives (columns k (length page)); room = written k F page room n })))
    (record { outcome = Outcome.refuses 1; room = room })

-- Document 02 (d), one node's piece cut alone: it stands at the front of a room of F bytes, and what lies beyond it is as it was
unfoldable pub cut : ℕ → ℕ → ℕ → ℕ → List ℕ → List ℕ → SplitEnd
cut n k F i page room =
    cond (proper n k F)
    (cond (nat_lt (length room) F) (record { outcome = Outcome.refuses 2; room = room })
    (cond (nat_le 1 i && nat_le i n)
    (cond (nat_lt (k * F - 4) (length page)) (record { outcome = Outcome.refuses 6; room = room })
    (record { outcome = Outcome.gives (columns k (length page)); room = paste room 0 (piece k page i) (columns k (length page)) }))
    (record { outcome = Outcome.refuses 3; room = room })))
    (record { outcome = Outcome.refuses 1; room = room })
