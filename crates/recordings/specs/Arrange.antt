-- Rearranging: the answer and the output after it.
use Rattle.std.specs.Prelude.{List, Bool, cond, ◌&&◌, ℕ, ◌%◌, length, leb, ltb, eqb}
use Rattle.std.proofs.Math.Seq.{paste}
use Rattle.recordings.specs.Planes.{planes_of, samples_of}
use Rattle.recordings.specs.Answer.{Outcome}

pub record ArrangeEnd : Type 0 where
  pub outcome : Outcome
  pub out : List ℕ

-- the widest sample, in bytes
abbrev pub widest : ℕ
widest = 8

-- a width of 1 to 8, and a length that is a multiple of it
abbrev pub proper : ℕ → ℕ → Bool
proper w len = leb 1 w && leb w widest && eqb (len % w) 0

-- the data in another order stands at the front of the output, and what lies beyond it is as it was
unfoldable pub arrange : (ℕ → List ℕ → List ℕ) → ℕ → List ℕ → List ℕ → ArrangeEnd
arrange order w d out =
    cond (ltb (length out) (length d)) (record { outcome = Outcome.refuses 2; out = out })
    (cond (proper w (length d))
    (record { outcome = Outcome.done; out = paste out 0 (order w d) (length d) })
    (record { outcome = Outcome.refuses 15; out = out }))

abbrev pub planes : ℕ → List ℕ → List ℕ → ArrangeEnd
planes = arrange planes_of

abbrev pub samples : ℕ → List ℕ → List ℕ → ArrangeEnd
samples = arrange samples_of
