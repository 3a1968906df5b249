-- The edges of document 02 (l).
use Rattle.std.specs.Prelude.{◌≡◌, List, [], ◌∷◌, ℕ, ◌<◌, ◌≤◌, length}
use Rattle.recordings.specs.Planes.{planes_of, samples_of}
use Rattle.recordings.specs.Answer.{Outcome}
use Rattle.recordings.specs.Arrange.{planes, samples}

pub record Edges : Type 0 where
  -- two samples of 24 bits: all first bytes, then all second, then all third
  pub two : planes_of 3 (0xA1 ∷ 0xA2 ∷ 0xA3 ∷ 0xB1 ∷ 0xB2 ∷ 0xB3 ∷ []) ≡ 0xA1 ∷ 0xB1 ∷ 0xA2 ∷ 0xB2 ∷ 0xA3 ∷ 0xB3 ∷ []
  pub back : samples_of 3 (0xA1 ∷ 0xB1 ∷ 0xA2 ∷ 0xB2 ∷ 0xA3 ∷ 0xB3 ∷ []) ≡ 0xA1 ∷ 0xA2 ∷ 0xA3 ∷ 0xB1 ∷ 0xB2 ∷ 0xB3 ∷ []
  -- no bytes at all are proper, and nothing is written
  pub none : (w : ℕ) (out : List ℕ) → 1 ≤ w → w ≤ 8 → planes w [] out ≡ record { outcome = Outcome.done; out = out }
  pub none-back : (w : ℕ) (out : List ℕ) → 1 ≤ w → w ≤ 8 → samples w [] out ≡ record { outcome = Outcome.done; out = out }
  -- but a width of 0 or over 8 is not, with no bytes either
  pub narrow : (out : List ℕ) → (planes 0 [] out).outcome ≡ Outcome.refuses 15
  pub wide : (w : ℕ) (out : List ℕ) → 8 < w → (planes w [] out).outcome ≡ Outcome.refuses 15
  -- 2 comes before 15
  pub first : (w : ℕ) (d out : List ℕ) → length out < length d → (planes w d out).outcome ≡ Outcome.refuses 2
