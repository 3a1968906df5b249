-- A refused call leaves the output as it was.
use mathlib.Core.Path.{◌≡◌, refl, ap}
use mathlib.Core.Bool.{Bool, true, false, cond, false≢true}
use mathlib.Core.List.{List}
use Prim.Native.Nat.{ℕ}
use lib.ListN.{length}
use lib.Dec.{ltb}
use lib.Seq.{paste}
use Rattle.recordings.specs.Planes.{planes_of, samples_of}
use Rattle.recordings.specs.Answer.{Outcome}
use Rattle.recordings.specs.Arrange.{ArrangeEnd, proper, arrange, planes, samples}

refusal : Outcome → Bool
refusal Outcome.done = false
refusal (Outcome.refuses n) = true

differ : (n : ℕ) → Outcome.done ≡ Outcome.refuses n → ⊥
unfolding refusal
differ n e = false≢true (ap refusal e)

arrange-kept : (order : ℕ → List ℕ → List ℕ) (w : ℕ) (d out : List ℕ) (n : ℕ) → (arrange order w d out).outcome ≡ Outcome.refuses n
    → (arrange order w d out).out ≡ out
unfolding arrange
arrange-kept order w d out n = go (ltb (length out) (length d)) (proper w (length d))
  where
    end : Bool → Bool → ArrangeEnd
    end a b =
        cond a (record { outcome = Outcome.refuses 2; out = out })
        (cond b
        (record { outcome = Outcome.done; out = paste out 0 (order w d) (length d) })
        (record { outcome = Outcome.refuses 15; out = out }))

    go : (a b : Bool) → (end a b).outcome ≡ Outcome.refuses n → (end a b).out ≡ out
    go true b e = refl
    go false false e = refl
    go false true e = absurd (differ n e)

pub planes-kept : (w : ℕ) (d out : List ℕ) (n : ℕ) → (planes w d out).outcome ≡ Outcome.refuses n → (planes w d out).out ≡ out
planes-kept = arrange-kept planes_of

pub samples-kept : (w : ℕ) (d out : List ℕ) (n : ℕ) → (samples w d out).outcome ≡ Outcome.refuses n → (samples w d out).out ≡ out
samples-kept = arrange-kept samples_of
