-- Sizes that are asked for, where the measures pass.
use mathlib.Core.Path.{◌≡◌, ap}
use mathlib.Core.Bool.{Bool, true, cond}
use Prim.Native.Nat.{ℕ}
use Rattle.parties.specs.declared.Measures.{Measures}
use Rattle.parties.specs.protocol.Measures.{passes}
use Rattle.parties.specs.Sizes.{sized}

pub sized_passed : (s : Measures) (size : ℕ) → passes s ≡ true → sized s size ≡ size
sized_passed s size h = ap (λ (b : Bool). cond b size 0) h
