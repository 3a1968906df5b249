-- The two ways out of a digest into an output.
use mathlib.Core.Path.{◌≡◌}
use mathlib.Core.List.{List}
use Prim.Native.Nat.{ℕ, ◌<◌, ◌≤◌}
use borrow.Author.Tests.{lt-ltb, le-ltb}
use lib.ListN.{length}
use lib.Seq.{paste}
use Rattle.coding.specs.Answer.{gives}
use Rattle.coding_export.specs.Digest.{short, into}

pub into-short : (out d : List ℕ) → length out < 32 → into out d ≡ short out
unfolding into
into-short out d h = rw (lt-ltb (length out) 32 h)

pub into-done : (out d : List ℕ) → 32 ≤ length out → into out d ≡ record { outcome = gives 0; out = paste out 0 d 32 }
unfolding into
into-done out d h = rw (le-ltb (length out) 32 h)
