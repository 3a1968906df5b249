-- Versions as numbers: a version whose client fits a byte is told by its number, and the order of versions is that of the numbers.
use mathlib.Core.Path.{◌≡◌, refl, sym, ◌∙◌}
use mathlib.Core.Bool.{Bool, true, false}
use Prim.Native.Nat.{◌/◌, ◌%◌, ◌<◌}
use native.Mathlib.Decide.{dec_lt}
use native.Mathlib.Omega.{arith}
use borrow.Author.Tests.{lt-ltb, le-ltb}
use lib.Dec.{ltb}
use Rattle.parties.specs.declared.Version.{Version}
use Rattle.parties.specs.protocol.Version.{below}
use Rattle.parties.proofs.protocol.formats.VersionLaws.{Below, below_true, true_below}
use Rattle.parties.proofs.protocol.model.Model.{num}
use Rattle.parties.proofs.protocol.invariants.Invariants.{unnum}

pub num_client : (v : Version) → v.client < 256 → num v % 256 ≡ v.client
num_client v h = omega arith

pub num_sequence : (v : Version) → v.client < 256 → num v / 256 ≡ v.sequence.0
num_sequence v h = omega arith

pub unnum_num : (v : Version) → v.client < 256 → unnum (num v) ≡ v
unnum_num v h = λ i. record { sequence = record { 0 = num_sequence v h i }; client = num_client v h i }

module _ (a b : Version) (h : a.client < 256) (k : b.client < 256) where
  pub num_eq : num a ≡ num b → a ≡ b
  num_eq e =
      let q : a.sequence.0 ≡ b.sequence.0 = omega arith in
      let c : a.client ≡ b.client = omega arith in
      λ i. record { sequence = record { 0 = q i }; client = c i }

  pub num_less : Below a b → num a < num b
  num_less (Below.earlier l) = omega arith
  num_less (Below.beside q l) = omega arith

  pub less_num : num a < num b → Below a b
  less_num l = go (dec_lt a.sequence.0 b.sequence.0)
    where
      go : Dec (a.sequence.0 < b.sequence.0) → Below a b
      go (yes q) = Below.earlier q
      go (no q) = Below.beside (omega arith) (omega arith)

  pub below_num : below a b ≡ ltb (num a) (num b)
  below_num = go (below a b) refl (dec_lt (num a) (num b))
    where
      go : (x : Bool) → below a b ≡ x → Dec (num a < num b) → below a b ≡ ltb (num a) (num b)
      go x e (yes l) = true_below a b (less_num l) ∙ sym (lt-ltb (num a) (num b) l)
      go true e (no l) = absurd (l (num_less (below_true a b e)))
      go false e (no l) = e ∙ sym (le-ltb (num a) (num b) (omega arith))
