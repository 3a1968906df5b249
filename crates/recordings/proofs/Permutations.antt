-- Planes are a permutation of the samples' bytes, and samples of the planes'.
use mathlib.Core.Path.{◌≡◌}
use mathlib.Core.Bool.{true}
use mathlib.Core.List.{List}
use Prim.Native.Nat.{ℕ, ◌/◌}
use lib.ListN.{length, get_or}
use Rattle.coding.proofs.BytesLaws.{length-tabulate, get_or-tabulate}
use Rattle.recordings.specs.Planes.{to_samples, to_planes, planes_of, samples_of}
use Rattle.recordings.specs.Arrange.{proper}
use Rattle.recordings.specs.Permutation.{Permutes}
use Rattle.recordings.proofs.PlaceLaws.{places, places-back}
use Rattle.recordings.proofs.CountLaws.{count-turned}
use Rattle.recordings.proofs.ArrangeLaws.{whole-samples, whole-planes}

module _ (w : ℕ) (d : List ℕ) (p : proper w (length d) ≡ true) where
  pub planes_permute : Permutes (to_samples w (length d / w)) (to_planes w (length d / w)) d (planes_of w d)
  unfolding planes_of
  planes_permute =
      let L = length d in
      let N = L / w in
      record {
        same_length = length-tabulate L (λ i. get_or d (to_samples w N i) 0);
        places = places w N L (whole-samples w L p);
        bytes = λ i h. get_or-tabulate L (λ i. get_or d (to_samples w N i) 0) i 0 h;
        counts = λ b. count-turned b w N d (whole-samples w L p) (whole-planes w L p);
      }

  pub samples_permute : Permutes (to_planes w (length d / w)) (to_samples w (length d / w)) d (samples_of w d)
  unfolding samples_of
  samples_permute =
      let L = length d in
      let N = L / w in
      record {
        same_length = length-tabulate L (λ i. get_or d (to_planes w N i) 0);
        places = places-back w N L (whole-samples w L p);
        bytes = λ i h. get_or-tabulate L (λ i. get_or d (to_planes w N i) 0) i 0 h;
        counts = λ b. count-turned b N w d (whole-planes w L p) (whole-samples w L p);
      }
