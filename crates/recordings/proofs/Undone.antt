-- Planes and samples undo each other: as lists, and as calls.
use mathlib.Core.Path.{◌≡◌, sym, ap, ◌∙◌}
use mathlib.Core.Bool.{true}
use mathlib.Core.List.{List}
use Prim.Native.Nat.{ℕ, ◌/◌, ◌<◌, ◌≤◌}
use native.Mathlib.Nat.{zero-add, le_of_eq}
use native.Mathlib.Omega.{arith}
use lib.ListN.{length, get_or, take, drop}
use lib.Seq.{paste, take-paste, drop-paste, take_all, ext_get_or}
use Rattle.recordings.specs.Planes.{to_samples, to_planes, planes_of, samples_of}
use Rattle.recordings.specs.Answer.{Outcome}
use Rattle.recordings.specs.Arrange.{ArrangeEnd, proper, arrange, planes, samples}
use Rattle.recordings.specs.Recording.{sample_width, rearrange, restore}
use Rattle.recordings.specs.Undoing.{Undoes}
use Rattle.recordings.proofs.ArrangeLaws.{arrange-done}
use Rattle.recordings.proofs.Permutations.{planes_permute, samples_permute}

module _ (w : ℕ) (d : List ℕ) (p : proper w (length d) ≡ true) where
  pub samples_of_planes : samples_of w (planes_of w d) ≡ d
  samples_of_planes =
      let a = planes_permute w d p in
      let L : length (planes_of w d) ≡ length d = a.same_length in
      let b = samples_permute w (planes_of w d) (rw L p) in
      ext_get_or 0 _ d (b.same_length ∙ L)
      (λ i h.
      let hd : i < length d = rw (b.same_length ∙ L) at h in
      b.bytes i (rw L hd)
      ∙ ap (λ (n : ℕ). get_or (planes_of w d) (to_planes w (n / w) i) 0) L
      ∙ a.bytes (to_planes w (length d / w) i) (a.places.back-within i hd)
      ∙ ap (λ (q : ℕ). get_or d q 0) (a.places.to_back i hd))

  pub planes_of_samples : planes_of w (samples_of w d) ≡ d
  planes_of_samples =
      let a = samples_permute w d p in
      let L : length (samples_of w d) ≡ length d = a.same_length in
      let b = planes_permute w (samples_of w d) (rw L p) in
      ext_get_or 0 _ d (b.same_length ∙ L)
      (λ i h.
      let hd : i < length d = rw (b.same_length ∙ L) at h in
      b.bytes i (rw L hd)
      ∙ ap (λ (n : ℕ). get_or (samples_of w d) (to_samples w (n / w) i) 0) L
      ∙ a.bytes (to_samples w (length d / w) i) (a.places.back-within i hd)
      ∙ ap (λ (q : ℕ). get_or d q 0) (a.places.to_back i hd))

-- a call that serves, and its output
module _ (order : ℕ → List ℕ → List ℕ) (w : ℕ) (d out : List ℕ) (r : length d ≤ length out) (p : proper w (length d) ≡ true)
    (long : length (order w d) ≡ length d)
  where
    served : (arrange order w d out).outcome ≡ Outcome.done
    served = ap (λ (z : ArrangeEnd). z.outcome) (arrange-done order w d out r p)

    front : take (length d) (arrange order w d out).out ≡ order w d
    front =
        ap (λ (z : ArrangeEnd). take (length d) z.out) (arrange-done order w d out r p)
        ∙ ap (λ (n : ℕ). take n (paste out 0 (order w d) (length d))) (sym (zero-add (length d)))
        ∙ take-paste out 0 (order w d) (length d) (omega arith) (le_of_eq (sym long))
        ∙ take_all (length d) (order w d) (le_of_eq long)

    beyond : drop (length d) (arrange order w d out).out ≡ drop (length d) out
    beyond =
        ap (λ (z : ArrangeEnd). drop (length d) z.out) (arrange-done order w d out r p)
        ∙ ap (λ (n : ℕ). drop n (paste out 0 (order w d) (length d))) (sym (zero-add (length d)))
        ∙ drop-paste out 0 (order w d) (length d) (omega arith) (le_of_eq (sym long))
        ∙ ap (λ (n : ℕ). drop n out) (zero-add (length d))

-- two orders of which the second undoes the first
module _ (there back : ℕ → List ℕ → List ℕ) (w : ℕ) (d out again : List ℕ) (p : proper w (length d) ≡ true)
    (r : length d ≤ length out) (r' : length d ≤ length again)
    (long : length (there w d) ≡ length d) (long' : length (back w (there w d)) ≡ length (there w d))
    (same : back w (there w d) ≡ d)
  where
    undoes : Undoes (arrange there w) (arrange back w) d out again
    undoes =
        let u = there w d in
        let q : length u ≤ length again = rw long r' in
        let p' : proper w (length u) ≡ true = rw long p in
        record {
          written = u;
          served = served there w d out r p long;
          front = front there w d out r p long;
          beyond = beyond there w d out r p long;
          returned = served back w u again q p' long';
          same = ap (λ (n : ℕ). take n (arrange back w u again).out) (sym long) ∙ front back w u again q p' long' ∙ same;
          kept = ap (λ (n : ℕ). drop n (arrange back w u again).out) (sym long) ∙ beyond back w u again q p' long' ∙ ap (λ (n : ℕ). drop n again) long;
        }

module _ (w : ℕ) (d out again : List ℕ) (p : proper w (length d) ≡ true) (r : length d ≤ length out) (r' : length d ≤ length again) where
  pub planes_undone : Undoes (planes w) (samples w) d out again
  planes_undone =
      let e : length (planes_of w d) ≡ length d = (planes_permute w d p).same_length in
      undoes planes_of samples_of w d out again p r r' e (samples_permute w (planes_of w d) (rw e p)).same_length (samples_of_planes w d p)

  pub samples_undone : Undoes (samples w) (planes w) d out again
  samples_undone =
      let e : length (samples_of w d) ≡ length d = (samples_permute w d p).same_length in
      undoes samples_of planes_of w d out again p r r' e (planes_permute w (samples_of w d) (rw e p)).same_length (planes_of_samples w d p)

-- a recording, at its width
module _ (d out again : List ℕ) (p : proper sample_width (length d) ≡ true) (r : length d ≤ length out) (r' : length d ≤ length again) where
  pub recording_restored : Undoes rearrange restore d out again
  recording_restored = planes_undone sample_width d out again p r r'

  pub recording_rearranged : Undoes restore rearrange d out again
  recording_rearranged = samples_undone sample_width d out again p r r'
