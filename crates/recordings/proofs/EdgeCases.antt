-- The edges hold of the definitions.
use borrow.Author.Tests.{le-leb, lt-leb}
use mathlib.Core.Path.{◌≡◌, refl, sym, ap, ◌∙◌}
use mathlib.Core.Bool.{true, false}
use mathlib.Core.List.{List, []}
use Prim.Native.Nat.{ℕ, ◌≤◌}
use native.Mathlib.Nat.{zero-mod}
use native.Mathlib.Omega.{arith}
use lib.Seq.{paste-zero}
use Rattle.coding.specs.Bytes.{tabulate}
use Rattle.recordings.specs.Planes.{planes_of, samples_of}
use Rattle.recordings.specs.Answer.{Outcome}
use Rattle.recordings.specs.Arrange.{ArrangeEnd, proper, arrange, planes}
use Rattle.recordings.specs.Edges.{Edges}
use Rattle.recordings.proofs.ArrangeLaws.{arrange-short, arrange_width, arrange-done}

nothing : (order : ℕ → List ℕ → List ℕ) (w : ℕ) (out : List ℕ) → 1 ≤ w → w ≤ 8
    → arrange order w [] out ≡ record { outcome = Outcome.done; out = out }
nothing order w out a b =
    let p : proper w 0 ≡ true = simp (le-leb 1 w a, le-leb w 8 b, zero-mod w) in
    arrange-done order w [] out (omega arith) p
    ∙ ap (λ (u : List ℕ). record { outcome = Outcome.done; out = u }) (sym (paste-zero out 0 (order w [])))

improper : (w : ℕ) (out : List ℕ) → proper w 0 ≡ false → (planes w [] out).outcome ≡ Outcome.refuses 15
improper w out p = ap (λ (z : ArrangeEnd). z.outcome) (arrange_width planes_of w [] out (omega arith) p)

pub edges : Edges
unfolding planes_of samples_of tabulate
edges =
    record {
      two = refl;
      back = refl;
      none = nothing planes_of;
      none-back = nothing samples_of;
      narrow = λ out. improper 0 out refl;
      wide = λ w out h. improper w out (simp (le-leb 1 w (omega arith), lt-leb w 8 h));
      first = λ w d out h. ap (λ (z : ArrangeEnd). z.outcome) (arrange-short planes_of w d out h);
    }
