use mathlib.Core.Path.{◌≡◌, refl}
use mathlib.Core.List.{List}
use Prim.Native.Nat.{ℕ, ◌+◌, ◌-◌, ◌≤◌}
use native.Mathlib.Nat.{zero-add}
use native.Mathlib.Omega.{arith}
use lib.ListN.{get_or}
use Rattle.coding.specs.Areas.{Columns}
use Rattle.coding.proofs.AreasLaws.{columns-join}
use Rattle.recordings.specs.Planes.{among_samples}
use Rattle.recordings.proofs.arrange.lay_planes.Goals as goal

-- the samples below r, then those after them
filled : (d t u u' : List ℕ) (w n r : ℕ) → r ≤ n → Columns w n 0 r (λ p s. get_or d (among_samples w s p) 0) t u
    → Columns w n r (n - r) (λ p l. get_or d (among_samples w (r + l) p) 0) u u' → Columns w n 0 n (λ p s. get_or d (among_samples w s p) 0) t u'
filled d t u u' w n r h x y =
    let z : Columns w n (0 + r) (n - r) (λ p l. get_or d (among_samples w (r + l) p) 0) u u' = rw (zero-add r) y in
    let e : r + (n - r) ≡ n = omega arith in
    rw e at (columns-join w n 0 r (n - r) (λ p s. get_or d (among_samples w s p) 0) (λ p l. get_or d (among_samples w (r + l) p) 0) t u u' (omega arith) (λ i l. refl) x z)

pub returns : goal.returns
returns c =
    filled c.args.recording.now.bytes.now _ _ _ c.args.recording.now.width c.args.recording.now.count _ c.first_planes-done.ensures.0 c.first_planes-done.ensures.1 c.write_planes.ensures
