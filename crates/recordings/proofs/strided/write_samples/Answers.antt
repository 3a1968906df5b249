use mathlib.Core.Path.{◌≡◌, refl, sym, ap}
use mathlib.Core.List.{List}
use Prim.Native.Nat.{ℕ, ◌+◌, ◌-◌, ◌<◌}
use native.Mathlib.Nat.{zero-add}
use native.Mathlib.Omega.{arith}
use lib.ListN.{get_or}
use Rattle.coding.specs.Areas.{Columns}
use Rattle.coding.proofs.AreasLaws.{columns-join}
use Rattle.coding.proofs.SplitLaws.{columns_ext}
use Rattle.recordings.specs.Planes.{among_planes}
use Rattle.recordings.proofs.strided.write_samples.Goals as goal

-- a plane more
next : (d t u u' : List ℕ) (n s width p : ℕ) → p < width
    → Columns (n - s) width 0 p (λ i q. get_or d (among_planes n (s + i) q) 0) t u
    → Columns (n - s) width p 1 (λ i l. get_or d (among_planes n (s + i) p) 0) u u'
    → Columns (n - s) width 0 (p + 1) (λ i q. get_or d (among_planes n (s + i) q) 0) t u'
next d t u u' n s width p h c x =
    let w : ℕ → ℕ → ℕ = λ i l. get_or d (among_planes n (s + i) (p + l)) 0 in
    let y : Columns (n - s) width p 1 w u u' =
    columns_ext (n - s) width p 1 (λ i l. get_or d (among_planes n (s + i) p) 0) w u u'
    (λ i l _ hl. let e : p + l ≡ p = omega arith in ap (λ (q : ℕ). get_or d (among_planes n (s + i) q) 0) (sym e)) x
    in
    let z : Columns (n - s) width (0 + p) 1 w u u' = rw (zero-add p) y in
    columns-join (n - s) width 0 p 1 (λ i q. get_or d (among_planes n (s + i) q) 0) w t u u' (omega arith) (λ i l. refl) c z

pub loop-p-preserved : goal.loop-p-preserved
loop-p-preserved c = next c.args.recording.now.bytes.now c.args.out.now _ _ c.args.recording.now.count c.args.s c.args.recording.now.width c.loop-p.p c.loop-p-test.true c.loop-p.invariant c.scatter.ensures

pub returns : goal.returns
returns c = let e : c.loop-p.p ≡ c.args.recording.now.width = omega arith in rw e at c.loop-p.invariant
