use mathlib.Core.Path.{◌≡◌, sym}
use Prim.Native.Nat.{ℕ, ◌+◌, ◌-◌, ◌*◌, ◌≤◌}
use native.Mathlib.Nat.{le_of_eq, mul_comm}
use native.Mathlib.Omega.{arith}
use lib.ListN.{get_or}
use Rattle.coding.specs.Bytes.{tabulate}
use Rattle.coding.proofs.BytesLaws.{length-tabulate, get_or-tabulate}
use Rattle.coding.proofs.AreasLaws.{walk_all}
use Rattle.recordings.specs.Planes.{among_samples}
use Rattle.recordings.proofs.FrontLaws.{walk_next}
use Rattle.recordings.proofs.strided.write_planes.Goals as goal

whole : {s n : ℕ} → s ≤ n → s + (n - s) ≤ n
whole h = omega arith

turned : (n width : ℕ) {len room : ℕ} → n * width ≡ len → len ≤ room → width * n ≤ room
turned n width e h = rw (mul_comm width n, e) h

pub loop-p-preserved : goal.loop-p-preserved
loop-p-preserved c =
    let v : ℕ → ℕ = λ l. get_or c.args.recording.now.bytes.now (among_samples c.args.recording.now.width (c.args.s + l) c.loop-p.p) 0 in
    let m = c.args.recording.now.count - c.args.s in
    rw c.gather.ensures
    (walk_next _ _ _ _ _ _ _ _ (whole c.requires.0) (turned c.args.recording.now.count c.args.recording.now.width c.args.recording.now.whole c.requires.1) c.loop-p.invariant c.loop-p-test.true (tabulate m v) (le_of_eq (sym (length-tabulate m v))) (λ l h. get_or-tabulate m v l 0 h))

pub returns : goal.returns
returns c = walk_all _ _ _ _ _ _ _ _ _ (whole c.requires.0) (turned c.args.recording.now.count c.args.recording.now.width c.args.recording.now.whole c.requires.1) c.loop-p.invariant c.loop-p-test.false
