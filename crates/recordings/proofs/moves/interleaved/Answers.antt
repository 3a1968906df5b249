use Rattle.std.proofs.Common.{◌≡◌, ℕ, ◌+◌, ◌*◌, ◌/◌, ◌%◌, get_or, sym, ap₂, arith}
use Rattle.recordings.proofs.PlaceLaws.{row_of, entry_of, row_within}
use Rattle.recordings.proofs.FrontLaws.{filled_more}
use Rattle.recordings.proofs.moves.interleaved.Goals as goal

-- the next row's byte
pub loop-p-preserved : goal.loop-p-preserved
loop-p-preserved g c =
    let K = g.row.K in
    let i = c.loop-i.i in
    let p = c.loop-p.p in
    let d = c.args.from.now in
    let at = c.args.at in
    let apart = c.args.apart in
    let e : i * K + (p + 1) ≡ i * K + p + 1 = omega arith in
    rw e
    (filled_more (λ (k : ℕ). get_or d (at + k % K * apart + k / K) 0) g.row.N c.loop-p.v (i * K + p) c.loop-p.invariant (get_or d (at + p * apart + i) 0)
    (ap₂ (λ (a b : ℕ). get_or d (at + a * apart + b) 0) (sym (entry_of K i p c.loop-p-test.true)) (sym (row_of K i p c.loop-p-test.true)))
    (rw c.requires.whole.1 at (row_within K i p c.loop-p-test.true (g.row.N / K) c.loop-i-test.true)))
