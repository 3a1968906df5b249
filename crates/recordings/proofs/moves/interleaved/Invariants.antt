-- The rows' first i bytes stand at the front, and the next byte of the first p rows behind them.
use Rattle.std.proofs.Common.{◌+◌, ◌*◌, ◌/◌, ◌%◌, get_or}
use Rattle.recordings.proofs.FrontLaws.{Filled}
use Rattle.recordings.proofs.moves.interleaved.Given as goal

abbrev pub invariant-loop-i : goal.invariant-loop-i
invariant-loop-i g l = Filled (λ k. get_or l.from (l.at + k % g.row.K * l.apart + k / g.row.K) 0) g.row.N l.v (l.i * g.row.K)

abbrev pub invariant-loop-p : goal.invariant-loop-p
invariant-loop-p g l = Filled (λ k. get_or l.from (l.at + k % g.row.K * l.apart + k / g.row.K) 0) g.row.N l.v (l.i * g.row.K + l.p)
