use Prim.Native.Nat.{◌+◌, ◌*◌, ◌≤◌}
use Rattle.coding.proofs.BytesLaws.{Lanes}
use Rattle.parties.specs.records.Places.{number_at}
use Rattle.parties.proofs.client.reply.lengths_with.Given as goal

-- The first j lengths are read.
abbrev pub invariant-loop-j : goal.invariant-loop-j
invariant-loop-j l = Lanes (λ k. number_at l.area (l.at + 2 * k)) l.v l.j × (l.j ≤ l.n)
