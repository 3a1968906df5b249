use Rattle.std.proofs.Common.{◌≡◌, ◌-◌, ◌*◌, length, take}
use Rattle.coding.specs.Sha256.{schedule}
use Rattle.coding.proofs.sha256.schedule.Given as goal

abbrev pub invariant-loop-i : goal.invariant-loop-i
invariant-loop-i l = (length l.w ≡ 64) × (take (4 * l.i) l.w ≡ schedule (take 16 l.initial.w) (4 * l.i - 16))
