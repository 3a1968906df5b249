use Rattle.std.proofs.Common.{◌+◌, ◌*◌, get_or}
use Rattle.coding.proofs.AreasLaws.{Walk}
use Rattle.coding.proofs.split.start_row.Given as goal

-- The areas below i have the row.
abbrev pub invariant-loop-i : goal.invariant-loop-i
invariant-loop-i here =
    let i = here.i in
    Walk here.n here.f here.j here.m (λ i l. get_or here.row l 0) here.initial.room here.room (i * here.f + here.j) i
