use Rattle.std.proofs.Common.{◌+◌, ◌*◌, get_or}
use Rattle.coding.specs.Field.{◌⊕◌, product}
use Rattle.coding.proofs.AreasLaws.{Walk}
use Rattle.coding.proofs.split.add_row.Given as goal

-- The areas below i have the row in their sums.
abbrev pub invariant-loop-i : goal.invariant-loop-i
invariant-loop-i here =
    let i = here.i in
    Walk here.n here.f here.j here.m (λ i l. product (get_or here.initial.room (i * here.f + (here.j + l)) 0) (here.first + i + 1) ⊕ get_or here.row l 0) here.initial.room here.room (i * here.f + here.j) i
