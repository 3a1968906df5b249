use Rattle.std.proofs.Common.{◌+◌, min}
use Rattle.coding.specs.Pieces.{piece_byte, frame}
use Rattle.coding.specs.Areas.{Columns}
use Rattle.coding.proofs.split.write_pieces.Given as goal

-- The columns below j stand in every area.
abbrev pub invariant-loop-j : goal.invariant-loop-j
invariant-loop-j here = Columns here.n here.f 0 (min here.j here.len) (λ i l. piece_byte here.k (frame here.k here.page) (here.first + i + 1) l) here.initial.room here.room
