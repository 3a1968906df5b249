use Rattle.std.proofs.Common.{min}
use Rattle.coding.specs.Pieces.{piece_byte, frame}
use Rattle.coding.proofs.BytesLaws.{Front}
use Rattle.coding.proofs.split.cut_piece.Given as goal

-- The first j bytes of the piece stand at the front of the room.
abbrev pub invariant-loop-j : goal.invariant-loop-j
invariant-loop-j l = Front l.initial.room (piece_byte l.k (frame l.k l.page) l.x) l.room (min l.j l.len)
