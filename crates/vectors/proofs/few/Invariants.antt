-- The first bytes are printed after the space.
use Rattle.std.proofs.Common.{◌∷◌, take}
use Rattle.std.specs.Io.KnownBytes.{Appends}
use Rattle.vectors.specs.Bytes.{hex_of}
use Rattle.vectors.proofs.few.Given as goal

abbrev pub invariant-loop-b : goal.invariant-loop-b
invariant-loop-b g l = Appends (g.W.Write.contents l.fn.writer) (g.W.Write.contents l.writer) (32 ∷ hex_of (take l.b-index l.s))
