use mathlib.Core.Path.{refl}
use Rattle.coding_export.specs.Digest.{digest}
use Rattle.coding_export.proofs.DigestLaws.{into-short, into-done}
use Rattle.coding_export.proofs.coding_digest.Goals as goal

pub returns-then-out-lt32 : goal.returns-then-out-lt32
unfolding digest
returns-then-out-lt32 c = rw (into-short c.args.out.now _ c.if-out-lt32.true) (c.refused.ensures, refl)

pub returns : goal.returns
unfolding digest
returns c =
    rw (into-done c.args.out.now _ c.if-out-lt32.false, ← c.digest.ensures) (refl, c.put.ensures)
