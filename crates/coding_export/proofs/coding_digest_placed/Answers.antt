use mathlib.Core.Path.{refl}
use borrow.Author.Tests.{lt-ltb, le-ltb}
use lib.ListN.{length}
use Rattle.coding_export.specs.Digest.{digest_placed}
use Rattle.coding_export.proofs.DigestLaws.{into-short, into-done}
use Rattle.coding_export.proofs.coding_digest_placed.Goals as goal

pub returns-then-version-lt5 : goal.returns-then-version-lt5
unfolding digest_placed
returns-then-version-lt5 c =
    rw (lt-ltb (length c.args.version.now) 5 c.if-version-lt5.true) (c.refused.ensures, refl)

pub returns-then-out-lt32 : goal.returns-then-out-lt32
unfolding digest_placed
returns-then-out-lt32 c =
    let a = c.args in
    rw (le-ltb (length a.version.now) 5 c.if-version-lt5.false, into-short a.out.now _ c.if-out-lt32.true)
    (c.refused-then-out-lt32.ensures, refl)

pub returns : goal.returns
unfolding digest_placed
returns c =
    let a = c.args in
    let d = c.digest_placed.ensures in
    rw (le-ltb (length a.version.now) 5 c.if-version-lt5.false, into-done a.out.now _ c.if-out-lt32.false, ← c.version_bytes.ensures, ← d)
    (refl, c.put.ensures)
