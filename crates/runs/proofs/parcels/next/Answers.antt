use mathlib.Core.Path.{refl}
use native.Mathlib.Omega.{arith}
use Rattle.title.proofs.MemoryLaws.{handed}
use Rattle.runs.proofs.FormLaws.{none-short, none-key, none-long}
use Rattle.runs.proofs.parcels.next.Goals as goal

pub returns-then-used-at-lt-HEADING : goal.returns-then-used-at-lt-HEADING
returns-then-used-at-lt-HEADING c =
    let a = c.args in (refl, none-short a.s.measures c.args.s.pass a.used a.post.now c.requires.1 a.at c.requires.0 c.if-used-at-lt-HEADING.true)

pub returns-in_err-key_at : goal.returns-in_err-key_at
returns-in_err-key_at c =
    let a = c.args in
    let k = c.in_err-key_at.ensures in
    rw (handed _ _ c.from_residual.ensures.1) (k.0, none-key a.s.measures c.args.s.pass a.used a.post.now c.requires.1 a.at (omega arith) k.1)

pub returns-then-used-at : goal.returns-then-used-at
returns-then-used-at c =
    let a = c.args in (refl, none-long a.s.measures c.args.s.pass a.used a.post.now c.requires.1 a.at _ _ (omega arith) c.length_at-len.ensures c.if-used-at.true)
