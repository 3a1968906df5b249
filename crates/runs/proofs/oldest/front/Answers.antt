use mathlib.Core.Path.{refl}
use native.Mathlib.Omega.{arith}
use Rattle.runs.proofs.FormLaws.{from_list, none-short}
use Rattle.runs.proofs.OldestLaws.{front_by}
use Rattle.runs.proofs.oldest.front.Goals as goal

pub returns-then-used-lt-HEADING : goal.returns-then-used-lt-HEADING
returns-then-used-lt-HEADING c =
    let a = c.args in
    let y = c.requires.0 in
    (refl, λ q l. none-short a.s y.measures a.used a.post.now (omega (arith, y.enough)) 0 c.requires.1 (omega arith) (from_list a.s a.used a.post.now q l))

pub returns : goal.returns
returns c =
    let a = c.args in front_by a.s a.post.now a.used c.requires.0 (omega arith) _ c.key_at.ensures
