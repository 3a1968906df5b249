use native.Mathlib.Omega.{arith}
use Rattle.lines.specs.Sentences.{refused_line}
use Rattle.lines.proofs.LengthLaws.{refused-size}
use Rattle.lines.proofs.SentencesLaws.{adds_one, adds_join, adds_more, line-fits, line_full, refused-parts}
use Rattle.lines.proofs.text.refused.Goals as goal

pub returns-then-text-width : goal.returns-then-text-width
returns-then-text-width c =
    let a = c.args in line_full a.text.now (refused_line a.x) (omega (arith, refused-size a.x))

pub returns : goal.returns
returns c =
    let a = adds_one _ _ _ _ _ c.bytes-a.ensures in
    let b = adds_join a c.spaced-b.ensures in
    let s = c.args in line-fits (refused_line s.x) _ (omega (arith, refused-size s.x)) (refused-parts s.x) (adds_more _ _ _ b c.byte.ensures)
