use native.Mathlib.Omega.{arith}
use Rattle.lines.specs.Sentences.{nothing_line}
use Rattle.lines.proofs.LengthLaws.{nothing-size}
use Rattle.lines.proofs.SentencesLaws.{adds_one, adds_join, adds_more, line-fits, line_full, nothing-parts}
use Rattle.lines.proofs.text.read_nothing.Goals as goal

pub returns-then-text-width : goal.returns-then-text-width
returns-then-text-width c =
    let a = c.args in line_full a.text.now (nothing_line a.c) (omega (arith, nothing-size a.c))

pub returns : goal.returns
returns c =
    let a = adds_one _ _ _ _ _ c.bytes-a.ensures in
    let b = adds_join a c.spaced-b.ensures in
    let s = c.args in line-fits (nothing_line s.c) _ (omega (arith, nothing-size s.c)) (nothing-parts s.c) (adds_more _ _ _ b c.bytes.ensures)
