use native.Mathlib.Omega.{arith}
use Rattle.lines.specs.Sentences.{deposited_line}
use Rattle.lines.proofs.LengthLaws.{deposited-size}
use Rattle.lines.proofs.SentencesLaws.{adds_one, adds_join, adds_more, line-fits, line_full, deposited-parts}
use Rattle.lines.proofs.text.deposited.Goals as goal

pub returns-then-text-width : goal.returns-then-text-width
returns-then-text-width c =
    let a = c.args in
    let w = rw c.from.ensures at c.width-2.ensures.0 in
    line_full a.text.now (deposited_line a.c a.sequence) (omega (arith, w, deposited-size a.c a.sequence))

pub returns : goal.returns
returns c =
    let s = c.args in
    let w = rw c.from.ensures at c.width-2.ensures.0 in
    let a = adds_one _ _ _ _ _ c.bytes-a.ensures in
    let b = adds_join a c.spaced-b.ensures in
    let d = adds_join b (rw c.from-2.ensures at c.spaced-d.ensures) in
    line-fits (deposited_line s.c s.sequence) _ (omega (arith, w, deposited-size s.c s.sequence, c.if-text-width.false, c.width.ensures.0)) (deposited-parts s.c s.sequence) (adds_more _ _ _ d c.byte.ensures)
