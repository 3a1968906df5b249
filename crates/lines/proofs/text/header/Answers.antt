use native.Mathlib.Omega.{arith}
use Rattle.lines.specs.Sentences.{header_line}
use Rattle.lines.proofs.LengthLaws.{header_size}
use Rattle.lines.proofs.SentencesLaws.{adds_one, adds_join, adds_more, line-fits, line_full, header_parts}
use Rattle.lines.proofs.text.header.Goals as goal

pub returns-then-text-size : goal.returns-then-text-size
returns-then-text-size c =
    let a = c.args in
    line_full a.text.now (header_line a.m a.n a.k a.t a.f) (omega (arith, header_size a.m a.n a.k a.t a.f))

pub returns : goal.returns
returns c =
    let a = adds_one _ _ _ _ _ c.bytes-a.ensures in
    let b = adds_join a c.spaced-b.ensures in
    let d = adds_join b c.spaced-c.ensures in
    let e = adds_join d c.spaced-d.ensures in
    let f = adds_join e c.spaced-e.ensures in
    let g = adds_join f c.spaced-g.ensures in
    let s = c.args in
    line-fits (header_line s.m s.n s.k s.t s.f) _ (omega (arith, header_size s.m s.n s.k s.t s.f, c.if-text-size.false, c.width-5.ensures.0, c.width-4.ensures.0, c.width-3.ensures.0, c.width-2.ensures.0, c.width.ensures.0)) (header_parts s.m s.n s.k s.t s.f) (adds_more _ _ _ g c.byte.ensures)
