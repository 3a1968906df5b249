use mathlib.Core.Path.{sym, ◌∙◌}
use native.Mathlib.Omega.{arith}
use lib.ListN.{length}
use borrow.Author.Tests.{leb-true, leb-false}
use Rattle.lines.specs.Sentences.{page_line, shown}
use Rattle.lines.proofs.LengthLaws.{page-size}
use Rattle.lines.proofs.SentencesLaws.{adds_one, adds_join, adds_more, line-fits, line_full, page-parts}
use Rattle.lines.proofs.text.read_page.Goals as goal

pub returns-then-text-rest : goal.returns-then-text-rest
returns-then-text-rest c =
    let a = c.args in
    let w = rw c.from.ensures at c.width-2.ensures.0 in
    let v = rw c.from-2.ensures at c.width-3.ensures.0 in
    line_full a.text.now (page_line a.c a.sequence a.writer a.page.now) (omega (arith, w, v, page-size a.c a.sequence a.writer a.page.now))

pub returns-then-not-show_fits : goal.returns-then-not-show_fits
returns-then-not-show_fits c =
    let a = c.args in
    let w = rw c.from.ensures at c.width-2.ensures.0 in
    let v = rw c.from-2.ensures at c.width-3.ensures.0 in
    let h = leb-false (length (shown a.page.now)) _ (sym c.show_fits.ensures ∙ c.if-not-show_fits.true) in
    line_full a.text.now (page_line a.c a.sequence a.writer a.page.now) (omega (arith, w, v, h, page-size a.c a.sequence a.writer a.page.now))

pub returns : goal.returns
returns c =
    let s = c.args in
    let w = rw c.from.ensures at c.width-2.ensures.0 in
    let v = rw c.from-2.ensures at c.width-3.ensures.0 in
    let h = leb-true (length (shown s.page.now)) _ (sym c.show_fits.ensures ∙ c.if-not-show_fits.false) in
    let a = adds_one _ _ _ _ _ c.bytes-a.ensures in
    let b = adds_join a c.spaced-b.ensures in
    let d = adds_join b (rw c.from-3.ensures at c.spaced-d.ensures) in
    let e = adds_join d (rw c.from-4.ensures at c.spaced-e.ensures) in
    let f = adds_more _ _ _ e c.byte-f.ensures in
    let g = adds_more _ _ _ f c.show-g.ensures in
    line-fits (page_line s.c s.sequence s.writer s.page.now) _ (omega (arith, w, v, h, page-size s.c s.sequence s.writer s.page.now, c.if-text-rest.false, c.width.ensures.0)) (page-parts s.c s.sequence s.writer s.page.now) (adds_more _ _ _ g c.byte.ensures)
