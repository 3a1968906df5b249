use mathlib.Core.Path.{sym, ◌∙◌}
use native.Mathlib.Omega.{arith}
use Rattle.runs.specs.Event.{Cramped}
use Rattle.runs.proofs.EventLaws.{sized_is}
use Rattle.runs.proofs.event.ready.Goals as goal

pub returns-then-not-pass : goal.returns-then-not-pass
returns-then-not-pass c = Cramped.measures (sym c.pass.ensures ∙ c.if-not-pass.true)

pub returns-then-post-used : goal.returns-then-post-used
returns-then-post-used c = Cramped.short (sym c.pass.ensures ∙ c.if-not-pass.false) (omega arith)

pub returns-then-post-used-2 : goal.returns-then-post-used-2
returns-then-post-used-2 c =
    let passing = sym c.pass.ensures ∙ c.if-not-pass.false in
    Cramped.short passing (omega (arith, c.needed.ensures ∙ sized_is c.args.s _ passing))
