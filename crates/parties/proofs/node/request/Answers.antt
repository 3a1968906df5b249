use mathlib.Core.Path.{sym, ◌∙◌}
use Rattle.parties.proofs.node.EndLaws.{broken-request}
use Rattle.parties.proofs.node.request.Goals as goal

pub returns-then-not-version_alone : goal.returns-then-not-version_alone
returns-then-not-version_alone c =
    let a = c.args in
    let p = c.requires in
    broken-request a.s a.t.now a.b.now a.room.now p.0 p.1 p.2
    (sym c.version_alone.ensures ∙ c.if-not-version_alone.true)
