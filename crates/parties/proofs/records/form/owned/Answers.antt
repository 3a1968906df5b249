use mathlib.Core.Path.{sym, ◌∙◌}
use Rattle.parties.proofs.records.RecordLaws.{front-other}
use Rattle.parties.proofs.records.form.owned.Goals as goal

pub returns-else-v-own : goal.returns-else-v-own
returns-else-v-own c =
    let a = c.args in
    c.is_none.ensures ∙ front-other a.s.measures a.v a.map a.own (sym c.proper.ensures ∙ c.if-proper.true) c.if-v-own.false
