use borrow.Author.Rules.{rules}
use Rattle.parties.proofs.records.PlaceLaws.{number-told}
use Rattle.parties.proofs.node.length_at.Goals as goal

pub returns : goal.returns
returns c =
    let a = c.args in (
      number-told a.t.now a.at c.u16_at.result _ c.requires c.u16_at.ensures,
      search rules,
    )
