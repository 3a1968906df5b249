use mathlib.Core.Path.{sym, ◌∙◌}
use mathlib.Core.Bool.{false}
use mathlib.Core.List.{◌∷◌}
use Rattle.parties.specs.protocol.Version.{no_version}
use Rattle.parties.specs.protocol.Node.{listed}
use Rattle.parties.specs.client.Found.{retained_in}
use Rattle.parties.specs.client.Freeze.{kept_versions}
use Rattle.parties.proofs.client.FreeListLaws.{adds_in, adds_few}
use Rattle.parties.proofs.client.free.Noticed.free_version.Goals as goal

pub returns : goal.returns
returns c =
    let a = c.args in
    let k = a.self.now in
    let b = listed a.v (no_version ∷ kept_versions k.s.measures k.map (retained_in k.s.measures k.area.now) k.new) in
    let n = c.add_version in (
      adds_in b a.v a.count a.room.now n.result n.new.room (sym c.keeps.ensures ∙ c.if-keeps.false) n.ensures,
      adds_few false a.v a.count a.room.now n.result n.new.room n.ensures,
    )
