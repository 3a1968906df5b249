use mathlib.Core.Path.{sym, ◌∙◌}
use mathlib.Core.List.{[], ◌∷◌}
use Rattle.parties.specs.protocol.Node.{listed}
use Rattle.parties.specs.client.Found.{retained_in}
use Rattle.parties.specs.client.Freeze.{frozen_now, reserved_now}
use Rattle.parties.proofs.client.FreeListLaws.{kept-first, kept_second}
use Rattle.parties.proofs.client.free.Noticed.keeps_for.Goals as goal

pub returns-then-same_version : goal.returns-then-same_version
returns-then-same_version c =
    let a = c.args in
    let k = a.self.now in
    let x = retained_in k.s.measures k.area.now in
    kept-first a.v c.frozen_now-frozen.result (frozen_now k.map x k.new a.q) c.frozen_now-frozen.ensures (sym c.same_version.ensures ∙ c.if-same_version.true)
    (listed a.v (reserved_now k.map x a.q ∷ []))

pub returns : goal.returns
returns c =
    let a = c.args in
    let k = a.self.now in
    let x = retained_in k.s.measures k.area.now in
    let f = c.frozen_now-frozen in
    let g = c.reserved_now-reserved in
    c.same_version-2.ensures
    ∙ kept_second a.v f.result (frozen_now k.map x k.new a.q) g.result (reserved_now k.map x a.q) f.ensures
    (sym c.same_version.ensures ∙ c.if-same_version.false) g.ensures
