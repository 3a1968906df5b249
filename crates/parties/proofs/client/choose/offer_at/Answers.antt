use mathlib.Core.Path.{◌∙◌}
use Rattle.parties.specs.client.Choose.{offered}
use Rattle.parties.proofs.client.ChooseLaws.{offered_good, version-fits, version-shown}
use Rattle.parties.proofs.client.choose.offer_at.Goals as goal

pub version_at-version-requires : goal.version_at-version-requires
version_at-version-requires c =
    let a = c.args in
    let p = c.requires in
    version-fits a.s.measures (offered a.s.measures a.own a.index a.rows.now a.at)
    (offered_good a.s.measures a.own a.index a.rows.now a.at (λ i. (c.type_inv.rows i).fits) p.0 p.2) c.candidate_at-p.result.now c.candidate_at-p.ensures

pub returns : goal.returns
returns c =
    let a = c.args in
    let p = c.requires in
    let q = c.version_at-version.ensures
    ∙ version-shown a.s.measures (offered a.s.measures a.own a.index a.rows.now a.at)
    (offered_good a.s.measures a.own a.index a.rows.now a.at (λ i. (c.type_inv.rows i).fits) p.0 p.2) c.candidate_at-p.result.now
    c.candidate_at-p.ensures in
    λ i. record { row = a.at; version = q i }
