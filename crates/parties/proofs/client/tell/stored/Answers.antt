use mathlib.Core.Path.{sym, ◌∙◌}
use native.Mathlib.Omega.{arith}
use Rattle.parties.proofs.records.PlaceLaws.{alone-size}
use Rattle.parties.proofs.client.TellLaws.{stored-broken, stored-sound}
use Rattle.parties.proofs.client.tell.stored.Goals as goal

pub returns-then-not-version_alone : goal.returns-then-not-version_alone
returns-then-not-version_alone c =
    let a = c.args in
    let p = c.requires in
    let version-alone = c.version_alone in
    stored-broken a.s a.b.now p.0 p.1 (sym version-alone.ensures ∙ c.if-not-version_alone.true)

pub version_at-requires : goal.version_at-requires
version_at-requires c =
    let a = c.args in
    let version-alone = c.version_alone in
    omega (arith, alone-size a.s a.b.now (sym version-alone.ensures ∙ c.if-not-version_alone.false))

pub returns : goal.returns
returns c =
    let a = c.args in
    let p = c.requires in
    let version-alone = c.version_alone in
    stored-sound a.s a.b.now p.0 p.1 (sym version-alone.ensures ∙ c.if-not-version_alone.false)
    c.version_at.result c.version_at.ensures
