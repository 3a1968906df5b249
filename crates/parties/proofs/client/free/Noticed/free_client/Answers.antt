use mathlib.Core.Path.{sym, ◌∙◌}
use native.Mathlib.Omega.{arith}
use Rattle.parties.proofs.client.FormLaws.{sizes}
use Rattle.parties.proofs.client.FreeListLaws.{skipped, client-freed}
use Rattle.parties.proofs.client.free.Noticed.free_client.Goals as goal

pub stands-requires : goal.stands-requires
stands-requires c = (omega arith, omega (arith, (sizes c.args.self.now.s.measures c.args.self.now.holds.0).clients, c.requires.0))

pub returns-then-not-stands : goal.returns-then-not-stands
returns-then-not-stands c =
    let a = c.args in
    let k = a.self.now in
    let p = c.requires in
    λ first x.
    skipped k.s.measures k.area.now k.bytes k.holds k.map k.new a.q p.0
    (sym c.stands.ensures ∙ c.if-not-stands.true) first a.count a.room.now x

pub returns : goal.returns
returns c =
    let a = c.args in
    let k = a.self.now in
    let p = c.requires in
    let v = c.reserved-reserved in
    let m = c.free_version-more in
    let w = c.frozen-frozen in
    let n = c.free_version in
    λ first x.
    client-freed k.s.measures k.area.now k.bytes k.holds k.map k.new a.q p.0
    (sym c.stands.ensures ∙ c.if-not-stands.false) first a.count a.room.now
    m.result m.new.room n.result n.new.room v.result w.result v.ensures w.ensures m.ensures.0 n.ensures.0 x
