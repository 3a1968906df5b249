use Rattle.std.proofs.Common.{Fits, w8, get_or, rules}
use mathlib.Core.Path.{sym, ◌∙◌}
use Rattle.parties.proofs.client.FreeListLaws.{place_within, added_old, added_new}
use Rattle.parties.proofs.client.free.add_version.Goals as goal

pub returns-then-stands : goal.returns-then-stands
returns-then-stands c =
    let a = c.args in
    let p = c.requires in
    let j = c.seek-j in
    added_old a.room.now (λ i. let b : Fits w8 (get_or c.args.room.now i 0) = search rules in b.fits) a.v a.count j.result j.ensures p
    (sym c.stands.ensures ∙ c.if-stands.true)

pub put_in-requires : goal.put_in-requires
put_in-requires c =
    let a = c.args in
    let p = c.requires in
    let j = c.seek-j in
    (place_within a.room.now a.v a.count j.result j.ensures, p)

pub returns : goal.returns
returns c =
    let a = c.args in
    let p = c.requires in
    let j = c.seek-j in
    added_new a.room.now (λ i. let b : Fits w8 (get_or c.args.room.now i 0) = search rules in b.fits) a.v a.count j.result j.ensures p
    (sym c.stands.ensures ∙ c.if-stands.false) _ c.put_in.ensures
