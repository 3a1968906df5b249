use mathlib.Core.Path.{sym, ◌∙◌}
use Rattle.parties.proofs.protocol.formats.MeasureLaws.{passed}
use Rattle.parties.proofs.node.EndLaws.{broken-store}
use Rattle.parties.proofs.node.store.Goals as goal

pub store_sound-requires : goal.store_sound-requires
store_sound-requires c =
    (passed c.args.s c.requires.0.measures).bytes.1

pub returns-then-not-store_sound : goal.returns-then-not-store_sound
returns-then-not-store_sound c =
    let a = c.args in
    let p = c.requires in
    broken-store a.s a.t.now a.b.now a.room.now p.0 p.1 p.2
    (sym c.store_sound.ensures ∙ c.if-not-store_sound.true)
