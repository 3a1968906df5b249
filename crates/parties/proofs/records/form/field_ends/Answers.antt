use mathlib.Core.Path.{sym, subst}
use Rattle.parties.proofs.protocol.formats.MeasureLaws.{passed}
use Rattle.parties.specs.records.Form.{pointer_by, Parted}
use Rattle.parties.proofs.records.FormLaws.{formed_sound, formed_broken}
use Rattle.parties.proofs.records.RecordLaws.{broken-written, broken-frozen, broken-indices, broken-index}
use Rattle.parties.proofs.records.form.field_ends.Goals as goal

pub returns-in_err-written : goal.returns-in_err-written
returns-in_err-written c =
    let a = c.args in
    subst (Parted a.s.measures a.rule a.t.now a.at a.map) (sym c.from_residual.ensures)
    (broken-written a.s.measures (pointer_by a.s.measures a.rule) a.t.now a.at a.map (formed_broken _ _ _ _ c.pointers_if.ensures c.in_err-written.was))

pub returns-in_err-frozen : goal.returns-in_err-frozen
returns-in_err-frozen c =
    let a = c.args in
    let one = formed_sound _ _ _ _ _ c.pointers_if.ensures c.in_ok-written.was in
    subst (Parted a.s.measures a.rule a.t.now a.at a.map) (sym c.from_residual-in_err-frozen.ensures)
    (broken-frozen a.s.measures (pointer_by a.s.measures a.rule) a.t.now a.at a.map _ one.left (formed_broken _ _ _ _ c.pointers_if-2.ensures c.in_err-frozen.was))

pub indices_if-requires : goal.indices_if-requires
indices_if-requires c =
    let two = formed_sound _ _ _ _ _ c.pointers_if-2.ensures c.in_ok-frozen.was in ((passed c.args.s.measures c.args.s.pass).clients.1, two.to)

pub returns-in_err-indices : goal.returns-in_err-indices
returns-in_err-indices c =
    let a = c.args in
    let one = formed_sound _ _ _ _ _ c.pointers_if.ensures c.in_ok-written.was in
    let two = formed_sound _ _ _ _ _ c.pointers_if-2.ensures c.in_ok-frozen.was in
    subst (Parted a.s.measures a.rule a.t.now a.at a.map) (sym c.from_residual-in_err-indices.ensures)
    (broken-indices a.s.measures (pointer_by a.s.measures a.rule) a.t.now a.at a.map _ _ one.left two.left
    (formed_broken _ _ _ _ (c.indices_if.ensures (pointer_by a.s.measures a.rule)) c.in_err-indices.was))

pub returns-in_err-index : goal.returns-in_err-index
returns-in_err-index c =
    let a = c.args in
    let p = pointer_by a.s.measures a.rule in
    let one = formed_sound _ _ _ _ _ c.pointers_if.ensures c.in_ok-written.was in
    let two = formed_sound _ _ _ _ _ c.pointers_if-2.ensures c.in_ok-frozen.was in
    let three = formed_sound _ _ _ _ _ (c.indices_if.ensures p) c.in_ok-indices.was in
    subst (Parted a.s.measures a.rule a.t.now a.at a.map) (sym c.from_residual-in_err-index.ensures)
    (broken-index a.s.measures p a.t.now a.at a.map _ _ _ one.left two.left three.left
    (formed_broken _ _ _ _ (c.indices_if-2.ensures p) c.in_err-index.was))
