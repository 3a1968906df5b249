use Rattle.parties.specs.declared.records.form.Rule.{Rule}
use lib.ListN.{get_or}
use Rattle.parties.proofs.records.RecordLaws.{record_none, record_high, record_short, record_long, record_by, parted_sound, parted_broken}
use Rattle.parties.proofs.records.form.whole_record.Goals as goal

pub returns-then-t-lt1 : goal.returns-then-t-lt1
returns-then-t-lt1 c = record_none c.args.s.measures c.args.t.now c.if-t-lt1.true

pub returns-then-map-ge-MAPS : goal.returns-then-map-ge-MAPS
returns-then-map-ge-MAPS c = record_high c.args.s.measures c.args.t.now c.if-t-lt1.false c.if-map-ge-MAPS.true

pub returns-in_default : goal.returns-in_default
returns-in_default c =
    let a = c.args in
    let f = c.field_ends in
    record_short a.s.measures a.t.now c.if-t-lt1.false c.if-map-ge-MAPS.false
    (parted_broken a.s.measures Rule.Length a.t.now 1 (get_or a.t.now 0 0) f.result f.ensures c.in_default.is)

pub returns-then-e-t : goal.returns-then-e-t
returns-then-e-t c =
    let a = c.args in
    let e = c.in-Some.e in
    let walked = parted_sound a.s.measures Rule.Length a.t.now 1 (get_or a.t.now 0 0) c.field_ends.result c.field_ends.ensures e c.in-Some.is in
    record_long a.s.measures a.t.now c.if-t-lt1.false c.if-map-ge-MAPS.false e walked c.if-e-t.true

pub returns : goal.returns
returns c =
    let a = c.args in
    let e = c.in-Some.e in
    let walked = parted_sound a.s.measures Rule.Length a.t.now 1 (get_or a.t.now 0 0) c.field_ends.result c.field_ends.ensures e c.in-Some.is in
    record_by a.s.measures a.t.now c.if-t-lt1.false c.if-map-ge-MAPS.false e walked c.if-e-t.false a.own c.own_fields.result c.own_fields.ensures c.ok_or.result c.ok_or.ensures.value
