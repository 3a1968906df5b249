use lib.ListN.{drop}
use Rattle.parties.specs.declared.records.form.Rule.{Rule}
use Rattle.parties.specs.protocol.Pointer.{read_pointer}
use Rattle.parties.specs.protocol.Directory.{fields}
use Rattle.parties.specs.protocol.Owner.{own_pointer}
use Rattle.parties.proofs.records.RecordLaws.{parted_sound, parted_broken, ended_left, ended_loose, fields-held, fields_unheld}
use Rattle.parties.proofs.records.form.own_fields.Goals as goal

-- one walk with the owner's test
pub returns-in-Some : goal.returns-in-Some
returns-in-Some c =
    let a = c.args in
    let f = c.field_ends in
    let e = c.in-Some.ends in
    let h = parted_sound a.s.measures (Rule.Owner a.own) a.t.now a.at a.map f.result f.ensures e c.in-Some.is in (
      ended_loose (own_pointer a.own) (read_pointer a.s.measures) a.s.measures a.t.now a.at a.map e h,
      fields-held (own_pointer a.own) (read_pointer a.s.measures) (fields a.s.measures) a.map (drop a.at a.t.now) _ (ended_left a.s.measures _ a.t.now a.at a.map e h),
    )

pub returns : goal.returns
returns c =
    let a = c.args in
    let f = c.field_ends-2 in
    let e = c.in_ok-ends.ends in
    let g = c.field_ends in (
      parted_sound a.s.measures Rule.Proper a.t.now a.at a.map f.result f.ensures e c.in_ok-ends.was,
      fields_unheld (own_pointer a.own) (read_pointer a.s.measures) (fields a.s.measures) a.map (drop a.at a.t.now)
          (parted_broken a.s.measures (Rule.Owner a.own) a.t.now a.at a.map g.result g.ensures c.in_default.is),
    )
