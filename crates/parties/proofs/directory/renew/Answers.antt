use Rattle.std.proofs.Common.{Fits, w8, get_or, rules}
use mathlib.Core.Path.{refl, sym, subst}
use Prim.Native.Nat.{◌+◌}
use native.Mathlib.Omega.{arith}
use lib.ListN.{drop}
use Rattle.parties.specs.protocol.Measures.{row_size}
use Rattle.parties.specs.declared.records.form.Rule.{Rule}
use Rattle.parties.specs.directory.Room.{Renewed}
use Rattle.parties.proofs.records.SizeLaws.{row_bound}
use Rattle.parties.proofs.records.RecordLaws.{parted_sound, parted_broken}
use Rattle.parties.proofs.directory.RoomLaws.{built_length}
use Rattle.parties.proofs.directory.UpdateEndLaws.{row_fields_sound, renewed-fits, renewed_end}
use Rattle.parties.proofs.directory.renew.Goals as goal

pub returns-in_default : goal.returns-in_default
returns-in_default c = λ u r p q.
    let a = c.args in
    let f = c.field_ends in
    absurd (row_fields_sound a.s.measures a.table.now a.at (record { value = r; rest = drop (a.at + row_size a.s.measures) a.table.now }) (λ i. let b : Fits w8 (get_or c.args.table.now i 0) = search rules in b.fits) q
    (parted_broken a.s.measures Rule.Proper a.table.now (a.at + 1) 15 f.result f.ensures c.in_default.is))

pub rebuild-requires : goal.rebuild-requires
rebuild-requires c =
    let a = c.args in
    let ended = parted_sound a.s.measures Rule.Proper a.table.now (a.at + 1) 15 c.field_ends.result c.field_ends.ensures c.in-Some.f c.in-Some.is in
    let p = c.requires in
    let e = ended in (
      p.2.0,
      refl,
      p.2.2.ordered,
      e.ordered,
      renewed-fits a.s.measures c.args.s.pass a.fields.now a.table.now a.at a.e c.in-Some.f (λ i. (c.type_inv.fields i).fits) (λ i. let b : Fits w8 (get_or c.args.table.now i 0) = search rules in b.fits)
          p.2 e (drop (a.at + row_size a.s.measures) a.table.now) p.3,
    )

pub copy-requires : goal.copy-requires
copy-requires c =
    let a = c.args in
    let p = c.requires in
    let r = c.rebuild in
    (omega (arith, p.0, p.1), omega (arith, p.0, row_bound a.s.measures c.args.s.pass, built_length _ r.new.room r.ensures))

pub returns : goal.returns
returns c =
    let a = c.args in
    let ended = parted_sound a.s.measures Rule.Proper a.table.now (a.at + 1) 15 c.field_ends.result c.field_ends.ensures c.in-Some.f c.in-Some.is in
    let p = c.requires in
    let r = c.rebuild in
    subst (Renewed a.s.measures a.at a.fields.now a.table.now) (sym c.copy.ensures)
    (renewed_end a.s.measures c.args.s.pass a.fields.now a.table.now a.at a.e c.in-Some.f (λ i. (c.type_inv.fields i).fits) (λ i. let b : Fits w8 (get_or c.args.table.now i 0) = search rules in b.fits)
    p.2 ended r.new.room r.ensures a.size p.0)
