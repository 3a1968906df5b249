use Rattle.std.proofs.Common.{◌≡◌, length, ◌∙◌, sym, length-take-le, arith, take_all, rules}
use Rattle.coding_export.proofs.put.Goals as goal

pub copy_from_slice-requires : goal.copy_from_slice-requires
copy_from_slice-requires c =
    let l : length c.args.d ≡ 32 = search rules in
    length-take-le 32 c.args.out.now c.requires ∙ sym l

pub returns : goal.returns
returns c =
    let l : length c.args.d ≡ 32 = search rules in
    rw (c.copy_from_slice.ensures.after, take_all 32 c.args.d (omega arith))
