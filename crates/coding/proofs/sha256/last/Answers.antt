use Rattle.std.proofs.Common.{◌≡◌, ◌-◌, ◌∙◌, ◌%◌, length, drop, set, arith, length-set, length-drop, length-take-le, rules}
use Rattle.coding.proofs.Sha256Laws.{length-padding, last_law}
use Rattle.coding.proofs.sha256.last.Goals as goal

pub overflow_sub-b : goal.overflow_sub-b
overflow_sub-b c = omega (arith, length-padding c.args.n)

pub copy_from_slice-requires : goal.copy_from_slice-requires
copy_from_slice-requires c =
    let e = c.args.end in
    let b = set c.rest-b.result (length c.args.s.now % 64) 0x80 in
    let l : length c.rest-b.result ≡ 128 = search rules in
    let y : length c.to_be_bytes.result ≡ 8 = search rules in
    let m : length b ≡ 128 = length-set c.rest-b.result (length c.args.s.now % 64) 0x80 ∙ l in
    length-take-le (e - (e - 8)) (drop (e - 8) b) (omega (arith, length-padding c.args.n, length-drop (e - 8) b))
    ∙ omega (arith, length-padding c.args.n)

pub returns : goal.returns
returns c =
    let a = c.args in
    let b = c.rest-b in
    let l : length b.result ≡ 128 = search rules in
    last_law a.s.now a.n a.end c.requires.0 b.result _ l c.requires.1 b.ensures (c.copy_from_slice.ensures.after ∙ c.to_be_bytes.ensures)
