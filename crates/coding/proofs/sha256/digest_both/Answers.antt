use Rattle.std.proofs.Common.{◌≡◌, ◌+◌, ◌%◌, ◌^◌, ◌≤◌, length, sym, refl, ◌∙◌, arith, length-take-le, rules}
use Rattle.coding.specs.Sha256.{H₀}
use Rattle.coding.proofs.Sha256Laws.{length-padding, digest_law}
use Rattle.coding.proofs.sha256.digest_both.Goals as goal

pub last-b-requires : goal.last-b-requires
last-b-requires c =
    let n = (length c.args.front.now + length c.args.s.now) % 2 ^ 64 in
    (omega arith, omega (arith, length-padding n))

pub slice_bounds-b-end : goal.slice_bounds-b-end
slice_bounds-b-end c =
    let n = (length c.args.front.now + length c.args.s.now) % 2 ^ 64 in
    let l : length c.last-b.result ≡ 128 = search rules in
    omega (arith, length-padding n)

pub slice_bounds-blocks-end : goal.slice_bounds-blocks-end
slice_bounds-blocks-end c =
    let n = (length c.args.front.now + length c.args.s.now) % 2 ^ 64 in
    let t = c.last-b.result in
    let l : length t ≡ 128 = search rules in
    let end = c.last_len-end.result in
    let e : end ≤ length t = omega (arith, length-padding n) in
    sym (length-take-le end t e)

pub returns : goal.returns
unfolding H₀
returns c =
    let a = c.args in
    let n = (length c.args.front.now + length c.args.s.now) % 2 ^ 64 in
    let t = c.last-b in
    let l : length t.result ≡ 128 = search rules in
    c.joined.ensures
    ∙ rw (c.blocks-3.ensures, c.blocks-h.ensures, c.blocks-2.ensures)
    (digest_law a.front.now a.s.now t.result n _ c.requires refl (omega arith) l t.ensures)
