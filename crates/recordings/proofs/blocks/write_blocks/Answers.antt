use Rattle.std.proofs.Common.{◌≡◌, ◌+◌, ◌*◌, ◌/◌, get_or, refl, zero-add, arith}
use Rattle.coding.specs.Areas.{Columns}
use Rattle.coding.proofs.AreasLaws.{columns-join}
use Rattle.recordings.specs.Planes.{among_samples}
use Rattle.recordings.proofs.blocks.write_blocks.Goals as goal

pub loop-b-preserved : goal.loop-b-preserved
loop-b-preserved c =
    let s = c.loop-b.b * 512 in
    let d = c.args.bytes.now in
    let more : Columns 3 c.args.n 0 (s + 512) (λ p l. get_or d (among_samples 3 l p) 0) c.args.out.now c.write_block.new.out =
    columns-join 3 _ 0 s 512 _ (λ p l. get_or d (among_samples 3 (s + l) p) 0) _ _ _ (omega arith) (λ i l. refl) c.loop-b.invariant (rw zero-add c.write_block.ensures)
    in
    let e : s + 512 ≡ (c.loop-b.b + 1) * 512 = omega arith in rw e at more

pub returns : goal.returns
returns c = let e : c.loop-b.b ≡ c.args.n / 512 = omega arith in (omega arith, rw e at c.loop-b.invariant)
