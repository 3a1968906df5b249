use Rattle.std.proofs.Common.{◌∙◌, arith}
use Rattle.runs.proofs.EventLaws.{sized_is, needed-small}
use Rattle.session.proofs.LineLaws.{frame_bound}
use Rattle.session.proofs.session.slices_long.Goals as goal

pub overflow_mul-frame : goal.overflow_mul-frame
overflow_mul-frame c = omega (arith, (frame_bound c.args.s c.requires).1)

pub overflow_sub-frame : goal.overflow_sub-frame
overflow_sub-frame c = omega (arith, (frame_bound c.args.s c.requires).0)

pub overflow_sub-frame-2 : goal.overflow_sub-frame-2
overflow_sub-frame-2 c = omega (arith, (frame_bound c.args.s c.requires).0)

pub overflow_mul-frame-2 : goal.overflow_mul-frame-2
overflow_mul-frame-2 c = omega (arith, (frame_bound c.args.s c.requires).1)

pub overflow_add-frame : goal.overflow_add-frame
overflow_add-frame c = omega (arith, (frame_bound c.args.s c.requires).1)

pub overflow_mul-result : goal.overflow_mul-result
overflow_mul-result c = omega (arith, c.needed-parcels.ensures ∙ sized_is c.args.s _ c.requires, needed-small c.args.s c.requires)
