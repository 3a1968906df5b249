use native.Mathlib.Omega.{arith}
use Rattle.runs.proofs.EventLaws.{tagged_full}
use Rattle.runs.proofs.event.tagged.Goals as goal

pub returns : goal.returns
returns c = let p = c.args.place.now in tagged_full c.args.post.now p.start p.end (omega arith) c.requires.1
