use mathlib.Core.Path.{◌∙◌}
use Rattle.parties.proofs.client.RecordLaws.{phase_put}
use Rattle.parties.proofs.client.phase.put_phase.Goals as goal

pub returns : goal.returns
returns c = let a = c.args in c.put_u32.ensures ∙ phase_put a.client.now a.p c.requires
