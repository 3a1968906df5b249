use Rattle.parties.proofs.client.RecordLaws.{phase-read}
use Rattle.parties.proofs.client.phase.phase_of.Goals as goal

pub returns : goal.returns
returns c = let a = c.args in phase-read a.client.now c.u32_at-i.result (λ i. (c.type_inv.client i).fits) c.requires c.u32_at-i.ensures
