use native.Mathlib.Omega.{arith}
use Rattle.parties.proofs.records.BytesLaws.{number-four}
use Rattle.parties.proofs.records.bytes.u32_at.Goals as goal

pub returns : goal.returns
returns c = number-four c.args.t.now c.args.at _ c.requires (omega (arith, c.from_be_bytes.ensures))
