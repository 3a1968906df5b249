use native.Mathlib.Omega.{arith}
use Rattle.parties.proofs.records.BytesLaws.{number-two}
use Rattle.parties.proofs.records.bytes.u16_at.Goals as goal

pub returns : goal.returns
returns c = number-two c.args.t.now c.args.at _ c.requires (omega (arith, c.from_be_bytes.ensures))
