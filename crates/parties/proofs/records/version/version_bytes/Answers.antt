use native.Mathlib.Omega.{arith}
use Rattle.parties.proofs.records.PlaceLaws.{version_given}
use Rattle.parties.proofs.records.version.version_bytes.Goals as goal

pub returns : goal.returns
returns c = version_given c.args.v (omega arith) c.to_be_bytes.result c.to_be_bytes.ensures
