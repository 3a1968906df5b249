use Rattle.std.proofs.Common.{rules}
use Rattle.parties.specs.protocol.Format.{write_number}
use Rattle.parties.proofs.records.bytes.put_u16.Goals as goal

pub returns : goal.returns
unfolding write_number
returns c = search rules
