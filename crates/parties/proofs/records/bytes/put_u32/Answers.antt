use Rattle.std.proofs.Math.Nat.{div-div-eq-div-mul}
use Rattle.parties.specs.protocol.Format.{write_number}
use Rattle.parties.proofs.records.bytes.put_u32.Goals as goal

pub returns : goal.returns
unfolding write_number
returns c = simp div-div-eq-div-mul (rw c.to_be_bytes.ensures at c.copy.ensures)
