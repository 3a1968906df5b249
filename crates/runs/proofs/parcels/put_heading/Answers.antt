use Rattle.std.proofs.Math.Nat.{div-div-eq-div-mul}
use Rattle.std.proofs.Common.{◌≡◌, ◌+◌}
use Rattle.std.proofs.Math.Seq.{paste}
use Rattle.parties.specs.protocol.Format.{write_number}
use Rattle.runs.proofs.PostLaws.{heading_put}
use Rattle.runs.proofs.parcels.put_heading.Goals as goal

pub returns : goal.returns
unfolding write_number
returns c =
    let e : c.put.new.post ≡ paste _ (c.args.used + 3) (write_number 4 c.args.len) 4 = simp div-div-eq-div-mul (rw c.to_be_bytes.ensures at c.put.ensures) in
    rw (← c.from.ensures) (heading_put _ _ _ _ _ _ c.requires _ e)
