use Rattle.std.proofs.Common.{ℕ, ◌≡◌, ◌+◌, drop, subst}
use native.Mathlib.Omega.{arith}
use Rattle.std.proofs.Math.Option.{some}
use Rattle.parties.specs.protocol.Format.{read_number}
use Rattle.parties.proofs.records.BytesLaws.{number-four}
use Rattle.runs.proofs.parcels.length_at.Goals as goal

pub returns : goal.returns
returns c =
    let a = c.args in
    let e : a.at + 3 + 4 ≡ a.at + 7 = omega arith in
    subst (λ (x : ℕ). read_number 4 (drop (a.at + 3) a.post.now) ≡ some (record { value = c.from_be_bytes.result; rest = drop x a.post.now })) e
    (number-four a.post.now (a.at + 3) c.from_be_bytes.result (omega (arith, c.requires)) (omega (arith, c.from_be_bytes.ensures)))
