use Rattle.std.proofs.Common.{rules, ◌≡◌, ℕ, eqb, bit_or, fold, ap, ◌∙◌}
use Rattle.parties.proofs.records.BytesLaws.{ored_zero}
use Rattle.parties.proofs.records.bytes.zeros.Goals as goal

pub returns : goal.returns
returns c =
    let e : c.fold.result ≡ fold bit_or 0 c.args.s.now = search rules in
    ap (λ (b : ℕ). eqb b 0) e ∙ ored_zero _
