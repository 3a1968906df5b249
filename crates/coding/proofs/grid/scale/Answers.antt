use Rattle.std.proofs.Common.{ℕ, ◌+◌, get_or, ap, ◌∙◌}
use Rattle.coding.specs.Field.{◌⊕◌, product}
use Rattle.coding.proofs.BytesLaws.{zeros_at}
use Rattle.coding.proofs.grid.scale.Goals as goal

pub returns : goal.returns
returns c =
    let a = c.args in
    λ t h. (
      (c.add_row.ensures t h).0 ∙ ap (λ (v : ℕ). v ⊕ product a.f (get_or a.row t 0)) (zeros_at 32 t),
      (c.add_row.ensures t h).1 ∙ ap (λ (v : ℕ). v ⊕ product a.f (get_or a.row (16 + t) 0)) (zeros_at 32 (16 + t)),
    )
