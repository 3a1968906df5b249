-- Document 01's edges of this layer hold of the definitions.
use Rattle.std.proofs.Common.{◌≡◌, ℕ, ◌-◌, ◌*◌, ◌≤◌, [], ◌∷◌, length, refl, ap, ◌∙◌, arith}
use Rattle.coding.specs.Field.{product, power, sum}
use Rattle.coding.specs.Bytes.{tabulate}
use Rattle.coding.specs.Pieces.{columns, frame, piece_byte, piece}
use Rattle.coding.specs.Answer.{Outcome}
use Rattle.coding.specs.Split.{SplitEnd}
use Rattle.coding.specs.Edges.{Edges}
use Rattle.coding.proofs.FieldLaws.{zero_product}
use Rattle.coding.proofs.SplitLaws.{split-long, split_done}

zeros : (i : ℕ) → piece 2 [] i ≡ 0x00 ∷ 0x00 ∷ []
unfolding piece columns piece_byte frame tabulate sum
zeros i = simp zero_product

pub edges : Edges
unfolding product power sum tabulate columns frame piece_byte piece
edges =
    record {
      twice = refl;
      four = λ n page room p r l.
          let h : length page ≤ 2 * 4 - 4 = omega arith in
          ap (λ (s : SplitEnd). s.outcome) (split_done n 2 4 page room p r h) ∙ ap (λ (m : ℕ). Outcome.gives (columns 2 m)) l;
      five = λ n page room p r l. ap (λ (s : SplitEnd). s.outcome) (split-long n 2 4 page room p r (omega arith));
      empty = zeros;
      one_1 = refl;
      one_2 = refl;
      one_3 = refl;
      two_1 = refl;
      two_2 = refl;
    }
