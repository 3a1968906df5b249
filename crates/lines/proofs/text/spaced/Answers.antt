use Rattle.lines.specs.Sentences.{spaced_number}
use Rattle.lines.proofs.SentencesLaws.{adds_one, adds_more}
use Rattle.lines.proofs.text.spaced.Goals as goal

pub returns : goal.returns
unfolding spaced_number
returns c = adds_more _ _ _ (adds_one _ _ _ _ _ c.byte-n.ensures) c.decimal.ensures
