use mathlib.Core.Path.{◌∙◌}
use Rattle.parties.proofs.client.MatchLaws.{match_empty, match_long, match_digest}
use native.Mathlib.Omega.{arith}
use Rattle.parties.proofs.client.reply.matches.Goals as goal

pub returns-then-piece-lt1 : goal.returns-then-piece-lt1
returns-then-piece-lt1 c = match_empty _ _ _ _ _ _ c.if-piece-lt1.true

pub returns-then-f-piece : goal.returns-then-f-piece
returns-then-f-piece c = match_long _ _ _ _ _ _ (omega arith) c.if-f-piece.true

pub returns : goal.returns
returns c = c.same_bytes.ensures ∙ match_digest _ _ _ _ _ _ (omega (arith, c.if-piece-lt1.false)) (omega (arith, c.if-f-piece.false)) _ c.digest_piece-d.ensures
