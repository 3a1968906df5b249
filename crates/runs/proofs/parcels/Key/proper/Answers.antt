use mathlib.Core.Path.{◌∙◌}
use native.Mathlib.Omega.{arith}
use borrow.Author.Tests.{lt-leb}
use Rattle.runs.proofs.FormLaws.{kind-within, plain_kind, message_kind, key-outside, key-call, key_low, key_message}
use Rattle.runs.proofs.parcels.Key.proper.Goals as goal

pub returns-then-s-self : goal.returns-then-s-self
returns-then-s-self c = key-outside _ _ _ _ (kind-within c.args.self.kind) (omega arith)

pub returns-in-Call : goal.returns-in-Call
returns-in-Call c = let k = c.args.self.kind in key-call _ _ _ _ (kind-within k) (omega arith) (plain_kind k c.in-Call.is)

pub returns-then-self-ge1 : goal.returns-then-self-ge1
returns-then-self-ge1 c =
    let k = c.args.self.kind in key_message _ _ _ _ (kind-within k) (omega arith) (message_kind k c.in-ToNode.is) (omega arith)

pub returns-else-self-ge1 : goal.returns-else-self-ge1
returns-else-self-ge1 c =
    let k = c.args.self.kind in
    lt-leb 1 c.args.self.node (omega arith) ∙ key_low _ _ _ _ (kind-within k) (omega arith) (message_kind k c.in-ToNode.is) (omega arith)
