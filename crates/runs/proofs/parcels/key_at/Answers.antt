use mathlib.Core.Path.{◌≡◌, refl, sym, ◌∙◌}
use Prim.Native.Nat.{◌+◌}
use lib.ListN.{get_or}
use Rattle.title.proofs.MemoryLaws.{handed}
use Rattle.runs.specs.Parcels.{kind_of, proper_key}
use Rattle.runs.proofs.FormLaws.{key-kind}
use Rattle.runs.proofs.parcels.key_at.Goals as goal

pub returns-in_err-kind : goal.returns-in_err-kind
returns-in_err-kind c =
    let k = c.in_err-kind.ensures in rw (handed _ _ c.from_residual.ensures.1) (k.0, sym (key-kind _ _ _ _ k.1))

pub returns-then-not-proper : goal.returns-then-not-proper
returns-then-not-proper c =
    let a = c.args in
    let h = a.post.now in
    let same : proper_key a.s (kind_of c.in_ok-kind.kind) c.from-client.result c.from-node.result
    ≡ proper_key a.s (get_or h a.at 0) (get_or h (a.at + 1) 0) (get_or h (a.at + 2) 0) =
    λ j. proper_key a.s (c.in_ok-kind.ensures j) (c.from-client.ensures j) (c.from-node.ensures j) in
    (refl, sym same ∙ sym c.proper.ensures ∙ c.if-not-proper.true)

pub returns : goal.returns
returns c =
    let a = c.args in
    let h = a.post.now in
    let same : proper_key a.s (kind_of c.in_ok-kind.kind) c.from-client.result c.from-node.result
    ≡ proper_key a.s (get_or h a.at 0) (get_or h (a.at + 1) 0) (get_or h (a.at + 2) 0) =
    λ j. proper_key a.s (c.in_ok-kind.ensures j) (c.from-client.ensures j) (c.from-node.ensures j) in
    (c.in_ok-kind.ensures, c.from-client.ensures, c.from-node.ensures, sym same ∙ sym c.proper.ensures ∙ c.if-not-proper.false)
