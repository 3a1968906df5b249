use Rattle.std.proofs.Common.{ℕ, ◌+◌, List, [], ◌∷◌, ◌++◌, sym, ap, ◌∙◌, arith}
use Rattle.coding.proofs.NodesLaws.{nodes_start, nodes_skip, nodes-more, nodes-few}
use Rattle.coding.proofs.nodes.named.Goals as goal
use Rattle.coding.proofs.nodes.named.Goals.{then-stands, else-stands}

pub loop-i-init : goal.loop-i-init
loop-i-init c = c.none-nodes.ensures ∙ sym (nodes_start c.args.map)

pub push-requires : goal.push-requires
push-requires c = rw c.loop-i.invariant (omega (arith, nodes-few c.args.map c.loop-i.i))

pub loop-i-preserved : goal.loop-i-preserved
loop-i-preserved c =
    let map = c.args.map in
    let l = c.loop-i in
    elim c.if-stands.branch [
      | then-stands w ↦
          w.nodes-is
          ∙ w.push.ensures
          ∙ ap (λ (xs : List ℕ). xs ++ (l.i + 1) ∷ []) l.invariant
          ∙ sym (nodes-more map l.i (sym c.stands.ensures ∙ w.if-stands.true))
      | else-stands w ↦ w.nodes-is ∙ l.invariant ∙ sym (nodes_skip map l.i (sym c.stands.ensures ∙ w.if-stands.false))
    ]
