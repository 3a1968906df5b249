use Rattle.std.proofs.Common.{◌+◌, Bool, ◌&&◌, eqb, get_or, drop, sym, ap, ◌∙◌, arith, eq-eqb, ne_eqb}
use Rattle.coding.specs.Nodes.{all}
use Rattle.coding.proofs.NodesLaws.{all-step, all_end}
use Rattle.coding.proofs.join.Frame.zero_from.Goals as goal

pub returns-then-byte-ne0 : goal.returns-then-byte-ne0
returns-then-byte-ne0 c =
    let b = c.args.self.now.bytes in
    let p = c.loop-p.p in
    sym
    (c.loop-p.invariant
    ∙ all-step (λ x. eqb x 0) b p (omega arith)
    ∙ ap (λ (t : Bool). t && all (λ x. eqb x 0) (drop (p + 1) b))
    (ne_eqb (get_or b p 0) 0 (λ q. c.if-byte-ne0.true (c.byte.ensures ∙ q))))

pub loop-p-preserved : goal.loop-p-preserved
loop-p-preserved c =
    let b = c.args.self.now.bytes in
    let p = c.loop-p.p in
    c.loop-p.invariant
    ∙ all-step (λ x. eqb x 0) b p (omega arith)
    ∙ ap (λ (t : Bool). t && all (λ x. eqb x 0) (drop (p + 1) b))
    (eq-eqb (get_or b p 0) 0 (sym c.byte.ensures ∙ c.if-byte-ne0.false))

pub returns : goal.returns
returns c =
    let b = c.args.self.now.bytes in
    let p = c.loop-p.p in
    sym (c.loop-p.invariant ∙ all_end (λ x. eqb x 0) b p (omega arith))
