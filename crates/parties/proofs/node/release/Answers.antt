use Rattle.std.proofs.Common.{Fits, w8, get_or, rules}
use mathlib.Core.Path.{sym, ◌∙◌}
use Rattle.parties.proofs.node.FreeingLaws.{pending_first, pending_end, pending_behind, pending_named, pending_kept}
use Rattle.parties.proofs.node.release.Goals as goal

pub loop-left-init : goal.loop-left-init
loop-left-init c = let a = c.args in pending_first a.s a.t.now a.b.now a.count a.listed c.requires

pub loop-left-preserved-then-list_behind : goal.loop-left-preserved-then-list_behind
loop-left-preserved-then-list_behind c =
    let l = c.loop-left in
    let a = c.args in
    (pending_behind a.s a.t.now a.b.now a.count a.listed l.t l.from l.left l.at l.more l.run l.to l.kept l.invariant
    c.loop-left-test.true c.version_at-v.result c.version_at-v.ensures (sym c.list_behind.ensures ∙ c.if-list_behind.true)).1

pub loop-left-preserved-then-list_names : goal.loop-left-preserved-then-list_names
loop-left-preserved-then-list_names c =
    let l = c.loop-left in
    let a = c.args in
    pending_named a.s a.t.now a.b.now a.count a.listed l.t l.from l.left l.at l.more l.run l.to l.kept l.invariant
    c.loop-left-test.true c.version_at-v.result c.version_at-v.ensures (sym c.list_names.ensures ∙ c.if-list_names.true) _ c.lower.ensures

pub loop-left-preserved : goal.loop-left-preserved
loop-left-preserved c =
    let l = c.loop-left in
    let a = c.args in
    pending_kept a.s a.t.now a.b.now a.count a.listed l.t l.from l.left l.at l.more l.run l.to l.kept l.invariant
    c.loop-left-test.true
    (λ i. let b : Fits w8 (get_or c.args.t.now i 0) = search rules in b.fits) c.version_at-v.result c.version_at-v.ensures
    (sym c.list_behind.ensures ∙ c.if-list_behind.false) (sym c.list_names.ensures ∙ c.if-list_names.false)

pub returns : goal.returns
returns c =
    let a = c.args in
    pending_end a.s a.t.now a.b.now a.count a.listed c.loop-left.t c.loop-left.from c.loop-left.left
    c.loop-left.at c.loop-left.more c.loop-left.run c.loop-left.to c.loop-left.kept c.loop-left.invariant c.loop-left-test.false _ c.lower-2.ensures
