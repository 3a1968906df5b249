use mathlib.Core.Path.{sym, ap, subst, ◌∙◌}
use mathlib.Core.Bool.{Bool, cond}
use Prim.Native.Nat.{◌+◌}
use native.Mathlib.Omega.{arith}
use Rattle.parties.specs.protocol.Nodes.{with_node}
use Rattle.parties.specs.protocol.Directory.{read_directory}
use Rattle.parties.specs.protocol.Deposit.{noticed}
use Rattle.parties.proofs.protocol.formats.ClientLaws.{keeper}
use Rattle.parties.specs.client.Draw.{rows_of}
use Rattle.parties.specs.client.Found.{retained_in}
use Rattle.parties.proofs.client.FormLaws.{sizes}
use Rattle.parties.proofs.client.NoticeLaws.{Marked, marked-none, marked_more}
use Rattle.parties.proofs.client.notice.noticed_map.Goals as goal

pub loop-q-init : goal.loop-q-init
loop-q-init c = marked-none _

pub notices_client-here-requires : goal.notices_client-here-requires
notices_client-here-requires c =
    let p = c.requires in
    (p.0, p.1, c.row_size-size.ensures, p.2, p.3, c.loop-q-test.true)

pub marked-map-requires : goal.marked-map-requires
marked-map-requires c =
    (omega arith, omega (arith, c.loop-q-test.true, (sizes c.args.s.measures c.args.s.pass).clients))

pub loop-q-preserved : goal.loop-q-preserved
loop-q-preserved c =
    let a = c.args in
    let l = c.loop-q in
    let f = noticed a.own (keeper (retained_in a.s.measures a.area.now)) (rows_of (read_directory a.s.measures a.rows.now)) in
    let e = c.marked-map.ensures ∙ ap (λ (b : Bool). cond b (with_node l.map (l.q + 1)) l.map) c.notices_client-here.ensures in
    subst (Marked f (l.q + 1)) (sym e) (marked_more f l.q l.map l.invariant)

pub returns : goal.returns
returns c = λ p h. c.loop-q.invariant.told p (omega (arith, c.loop-q-test.false, h))
