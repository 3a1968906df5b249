use mathlib.Core.Path.{sym, subst}
use native.Mathlib.Omega.{arith}
use Rattle.title.proofs.MemoryLaws.{handed}
use Rattle.runs.specs.Parcels.{kind_of, FindsAt}
use Rattle.runs.proofs.PostLaws.{Passed, passed_none, passed_end, next-found, next_passed}
use Rattle.runs.proofs.FormLaws.{from_list, is_list, list_end, list-next, list-before}
use Rattle.runs.proofs.parcels.find.Goals as goal

pub loop-at-init : goal.loop-at-init
loop-at-init c = (omega arith, λ l. l, λ l. l, λ q l. passed_none c.args.s.measures _ _ _ q _ _ l)

pub returns-in_err-sound : goal.returns-in_err-sound
returns-in_err-sound c =
    let i = c.loop-at.invariant in
    let t = c.in_ok-end.ensures in
    let n = c.in_err-sound.ensures in
    rw (handed _ _ c.from_residual-in_err-sound.ensures.1)
    (n.0, λ q l. n.1 (list-next c.args.s.measures c.args.s.pass c.args.used c.args.post.now c.requires c.loop-at.at _ t (i.2 (from_list _ _ _ q l))))

pub returns-then-keyed : goal.returns-then-keyed
returns-then-keyed c =
    let i = c.loop-at.invariant in
    let t = c.in_ok-end.ensures in
    let at = c.loop-at.at in
    record {
      list = is_list c.args.s.measures c.args.used c.args.post.now c.requires
          (i.1 (list-before c.args.s.measures c.args.s.pass c.args.used c.args.post.now c.requires at _ t (λ j. (c.type_inv.post j).fits) c.in_ok-sound.ensures));
      first = omega (arith, t.last);
      last = t.within;
      oldest = λ q l. subst (FindsAt (kind_of c.args.key.kind) c.args.key.client c.args.key.node q at) (sym t.last)
          (next-found c.args.s.measures c.args.s.pass _ _ _ q _ _ _ c.requires i.0 (i.3 q l) (omega (arith, t.last, t.within)) t.len _ t.read _ c.keyed.ensures c.if-keyed.true);
    }

pub loop-at-preserved : goal.loop-at-preserved
loop-at-preserved c =
    let i = c.loop-at.invariant in
    let t = c.in_ok-end.ensures in
    let at = c.loop-at.at in (
      t.within,
      λ l. i.1 (list-before c.args.s.measures c.args.s.pass c.args.used c.args.post.now c.requires at _ t (λ j. (c.type_inv.post j).fits) l),
      λ l. list-next c.args.s.measures c.args.s.pass c.args.used c.args.post.now c.requires at _ t (i.2 l),
      λ q l. subst (Passed c.args.s.measures (kind_of c.args.key.kind) c.args.key.client c.args.key.node q c.args.used c.args.post.now) (sym t.last)
          (next_passed c.args.s.measures c.args.s.pass _ _ _ q _ _ _ c.requires i.0 (i.3 q l) (omega (arith, t.last, t.within)) t.len _ t.read _ c.keyed.ensures c.if-keyed.false),
    )

pub returns : goal.returns
returns c =
    let i = c.loop-at.invariant in
    record {
      list = is_list c.args.s.measures c.args.used c.args.post.now c.requires (i.1 (list_end c.args.s.measures c.args.used c.args.post.now c.loop-at.at c.requires (omega arith)));
      none = λ q l. passed_end c.args.s.measures c.args.s.pass _ _ _ q _ _ _ c.requires i.0 (i.3 q l) (omega arith);
    }
