use mathlib.Core.Path.{sym}
use Prim.Native.Nat.{◌+◌, ◌≤◌}
use native.Mathlib.Omega.{arith}
use lib.ListN.{length}
use Rattle.parties.proofs.client.FormLaws.{sizes, page-broken, page-sound}
use Rattle.parties.proofs.client.form.page_form.Goals as goal

pub overflow_mul-s : goal.overflow_mul-s
overflow_mul-s c = let z = sizes c.args.s.measures c.args.s.pass in omega (arith, z.frame)

pub overflow_sub-s : goal.overflow_sub-s
overflow_sub-s c = let z = sizes c.args.s.measures c.args.s.pass in omega (arith, z.frame)

pub returns-then-s-n : goal.returns-then-s-n
returns-then-s-n c =
    let a = c.args in
    let q = c.u32_at-n in
    record { told = sym (page-broken a.s.measures a.t.now a.at q.result q.ensures c.if-s-n.true); within = tt }

pub returns : goal.returns
returns c =
    let a = c.args in
    let q = c.u32_at-n in
    let z = sizes a.s.measures c.args.s.pass in
    let l : a.at + 4 + q.result ≤ length a.t.now = omega (arith, z.frame, z.pieces, c.requires, c.if-s-n.false) in
    record {
      told = sym (page-sound a.s.measures a.t.now a.at q.result q.ensures c.if-s-n.false l);
      within = (omega arith, l);
    }
