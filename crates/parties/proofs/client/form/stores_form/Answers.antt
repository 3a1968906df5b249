use mathlib.Core.Path.{sym, ◌∙◌}
use Prim.Native.Nat.{◌+◌, ◌*◌, ◌≤◌}
use native.Mathlib.Omega.{arith}
use lib.ListN.{length}
use Rattle.parties.proofs.client.FormLaws.{sizes, stores-broken, stores-sound}
use Rattle.parties.proofs.client.form.stores_form.Goals as goal

pub returns-then-not-proper_stores : goal.returns-then-not-proper_stores
returns-then-not-proper_stores c =
    let a = c.args in
    let v = c.version_at-v in
    let m = c.u16_at-map in
    let p = c.proper_stores in
    let l : a.at + 7 + a.s.measures.n * 32 ≤ length a.t.now = omega (arith, (sizes a.s.measures c.args.s.pass).pieces, c.requires) in
    record {
      told = sym (stores-broken a.s.measures a.t.now a.at v.result m.result l v.ensures m.ensures
          (sym p.ensures ∙ c.if-not-proper_stores.true));
      within = tt;
    }

pub returns : goal.returns
returns c =
    let a = c.args in
    let v = c.version_at-v in
    let m = c.u16_at-map in
    let p = c.proper_stores in
    let l : a.at + 7 + a.s.measures.n * 32 ≤ length a.t.now = omega (arith, (sizes a.s.measures c.args.s.pass).pieces, c.requires) in
    record {
      told = sym (stores-sound a.s.measures a.t.now a.at v.result m.result l v.ensures m.ensures
          (sym p.ensures ∙ c.if-not-proper_stores.false));
      within = (omega arith, l);
    }
