use mathlib.Core.Path.{◌≡◌, sym, ap, ◌∙◌}
use mathlib.Core.Option.{some}
use Prim.Native.Nat.{ℕ, ◌+◌, ◌*◌, ◌≤◌}
use native.Mathlib.Omega.{arith}
use lib.ListN.{drop, length-drop}
use Rattle.coding.proofs.NodesLaws.{nodes-few}
use Rattle.parties.specs.protocol.Nodes.{count}
use Rattle.parties.proofs.records.RecordLaws.{pointer-short, pointer_improper, pointer-long, pointer-sound}
use Rattle.parties.proofs.records.PlaceLaws.{version-read}
use Rattle.parties.proofs.records.form.pointer.Goals as goal

pub returns-then-left-lt7 : goal.returns-then-left-lt7
returns-then-left-lt7 c =
    let a = c.args in
    record {
      told = sym (pointer-short a.s.measures a.rule (drop a.at a.t.now) (omega (arith, length-drop a.at a.t.now)));
      within = tt;
    }

pub overflow_mul-size : goal.overflow_mul-size
overflow_mul-size c =
    let few : c.count-nodes.result ≤ 16 =
    omega (arith, c.count-nodes.ensures, nodes-few c.u16_at-map.result 16) in
    omega (arith, few)

pub overflow_add-size : goal.overflow_add-size
overflow_add-size c =
    let few : c.count-nodes.result ≤ 16 =
    omega (arith, c.count-nodes.ensures, nodes-few c.u16_at-map.result 16) in
    omega (arith, few)

pub returns-then-not-allowed : goal.returns-then-not-allowed
returns-then-not-allowed c =
    let a = c.args in
    let v = c.version_at-v in
    let m = c.u16_at-map in
    let p = c.allowed in
    let r = c.if-left-lt7.false in
    record {
      told = sym (pointer_improper a.s.measures a.rule a.t.now a.at v.result m.result r (version-read a.t.now a.at v.result v.ensures (omega arith)) m.ensures
          (sym p.ensures ∙ c.if-not-allowed.true));
      within = tt;
    }

pub returns-then-left-size : goal.returns-then-left-size
returns-then-left-size c =
    let a = c.args in
    let v = c.version_at-v in
    let m = c.u16_at-map in
    let p = c.allowed in
    let r = c.if-left-lt7.false in
    let e : c.count-nodes.result ≡ count m.result = c.count-nodes.ensures in
    record {
      told = sym (pointer-long a.s.measures a.rule a.t.now a.at v.result m.result r (version-read a.t.now a.at v.result v.ensures (omega arith)) m.ensures
          (sym p.ensures ∙ c.if-not-allowed.false) (omega arith));
      within = tt;
    }

pub returns : goal.returns
returns c =
    let a = c.args in
    let v = c.version_at-v in
    let m = c.u16_at-map in
    let p = c.allowed in
    let r = c.if-left-lt7.false in
    let e : c.count-nodes.result ≡ count m.result = c.count-nodes.ensures in
    record {
      told = ap (λ (k : ℕ). some (drop (a.at + (7 + 32 * k)) a.t.now)) e
          ∙ sym (pointer-sound a.s.measures a.rule a.t.now a.at v.result m.result r (version-read a.t.now a.at v.result v.ensures (omega arith)) m.ensures
          (sym p.ensures ∙ c.if-not-allowed.false) (omega arith));
      within = (omega arith, omega arith);
    }
