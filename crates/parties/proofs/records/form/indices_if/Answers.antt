use mathlib.Core.Path.{◌≡◌, sym, ap, ◌∙◌}
use mathlib.Core.Bool.{Bool, cond}
use mathlib.Core.Option.{some}
use Prim.Native.Nat.{ℕ, ◌+◌, ◌*◌}
use native.Mathlib.Omega.{arith}
use lib.ListN.{drop, length-drop}
use lib.Seq.{drop-drop}
use Rattle.parties.specs.protocol.Directory.{Field, read_content}
use Rattle.parties.specs.records.Form.{rest}
use Rattle.parties.proofs.records.FormLaws.{fixed_fits, fixed_short}
use Rattle.parties.proofs.records.RecordLaws.{fixed_indices}
use Rattle.parties.proofs.records.form.indices_if.Goals as goal

pub returns-then-t-at : goal.returns-then-t-at
returns-then-t-at c = λ p.
    let a = c.args in
    let u = drop a.at a.t.now in
    record {
      told = sym (ap (λ (b : Bool). cond b (rest (read_content p (Field.indices a.n) u)) (some u)) (c.if-not-stands.false)
          ∙ fixed_short (a.n * 4) (read_content p (Field.indices a.n)) (fixed_indices p a.n) u (omega (arith, length-drop a.at a.t.now)));
      within = tt;
    }

pub returns : goal.returns
returns c = λ p.
    let a = c.args in
    let u = drop a.at a.t.now in
    let e : a.at + a.n * 4 ≡ a.at + 4 * a.n = omega arith in
    record {
      told = sym (ap (λ (b : Bool). cond b (rest (read_content p (Field.indices a.n) u)) (some u)) (c.if-not-stands.false)
          ∙ fixed_fits (a.n * 4) (read_content p (Field.indices a.n)) (fixed_indices p a.n) u (omega (arith, length-drop a.at a.t.now))
          ∙ ap some (drop-drop (a.n * 4) a.at a.t.now ∙ ap (λ (k : ℕ). drop k a.t.now) e));
      within = (omega arith, omega arith);
    }
