use mathlib.Core.Path.{sym, ap, subst, ◌∙◌}
use mathlib.Core.Option.{Option}
use mathlib.Core.List.{List}
use Prim.Native.Nat.{ℕ}
use native.Mathlib.Omega.{arith}
use lib.ListN.{drop}
use Rattle.parties.specs.protocol.Client.{read_work}
use Rattle.parties.specs.records.Form.{rest, Formed}
use Rattle.parties.proofs.client.FormLaws.{work_scanning, work_storing, work_some, work_fetching, work_other, work_empty}
use Rattle.parties.proofs.client.form.work_form.Goals as goal

pub returns-in-1 : goal.returns-in-1
returns-in-1 c =
    let a = c.args in
    let u = drop a.at a.t.now in
    subst (λ (o : Option (List ℕ)). Formed a.t.now a.at o c.page_form.result)
    (sym (ap (λ (n : ℕ). rest (read_work a.s.measures n u)) c.in-1.is ∙ work_scanning a.s.measures u)) c.page_form.ensures

pub returns-in-2 : goal.returns-in-2
returns-in-2 c =
    let a = c.args in
    let u = drop a.at a.t.now in
    subst (λ (o : Option (List ℕ)). Formed a.t.now a.at o c.stores_form.result)
    (sym (ap (λ (n : ℕ). rest (read_work a.s.measures n u)) c.in-2.is ∙ work_storing a.s.measures u)) c.stores_form.ensures

pub returns-in-3 : goal.returns-in-3
returns-in-3 c =
    let a = c.args in
    subst (λ (o : Option (List ℕ)). Formed a.t.now a.at o c.some_form.result)
    (sym (work_some a.s.measures (drop a.at a.t.now) a.step (omega arith) (omega arith))) c.some_form.ensures

pub returns-in-7 : goal.returns-in-7
returns-in-7 c =
    let a = c.args in
    let u = drop a.at a.t.now in
    subst (λ (o : Option (List ℕ)). Formed a.t.now a.at o c.fetches_form.result)
    (sym (ap (λ (n : ℕ). rest (read_work a.s.measures n u)) c.in-7.is ∙ work_fetching a.s.measures u)) c.fetches_form.ensures

pub returns-in-0 : goal.returns-in-0
returns-in-0 c =
    let a = c.args in
    record {
      told = sym (work_empty a.s.measures (drop a.at a.t.now) a.step (omega arith) (λ e. omega arith) (λ e. omega arith) (λ e. omega arith) (λ e. omega arith)
          (λ e. omega arith));
      within = (omega arith, omega (arith, c.requires));
    }

pub returns-in-5 : goal.returns-in-5
returns-in-5 c =
    let a = c.args in
    record {
      told = sym (work_empty a.s.measures (drop a.at a.t.now) a.step (omega arith) (λ e. omega arith) (λ e. omega arith) (λ e. omega arith) (λ e. omega arith)
          (λ e. omega arith));
      within = (omega arith, omega (arith, c.requires));
    }

pub returns-in_default : goal.returns-in_default
returns-in_default c =
    let a = c.args in
    record { told = sym (work_other a.s.measures (drop a.at a.t.now) a.step (omega arith)); within = tt }
