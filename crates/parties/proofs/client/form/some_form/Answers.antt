use mathlib.Core.Path.{sym, subst, ◌∙◌}
use mathlib.Core.List.{List}
use mathlib.Core.Option.{Option}
use Prim.Native.Nat.{ℕ, ◌+◌}
use lib.ListN.{drop}
use Rattle.parties.specs.records.Form.{Formed}
use Rattle.parties.proofs.records.RecordLaws.{bytes_drop}
use Rattle.parties.proofs.records.PlaceLaws.{version-read}
use Rattle.parties.proofs.client.FormLaws.{some_broken, some_left}
use Rattle.parties.proofs.client.form.some_form.Goals as goal

pub returns-then-is_none : goal.returns-then-is_none
returns-then-is_none c =
    let a = c.args in
    let v = c.version_at in
    record {
      told = sym (some_broken a.s.measures (drop a.at a.t.now) (drop (a.at + 5) a.t.now) v.result
          (version-read a.t.now a.at v.result v.ensures c.requires)
          (bytes_drop a.at a.t.now (λ i. (c.type_inv.t i).fits)) (sym c.is_none.ensures ∙ c.if-is_none.true));
      within = tt;
    }

pub returns : goal.returns
returns c =
    let a = c.args in
    let v = c.version_at in
    subst (λ (o : Option (List ℕ)). Formed a.t.now a.at o c.pointer.result)
    (sym (some_left a.s.measures (drop a.at a.t.now) (drop (a.at + 5) a.t.now) v.result
    (version-read a.t.now a.at v.result v.ensures c.requires) (sym c.is_none.ensures ∙ c.if-is_none.false))) c.pointer.ensures
