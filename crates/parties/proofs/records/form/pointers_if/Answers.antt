use mathlib.Core.Path.{sym, ap, ◌∙◌}
use mathlib.Core.Bool.{Bool, cond}
use mathlib.Core.Option.{some}
use lib.ListN.{drop}
use Rattle.parties.specs.protocol.Directory.{Field, read_content}
use Rattle.parties.specs.records.Form.{rest, pointer_by}
use Rattle.parties.proofs.records.RecordLaws.{rest-pointers}
use Rattle.parties.proofs.records.form.pointers_if.Goals as goal

pub returns : goal.returns
returns c =
    let a = c.args in
    let u = drop a.at a.t.now in
    let f = c.pointers.ensures in
    record {
      told = f.told ∙ sym (ap (λ (b : Bool). cond b (rest (read_content (pointer_by a.s.measures a.rule) (Field.pointers a.n) u)) (some u)) (c.if-not-stands.false) ∙ rest-pointers (pointer_by a.s.measures a.rule) a.n u);
      within = f.within;
    }
