use mathlib.Core.Path.{sym, ap, ◌∙◌}
use mathlib.Core.Bool.{Bool, cond, ◌||◌}
use mathlib.Core.Option.{some, none}
use Prim.Native.Nat.{◌+◌}
use lib.ListN.{drop}
use Rattle.parties.specs.protocol.Message.{proper_version}
use Rattle.parties.proofs.client.FormLaws.{reserved_at}
use Rattle.parties.proofs.client.form.reserved_version.Goals as goal

pub returns-then-is_none : goal.returns-then-is_none
returns-then-is_none c =
    let a = c.args in
    let v = c.version_at-v in
    reserved_at a.s a.t.now a.at v.result v.ensures c.requires
    ∙ ap (λ (b : Bool). cond (b || proper_version a.s v.result) (some (drop (a.at + 5) a.t.now)) none) (sym c.is_none.ensures ∙ c.if-is_none.true)

pub returns : goal.returns
returns c =
    let a = c.args in
    let v = c.version_at-v in
    reserved_at a.s a.t.now a.at v.result v.ensures c.requires
    ∙ ap (λ (b : Bool). cond (b || proper_version a.s v.result) (some (drop (a.at + 5) a.t.now)) none) (sym c.is_none.ensures ∙ c.if-is_none.false)
    ∙ ap (λ (b : Bool). cond b (some (drop (a.at + 5) a.t.now)) none) (sym c.proper.ensures)
