use mathlib.Core.Path.{sym, ap, ◌∙◌}
use mathlib.Core.Bool.{Bool, cond}
use mathlib.Core.Option.{some, none}
use Prim.Native.Nat.{◌+◌}
use lib.ListN.{drop}
use Rattle.parties.proofs.client.FormLaws.{piece-broken, piece_left}
use Rattle.parties.proofs.client.form.piece.Goals as goal

pub returns-then-s-l : goal.returns-then-s-l
returns-then-s-l c = let a = c.args in piece-broken a.s a.t.now a.at a.l c.requires c.if-s-l.true

pub returns : goal.returns
returns c =
    let a = c.args in
    piece_left a.s a.t.now a.at a.l c.requires (λ i. (c.type_inv.t i).fits)
    c.if-s-l.false
    ∙ ap (λ (b : Bool). cond b (some (drop (a.at + a.s.f) a.t.now)) none) (sym c.zero_run.ensures)
