use mathlib.Core.Path.{◌≡◌, ap, ◌∙◌}
use mathlib.Core.Bool.{Bool, cond}
use mathlib.Core.Option.{some, none}
use Prim.Native.Nat.{ℕ, ◌+◌, ◌-◌, ◌*◌}
use native.Mathlib.Omega.{arith}
use lib.ListN.{drop}
use Rattle.coding.proofs.BytesLaws.{stride}
use Rattle.parties.specs.protocol.Format.{read_number, read_many}
use Rattle.parties.proofs.records.SizeLaws.{below_rows}
use Rattle.parties.proofs.client.FormLaws.{left_each, pieces_start, pieces_turn, pieces-broken, pieces_end}
use Rattle.parties.proofs.client.form.pieces.Goals as goal

pub loop-i-init : goal.loop-i-init
loop-i-init c =
    let a = c.args in
    let e : a.s.measures.n ≡ a.s.measures.n - 0 = omega arith in
    let q : a.from ≡ a.from + 2 * 0 = omega arith in
    let p : a.from + 2 * a.s.measures.n ≡ a.from + 2 * a.s.measures.n + 0 * a.s.measures.f = omega arith in
    pieces_start a.s.measures a.t.now a.from (omega (arith, c.requires))
    ∙ (λ j. left_each a.s.measures (read_many (read_number 2) (e j) (drop (q j) a.t.now)) (drop (p j) a.t.now))

pub piece-requires : goal.piece-requires
piece-requires c =
    let a = c.args in
    let l = c.loop-i in omega (arith, below_rows l.i a.s.measures.n a.s.measures.f c.loop-i-test.true, c.requires)

pub returns-then-not-piece : goal.returns-then-not-piece
returns-then-not-piece c =
    let a = c.args in
    let l = c.loop-i in
    let q = a.from + 2 * l.i in
    let p = a.from + 2 * a.s.measures.n + l.i * a.s.measures.f in
    l.invariant
    ∙ pieces-broken a.s.measures a.t.now l.i c.loop-i-test.true q p c.u16_at-l.result c.u16_at-l.ensures
    (c.piece.ensures ∙ ap (λ (x : Bool). cond x (some (drop (p + a.s.measures.f) a.t.now)) none) c.if-not-piece.true)

pub loop-i-preserved : goal.loop-i-preserved
loop-i-preserved c =
    let a = c.args in
    let l = c.loop-i in
    let q = a.from + 2 * l.i in
    let p = a.from + 2 * a.s.measures.n + l.i * a.s.measures.f in
    let e : q + 2 ≡ a.from + 2 * (l.i + 1) = omega arith in
    let f : p + a.s.measures.f ≡ a.from + 2 * a.s.measures.n + (l.i + 1) * a.s.measures.f = omega (arith, stride l.i a.s.measures.f) in
    l.invariant
    ∙ pieces_turn a.s.measures a.t.now l.i c.loop-i-test.true q p c.u16_at-l.result c.u16_at-l.ensures (drop (p + a.s.measures.f) a.t.now)
    (c.piece.ensures ∙ ap (λ (x : Bool). cond x (some (drop (p + a.s.measures.f) a.t.now)) none) c.if-not-piece.false)
    ∙ (λ j. left_each a.s.measures (read_many (read_number 2) (a.s.measures.n - (l.i + 1)) (drop (e j) a.t.now)) (drop (f j) a.t.now))

pub returns : goal.returns
returns c =
    let a = c.args in
    let l = c.loop-i in
    let n : l.i ≡ a.s.measures.n = omega arith in
    l.invariant
    ∙ pieces_end a.s.measures a.t.now l.i c.loop-i-test.false (drop (a.from + 2 * l.i) a.t.now) (drop (a.from + 2 * a.s.measures.n + l.i * a.s.measures.f) a.t.now)
    ∙ ap (λ (k : ℕ). some (drop (a.from + 2 * a.s.measures.n + k * a.s.measures.f) a.t.now)) n
