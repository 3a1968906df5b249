use mathlib.Core.Path.{◌≡◌, sym, ap, subst, ◌∙◌}
use mathlib.Core.Bool.{Bool, ◌&&◌}
use mathlib.Core.List.{List}
use mathlib.Core.Option.{Option, some}
use Prim.Native.Nat.{ℕ, ◌+◌, ◌-◌, ◌*◌}
use native.Mathlib.Omega.{arith}
use lib.ListN.{drop}
use Rattle.coding.proofs.BytesLaws.{stride}
use Rattle.parties.specs.protocol.Format.{Read, read_many}
use Rattle.parties.specs.protocol.Measures.{row_size}
use Rattle.parties.specs.protocol.Directory.{Row, read_row, read_directory}
use Rattle.parties.specs.protocol.Owner.{own_rows}
use Rattle.parties.specs.records.Form.{rest, holds, Tabled}
use Rattle.parties.proofs.protocol.model.Cells.{and_all}
use Rattle.parties.proofs.records.SizeLaws.{below_rows}
use Rattle.parties.proofs.records.FormLaws.{none_read, many_turn, many-broken, many_end}
use Rattle.parties.proofs.records.RecordLaws.{grouped, rowed_sound, rowed_broken, held_turn, held_end}
use Rattle.parties.proofs.records.form.rows.Goals as goal

pub row-requires : goal.row-requires
row-requires c =
    let a = c.args in
    let p = c.requires in
    let z : a.size ≡ row_size a.s.measures = p.0 in
    (p.0, rw z (omega (arith, below_rows c.loop-i.i a.s.measures.m (row_size a.s.measures) c.loop-i-test.true)))

pub returns-in_err-owned : goal.returns-in_err-owned
unfolding read_directory
returns-in_err-owned c =
    let a = c.args in
    let l = c.loop-i in
    subst (Tabled a.s.measures a.t.now) (sym c.from_residual.ensures)
    (none_read (read_directory a.s.measures a.t.now)
    (l.invariant.read
    ∙ many-broken (read_row a.s.measures) a.s.measures.m l.i (drop (l.i * a.size) a.t.now) c.loop-i-test.true
    (rowed_broken a.s.measures l.i a.t.now (l.i * a.size) c.row.result c.row.ensures c.in_err-owned.was)))

pub loop-i-preserved : goal.loop-i-preserved
loop-i-preserved c =
    let a = c.args in
    let l = c.loop-i in
    let o = c.in_ok-owned.owned in
    let w = rowed_sound a.s.measures l.i a.t.now (l.i * a.size) c.row.result c.row.ensures o c.in_ok-owned.was in
    let t = c.loop-i-test.true in
    let next : l.i * a.size + row_size a.s.measures ≡ (l.i + 1) * a.size =
    ap (λ (x : ℕ). l.i * a.size + x) (sym c.requires.0) ∙ sym (stride l.i a.size)
    in
    let later : ℕ → Option (Read (List Row)) = λ at. read_many (read_row a.s.measures) (a.s.measures.m - (l.i + 1)) (drop at a.t.now) in
    let rest_of : ℕ → Bool = λ at. holds (own_rows (l.i + 1)) (later at) in
    record {
      read =
          l.invariant.read
          ∙ many_turn (read_row a.s.measures) a.s.measures.m l.i (drop (l.i * a.size) a.t.now) t (drop (l.i * a.size + row_size a.s.measures) a.t.now) w.0
          ∙ ap (λ (k : ℕ). rest (later k)) next;
      owned =
          l.invariant.owned
          ∙ ap (λ (b : Bool). l.all && b) (held_turn a.s.measures l.i (drop (l.i * a.size) a.t.now) t (drop (l.i * a.size + row_size a.s.measures) a.t.now) w.0)
          ∙ ap (λ (b : Bool). l.all && (b && rest_of (l.i * a.size + row_size a.s.measures))) (sym w.1)
          ∙ grouped l.all o (rest_of (l.i * a.size + row_size a.s.measures))
          ∙ ap (λ (k : ℕ). (l.all && o) && rest_of k) next;
    }

pub returns : goal.returns
unfolding read_directory
returns c =
    let a = c.args in
    let l = c.loop-i in
    let n : l.i ≡ a.s.measures.m = omega arith in
    let e : l.i * a.size ≡ a.s.measures.m * row_size a.s.measures = (λ j. n j * c.requires.0 j) in (
      l.invariant.read ∙ many_end (read_row a.s.measures) a.s.measures.m l.i (drop (l.i * a.size) a.t.now) c.loop-i-test.false ∙ ap (λ (k : ℕ). some (drop k a.t.now)) e,
      sym (l.invariant.owned ∙ ap (λ (b : Bool). l.all && b) (held_end a.s.measures l.i (drop (l.i * a.size) a.t.now) c.loop-i-test.false) ∙ and_all l.all),
    )
