use mathlib.Core.Path.{◌≡◌, sym, ap, ◌∙◌}
use mathlib.Core.Bool.{Bool, cond}
use mathlib.Core.Option.{some, none}
use Prim.Native.Nat.{ℕ, ◌+◌, ◌-◌}
use native.Mathlib.Omega.{arith}
use lib.Dec.{eqb}
use lib.ListN.{take, drop}
use Rattle.coding.specs.Nodes.{all}
use Rattle.parties.specs.protocol.Measures.{pointer_size}
use Rattle.parties.specs.protocol.Pointer.{read_pointer, write_pointer}
use Rattle.parties.proofs.protocol.formats.PointerLaws.{GoodPointer, format_pointer}
use Rattle.parties.proofs.protocol.formats.RowLaws.{pointer-fits}
use Rattle.parties.specs.records.Form.{rest}
use Rattle.parties.proofs.records.FormLaws.{Goes, formed_sound, formed_broken}
use Rattle.parties.proofs.client.FormLaws.{area_broken, area_ends, area_left}
use Rattle.parties.proofs.client.form.pointer_area.Goals as goal

pub returns-in_default : goal.returns-in_default
returns-in_default c =
    let a = c.args in
    area_broken (pointer_size a.s.measures) (read_pointer a.s.measures) write_pointer (GoodPointer a.s.measures) (format_pointer a.s.measures) (pointer-fits a.s.measures) a.t.now
    (λ i. (c.type_inv.t i).fits) a.at
    (formed_broken a.t.now a.at (rest (read_pointer a.s.measures (drop a.at a.t.now))) c.pointer.result c.pointer.ensures c.in_default.is)

pub zero_run-requires : goal.zero_run-requires
zero_run-requires c =
    let read : let a = c.args in Goes a.t.now a.at c.in-Some.next (rest (read_pointer a.s.measures (drop a.at a.t.now))) =
    let a = c.args in
    formed_sound a.t.now a.at c.in-Some.next (rest (read_pointer a.s.measures (drop a.at a.t.now))) c.pointer.result
    c.pointer.ensures c.in-Some.is in
    let a = c.args in
    let z : a.size ≡ pointer_size a.s.measures = c.requires.0 in
    let w = area_ends (pointer_size a.s.measures) (read_pointer a.s.measures) write_pointer (GoodPointer a.s.measures) (format_pointer a.s.measures) (pointer-fits a.s.measures) a.t.now
    (λ i. (c.type_inv.t i).fits) a.at c.in-Some.next read
    in
    (omega (arith, w), omega (arith, c.requires.1))

pub returns : goal.returns
returns c =
    let read : let a = c.args in Goes a.t.now a.at c.in-Some.next (rest (read_pointer a.s.measures (drop a.at a.t.now))) =
    let a = c.args in
    formed_sound a.t.now a.at c.in-Some.next (rest (read_pointer a.s.measures (drop a.at a.t.now))) c.pointer.result
    c.pointer.ensures c.in-Some.is in
    let a = c.args in
    let t = a.t.now in
    let next = c.in-Some.next in
    let z : pointer_size a.s.measures ≡ a.size = sym c.requires.0 in
    area_left (pointer_size a.s.measures) (read_pointer a.s.measures) write_pointer (GoodPointer a.s.measures) (format_pointer a.s.measures) (pointer-fits a.s.measures) t
    (λ i. (c.type_inv.t i).fits) a.at next read c.requires.1
    ∙ ap (λ (x : Bool). cond x (some (drop (a.at + pointer_size a.s.measures) t)) none)
    (ap (λ (k : ℕ). all (λ b. eqb b 0) (take (a.at + k - next) (drop next t))) z ∙ sym c.zero_run.ensures)
