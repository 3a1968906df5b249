use mathlib.Core.Path.{◌≡◌, sym, ap, ◌∙◌}
use mathlib.Core.Bool.{Bool, true, false, cond, ◌&&◌}
use mathlib.Core.Option.{some, none}
use Prim.Native.Nat.{ℕ, ◌+◌, ◌*◌, ◌^◌, ◌≤◌}
use native.Mathlib.Omega.{arith}
use borrow.Author.Tests.{lt-ltb, le-ltb}
use lib.Dec.{ltb}
use lib.ListN.{length, drop}
use Rattle.parties.specs.protocol.Format.{read_number}
use Rattle.parties.specs.protocol.Nodes.{count}
use Rattle.parties.specs.protocol.Client.{read_some, read_pieces, read_fetches}
use Rattle.parties.specs.records.Form.{rest}
use Rattle.parties.proofs.records.FormLaws.{Goes, formed_sound, formed_broken}
use Rattle.parties.proofs.client.FormLaws.{sizes, some_ends, fetches_none, fetches_left}
use Rattle.parties.proofs.client.form.fetches_form.Goals as goal
use Rattle.parties.proofs.client.form.fetches_form.Goals.{In_ok-p}

pub returns-in_err-p : goal.returns-in_err-p
returns-in_err-p c =
    let a = c.args in
    rw c.from_residual.ensures record {
      told = sym (fetches_none a.s.measures a.t.now a.at
          (formed_broken a.t.now a.at (rest (read_some a.s.measures (drop a.at a.t.now))) c.some_form.result c.some_form.ensures
          c.in_err-p.was));
      within = tt;
    }

-- the pointer reads
read : (c : In_ok-p) → let a = c.args in Goes a.t.now a.at c.in_ok-p.p (rest (read_some a.s.measures (drop a.at a.t.now)))
read c =
    let a = c.args in
    formed_sound a.t.now a.at c.in_ok-p.p (rest (read_some a.s.measures (drop a.at a.t.now))) c.some_form.result c.some_form.ensures c.in_ok-p.was

-- and there is room for what follows
ends : (c : In_ok-p) → let a = c.args in (c.in_ok-p.p + 4 + 2 * a.s.measures.n + a.s.measures.n * a.s.measures.f ≤ length a.t.now) × (a.at ≤ c.in_ok-p.p)
ends c =
    let a = c.args in
    let z = sizes a.s.measures c.args.s.pass in
    let e = some_ends a.s.measures a.t.now a.at c.in_ok-p.p (λ i. (c.type_inv.t i).fits) (read c) in
    (omega (arith, z.pieces, c.requires, e), (read c).from)

-- what is left goes by the nodes that match and the pieces
left : (c : In_ok-p) (m : ℕ) → let a = c.args in let p = c.in_ok-p.p in
    read_number 2 (drop (p + 2) a.t.now) ≡ some (record { value = m; rest = drop (p + 2 + 2) a.t.now })
    → rest (read_fetches a.s.measures (drop a.at a.t.now)) ≡ cond (ltb m (2 ^ a.s.measures.n) && ltb (count m) a.s.measures.k) (rest (read_pieces a.s.measures (drop (p + 4) a.t.now))) none
left c m e = let a = c.args in fetches_left a.s.measures a.t.now a.at c.in_ok-p.p m (read c).left (omega (arith, (ends c).0)) e

pub overflow_add-p : goal.overflow_add-p
overflow_add-p c = omega (arith, (ends (goal.at.overflow_add-p c).In_ok-p).0)

pub u16_at-m-requires : goal.u16_at-m-requires
u16_at-m-requires c = omega (arith, (ends (goal.at.u16_at-m-requires c).In_ok-p).0)

pub within-requires : goal.within-requires
within-requires c = (sizes c.args.s.measures c.args.s.pass).nodes

pub returns-then-not-within : goal.returns-then-not-within
returns-then-not-within c =
    let w : ltb c.u16_at-m.result (2 ^ c.args.s.measures.n) ≡ false = sym c.within.ensures ∙ c.if-not-within.true in
    record { told = sym (left (goal.at.returns-then-not-within c).In_ok-p _ c.u16_at-m.ensures ∙ simp w); within = tt }

pub returns-then-s-count : goal.returns-then-s-count
returns-then-s-count c =
    let s = c.args.s.measures in
    let m = c.u16_at-m.result in
    let w : ltb m (2 ^ s.n) ≡ true = sym c.within.ensures ∙ c.if-not-within.false in
    let n : ltb (count m) s.k ≡ false = le-ltb (count m) s.k (omega (arith, c.count.ensures, c.if-s-count.true)) in
    record { told = sym (left (goal.at.returns-then-s-count c).In_ok-p _ c.u16_at-m.ensures ∙ simp (w, n)); within = tt }

pub overflow_add-p-2 : goal.overflow_add-p-2
overflow_add-p-2 c = omega (arith, (ends (goal.at.overflow_add-p-2 c).In_ok-p).0)

pub pieces-requires : goal.pieces-requires
pieces-requires c = ((ends (goal.at.pieces-requires c).In_ok-p).0)

pub returns-then-not-pieces : goal.returns-then-not-pieces
returns-then-not-pieces c =
    let s = c.args.s.measures in
    let t = c.args.t.now in
    let p = c.in_ok-p.p in
    let m = c.u16_at-m.result in
    let w : ltb m (2 ^ s.n) ≡ true = sym c.within.ensures ∙ c.if-not-within.false in
    let n : ltb (count m) s.k ≡ true = lt-ltb (count m) s.k (omega (arith, c.count.ensures, c.if-s-count.false)) in
    let q : rest (read_pieces s (drop (p + 4) t)) ≡ none =
    c.pieces.ensures ∙ ap (λ (b : Bool). cond b (some (drop (p + 4 + 2 * s.n + s.n * s.f) t)) none) (c.if-not-pieces.true)
    in
    record { told = sym (left (goal.at.returns-then-not-pieces c).In_ok-p _ c.u16_at-m.ensures ∙ simp (w, n, q)); within = tt }

pub overflow_add-result : goal.overflow_add-result
overflow_add-result c = omega (arith, (ends (goal.at.overflow_add-result c).In_ok-p).0)

pub overflow_add-result-2 : goal.overflow_add-result-2
overflow_add-result-2 c = omega (arith, (ends (goal.at.overflow_add-result-2 c).In_ok-p).0)

pub overflow_add-result-3 : goal.overflow_add-result-3
overflow_add-result-3 c = omega (arith, (ends (goal.at.overflow_add-result-3 c).In_ok-p).0)

pub returns : goal.returns
returns c =
    let s = c.args.s.measures in
    let t = c.args.t.now in
    let p = c.in_ok-p.p in
    let m = c.u16_at-m.result in
    let k = (goal.at.returns c).In_ok-p in
    let w : ltb m (2 ^ s.n) ≡ true = sym c.within.ensures ∙ c.if-not-within.false in
    let n : ltb (count m) s.k ≡ true = lt-ltb (count m) s.k (omega (arith, c.count.ensures, c.if-s-count.false)) in
    let q : rest (read_pieces s (drop (p + 4) t)) ≡ some (drop (p + 4 + 2 * s.n + s.n * s.f) t) =
    c.pieces.ensures ∙ ap (λ (b : Bool). cond b (some (drop (p + 4 + 2 * s.n + s.n * s.f) t)) none) (c.if-not-pieces.false)
    in
    record { told = sym (left k _ c.u16_at-m.ensures ∙ simp (w, n, q)); within = (omega (arith, (ends k).1), (ends k).0) }
