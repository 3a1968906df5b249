use Rattle.std.proofs.Common.{◌≡◌, ℕ, ◌+◌, ◌*◌, ◌<◌, ◌≤◌, eqb, List, ◌++◌, length, get_or, take, drop, sym, refl, ap, ◌∙◌, mul-le-mul_right, mul_comm, arith, length-drop, length-take-le}
use Rattle.coding.specs.Bytes.{from_four}
use Rattle.coding.specs.Answer.{Outcome}
use Rattle.coding.specs.Nodes.{all}
use Rattle.coding.specs.Output.{Placed}
use Rattle.coding.specs.Join.{joined}
use Rattle.coding.proofs.JoinLaws.{length-joined, placed_page}
use Rattle.coding.proofs.PageLaws.{page-short, page-long, page-wide, page-filled, page-found}
use Rattle.coding.proofs.join.join_columns.Goals as goal
use Rattle.coding.proofs.join.join_columns.Goals.{then-size-len-via-then-size-len, then-size-len-via-else-size-len+then-nodes-size, then-size-len-via-else-size-len+else-nodes-size+then-not-zero_from}

pub returns-then-size-lt4 : goal.returns-then-size-lt4
returns-then-size-lt4 c =
    let a = c.args in
    let fr : List ℕ = joined a.f a.room.now a.nodes.now a.columns in
    let n : a.columns * length a.nodes.now ≡ length fr = sym (length-joined a.f a.room.now a.nodes.now a.columns) in
    rw (page-short (length a.nodes.now) fr (omega arith)) (refl, refl)

pub page_length-len-requires : goal.page_length-len-requires
page_length-len-requires c = let a = c.args in omega (arith, length-joined a.f a.room.now a.nodes.now a.columns)

pub zero_from-requires : goal.zero_from-requires
zero_from-requires c = let a = c.args in omega (arith, length-joined a.f a.room.now a.nodes.now a.columns)

pub returns-then-size-len : goal.returns-then-size-len
returns-then-size-len c =
    let a = c.args in
    let k = length a.nodes.now in
    let fr : List ℕ = joined a.f a.room.now a.nodes.now a.columns in
    let n : a.columns * k ≡ length fr = sym (length-joined a.f a.room.now a.nodes.now a.columns) in
    let e : c.page_length-len.result ≡ from_four fr = c.page_length-len.ensures in
    elim c.then-size-len.branch [
      | then-size-len-via-then-size-len w ↦ rw (page-long k fr (omega arith) (omega (arith, w.if-size-len.true))) (refl, refl)
      | then-size-len-via-else-size-len+then-nodes-size w ↦
          rw (page-wide k fr (omega arith) (omega (arith, w.if-size-len.false)) (omega (arith, w.if-nodes-size.true))) (refl, refl)
      | then-size-len-via-else-size-len+else-nodes-size+then-not-zero_from w ↦
          rw
          (page-filled k fr (omega arith) (omega (arith, w.if-size-len.false)) (omega (arith, w.if-nodes-size.false))
          (ap (λ (x : ℕ). all (λ b. eqb b 0) (drop (4 + x) fr)) (sym e) ∙ sym w.zero_from.ensures ∙ w.if-not-zero_from.true))
          (refl, refl)
    ]

pub write_page-requires : goal.write_page-requires
write_page-requires c =
    let a = c.args in
    let k = length a.nodes.now in
    let m : a.columns * k ≤ k * a.f = rw (mul_comm k a.f) (mul-le-mul_right k c.requires.3) in
    omega arith

pub returns : goal.returns
returns c =
    let a = c.args in
    let k = length a.nodes.now in
    let fr : List ℕ = joined a.f a.room.now a.nodes.now a.columns in
    let n : a.columns * k ≡ length fr = sym (length-joined a.f a.room.now a.nodes.now a.columns) in
    let e : c.page_length-len.result ≡ from_four fr = c.page_length-len.ensures in
    let m : a.columns * k ≤ k * a.f = rw (mul_comm k a.f) (mul-le-mul_right k c.requires.3) in
    let l : length (take (from_four fr) (drop 4 fr)) ≡ from_four fr = length-take-le (from_four fr) (drop 4 fr) (omega (arith, length-drop 4 fr)) in
    let p : Placed (λ p. get_or fr p 0) (from_four fr) (λ p. p < length fr) a.out.now c.write_page.new.out = rw e at c.write_page.ensures in
    rw
    (page-found k fr (omega arith) (omega arith) (omega arith)
    (ap (λ (x : ℕ). all (λ b. eqb b 0) (drop (4 + x) fr)) (sym e) ∙ sym c.zero_from.ensures ∙ c.if-not-zero_from.false)) (
      ap Outcome.gives (e ∙ sym l),
      placed_page fr a.out.now _ (from_four fr) (omega arith) (omega arith) p
          ∙ ap (λ (x : ℕ). take (from_four fr) (drop 4 fr) ++ drop x a.out.now) (sym l),
    )
