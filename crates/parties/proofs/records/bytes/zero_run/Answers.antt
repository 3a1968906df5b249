use Rattle.std.proofs.Common.{◌≡◌, ◌+◌, ◌-◌, ◌*◌, ◌/◌, ◌<◌, length, get_or, take, drop, eqb, ℕ, Bool, false, true, ◌&&◌, List, [], refl, sym, ap, ◌∙◌, arith}
use Rattle.std.specs.Simd.{first_chunks}
use Rattle.coding.specs.Nodes.{all}
use Rattle.parties.proofs.records.BytesLaws.{zeros_block}
use Rattle.parties.proofs.records.bytes.zero_run.Goals as goal

-- the bytes from a block on, once the block was looked at
after : (l : List ℕ) (bs : List (List ℕ)) (i : ℕ) (b : Bool) → bs ≡ first_chunks 256 (length l / 256) l → length bs ≡ length l / 256 → i < length bs
    → all (λ b. eqb b 0) l ≡ all (λ b. eqb b 0) (drop (i * 256) l) → b ≡ all (λ b. eqb b 0) (get_or bs i [])
    → all (λ b. eqb b 0) l ≡ (b && all (λ b. eqb b 0) (drop ((i + 1) * 256) l))
after l bs i b f n h v e =
    v ∙ zeros_block 256 (length l / 256) i l (omega (arith, n, h)) b (e ∙ ap (λ (x : List (List ℕ)). all (λ b. eqb b 0) (get_or x i [])) f)

pub loop-block-init : goal.loop-block-init
loop-block-init c = refl

pub returns-then-not-zeros : goal.returns-then-not-zeros
returns-then-not-zeros c =
    let a = c.as_chunks.ensures in
    let l = c.loop-block in
    sym (after _ _ l.block-index false a.front a.front_len c.loop-block-test.true l.invariant (sym c.if-not-zeros.true ∙ c.zeros.ensures))

pub loop-block-preserved : goal.loop-block-preserved
loop-block-preserved c =
    let a = c.as_chunks.ensures in
    let l = c.loop-block in
    after _ _ l.block-index true a.front a.front_len c.loop-block-test.true l.invariant (sym c.if-not-zeros.false ∙ c.zeros.ensures)

pub returns : goal.returns
returns c =
    let a = c.as_chunks.ensures in
    let l = c.loop-block in
    let s = take (c.args.to - c.args.from) (drop c.args.from c.args.t.now) in
    let e : length s / 256 ≡ l.block-index = omega (arith, a.front_len, c.loop-block-test.false, l.auto.block-index-end) in
    c.zeros-2.ensures ∙ ap (all (λ b. eqb b 0)) (a.back ∙ ap (λ (n : ℕ). drop (n * 256) s) e) ∙ sym l.invariant
