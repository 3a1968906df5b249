use Rattle.std.proofs.Common.{ℕ, ◌+◌, ◌-◌, ◌<◌, Bool, ◌&&◌, eqb, length, get_or, drop, sym, ap, ◌∙◌, arith, eq-eqb, ne_eqb}
use Rattle.coding.specs.Nodes.{all}
use Rattle.coding.proofs.NodesLaws.{all-step, all_end, sound_none, some_nodes, sound_low, sound-high, sound-rest}
use Rattle.coding.proofs.nodes.sound_lengths.Goals as goal
use Rattle.coding.proofs.nodes.sound_lengths.Goals.{then-first-lt1-via-then-first-lt1, then-first-lt1-via-else-first-lt1+then-f-first}

pub returns-then-is_empty : goal.returns-then-is_empty
returns-then-is_empty c = sym (sound_none c.args.f c.args.lens.now c.args.nodes.now (sym c.is_empty.ensures ∙ c.if-is_empty.true))

pub length_of-first-requires : goal.length_of-first-requires
length_of-first-requires c =
    c.requires 0 (some_nodes c.args.nodes.now (sym c.is_empty.ensures ∙ c.if-is_empty.false))

pub returns-then-first-lt1 : goal.returns-then-first-lt1
returns-then-first-lt1 c =
    let a = c.args in
    let some : 0 < length a.nodes.now = some_nodes a.nodes.now (sym c.is_empty.ensures ∙ c.if-is_empty.false) in
    elim c.then-first-lt1.branch [
      | then-first-lt1-via-then-first-lt1 w ↦
          sym (sound_low a.f a.lens.now a.nodes.now some c.length_of-first.result c.length_of-first.ensures w.if-first-lt1.true)
      | then-first-lt1-via-else-first-lt1+then-f-first w ↦
          sym
          (sound-high a.f a.lens.now a.nodes.now some c.length_of-first.result c.length_of-first.ensures w.if-first-lt1.false
          w.if-f-first.true)
    ]

pub returns-then-length_of-first : goal.returns-then-length_of-first
returns-then-length_of-first c =
    let a = c.args in
    let some : 0 < length a.nodes.now = some_nodes a.nodes.now (sym c.is_empty.ensures ∙ c.if-is_empty.false) in
    let s = c.loop-s.s in
    let f : ℕ → Bool = λ i. eqb (get_or a.lens.now (i - 1) 0) c.length_of-first.result in
    sym
    (sound-rest a.f a.lens.now a.nodes.now some c.length_of-first.result c.length_of-first.ensures c.if-first-lt1.false c.if-f-first.false
    ∙ c.loop-s.invariant
    ∙ all-step f a.nodes.now s c.loop-s-test.true
    ∙ ap (λ (t : Bool). t && all f (drop (s + 1) a.nodes.now))
    (ne_eqb _ _ (λ q. c.if-length_of-first.true (c.length_of.ensures ∙ q))))

pub loop-s-preserved : goal.loop-s-preserved
loop-s-preserved c =
    let a = c.args in
    let s = c.loop-s.s in
    let f : ℕ → Bool = λ i. eqb (get_or a.lens.now (i - 1) 0) c.length_of-first.result in
    c.loop-s.invariant
    ∙ all-step f a.nodes.now s c.loop-s-test.true
    ∙ ap (λ (t : Bool). t && all f (drop (s + 1) a.nodes.now))
    (eq-eqb _ _ (sym c.length_of.ensures ∙ c.if-length_of-first.false))

pub returns : goal.returns
returns c =
    let a = c.args in
    let some : 0 < length a.nodes.now = some_nodes a.nodes.now (sym c.is_empty.ensures ∙ c.if-is_empty.false) in
    let f : ℕ → Bool = λ i. eqb (get_or a.lens.now (i - 1) 0) c.length_of-first.result in
    sym
    (sound-rest a.f a.lens.now a.nodes.now some c.length_of-first.result c.length_of-first.ensures c.if-first-lt1.false c.if-f-first.false
    ∙ c.loop-s.invariant
    ∙ all_end f a.nodes.now c.loop-s.s (omega arith))
