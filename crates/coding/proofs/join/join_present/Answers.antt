use Rattle.std.proofs.Common.{◌≡◌, ◌*◌, ◌<◌, ◌≤◌, true, length, take, sym, refl, ap, ◌∙◌, mul-le-mul_right, arith, length-take-le, get_or-take}
use Rattle.coding.specs.Nodes.{nodes_of, sound, first_length}
use Rattle.coding.proofs.MeasureLaws.{proper-measures}
use Rattle.coding.proofs.NodesLaws.{nodes-within, sound-length, first-length}
use Rattle.coding.proofs.JoinEndLaws.{join_unsound, join-few, join-page, lowest_distinct}
use Rattle.coding.proofs.join.join_present.Goals as goal

pub named-listed-requires : goal.named-listed-requires
named-listed-requires c = (proper-measures _ _ _ c.requires.0).nodes.1

pub sound_lengths-requires : goal.sound_lengths-requires
sound_lengths-requires c =
    let a = c.args in
    let r = c.requires in
    let g : c.as_slice-nodes.result.now ≡ nodes_of a.present a.n = c.as_slice-nodes.ensures ∙ c.named-listed.ensures in
    rw g (λ i h. let w = nodes-within a.present a.n i h in (w.0, omega arith))

pub returns-then-not-sound_lengths : goal.returns-then-not-sound_lengths
returns-then-not-sound_lengths c =
    let a = c.args in
    let r = c.requires in
    let g : c.as_slice-nodes.result.now ≡ nodes_of a.present a.n = c.as_slice-nodes.ensures ∙ c.named-listed.ensures in
    let e = ap (sound a.f a.lens.now) (sym g) ∙ sym c.sound_lengths.ensures ∙ c.if-not-sound_lengths.true in
    rw (join_unsound a.n a.k a.f a.present a.room.now a.lens.now a.out.now r.0 r.1 r.2 r.3 r.4 e) (refl, refl)

pub returns-then-nodes-k : goal.returns-then-nodes-k
returns-then-nodes-k c =
    let a = c.args in
    let r = c.requires in
    let g : c.as_slice-nodes.result.now ≡ nodes_of a.present a.n = c.as_slice-nodes.ensures ∙ c.named-listed.ensures in
    let e = ap (sound a.f a.lens.now) (sym g) ∙ sym c.sound_lengths.ensures ∙ c.if-not-sound_lengths.false in
    rw (join-few a.n a.k a.f a.present a.room.now a.lens.now a.out.now r.0 r.1 r.2 r.3 r.4 e (rw g at c.if-nodes-k.true)) (refl, refl)

pub bounds-nodes-0 : goal.bounds-nodes-0
bounds-nodes-0 c =
    let p = proper-measures c.args.n c.args.k c.args.f c.requires.0 in
    omega (arith, p.parts.0, c.if-nodes-k.false)

pub length_of-requires : goal.length_of-requires
length_of-requires c =
    let a = c.args in
    let r = c.requires in
    let p = proper-measures a.n a.k a.f r.0 in
    let g : c.as_slice-nodes.result.now ≡ nodes_of a.present a.n = c.as_slice-nodes.ensures ∙ c.named-listed.ensures in
    let h : a.k ≤ length (nodes_of a.present a.n) = rw g at c.if-nodes-k.false in
    let w = nodes-within a.present a.n 0 (omega (arith, p.parts.0)) in
    rw g (w.0, omega arith)

pub join_columns-requires : goal.join_columns-requires
join_columns-requires c =
    let a = c.args in
    let r = c.requires in
    let p = proper-measures a.n a.k a.f r.0 in
    let xs = nodes_of a.present a.n in
    let g : c.as_slice-nodes.result.now ≡ xs = c.as_slice-nodes.ensures ∙ c.named-listed.ensures in
    let e : sound a.f a.lens.now xs ≡ true = ap (sound a.f a.lens.now) (sym g) ∙ sym c.sound_lengths.ensures ∙ c.if-not-sound_lengths.false in
    let h : a.k ≤ length xs = rw g at c.if-nodes-k.false in
    let z : 0 < length xs = omega (arith, p.parts.0) in
    let d : c.length_of.result ≡ first_length a.lens.now xs = rw g at c.length_of.ensures ∙ sym (first-length a.lens.now xs z) in
    let t : length (take a.k xs) ≡ a.k = length-take-le a.k xs h in
    rw (g, t) (
      p.parts.0,
      omega (arith, p.parts.1, p.nodes.1),
      p.longest.1,
      rw d (sound-length a.f a.lens.now xs z e).1,
      r.3,
      (λ i l.
          let w = nodes-within a.present a.n i (omega arith) in
          let m : a.n * a.f ≤ length a.room.now = r.1 in
          rw (get_or-take a.k xs i 0 l) (w.0, omega (arith, p.nodes.1), omega (arith, mul-le-mul_right a.f w.1))),
      rw t at (lowest_distinct a.n a.k a.f a.present a.room.now a.lens.now p r.1 e h),
    )

pub returns : goal.returns
returns c =
    let a = c.args in
    let r = c.requires in
    let p = proper-measures a.n a.k a.f r.0 in
    let xs = nodes_of a.present a.n in
    let g : c.as_slice-nodes.result.now ≡ xs = c.as_slice-nodes.ensures ∙ c.named-listed.ensures in
    let e : sound a.f a.lens.now xs ≡ true = ap (sound a.f a.lens.now) (sym g) ∙ sym c.sound_lengths.ensures ∙ c.if-not-sound_lengths.false in
    let h : a.k ≤ length xs = rw g at c.if-nodes-k.false in
    let z : 0 < length xs = omega (arith, p.parts.0) in
    let d : c.length_of.result ≡ first_length a.lens.now xs = rw g at c.length_of.ensures ∙ sym (first-length a.lens.now xs z) in
    let t : length (take a.k c.as_slice-nodes.result.now) ≡ a.k = length-take-le a.k c.as_slice-nodes.result.now c.if-nodes-k.false in
    rw (join-page a.n a.k a.f a.present a.room.now a.lens.now a.out.now r.0 r.1 r.2 r.3 r.4 e h, ← d, ← g) (rw t at c.join_columns.ensures)
