use Rattle.std.proofs.Common.{Fits, w8, get_or, rules}
use mathlib.Core.Path.{◌≡◌, refl, sym, ◌∙◌}
use mathlib.Core.Bool.{true}
use native.Mathlib.Nat.{mul-le-mul_right}
use native.Mathlib.Omega.{arith}
use Rattle.parties.specs.protocol.Measures.{place_size}
use Rattle.parties.specs.node.ToNode.{free_sound}
use Rattle.parties.proofs.node.EndLaws.{broken-free, filled, listing, freed}
use Rattle.parties.proofs.node.free.Goals as goal

pub returns-then-not-free_sound : goal.returns-then-not-free_sound
returns-then-not-free_sound c =
    let a = c.args in
    let p = c.requires in
    broken-free a.s a.t.now a.b.now a.room.now p.0 p.1 p.2
    (sym c.free_sound.ensures ∙ c.if-not-free_sound.true)

pub release-kept-requires : goal.release-kept-requires
release-kept-requires c =
    let a = c.args in
    let free-sound = c.free_sound in
    let p = c.requires in
    let q : free_sound a.s a.b.now ≡ true = sym free-sound.ensures ∙ c.if-not-free_sound.false in
    listing a.s a.t.now a.b.now a.room.now p.0 c.length_at-count.result c.length_at-count.ensures.0 p.1 q

pub overflow_mul-kept : goal.overflow_mul-kept
overflow_mul-kept c =
    let a = c.args in
    let length_at = c.length_at-count in
    omega (
      arith,
      filled a.s a.t.now a.b.now a.room.now
          c.requires.0 length_at.result
          length_at.ensures.0,
      mul-le-mul_right (place_size a.s) c.release-kept.ensures.fewer,
    )

pub overflow_add-kept : goal.overflow_add-kept
overflow_add-kept c =
    let a = c.args in
    let length_at = c.length_at-count in
    omega (
      arith,
      filled a.s a.t.now a.b.now a.room.now
          c.requires.0 length_at.result
          length_at.ensures.0,
      mul-le-mul_right (place_size a.s) c.release-kept.ensures.fewer,
    )

pub overflow_mul-count : goal.overflow_mul-count
overflow_mul-count c =
    let a = c.args in
    let length_at = c.length_at-count in
    omega (
      arith,
      filled a.s a.t.now a.b.now a.room.now
          c.requires.0 length_at.result
          length_at.ensures.0,
    )

pub overflow_add-count : goal.overflow_add-count
overflow_add-count c =
    let a = c.args in
    let length_at = c.length_at-count in
    omega (
      arith,
      filled a.s a.t.now a.b.now a.room.now
          c.requires.0 length_at.result
          length_at.ensures.0,
    )

pub clear-requires : goal.clear-requires
clear-requires c =
    let a = c.args in
    let length_at = c.length_at-count in
    let release = c.release-kept in
    omega (
      arith,
      filled a.s a.t.now a.b.now a.room.now
          c.requires.0 length_at.result
          length_at.ensures.0,
      mul-le-mul_right (place_size a.s) release.ensures.fewer,
      release.ensures.same,
    )

pub returns : goal.returns
returns c =
    let a = c.args in
    let free-sound = c.free_sound in
    let p = c.requires in
    let length_at = c.length_at-count in
    let release = c.release-kept in
    let q : free_sound a.s a.b.now ≡ true = sym free-sound.ensures ∙ c.if-not-free_sound.false in
    freed a.s a.t.now a.b.now a.room.now p.0 length_at.result length_at.ensures.0
    (λ i. let b : Fits w8 (get_or c.args.t.now i 0) = search rules in b.fits)
    (λ i. (c.type_inv.b i).fits) p.1 p.2 q
    _ release.result release.ensures _ _ _ c.clear.ensures
    c.put_u16.ensures refl
