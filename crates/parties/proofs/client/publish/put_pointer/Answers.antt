use mathlib.Core.Path.{◌≡◌, refl, ap, ◌∙◌}
use mathlib.Core.List.{List}
use Prim.Native.Nat.{ℕ, ◌+◌}
use lib.ListN.{length, drop}
use Rattle.parties.specs.client.Pick.{pointer_part}
use Rattle.parties.specs.records.Places.{splice}
use Rattle.parties.proofs.records.SpliceLaws.{paste_all}
use Rattle.parties.proofs.client.PublishLaws.{part-whole}
use Rattle.parties.proofs.client.publish.put_pointer.Goals as goal

pub returns : goal.returns
returns c =
    let a = c.args in
    let p = c.pointer_part-p in
    let e : p.result.now ≡ pointer_part (drop a.from a.area.now) = p.ensures ∙ part-whole a.area.now a.from in (
      ap (λ (l : List ℕ). a.at + length l) e,
      c.copy.ensures ∙ paste_all a.room.now a.at p.result.now (length p.result.now) refl
          ∙ ap (splice a.room.now a.at) e,
    )
