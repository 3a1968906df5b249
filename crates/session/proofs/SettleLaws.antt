-- Laws of an operation from its start to its end: it is some more events of a run.
use mathlib.Core.Path.{refl, sym, subst, ◌∙◌}
use mathlib.Core.List.{List, ◌++◌}
use Prim.Native.Nat.{ℕ}
use Rattle.parties.specs.declared.Measures.{Measures}
use Rattle.parties.specs.protocol.Run.{Event}
use Rattle.std.specs.Borrow.{MutBor}
use Rattle.runs.specs.declared.answer.EventEnd.{EventEnd}
use Rattle.runs.specs.UnderWay.{After}
use Rattle.runs.specs.Acts.{Lent}
use Rattle.runs.specs.Oldest.{honest_all}
use Rattle.runs.proofs.OldestLaws.{Continues, continues_same, continues_more, oldest_continues}
use Rattle.session.specs.declared.settle.Settled.{Settled}
use Rattle.session.specs.declared.space.Slices.{Slices}
use Rattle.session.specs.Settle.{Desk, desk, SameSlice, SameSlices, Hands, Settles}

-- ---- what a run makes of it

module _ (s : Measures) (c : ℕ) where
  pub hands_continue : (x : Desk) (n : ℕ) (y : Desk) → Hands s c x n y → (es : List Event) → After s honest_all es x.lent.memory x.lent.post x.used
      → Continues s es y.lent.memory y.lent.post y.used
  hands_continue x n y Hands.begun es a =
      continues_same s es x.lent.memory x.lent.post x.lent.memory x.lent.post x.used refl refl a
  hands_continue x n z (Hands.goes m y e result h g o u t) es a =
      let d = hands_continue x m y h es a in
      continues_more s es y.lent.memory y.lent.post z.lent.memory z.lent.post y.used z.used d
      (λ b. subst (λ (k : ℕ). Continues s (es ++ d.more) z.lent.memory z.lent.post k) (sym u)
      (oldest_continues s y.used y.lent z.lent result o g (es ++ d.more) b))

  pub settles_continue : (start : EventEnd) (x : Lent) (text : List ℕ) (y : Lent) (text' : List ℕ) (r : Settled) → Settles s c start x text y text' r
      → (es : List Event) → After s honest_all es x.memory x.post start.used → Continues s es y.memory y.post r.used
  settles_continue start x text y text' r h es a =
      hands_continue (desk x start.used h.said h.len) h.events
      (desk y r.used text' r.len) h.hands es a

-- ---- the slices that are lent

slice_same : (x : MutBor (List ℕ)) → SameSlice x x
slice_same x = record { name = refl; long = refl; bytes = λ h. h }

pub slices_same : (x : Slices) → SameSlices x x
slices_same x =
    record { memory = slice_same x.memory; room = slice_same x.room; out = slice_same x.out; post = slice_same x.post; text = slice_same x.text }

slice_more : (x y z : MutBor (List ℕ)) → SameSlice x y → SameSlice y z → SameSlice x z
slice_more x y z a b = record { name = b.name ∙ a.name; long = b.long ∙ a.long; bytes = λ h. b.bytes (a.bytes h) }

pub slices_more : (x y z : Slices) → SameSlices x y → SameSlices y z → SameSlices x z
slices_more x y z a b =
    record {
      memory = slice_more _ _ _ a.memory b.memory;
      room = slice_more _ _ _ a.room b.room;
      out = slice_more _ _ _ a.out b.out;
      post = slice_more _ _ _ a.post b.post;
      text = slice_more _ _ _ a.text b.text;
    }
