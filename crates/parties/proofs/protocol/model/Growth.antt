-- The past grows: what is known of a version that is drawn stays, and its deposit too.
use mathlib.Core.Path.{◌≡◌, refl, sym, ap, ◌∙◌}
use mathlib.Core.Bool.{true, false, true≢false}
use mathlib.Core.List.{List}
use Prim.Native.Nat.{ℕ}
use Rattle.parties.specs.protocol.Pointer.{Pointer, none_pointer}
use Rattle.parties.proofs.protocol.model.Cells.{by_eq}
use Rattle.parties.proofs.protocol.model.Model.{Past, drawn_by, pointed_by}
use Rattle.parties.proofs.protocol.model.PastLaws.{Later, later_same, drawn_later, pointed_later}

pub record Grown (p q : Past) : Type 0 where
  pub later : Later p q
  pub deposits : (v : ℕ) → p.drawn v ≡ true → q.deposits v ≡ p.deposits v

module _ (p : Past) where
  pub grown_same : (f : ℕ → ℕ → ℕ) → Grown p (record { drawn = p.drawn; pages = p.pages; deposits = p.deposits; pointers = p.pointers; shown = f })
  grown_same f = record { later = later_same p; deposits = λ v d. refl }

  pub grown_drawn : (u : ℕ) (bytes : List ℕ) (o : ℕ) → p.drawn u ≡ false → Grown p (drawn_by p u bytes o)
  grown_drawn u bytes o fresh =
      record {
        later = drawn_later p u bytes o fresh;
        deposits = λ v d. by_eq v u (λ f g. absurd (true≢false (sym d ∙ ap p.drawn g ∙ fresh))) (λ f g. rw f);
      }

  pub grown_pointed : (u : ℕ) (x : Pointer) → p.pointers u ≡ none_pointer → Grown p (pointed_by p u x)
  grown_pointed u x e = record { later = pointed_later p u x e; deposits = λ v d. refl }
