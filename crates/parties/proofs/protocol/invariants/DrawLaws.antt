-- A version that is drawn is a new one: above its client's written one, and not drawn before.
use mathlib.Core.Path.{◌≡◌, sym, ap, ◌∙◌}
use mathlib.Core.Bool.{true, true≢false}
use mathlib.Core.Logic.{◌⊎◌, inl, inr}
use mathlib.Core.List.{List}
use Prim.Native.Nat.{ℕ, ◌≤◌, ◌<◌}
use native.Mathlib.Omega.{arith}
use Rattle.parties.specs.declared.Measures.{Measures}
use Rattle.parties.specs.declared.Version.{Version}
use Rattle.parties.specs.protocol.Run.{upd}
use Rattle.parties.proofs.protocol.model.Cells.{by_eq}
use Rattle.parties.proofs.protocol.formats.MeasureLaws.{Passed}
use Rattle.parties.proofs.protocol.model.Model.{num, Rows, Turn, Model, last, Above}
use Rattle.parties.proofs.protocol.invariants.Invariants.{Owned, Drawing}
use Rattle.parties.proofs.protocol.model.PastLaws.{draw-fresh}

module _
    (z : Measures) (ok : Passed z) (s : Model) (o : Owned z s) (d : Drawing z s) (c : ℕ) (bytes : List ℕ) (a : Rows) (v : Version)
    (l : c < z.m) (e : s.c.turn c ≡ Turn.scanned bytes a) (ec : v.client ≡ c) (ab : Above z a v.sequence.0) where
  -- its number is above that of the newest one
  pub draw_above : last s.c c < num v
  draw_above = rw e (draw-fresh z s c bytes a v ok o d l e ec ab).0

  pub draw_undrawn : s.p.drawn (num v) ≡ true → ⊥
  draw_undrawn q = true≢false (sym q ∙ (draw-fresh z s c bytes a v ok o d l e ec ab).1)

  -- it is none of those before
  pub draw_new : (u : Version) → (num u ≤ last s.c c) ⊎ (s.p.drawn (num u) ≡ true) → v ≡ u → ⊥
  draw_new u (inl b) y = omega (arith, draw_above, ap num y)
  draw_new u (inr g) y = draw_undrawn (rw y g)

  -- and no page of theirs changes
  pub draw_pages : (u : ℕ) → s.p.drawn u ≡ true → upd s.p.pages (num v) bytes u ≡ s.p.pages u
  draw_pages u g = by_eq u (num v) (λ f y. absurd (draw_undrawn (rw y at g))) (λ f y. rw f)
