-- The claim holds of every list of events.
use mathlib.Core.Path.{◌≡◌}
use mathlib.Core.Bool.{Bool, true}
use mathlib.Core.Logic.{inl, inr}
use mathlib.Core.List.{List, [], ◌∷◌}
use Prim.Native.Nat.{ℕ, ◌≤◌}
use Rattle.parties.specs.declared.Measures.{Measures}
use Rattle.parties.specs.protocol.Measures.{passes}
use Rattle.parties.specs.protocol.Run.{State, Event, deposit, reading, carry, hand, bring, deliver, lie, carry_out, run, fresh}
use Rattle.parties.specs.protocol.Claim.{Claim, Sane, Lent, AllLent, StringOf, RunString, Differ, dishonest}
use Rattle.parties.proofs.protocol.formats.MeasureLaws.{passed}
use Rattle.parties.proofs.protocol.model.Model.{Model}
use Rattle.parties.proofs.protocol.invariants.StockLaws.{held_all}
use Rattle.parties.proofs.protocol.invariants.Invariant.{Invariant, invariant_kept}
use Rattle.parties.proofs.protocol.steps.View.{Shows, Follows}
use Rattle.parties.proofs.protocol.steps.FreshShows.{fresh_model, fresh-shows, fresh_invariant}
use Rattle.parties.proofs.protocol.steps.StartShows.{deposit_follows, reading_follows}
use Rattle.parties.proofs.protocol.steps.CarryShows.{carry_follows}
use Rattle.parties.proofs.protocol.steps.HandShows.{hand_follows}
use Rattle.parties.proofs.protocol.steps.BringShows.{bring_follows}
use Rattle.parties.proofs.protocol.steps.DeliverShows.{deliver_follows, lie_follows}
use Rattle.parties.proofs.protocol.claim.ClaimHolds.{claim-holds}
use Rattle.parties.proofs.protocol.claim.StringLaws.{last_strings}

module _ (z : Measures) (ok : passes z ≡ true) (honest : ℕ → Bool) (few : dishonest honest z.n ≤ z.t) where
  -- each event is a step of the model
  follows : (st : State) (s : Model) → Shows z honest st s → Invariant z honest s → (e : Event) → Lent e
      → Differ (StringOf z (carry_out z honest e st).state.history) → Follows z honest s e (carry_out z honest e st)
  follows st s o v (deposit c bytes) l d = deposit_follows z honest ok st s o c bytes l
  follows st s o v (reading c room) l d = reading_follows z honest ok st s o c room l
  follows st s o v (carry c room) l d = carry_follows z honest ok st s o v c room l
  follows st s o v (hand c room) l d = hand_follows z honest ok st s o v c room l
  follows st s o v (bring c i room) l d =
      bring_follows z honest ok st s o v (held_all z honest s (passed z ok) v.owned v.stocking) c i room l
  follows st s o v (deliver i c room out) l d = deliver_follows z honest ok few st s o v i c room out d
  follows st s o v (lie i c bytes room out) l d = lie_follows z honest ok few st s o v i c bytes room out d

  -- a state that a run comes to shows a model of which every invariant holds
  record Reached (st : State) : Type 0 where
    model : Model
    shows : Shows z honest st model
    kept : Invariant z honest model

  event : (st : State) → Reached st → (e : Event) → Lent e → Differ (StringOf z (carry_out z honest e st).state.history) → Reached (carry_out z honest e st).state
  event st r e l d =
      let f = follows st r.model r.shows r.kept e l d in
      record { model = f.model; shows = f.shows; kept = invariant_kept z honest (passed z ok) r.model f.model f.step r.kept }

  -- strings at the beginning are the run's
  now : (es : List Event) (st : State) (x : List ℕ) → StringOf z st.history x → RunString z honest es st x
  now [] st x p = p
  now (e ∷ es) st x p = inl p

  reached : (es : List Event) (st : State) → Reached st → AllLent es → Differ (RunString z honest es st) → Reached (run z honest es st)
  unfolding run
  reached [] st r l d = r
  reached (e ∷ es) st r l d =
      let t = (carry_out z honest e st).state in
      reached es t (event st r e l.0 (λ x y p q. d x y (inr (now es t x p)) (inr (now es t y q)))) l.1 (λ x y p q. d x y (inr p) (inr q))

  from-fresh : (es : List Event) → AllLent es → Differ (RunString z honest es (fresh z)) → Reached (run z honest es (fresh z))
  from-fresh es l d =
      reached es (fresh z) (record { model = fresh_model z; shows = fresh-shows z honest; kept = fresh_invariant z honest (passed z ok) }) l d

  -- Demand 3: for every list of events, from fresh tables and client records with no message under way
  pub demand_3 : (es : List Event) → AllLent es → Differ (RunString z honest es (fresh z)) → Claim z honest (run z honest es (fresh z))
  demand_3 es l d =
      let r = from-fresh es l d in
      claim-holds z honest ok r.model r.kept (run z honest es (fresh z)) r.shows
      (λ x y p q. d x y (last_strings z honest es (fresh z) x p) (last_strings z honest es (fresh z) y q))

  -- in such runs 8 and 9 never come, and 4 only for bytes of a dishonest node
  pub sane_answers : (es : List Event) (e : Event) → AllLent es → Lent e → Differ (RunString z honest es (fresh z))
      → Differ (StringOf z (carry_out z honest e (run z honest es (fresh z))).state.history) → Sane e (carry_out z honest e (run z honest es (fresh z))).answer
  sane_answers es e l m d f =
      let r = from-fresh es l d in (follows (run z honest es (fresh z)) r.model r.shows r.kept e m f).sane
