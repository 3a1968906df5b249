-- All groups of invariants together.
use mathlib.Core.Bool.{Bool}
use Prim.Native.Nat.{ℕ}
use Rattle.parties.specs.declared.Measures.{Measures}
use Rattle.parties.proofs.protocol.formats.MeasureLaws.{Passed}
use Rattle.parties.proofs.protocol.model.Model.{Model, Next}
use Rattle.parties.proofs.protocol.invariants.Invariants.{Owned, Drawing, Lagging, Retaining, Stocking, Arriving, Fetching}
use Rattle.parties.proofs.protocol.invariants.Chronicle.{Recording, Putting, Ordering}
use Rattle.parties.proofs.protocol.invariants.LaggingKept.{lagging_kept}
use Rattle.parties.proofs.protocol.invariants.OwnedKept.{owned_kept}
use Rattle.parties.proofs.protocol.invariants.DrawingKept.{drawing_kept}
use Rattle.parties.proofs.protocol.invariants.RetainingKept.{retaining_kept}
use Rattle.parties.proofs.protocol.invariants.StockingKept.{stocking_kept}
use Rattle.parties.proofs.protocol.invariants.ArrivingKept.{arriving_kept}
use Rattle.parties.proofs.protocol.invariants.FetchingKept.{fetching-kept}
use Rattle.parties.proofs.protocol.invariants.OrderingKept.{ordering_kept}
use Rattle.parties.proofs.protocol.invariants.PuttingKept.{putting_kept}
use Rattle.parties.proofs.protocol.invariants.RecordingKept.{recording_kept}

pub record Invariant (z : Measures) (honest : ℕ → Bool) (s : Model) : Type 0 where
  pub owned : Owned z s
  pub drawing : Drawing z s
  pub lagging : Lagging z s
  pub retaining : Retaining z s
  pub stocking : Stocking z honest s
  pub arriving : Arriving z honest s
  pub fetching : Fetching z honest s
  pub recording : Recording z s
  pub putting : Putting z s
  pub ordering : Ordering z s

-- every step keeps them
pub invariant_kept : (z : Measures) (honest : ℕ → Bool) → Passed z → (s t : Model) → Next z honest s t → Invariant z honest s → Invariant z honest t
invariant_kept z honest ok s t n v =
    record {
      owned = owned_kept z honest ok s t n v.owned v.drawing;
      drawing = drawing_kept z honest ok s t n v.owned v.drawing;
      lagging = lagging_kept z honest ok s t n v.owned v.lagging;
      retaining = retaining_kept z honest ok s t n v.owned v.lagging v.retaining;
      stocking = stocking_kept z honest ok s t n v.owned v.drawing v.stocking;
      arriving = arriving_kept z honest ok s t n v.owned v.drawing v.stocking v.arriving;
      fetching = fetching-kept z honest ok s t n v.owned v.drawing v.fetching;
      recording = recording_kept z honest ok s t n v.owned v.drawing v.putting v.recording;
      putting = putting_kept z honest ok s t n v.owned v.drawing v.recording v.putting;
      ordering = ordering_kept z honest ok s t n v.owned v.drawing v.lagging v.recording v.ordering;
    }
