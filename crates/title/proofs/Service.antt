-- The claim holds of the service's memory after every list of events.
use mathlib.Core.Path.{◌≡◌, subst⁻¹}
use mathlib.Core.Bool.{Bool, true}
use mathlib.Core.List.{List, []}
use Prim.Native.Nat.{ℕ, ◌≤◌}
use lib.ListN.{length}
use Rattle.parties.specs.declared.Measures.{Measures}
use Rattle.parties.specs.protocol.Measures.{passes}
use Rattle.parties.specs.protocol.Run.{State, Event, run, fresh}
use Rattle.parties.specs.protocol.Claim.{Claim, AllLent, Differ, RunString, dishonest}
use Rattle.parties.proofs.protocol.events.RunLaws.{run-last}
use Rattle.parties.proofs.protocol.claim.Demand.{demand_3}
use Rattle.title.specs.Memory.{memory_size, memory_fresh}
use Rattle.title.specs.Service.{MemoryShows, Serves}
use Rattle.title.specs.ServiceClaim.{in_memory, ServiceClaim}
use Rattle.title.proofs.ShowsLaws.{handed-shows}
use Rattle.title.proofs.FreshLaws.{fresh-shows}

-- the claim of a state is the claim of a memory that shows it
shown-claim : (s : Measures) (honest : ℕ → Bool) (memory : List ℕ) (st : State) → MemoryShows s memory st → Claim s honest st
    → Claim s honest (in_memory s memory st)
shown-claim s honest memory st o claim =
    record {
      equal = claim.equal;
      alike = claim.alike;
      order = claim.order;
      strict = claim.strict;
      exact = claim.exact;
      reads = λ i g lo up. rw (o.nodes i lo up) (claim.reads i g lo up);
      held = λ x p a b e.
          let h = claim.held x p a b e in
          (h.0, h.1, h.2, h.3, λ i g lo up w. rw (o.nodes i lo up) (h.4 i g lo up w));
      matched = claim.matched;
      few = λ i w g lo up l. rw (o.nodes i lo up) (claim.few i w g lo up l);
    }

module _ (s : Measures) (ok : passes s ≡ true) (honest : ℕ → Bool) where
  -- the memory after a list of events shows the run's state after it
  pub serves-shows : (es : List Event) (memory : List ℕ) → Serves s honest es memory → MemoryShows s memory (run s honest es (fresh s))
  unfolding run
  serves-shows es memory (Serves.begins b o) = o
  serves-shows es memory (Serves.goes before e old after v h) =
      subst⁻¹ (MemoryShows s after) (run-last s honest before e (fresh s))
      (handed-shows s ok old after (run s honest before (fresh s)) (serves-shows before old v) honest e h)

  -- fresh memory begins a run
  pub fresh-serves : (memory : List ℕ) → memory_size s ≤ length memory → Serves s honest [] (memory_fresh s memory).memory
  fresh-serves memory long = Serves.begins (memory_fresh s memory).memory (fresh-shows s ok memory long)

  -- Demand 3 over the service: for every list of events, from fresh tables and records in lent memory
  pub service_demand_3 : dishonest honest s.n ≤ s.t → (es : List Event) → AllLent es → Differ (RunString s honest es (fresh s))
      → (memory : List ℕ) → Serves s honest es memory → ServiceClaim s honest memory (run s honest es (fresh s))
  service_demand_3 few es l d memory v =
      let o = serves-shows es memory v in
      let claim = demand_3 s ok honest few es l d in
      record { shows = o; of_run = claim; of_memory = shown-claim s honest memory (run s honest es (fresh s)) o claim }
