-- Demand 3 holds of whatever is done with a run's events in code.
use mathlib.Core.Path.{◌≡◌, refl, ap}
use mathlib.Core.Bool.{Bool, true, false, cond, not, ◌&&◌}
use mathlib.Core.List.{List, []}
use mathlib.Core.Option.{some, none-ne-some, some-injective}
use Prim.Native.Nat.{ℕ, zero, suc, ◌+◌, ◌≤◌}
use native.Mathlib.Omega.{arith}
use lib.Dec.{leb}
use Rattle.parties.specs.declared.Measures.{Measures}
use Rattle.parties.specs.protocol.Measures.{passes}
use Rattle.parties.specs.protocol.Format.{write_many}
use Rattle.parties.specs.protocol.Nodes.{stands}
use Rattle.parties.specs.protocol.Run.{Event, Answered, carry_out, run, fresh}
use Rattle.parties.specs.protocol.Claim.{AllLent, Differ, RunString, dishonest, number_of}
use Rattle.parties.proofs.protocol.formats.NodeMapLaws.{stands-none}
use Rattle.title.specs.Service.{Serves}
use Rattle.title.specs.ServiceClaim.{ServiceClaim}
use Rattle.title.proofs.Service.{service_demand_3}
use Rattle.runs.specs.Parcels.{proper_all, bodies}
use Rattle.runs.specs.declared.answer.Happened.{Happened}
use Rattle.runs.specs.declared.answer.EventEnd.{EventEnd}
use Rattle.runs.specs.UnderWay.{After}
use Rattle.runs.specs.Happens.{Goes, answer_of, number_happened}
use Rattle.runs.specs.Oldest.{honest_all}

module _ (s : Measures) (ok : passes s ≡ true) where
  -- for every list of events after which memory and parcels are as they are
  pub after_demand_3 : (honest : ℕ → Bool) → dishonest honest s.n ≤ s.t → (es : List Event) → AllLent es → Differ (RunString s honest es (fresh s))
      → (memory post : List ℕ) (used : ℕ) → After s honest es memory post used → ServiceClaim s honest memory (run s honest es (fresh s))
  after_demand_3 honest few es l d memory post used h = service_demand_3 s ok honest few es l d memory h.serves

-- fresh memory, and nothing under way
pub fresh-after : (s : Measures) (honest : ℕ → Bool) (memory post : List ℕ) → Serves s honest [] memory → After s honest [] memory post 0
unfolding run bodies write_many proper_all
fresh-after s honest memory post h =
    record {
      serves = h;
      parcels = [];
      listed = record { within = omega arith; written = refl; all_proper = refl };
      under_way = record { calls = λ c. refl; returns = λ c. refl; to_node = λ c i. refl; to_client = λ i c. refl };
    }

-- ---- no node of an empty bit map is dishonest

pub all-honest : (n : ℕ) → dishonest honest_all n ≡ 0
all-honest zero = refl
all-honest (suc n) = go (leb 1 (suc n)) (leb (suc n) 16) (all-honest n)
  where
    go : (a b : Bool) → dishonest honest_all n ≡ 0 → cond (not (a && (b && stands 0 (suc n)))) 0 1 + dishonest honest_all n ≡ 0
    go true true h = rw (stands-none (suc n)) (omega (arith, h))
    go true false h = omega (arith, h)
    go false b h = omega (arith, h)

-- ---- an event of the run has the number that the run's answer has

answer-number : (w : Happened) (a : Answered) → answer_of w ≡ some a → number_happened w ≡ number_of a
answer-number (Happened.Refused r) a h = absurd (none-ne-some a h)
answer-number Happened.Nothing a h = ap number_of (some-injective _ a h)
answer-number Happened.Taken a h = ap number_of (some-injective _ a h)
answer-number (Happened.ByClient x) a h = ap number_of (some-injective _ a h)
answer-number (Happened.ByServer x) a h = ap number_of (some-injective _ a h)

pub goes_number : (s : Measures) (honest : ℕ → Bool) (es : List Event) (e : Event) (r : EventEnd) (memory post room out : List ℕ)
    → Goes s honest es e r memory post room out → number_happened r.what ≡ number_of (carry_out s honest e (run s honest es (fresh s))).answer
goes_number s honest es e r memory post room out g = answer-number r.what _ g.answer
