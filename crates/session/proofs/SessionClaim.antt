-- Demand 3 holds of a session of `stand`, whatever its input.
use mathlib.Core.Path.{◌≡◌}
use mathlib.Core.List.{List}
use Prim.Native.Nat.{ℕ, ◌≤◌}
use native.Mathlib.Omega.{arith}
use Rattle.parties.specs.protocol.Run.{run, fresh}
use Rattle.parties.specs.protocol.Claim.{Differ, RunString, dishonest}
use Rattle.title.specs.ServiceClaim.{ServiceClaim}
use Rattle.runs.specs.Oldest.{honest_all}
use Rattle.runs.proofs.RunClaim.{after_demand_3, all-honest}
use Rattle.session.specs.declared.session.Session.{Session}
use Rattle.session.specs.Session.{Live}

-- once a `config` was taken: of the run that the session has made, and of the memory
pub live_demand_3 : (x : Session) (memory post page : List ℕ) (l : Live x memory post page) (e : x.stage ≡ 1) → Differ (RunString x.measures honest_all (l.runs e).events (fresh x.measures))
    → ServiceClaim x.measures honest_all memory (run x.measures honest_all (l.runs e).events (fresh x.measures))
live_demand_3 x memory post page l e d =
    let r = l.runs e in
    let few : dishonest honest_all x.measures.n ≤ x.measures.t = omega (arith, all-honest x.measures.n) in
    after_demand_3 x.measures r.measures honest_all few r.events r.lent d memory post x.used r.after
