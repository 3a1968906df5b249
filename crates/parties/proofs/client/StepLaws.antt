-- A client's work by the step of its phase.
use mathlib.Core.Path.{◌≡◌, refl, ap, ◌∙◌}
use mathlib.Core.Bool.{false, cond}
use mathlib.Core.List.{[]}
use Prim.Native.Nat.{ℕ}
use lib.Dec.{eqb}
use Rattle.parties.specs.protocol.Version.{no_version}
use Rattle.parties.specs.protocol.Pointer.{none_pointer}
use Rattle.parties.specs.protocol.Client.{Phase as Work, step as step_of, Stores, Fetches}
use Rattle.parties.specs.protocol.ClientEvents.{is_idle}
use Rattle.parties.specs.client.Draw.{page_of}
use Rattle.parties.specs.client.Freeze.{new_pointer}

-- what a deposit stores
abbrev no_stores : Stores
no_stores = record { version = no_version; acknowledged = 0; digests = [] }

abbrev pub stores_of : Work → Stores
stores_of Work.idle = no_stores
stores_of (Work.scanning page) = no_stores
stores_of (Work.storing v a ds) = record { version = v; acknowledged = a; digests = ds }
stores_of (Work.updating x) = no_stores
stores_of (Work.freezing x) = no_stores
stores_of Work.raising = no_stores
stores_of Work.picking = no_stores
stores_of (Work.fetching x c m ps) = no_stores

-- what a reading fetches
abbrev no_fetches : Fetches
no_fetches = record { pointer = none_pointer; counted = 0; matching = 0; pieces = [] }

abbrev pub fetches_of : Work → Fetches
fetches_of Work.idle = no_fetches
fetches_of (Work.scanning page) = no_fetches
fetches_of (Work.storing v a ds) = no_fetches
fetches_of (Work.updating x) = no_fetches
fetches_of (Work.freezing x) = no_fetches
fetches_of Work.raising = no_fetches
fetches_of Work.picking = no_fetches
fetches_of (Work.fetching x c m ps) = record { pointer = x; counted = c; matching = m; pieces = ps }

-- ---- by its step

-- the work of step n that has the parts of q
abbrev worked : ℕ → Work → Work
worked n q =
    let s = stores_of q in
    let f = fetches_of q in
    cond (eqb n 0) Work.idle
    (cond (eqb n 1) (Work.scanning (page_of q))
    (cond (eqb n 2) (Work.storing s.version s.acknowledged s.digests)
    (cond (eqb n 3) (Work.updating (new_pointer q))
    (cond (eqb n 4) (Work.freezing (new_pointer q))
    (cond (eqb n 5) Work.raising
    (cond (eqb n 6) Work.picking (Work.fetching f.pointer f.counted f.matching f.pieces)))))))

by_step : (q : Work) → q ≡ worked (step_of q) q
by_step Work.idle = refl
by_step (Work.scanning page) = refl
by_step (Work.storing v a ds) = refl
by_step (Work.updating x) = refl
by_step (Work.freezing x) = refl
by_step Work.raising = refl
by_step Work.picking = refl
by_step (Work.fetching x c m ps) = refl

module _ (q : Work) where
  at_step_lem : (n : ℕ) → step_of q ≡ n → q ≡ worked n q
  at_step_lem n e = by_step q ∙ ap (λ (k : ℕ). worked k q) e

  pub idle-step : step_of q ≡ 0 → q ≡ Work.idle
  idle-step = at_step_lem 0

  pub scanning-step : step_of q ≡ 1 → q ≡ Work.scanning (page_of q)
  scanning-step = at_step_lem 1

  pub storing-step : step_of q ≡ 2 → q ≡ Work.storing (stores_of q).version (stores_of q).acknowledged (stores_of q).digests
  storing-step = at_step_lem 2

  pub updating-step : step_of q ≡ 3 → q ≡ Work.updating (new_pointer q)
  updating-step = at_step_lem 3

  pub freezing-step : step_of q ≡ 4 → q ≡ Work.freezing (new_pointer q)
  freezing-step = at_step_lem 4

  pub raising-step : step_of q ≡ 5 → q ≡ Work.raising
  raising-step = at_step_lem 5

  pub picking-step : step_of q ≡ 6 → q ≡ Work.picking
  picking-step = at_step_lem 6

  pub fetching-step : step_of q ≡ 7 → q ≡ Work.fetching (fetches_of q).pointer (fetches_of q).counted (fetches_of q).matching (fetches_of q).pieces
  fetching-step = at_step_lem 7

pub busy_step : (q : Work) → (step_of q ≡ 0 → ⊥) → is_idle q ≡ false
busy_step Work.idle e = absurd (e refl)
busy_step (Work.scanning page) e = refl
busy_step (Work.storing v a ds) e = refl
busy_step (Work.updating x) e = refl
busy_step (Work.freezing x) e = refl
busy_step Work.raising e = refl
busy_step Work.picking e = refl
busy_step (Work.fetching x c m ps) e = refl
