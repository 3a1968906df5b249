-- What is under way, as parcels, and the run that it belongs to.
use Rattle.std.specs.Prelude.{◌≡◌, Bool, List, [], ◌∷◌, map, ℕ, zero, suc}
use Rattle.parties.specs.declared.Measures.{Measures}
use Rattle.parties.specs.protocol.Run.{Call, scan_call, update_call, Return, updated, rows, State, Event, fresh, run}
use Rattle.title.specs.Service.{Serves}
use Rattle.runs.specs.Parcels.{Parcel, call_kind, return_kind, to_node_kind, to_client_kind, no_node, Listed, bodies}

-- a call's bytes
abbrev pub call_of : List ℕ → Call
call_of [] = scan_call
call_of (zero ∷ b) = scan_call
call_of (suc t ∷ b) = update_call b

-- an answer's
abbrev pub return_of : List ℕ → Return
return_of [] = updated
return_of (zero ∷ b) = updated
return_of (suc t ∷ b) = rows b

-- the parcels are what a state has under way
pub record UnderWay (q : List Parcel) (st : State) : Type 0 where
  pub calls : (c : ℕ) → st.calls c ≡ map call_of (bodies call_kind c no_node q)
  pub returns : (c : ℕ) → st.returns c ≡ map return_of (bodies return_kind c no_node q)
  pub to_node : (c i : ℕ) → st.to_node c i ≡ bodies to_node_kind c i q
  pub to_client : (i c : ℕ) → st.to_client i c ≡ bodies to_client_kind c i q

-- memory and parcels are those after a list of events
pub record After (s : Measures) (honest : ℕ → Bool) (es : List Event) (memory post : List ℕ) (used : ℕ) : Type 0 where
  pub serves : Serves s honest es memory
  pub parcels : List Parcel
  pub listed : Listed s parcels used post
  pub under_way : UnderWay parcels (run s honest es (fresh s))
