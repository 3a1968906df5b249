-- Parcels under way: a call, the answer of one, or a message, with its client and its node.
use Rattle.std.specs.Prelude.{◌≡◌, Bool, true, false, cond, ◌&&◌, List, [], ◌∷◌, ◌++◌, ℕ, ◌+◌, ◌-◌, ◌≤◌, ◌<◌, eqb, leb, ltb, length, take, drop, get_or, Option, Some, None, Result, Ok, Err}
use Rattle.std.specs.declared.ops.Range.{Range}
use Rattle.std.proofs.Math.Option.{some}
use Rattle.parties.specs.declared.Measures.{Measures}
use Rattle.parties.specs.protocol.Format.{read_number, write_number, write_many}
use Rattle.parties.specs.declared.Refusal.{Refusal}
use Rattle.runs.specs.declared.parcels.Kind.{Kind}
use Rattle.runs.specs.declared.parcels.Key.{Key}

-- kinds: a directory call, its answer, a message to a node, a message to a client
abbrev pub call_kind : ℕ
call_kind = 0

abbrev pub return_kind : ℕ
return_kind = 1

abbrev pub to_node_kind : ℕ
to_node_kind = 2

abbrev pub to_client_kind : ℕ
to_client_kind = 3

-- the byte of a kind
abbrev pub kind_of : Kind → ℕ
kind_of Kind.Call = call_kind
kind_of Kind.Return = return_kind
kind_of Kind.ToNode = to_node_kind
kind_of Kind.ToClient = to_client_kind

-- a kind is read from its byte; every other byte breaks the form
abbrev pub ReadsKind : ℕ → Result Kind Refusal → Type 0
ReadsKind b (Ok kind) = kind_of kind ≡ b
ReadsKind b (Err r) = (r ≡ Refusal.Form) × (to_client_kind < b)

-- calls and their answers have this for a node
abbrev pub no_node : ℕ
no_node = 0

pub record Parcel : Type 0 where
  pub kind : ℕ
  pub client : ℕ
  pub node : ℕ
  pub bytes : List ℕ

-- kind, client, node (a byte each), length (4 bytes), and the bytes
abbrev pub write_parcel : Parcel → List ℕ
write_parcel p = p.kind ∷ (write_number 1 p.client ++ (write_number 1 p.node ++ (write_number 4 (length p.bytes) ++ p.bytes)))

abbrev pub write_parcels : List Parcel → List ℕ
write_parcels q = write_many write_parcel q

-- one of the kinds, a client below m, and a node: none for a call or an answer, 1 to n for a message
unfoldable pub proper_key : Measures → ℕ → ℕ → ℕ → Bool
proper_key s kind c i =
    leb kind to_client_kind && (ltb c s.m && cond (leb kind return_kind) (eqb i no_node) (leb 1 i && leb i s.n))

-- and a length that four bytes hold
abbrev pub proper : Measures → Parcel → Bool
proper s p = proper_key s p.kind p.client p.node && ltb (length p.bytes) 4294967296

unfoldable pub proper_all : Measures → List Parcel → Bool
proper_all s [] = true
proper_all s (p ∷ q) = proper s p && proper_all s q

-- the form of a list: proper parcels stand at the front of some bytes, and nothing is left over in the used part
pub record Listed (s : Measures) (q : List Parcel) (used : ℕ) (post : List ℕ) : Type 0 where
  pub within : used ≤ length post
  pub written : take used post ≡ write_parcels q
  pub all_proper : proper_all s q ≡ true

-- the used part is a list of parcels, or it is none
pub record IsList (s : Measures) (used : ℕ) (post : List ℕ) : Type 0 where
  pub parcels : List Parcel
  pub listed : Listed s parcels used post

abbrev pub Broken : Measures → ℕ → List ℕ → Type 0
Broken s used post = (q : List Parcel) → Listed s q used post → ⊥

abbrev pub keyed : ℕ → ℕ → ℕ → Parcel → Bool
keyed kind c i p = eqb p.kind kind && (eqb p.client c && eqb p.node i)

-- what is under way of a kind between client c and node i, oldest first
unfoldable pub bodies : ℕ → ℕ → ℕ → List Parcel → List (List ℕ)
bodies kind c i [] = []
bodies kind c i (p ∷ q) = cond (keyed kind c i p) (p.bytes ∷ bodies kind c i q) (bodies kind c i q)

-- ---- what the code does with them

-- the oldest parcel of a kind between client c and node i stands from one place to another
pub record FindsAt (kind c i : ℕ) (q : List Parcel) (at end : ℕ) : Type 0 where
  pub before : List Parcel
  pub parcel : Parcel
  pub rest : List Parcel
  pub parts : q ≡ before ++ (parcel ∷ rest)
  pub none : bodies kind c i before ≡ []
  pub same : keyed kind c i parcel ≡ true
  pub first : at ≡ length (write_parcels before)
  pub last : end ≡ at + (7 + length parcel.bytes)

-- a parcel stands between two places, and it is the oldest of its kind between client c and node i
pub record Stands (s : Measures) (kind c i used : ℕ) (post : List ℕ) (at end : ℕ) : Type 0 where
  pub list : IsList s used post
  pub first : at + 7 ≤ end
  pub last : end ≤ used
  pub oldest : (q : List Parcel) → Listed s q used post → FindsAt kind c i q at end

-- no such parcel is under way
pub record NoneStands (s : Measures) (kind c i used : ℕ) (post : List ℕ) : Type 0 where
  pub list : IsList s used post
  pub none : (q : List Parcel) → Listed s q used post → bodies kind c i q ≡ []

-- a list that breaks its form is refused for that
abbrev pub Looks : Measures → ℕ → ℕ → ℕ → ℕ → List ℕ → Result (Option (Range ℕ)) Refusal → Type 0
Looks s kind c i used post (Ok (Some place)) = Stands s kind c i used post place.start place.end
Looks s kind c i used post (Ok None) = NoneStands s kind c i used post
Looks s kind c i used post (Err r) = (r ≡ Refusal.Form) × Broken s used post

-- from a place on, the used part is a list
pub record ListFrom (s : Measures) (used : ℕ) (post : List ℕ) (at : ℕ) : Type 0 where
  pub parcels : List Parcel
  pub written : drop at (take used post) ≡ write_parcels parcels
  pub all_proper : proper_all s parcels ≡ true

-- a heading stands at a place, and its bytes end at another
pub record HeadingAt (s : Measures) (used : ℕ) (post : List ℕ) (at end : ℕ) : Type 0 where
  pub len : ℕ
  pub key : proper_key s (get_or post at 0) (get_or post (at + 1) 0) (get_or post (at + 2) 0) ≡ true
  pub read : read_number 4 (drop (at + 3) post) ≡ some (record { value = len; rest = drop (at + 3 + 4) post })
  pub last : end ≡ at + 7 + len
  pub within : end ≤ used

-- the key that stands at a place, if a parcel may have it
abbrev pub Heads : Measures → List ℕ → ℕ → Result Key Refusal → Type 0
Heads s post at (Ok key) =
    (kind_of key.kind ≡ get_or post at 0) × (key.client ≡ get_or post (at + 1) 0) × (key.node ≡ get_or post (at + 2) 0)
    × (proper_key s (get_or post at 0) (get_or post (at + 1) 0) (get_or post (at + 2) 0) ≡ true)
Heads s post at (Err r) = (r ≡ Refusal.Form) × (proper_key s (get_or post at 0) (get_or post (at + 1) 0) (get_or post (at + 2) 0) ≡ false)

-- where the parcel at a place ends, if one stands there
abbrev pub Follows : Measures → ℕ → List ℕ → ℕ → Result ℕ Refusal → Type 0
Follows s used post at (Ok end) = HeadingAt s used post at end
Follows s used post at (Err r) = (r ≡ Refusal.Form) × (ListFrom s used post at → ⊥)

-- whether the used part is a list from a place on
abbrev pub Sounds : {A : Type 0} → Measures → ℕ → List ℕ → ℕ → Result A Refusal → Type 0
Sounds s used post at (Ok x) = ListFrom s used post at
Sounds s used post at (Err r) = (r ≡ Refusal.Form) × (ListFrom s used post at → ⊥)

-- parcels stand after those before; what is beyond them is free
pub record Appended (q : List Parcel) (post : List ℕ) (used : ℕ) (after : List ℕ) (r : ℕ) : Type 0 where
  pub long : length after ≡ length post
  pub within : r ≤ length after
  pub count : r ≡ used + length (write_parcels q)
  pub written : take r after ≡ take used post ++ write_parcels q

-- what stood from one place to another is gone
pub record Removed (at end : ℕ) (post : List ℕ) (used : ℕ) (after : List ℕ) (r : ℕ) : Type 0 where
  pub long : length after ≡ length post
  pub within : r ≤ length after
  pub count : r + (end - at) ≡ used
  pub written : take r after ≡ take at post ++ drop end (take used post)
