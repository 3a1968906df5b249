-- Messages under way to a node, and which versions they store; the piece that a table hands back.
use mathlib.Core.Path.{◌≡◌, refl}
use mathlib.Core.Bool.{Bool, true, false, cond}
use mathlib.Core.List.{List, [], ◌∷◌, ◌++◌}
use mathlib.Core.Option.{some, none}
use Prim.Native.Nat.{ℕ, ◌≤◌}
use native.Mathlib.Omega.{arith}
use Rattle.coding.proofs.PageLaws.{none≢some, some_eq}
use Rattle.parties.specs.declared.Version.{Version}
use Rattle.parties.specs.protocol.Version.{below}
use Rattle.parties.specs.protocol.NodeTable.{Held}
use Rattle.parties.specs.protocol.Node.{hand_back}
use Rattle.parties.specs.protocol.Message.{ToNode}
use Rattle.parties.proofs.protocol.formats.FormatLaws.{Each}
use Rattle.parties.proofs.protocol.formats.VersionLaws.{neither_below}
use Rattle.parties.proofs.protocol.model.Model.{num}
use Rattle.parties.proofs.protocol.invariants.Invariants.{NoStore, Once}

-- ---- stores under way

pub no_store_append : (v : Version) (q r : List ToNode) → NoStore v q → NoStore v r → NoStore v (q ++ r)
no_store_append v [] r n o = o
no_store_append v (ToNode.store u x ∷ q) r n o = (n.0, no_store_append v q r n.1 o)
no_store_append v (ToNode.request u ∷ q) r n o = no_store_append v q r n o
no_store_append v (ToNode.free l ∷ q) r n o = no_store_append v q r n o

-- the head is taken
pub no_store_tail : (v : Version) (m : ToNode) (q : List ToNode) → NoStore v (m ∷ q) → NoStore v q
no_store_tail v (ToNode.store u x) q n = n.1
no_store_tail v (ToNode.request u) q n = n
no_store_tail v (ToNode.free l) q n = n

pub once_tail : (top : ℕ) (m : ToNode) (q : List ToNode) → Once top (m ∷ q) → Once top q
once_tail top (ToNode.store u x) q n = n.2
once_tail top (ToNode.request u) q n = n
once_tail top (ToNode.free l) q n = n

-- what is sent stores nothing that was drawn before
pub once_append : (top more : ℕ) (q r : List ToNode) → top ≤ more → ((u : Version) → num u ≤ top → NoStore u r) → Once more r → Once top q
    → Once more (q ++ r)
once_append top more [] r l n o h = o
once_append top more (ToNode.store u x ∷ q) r l n o h =
    (omega (arith, h.0), no_store_append u q r h.1 (n u h.0), once_append top more q r l n o h.2)
once_append top more (ToNode.request u ∷ q) r l n o h = once_append top more q r l n o h
once_append top more (ToNode.free f ∷ q) r l n o h = once_append top more q r l n o h

-- a request stores nothing
pub asked-stores : (v u : Version) (b : Bool) → NoStore v (cond b (ToNode.request u ∷ []) [])
asked-stores v u true = tt
asked-stores v u false = tt

pub asked_once : (top : ℕ) (u : Version) (b : Bool) → Once top (cond b (ToNode.request u ∷ []) [])
asked_once top u true = tt
asked_once top u false = tt

-- ---- what a node holds

-- a piece handed back is that of a place
pub hand-each : (g : Held → Type 0) (v : Version) (x : List ℕ) (l : List Held) → Each g l → hand_back v l ≡ some x → g (record { version = v; piece = x })
unfolding hand_back
hand-each g v x [] e h = absurd (none≢some h)
hand-each g v x (y ∷ l) e h = go (hand-each g v x l e.1) (below v y.version) refl (below y.version v) refl h
  where
    go : (hand_back v l ≡ some x → g (record { version = v; piece = x })) → (a : Bool) → below v y.version ≡ a → (b : Bool) → below y.version v ≡ b
        → cond a none (cond b (hand_back v l) (some y.piece)) ≡ some x → g (record { version = v; piece = x })
    go ih true p b q h = absurd (none≢some h)
    go ih false p true q h = ih h
    go ih false p false q h = rw (neither_below v y.version p q) (rw (← some_eq h) e.0)
