-- A data node's steps (Algorithm 3) on what its table shows: pieces by version, ascending.
use Rattle.std.specs.Prelude.{Bool, true, false, cond, ◌||◌, List, [], ◌∷◌, ℕ}
use Rattle.std.proofs.Math.Option.{Option, some, none}
use Rattle.parties.specs.declared.Version.{Version}
use Rattle.parties.specs.protocol.Version.{below}
use Rattle.parties.specs.protocol.NodeTable.{Held}

-- upon d-Write: the piece stands in its version's place; a held version is overwritten
unfoldable pub keep : Held → List Held → List Held
keep h [] = h ∷ []
keep h (x ∷ l) =
    cond (below h.version x.version) (h ∷ x ∷ l)
    (cond (below x.version h.version) (x ∷ keep h l) (h ∷ l))

-- upon d-Read: the piece of a version, or none if it is not held
unfoldable pub hand_back : Version → List Held → Option (List ℕ)
hand_back v [] = none
hand_back v (x ∷ l) =
    cond (below v x.version) none
    (cond (below x.version v) (hand_back v l) (some x.piece))

-- one of the listed versions
unfoldable pub listed : Version → List Version → Bool
listed v [] = false
listed v (w ∷ l) = cond (below v w || below w v) (listed v l) true

-- upon d-Free: the listed versions that are held are dropped
unfoldable pub release : List Version → List Held → List Held
release vs [] = []
release vs (x ∷ l) = cond (listed x.version vs) (release vs l) (x ∷ release vs l)
