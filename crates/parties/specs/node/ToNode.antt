-- Messages to a node by the positions of their bytes: a tag, then a version and a piece, a version, or versions.
use Rattle.std.specs.Prelude.{Bool, ◌&&◌, List, ℕ, ◌+◌, ◌-◌, ◌/◌, ◌%◌, leb, eqb, length}
use Rattle.parties.specs.declared.Measures.{Measures}
use Rattle.parties.specs.declared.Version.{Version}
use Rattle.parties.specs.protocol.Version.{no_version}
use Rattle.parties.specs.records.Places.{version_at, proper_at, from, ordered}

-- the versions listed at n positions, and their form
abbrev pub versions_from : List ℕ → ℕ → ℕ → List Version
versions_from b at n = from (version_at b) 5 at n

abbrev pub listed_from : Measures → List ℕ → Version → ℕ → ℕ → Bool
listed_from s b previous at n = ordered (proper_at s b) (version_at b) 5 previous at n

-- the form of each message after its tag
unfoldable pub store_sound : Measures → List ℕ → Bool
store_sound s b = (leb 7 (length b) && leb (length b) (6 + s.f)) && proper_at s b 1

unfoldable pub free_sound : Measures → List ℕ → Bool
free_sound s b = eqb ((length b - 1) % 5) 0 && listed_from s b no_version 1 ((length b - 1) / 5)
