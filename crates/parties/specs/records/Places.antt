-- A node table by the positions of its bytes, as the code reads it.
use Rattle.std.specs.Prelude.{Bool, true, cond, ◌&&◌, not, List, [], ◌∷◌, ◌++◌, ℕ, zero, suc, ◌+◌, ◌-◌, ◌*◌, leb, ltb, eqb, length, get_or, take, drop}
use Rattle.coding.specs.Nodes.{all}
use Rattle.parties.specs.declared.Measures.{Measures}
use Rattle.parties.specs.declared.Version.{Version}
use Rattle.parties.specs.protocol.Measures.{places, place_size}
use Rattle.parties.specs.protocol.Version.{below, no_version}
use Rattle.parties.specs.protocol.Format.{write_area}
use Rattle.parties.specs.protocol.Message.{proper_version}
use Rattle.parties.specs.protocol.NodeTable.{Held, write_held}

-- the number in two bytes, the version in five
unfoldable pub number_at : List ℕ → ℕ → ℕ
number_at t at = get_or t at 0 * 256 + get_or t (at + 1) 0

unfoldable pub version_at : List ℕ → ℕ → Version
version_at t at =
    record {
      sequence = record { 0 = ((get_or t at 0 * 256 + get_or t (at + 1) 0) * 256 + get_or t (at + 2) 0) * 256 + get_or t (at + 3) 0 };
      client = get_or t (at + 4) 0;
    }

-- a version that a message names has a sequence and a client
unfoldable pub proper_at : Measures → List ℕ → ℕ → Bool
proper_at s b at = proper_version s (version_at b at)

-- such a version alone, after a tag
unfoldable pub version_alone : Measures → List ℕ → Bool
version_alone s b = eqb (length b) 6 && proper_at s b 1

-- a place is a version, a length, the piece and spare zeros
abbrev pub length_at : List ℕ → ℕ → ℕ
length_at t at = number_at t (at + 5)

unfoldable pub piece_at : List ℕ → ℕ → List ℕ
piece_at t at = take (length_at t at) (drop (at + 7) t)

abbrev pub held_at : List ℕ → ℕ → Held
held_at t at = record { version = version_at t at; piece = piece_at t at }

-- the values at n positions, z bytes apart
unfoldable pub from : {A : Type 0} → (ℕ → A) → ℕ → ℕ → ℕ → List A
from f z at zero = []
from f z at (suc n) = f at ∷ from f z (at + z) n

-- each of them of form, and each version above the one before
unfoldable pub ordered : (ℕ → Bool) → (ℕ → Version) → ℕ → Version → ℕ → ℕ → Bool
ordered test version z previous at zero = true
ordered test version z previous at (suc n) = test at && (below previous (version at) && ordered test version z (version at) (at + z) n)

-- a test holds at each
unfoldable pub every : (ℕ → Bool) → ℕ → ℕ → ℕ → Bool
every test z at zero = true
every test z at (suc n) = test at && every test z (at + z) n

-- what n places of z bytes show, from a position on
abbrev pub held_from : ℕ → List ℕ → ℕ → ℕ → List Held
held_from z t at n = from (held_at t) z at n

-- n bytes from a position on are zero
abbrev pub zero_run : List ℕ → ℕ → ℕ → Bool
zero_run t at n = all (λ b. eqb b 0) (take n (drop at t))

-- a place's form
unfoldable pub sound_at : Measures → List ℕ → ℕ → Bool
sound_at s t at =
    (leb 1 (version_at t at).sequence.0 && (ltb (version_at t at).client s.m && (leb 1 (length_at t at) && leb (length_at t at) s.f)))
    && zero_run t (at + 7 + length_at t at) (s.f - length_at t at)

-- the form of n places
abbrev pub sound_from : Measures → List ℕ → Version → ℕ → ℕ → Bool
sound_from s t previous at n = ordered (sound_at s t) (version_at t) (place_size s) previous at n

-- the form of a table
unfoldable pub sound_table : Measures → List ℕ → Bool
sound_table s t =
    leb (number_at t 0) (places s)
    && (sound_from s t no_version 2 (number_at t 0) && zero_run t (2 + number_at t 0 * place_size s) ((places s - number_at t 0) * place_size s))

-- the number of places whose version is below a version
unfoldable pub rank : ℕ → List ℕ → Version → ℕ → ℕ → ℕ
rank z t v at zero = 0
rank z t v at (suc n) = cond (below (version_at t at) v) (rank z t v (at + z) n + 1) 0

-- bytes over those that stand from a position on
unfoldable pub splice : List ℕ → ℕ → List ℕ → List ℕ
splice t at p = take at t ++ (p ++ drop (at + length p) t)

-- a place with a piece
abbrev pub place_of : Measures → Held → List ℕ
place_of s h = write_area (place_size s) write_held h

-- the place that follows those below a version holds it
abbrev pub stands_at : ℕ → List ℕ → ℕ → ℕ → Version → Bool
stands_at z t count j v = ltb j count && not (below v (version_at t (2 + j * z)))
