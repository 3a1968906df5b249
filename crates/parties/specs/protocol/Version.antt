-- Versions, and the two counters.
use Rattle.std.specs.Prelude.{Option, Some, None, Bool, cond, ◌&&◌, ◌||◌, true, List, [], ◌∷◌, ℕ, ◌+◌, ltb, eqb}
use Rattle.parties.specs.declared.Sequence.{Sequence}
use Rattle.parties.specs.declared.ReadingIndex.{ReadingIndex}
use Rattle.parties.specs.declared.Version.{Version}

-- a version is (sequence, client), ordered by sequence, then client
abbrev pub below : Version → Version → Bool
below a b = ltb a.sequence.0 b.sequence.0 || (eqb a.sequence.0 b.sequence.0 && ltb a.client b.client)

-- "none" is (0, 255) and is below all others that a pointer may have: those with a sequence of at least 1
abbrev pub no_client : ℕ
no_client = 255

abbrev pub no_version : Version
no_version = record { sequence = record { 0 = 0 }; client = no_client }

abbrev pub is_no_version : Version → Bool
is_no_version v = eqb v.sequence.0 0 && eqb v.client no_client

-- one above, where numbers are 32 bits wide: the last has none
abbrev pub last_number : ℕ
last_number = 4294967295

abbrev pub next_sequence : Sequence → Option Sequence
next_sequence s = cond (ltb s.0 last_number) (Some (record { 0 = s.0 + 1 })) None

abbrev pub next_index : ReadingIndex → Option ReadingIndex
next_index i = cond (ltb i.0 last_number) (Some (record { 0 = i.0 + 1 })) None

-- strictly ascending
unfoldable pub ascending : List Version → Bool
ascending [] = true
ascending (v ∷ []) = true
ascending (v ∷ w ∷ l) = below v w && ascending (w ∷ l)
