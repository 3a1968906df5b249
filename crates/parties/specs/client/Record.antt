-- A client's record as the code has it: the phase by value, and the lent area after it.
use Rattle.std.specs.Prelude.{Bool, true, false, List, ◌∷◌, ◌++◌, ℕ, zero, suc, ◌+◌, ◌-◌, ◌*◌, set}
use Rattle.std.proofs.Math.Option.{Option, some, none}
use Rattle.parties.specs.declared.Measures.{Measures}
use Rattle.parties.specs.protocol.Format.{write_number}
use Rattle.parties.specs.protocol.Measures.{pointer_size}
use Rattle.parties.specs.protocol.Version.{no_client}
use Rattle.parties.specs.protocol.Client.{client_size}
use Rattle.parties.specs.declared.Phase.{Phase}

-- step (1 byte) and reading index (4), then the area
abbrev pub record_of : Phase → List ℕ → List ℕ
record_of p area = p.step ∷ (write_number 4 p.reading.0 ++ area)

abbrev pub area_size : Measures → ℕ
area_size s = client_size s - 5

-- where the work stands in the area: after m + 1 pointers, m reserved versions of 5 bytes and m indices of 4
abbrev pub work_at : Measures → ℕ
work_at s = (s.m + 1) * pointer_size s + 9 * s.m

abbrev pub is_some : {A : Type 0} → Option A → Bool
is_some none = false
is_some (some a) = true

-- none's client at n places of w bytes each, whose sequences are zero
unfoldable pub marked : List ℕ → ℕ → ℕ → ℕ → List ℕ
marked t at w zero = t
marked t at w (suc n) = set (marked t at w n) (at + n * w + 4) no_client
