-- Acknowledgements of a version's stores, and the pointer that is published.
use Rattle.std.specs.Prelude.{List, ℕ, ◌+◌, ◌*◌, take, drop}
use Rattle.coding.specs.Bytes.{tabulate}
use Rattle.parties.specs.declared.Measures.{Measures}
use Rattle.parties.specs.declared.Version.{Version}
use Rattle.parties.specs.protocol.Pointer.{Pointer}
use Rattle.parties.specs.protocol.Directory.{write_record}
use Rattle.parties.specs.protocol.Client.{Retained, client_of, idle, read_client}
use Rattle.parties.specs.protocol.ClientEvents.{ClientEnd, on_client, stored_at}
use Rattle.parties.specs.protocol.Deposit.{deposit_fields, pointer_of}
use Rattle.parties.specs.records.Places.{version_at}

-- the digests of n pieces, behind version and bit map
abbrev pub digests_in : ℕ → List ℕ → ℕ → List (List ℕ)
digests_in n t at = tabulate n (λ j. take 32 (drop (at + 7 + 32 * j) t))

-- the pointer of a work whose stores the nodes of a map acknowledged
unfoldable pub pointer_from : Measures → ℕ → List ℕ → ℕ → Pointer
pointer_from s map t at = pointer_of (version_at t at) map (digests_in s.n t at)

-- the record of a deposit's update, by what the client retains
abbrev pub update_of : Retained → Pointer → List ℕ
update_of x p = write_record (deposit_fields (client_of (record { 0 = 0 }) x idle) p)

-- what the acknowledgement of a version's store does to a client's record and room
unfoldable pub stored_end : Measures → ℕ → Version → List ℕ → List ℕ → List ℕ → ClientEnd
stored_end s i v client room out = on_client s client room out (read_client s client) (λ c. stored_at s i c room out v c.phase)
