-- Document 01's edges, of this layer and of the one beneath.
use Rattle.std.specs.Prelude.{◌≡◌, true, false, List, ◌∷◌, ℕ, ◌≤◌, ◌<◌, length}
use Rattle.std.proofs.Math.Option.{some}
use Rattle.coding.specs.Edges.{Edges as CodingEdges}
use Rattle.coding.specs.Pieces.{columns}
use Rattle.parties.specs.declared.Measures.{Measures}
use Rattle.parties.specs.protocol.Measures.{passes}
use Rattle.parties.specs.protocol.Version.{below, last_number}
use Rattle.parties.specs.protocol.Directory.{Row, read_directory, fresh_directory}
use Rattle.parties.specs.protocol.Owner.{own_rows}
use Rattle.parties.specs.protocol.Client.{idle, scanning, picking, Client, read_client, client_size}
use Rattle.parties.specs.protocol.Deposit.{highest}
use Rattle.parties.specs.protocol.Answer.{refused, scan, stores, empty, spent, number, refuses}
use Rattle.parties.specs.protocol.ClientEvents.{room_size, start_deposit, scan_answer}
use Rattle.parties.specs.protocol.DirectoryEvents.{directory_size, directory_update}

-- the rows of a scan are handed to a client whose record reads, with the lengths that are wanted
pub record Handed (s : Measures) (own : ℕ) (client rows room : List ℕ) (c : Client) (l : List Row) : Type 0 where
  pub measures : passes s ≡ true
  pub number : own < s.m
  pub enough : (client_size s ≤ length client) × (directory_size s ≤ length rows) × (room_size s ≤ length room)
  pub record_rest : List ℕ
  pub record_reads : read_client s client ≡ some (record { value = c; rest = record_rest })
  pub rows-rest : List ℕ
  pub rows-read : read_directory s rows ≡ some (record { value = l; rest = rows-rest })

-- a deposit is started at an idle client whose record reads, with the length that is wanted
pub record Starting (s : Measures) (own : ℕ) (client : List ℕ) (c : Client) : Type 0 where
  pub measures : passes s ≡ true
  pub number : own < s.m
  pub enough : client_size s ≤ length client
  pub record_rest : List ℕ
  pub record_reads : read_client s client ≡ some (record { value = c; rest = record_rest })
  pub unoccupied : c.phase ≡ idle

pub record Edges : Type 0 where
  -- m 2, n 4, k 2, t 1 passes; n 3 is refused 1
  pub four-nodes : (f : ℕ) → 2 ≤ f → f ≤ 4096 → passes (record { m = 2; n = 4; k = 2; t = 1; f = f }) ≡ true
  pub three_nodes : (f : ℕ) → passes (record { m = 2; n = 3; k = 2; t = 1; f = f }) ≡ false
  pub three_refused : (f own : ℕ) (client bytes : List ℕ)
      → (start_deposit (record { m = 2; n = 3; k = 2; t = 1; f = f }) own client bytes).answer ≡ refused 1
  -- k 2, F 4, at the start of a deposit: 4 bytes pass, and its scan is called; 5 are refused 6
  pub four_bytes : (m n t own : ℕ) (client bytes : List ℕ) (c : Client) → Starting (record { m = m; n = n; k = 2; t = t; f = 4 }) own client c
      → length bytes ≡ 4 → (start_deposit (record { m = m; n = n; k = 2; t = t; f = 4 }) own client bytes).answer ≡ scan
  pub five-bytes : (m n t own : ℕ) (client bytes : List ℕ) (c : Client) → Starting (record { m = m; n = n; k = 2; t = t; f = 4 }) own client c
      → length bytes ≡ 5 → (start_deposit (record { m = m; n = n; k = 2; t = t; f = 4 }) own client bytes).answer ≡ refused 6
  -- version (2, 0) is above (1, 7)
  pub later : below (record { sequence = record { 0 = 1 }; client = 7 }) (record { sequence = record { 0 = 2 }; client = 0 }) ≡ true
  -- fresh directory: a reading ends empty; the first deposit draws 1
  pub nothing : (s : Measures) (own : ℕ) (client rows room : List ℕ) (c : Client) → Handed s own client rows room c (fresh_directory s)
      → c.phase ≡ picking → (scan_answer s own client rows room).answer ≡ empty
  pub first : (s : Measures) (own : ℕ) (client rows room bytes : List ℕ) (c : Client) → Handed s own client rows room c (fresh_directory s)
      → c.phase ≡ scanning bytes
      → (scan_answer s own client rows room).answer ≡ stores (record { sequence = record { 0 = 1 }; client = own }) (columns s.k (length bytes))
  -- sequence 4,294,967,294 highest: drawn next is the last; after it, 7; of rows with other owners, 14 comes before (document 02, (k))
  pub last : (s : Measures) (own : ℕ) (client rows room bytes : List ℕ) (c : Client) (l : List Row) → Handed s own client rows room c l
      → own_rows 0 l ≡ true → c.phase ≡ scanning bytes → (highest l).0 ≡ 4294967294
      → (scan_answer s own client rows room).answer ≡ stores (record { sequence = record { 0 = last_number }; client = own }) (columns s.k (length bytes))
  pub after : (s : Measures) (own : ℕ) (client rows room bytes : List ℕ) (c : Client) (l : List Row) → Handed s own client rows room c l
      → own_rows 0 l ≡ true → c.phase ≡ scanning bytes → (highest l).0 ≡ last_number
      → ((scan_answer s own client rows room).answer ≡ spent) × (number (scan_answer s own client rows room).answer ≡ some 7)
  -- update bit map hex 10: 4
  pub wrong_map : (s : Measures) (own : ℕ) (table rest : List ℕ) → passes s ≡ true → directory_size s ≤ length table → own < s.m
      → (directory_update s own table (0x10 ∷ rest)).answer ≡ refuses 4
  -- k 2, F 4, of a split: 4 bytes pass, 5 are refused 6; field, hex: 2 times 80 is 1D; the pieces of an empty page, of hex 41, of hex 41 42
  pub coding : CodingEdges
