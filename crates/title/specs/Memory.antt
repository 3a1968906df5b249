-- One page's tables and records in lent memory: the directory, n node tables, m client records, one after the other.
use Rattle.std.specs.Prelude.{◌≡◌, cond, ◌&&◌, List, [], ◌++◌, ℕ, ◌+◌, ◌-◌, ◌*◌, leb, ltb, length, take, drop, replicate}
use Rattle.parties.specs.declared.Measures.{Measures}
use Rattle.parties.specs.protocol.Measures.{passes}
use Rattle.parties.specs.protocol.Format.{write_many}
use Rattle.parties.specs.protocol.Directory.{write_directory, fresh_directory}
use Rattle.parties.specs.protocol.NodeTable.{write_table}
use Rattle.parties.specs.protocol.Client.{client_size, write_client, fresh_client}
use Rattle.parties.specs.protocol.Answer.{Served, refuses, serves}
use Rattle.parties.specs.protocol.DirectoryEvents.{directory_size}
use Rattle.parties.specs.protocol.NodeEvents.{table_size}
use Rattle.parties.specs.records.Places.{splice}

abbrev pub memory_size : Measures → ℕ
memory_size s = directory_size s + s.n * table_size s + s.m * client_size s

-- where node i's table and client c's record stand; a number out of bounds has the first one's place, and the party refuses it
unfoldable pub table_at : Measures → ℕ → ℕ
table_at s i = directory_size s + cond (leb 1 i && leb i s.n) ((i - 1) * table_size s) 0

unfoldable pub record_at : Measures → ℕ → ℕ
record_at s c = directory_size s + s.n * table_size s + cond (ltb c s.m) (c * client_size s) 0

-- so many bytes from a place on; none of a memory that is too short, so that the party refuses it too
unfoldable pub part_of : Measures → ℕ → ℕ → List ℕ → List ℕ
part_of s at size memory = cond (leb (memory_size s) (length memory)) (take size (drop at memory)) []

abbrev pub directory_in : Measures → List ℕ → List ℕ
directory_in s memory = part_of s 0 (directory_size s) memory

abbrev pub table_in : Measures → ℕ → List ℕ → List ℕ
table_in s i memory = part_of s (table_at s i) (table_size s) memory

abbrev pub record_in : Measures → ℕ → List ℕ → List ℕ
record_in s c memory = part_of s (record_at s c) (client_size s) memory

-- a part is written back in its place: it is as long as it was, and nothing else changes
pub record PutBack (memory : List ℕ) (at : ℕ) (old new after : List ℕ) : Type 0 where
  pub long : length new ≡ length old
  pub bytes : after ≡ splice memory at new

-- fresh tables and records, as they are written
unfoldable pub fresh_memory : Measures → List ℕ
fresh_memory s =
    write_directory s (fresh_directory s)
    ++ (write_many (λ t. t) (replicate s.n (write_table s [])) ++ write_many (λ c. c) (replicate s.m (write_client s (fresh_client s))))

pub record MemoryEnd : Type 0 where
  pub answer : Served
  pub memory : List ℕ

unfoldable pub memory_fresh : Measures → List ℕ → MemoryEnd
memory_fresh s memory =
    cond (passes s)
    (cond (leb (memory_size s) (length memory)) (record { answer = serves 0; memory = fresh_memory s ++ drop (memory_size s) memory })
    (record { answer = refuses 2; memory = memory }))
    (record { answer = refuses 1; memory = memory })
