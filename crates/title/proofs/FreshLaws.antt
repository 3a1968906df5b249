-- Fresh memory shows the run's beginning.
use mathlib.Core.Path.{◌≡◌, sym, ap, ap₂, ◌∙◌}
use mathlib.Core.Bool.{true}
use mathlib.Core.List.{List, [], ◌++◌, append_assoc}
use Prim.Native.Nat.{ℕ, ◌+◌, ◌-◌, ◌*◌, ◌≤◌}
use native.Mathlib.Omega.{arith}
use lib.ListN.{length, take, drop, length-append, length-drop}
use lib.Seq.{take_at}
use Rattle.parties.specs.declared.Measures.{Measures}
use Rattle.parties.specs.protocol.Measures.{passes}
use Rattle.parties.specs.protocol.Directory.{write_directory, fresh_directory}
use Rattle.parties.specs.protocol.NodeTable.{write_table}
use Rattle.parties.specs.protocol.Client.{client_size, write_client, fresh_client}
use Rattle.parties.specs.protocol.DirectoryEvents.{directory_size}
use Rattle.parties.specs.protocol.NodeEvents.{table_size}
use Rattle.parties.specs.protocol.Run.{fresh}
use Rattle.parties.proofs.protocol.events.FreshTableLaws.{directory-long, table-long, client-long}
use Rattle.title.specs.Memory.{memory_size, table_at, record_at, fresh_memory, memory_fresh}
use Rattle.title.specs.Service.{MemoryShows}
use Rattle.title.proofs.MemoryLaws.{table_own, record_own, part_is}
use Rattle.title.proofs.FreshMemoryLaws.{copy_behind, tables, records, tables_long, records_long, front_long, fresh-served}

long-sum : (x y z w d t r k : ℕ) → x ≡ d → y ≡ t → z ≡ r → k ≡ w - (d + t + r) → d + t + r ≤ w → d + t + r ≤ x + (y + z) + k
long-sum x y z w d t r k e f g h l = omega arith

-- ---- the fresh parts

module _ (s : Measures) (ok : passes s ≡ true) (memory : List ℕ) (long : memory_size s ≤ length memory) where
  abbrev rest : List ℕ
  rest = drop (memory_size s) memory

  abbrev rows : List ℕ
  rows = write_directory s (fresh_directory s)

  abbrev made : List ℕ
  made = (rows ++ (tables s ++ records s)) ++ rest

  tables_behind : made ≡ rows ++ (tables s ++ (records s ++ rest))
  tables_behind = append_assoc rows (tables s ++ records s) rest ∙ ap (λ (u : List ℕ). rows ++ u) (append_assoc (tables s) (records s) rest)

  records_behind : made ≡ (rows ++ tables s) ++ (records s ++ rest)
  records_behind = tables_behind ∙ sym (append_assoc rows (tables s) (records s ++ rest))

  made_long : memory_size s ≤ length made
  made_long =
      rw (length-append (rows ++ (tables s ++ records s)) rest)
      (rw (length-append rows (tables s ++ records s))
      (rw (length-append (tables s) (records s))
      (long-sum (length rows) (length (tables s)) (length (records s)) (length memory) (directory_size s) (s.n * table_size s) (s.m * client_size s) (length rest)
      (directory-long s) (tables_long s) (records_long s ok) (length-drop (memory_size s) memory) long)))

  made_shows : MemoryShows s made (fresh s)
  made_shows =
      record {
        long = made_long;
        directory =
            part_is s 0 (directory_size s) made made_long
            ∙ ap (take (directory_size s)) tables_behind
            ∙ take_at rows (tables s ++ (records s ++ rest)) (directory_size s) (directory-long s);
        nodes = λ i lo up.
            part_is s (table_at s i) (table_size s) made made_long
            ∙ ap₂ (λ (k : ℕ) (u : List ℕ). take (table_size s) (drop k u)) (table_own s i lo up) tables_behind
            ∙ copy_behind rows (write_table s []) (records s ++ rest) (directory_size s) (table_size s) (directory-long s) (table-long s) (i - 1) s.n (omega arith);
        clients = λ c l.
            part_is s (record_at s c) (client_size s) made made_long
            ∙ ap₂ (λ (k : ℕ) (u : List ℕ). take (client_size s) (drop k u)) (record_own s c l) records_behind
            ∙ copy_behind (rows ++ tables s) (write_client s (fresh_client s)) rest (directory_size s + s.n * table_size s) (client_size s)
            (front_long s) (client-long s ok) c s.m l;
      }

  pub fresh-shows : MemoryShows s (memory_fresh s memory).memory (fresh s)
  unfolding fresh_memory
  fresh-shows = rw (fresh-served s memory ok long) made_shows
