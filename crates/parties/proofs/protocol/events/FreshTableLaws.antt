-- A fresh directory, node table and client record: their sizes, and what the event that writes one leaves where nothing is lent beyond it.
use mathlib.Core.Path.{◌≡◌, sym, ap, ◌∙◌}
use mathlib.Core.Bool.{true}
use mathlib.Core.List.{List, [], ◌++◌, append-nil}
use Prim.Native.Nat.{ℕ}
use native.Mathlib.Omega.{arith}
use borrow.Author.Tests.{le-leb}
use lib.ListN.{length, drop, length-replicate}
use lib.Seq.{drop-length}
use Rattle.parties.specs.declared.Measures.{Measures}
use Rattle.parties.specs.protocol.Measures.{passes, row_size}
use Rattle.parties.specs.protocol.Directory.{write_directory, fresh_directory, fresh_row, write_row}
use Rattle.parties.specs.protocol.NodeTable.{write_table}
use Rattle.parties.specs.protocol.Client.{client_size, write_client, fresh_client}
use Rattle.parties.specs.protocol.DirectoryEvents.{directory_size, directory_fresh}
use Rattle.parties.specs.protocol.NodeEvents.{table_size, node_fresh}
use Rattle.parties.specs.protocol.ClientEvents.{client_fresh}
use Rattle.parties.proofs.protocol.formats.EachLaws.{each-replicate}
use Rattle.parties.proofs.protocol.formats.RowLaws.{FitsRow, fresh_good, row_fits, length-directory}
use Rattle.parties.proofs.protocol.events.NodeLaws.{empty_good}
use Rattle.parties.proofs.protocol.formats.NodeTableLaws.{length-table}
use Rattle.parties.proofs.protocol.formats.ClientLaws.{length-client, fresh-client}

-- nothing is left of so many bytes
all_of : (x lent : List ℕ) (n : ℕ) → length lent ≡ n → x ++ drop n lent ≡ x
all_of x lent n e = ap (λ (k : ℕ). x ++ drop k lent) (sym e) ∙ ap (λ (t : List ℕ). x ++ t) (drop-length lent) ∙ append-nil x

module _ (s : Measures) where
  pub directory-long : length (write_directory s (fresh_directory s)) ≡ directory_size s
  directory-long =
      length-directory s (fresh_directory s)
      (each-replicate (FitsRow s) s.m (fresh_row s)
      ((fresh_good s, tt), le-leb (length (write_row (fresh_row s))) (row_size s) (row_fits s (fresh_row s) (fresh_good s))))
      (length-replicate s.m (fresh_row s))

  pub table-long : length (write_table s []) ≡ table_size s
  table-long = length-table s [] (empty_good s)

  module _ (ok : passes s ≡ true) where
    pub client-long : length (write_client s (fresh_client s)) ≡ client_size s
    client-long = length-client s ok (fresh_client s) (fresh-client s)

    pub directory-fresh : (table : List ℕ) → length table ≡ directory_size s → (directory_fresh s table).table ≡ write_directory s (fresh_directory s)
    unfolding directory_fresh
    directory-fresh table e =
        rw (ok, le-leb (directory_size s) (length table) (omega arith))
        (all_of (write_directory s (fresh_directory s)) table (directory_size s) e)

    pub table-fresh : (table : List ℕ) → length table ≡ table_size s → (node_fresh s table).table ≡ write_table s []
    unfolding node_fresh
    table-fresh table e = rw (ok, le-leb (table_size s) (length table) (omega arith)) (all_of (write_table s []) table (table_size s) e)

    pub client-fresh : (client : List ℕ) → length client ≡ client_size s → (client_fresh s client).client ≡ write_client s (fresh_client s)
    unfolding client_fresh
    client-fresh client e =
        rw (ok, le-leb (client_size s) (length client) (omega arith))
        (all_of (write_client s (fresh_client s)) client (client_size s) e)
