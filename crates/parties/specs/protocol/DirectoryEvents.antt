-- Events at the directory: an atomic snapshot object with an update and a scan.
use Rattle.std.specs.Prelude.{cond, ◌&&◌, List, [], ◌++◌, ℕ, ◌*◌, leb, ltb, length, take, drop, get_or, set}
use Rattle.std.proofs.Math.Option.{Option, some, none}
use Rattle.parties.specs.declared.Measures.{Measures}
use Rattle.parties.specs.protocol.Format.{Read}
use Rattle.parties.specs.protocol.Measures.{passes, row_size}
use Rattle.parties.specs.protocol.Directory.{Content, Row, no_row, read_directory, write_directory, fresh_directory, update_row}
use Rattle.parties.specs.protocol.Owner.{own_fields, own_rows}
use Rattle.parties.specs.protocol.Verdict.{Verdict, sound, broken, record_verdict, rows_verdict}
use Rattle.parties.specs.protocol.Answer.{Served, refuses, serves}

pub record DirectoryEnd : Type 0 where
  pub answer : Served
  pub table : List ℕ
  pub room : List ℕ

-- the bytes of the directory table
abbrev pub directory_size : Measures → ℕ
directory_size s = s.m * row_size s

-- a fresh table is written
unfoldable pub directory_fresh : Measures → List ℕ → DirectoryEnd
directory_fresh s table =
    cond (passes s)
    (cond (leb (directory_size s) (length table))
    (record { answer = serves 0; table = write_directory s (fresh_directory s) ++ drop (directory_size s) table; room = [] })
    (record { answer = refuses 2; table = table; room = [] }))
    (record { answer = refuses 1; table = table; room = [] })

-- 4 of the table, then what the record is refused for, then 14 of either
abbrev pub on_table : Measures → ℕ → List ℕ → Option (Read (List Row)) → Verdict (List (Option Content)) → DirectoryEnd
on_table s own table none u = record { answer = refuses 4; table = table; room = [] }
on_table s own table (some r) (broken n) = record { answer = refuses n; table = table; room = [] }
on_table s own table (some r) (sound u) =
    cond (own_rows 0 r.value && own_fields own u)
    (record {
      answer = serves 0;
      table = write_directory s (set r.value own (update_row u (get_or r.value own no_row))) ++ r.rest;
      room = [];
    })
    (record { answer = refuses 14; table = table; room = [] })

-- dir-Update | c, fields: the fields whose bit stands are replaced in the client's row; acknowledged with no bytes
unfoldable pub directory_update : Measures → ℕ → List ℕ → List ℕ → DirectoryEnd
directory_update s own table fields =
    cond (passes s)
    (cond (leb (directory_size s) (length table))
    (cond (ltb own s.m) (on_table s own table (read_directory s table) (record_verdict s fields))
    (record { answer = refuses 3; table = table; room = [] }))
    (record { answer = refuses 2; table = table; room = [] }))
    (record { answer = refuses 1; table = table; room = [] })

abbrev pub scanned : Measures → List ℕ → List ℕ → Verdict (Read (List Row)) → DirectoryEnd
scanned s table room (broken n) = record { answer = refuses n; table = table; room = room }
scanned s table room (sound r) =
    record { answer = serves (directory_size s); table = table; room = take (directory_size s) table ++ drop (directory_size s) room }

-- dir-Scan: the rows, in the answer's room
unfoldable pub directory_scan : Measures → List ℕ → List ℕ → DirectoryEnd
directory_scan s table room =
    cond (passes s)
    (cond (leb (directory_size s) (length table) && leb (directory_size s) (length room)) (scanned s table room (rows_verdict s table))
    (record { answer = refuses 2; table = table; room = room }))
    (record { answer = refuses 1; table = table; room = room })
