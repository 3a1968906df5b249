-- What is written over a client's area for another client whose reading is noticed.
use Rattle.std.specs.Prelude.{List, ℕ, ◌+◌, ◌*◌, drop}
use Rattle.std.proofs.Math.Seq.{paste}
use Rattle.parties.specs.declared.Measures.{Measures}
use Rattle.parties.specs.declared.ReadingIndex.{ReadingIndex}
use Rattle.parties.specs.protocol.Format.{write_number}
use Rattle.parties.specs.protocol.Measures.{pointer_size}
use Rattle.parties.specs.client.Record.{work_at}

-- the work's pointer is frozen for client q
unfoldable pub freeze_pointer : Measures → ℕ → List ℕ → List ℕ
freeze_pointer s q t = paste t ((q + 1) * pointer_size s) (drop (work_at s) t) (pointer_size s)

-- the written version, at the front, is reserved for it
unfoldable pub reserve_version : Measures → ℕ → List ℕ → List ℕ
reserve_version s q t = paste t ((s.m + 1) * pointer_size s + 5 * q) t 5

-- the index that its row shows
unfoldable pub keep_index : Measures → ℕ → ReadingIndex → List ℕ → List ℕ
keep_index s q i t = paste t ((s.m + 1) * pointer_size s + 5 * s.m + 4 * q) (write_number 4 i.0) 4

abbrev pub notice : Measures → ℕ → ReadingIndex → List ℕ → List ℕ
notice s q i t = keep_index s q i (reserve_version s q (freeze_pointer s q t))
