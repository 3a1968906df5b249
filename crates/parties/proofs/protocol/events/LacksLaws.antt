-- An event that is refused for its measures, or because the party's table or record is too short: its answer, and nothing changes.
use mathlib.Core.Path.{◌≡◌}
use mathlib.Core.Bool.{true, false}
use mathlib.Core.List.{List, []}
use Prim.Native.Nat.{ℕ, ◌<◌}
use borrow.Author.Tests.{lt-leb}
use lib.ListN.{length}
use Rattle.parties.specs.declared.Measures.{Measures}
use Rattle.parties.specs.protocol.Measures.{passes}
use Rattle.parties.specs.protocol.Client.{client_size}
use Rattle.parties.specs.protocol.Answer.{refused, refuses}
use Rattle.parties.specs.protocol.DirectoryEvents.{directory_size, directory_update, directory_scan}
use Rattle.parties.specs.protocol.NodeEvents.{table_size, node_message}
use Rattle.parties.specs.protocol.ClientEvents.{unchanged, client_fresh, start_deposit, start_reading, update_answer, scan_answer, client_message}

-- the number of the refusal, of a table or record that has so many bytes
pub data Lacks (s : Measures) (size : ℕ) (bytes : List ℕ) : ℕ → Type 0 where
  measures : passes s ≡ false → Lacks s size bytes 1
  short : passes s ≡ true → length bytes < size → Lacks s size bytes 2

-- ---- the directory

module _ (s : Measures) (table : List ℕ) where
  pub update-lacks : (n : ℕ) → Lacks s (directory_size s) table n → (own : ℕ) (fields : List ℕ)
      → directory_update s own table fields ≡ record { answer = refuses n; table = table; room = [] }
  unfolding directory_update
  update-lacks _ (measures h) own fields = simp h
  update-lacks _ (short h l) own fields = simp (h, lt-leb (directory_size s) (length table) l)

  pub scan-lacks : (n : ℕ) → Lacks s (directory_size s) table n → (room : List ℕ)
      → directory_scan s table room ≡ record { answer = refuses n; table = table; room = room }
  unfolding directory_scan
  scan-lacks _ (measures h) room = simp h
  scan-lacks _ (short h l) room = simp (h, lt-leb (directory_size s) (length table) l)

  -- ---- a node

  pub node-lacks : (n : ℕ) → Lacks s (table_size s) table n → (i : ℕ) (message room : List ℕ)
      → node_message s i table message room ≡ record { answer = refuses n; table = table; room = room }
  unfolding node_message
  node-lacks _ (measures h) i message room = simp h
  node-lacks _ (short h l) i message room = simp (h, lt-leb (table_size s) (length table) l)

-- ---- a client

module _ (s : Measures) (client : List ℕ) where
  pub fresh-lacks : (n : ℕ) → Lacks s (client_size s) client n → client_fresh s client ≡ unchanged (refused n) client [] []
  unfolding client_fresh
  fresh-lacks _ (measures h) = simp h
  fresh-lacks _ (short h l) = simp (h, lt-leb (client_size s) (length client) l)

  pub deposit-lacks : (n : ℕ) → Lacks s (client_size s) client n → (own : ℕ) (page : List ℕ)
      → start_deposit s own client page ≡ unchanged (refused n) client [] []
  unfolding start_deposit
  deposit-lacks _ (measures h) own page = simp h
  deposit-lacks _ (short h l) own page = simp (h, lt-leb (client_size s) (length client) l)

  pub reading-lacks : (n : ℕ) → Lacks s (client_size s) client n → (own : ℕ) (room : List ℕ)
      → start_reading s own client room ≡ unchanged (refused n) client room []
  unfolding start_reading
  reading-lacks _ (measures h) own room = simp h
  reading-lacks _ (short h l) own room = simp (h, lt-leb (client_size s) (length client) l)

  pub updated-lacks : (n : ℕ) → Lacks s (client_size s) client n → (own : ℕ) (room : List ℕ)
      → update_answer s own client room ≡ unchanged (refused n) client room []
  unfolding update_answer
  updated-lacks _ (measures h) own room = simp h
  updated-lacks _ (short h l) own room = simp (h, lt-leb (client_size s) (length client) l)

  pub scanned-lacks : (n : ℕ) → Lacks s (client_size s) client n → (own : ℕ) (rows room : List ℕ)
      → scan_answer s own client rows room ≡ unchanged (refused n) client room []
  unfolding scan_answer
  scanned-lacks _ (measures h) own rows room = simp h
  scanned-lacks _ (short h l) own rows room = simp (h, lt-leb (client_size s) (length client) l)

  pub message_lacks : (n : ℕ) → Lacks s (client_size s) client n → (own i : ℕ) (message room out : List ℕ)
      → client_message s own i client message room out ≡ unchanged (refused n) client room out
  unfolding client_message
  message_lacks _ (measures h) own i message room out = simp h
  message_lacks _ (short h l) own i message room out = simp (h, lt-leb (client_size s) (length client) l)
