-- What the directory's and a node's table show after each event; a table that is well formed stays so.
use mathlib.Core.Path.{◌≡◌, refl, ap, ◌∙◌}
use mathlib.Core.Bool.{Bool, true, false, cond, ◌||◌}
use mathlib.Core.List.{List, [], ◌++◌}
use mathlib.Core.Option.{Option, some, none}
use Prim.Native.Nat.{ℕ, ◌≤◌, ◌<◌}
use native.Mathlib.Omega.{arith}
use borrow.Author.Tests.{le-leb, lt-ltb, leb-true, ltb-true}
use lib.Dec.{ltb}
use lib.ListN.{length, get_or, take, drop, set, length-append, length-set}
use lib.Seq.{take_at}
use Rattle.coding.specs.Bytes.{Bytes}
use Rattle.coding.proofs.PageLaws.{none≢some, some_eq}
use Rattle.parties.specs.declared.Measures.{Measures}
use Rattle.parties.specs.protocol.Format.{Read, whole}
use Rattle.parties.specs.protocol.Measures.{passes, row_size, places}
use Rattle.parties.specs.protocol.Directory.{Content, Row, no_row, read_record, write_record, read_directory, write_directory, fresh_directory, write_row, update_row}
use Rattle.parties.specs.protocol.Owner.{own_fields, own_rows}
use Rattle.parties.specs.protocol.Verdict.{Verdict, record_verdict}
use Rattle.parties.specs.protocol.DirectoryEvents.{DirectoryEnd, directory_size, directory_fresh, on_table, directory_update, scanned, directory_scan}
use Rattle.parties.specs.protocol.NodeTable.{Held, read_table, write_table}
use Rattle.parties.specs.protocol.Node.{keep, hand_back}
use Rattle.parties.specs.protocol.Answer.{serves}
use Rattle.parties.specs.protocol.Message.{ToNode, read_to_node, write_to_client}
use Rattle.parties.specs.protocol.NodeEvents.{is_held, held_after, answer_to, kept, on_message, node_fresh, node_message, table_size, answer_size}
use Rattle.parties.proofs.protocol.formats.FormatLaws.{Each}
use Rattle.parties.proofs.protocol.formats.EachLaws.{each_at, each_set}
use Rattle.parties.proofs.protocol.formats.DirectoryLaws.{GoodRecord, format_record}
use Rattle.parties.proofs.protocol.formats.VerdictLaws.{as_before}
use Rattle.parties.proofs.protocol.formats.RowLaws.{FitsRow, format_directory, length-directory, row_fits, update_good, fresh-directory}
use Rattle.parties.proofs.protocol.formats.OwnerLaws.{owner_verdict, own_row_lem, set_own, updated_own}
use Rattle.parties.proofs.protocol.formats.NodeTableLaws.{GoodTable, format_table, length-table}
use Rattle.parties.proofs.protocol.events.NodeLaws.{keep-length, keep_good, release_good, fresh-table}
use Rattle.parties.proofs.protocol.formats.MessageLaws.{GoodToNode, message_whole, message_to_node}
use Rattle.parties.proofs.protocol.steps.BringShows.{places-few, keep-held, stored_good}

module _ (s : Measures) (ok : passes s ≡ true) where
  -- a new version fits where it is not refused
  stored-fits : (h : Held) (l : List Held) → GoodTable s l → (is_held (hand_back h.version l) || ltb (length l) (places s)) ≡ true
      → length (keep h l) ≤ places s
  stored-fits h l g e = go (is_held (hand_back h.version l)) refl e
    where
      go : (b : Bool) → is_held (hand_back h.version l) ≡ b → (b || ltb (length l) (places s)) ≡ true → length (keep h l) ≤ places s
      go true q f = rw (keep-held h l q) (leb-true (length l) (places s) g.0.1)
      go false q f = omega (arith, keep-length h l, ltb-true (length l) (places s) f)

  held_good : (l : List Held) → GoodTable s l → (m : ToNode) → GoodToNode s m → (k : List Held) → held_after s l m ≡ some k → GoodTable s k
  held_good l g (ToNode.store v p) gm k e = go (is_held (hand_back v l) || ltb (length l) (places s)) refl e
    where
      go : (b : Bool) → (is_held (hand_back v l) || ltb (length l) (places s)) ≡ b → cond b (some (keep (record { version = v; piece = p }) l)) none ≡ some k
          → GoodTable s k
      go false q f = absurd (none≢some f)
      go true q f =
          rw (← some_eq f)
          (keep_good s (record { version = v; piece = p }) l (places-few s ok) (stored_good s ok v p gm.0 gm.1) g
          (stored-fits (record { version = v; piece = p }) l g q))
  held_good l g (ToNode.request v) gm k e = rw (← some_eq e) g
  held_good l g (ToNode.free vs) gm k e = rw (← some_eq e) (release_good s vs l (places-few s ok) g)

  -- after a message that a node takes, its table shows the pieces after it: those of `keep` and `release`, in order
  pub node-shows : (i : ℕ) → 1 ≤ i → i ≤ s.n → (l : List Held) → GoodTable s l → (rest message room : List ℕ) → Bytes message → answer_size s ≤ length room
      → (m : ToNode) → read_to_node s message ≡ some m → (k : List Held) → held_after s l m ≡ some k
      → (read_table s (node_message s i (write_table s l ++ rest) message room).table ≡ some (record { value = k; rest = rest })) × GoodTable s k
  unfolding node_message
  node-shows i lo up l g rest message room b r m e k f =
      let t = write_table s l ++ rest in
      let good = held_good l g m ((message_to_node s).only message m b e).0 k f in
      let long : table_size s ≤ length t = omega (arith, length-append (write_table s l) rest, length-table s l g) in
      let end : (node_message s i t message room).table ≡ write_table s k ++ rest =
      simp (ok, le-leb (table_size s) (length t) long, le-leb (answer_size s) (length room) r, le-leb 1 i lo, le-leb i s.n up)
      (ap (λ (x : Option (Read (List Held))). (on_message s t room x (read_to_node s message)).table) ((format_table s).back l g rest)
      ∙ ap (λ (x : Option ToNode). (on_message s t room (some (record { value = l; rest = rest })) x).table) e
      ∙ ap (λ (x : Option (List Held)). (kept s t room rest x (write_to_client (answer_to l m))).table) f)
      in (ap (read_table s) end ∙ (format_table s).back k good rest, good)

  -- after an update that is acknowledged, the table shows the client's row with the fields whose bit stands replaced, and every other row as it was
  pub update-shows : (own : ℕ) → own < s.m → (rows : List Row) → Each (FitsRow s) rows → length rows ≡ s.m → own_rows 0 rows ≡ true
      → (rest fields : List ℕ) → Bytes fields → (u : List (Option Content)) → whole (read_record s) fields ≡ some u → own_fields own u ≡ true
      → (read_directory s (directory_update s own (write_directory s rows ++ rest) fields).table
      ≡ some (record { value = set rows own (update_row u (get_or rows own no_row)); rest = rest }))
      × Each (FitsRow s) (set rows own (update_row u (get_or rows own no_row)))
      × (own_rows 0 (set rows own (update_row u (get_or rows own no_row))) ≡ true)
  unfolding directory_update
  update-shows own l rows g n o rest fields b u e ou =
      let t = write_directory s rows ++ rest in
      let r = update_row u (get_or rows own no_row) in
      let old = each_at (FitsRow s) no_row rows g own (omega (arith, n)) in
      let gu = ((message_whole (read_record s) write_record (GoodRecord s) (format_record s)).only fields u b e).0 in
      let new = update_good s u (get_or rows own no_row) gu old.0.0 in
      let fits : FitsRow s r = ((new, tt), le-leb (length (write_row r)) (row_size s) (row_fits s r new)) in
      let good = each_set (FitsRow s) rows own r fits g in
      let long : directory_size s ≤ length t = omega (arith, length-append (write_directory s rows) rest, length-directory s rows g n) in
      let end : (directory_update s own t fields).table ≡ write_directory s (set rows own r) ++ rest =
      simp (ok, le-leb (directory_size s) (length t) long, lt-ltb own s.m l)
      (ap (λ (x : Option (Read (List Row))). (on_table s own t x (record_verdict s fields)).table) ((format_directory s).back rows (g, n) rest)
      ∙ ap (λ (x : Verdict (List (Option Content))). (on_table s own t (some (record { value = rows; rest = rest })) x).table)
      ((as_before s fields).conversely u e)
      ∙ simp (o, ou))
      in (
        ap (read_directory s) end ∙ (format_directory s).back (set rows own r) (good, length-set rows own r ∙ n) rest,
        good,
        set_own rows own r o (updated_own s own u (get_or rows own no_row) gu old.0.0 ou (own_row_lem rows o own (omega (arith, n)))),
      )

  -- a scan that is answered shows in its room the rows that the table shows, and leaves the table
  pub scan-shows : (rows : List Row) → Each (FitsRow s) rows → length rows ≡ s.m → own_rows 0 rows ≡ true → (rest room : List ℕ) → directory_size s ≤ length room
      → (read_directory s (directory_scan s (write_directory s rows ++ rest) room).room ≡ some (record { value = rows; rest = drop (directory_size s) room }))
      × ((directory_scan s (write_directory s rows ++ rest) room).table ≡ write_directory s rows ++ rest)
  unfolding directory_scan
  scan-shows rows g n o rest room h =
      let t = write_directory s rows ++ rest in
      let w : length (write_directory s rows) ≡ directory_size s = length-directory s rows g n in
      let long : directory_size s ≤ length t = omega (arith, length-append (write_directory s rows) rest) in
      let end : directory_scan s t room
      ≡ record { answer = serves (directory_size s); table = t; room = take (directory_size s) t ++ drop (directory_size s) room } =
      simp (ok, le-leb (directory_size s) (length t) long, le-leb (directory_size s) (length room) h)
      (ap (scanned s t room) (owner_verdict (read_directory s t) _ true ((format_directory s).back rows (g, n) rest) o))
      in (
        ap (λ (x : DirectoryEnd). read_directory s x.room) end
            ∙ ap (λ (b : List ℕ). read_directory s (b ++ drop (directory_size s) room)) (take_at (write_directory s rows) rest (directory_size s) w)
            ∙ (format_directory s).back rows (g, n) (drop (directory_size s) room),
        ap (λ (x : DirectoryEnd). x.table) end,
      )

  -- a fresh directory table shows fresh rows, and a fresh node table no piece
  pub directory-fresh-shows : (table : List ℕ) → directory_size s ≤ length table
      → read_directory s (directory_fresh s table).table ≡ some (record { value = fresh_directory s; rest = drop (directory_size s) table })
  unfolding directory_fresh
  directory-fresh-shows table h = simp (ok, le-leb (directory_size s) (length table) h) (fresh-directory s (drop (directory_size s) table))

  pub node-fresh-shows : (table : List ℕ) → table_size s ≤ length table
      → read_table s (node_fresh s table).table ≡ some (record { value = []; rest = drop (table_size s) table })
  unfolding node_fresh
  node-fresh-shows table h = simp (ok, le-leb (table_size s) (length table) h) (fresh-table s (places-few s ok) (drop (table_size s) table))
