-- Fresh memory: a fresh directory, fresh tables and fresh records, one after the other.
use mathlib.Core.Path.{◌≡◌, refl, sym, ap, ap₂, ◌∙◌}
use mathlib.Core.Bool.{true}
use mathlib.Core.List.{List, [], ◌++◌, append_assoc}
use Prim.Native.Nat.{ℕ, zero, suc, ◌+◌, ◌-◌, ◌*◌, ◌<◌, ◌≤◌}
use native.Mathlib.Nat.{suc-mul}
use native.Mathlib.Numerals.{add-one}
use native.Mathlib.Omega.{arith}
use borrow.Author.Tests.{le-leb, lt-leb}
use lib.ListN.{length, take, drop, replicate, length-append}
use lib.Seq.{take_at, drop-append-add}
use Rattle.parties.specs.declared.Measures.{Measures}
use Rattle.parties.specs.protocol.Format.{write_many}
use Rattle.parties.specs.protocol.Measures.{passes}
use Rattle.parties.specs.declared.Refusal.{Refusal}
use Rattle.parties.specs.records.Answer.{number}
use Rattle.parties.specs.protocol.Answer.{refuses, serves, refused, waits}
use Rattle.parties.specs.protocol.Directory.{write_directory, fresh_directory}
use Rattle.parties.specs.protocol.NodeTable.{write_table}
use Rattle.parties.specs.protocol.Client.{client_size, write_client, fresh_client}
use Rattle.parties.specs.protocol.DirectoryEvents.{directory_size, directory_fresh}
use Rattle.parties.specs.protocol.NodeEvents.{table_size, node_fresh}
use Rattle.parties.specs.protocol.ClientEvents.{client_fresh}
use Rattle.parties.proofs.protocol.events.FreshTableLaws.{directory-long, table-long, client-long, directory-fresh, table-fresh, client-fresh}
use Rattle.parties.specs.records.Places.{splice}
use Rattle.parties.proofs.records.SpliceLaws.{splice-next, splice_front, splice_self, splice-back}
use Rattle.parties.proofs.records.SizeLaws.{below_rows}
use Rattle.parties.proofs.directory.RoomLaws.{many-none, many-first, many_replicated, many-last}
use Rattle.title.specs.Memory.{memory_size, fresh_memory, memory_fresh}
use Rattle.title.specs.Part.{Refuses, measures, short}
use Rattle.title.proofs.MemoryLaws.{length-lent}

-- ---- the parts, written where they were lent

module _ (s : Measures) (h : passes s ≡ true) (t : List ℕ) (at to : ℕ) (l : to ≤ length t) where
  pub directory_put : to ≡ at + directory_size s → (new : List ℕ) → new ≡ (directory_fresh s (take (to - at) (drop at t))).table
      → take at t ++ (new ++ drop (to - at) (drop at t)) ≡ splice t at (write_directory s (fresh_directory s))
  directory_put e new y =
      let n : to - at ≡ directory_size s = omega arith in
      let r = y ∙ directory-fresh s h (take (to - at) (drop at t)) (length-lent t at to l ∙ n) in
      splice-back t new at (to - at) (ap length r ∙ directory-long s ∙ sym n) ∙ ap (splice t at) r

  pub table_put : to ≡ at + table_size s → (new : List ℕ) → new ≡ (node_fresh s (take (to - at) (drop at t))).table
      → take at t ++ (new ++ drop (to - at) (drop at t)) ≡ splice t at (write_table s [])
  table_put e new y =
      let n : to - at ≡ table_size s = omega arith in
      let r = y ∙ table-fresh s h (take (to - at) (drop at t)) (length-lent t at to l ∙ n) in
      splice-back t new at (to - at) (ap length r ∙ table-long s ∙ sym n) ∙ ap (splice t at) r

  pub record_put : to ≡ at + client_size s → (new : List ℕ) → new ≡ (client_fresh s (take (to - at) (drop at t))).client
      → take at t ++ (new ++ drop (to - at) (drop at t)) ≡ splice t at (write_client s (fresh_client s))
  record_put e new y =
      let n : to - at ≡ client_size s = omega arith in
      let r = y ∙ client-fresh s h (take (to - at) (drop at t)) (length-lent t at to l ∙ n) in
      splice-back t new at (to - at) (ap length r ∙ client-long s h ∙ sym n) ∙ ap (splice t at) r

-- none of them is refused, since the measures pass and what was lent is long enough: the answer that its writer drops tells nothing
module _ (s : Measures) (h : passes s ≡ true) (t : List ℕ) (r : Refusal) where
  pub directory_written : directory_size s ≤ length t → refuses (number r) ≡ (directory_fresh s t).answer → ⊥
  unfolding directory_fresh
  directory_written l e = let f : refuses (number r) ≡ serves 0 = e ∙ simp (h, le-leb (directory_size s) (length t) l) in cc

  pub table_written : table_size s ≤ length t → refuses (number r) ≡ (node_fresh s t).answer → ⊥
  unfolding node_fresh
  table_written l e = let f : refuses (number r) ≡ serves 0 = e ∙ simp (h, le-leb (table_size s) (length t) l) in cc

  pub record_written : client_size s ≤ length t → refused (number r) ≡ (client_fresh s t).answer → ⊥
  unfolding client_fresh
  record_written l e = let f : refused (number r) ≡ waits = e ∙ simp (h, le-leb (client_size s) (length t) l) in cc

-- ---- so many parts

abbrev pub copies : List ℕ → ℕ → List ℕ
copies x i = write_many (λ t. t) (replicate i x)

copies_more : (x : List ℕ) (i : ℕ) → copies x i ++ x ≡ copies x (i + 1)
copies_more x i = many-last (λ t. t) x i ∙ ap (copies x) (sym (add-one i))

module _ (s : Measures) where
  abbrev pub tables : List ℕ
  tables = copies (write_table s []) s.n

  abbrev pub records : List ℕ
  records = copies (write_client s (fresh_client s)) s.m

  pub tables_long : length tables ≡ s.n * table_size s
  tables_long = many_replicated (λ t. t) (write_table s []) (table_size s) s.n (table-long s)

  pub records_long : passes s ≡ true → length records ≡ s.m * client_size s
  records_long h = many_replicated (λ t. t) (write_client s (fresh_client s)) (client_size s) s.m (client-long s h)

  pub front_long : length (write_directory s (fresh_directory s) ++ tables) ≡ directory_size s + s.n * table_size s
  front_long = length-append (write_directory s (fresh_directory s)) tables ∙ (λ j. directory-long s j + tables_long j)

-- ---- the j-th of n copies, behind a front

first_off : (x rest : List ℕ) (n : ℕ) → copies x (suc n) ++ rest ≡ x ++ (copies x n ++ rest)
first_off x rest n = ap (λ (u : List ℕ). u ++ rest) (many-first (λ t. t) x n) ∙ append_assoc x (copies x n) rest

copy : (x rest : List ℕ) (size : ℕ) → length x ≡ size → (j n : ℕ) → j < n → take size (drop (j * size) (copies x n ++ rest)) ≡ x
copy x rest size e j zero h = absurd (omega arith)
copy x rest size e zero (suc n) h =
    let z : zero * size ≡ 0 = omega arith in
    ap₂ (λ (k : ℕ) (u : List ℕ). take size (drop k u)) z (first_off x rest n) ∙ take_at x (copies x n ++ rest) size e
copy x rest size e (suc j) (suc n) h =
    let k : suc j * size ≡ length x + j * size = omega (arith, suc-mul j size) in
    ap₂ (λ (k : ℕ) (u : List ℕ). take size (drop k u)) k (first_off x rest n)
    ∙ ap (take size) (drop-append-add x (copies x n ++ rest) (j * size))
    ∙ copy x rest size e j n (omega arith)

pub copy_behind : (front x rest : List ℕ) (at size : ℕ) → length front ≡ at → length x ≡ size → (j n : ℕ) → j < n
    → take size (drop (at + j * size) (front ++ (copies x n ++ rest))) ≡ x
copy_behind front x rest at size f e j n h =
    ap (λ (k : ℕ). take size (drop (k + j * size) (front ++ (copies x n ++ rest)))) (sym f)
    ∙ ap (take size) (drop-append-add front (copies x n ++ rest) (j * size))
    ∙ copy x rest size e j n h

-- ---- one part after the other

pub filled_none : (t : List ℕ) (from : ℕ) (x : List ℕ) → t ≡ splice t from (copies x 0)
filled_none t from x = splice_self t from 0 ∙ ap (splice t from) (sym (many-none (λ t. t) x))

-- i of n parts stand from a place on, and the next one is put behind them
module _ (t : List ℕ) (from size n : ℕ) (x : List ℕ) (e : length x ≡ size) (h : from + n * size ≤ length t) (i : ℕ) (up : i < n) (u : List ℕ)
    (f : u ≡ splice t from (copies x i)) where
  fits : from + i * size + size ≤ length t
  fits = omega (arith, below_rows i n size up, h)

  many : length (copies x i) ≡ i * size
  many = many_replicated (λ t. t) x size i e

  pub filled_more : (v : List ℕ) → v ≡ splice u (from + i * size) x → v ≡ splice t from (copies x (i + 1))
  filled_more v q =
      q
      ∙ ap (λ (w : List ℕ). splice w (from + i * size) x) f
      ∙ splice-next t from (copies x i) x (from + i * size) (omega (arith, many)) (omega (arith, e, fits))
      ∙ ap (splice t from) (copies_more x i)

-- ---- the memory

pub fresh-refused : (s : Measures) (t : List ℕ) (n : ℕ) → Refuses s (length t) n → (refuses n ≡ (memory_fresh s t).answer) × (t ≡ (memory_fresh s t).memory)
unfolding memory_fresh
fresh-refused s t _ (measures e) = rw e (refl, refl)
fresh-refused s t _ (short e h) = rw (e, lt-leb (memory_size s) (length t) h) (refl, refl)

pub fresh-served : (s : Measures) (t : List ℕ) → passes s ≡ true → memory_size s ≤ length t
    → memory_fresh s t ≡ record { answer = serves 0; memory = fresh_memory s ++ drop (memory_size s) t }
unfolding memory_fresh
fresh-served s t e h = simp (e, le-leb (memory_size s) (length t) h)

module _ (s : Measures) (t : List ℕ) (ok : passes s ≡ true) (long : memory_size s ≤ length t) where
  abbrev a : List ℕ
  a = write_directory s (fresh_directory s)

  all-long : length ((a ++ tables s) ++ records s) ≡ memory_size s
  all-long = length-append (a ++ tables s) (records s) ∙ (λ j. front_long s j + records_long s ok j)

  fresh-bytes : splice (splice (splice t 0 a) (directory_size s) (tables s)) (directory_size s + s.n * table_size s) (records s) ≡ fresh_memory s ++ drop (memory_size s) t
  unfolding fresh_memory
  fresh-bytes =
      let b = tables s in
      let d = records s in
      ap (λ (u : List ℕ). splice u (directory_size s + s.n * table_size s) d)
      (splice-next t 0 a b (directory_size s) (omega (arith, directory-long s)) (omega (arith, tables_long s, long)))
      ∙ splice-next t 0 (a ++ b) d (directory_size s + s.n * table_size s) (omega (arith, front_long s)) (omega (arith, records_long s ok, long))
      ∙ splice_front t ((a ++ b) ++ d)
      ∙ (λ j. append_assoc a b d j ++ drop (all-long j) t)

  pub fresh-written : (from to : ℕ) → from ≡ directory_size s → to ≡ directory_size s + s.n * table_size s → (u v w : List ℕ) → u ≡ splice t 0 a
      → v ≡ splice u from (tables s) → w ≡ splice v to (records s) → (serves 0 ≡ (memory_fresh s t).answer) × (w ≡ (memory_fresh s t).memory)
  fresh-written from to f g u v w x y q =
      let b = tables s in
      let d = records s in
      let r : w ≡ fresh_memory s ++ drop (memory_size s) t =
      q
      ∙ ap (λ (l : List ℕ). splice l to d) (y ∙ ap (λ (l : List ℕ). splice l from b) x)
      ∙ (λ j. splice (splice (splice t 0 a) (f j) b) (g j) d)
      ∙ fresh-bytes
      in rw (fresh-served s t ok long) (refl, r)
