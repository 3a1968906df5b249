-- The memory's parts: their sizes and places, and what a part that was lent leaves when it is back.
use mathlib.Core.Path.{◌≡◌, sym, ap, ap₂, subst⁻¹, ◌∙◌}
use mathlib.Core.Bool.{true}
use mathlib.Core.List.{List, [], ◌++◌}
use Prim.Native.Nat.{ℕ, ◌+◌, ◌-◌, ◌*◌, ◌<◌, ◌≤◌}
use native.Mathlib.Nat.{mul-le-mul}
use native.Mathlib.Decide.{dec_le, dec_lt}
use native.Mathlib.Omega.{arith}
use borrow.Author.Tests.{le-leb, lt-leb, lt-ltb, le-ltb}
use lib.ListN.{length, take, drop, length-drop}
use lib.Seq.{length-take-le}
use Rattle.std.specs.Prelude.{Result, Err, IsErrAnd}
use Rattle.std.proofs.lemmas.Result.{err_from_is_err_and}
use Rattle.parties.specs.declared.Measures.{Measures}
use Rattle.parties.specs.declared.Refusal.{Refusal}
use Rattle.parties.specs.protocol.Measures.{passes}
use Rattle.parties.specs.protocol.Client.{client_size}
use Rattle.parties.specs.protocol.DirectoryEvents.{directory_size}
use Rattle.parties.specs.protocol.NodeEvents.{table_size}
use Rattle.parties.proofs.protocol.formats.MeasureLaws.{passed}
use Rattle.parties.proofs.protocol.events.LacksLaws as lacks
use Rattle.parties.proofs.protocol.events.LacksLaws.{Lacks}
use Rattle.parties.specs.records.Places.{splice}
use Rattle.parties.proofs.records.SizeLaws.{table_bound, below_rows}
use Rattle.parties.proofs.records.SpliceLaws.{splice_self, splice-back}
use Rattle.parties.proofs.client.FormLaws.{sizes as clientSizes}
use Rattle.parties.proofs.node.SizeLaws.{sizes as tableSizes}
use Rattle.title.specs.Memory.{memory_size, table_at, record_at, part_of, PutBack}
use Rattle.title.specs.Part.{Refuses, measures, short, Stands}

-- ---- sizes

pub memory_bound : (s : Measures) → passes s ≡ true → memory_size s ≤ 9011448
memory_bound s h =
    let c = clientSizes s h in
    let table : table_size s ≤ 525186 = omega (arith, (tableSizes s h).table) in
    let client : client_size s ≤ 71351 = omega (arith, c.clients, c.nodes, c.pointer, c.pointers, c.pieces) in
    let tables : s.n * table_size s ≤ 8402976 = mul-le-mul c.nodes table in
    let records : s.m * client_size s ≤ 570808 = mul-le-mul c.clients client in
    omega (arith, table_bound s h)

-- ---- places

module _ (s : Measures) where
  pub table_own : (i : ℕ) → 1 ≤ i → i ≤ s.n → table_at s i ≡ directory_size s + (i - 1) * table_size s
  unfolding table_at
  table_own i a b = simp (le-leb 1 i a, le-leb i s.n b)

  pub table_none : (i : ℕ) → i < 1 → table_at s i ≡ directory_size s
  unfolding table_at
  table_none i a = simp (lt-leb 1 i a) (omega arith)

  pub table_above : (i : ℕ) → 1 ≤ i → s.n < i → table_at s i ≡ directory_size s
  unfolding table_at
  table_above i a b = simp (le-leb 1 i a, lt-leb i s.n b) (omega arith)

  pub record_own : (c : ℕ) → c < s.m → record_at s c ≡ directory_size s + s.n * table_size s + c * client_size s
  unfolding record_at
  record_own c a = simp (lt-ltb c s.m a)

  pub record_none : (c : ℕ) → s.m ≤ c → record_at s c ≡ directory_size s + s.n * table_size s
  unfolding record_at
  record_none c a = simp (le-ltb c s.m a) (omega arith)

module _ (s : Measures) (h : passes s ≡ true) where
  pub table-ends : (i : ℕ) → table_at s i + table_size s ≤ directory_size s + s.n * table_size s
  table-ends i = go (dec_le 1 i) (dec_le i s.n)
    where
      first : 0 * table_size s + table_size s ≤ s.n * table_size s
      first = below_rows 0 s.n (table_size s) (passed s h).nodes.0

      go : Dec (1 ≤ i) → Dec (i ≤ s.n) → table_at s i + table_size s ≤ directory_size s + s.n * table_size s
      go (yes a) (yes b) = omega (arith, table_own s i a b, below_rows (i - 1) s.n (table_size s) (omega arith))
      go (yes a) (no b) = omega (arith, table_above s i a (omega arith), first)
      go (no a) b = omega (arith, table_none s i (omega arith), first)

  pub table-within : (i : ℕ) → table_at s i + table_size s ≤ memory_size s
  table-within i = omega (arith, table-ends i)

  pub record_within : (c : ℕ) → record_at s c + client_size s ≤ memory_size s
  record_within c = go (dec_lt c s.m)
    where
      go : Dec (c < s.m) → record_at s c + client_size s ≤ memory_size s
      go (yes a) = omega (arith, record_own s c a, below_rows c s.m (client_size s) a)
      go (no a) = omega (arith, record_none s c (omega arith), below_rows 0 s.m (client_size s) (passed s h).clients.0)

-- ---- bytes that are lent

pub length-lent : (t : List ℕ) (at to : ℕ) → to ≤ length t → length (take (to - at) (drop at t)) ≡ to - at
length-lent t at to h = length-take-le (to - at) (drop at t) (rw length-drop (omega arith))

-- ---- parts

module _ (s : Measures) (at size : ℕ) (memory : List ℕ) where
  pub part_is : memory_size s ≤ length memory → part_of s at size memory ≡ take size (drop at memory)
  unfolding part_of
  part_is h = simp (le-leb (memory_size s) (length memory) h)

  part-short : length memory < memory_size s → part_of s at size memory ≡ []
  unfolding part_of
  part-short h = simp (lt-leb (memory_size s) (length memory) h)

  -- a party refuses the part of a memory that is refused, with the same number
  pub part-lacks : (passes s ≡ true → 0 < size) → (n : ℕ) → Refuses s (length memory) n → Lacks s size (part_of s at size memory) n
  part-lacks z _ (measures h) = lacks.measures h
  part-lacks z _ (short h l) = lacks.short h (subst⁻¹ (λ (t : List ℕ). length t < size) (part-short l) (z h))

  part-kept : splice memory at (part_of s at size memory) ≡ memory
  part-kept = go (dec_le (memory_size s) (length memory))
    where
      go : Dec (memory_size s ≤ length memory) → splice memory at (part_of s at size memory) ≡ memory
      go (yes h) = ap (splice memory at) (part_is h) ∙ sym (splice_self memory at size)
      go (no h) = ap (splice memory at) (part-short (omega arith)) ∙ sym (splice_self memory at 0)

  -- an event that is refused leaves the memory as it was
  pub put_kept : (new : List ℕ) → new ≡ part_of s at size memory → PutBack memory at (part_of s at size memory) new memory
  put_kept new e = record { long = ap length e; bytes = sym (ap (splice memory at) e ∙ part-kept) }

-- ---- where the code finds a part

-- the refusal that a `?` hands on
pub handed : {A : Type 0} (n : Refusal) (r : Result A Refusal) → IsErrAnd r (λ x. x ≡ n) → r ≡ Err n
handed n r e = let p = err_from_is_err_and r e in p.1 ∙ ap Err p.2

module _ (s : Measures) (len at size : ℕ) where
  pub stands : passes s ≡ true → memory_size s ≤ len → at + size ≤ memory_size s → (a b : ℕ) → a ≡ at → b ≡ at + size → Stands s len at size a b
  stands h l w a b e f = record { measures = h; long = l; first = e; last = f; within = omega arith }

module _ (s : Measures) (at size : ℕ) (memory : List ℕ) (a b : ℕ) (z : Stands s (length memory) at size a b) where
  -- the bytes that are lent are the part
  pub part-lent : take (b - a) (drop a memory) ≡ part_of s at size memory
  part-lent =
      let n : b - a ≡ size = omega (arith, z.first, z.last) in
      (λ j. take (n j) (drop (z.first j) memory)) ∙ sym (part_is s at size memory z.long)

  pub put_back : (lent new : List ℕ) → length lent ≡ length (take (b - a) (drop a memory)) → lent ≡ new
      → PutBack memory at (part_of s at size memory) new (take a memory ++ (lent ++ drop (b - a) (drop a memory)))
  put_back lent new l e =
      record {
        long = ap length (sym e) ∙ l ∙ ap length part-lent;
        bytes = splice-back memory lent a (b - a) (l ∙ length-lent memory a b z.within) ∙ ap₂ (splice memory) z.first e;
      }
