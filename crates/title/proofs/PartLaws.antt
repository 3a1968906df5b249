-- The parts of the service's memory: where each stands, and what it shows after a part was written back.
use mathlib.Core.Path.{◌≡◌, refl, sym, ap, ◌∙◌}
use mathlib.Core.Bool.{Bool, true, false, cond, ◌&&◌, false≢true}
use mathlib.Core.List.{List}
use Prim.Native.Nat.{ℕ, ◌+◌, ◌-◌, ◌*◌, ◌≤◌, ◌<◌}
use native.Mathlib.Omega.{arith}
use lib.Dec.{leb, ltb}
use lib.ListN.{length, take, drop, length-drop}
use lib.Seq.{length-take-le}
use Rattle.parties.specs.declared.Measures.{Measures}
use Rattle.parties.specs.protocol.Measures.{passes}
use Rattle.parties.specs.protocol.Client.{client_size}
use Rattle.parties.specs.protocol.DirectoryEvents.{directory_size}
use Rattle.parties.specs.protocol.NodeEvents.{table_size}
use Rattle.parties.specs.records.Places.{splice}
use Rattle.parties.proofs.records.SizeLaws.{below_rows}
use Rattle.parties.proofs.records.SpliceLaws.{length-splice, splice_self, spliced_own, spliced_before, spliced_after}
use Rattle.title.specs.Memory.{memory_size, table_at, record_at, part_of, PutBack}
use Rattle.title.proofs.MemoryLaws.{table_own, record_own, table-ends, part_is}

-- ---- over plain numbers

apart : (d i j t : ℕ) → i < j → d + i * t + t ≤ d + j * t
apart d i j t h = omega (arith, below_rows i j t h)

pub both_true : (a b : Bool) → (a && b) ≡ true → (a ≡ true) × (b ≡ true)
both_true true b h = (refl, h)
both_true false b h = absurd (false≢true h)

through : (a b c : ℕ) → a ≤ b → b ≤ c → a ≤ c
through a b c h k = omega arith

from_zero : (a b : ℕ) → a ≤ b → 0 + a ≤ b
from_zero a b h = omega arith

on_from : (d x : ℕ) → d ≤ d + x
on_from d x = omega arith

-- ---- the places

module _ (s : Measures) where
  -- the directory, then the node tables, then the client records; a number out of bounds has a place among them too
  pub directory-table : (i : ℕ) → 0 + directory_size s ≤ table_at s i
  unfolding table_at
  directory-table i =
      from_zero (directory_size s) (table_at s i) (on_from (directory_size s) (cond (leb 1 i && leb i s.n) ((i - 1) * table_size s) 0))

  record_begins : (c : ℕ) → directory_size s + s.n * table_size s ≤ record_at s c
  unfolding record_at
  record_begins c = on_from (directory_size s + s.n * table_size s) (cond (ltb c s.m) (c * client_size s) 0)

  pub directory_record : (c : ℕ) → 0 + directory_size s ≤ record_at s c
  directory_record c =
      from_zero (directory_size s) (record_at s c)
      (through (directory_size s) (directory_size s + s.n * table_size s) (record_at s c) (on_from (directory_size s) (s.n * table_size s)) (record_begins c))

  pub table_record : passes s ≡ true → (i c : ℕ) → table_at s i + table_size s ≤ record_at s c
  table_record ok i c = through (table_at s i + table_size s) (directory_size s + s.n * table_size s) (record_at s c) (table-ends s ok i) (record_begins c)

  pub directory-fits : 0 + directory_size s ≤ memory_size s
  directory-fits =
      from_zero (directory_size s) (memory_size s)
      (through (directory_size s) (directory_size s + s.n * table_size s) (memory_size s) (on_from (directory_size s) (s.n * table_size s))
      (on_from (directory_size s + s.n * table_size s) (s.m * client_size s)))

  pub tables_apart : (i j : ℕ) → 1 ≤ i → i < j → j ≤ s.n → table_at s i + table_size s ≤ table_at s j
  tables_apart i j lo l up =
      rw (table_own s i lo (omega arith)) (rw (table_own s j (omega arith) up) (apart (directory_size s) (i - 1) (j - 1) (table_size s) (omega arith)))

  pub records_apart : (c d : ℕ) → c < d → d < s.m → record_at s c + client_size s ≤ record_at s d
  records_apart c d l up =
      rw (record_own s c (omega arith)) (rw (record_own s d up) (apart (directory_size s + s.n * table_size s) c d (client_size s) l))

-- ---- a part written back

module _ (s : Measures) (memory : List ℕ) (long : memory_size s ≤ length memory) where
  part-long : (at size : ℕ) → at + size ≤ memory_size s → length (part_of s at size memory) ≡ size
  part-long at size h = ap length (part_is s at size memory long) ∙ cut at size (memory_size s) h long
    where
      cut : (at size n : ℕ) → at + size ≤ n → n ≤ length memory → length (take size (drop at memory)) ≡ size
      cut at size n h k = length-take-le size (drop at memory) (rw length-drop (omega arith))

-- over any number of bytes of memory
fit : (a b c d e n : ℕ) → a ≡ b → b ≡ c → d + c ≤ e → e ≤ n → d + a ≤ n
fit a b c d e n p q h k = omega arith

module _ (s : Measures) (memory : List ℕ) (long : memory_size s ≤ length memory) (at size : ℕ) (fits : at + size ≤ memory_size s) (new after : List ℕ)
    (p : PutBack memory at (part_of s at size memory) new after) where
  sized : length new ≡ size
  sized = p.long ∙ part-long s memory long at size fits

  inside : at + length new ≤ length memory
  inside = fit (length new) _ size at (memory_size s) (length memory) p.long (part-long s memory long at size fits) fits long

  pub put_long : memory_size s ≤ length after
  put_long = rw (ap length p.bytes ∙ length-splice memory at new inside) long

  pub put_own : part_of s at size after ≡ new
  put_own =
      part_is s at size after put_long
      ∙ ap (λ (u : List ℕ). take size (drop at u)) p.bytes
      ∙ ap (λ (n : ℕ). take n (drop at (splice memory at new))) (sym sized)
      ∙ spliced_own memory at new inside

  pub put_before : (to n : ℕ) → to + n ≤ at → part_of s to n after ≡ part_of s to n memory
  put_before to n h =
      part_is s to n after put_long
      ∙ ap (λ (u : List ℕ). take n (drop to u)) p.bytes
      ∙ spliced_before memory at new inside to n h
      ∙ sym (part_is s to n memory long)

  pub put_after : (to n : ℕ) → at + size ≤ to → part_of s to n after ≡ part_of s to n memory
  put_after to n h =
      part_is s to n after put_long
      ∙ ap (λ (u : List ℕ). take n (drop to u)) p.bytes
      ∙ spliced_after memory at new inside to n (rw sized h)
      ∙ sym (part_is s to n memory long)

  -- a part that is as it was
  pub put_same : new ≡ part_of s at size memory → after ≡ memory
  put_same e =
      p.bytes
      ∙ ap (splice memory at) (e ∙ part_is s at size memory long)
      ∙ sym (splice_self memory at size)
