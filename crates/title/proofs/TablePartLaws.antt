-- The directory's and a node's table in the memory: what an event at the party leaves.
use mathlib.Core.Path.{◌≡◌, sym, ap, ◌∙◌}
use mathlib.Core.List.{List, ◌++◌}
use Prim.Native.Nat.{ℕ, ◌-◌, ◌≤◌}
use native.Mathlib.Nat.{mul-le-mul}
use native.Mathlib.Omega.{arith}
use lib.ListN.{length, take, drop}
use Rattle.parties.specs.declared.Measures.{Measures}
use Rattle.parties.specs.protocol.Measures.{row_size}
use Rattle.parties.specs.protocol.Answer.{Served, refuses}
use Rattle.parties.specs.protocol.DirectoryEvents.{DirectoryEnd, directory_size, directory_update, directory_scan}
use Rattle.parties.specs.protocol.NodeEvents.{NodeEnd, table_size, node_message}
use Rattle.parties.proofs.protocol.formats.MeasureLaws.{passed}
use Rattle.parties.proofs.protocol.events.LacksLaws.{Lacks, update-lacks, scan-lacks, node-lacks}
use Rattle.title.specs.Memory.{directory_in, table_at, table_in, PutBack}
use Rattle.title.specs.Part.{Refuses, Stands}
use Rattle.title.proofs.MemoryLaws.{part-lacks, put_kept, part-lent, put_back}

-- ---- an event that is refused by the memory alone

module _ (s : Measures) (memory : List ℕ) (n : ℕ) (r : Refuses s (length memory) n) where
  directory-lacks : Lacks s (directory_size s) (directory_in s memory) n
  directory-lacks = part-lacks s 0 (directory_size s) memory (λ h. let l : 1 ≤ row_size s = omega arith in mul-le-mul (passed s h).clients.0 l) n r

  pub update-refused : (c : ℕ) (fields : List ℕ) → let e = directory_update s c (directory_in s memory) fields in
      (refuses n ≡ e.answer) × PutBack memory 0 (directory_in s memory) e.table memory
  update-refused c fields =
      let q = update-lacks s (directory_in s memory) n directory-lacks c fields in (
        ap (λ (e : DirectoryEnd). e.answer) (sym q),
        put_kept s 0 (directory_size s) memory (directory_update s c (directory_in s memory) fields).table (ap (λ (e : DirectoryEnd). e.table) q),
      )

  pub scan-refused : (room : List ℕ) → let e = directory_scan s (directory_in s memory) room in (refuses n ≡ e.answer) × (room ≡ e.room)
  scan-refused room =
      let q = sym (scan-lacks s (directory_in s memory) n directory-lacks room) in (
        ap (λ (e : DirectoryEnd). e.answer) q,
        ap (λ (e : DirectoryEnd). e.room) q,
      )

  pub node-refused : (i : ℕ) (message room : List ℕ) → let e = node_message s i (table_in s i memory) message room in
      (refuses n ≡ e.answer) × PutBack memory (table_at s i) (table_in s i memory) e.table memory × (room ≡ e.room)
  node-refused i message room =
      let q =
      node-lacks s (table_in s i memory) n (part-lacks s (table_at s i) (table_size s) memory (λ h. omega arith) n r) i message room
      in (
        ap (λ (e : NodeEnd). e.answer) (sym q),
        put_kept s (table_at s i) (table_size s) memory (node_message s i (table_in s i memory) message room).table (ap (λ (e : NodeEnd). e.table) q),
        ap (λ (e : NodeEnd). e.room) (sym q),
      )

-- ---- an event that the party is handed: what it says of the part lent, said of the part in the memory

module _ (s : Measures) (memory : List ℕ) (a b : ℕ) where
  module _ (z : Stands s (length memory) 0 (directory_size s) a b) (f : List ℕ → DirectoryEnd) where
    directory-same : f (take (b - a) (drop a memory)) ≡ f (directory_in s memory)
    directory-same = ap f (part-lent s 0 (directory_size s) memory a b z)

    pub directory-updated : (x : Served) (lent : List ℕ) → length lent ≡ length (take (b - a) (drop a memory))
        → (let e = f (take (b - a) (drop a memory)) in (x ≡ e.answer) × (lent ≡ e.table))
        → (x ≡ (f (directory_in s memory)).answer)
        × PutBack memory 0 (directory_in s memory) (f (directory_in s memory)).table (take a memory ++ (lent ++ drop (b - a) (drop a memory)))
    directory-updated x lent l h = (
      h.0 ∙ ap (λ (e : DirectoryEnd). e.answer) directory-same,
      put_back s 0 (directory_size s) memory a b z lent (f (directory_in s memory)).table l (h.1 ∙ ap (λ (e : DirectoryEnd). e.table) directory-same),
    )

    pub directory-scanned : (x : Served) (room : List ℕ)
        → (let e = f (take (b - a) (drop a memory)) in (x ≡ e.answer) × (room ≡ e.room))
        → (x ≡ (f (directory_in s memory)).answer) × (room ≡ (f (directory_in s memory)).room)
    directory-scanned x room h = (
      h.0 ∙ ap (λ (e : DirectoryEnd). e.answer) directory-same,
      h.1 ∙ ap (λ (e : DirectoryEnd). e.room) directory-same,
    )

  pub node-told : (i : ℕ) → Stands s (length memory) (table_at s i) (table_size s) a b → (f : List ℕ → NodeEnd) (x : Served) (lent room : List ℕ)
      → length lent ≡ length (take (b - a) (drop a memory))
      → (let e = f (take (b - a) (drop a memory)) in (x ≡ e.answer) × (lent ≡ e.table) × (room ≡ e.room))
      → (x ≡ (f (table_in s i memory)).answer)
      × PutBack memory (table_at s i) (table_in s i memory) (f (table_in s i memory)).table (take a memory ++ (lent ++ drop (b - a) (drop a memory)))
      × (room ≡ (f (table_in s i memory)).room)
  node-told i z f x lent room l h =
      let same : f (take (b - a) (drop a memory)) ≡ f (table_in s i memory) = ap f (part-lent s (table_at s i) (table_size s) memory a b z) in (
        h.0 ∙ ap (λ (e : NodeEnd). e.answer) same,
        put_back s (table_at s i) (table_size s) memory a b z lent (f (table_in s i memory)).table l (h.1 ∙ ap (λ (e : NodeEnd). e.table) same),
        h.2 ∙ ap (λ (e : NodeEnd). e.room) same,
      )
