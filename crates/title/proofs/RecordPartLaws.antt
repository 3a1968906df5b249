-- A client's record in the memory: what an event at the client leaves.
use mathlib.Core.Path.{◌≡◌, sym, ap, ◌∙◌}
use mathlib.Core.List.{List, ◌++◌}
use Prim.Native.Nat.{ℕ, ◌-◌}
use native.Mathlib.Omega.{arith}
use lib.ListN.{length, take, drop}
use Rattle.parties.specs.declared.Measures.{Measures}
use Rattle.parties.specs.protocol.Client.{client_size}
use Rattle.parties.specs.protocol.Answer.{ClientAnswer, refused}
use Rattle.parties.specs.protocol.ClientEvents.{ClientEnd, unchanged}
use Rattle.parties.proofs.protocol.events.LacksLaws.{Lacks}
use Rattle.title.specs.Memory.{record_at, record_in, PutBack}
use Rattle.title.specs.Part.{Refuses, Stands}
use Rattle.title.proofs.MemoryLaws.{part-lacks, put_kept, part-lent, put_back}

-- ---- an event that is refused by the memory alone

module _ (s : Measures) (memory : List ℕ) (c : ℕ) where
  pub record_lacks : (n : ℕ) → Refuses s (length memory) n → Lacks s (client_size s) (record_in s c memory) n
  record_lacks = part-lacks s (record_at s c) (client_size s) memory (λ h. omega arith)

  -- its answer, and nothing changes
  pub refused-ends : (n : ℕ) (e : ClientEnd) (room out : List ℕ) → e ≡ unchanged (refused n) (record_in s c memory) room out
      → (refused n ≡ e.answer) × PutBack memory (record_at s c) (record_in s c memory) e.client memory × (room ≡ e.room) × (out ≡ e.out)
  refused-ends n e room out q = (
    ap (λ (x : ClientEnd). x.answer) (sym q),
    put_kept s (record_at s c) (client_size s) memory e.client (ap (λ (x : ClientEnd). x.client) q),
    ap (λ (x : ClientEnd). x.room) (sym q),
    ap (λ (x : ClientEnd). x.out) (sym q),
  )

-- ---- an event that the client is handed: what it says of the part lent, said of the record in the memory

module _ (s : Measures) (memory : List ℕ) (a b c : ℕ) (z : Stands s (length memory) (record_at s c) (client_size s) a b) (f : List ℕ → ClientEnd) where
  same : f (take (b - a) (drop a memory)) ≡ f (record_in s c memory)
  same = ap f (part-lent s (record_at s c) (client_size s) memory a b z)

  module _ (x : ClientAnswer) (lent : List ℕ) (l : length lent ≡ length (take (b - a) (drop a memory))) where
    pub told-two : (let e = f (take (b - a) (drop a memory)) in (x ≡ e.answer) × (lent ≡ e.client))
        → (x ≡ (f (record_in s c memory)).answer)
        × PutBack memory (record_at s c) (record_in s c memory) (f (record_in s c memory)).client (take a memory ++ (lent ++ drop (b - a) (drop a memory)))
    told-two h = (
      h.0 ∙ ap (λ (e : ClientEnd). e.answer) same,
      put_back s (record_at s c) (client_size s) memory a b z lent (f (record_in s c memory)).client l (h.1 ∙ ap (λ (e : ClientEnd). e.client) same),
    )

    pub told_three : (room : List ℕ) → (let e = f (take (b - a) (drop a memory)) in (x ≡ e.answer) × (lent ≡ e.client) × (room ≡ e.room))
        → (x ≡ (f (record_in s c memory)).answer)
        × PutBack memory (record_at s c) (record_in s c memory) (f (record_in s c memory)).client (take a memory ++ (lent ++ drop (b - a) (drop a memory)))
        × (room ≡ (f (record_in s c memory)).room)
    told_three room h =
        let y = told-two (h.0, h.1) in (y.0, y.1, h.2 ∙ ap (λ (e : ClientEnd). e.room) same)

    pub told-four : (room out : List ℕ)
        → (let e = f (take (b - a) (drop a memory)) in (x ≡ e.answer) × (lent ≡ e.client) × (room ≡ e.room) × (out ≡ e.out))
        → (x ≡ (f (record_in s c memory)).answer)
        × PutBack memory (record_at s c) (record_in s c memory) (f (record_in s c memory)).client (take a memory ++ (lent ++ drop (b - a) (drop a memory)))
        × (room ≡ (f (record_in s c memory)).room)
        × (out ≡ (f (record_in s c memory)).out)
    told-four room out h =
        let y = told_three room (h.0, h.1, h.2) in (y.0, y.1, y.2, h.3 ∙ ap (λ (e : ClientEnd). e.out) same)
