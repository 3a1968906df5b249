-- A fresh table: one law for each way out.
use mathlib.Core.Path.{◌≡◌, refl, sym, ap, ◌∙◌}
use mathlib.Core.Bool.{true, false}
use mathlib.Core.List.{List, [], ◌∷◌, ◌++◌}
use Prim.Native.Nat.{ℕ, suc, ◌-◌, ◌*◌, ◌<◌, ◌≤◌}
use native.Mathlib.Omega.{arith}
use borrow.Author.Tests.{le-leb, lt-leb}
use lib.ListN.{length, drop, replicate, length-replicate}
use lib.Seq.{paste}
use Rattle.parties.specs.declared.Measures.{Measures}
use Rattle.parties.specs.protocol.Format.{write_number, write_many}
use Rattle.parties.specs.protocol.Measures.{passes, places, place_size}
use Rattle.parties.specs.protocol.Answer.{refuses, serves}
use Rattle.parties.specs.protocol.NodeTable.{write_places, write_table}
use Rattle.parties.specs.protocol.NodeEvents.{node_fresh, table_size}
use Rattle.parties.proofs.records.SpliceLaws.{paste_all, splice_front}

module _ (s : Measures) (t : List ℕ) where
  pub fresh-measures : passes s ≡ false → (refuses 1 ≡ (node_fresh s t).answer) × (t ≡ (node_fresh s t).table)
  unfolding node_fresh
  fresh-measures e = rw e (refl, refl)

  pub fresh-short : passes s ≡ true → length t < table_size s → (refuses 2 ≡ (node_fresh s t).answer) × (t ≡ (node_fresh s t).table)
  unfolding node_fresh
  fresh-short e h = rw (e, lt-leb (table_size s) (length t) h) (refl, refl)

  -- an empty table is all zero
  zeros : write_table s [] ≡ replicate (table_size s) 0
  unfolding write_table write_places write_many write_number
  zeros =
      let k : places s - 0 ≡ places s = omega arith in
      let e : suc (suc (places s * place_size s)) ≡ table_size s = omega arith in
      ap (λ (n : ℕ). 0 ∷ 0 ∷ replicate (n * place_size s) 0) k ∙ ap (λ (n : ℕ). replicate {A = ℕ} n 0) e

  pub fresh-cleared : passes s ≡ true → table_size s ≤ length t → (u : List ℕ) → u ≡ paste t 0 (replicate (table_size s - 0) 0) (table_size s - 0)
      → (serves 0 ≡ (node_fresh s t).answer) × (u ≡ (node_fresh s t).table)
  unfolding node_fresh
  fresh-cleared e h u q =
      let k : table_size s - 0 ≡ table_size s = omega arith in
      let r : u ≡ write_table s [] ++ drop (table_size s) t =
      q
      ∙ ap (λ (n : ℕ). paste t 0 (replicate n 0) n) k
      ∙ paste_all t 0 (replicate (table_size s) 0) (table_size s) (sym (length-replicate {A = ℕ} (table_size s) 0))
      ∙ splice_front t (replicate (table_size s) 0)
      ∙ ap (λ (n : ℕ). replicate (table_size s) 0 ++ drop n t) (length-replicate {A = ℕ} (table_size s) 0)
      ∙ ap (λ (x : List ℕ). x ++ drop (table_size s) t) (sym zeros)
      in rw (e, le-leb (table_size s) (length t) h) (refl, r)
