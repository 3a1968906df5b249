-- Bounds of the directory's sizes, where the measures pass.
use mathlib.Core.Path.{◌≡◌}
use mathlib.Core.Bool.{true}
use Prim.Native.Nat.{ℕ, ◌+◌, ◌*◌, ◌<◌, ◌≤◌}
use native.Mathlib.Nat.{mul-le-mul, mul-le-mul_right}
use native.Mathlib.Omega.{arith}
use Rattle.coding.proofs.BytesLaws.{stride}
use Rattle.parties.specs.declared.Measures.{Measures}
use Rattle.parties.specs.protocol.Measures.{passes, pointer_size, row_size}
use Rattle.parties.specs.directory.Room.{longest_row}
use Rattle.parties.proofs.protocol.formats.MeasureLaws.{passed}

module _ (s : Measures) (h : passes s ≡ true) where
  pub pointer_bound : pointer_size s ≤ 519
  pointer_bound = let p = passed s h in omega (arith, p.nodes, p.enough)

  pub pointers_bound : (s.m + 1) * pointer_size s ≤ 4671
  pointers_bound =
      let p = passed s h in
      let m : s.m + 1 ≤ 9 = omega (arith, p.clients) in omega (arith, mul-le-mul m pointer_bound)

  pub row_bound : row_size s ≤ longest_row
  row_bound = let p = passed s h in omega (arith, p.clients, pointers_bound)

  pub table_bound : s.m * row_size s ≤ 37664
  table_bound =
      let p = passed s h in
      let m : s.m ≤ 8 = p.clients.1 in omega (arith, mul-le-mul m row_bound)

-- row i of n lies within them
pub below_rows : (i n size : ℕ) → i < n → i * size + size ≤ n * size
below_rows i n size h = let b : i + 1 ≤ n = omega arith in omega (arith, stride i size, mul-le-mul_right size b)
