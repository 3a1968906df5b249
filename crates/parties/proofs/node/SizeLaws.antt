-- The sizes of a node's table and answer, for measures that pass.
use mathlib.Core.Path.{◌≡◌}
use mathlib.Core.Bool.{true}
use Prim.Native.Nat.{◌*◌, ◌≤◌}
use native.Mathlib.Nat.{mul-le-mul}
use native.Mathlib.Omega.{arith}
use Rattle.parties.specs.declared.Measures.{Measures}
use Rattle.parties.specs.protocol.Measures.{passes, places, place_size}
use Rattle.parties.proofs.protocol.formats.MeasureLaws.{passed}

-- at most 128 places of 4103 bytes
pub record Sizes (s : Measures) : Type 0 where
  pub squares : s.m * s.m ≤ 64
  pub place : place_size s ≤ 4103
  pub table : places s * place_size s ≤ 128 * 4103

pub sizes : (s : Measures) → passes s ≡ true → Sizes s
sizes s p =
    let m = (passed s p).clients.1 in
    let f = (passed s p).bytes.1 in
    let q : s.m * s.m ≤ 64 = mul-le-mul m m in
    let a : places s ≤ 128 = omega arith in
    let b : place_size s ≤ 4103 = omega arith in record { squares = q; place = b; table = mul-le-mul a b }
