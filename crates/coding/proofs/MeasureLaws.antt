-- What proper measures say.
use Rattle.std.proofs.Common.{◌≡◌, ℕ, ◌*◌, ◌≤◌, true, leb, mul-le-mul, arith, le-leb, leb-true}
use Rattle.coding.specs.Pieces.{proper}
use Rattle.coding.proofs.Cases.{and-true}

pub record Proper (n k F : ℕ) : Type 0 where
  pub nodes : (1 ≤ n) × (n ≤ 16)
  pub parts : (1 ≤ k) × (k ≤ n)
  pub longest : (1 ≤ F) × (F ≤ 4096)
  pub frame : 4 ≤ k * F

pub proper-measures : (n k F : ℕ) → proper n k F ≡ true → Proper n k F
unfolding proper
proper-measures n k F e =
    let a = and-true (leb 1 n) _ e in
    let b = and-true (leb n 16) _ a.1 in
    let c = and-true (leb 1 k) _ b.1 in
    let d = and-true (leb k n) _ c.1 in
    let f = and-true (leb 1 F) _ d.1 in
    let g = and-true (leb F 4096) _ f.1 in
    record {
      nodes = (leb-true 1 n a.0, leb-true n 16 b.0);
      parts = (leb-true 1 k c.0, leb-true k n d.0);
      longest = (leb-true 1 F f.0, leb-true F 4096 g.0);
      frame = leb-true 4 (k * F) g.1;
    }

pub measures-proper : (n k F : ℕ) → Proper n k F → proper n k F ≡ true
unfolding proper
measures-proper n k F p =
    simp (
      le-leb 1 n p.nodes.0,
      le-leb n 16 p.nodes.1,
      le-leb 1 k p.parts.0,
      le-leb k n p.parts.1,
      le-leb 1 F p.longest.0,
      le-leb F 4096 p.longest.1,
      le-leb 4 (k * F) p.frame,
    )

-- every product of two of them is small
pub measures-small : (n k F : ℕ) → Proper n k F → (n * F ≤ 65536) × (k * F ≤ 65536)
measures-small n k F p =
    let a : n ≤ 16 = p.nodes.1 in
    let b : k ≤ 16 = omega (arith, p.parts.1) in (mul-le-mul a p.longest.1, mul-le-mul b p.longest.1)
