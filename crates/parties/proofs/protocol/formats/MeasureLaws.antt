-- What measures that pass tell.
use mathlib.Core.Path.{◌≡◌}
use mathlib.Core.Bool.{true}
use Prim.Native.Nat.{◌+◌, ◌*◌, ◌≤◌}
use borrow.Author.Tests.{leb-true}
use lib.Dec.{leb}
use Rattle.coding.proofs.Cases.{and-true}
use Rattle.parties.specs.declared.Measures.{Measures}
use Rattle.parties.specs.protocol.Measures.{passes}

pub record Passed (s : Measures) : Type 0 where
  pub clients : (1 ≤ s.m) × (s.m ≤ 8)
  pub nodes : (1 ≤ s.n) × (s.n ≤ 16)
  pub parts : 1 ≤ s.k
  pub enough : 2 * s.t + s.k ≤ s.n
  pub bytes : (1 ≤ s.f) × (s.f ≤ 4096)
  pub frame : 4 ≤ s.k * s.f

pub passed : (s : Measures) → passes s ≡ true → Passed s
unfolding passes
passed s e =
    let a = and-true (leb 1 s.m) _ e in
    let b = and-true (leb s.m 8) _ a.1 in
    let c = and-true (leb 1 s.n) _ b.1 in
    let d = and-true (leb s.n 16) _ c.1 in
    let g = and-true (leb 1 s.k) _ d.1 in
    let h = and-true (leb (2 * s.t + s.k) s.n) _ g.1 in
    let i = and-true (leb 1 s.f) _ h.1 in
    let j = and-true (leb s.f 4096) _ i.1 in
    record {
      clients = (leb-true 1 s.m a.0, leb-true s.m 8 b.0);
      nodes = (leb-true 1 s.n c.0, leb-true s.n 16 d.0);
      parts = leb-true 1 s.k g.0;
      enough = leb-true (2 * s.t + s.k) s.n h.0;
      bytes = (leb-true 1 s.f i.0, leb-true s.f 4096 j.0);
      frame = leb-true 4 (s.k * s.f) j.1;
    }
