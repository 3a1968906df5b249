-- Laws of bit maps in code.
use mathlib.Core.Path.{◌≡◌, refl, sym, ap, ◌∙◌}
use mathlib.Core.Bool.{Bool, cond, ◌&&◌}
use Prim.Native.Nat.{ℕ, zero, suc, ◌+◌, ◌-◌, ◌*◌, ◌/◌, ◌%◌, ◌^◌, ◌<◌, ◌≤◌}
use native.Mathlib.Nat.{pow-suc, mod-one, mod-lt, mod-eq_of_lt, add_comm}
use Rattle.std.proofs.lemmas.Nat.{mod-pow-add}
use native.Mathlib.Numerals.{one-add}
use native.Mathlib.Decide.{ℕ_discrete}
use native.Mathlib.Omega.{arith}
use borrow.Author.Tests.{eq-eqb, ne_eqb, le-leb}
use lib.Bits.{bit_and, bit_or, or_add_and, and_high, and_mask}
use lib.Pow.{pow_mono, pow_pos}
use lib.Count.{ones, ones_cat}
use lib.Dec.{leb, eqb, lit<}
use lib.ListN.{length}
use Rattle.coding.specs.Nodes.{nodes_of}
use Rattle.coding.proofs.NodesLaws.{nodes-counted}
use Rattle.parties.specs.protocol.Nodes.{stands, with_node}

-- a bit of a map of 16
pub one_shifted : (j : ℕ) → j < 16 → 1 * 2 ^ j % 65536 ≡ 2 ^ j
one_shifted j h = let b : j ≤ 15 = omega arith in omega (arith, pow_mono b)

one_bit : (b : ℕ) → b < 2 → ones b ≡ b
unfolding ones
one_bit zero h = refl
one_bit (suc zero) h = refl
one_bit (suc (suc b)) h = absurd (omega arith)

-- the nodes up to i are the bits below bit i
pub ones-below : (map i : ℕ) → ones (map % 2 ^ i) ≡ length (nodes_of map i)
unfolding ones nodes_of
ones-below map zero = ap ones (mod-one map)
ones-below map (suc i) =
    ap (λ (x : ℕ). ones (map % 2 ^ x)) (sym (one-add i))
    ∙ ap ones (mod-pow-add map 1 i)
    ∙ ones_cat i (map / 2 ^ i % 2) (map % 2 ^ i) (mod-lt map (pow_pos i))
    ∙ (λ j. one_bit (map / 2 ^ i % 2) (mod-lt (map / 2 ^ i) (lit< tt)) j + ones-below map i j)
    ∙ add_comm (map / 2 ^ i % 2) (length (nodes_of map i))
    ∙ sym (nodes-counted map i)

-- all 16 of a map of 16 bits
pub ones_all : (map : ℕ) → map < 65536 → ones map ≡ length (nodes_of map 16)
ones_all map h = ap ones (sym (mod-eq_of_lt h)) ∙ ones-below map 16

-- those below a node
pub ones_front : (map k : ℕ) → k < 16 → ones (bit_and map (1 * 2 ^ k % 65536 - 1)) ≡ length (nodes_of map k)
ones_front map k h = ap (λ (x : ℕ). ones (bit_and map (x - 1))) (one_shifted k h) ∙ ap ones (and_mask map k) ∙ ones-below map k

-- the bit of a power of two
and_power : (map j : ℕ) → bit_and map (2 ^ j) ≡ (map / 2 ^ j % 2) * 2 ^ j
and_power map j =
    let a : 1 + j ≡ suc j = omega arith in
    let e : 2 ^ (1 + j) - 2 ^ j ≡ 2 ^ j = rw a (omega (arith, pow-suc 2 j)) in
    rw e at (and_high map 1 j)

pub or_power : (map i : ℕ) → bit_or map (2 ^ (i - 1)) ≡ with_node map i
unfolding with_node stands
or_power map i = go (ℕ_discrete (map / 2 ^ (i - 1) % 2) 1)
  where
    p : bit_or map (2 ^ (i - 1)) + (map / 2 ^ (i - 1) % 2) * 2 ^ (i - 1) ≡ map + 2 ^ (i - 1)
    p = ap (λ (x : ℕ). bit_or map (2 ^ (i - 1)) + x) (sym (and_power map (i - 1))) ∙ or_add_and map (2 ^ (i - 1))

    go : Dec (map / 2 ^ (i - 1) % 2 ≡ 1) → bit_or map (2 ^ (i - 1)) ≡ cond (eqb (map / 2 ^ (i - 1) % 2) 1) map (map + 2 ^ (i - 1))
    go (yes e) =
        let q : bit_or map (2 ^ (i - 1)) + 1 * 2 ^ (i - 1) ≡ map + 2 ^ (i - 1) = rw e at p in
        rw (eq-eqb (map / 2 ^ (i - 1) % 2) 1 e) (omega arith)
    go (no e) =
        let z : map / 2 ^ (i - 1) % 2 ≡ 0 = omega arith in
        let q : bit_or map (2 ^ (i - 1)) + 0 * 2 ^ (i - 1) ≡ map + 2 ^ (i - 1) = rw z at p in
        rw (ne_eqb (map / 2 ^ (i - 1) % 2) 1 e) (omega arith)

-- what stands says of a bit
pub bit_of : (map i : ℕ) → stands map (i + 1) ≡ eqb (map / 2 ^ i % 2) 1
unfolding stands
bit_of map i = let e : i + 1 - 1 ≡ i = omega arith in ap (λ (j : ℕ). eqb (map / 2 ^ j % 2) 1) e

-- a node that may be no node's number: whether it is in a map
pub has_is : (map i : ℕ) → 1 ≤ i → i ≤ 16 → (r : Bool) → r ≡ (leb 1 i && (leb i 16 && stands map i)) → r ≡ stands map i
has_is map i l h r e = rw (le-leb 1 i l, le-leb i 16 h) at e
