-- Laws of bit maps of nodes.
use mathlib.Core.Path.{◌≡◌, refl, sym, ap, ◌∙◌}
use mathlib.Core.Bool.{Bool, true, false, cond, ◌||◌}
use Prim.Native.Nat.{ℕ, zero, suc, ◌+◌, ◌-◌, ◌/◌, ◌%◌, ◌^◌, ◌<◌, ◌≤◌}
use native.Mathlib.Nat.{pow-suc, pow-succ', div-div-eq-div-mul, zero-div}
use native.Mathlib.Decide.{ℕ_discrete}
use native.Mathlib.Omega.{arith}
use borrow.Author.Tests.{eq-eqb, ne_eqb, eqb-true, eqb-false}
use lib.Dec.{eqb}
use lib.ListN.{length, get_or}
use Rattle.coding.specs.Nodes.{nodes_of}
use Rattle.coding.proofs.NodesLaws.{nodes_start, nodes-counted, nodes-beyond, nodes-within, nodes-bit, bit-listed}
use Rattle.parties.specs.protocol.Nodes.{nodes_in, count, stands, with_node}

-- ---- bits; bit i is node i + 1's

abbrev bit : ℕ → ℕ → ℕ
bit map i = map / 2 ^ i % 2

bit_zero : (map : ℕ) → bit map 0 ≡ map % 2
bit_zero map = omega arith

bit_suc : (map i : ℕ) → bit map (suc i) ≡ bit (map / 2) i
bit_suc map i = ap (λ (x : ℕ). map / x % 2) (pow-succ' 2 i) ∙ ap (λ (x : ℕ). x % 2) (sym (div-div-eq-div-mul map 2 (2 ^ i)))

bit-before : (map i : ℕ) → bit map (suc i - 1) ≡ bit map i
bit-before map i = let e : suc i - 1 ≡ i = omega arith in ap (bit map) e

-- a power of two added where its bit is 0, shifted by one place
half-first : (map : ℕ) → bit map 0 ≡ 0 → (map + 2 ^ 0) / 2 ≡ map / 2
half-first map h = omega (arith, bit_zero map)

half-later : (map i : ℕ) → (map + 2 ^ suc i) / 2 ≡ map / 2 + 2 ^ i
half-later map i = omega (arith, pow-suc 2 i)

set_same : (map i : ℕ) → bit map i ≡ 0 → bit (map + 2 ^ i) i ≡ 1
set_same map zero h = omega arith
set_same map (suc i) h =
    bit_suc (map + 2 ^ suc i) i ∙ ap (λ (x : ℕ). bit x i) (half-later map i) ∙ set_same (map / 2) i (sym (bit_suc map i) ∙ h)

set_other : (map i j : ℕ) → bit map i ≡ 0 → (j ≡ i → ⊥) → bit (map + 2 ^ i) j ≡ bit map j
set_other map zero zero h d = absurd (d refl)
set_other map zero (suc j) h d =
    bit_suc (map + 2 ^ 0) j ∙ ap (λ (x : ℕ). bit x j) (half-first map h) ∙ sym (bit_suc map j)
set_other map (suc i) zero h d = omega (arith, pow-suc 2 i)
set_other map (suc i) (suc j) h d =
    bit_suc (map + 2 ^ suc i) j ∙ ap (λ (x : ℕ). bit x j) (half-later map i)
    ∙ set_other (map / 2) i j (sym (bit_suc map i) ∙ h) (λ e. d (ap suc e)) ∙ sym (bit_suc map j)

set_below : (map i n : ℕ) → bit map i ≡ 0 → i < n → map < 2 ^ n → map + 2 ^ i < 2 ^ n
set_below map i zero h l b = absurd (omega arith)
set_below map zero (suc n) h l b = omega (arith, pow-suc 2 n)
set_below map (suc i) (suc n) h l b =
    let c : map / 2 < 2 ^ n = omega (arith, pow-suc 2 n) in
    omega (arith, pow-suc 2 n, pow-suc 2 i, set_below (map / 2) i n (sym (bit_suc map i) ∙ h) (omega arith) c)

-- ---- what a map says of a node, by its bit

stands-bit : (map i : ℕ) → stands map i ≡ true → bit map (i - 1) ≡ 1
unfolding stands
stands-bit map i h = eqb-true (bit map (i - 1)) 1 h

bit-stands : (map i : ℕ) → bit map (i - 1) ≡ 1 → stands map i ≡ true
unfolding stands
bit-stands map i h = eq-eqb (bit map (i - 1)) 1 h

same_bit : (a b i : ℕ) → bit b (i - 1) ≡ bit a (i - 1) → stands b i ≡ stands a i
unfolding stands
same_bit a b i e = ap (λ (x : ℕ). eqb x 1) e

falls_bit : (map i : ℕ) → stands map i ≡ false → bit map (i - 1) ≡ 0
unfolding stands
falls_bit map i h =
    let d = eqb-false (bit map (i - 1)) 1 h in go (ℕ_discrete (bit map (i - 1)) 1) d
  where
    go : Dec (bit map (i - 1) ≡ 1) → (bit map (i - 1) ≡ 1 → ⊥) → bit map (i - 1) ≡ 0
    go (yes e) d = absurd (d e)
    go (no e) d = omega arith

-- where a bit is 0, the map with the node is a sum
with_sum : (map i : ℕ) → stands map i ≡ false → with_node map i ≡ map + 2 ^ (i - 1)
unfolding with_node
with_sum map i h = ap (λ (b : Bool). cond b map (map + 2 ^ (i - 1))) h

with_same : (map i : ℕ) → stands map i ≡ true → with_node map i ≡ map
unfolding with_node
with_same map i h = ap (λ (b : Bool). cond b map (map + 2 ^ (i - 1))) h

-- the node stands, and the others as before
pub stands_with : (map i j : ℕ) → 1 ≤ i → 1 ≤ j → stands (with_node map i) j ≡ (eqb j i || stands map j)
stands_with map i j hi hj = go (stands map i) refl (ℕ_discrete j i)
  where
    go : (b : Bool) → stands map i ≡ b → Dec (j ≡ i) → stands (with_node map i) j ≡ (eqb j i || stands map j)
    go true e (yes d) = rw (with_same map i e) (rw d (e ∙ sym (simp (eq-eqb i i refl))))
    go true e (no d) = rw (with_same map i e) (sym (simp (ne_eqb j i d)))
    go false e (yes d) =
        rw (with_sum map i e) (rw d (bit-stands (map + 2 ^ (i - 1)) i (set_same map (i - 1) (falls_bit map i e)) ∙ sym (simp (eq-eqb i i refl))))
    go false e (no d) =
        rw (with_sum map i e)
        (same_bit map (map + 2 ^ (i - 1)) j (set_other map (i - 1) (j - 1) (falls_bit map i e) (λ q. d (omega arith))) ∙ sym (simp (ne_eqb j i d)))

pub with_node_lem : (map i : ℕ) → 1 ≤ i → stands (with_node map i) i ≡ true
with_node_lem map i h = stands_with map i i h h ∙ simp (eq-eqb i i refl)

pub with_others : (map i j : ℕ) → 1 ≤ i → 1 ≤ j → eqb j i ≡ false → stands (with_node map i) j ≡ stands map j
with_others map i j hi hj f = stands_with map i j hi hj ∙ simp f

-- the empty map
pub stands-none : (i : ℕ) → stands 0 i ≡ false
unfolding stands
stands-none i = simp (zero-div (2 ^ (i - 1)))

pub with_below : (map i n : ℕ) → 1 ≤ i → i ≤ n → map < 2 ^ n → with_node map i < 2 ^ n
with_below map i n h l b = go (stands map i) refl
  where
    go : (c : Bool) → stands map i ≡ c → with_node map i < 2 ^ n
    go true e = rw (with_same map i e) b
    go false e = rw (with_sum map i e) (set_below map (i - 1) n (falls_bit map i e) (omega arith) b)

-- ---- counts

-- one node more, if it stands
pub count-step : (map n : ℕ) → length (nodes_of map (suc n)) ≡ length (nodes_of map n) + cond (stands map (suc n)) 1 0
count-step map n = go (stands map (suc n)) refl
  where
    go : (b : Bool) → stands map (suc n) ≡ b → length (nodes_of map (suc n)) ≡ length (nodes_of map n) + cond b 1 0
    go true e = omega (arith, nodes-counted map n, stands-bit map (suc n) e, bit-before map n)
    go false e = omega (arith, nodes-counted map n, falls_bit map (suc n) e, bit-before map n)

count-before : (map i n : ℕ) → bit map i ≡ 0 → n ≤ i → length (nodes_of (map + 2 ^ i) n) ≡ length (nodes_of map n)
count-before map i zero h l = ap length (nodes_start (map + 2 ^ i)) ∙ ap length (sym (nodes_start map))
count-before map i (suc n) h l =
    omega (
      arith,
      nodes-counted (map + 2 ^ i) n,
      nodes-counted map n,
      count-before map i n h (omega arith),
      set_other map i n h (λ e. omega arith),
    )

count-after : (map i n : ℕ) → bit map i ≡ 0 → i < n → length (nodes_of (map + 2 ^ i) n) ≡ length (nodes_of map n) + 1
count-after map i zero h l = absurd (omega arith)
count-after map i (suc n) h l = go (ℕ_discrete i n) (count-after map i n h)
  where
    go : Dec (i ≡ n) → (i < n → length (nodes_of (map + 2 ^ i) n) ≡ length (nodes_of map n) + 1)
        → length (nodes_of (map + 2 ^ i) (suc n)) ≡ length (nodes_of map (suc n)) + 1
    go (yes e) ih =
        rw (← e)
        (omega (
          arith,
          nodes-counted (map + 2 ^ i) i,
          nodes-counted map i,
          count-before map i i h (omega arith),
          set_same map i h,
        ))
    go (no e) ih =
        omega (
          arith,
          nodes-counted (map + 2 ^ i) n,
          nodes-counted map n,
          ih (omega arith),
          set_other map i n h (λ q. e (sym q)),
        )

pub count_with : (map i : ℕ) → 1 ≤ i → i ≤ 16 → stands map i ≡ false → count (with_node map i) ≡ count map + 1
count_with map i h l e = rw (with_sum map i e) (count-after map (i - 1) 16 (falls_bit map i e) (omega arith))

-- ---- the nodes listed

pub nodes-all : (map n : ℕ) → map < 2 ^ n → n ≤ 16 → nodes_in map ≡ nodes_of map n
nodes-all map n h l = nodes-beyond map n 16 h l

-- a node listed stands
pub nodes_stand : (map s : ℕ) → s < length (nodes_in map)
    → (stands map (get_or (nodes_in map) s 0) ≡ true) × (1 ≤ get_or (nodes_in map) s 0) × (get_or (nodes_in map) s 0 ≤ 16)
nodes_stand map s h =
    let w = nodes-within map 16 s h in (bit-stands map (get_or (nodes_in map) s 0) (nodes-bit map 16 s h), w.0, w.1)

-- and a node that stands is listed
pub stands-listed : (map i : ℕ) → 1 ≤ i → i ≤ 16 → stands map i ≡ true → (s : ℕ) × (s < length (nodes_in map)) × (get_or (nodes_in map) s 0 ≡ i)
stands-listed map i h l e =
    let x = bit-listed map 16 (i - 1) (omega arith) (stands-bit map i e) in (x.0, x.1, x.2 ∙ omega arith)
