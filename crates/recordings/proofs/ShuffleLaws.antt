-- Laws of the shuffle: four bring the bytes of 16 samples into their planes.
use mathlib.Core.Path.{◌≡◌, ap, ap₂, ◌∙◌}
use mathlib.Core.Bool.{Bool}
use mathlib.Core.List.{List}
use Prim.Native.Nat.{ℕ, ◌+◌, ◌*◌, ◌/◌, ◌%◌, ◌<◌}
use native.Mathlib.Nat.{zero-add}
use native.Mathlib.Omega.{arith}
use lib.ListN.{get_or}
use lib.Dec.{eqb, eqb→eq}
use Rattle.coding.proofs.Cases.{each_below}
use Rattle.recordings.specs.Shuffle.{shuffled, in_blocks}
use Rattle.recordings.proofs.PlaceLaws.{row_of, entry_of}

shuffled-below : (m : ℕ) → m < 48 → shuffled m < 48
shuffled-below m h = omega arith

-- a piece of 16 bytes comes from 8 places and the same 8 of the other half
pub shuffled-piece : (j l : ℕ) → shuffled (j * 16 + l) ≡ j * 8 + shuffled l
shuffled-piece j l = omega arith

pub in_block : (k m : ℕ) → m < 48 → in_blocks shuffled (k * 48 + m) ≡ k * 48 + shuffled m
in_block k m h = ap₂ (λ (a b : ℕ). a * 48 + shuffled b) (row_of 48 k m h) (entry_of 48 k m h)

-- at each place of a block
returns : ℕ → Bool
returns m = eqb (shuffled (shuffled (shuffled (shuffled m)))) (m % 16 * 3 + m / 16)

four_shuffles : (p l : ℕ) → p < 3 → l < 16 → shuffled (shuffled (shuffled (shuffled (p * 16 + l)))) ≡ l * 3 + p
unfolding returns
four_shuffles p l hp hl =
    let b : p * 16 + l < 48 = omega arith in
    eqb→eq _ _ (each_below 48 returns tt (p * 16 + l) b) ∙ ap₂ (λ (a b : ℕ). a * 3 + b) (entry_of 16 p l hl) (row_of 16 p l hl)

-- 32 blocks of d from a place on, shuffled from list to list: what the last one shows where the fourth shuffle looks
module _ (d x y z : List ℕ) (s : ℕ)
    (first : (m : ℕ) → m < 1536 → get_or x m 0 ≡ get_or d (3 * s + in_blocks shuffled m) 0)
    (second : (m : ℕ) → m < 1536 → get_or y m 0 ≡ get_or x (0 + in_blocks shuffled m) 0)
    (third : (m : ℕ) → m < 1536 → get_or z m 0 ≡ get_or y (0 + in_blocks shuffled m) 0)
  where
    pub shuffled_through : (p l : ℕ) → p < 3 → l < 512 → get_or z (l / 16 * 48 + shuffled (p * 16 + l % 16)) 0 ≡ get_or d ((s + l) * 3 + p) 0
    shuffled_through p l hp hl =
        let k = l / 16 in
        let hk : k < 32 = omega arith in
        let a = shuffled (p * 16 + l % 16) in
        let ha : a < 48 = omega arith in
        let b = shuffled a in
        let hb : b < 48 = shuffled-below a ha in
        let c = shuffled b in
        let hc : c < 48 = shuffled-below b hb in
        third (k * 48 + a) (omega arith)
        ∙ ap (λ (m : ℕ). get_or y m 0) (zero-add _ ∙ in_block k a ha)
        ∙ second (k * 48 + b) (omega arith)
        ∙ ap (λ (m : ℕ). get_or x m 0) (zero-add _ ∙ in_block k b hb)
        ∙ first (k * 48 + c) (omega arith)
        ∙ ap (λ (m : ℕ). get_or d (3 * s + m) 0) (in_block k c hc ∙ ap (λ (m : ℕ). k * 48 + m) (four_shuffles p (l % 16) hp (omega arith)))
        ∙ ap (λ (m : ℕ). get_or d m 0) (omega arith)
