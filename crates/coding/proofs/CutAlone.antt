-- A piece cut alone is the same as in the whole split, and what lies beyond it in the room stays.
use Rattle.std.proofs.Common.{◌≡◌, ℕ, ◌-◌, ◌*◌, ◌<◌, ◌≤◌, true, List, length, take, drop, sym, ap, ◌∙◌, le_of_eq, zero-add, arith, take_all}
use native.Mathlib.Decide.{dec_lt}
use lib.Seq.{paste, take-paste, drop-paste}
use Rattle.coding.specs.Pieces.{proper, columns, piece}
use Rattle.coding.specs.Split.{SplitEnd}
use Rattle.coding.specs.Join.{piece_in}
use Rattle.coding.specs.Alone.{Alone}
use Rattle.coding.proofs.SplitLaws.{split-long, split_done, cut-long, cut-done}
use Rattle.coding.proofs.RoundTripLaws.{length-piece}
use Rattle.coding.proofs.RoundTrip.{area_piece}

-- the piece at the front of the room, and what lies beyond it
module _ (k i : ℕ) (page room : List ℕ) where
  front : take (columns k (length page)) (paste room 0 (piece k page i) (columns k (length page))) ≡ piece k page i
  front =
      let L = columns k (length page) in
      ap (λ (x : ℕ). take x (paste room 0 (piece k page i) L)) (sym (zero-add L))
      ∙ take-paste room 0 (piece k page i) L (omega arith) (le_of_eq (sym (length-piece k page i)))
      ∙ take_all L (piece k page i) (le_of_eq (length-piece k page i))

  beyond : drop (columns k (length page)) (paste room 0 (piece k page i) (columns k (length page))) ≡ drop (columns k (length page)) room
  beyond =
      let L = columns k (length page) in
      ap (λ (x : ℕ). drop x (paste room 0 (piece k page i) L)) (sym (zero-add L))
      ∙ drop-paste room 0 (piece k page i) L (omega arith) (le_of_eq (sym (length-piece k page i)))
      ∙ ap (λ (x : ℕ). drop x room) (zero-add L)

module _ (n k F i : ℕ) (page room : List ℕ) (p : proper n k F ≡ true) (lo : 1 ≤ i) (hi : i ≤ n) (r : F ≤ length room) where
  pub cut-alone : (areas : List ℕ) → n * F ≤ length areas → Alone n k F i page room areas
  cut-alone areas a = go (dec_lt (k * F - 4) (length page))
    where
      go : Dec (k * F - 4 < length page) → Alone n k F i page room areas
      go (yes h) =
          Alone.too_long (ap (λ (s : SplitEnd). s.outcome) (cut-long n k F i page room p r lo hi h))
          (ap (λ (s : SplitEnd). s.outcome) (split-long n k F page areas p a h))
      go (no h) =
          let t : length page ≤ k * F - 4 = omega arith in
          let L = columns k (length page) in
          let x = cut-done n k F i page room p r lo hi t in
          let y = split_done n k F page areas p a t in
          Alone.same L (ap (λ (s : SplitEnd). s.outcome) x) (ap (λ (s : SplitEnd). s.outcome) y)
          (ap (λ (s : SplitEnd). take L s.room) x
          ∙ front k i page room
          ∙ area_piece n k F page areas p a t i lo hi
          ∙ sym (ap (λ (s : SplitEnd). piece_in F s.room L i) y))
          (ap (λ (s : SplitEnd). drop L s.room) x ∙ beyond k i page room)
