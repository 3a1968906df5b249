-- Document 02 (d): a piece cut alone is the same as in the whole split.
use Rattle.std.specs.Prelude.{◌≡◌, ℕ, List, take, drop}
use Rattle.coding.specs.Answer.{Outcome}
use Rattle.coding.specs.Split.{split, cut}
use Rattle.coding.specs.Join.{piece_in}

-- both refuse 6; or neither refuses, they answer with one length, and that many bytes at the front of the room are those of area i,
-- while the bytes beyond them stay
pub data Alone (n k F i : ℕ) (page room areas : List ℕ) : Type 0 where
  too_long : (cut n k F i page room).outcome ≡ Outcome.refuses 6 → (split n k F page areas).outcome ≡ Outcome.refuses 6
      → Alone n k F i page room areas
  same : (len : ℕ) → (cut n k F i page room).outcome ≡ Outcome.gives len → (split n k F page areas).outcome ≡ Outcome.gives len
      → take len (cut n k F i page room).room ≡ piece_in F (split n k F page areas).room len i
      → drop len (cut n k F i page room).room ≡ drop len room → Alone n k F i page room areas
