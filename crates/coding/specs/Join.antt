-- Joining: the answer and the output after it.
use Rattle.std.specs.Prelude.{◌≡◌, ℕ, zero, suc, ◌+◌, ◌-◌, ◌*◌, ◌^◌, ◌<◌, ◌≤◌, true, cond, ◌&&◌, ◌||◌, List, [], ◌++◌, length, take, drop, nat_eq, nat_le, nat_lt, slice_index}
use Rattle.std.proofs.Math.Option.{Option, some, none}
use Rattle.coding.specs.Polynomial.{interpolate}
use Rattle.coding.specs.Bytes.{Bytes, from_four}
use Rattle.coding.specs.Pieces.{proper, piece}
use Rattle.coding.specs.Nodes.{all, nodes_of, sound, first_length}
use Rattle.coding.specs.Answer.{Outcome}

-- the piece of node i in its area
unfoldable pub piece_in : ℕ → List ℕ → ℕ → ℕ → List ℕ
piece_in F room len i = take len (drop ((i - 1) * F) room)

-- the frame of len columns whose pieces these are: in each column the bytes that give the nodes' bytes
unfoldable pub joined : ℕ → List ℕ → List ℕ → ℕ → List ℕ
joined F room nodes zero = []
joined F room nodes (suc j) = joined F room nodes j ++ interpolate nodes (λ i. slice_index room ((i - 1) * F + j))

-- a joined frame: the nodes whose pieces it is of, its columns, and its bytes, one column after the other
pub record JoinedFrame : Type 0 where
  pub k : ℕ
  pub columns : ℕ
  pub bytes : List ℕ

-- the page of a frame: the length must be true, the zeros the fewest, and no other filling
unfoldable pub page_of : ℕ → List ℕ → Option (List ℕ)
unfolding all
page_of k f =
    cond (nat_le 4 (length f) && (nat_le (from_four f) (length f - 4) && (nat_lt (length f - 4 - from_four f) k
    && all (λ b. nat_eq b 0) (drop (4 + from_four f) f))))
    (some (take (from_four f) (drop 4 f)))
    none

pub record JoinEnd : Type 0 where
  pub outcome : Outcome
  pub out : List ℕ

-- the page stands at the front of the output, and the rest of the output is as it was
abbrev pub page_end : Option (List ℕ) → List ℕ → JoinEnd
page_end none out = record { outcome = Outcome.refuses 4; out = out }
page_end (some page) out = record { outcome = Outcome.gives (length page); out = page ++ drop (length page) out }

-- the room begins with n areas of F bytes, area i with the piece of node i
unfoldable pub join : ℕ → ℕ → ℕ → ℕ → List ℕ → List ℕ → List ℕ → JoinEnd
join n k F present room lens out =
    cond (proper n k F)
    (cond (nat_lt (length room) (n * F) || (nat_lt (length lens) n || nat_lt (length out) (k * F - 4))) (record { outcome = Outcome.refuses 2; out = out })
    (cond (nat_lt present (2 ^ n) && sound F lens (nodes_of present n))
    (cond (nat_lt (length (nodes_of present n)) k) (record { outcome = Outcome.refuses 9; out = out })
    (page_end (page_of k (joined F room (take k (nodes_of present n)) (first_length lens (nodes_of present n)))) out))
    (record { outcome = Outcome.refuses 4; out = out })))
    (record { outcome = Outcome.refuses 1; out = out })

-- these are pieces of the page: those of the k lowest nodes
abbrev pub PiecesOf : ℕ → ℕ → List ℕ → List ℕ → ℕ → List ℕ → Type 0
PiecesOf k F room nodes len page =
    (s : ℕ) → s < k → piece k page (slice_index nodes s) ≡ piece_in F room len (slice_index nodes s)

-- what a joined page is: the page whose pieces the k lowest are; and where there is such a page, it is joined
pub record Joins (n k F present : ℕ) (room lens out : List ℕ) (outcome : Outcome) (end : List ℕ) : Type 0 where
  pub page : (len : ℕ) → outcome ≡ Outcome.gives len
      → PiecesOf k F room (nodes_of present n) (first_length lens (nodes_of present n)) (take len end)
  pub found : proper n k F ≡ true → n * F ≤ length room → n ≤ length lens → k * F - 4 ≤ length out → present < 2 ^ n
      → sound F lens (nodes_of present n) ≡ true → k ≤ length (nodes_of present n)
      → (page : List ℕ) → Bytes page → length page ≤ k * F - 4
      → PiecesOf k F room (nodes_of present n) (first_length lens (nodes_of present n)) page
      → (outcome ≡ Outcome.gives (length page)) × (end ≡ page ++ drop (length page) out)
