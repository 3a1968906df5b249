-- A refused call leaves what it was lent as it was.
use Rattle.std.proofs.Common.{◌≡◌, ℕ, ◌-◌, ◌*◌, ◌^◌, Bool, true, false, cond, ◌&&◌, ◌||◌, ltb, leb, List, length, take, sym, refl}
use mathlib.Core.Option.{Option, some, none}
use lib.Seq.{paste}
use Rattle.coding.specs.Pieces.{proper, columns, piece}
use Rattle.coding.specs.Answer.{Outcome}
use Rattle.coding.specs.Nodes.{nodes_of, sound, first_length}
use Rattle.coding.specs.Split.{SplitEnd, written, split, cut}
use Rattle.coding.specs.Join.{joined, page_of, JoinEnd, page_end, join}
use Rattle.coding.proofs.JoinEndLaws.{refused}

-- the room of a split that refuses
pub split-kept : (n k F : ℕ) (page room : List ℕ) (r : ℕ) → (split n k F page room).outcome ≡ Outcome.refuses r → (split n k F page room).room ≡ room
unfolding split
split-kept n k F page room r = go (proper n k F) (ltb (length room) (n * F)) (ltb (k * F - 4) (length page))
  where
    end : Bool → Bool → Bool → SplitEnd
    end a b c =
        cond a
        (cond b (record { outcome = Outcome.refuses 2; room = room })
        (cond c (record { outcome = Outcome.refuses 6; room = room })
        (record { outcome = Outcome.gives (columns k (length page)); room = written k F page room n })))
        (record { outcome = Outcome.refuses 1; room = room })

    go : (a b c : Bool) → (end a b c).outcome ≡ Outcome.refuses r → (end a b c).room ≡ room
    go false b c e = refl
    go true true c e = refl
    go true false true e = refl
    go true false false e = absurd (refused r (columns k (length page)) (sym e))

-- the room of a cut that refuses
pub cut-kept : (n k F i : ℕ) (page room : List ℕ) (r : ℕ) → (cut n k F i page room).outcome ≡ Outcome.refuses r → (cut n k F i page room).room ≡ room
unfolding cut
cut-kept n k F i page room r = go (proper n k F) (ltb (length room) F) (leb 1 i && leb i n) (ltb (k * F - 4) (length page))
  where
    end : Bool → Bool → Bool → Bool → SplitEnd
    end a b c d =
        cond a
        (cond b (record { outcome = Outcome.refuses 2; room = room })
        (cond c
        (cond d (record { outcome = Outcome.refuses 6; room = room })
        (record { outcome = Outcome.gives (columns k (length page)); room = paste room 0 (piece k page i) (columns k (length page)) }))
        (record { outcome = Outcome.refuses 3; room = room })))
        (record { outcome = Outcome.refuses 1; room = room })

    go : (a b c d : Bool) → (end a b c d).outcome ≡ Outcome.refuses r → (end a b c d).room ≡ room
    go false b c d e = refl
    go true true c d e = refl
    go true false false d e = refl
    go true false true true e = refl
    go true false true false e = absurd (refused r (columns k (length page)) (sym e))

-- the output of a join that refuses
pub join_kept : (n k F present : ℕ) (room lens out : List ℕ) (r : ℕ) → (join n k F present room lens out).outcome ≡ Outcome.refuses r
    → (join n k F present room lens out).out ≡ out
unfolding join
join_kept n k F present room lens out r =
    go (proper n k F) (ltb (length room) (n * F) || (ltb (length lens) n || ltb (length out) (k * F - 4)))
    (ltb present (2 ^ n) && sound F lens (nodes_of present n)) (ltb (length (nodes_of present n)) k)
    (page_of k (joined F room (take k (nodes_of present n)) (first_length lens (nodes_of present n))))
  where
    end : Bool → Bool → Bool → Bool → Option (List ℕ) → JoinEnd
    end a b c d o =
        cond a
        (cond b (record { outcome = Outcome.refuses 2; out = out })
        (cond c (cond d (record { outcome = Outcome.refuses 9; out = out }) (page_end o out)) (record { outcome = Outcome.refuses 4; out = out })))
        (record { outcome = Outcome.refuses 1; out = out })

    go : (a b c d : Bool) (o : Option (List ℕ)) → (end a b c d o).outcome ≡ Outcome.refuses r → (end a b c d o).out ≡ out
    go false b c d o e = refl
    go true true c d o e = refl
    go true false false d o e = refl
    go true false true true o e = refl
    go true false true false none e = refl
    go true false true false (some page) e = absurd (refused r (length page) (sym e))
