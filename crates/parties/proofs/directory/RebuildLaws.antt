-- A row put together of its fields' bytes, one after the other.
use mathlib.Core.Path.{◌≡◌, refl, sym, subst, ◌∙◌}
use mathlib.Core.List.{List, [], ◌∷◌, ◌++◌, append_assoc}
use Prim.Native.Nat.{ℕ, ◌+◌, ◌/◌, ◌%◌, ◌≤◌}
use native.Mathlib.Omega.{arith}
use lib.Dec.{eqb}
use lib.ListN.{length, set, replicate, length-append}
use lib.Seq.{take-length, paste}
use Rattle.parties.specs.declared.records.form.Ends.{Ends}
use Rattle.parties.specs.directory.Room.{longest_row, Built, PutAt, part, renewed}
use Rattle.parties.proofs.directory.RoomLaws.{built_length, built_map, built_part}

abbrev pub written_part : ℕ → List ℕ → Ends → List ℕ → ℕ → Ends → List ℕ
written_part map s e t at f = part (eqb (map % 2) 1) 1 e.written s (at + 1) f.written t

abbrev pub frozen_part : ℕ → List ℕ → Ends → List ℕ → Ends → List ℕ
frozen_part map s e t f = part (eqb (map / 2 % 2) 1) e.written e.frozen s f.written f.frozen t

abbrev pub indices_part : ℕ → List ℕ → Ends → List ℕ → Ends → List ℕ
indices_part map s e t f = part (eqb (map / 2 / 2 % 2) 1) e.frozen e.indices s f.frozen f.indices t

abbrev pub index_part : ℕ → List ℕ → Ends → List ℕ → Ends → List ℕ
index_part map s e t f = part (eqb (map / 2 / 2 / 2 % 2) 1) e.indices e.index s f.indices f.index t

module _ (map : ℕ) (s : List ℕ) (e : Ends) (t : List ℕ) (at : ℕ) (f : Ends) where
  renewed-length : length (renewed map s e t at f)
      ≡ 1 + length (written_part map s e t at f) + length (frozen_part map s e t f) + length (indices_part map s e t f) + length (index_part map s e t f)
  unfolding renewed
  renewed-length =
      let w = written_part map s e t at f in
      let p = frozen_part map s e t f in
      let i = indices_part map s e t f in
      let j = index_part map s e t f in
      omega (arith, length-append w (p ++ (i ++ j)), length-append p (i ++ j), length-append i j)

  renewed-parts : ((((15 ∷ []) ++ written_part map s e t at f) ++ frozen_part map s e t f) ++ indices_part map s e t f) ++ index_part map s e t f
      ≡ renewed map s e t at f
  unfolding renewed
  renewed-parts =
      let w = written_part map s e t at f in
      let p = frozen_part map s e t f in
      let i = indices_part map s e t f in
      let j = index_part map s e t f in
      append_assoc ((15 ∷ w) ++ p) i j ∙ append_assoc (15 ∷ w) p (i ++ j)

-- bytes more, after those that stand
put_more : (p room q : List ℕ) (at r : ℕ) (end : List ℕ) → Built p room → length p ≡ at → at + length q ≤ longest_row → PutAt room at q r end
    → Built (p ++ q) end × (length (p ++ q) ≡ r)
put_more p room q at r end b e l h =
    let more : Built (p ++ q) (paste room at q (length q)) =
    rw (← e)
    (subst (λ (x : List ℕ). Built (p ++ x) (paste room (length p) q (length q))) (take-length q) (built_part p room b q (length q) (omega arith) (omega arith)))
    in
    (subst (Built (p ++ q)) (sym h.bytes) more, omega (arith, length-append p q, h.next))

-- the four fields after the map, one by one
module _ (map : ℕ) (s : List ℕ) (e : Ends) (t : List ℕ) (at : ℕ) (f : Ends) (room : List ℕ) (z : room ≡ replicate longest_row 0)
    (h : length (renewed map s e t at f) ≤ longest_row) where
  abbrev w : List ℕ
  w = written_part map s e t at f

  abbrev p : List ℕ
  p = frozen_part map s e t f

  abbrev i : List ℕ
  i = indices_part map s e t f

  abbrev j : List ℕ
  j = index_part map s e t f

  fits : 1 + length w + length p + length i + length j ≤ longest_row
  fits = omega (arith, h, renewed-length map s e t at f)

  pub room_for_written : 1 + length w ≤ length (set room 0 15)
  room_for_written = omega (arith, fits, built_length (15 ∷ []) _ (built_map room z))

  module _ (a : ℕ) (ra : List ℕ) (pa : PutAt (set room 0 15) 1 w a ra) where
    one : Built ((15 ∷ []) ++ w) ra × (length ((15 ∷ []) ++ w) ≡ a)
    one = put_more (15 ∷ []) _ w 1 a ra (built_map room z) refl (omega (arith, fits)) pa

    pub room_for_frozen : a + length p ≤ length ra
    room_for_frozen = omega (arith, fits, pa.next, built_length _ ra one.0)

    module _ (b : ℕ) (rb : List ℕ) (pb : PutAt ra a p b rb) where
      two : Built (((15 ∷ []) ++ w) ++ p) rb × (length (((15 ∷ []) ++ w) ++ p) ≡ b)
      two = put_more _ ra p a b rb one.0 one.1 (omega (arith, fits, pa.next)) pb

      pub room_for_indices : b + length i ≤ length rb
      room_for_indices = omega (arith, fits, pa.next, pb.next, built_length _ rb two.0)

      module _ (c : ℕ) (rc : List ℕ) (pc : PutAt rb b i c rc) where
        three : Built ((((15 ∷ []) ++ w) ++ p) ++ i) rc × (length ((((15 ∷ []) ++ w) ++ p) ++ i) ≡ c)
        three = put_more _ rb i b c rc two.0 two.1 (omega (arith, fits, pa.next, pb.next)) pc

        pub room_for_index : c + length j ≤ length rc
        room_for_index = omega (arith, fits, pa.next, pb.next, pc.next, built_length _ rc three.0)

        pub rebuilt : (d : ℕ) (rd : List ℕ) → PutAt rc c j d rd → Built (renewed map s e t at f) rd
        rebuilt d rd pd =
            subst (λ (x : List ℕ). Built x rd) (renewed-parts map s e t at f)
            (put_more _ rc j c d rd three.0 three.1 (omega (arith, fits, pa.next, pb.next, pc.next)) pd).0
