-- A fresh row as it is put together, and a fresh table.
use mathlib.Core.Path.{◌≡◌, refl, sym, ap, ap₂, ◌∙◌}
use mathlib.Core.Bool.{true, false}
use mathlib.Core.List.{List, [], ◌∷◌, ◌++◌, append_assoc, append-nil}
use Prim.Native.Nat.{ℕ, ◌+◌, ◌*◌, ◌<◌, ◌≤◌}
use native.Mathlib.Numerals.{add-one}
use native.Mathlib.Omega.{arith}
use borrow.Author.Tests.{le-leb, lt-leb}
use lib.ListN.{length, take, drop, set, replicate, length-append, replicate-append-replicate}
use Rattle.parties.specs.declared.Measures.{Measures}
use Rattle.parties.specs.protocol.Format.{write_number, write_many, write_area}
use Rattle.parties.specs.protocol.Measures.{passes, row_size}
use Rattle.parties.specs.protocol.Answer.{refuses, serves}
use Rattle.parties.specs.protocol.Pointer.{none_pointer, write_version, write_named, write_pointer}
use Rattle.parties.specs.protocol.Directory.{write_index, map_of, write_content, write_fields, write_record, write_row, fresh_row, fresh_directory, write_directory}
use Rattle.parties.specs.protocol.DirectoryEvents.{directory_size, directory_fresh}
use Rattle.parties.proofs.protocol.formats.MeasureLaws.{passed}
use Rattle.parties.proofs.protocol.formats.RowLaws.{fresh_good, row_fits}
use Rattle.parties.specs.directory.Room.{longest_row, Built}
use Rattle.parties.proofs.records.SizeLaws.{row_bound}
use Rattle.parties.proofs.records.SpliceLaws.{many-same, many_zeros}
use Rattle.parties.proofs.directory.RoomLaws.{built_map, built_zeros, built_byte, built_area, many_replicated, many-last}

none-bytes : write_pointer none_pointer ≡ 0 ∷ 0 ∷ 0 ∷ 0 ∷ 255 ∷ 0 ∷ 0 ∷ []
unfolding write_pointer write_version write_named write_number write_many
none-bytes = refl

-- the map byte and i pointers
abbrev pub started : ℕ → List ℕ
started i = 15 ∷ write_many write_pointer (replicate i none_pointer)

started-length : (i : ℕ) → length (started i) ≡ 7 * i + 1
started-length i = omega (arith, many_replicated write_pointer none_pointer 7 i (ap length none-bytes))

started-more : (i : ℕ) → ((started i ++ replicate 4 0) ++ (255 ∷ [])) ++ replicate 2 0 ≡ started (i + 1)
started-more i =
    ap (λ (x : List ℕ). x ++ replicate 2 0) (append_assoc (started i) (replicate 4 0) (255 ∷ []))
    ∙ append_assoc (started i) (0 ∷ 0 ∷ 0 ∷ 0 ∷ 255 ∷ []) (replicate 2 0)
    ∙ ap (λ (x : List ℕ). started i ++ x) (sym none-bytes)
    ∙ ap (λ (x : List ℕ). 15 ∷ x) (many-last write_pointer none_pointer i)
    ∙ ap started (sym (add-one i))

pub fresh_start : (room : List ℕ) → room ≡ replicate longest_row 0 → Built (started 0) (set room 0 15)
unfolding write_many
fresh_start room e = built_map room e

pub fresh_turn : (i : ℕ) (room : List ℕ) → i < 9 → Built (started i) room → Built (started (i + 1)) (set room (7 * i + 5) 255)
fresh_turn i room h b =
    let l : length (started i) ≡ 7 * i + 1 = started-length i in
    let n : length (started i ++ replicate 4 0) ≡ 7 * i + 5 = omega (arith, length-append (started i) (replicate 4 0)) in
    let p = started i ++ replicate 4 0 in
    let x = built_byte p room (built_zeros (started i) room b 4 (omega arith)) 255 (omega arith) in
    let m : length (p ++ (255 ∷ [])) ≡ 7 * i + 6 = omega (arith, length-append p (255 ∷ [])) in
    let y = built_zeros (p ++ (255 ∷ [])) (set room (length p) 255) x 2 (omega arith) in rw (← n) (rw (← started-more i) y)

pub index-bytes : write_index (record { 0 = 0 }) ≡ replicate 4 0
unfolding write_index write_number
index-bytes = refl

fresh-bytes : (s : Measures) → started (s.m + 1) ++ replicate (s.m * 4 + 4) 0 ≡ write_row (fresh_row s)
unfolding write_record write_fields write_content write_number write_many map_of
fresh-bytes s =
    let p = write_many write_pointer (replicate s.m none_pointer) in
    let i = write_many write_index (replicate s.m (record { 0 = 0 })) in
    let e : started (s.m + 1) ≡ 15 ∷ (write_pointer none_pointer ++ p) = ap started (add-one s.m) in
    let z : replicate {A = ℕ} (s.m * 4 + 4) 0 ≡ i ++ replicate 4 0 =
    sym (replicate-append-replicate (s.m * 4) 4 0) ∙ ap (λ (x : List ℕ). x ++ replicate 4 0) (sym (many_zeros write_index (record { 0 = 0 }) 4 index-bytes s.m))
    in
    ap₂ (λ (x y : List ℕ). x ++ y) e z
    ∙ ap (λ (x : List ℕ). 15 ∷ x)
    (append_assoc (write_pointer none_pointer) p (i ++ replicate 4 0)
    ∙ ap₂ (λ (x y : List ℕ). x ++ (p ++ (i ++ y))) (sym (append-nil (write_pointer none_pointer)))
    (sym index-bytes ∙ sym (append-nil (write_index (record { 0 = 0 }))) ∙ sym (append-nil (write_index (record { 0 = 0 }) ++ []))))

pub fresh_end : (s : Measures) (room : List ℕ) → passes s ≡ true → Built (started (s.m + 1)) room → Built (write_row (fresh_row s)) room
fresh_end s room h b =
    let c : s.m ≤ 8 = (passed s h).clients.1 in
    rw (← fresh-bytes s) (built_zeros (started (s.m + 1)) room b (s.m * 4 + 4) (omega (arith, started-length (s.m + 1))))

module _ (s : Measures) (h : passes s ≡ true) where
  -- the area of a fresh row
  fresh_area : (room : List ℕ) → Built (write_row (fresh_row s)) room → take (row_size s) room ≡ write_area (row_size s) write_row (fresh_row s)
  unfolding write_area
  fresh_area room b = built_area (write_row (fresh_row s)) room b (row_size s) (row_fits s (fresh_row s) (fresh_good s)) (row_bound s h)

  -- a fresh row for each client
  pub fresh-rows : (room : List ℕ) (size : ℕ) → Built (write_row (fresh_row s)) room → size ≡ row_size s
      → write_many (λ d. d) (replicate s.m (take size room)) ≡ write_directory s (fresh_directory s)
  unfolding write_directory
  fresh-rows room size b e =
      sym (many-same (write_area (row_size s) write_row) (fresh_row s) (take size room) (sym (ap (λ (k : ℕ). take k room) e ∙ fresh_area room b)) s.m)

-- ---- how the event ends

module _ (s : Measures) (table : List ℕ) where
  pub fresh-measures : passes s ≡ false → directory_fresh s table ≡ record { answer = refuses 1; table = table; room = [] }
  unfolding directory_fresh
  fresh-measures p = simp p

  pub fresh-short : passes s ≡ true → length table < directory_size s → directory_fresh s table ≡ record { answer = refuses 2; table = table; room = [] }
  unfolding directory_fresh
  fresh-short p h = simp (p, lt-leb (directory_size s) (length table) h)

  pub fresh-written : passes s ≡ true → directory_size s ≤ length table
      → directory_fresh s table ≡ record { answer = serves 0; table = write_directory s (fresh_directory s) ++ drop (directory_size s) table; room = [] }
  unfolding directory_fresh
  fresh-written p h = simp (p, le-leb (directory_size s) (length table) h)
