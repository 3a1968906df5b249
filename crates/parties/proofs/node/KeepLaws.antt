-- A piece written into its place: the table is that of what is then held.
use mathlib.Core.Path.{◌≡◌, refl, sym, ap, ap₂, ◌∙◌}
use mathlib.Core.List.{List, [], ◌∷◌, ◌++◌, append_assoc, append-nil}
use Prim.Native.Nat.{ℕ, ◌+◌, ◌-◌, ◌*◌, ◌<◌, ◌≤◌}
use native.Mathlib.Nat.{add-mul}
use native.Mathlib.Omega.{arith}
use lib.ListN.{length, take, drop, replicate, length-append, length-drop, length-replicate, take-append-drop, replicate-append-replicate}
use lib.Seq.{paste, take_at, drop_at, length-take-le, drop-drop, take_all}
use Rattle.coding.specs.Bytes.{Bytes}
use Rattle.coding.proofs.BytesLaws.{stride}
use Rattle.parties.specs.declared.Measures.{Measures}
use Rattle.parties.specs.protocol.Format.{write_number, write_many, write_area}
use Rattle.parties.specs.protocol.Measures.{places, place_size}
use Rattle.parties.specs.protocol.Pointer.{write_version}
use Rattle.parties.specs.protocol.NodeTable.{Held, write_piece, write_held, write_table}
use Rattle.parties.proofs.protocol.formats.FormatLaws.{Each}
use Rattle.parties.proofs.protocol.formats.PointerLaws.{length-number, length-version}
use Rattle.parties.proofs.protocol.formats.NodeTableLaws.{FitsPlace}
use Rattle.parties.specs.records.Places.{splice, place_of, version_at}
use Rattle.parties.specs.node.NodeCode.{brought_by, inserted}
use Rattle.parties.proofs.records.PlaceLaws.{length-held}
use Rattle.parties.proofs.records.SpliceLaws.{paste-splice, paste_all, splice-parts, splice-next, table-parts}
use Rattle.parties.proofs.node.ShownLaws.{version-bytes, places-size}

-- a brought piece's place has its size
pub brought-size : (s : Measures) (h : Held) → length h.piece ≤ s.f → length (place_of s h) ≡ place_size s
unfolding write_area
brought-size s h l =
    length-append (write_held h) (replicate (place_size s - length (write_held h)) 0)
    ∙ omega (arith, length-held h, length-replicate {A = ℕ} (place_size s - length (write_held h)) 0)

-- the four parts of a place are written one after the other
module _ (s : Measures) (t : List ℕ) (at : ℕ) (b : List ℕ) (bs : Bytes b) (fits : at + place_size s ≤ length t) (l : 7 ≤ length b) (m : length b ≤ 6 + s.f) where
  pub placed : (len : ℕ) → len ≡ length b - 6 → (spare : ℕ) → spare ≡ s.f - len
      → splice (splice (splice (splice t at (take 5 (drop 1 b))) (at + 5) (write_number 2 len)) (at + 7) (take len (drop 6 b))) (at + 7 + len) (replicate spare 0)
      ≡ splice t at (place_of s (brought_by b))
  unfolding write_area write_held write_piece
  placed len e spare f =
      let p : length (drop 6 b) ≡ len = length-drop 6 b ∙ sym e in
      let w : take 5 (drop 1 b) ≡ write_version (version_at b 1) = version-bytes b 1 bs (omega arith) in
      let a1 = write_version (version_at b 1) in
      let a2 = write_number 2 len in
      let n1 : length a1 ≡ 5 = length-version (version_at b 1) in
      let n2 : length a2 ≡ 2 = length-number 2 len in
      let n3 : length (take len (drop 6 b)) ≡ len = length-take-le len (drop 6 b) (omega arith) in
      let n4 : length (replicate {A = ℕ} spare 0) ≡ spare = length-replicate {A = ℕ} spare 0 in
      let n12 : length (a1 ++ a2) ≡ 7 = length-append a1 a2 ∙ omega arith in
      let n123 : length ((a1 ++ a2) ++ take len (drop 6 b)) ≡ 7 + len = length-append (a1 ++ a2) (take len (drop 6 b)) ∙ omega arith in
      let k : spare ≡ place_size s - length (write_held (brought_by b)) = omega (arith, length-held (brought_by b)) in
      ap (λ (u : List ℕ). splice (splice (splice (splice t at u) (at + 5) a2) (at + 7) (take len (drop 6 b))) (at + 7 + len) (replicate spare 0)) w
      ∙ ap (λ (u : List ℕ). splice (splice u (at + 7) (take len (drop 6 b))) (at + 7 + len) (replicate spare 0)) (splice-next t at a1 a2 (at + 5) (omega arith) (omega arith))
      ∙ ap (λ (u : List ℕ). splice u (at + 7 + len) (replicate spare 0)) (splice-next t at (a1 ++ a2) (take len (drop 6 b)) (at + 7) (omega arith) (omega arith))
      ∙ splice-next t at ((a1 ++ a2) ++ take len (drop 6 b)) (replicate spare 0) (at + 7 + len) (omega arith) (omega arith)
      ∙ ap (λ (u : List ℕ). splice t at (((a1 ++ a2) ++ u) ++ replicate spare 0)) (take_all len (drop 6 b) (omega arith))
      ∙ ap (λ (u : List ℕ). splice t at (u ++ replicate spare 0)) (append_assoc a1 a2 (drop 6 b))
      ∙ ap (λ (n : ℕ). splice t at ((a1 ++ (write_number 2 n ++ drop 6 b)) ++ replicate spare 0)) (sym p)
      ∙ ap (λ (n : ℕ). splice t at ((a1 ++ (write_number 2 (length (drop 6 b)) ++ drop 6 b)) ++ replicate n 0)) k

  -- as the code does
  pub place_put : (t1 t2 t3 t4 : List ℕ) → t1 ≡ paste t at (drop 1 b) 5 → t2 ≡ paste t1 (at + 5) (write_number 2 (length b - 6)) 2
      → t3 ≡ paste t2 (at + 7) (drop 6 b) (length b - 6)
      → t4 ≡ paste t3 (at + 7 + (length b - 6)) (replicate (at + 7 + s.f - (at + 7 + (length b - 6))) 0) (at + 7 + s.f - (at + 7 + (length b - 6)))
      → t4 ≡ splice t at (place_of s (brought_by b))
  place_put t1 t2 t3 t4 e1 e2 e3 e4 =
      let len = length b - 6 in
      let spare = at + 7 + s.f - (at + 7 + len) in
      let s1 : t1 ≡ splice t at (take 5 (drop 1 b)) = e1 ∙ paste-splice t at (drop 1 b) 5 (rw length-drop (omega arith)) in
      let s2 : t2 ≡ splice t1 (at + 5) (write_number 2 len) = e2 ∙ paste_all t1 (at + 5) (write_number 2 len) 2 (sym (length-number 2 len)) in
      let s3 : t3 ≡ splice t2 (at + 7) (take len (drop 6 b)) = e3 ∙ paste-splice t2 (at + 7) (drop 6 b) len (rw length-drop (omega arith)) in
      let s4 : t4 ≡ splice t3 (at + 7 + len) (replicate spare 0) = e4 ∙ paste_all t3 (at + 7 + len) (replicate spare 0) spare (sym (length-replicate {A = ℕ} spare 0)) in
      let k : spare ≡ s.f - len = omega arith in
      s4
      ∙ ap (λ (u : List ℕ). splice u (at + 7 + len) (replicate spare 0))
      (s3 ∙ ap (λ (u : List ℕ). splice u (at + 7) (take len (drop 6 b))) (s2 ∙ ap (λ (u : List ℕ). splice u (at + 5) (write_number 2 len)) s1))
      ∙ placed len refl spare k

-- a place more, as the code does
pub insert_put : (s : Measures) (t : List ℕ) (at end : ℕ) (h : Held) (n : ℕ) → at ≤ end → end ≤ length t → (t1 t2 t3 : List ℕ)
    → t1 ≡ paste t (at + place_size s) (drop at t) (end - at) → t2 ≡ splice t1 at (place_of s h) → t3 ≡ paste t2 0 (write_number 2 n) 2
    → t3 ≡ inserted s t at end h n
unfolding inserted
insert_put s t at end h n p q t1 t2 t3 e1 e2 e3 =
    e3 ∙ paste_all t2 0 (write_number 2 n) 2 (sym (length-number 2 n))
    ∙ ap (λ (u : List ℕ). splice u 0 (write_number 2 n))
    (e2 ∙ ap (λ (u : List ℕ). splice u at (place_of s h)) (e1 ∙ paste-splice t (at + place_size s) (drop at t) (end - at) (rw length-drop (omega arith))))

-- the front of a table: its count and the places before one
front-size : (s : Measures) (n : ℕ) (a : List Held) → Each (FitsPlace s) a → length (write_number 2 n ++ write_many (place_of s) a) ≡ 2 + length a * place_size s
front-size s n a e = length-append (write_number 2 n) (write_many (place_of s) a) ∙ omega (arith, length-number 2 n, places-size s a e)

module _ (s : Measures) (t : List ℕ) (h : Held) (l : length h.piece ≤ s.f) (a : List Held) (fa : Each (FitsPlace s) a) (rest : List ℕ) where
  -- a held version's place is written over
  pub overwritten : (x : Held) (b : List Held) → length (place_of s x) ≡ place_size s → t ≡ write_table s (a ++ (x ∷ b)) ++ rest
      → (at : ℕ) → at ≡ 2 + length a * place_size s → splice t at (place_of s h) ≡ write_table s (a ++ (h ∷ b)) ++ rest
  unfolding write_many
  overwritten x b fx e at p =
      let n = length (a ++ (x ∷ b)) in
      let m : length (a ++ (h ∷ b)) ≡ n = length-append a (h ∷ b) ∙ sym (length-append a (x ∷ b)) in
      let z = replicate ((places s - n) * place_size s) 0 ++ rest in
      let f = write_number 2 n ++ write_many (place_of s) a in
      ap (λ (u : List ℕ). splice u at (place_of s h))
      (e ∙ table-parts s a (x ∷ b) n rest refl ∙ ap (λ (u : List ℕ). f ++ u) (append_assoc (place_of s x) (write_many (place_of s) b) z))
      ∙ splice-parts f (place_of s x) (write_many (place_of s) b ++ z) (place_of s h) at (front-size s n a fa ∙ sym p) (fx ∙ sym (brought-size s h l))
      ∙ ap (λ (u : List ℕ). f ++ u) (sym (append_assoc (place_of s h) (write_many (place_of s) b) z))
      ∙ sym (table-parts s a (h ∷ b) n rest m)

  -- a new version: the places after it went up
  pub grown : (b : List Held) → Each (FitsPlace s) b → (n : ℕ) → length (a ++ b) ≡ n → n < places s → t ≡ write_table s (a ++ b) ++ rest
      → (at end : ℕ) → at ≡ 2 + length a * place_size s → end ≡ 2 + n * place_size s
      → inserted s t at end h (n + 1) ≡ write_table s (a ++ (h ∷ b)) ++ rest
  unfolding inserted write_many
  grown b fb n c less e at end p q =
      ap (λ (u : List ℕ). splice u 0 (write_number 2 (n + 1))) (second ∙ append_assoc (write_number 2 n) (write_many (place_of s) a) (place_of s h ++ (w ++ r)))
      ∙ splice-parts [] (write_number 2 n) (write_many (place_of s) a ++ (place_of s h ++ (w ++ r))) (write_number 2 (n + 1)) 0 refl
      (length-number 2 n ∙ sym (length-number 2 (n + 1)))
      ∙ sym (append_assoc (write_number 2 (n + 1)) (write_many (place_of s) a) (place_of s h ++ (w ++ r)))
      ∙ ap (λ (u : List ℕ). (write_number 2 (n + 1) ++ write_many (place_of s) a) ++ u) (sym (append_assoc (place_of s h) w r))
      ∙ sym (table-parts s a (h ∷ b) (n + 1) rest (length-append a (h ∷ b) ∙ omega (arith, sum)))
    where
      z : ℕ
      z = place_size s

      -- what stands before the place, the places after it with a free one, and the rest
      f : List ℕ
      f = write_number 2 n ++ write_many (place_of s) a

      w : List ℕ
      w = write_many (place_of s) b

      o : List ℕ
      o = w ++ replicate z 0

      r : List ℕ
      r = replicate ((places s - (n + 1)) * z) 0 ++ rest

      sum : length a + length b ≡ n
      sum = sym (length-append a b) ∙ c

      nf : length f ≡ at
      nf = front-size s n a fa ∙ sym p

      moves : end - at ≡ length w
      moves =
          let k : n * z ≡ length a * z + length b * z = ap (λ (x : ℕ). x * z) (sym sum) ∙ add-mul (length a) (length b) z in
          omega (arith, places-size s b fb)

      no : length o ≡ length w + z
      no = length-append w (replicate z 0) ∙ ap (λ (x : ℕ). length w + x) (length-replicate {A = ℕ} z 0)

      zeros : replicate {A = ℕ} ((places s - n) * z) 0 ≡ replicate z 0 ++ replicate ((places s - (n + 1)) * z) 0
      zeros =
          let d : places s - n ≡ places s - (n + 1) + 1 = omega arith in
          let k : (places s - n) * z ≡ z + (places s - (n + 1)) * z = ap (λ (x : ℕ). x * z) d ∙ omega (arith, stride (places s - (n + 1)) z) in
          ap (λ (x : ℕ). replicate {A = ℕ} x 0) k ∙ sym (replicate-append-replicate z ((places s - (n + 1)) * z) 0)

      parts : t ≡ f ++ (o ++ r)
      parts =
          e ∙ table-parts s a b n rest c
          ∙ ap (λ (u : List ℕ). f ++ (w ++ (u ++ rest))) zeros
          ∙ ap (λ (u : List ℕ). f ++ (w ++ u)) (append_assoc (replicate z 0) (replicate ((places s - (n + 1)) * z) 0) rest)
          ∙ ap (λ (u : List ℕ). f ++ u) (sym (append_assoc w (replicate z 0) r))

      moved : take (end - at) (drop at t) ≡ w
      moved =
          ap (λ (u : List ℕ). take (end - at) (drop at u)) parts
          ∙ ap (take (end - at)) (drop_at f (o ++ r) at nf ∙ append_assoc w (replicate z 0) r)
          ∙ take_at w (replicate z 0 ++ r) (end - at) (sym moves)

      -- the same bytes, cut a place further
      split : t ≡ (f ++ take z o) ++ (drop z o ++ r)
      split =
          parts
          ∙ ap (λ (u : List ℕ). f ++ (u ++ r)) (sym (take-append-drop z o))
          ∙ ap (λ (u : List ℕ). f ++ u) (append_assoc (take z o) (drop z o) r)
          ∙ sym (append_assoc f (take z o) (drop z o ++ r))

      first : splice t (at + z) (take (end - at) (drop at t)) ≡ f ++ (take z o ++ (w ++ r))
      first =
          ap₂ (λ (u : List ℕ) (v : List ℕ). splice u (at + z) v) split moved
          ∙ splice-parts (f ++ take z o) (drop z o) r w (at + z)
          (length-append f (take z o) ∙ omega (arith, nf, length-take-le z o (omega (arith, no)))) (length-drop z o ∙ omega (arith, no))
          ∙ append_assoc f (take z o) (w ++ r)

      second : splice (splice t (at + z) (take (end - at) (drop at t))) at (place_of s h) ≡ f ++ (place_of s h ++ (w ++ r))
      second =
          ap (λ (u : List ℕ). splice u at (place_of s h)) first
          ∙ splice-parts f (take z o) (w ++ r) (place_of s h) at nf (length-take-le z o (omega (arith, no)) ∙ sym (brought-size s h l))

-- kept places at the front: the bytes after them are cleared, the count is put
pub shrunk : (s : Measures) (t : List ℕ) (l m : List Held) (rest : List ℕ) (n k : ℕ) → length l ≡ n → length m ≡ k → k ≤ n → n ≤ places s → Each (FitsPlace s) l
    → t ≡ write_table s l ++ rest → (u : List ℕ) → length u ≡ length t → 2 + n * place_size s ≤ length t
    → take (2 + k * place_size s) u ≡ take 2 t ++ write_many (place_of s) m → drop (2 + n * place_size s) u ≡ drop (2 + n * place_size s) t
    → (v w : List ℕ)
    → v ≡ paste u (2 + k * place_size s) (replicate (2 + n * place_size s - (2 + k * place_size s)) 0) (2 + n * place_size s - (2 + k * place_size s))
    → w ≡ paste v 0 (write_number 2 k) 2
    → w ≡ write_table s m ++ rest
unfolding write_many
shrunk s t l m rest n k cl cm less few fl e u same inside front after v w ev ew =
    ew
    ∙ paste_all v 0 (write_number 2 k) 2 (sym (length-number 2 k))
    ∙ ap (λ (x : List ℕ). splice x 0 (write_number 2 k)) cleared
    ∙ splice-parts [] (take 2 t) (places_m ++ zeros) (write_number 2 k) 0 refl (length-take-le 2 t (omega arith) ∙ sym (length-number 2 k))
    ∙ sym (append_assoc (write_number 2 k) places_m zeros)
    ∙ sym (table-parts s m [] k rest (ap length (append-nil m) ∙ cm))
    ∙ ap (λ (x : List Held). write_table s x ++ rest) (append-nil m)
  where
    z : ℕ
    z = place_size s

    d : ℕ
    d = 2 + n * z - (2 + k * z)

    places_m : List ℕ
    places_m = write_many (place_of s) m

    zeros : List ℕ
    zeros = replicate ((places s - k) * z) 0 ++ rest

    -- the free places before
    behind : drop (2 + n * z) t ≡ replicate ((places s - n) * z) 0 ++ rest
    behind =
        ap (drop (2 + n * z)) (e ∙ ap (λ (x : List Held). write_table s x ++ rest) (sym (append-nil l)) ∙ table-parts s l [] n rest (ap length (append-nil l) ∙ cl))
        ∙ drop_at (write_number 2 n ++ write_many (place_of s) l) (replicate ((places s - n) * z) 0 ++ rest) (2 + n * z)
        (front-size s n l fl ∙ ap (λ (x : ℕ). 2 + x * z) cl)

    kn : n * z ≡ k * z + (n - k) * z
    kn = let q : n ≡ k + (n - k) = omega arith in ap (λ (x : ℕ). x * z) q ∙ add-mul k (n - k) z

    all-free : (places s - k) * z ≡ d + (places s - n) * z
    all-free =
        let q : places s - k ≡ n - k + (places s - n) = omega arith in
        ap (λ (x : ℕ). x * z) q ∙ add-mul (n - k) (places s - n) z ∙ omega (arith, kn)

    joined : replicate d 0 ++ drop (2 + n * z) t ≡ zeros
    joined =
        ap (λ (x : List ℕ). replicate d 0 ++ x) behind
        ∙ sym (append_assoc (replicate d 0) (replicate ((places s - n) * z) 0) rest)
        ∙ ap (λ (x : List ℕ). x ++ rest) (replicate-append-replicate d ((places s - n) * z) 0 ∙ ap (λ (x : ℕ). replicate {A = ℕ} x 0) (sym all-free))

    parts : u ≡ take (2 + k * z) u ++ (take d (drop (2 + k * z) u) ++ drop (2 + n * z) t)
    parts =
        let q : 2 + k * z + d ≡ 2 + n * z = omega (arith, kn) in
        sym (take-append-drop (2 + k * z) u)
        ∙ ap (λ (x : List ℕ). take (2 + k * z) u ++ x)
        (sym (take-append-drop d (drop (2 + k * z) u))
        ∙ ap (λ (x : List ℕ). take d (drop (2 + k * z) u) ++ x) (drop-drop d (2 + k * z) u ∙ ap (λ (x : ℕ). drop x u) q ∙ after))

    cleared : v ≡ take 2 t ++ (places_m ++ zeros)
    cleared =
        ev
        ∙ paste_all u (2 + k * z) (replicate d 0) d (sym (length-replicate {A = ℕ} d 0))
        ∙ ap (λ (x : List ℕ). splice x (2 + k * z) (replicate d 0)) parts
        ∙ splice-parts (take (2 + k * z) u) (take d (drop (2 + k * z) u)) (drop (2 + n * z) t) (replicate d 0) (2 + k * z)
        (length-take-le (2 + k * z) u (omega (arith, kn)))
        (length-take-le d (drop (2 + k * z) u) (rw length-drop (omega (arith, kn))) ∙ sym (length-replicate {A = ℕ} d 0))
        ∙ ap₂ (λ (x : List ℕ) (y : List ℕ). x ++ y) front joined
        ∙ append_assoc (take 2 t) places_m zeros
