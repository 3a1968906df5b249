-- One place of a node table: what its reader tells, as a test on its bytes.
use mathlib.Core.Path.{◌≡◌, refl, sym, ap, ◌∙◌}
use mathlib.Core.Bool.{Bool, true, false, cond, ◌&&◌, and-false, true≢false}
use mathlib.Core.List.{List, [], ◌∷◌, ◌++◌}
use mathlib.Core.Option.{Option, some, none}
use Prim.Native.Nat.{ℕ, suc, ◌+◌, ◌-◌, ◌*◌, ◌/◌, ◌%◌, ◌^◌, ◌<◌, ◌≤◌}
use native.Mathlib.Decide.{dec_le}
use native.Mathlib.Omega.{arith}
use borrow.Author.Tests.{le-leb, lt-leb, eq-eqb, ne_eqb, eqb-true}
use lib.Dec.{leb, ltb, eqb}
use lib.ListN.{length, get_or, take, drop, length-append, length-drop}
use lib.Seq.{drop-cons, drop-drop, length-take-le}
use Rattle.std.proofs.Common.{w32}
use Rattle.std.proofs.Math.Nat.{div-div-eq-div-mul}
use Rattle.std.specs.Int.{to_be_bytes}
use Rattle.coding.proofs.Cases.{and-true}
use Rattle.coding.proofs.PageLaws.{some_eq}
use Rattle.parties.specs.declared.Measures.{Measures}
use Rattle.parties.specs.declared.Version.{Version}
use Rattle.parties.specs.protocol.Format.{Read, bind, check, read_number, write_number, read_bytes, read_zeros, read_area}
use Rattle.parties.specs.protocol.Measures.{place_size}
use Rattle.parties.specs.protocol.Pointer.{read_version, write_version}
use Rattle.parties.specs.protocol.Message.{proper_version}
use Rattle.parties.specs.protocol.NodeTable.{Held, proper_held, read_piece, write_piece, read_held, write_held}
use Rattle.parties.proofs.protocol.formats.FormatLaws.{number_one, format_number}
use Rattle.parties.proofs.protocol.formats.PointerLaws.{GoodVersion, format_version, length-number, length-version}
use Rattle.parties.proofs.records.BytesLaws.{number-two, number-four, two-read, four-read}
use Rattle.parties.specs.records.Places.{number_at, version_at, proper_at, version_alone, length_at, piece_at, held_at, zero_run, sound_at}

-- ---- numbers and versions

module _ (t : List ℕ) (at : ℕ) where
  pub read_number_lem : at + 2 ≤ length t → read_number 2 (drop at t) ≡ some (record { value = number_at t at; rest = drop (at + 2) t })
  unfolding number_at
  read_number_lem h = number-two t at (get_or t at 0 * 256 + get_or t (at + 1) 0) h refl

  pub read-version : at + 5 ≤ length t → read_version (drop at t) ≡ some (record { value = version_at t at; rest = drop (at + 5) t })
  unfolding read_version version_at
  read-version h =
      let q = ((get_or t at 0 * 256 + get_or t (at + 1) 0) * 256 + get_or t (at + 2) 0) * 256 + get_or t (at + 3) 0 in
      ap (λ (r : Option (Read ℕ)). bind r (λ q u. bind (read_number 1 u) (λ c v. some (record { value = record { sequence = record { 0 = q }; client = c }; rest = v }))))
      (number-four t at q (omega arith) refl)
      ∙ ap (λ (r : Option (Read ℕ)). bind r (λ c v. some (record { value = record { sequence = record { 0 = q }; client = c }; rest = v }))) (byte (omega arith))
    where
      byte : at + 4 < length t → read_number 1 (drop (at + 4) t) ≡ some (record { value = get_or t (at + 4) 0; rest = drop (at + 5) t })
      byte k =
          let e : suc (at + 4) ≡ at + 5 = omega arith in
          ap (read_number 1) (drop-cons t (at + 4) 0 k) ∙ number_one (get_or t (at + 4) 0) (drop (suc (at + 4)) t)
          ∙ ap (λ (n : ℕ). some (record { value = get_or t (at + 4) 0; rest = drop n t })) e

-- the number whose bytes stand at a place is read there
pub number_read : (w : ℕ) (t : List ℕ) (at n : ℕ) (y : List ℕ) → n < 256 ^ w → drop at t ≡ write_number w n ++ y
    → (i : ℕ) (u : List ℕ) → read_number w (drop at t) ≡ some (record { value = i; rest = u }) → i ≡ n
number_read w t at n y g e i u h = ap (λ (r : Read ℕ). r.value) (some_eq (sym h ∙ ap (read_number w) e ∙ (format_number w).back n g y))

pub number-there : (t : List ℕ) (at n : ℕ) (y : List ℕ) → n < 256 ^ 2 → drop at t ≡ write_number 2 n ++ y → (at + 2 ≤ length t) × (number_at t at ≡ n)
number-there t at n y g e =
    let l : at + 2 ≤ length t = omega (arith, ap length e, length-drop at t, length-append (write_number 2 n) y, length-number 2 n) in
    (l, number_read 2 t at n y g e (number_at t at) (drop (at + 2) t) (read_number_lem t at l))

pub version-there : (t : List ℕ) (at : ℕ) (v : Version) (y : List ℕ) → GoodVersion v → drop at t ≡ write_version v ++ y → (at + 5 ≤ length t) × (version_at t at ≡ v)
version-there t at v y g e =
    let l : at + 5 ≤ length t = omega (arith, ap length e, length-drop at t, length-append (write_version v) y, length-version v) in
    (l, ap (λ (r : Read Version). r.value) (some_eq (sym (read-version t at l) ∙ ap read_version e ∙ format_version.back v g y)))

-- a version's five bytes, one by one
pub version-five : (v : Version) → v.client < 256
    → v.sequence.0 / 256 / 256 / 256 % 256 ∷ v.sequence.0 / 256 / 256 % 256 ∷ v.sequence.0 / 256 % 256 ∷ v.sequence.0 % 256 ∷ v.client ∷ []
    ≡ write_version v
unfolding write_version write_number
version-five v h =
    let q = v.sequence.0 in
    let m : v.client ≡ v.client % 256 = omega arith in
    ap (λ (c : ℕ). q / 256 / 256 / 256 % 256 ∷ q / 256 / 256 % 256 ∷ q / 256 % 256 ∷ q % 256 ∷ c ∷ []) m

-- the same, where the library gave four of them
pub version_given : (v : Version) → v.client < 256 → (b : List ℕ) → b ≡ to_be_bytes w32 v.sequence.0
    → get_or b 0 0 ∷ get_or b 1 0 ∷ get_or b 2 0 ∷ get_or b 3 0 ∷ v.client ∷ [] ≡ write_version v
version_given v h b e = rw e (simp div-div-eq-div-mul at version-five v h)

-- ---- a place

-- what a held piece's bytes count
pub length-held : (h : Held) → length (write_held h) ≡ 7 + length h.piece
unfolding write_held write_piece
length-held h =
    length-append (write_version h.version) (write_number 2 (length h.piece) ++ h.piece)
    ∙ omega (arith, length-version h.version, length-append (write_number 2 (length h.piece)) h.piece, length-number 2 (length h.piece))

-- the test of a place's numbers
abbrev proper : Measures → List ℕ → ℕ → Bool
proper s t at = leb 1 (version_at t at).sequence.0 && (ltb (version_at t at).client s.m && (leb 1 (length_at t at) && leb (length_at t at) s.f))

-- zeros are read as nothing
zeros_of : (b : Bool) (p u : List ℕ) → bind (check b p u) (λ a v. some (record { value = tt {0}; rest = v })) ≡ cond b (some (record { value = tt {0}; rest = u })) none
zeros_of true p u = refl
zeros_of false p u = refl

pub zeros_read : (t : List ℕ) (at n : ℕ) → at + n ≤ length t
    → read_zeros n (drop at t) ≡ cond (zero_run t at n) (some (record { value = tt; rest = drop (at + n) t })) none
unfolding read_zeros read_bytes
zeros_read t at n h =
    let l : n ≤ length (drop at t) = rw length-drop (omega arith) in
    simp (le-leb n (length (drop at t)) l, drop-drop) (zeros_of (zero_run t at n) (take n (drop at t)) (drop (at + n) t))

module _ (s : Measures) (t : List ℕ) (at : ℕ) (fits : at + place_size s ≤ length t) where
  rest-length : length (drop (at + 7) t) ≡ length t - (at + 7)
  rest-length = length-drop (at + 7) t

  piece-within : length_at t at ≤ length t - (at + 7) → length (piece_at t at) ≡ length_at t at
  unfolding piece_at
  piece-within h = length-take-le (length_at t at) (drop (at + 7) t) (rw rest-length h)

  pub piece-length : length_at t at ≤ s.f → length (piece_at t at) ≡ length_at t at
  piece-length h = piece-within (omega arith)

  -- a length and as many bytes
  piece-read : length_at t at ≤ length t - (at + 7)
      → read_piece (drop (at + 5) t) ≡ some (record { value = piece_at t at; rest = drop (at + 7 + length_at t at) t })
  unfolding read_piece read_bytes piece_at
  piece-read h =
      let e : at + 5 + 2 ≡ at + 7 = omega arith in
      ap (λ (r : Option (Read ℕ)). bind r (λ n u. bind (read_bytes n u) (λ p v. some (record { value = p; rest = v }))))
      (read_number_lem t (at + 5) (omega arith) ∙ ap (λ (n : ℕ). some (record { value = length_at t at; rest = drop n t })) e)
      ∙ simp (le-leb (length_at t at) (length (drop (at + 7) t)) (rw rest-length h), drop-drop)

  piece-none : length t - (at + 7) < length_at t at → read_piece (drop (at + 5) t) ≡ none
  unfolding read_piece read_bytes
  piece-none h =
      let e : at + 5 + 2 ≡ at + 7 = omega arith in
      ap (λ (r : Option (Read ℕ)). bind r (λ n u. bind (read_bytes n u) (λ p v. some (record { value = p; rest = v }))))
      (read_number_lem t (at + 5) (omega arith) ∙ ap (λ (n : ℕ). some (record { value = length_at t at; rest = drop n t })) e)
      ∙ simp (lt-leb (length_at t at) (length (drop (at + 7) t)) (rw rest-length h))

  held_of : (o : Option (Read (List ℕ))) → read_piece (drop (at + 5) t) ≡ o
      → read_held s (drop at t)
      ≡ bind (bind o (λ p u. some (record { value = record { version = version_at t at; piece = p }; rest = u }))) (λ h u. check (proper_held s h) h u)
  unfolding read_held
  held_of o e = rw (read-version t at (omega arith), e)

  held-read : length_at t at ≤ s.f → read_held s (drop at t) ≡ check (proper s t at) (held_at t at) (drop (at + 7 + length_at t at) t)
  held-read h =
      held_of _ (piece-read (omega arith))
      ∙ ap (λ (n : ℕ).
      check (leb 1 (version_at t at).sequence.0 && (ltb (version_at t at).client s.m && (leb 1 n && leb n s.f))) (held_at t at) (drop (at + 7 + length_at t at) t))
      (piece-length h)

  -- a length above F
  improper : s.f < length_at t at → proper s t at ≡ false
  improper h = simp (lt-leb (length_at t at) s.f h, and-false)

  held-long : s.f < length_at t at → read_held s (drop at t) ≡ none
  held-long h = go (dec_le (length_at t at) (length t - (at + 7)))
    where
      go : Dec (length_at t at ≤ length t - (at + 7)) → read_held s (drop at t) ≡ none
      go (no q) = held_of none (piece-none (omega arith))
      go (yes q) =
          held_of _ (piece-read q)
          ∙ ap (λ (n : ℕ).
          check (leb 1 (version_at t at).sequence.0 && (ltb (version_at t at).client s.m && (leb 1 n && leb n s.f))) (held_at t at) (drop (at + 7 + length_at t at) t)) (piece-within q)
          ∙ ap (λ (b : Bool). check b (held_at t at) (drop (at + 7 + length_at t at) t)) (improper h)

  spare_read : length_at t at ≤ s.f
      → read_zeros (place_size s - length (write_held (held_at t at))) (drop (at + 7 + length_at t at) t)
      ≡ cond (zero_run t (at + 7 + length_at t at) (s.f - length_at t at)) (some (record { value = tt; rest = drop (at + place_size s) t })) none
  spare_read h =
      let n : place_size s - length (write_held (held_at t at)) ≡ s.f - length_at t at = omega (arith, length-held (held_at t at), piece-length h) in
      let e : at + 7 + length_at t at + (s.f - length_at t at) ≡ at + place_size s = omega arith in
      ap (λ (k : ℕ). read_zeros k (drop (at + 7 + length_at t at) t)) n
      ∙ zeros_read t (at + 7 + length_at t at) (s.f - length_at t at) (omega arith)
      ∙ ap (λ (k : ℕ). cond (zero_run t (at + 7 + length_at t at) (s.f - length_at t at)) (some (record { value = tt {0}; rest = drop k t })) none) e

  pub place_read : read_area (place_size s) (read_held s) write_held (drop at t)
      ≡ cond (sound_at s t at) (some (record { value = held_at t at; rest = drop (at + place_size s) t })) none
  unfolding read_area sound_at
  place_read = go (dec_le (length_at t at) s.f)
    where
      z : Bool
      z = zero_run t (at + 7 + length_at t at) (s.f - length_at t at)

      last : length_at t at ≤ s.f → (b : Bool)
          → bind (bind (cond b (some (record { value = tt {0}; rest = drop (at + place_size s) t })) none) (λ u v. some (record { value = held_at t at; rest = v })))
          (λ h v. check (leb (length (write_held h)) (place_size s)) h v)
          ≡ cond b (some (record { value = held_at t at; rest = drop (at + place_size s) t })) none
      last h false = refl
      last h true =
          let l : length (write_held (held_at t at)) ≤ place_size s = omega (arith, length-held (held_at t at), piece-length h) in
          ap (λ (c : Bool). check c (held_at t at) (drop (at + place_size s) t)) (le-leb (length (write_held (held_at t at))) (place_size s) l)

      tested : length_at t at ≤ s.f → (q : Bool)
          → bind (bind (check q (held_at t at) (drop (at + 7 + length_at t at) t)) (λ h v. bind (read_zeros (place_size s - length (write_held h)) v) (λ u w. some (record { value = h; rest = w }))))
          (λ h v. check (leb (length (write_held h)) (place_size s)) h v)
          ≡ cond (q && z) (some (record { value = held_at t at; rest = drop (at + place_size s) t })) none
      tested h false = refl
      tested h true = rw (spare_read h) (last h z)

      go : Dec (length_at t at ≤ s.f) → read_area (place_size s) (read_held s) write_held (drop at t)
          ≡ cond (sound_at s t at) (some (record { value = held_at t at; rest = drop (at + place_size s) t })) none
      go (yes h) = rw (held-read h) (tested h (proper s t at))
      go (no h) = rw (held-long (omega arith), improper (omega arith)) refl

-- ---- what the code finds

-- a number that its reader tells is the number there
pub number-told : (t : List ℕ) (at r : ℕ) (u : List ℕ) → at + 2 ≤ length t → read_number 2 (drop at t) ≡ some (record { value = r; rest = u }) → r ≡ number_at t at
unfolding number_at
number-told = two-read

pub version-told : (t : List ℕ) (at r : ℕ) (u : List ℕ) → at + 5 ≤ length t → read_number 4 (drop at t) ≡ some (record { value = r; rest = u })
    → ◌≡◌ {A = Version} (record { sequence = record { 0 = r }; client = get_or t (at + 4) 0 }) (version_at t at)
unfolding version_at
version-told t at r u h e =
    let q = four-read t at r u (omega arith) e in λ i. record { sequence = record { 0 = q i }; client = get_or t (at + 4) 0 }

-- the version there is what its reader tells
pub version-read : (t : List ℕ) (at : ℕ) (v : Version) → v ≡ version_at t at → at + 5 ≤ length t
    → read_version (drop at t) ≡ some (record { value = v; rest = drop (at + 5) t })
version-read t at v e h = read-version t at h ∙ ap (λ (w : Version). some (record { value = w; rest = drop (at + 5) t })) (sym e)

-- the ways out of a place's test
module _ (s : Measures) (t : List ℕ) (at : ℕ) where
  pub sound_improper : proper_at s t at ≡ false → false ≡ sound_at s t at
  unfolding sound_at proper_at
  sound_improper e = go (leb 1 (version_at t at).sequence.0) (ltb (version_at t at).client s.m) e
    where
      go : (a b : Bool) → (a && b) ≡ false → false ≡ ((a && (b && (leb 1 (length_at t at) && leb (length_at t at) s.f))) && zero_run t (at + 7 + length_at t at) (s.f - length_at t at))
      go false b e = refl
      go true false e = refl
      go true true e = absurd (true≢false e)

  module _ (len : ℕ) (l : len ≡ length_at t at) (p : proper_at s t at ≡ true) where
    proper-both : (leb 1 (version_at t at).sequence.0 ≡ true) × (ltb (version_at t at).client s.m ≡ true)
    unfolding proper_at
    proper-both = and-true (leb 1 (version_at t at).sequence.0) (ltb (version_at t at).client s.m) p

    pub sound_empty : len < 1 → false ≡ sound_at s t at
    unfolding sound_at
    sound_empty d = rw (← l) (sym (simp (proper-both.0, proper-both.1, lt-leb 1 len d)))

    pub sound-long : 1 ≤ len → s.f < len → false ≡ sound_at s t at
    unfolding sound_at
    sound-long d f = rw (← l) (sym (simp (proper-both.0, proper-both.1, le-leb 1 len d, lt-leb len s.f f)))

    pub sound_spare : 1 ≤ len → len ≤ s.f → (r : Bool) → r ≡ zero_run t (at + 7 + len) (at + 7 + s.f - (at + 7 + len)) → r ≡ sound_at s t at
    unfolding sound_at
    sound_spare d f r z =
        let k : at + 7 + s.f - (at + 7 + len) ≡ s.f - len = omega arith in
        rw (← l)
        (z ∙ ap (zero_run t (at + 7 + len)) k
        ∙ sym (simp (proper-both.0, proper-both.1, le-leb 1 len d, le-leb len s.f f)))

-- ---- the form of a version that a message names

module _ (s : Measures) (b : List ℕ) where
  pub proper-told : (at : ℕ) (v : Version) → v ≡ version_at b at → proper_version s v ≡ proper_at s b at
  unfolding proper_at
  proper-told at v e = ap (proper_version s) e

  pub alone-length : (length b ≡ 6 → ⊥) → false ≡ version_alone s b
  unfolding version_alone
  alone-length h = sym (simp (ne_eqb (length b) 6 h))

  pub alone-version : length b ≡ 6 → proper_at s b 1 ≡ version_alone s b
  unfolding version_alone
  alone-version h = sym (ap (λ (x : Bool). x && proper_at s b 1) (eq-eqb (length b) 6 h))

  pub alone-size : version_alone s b ≡ true → length b ≡ 6
  unfolding version_alone
  alone-size e = eqb-true (length b) 6 (and-true (eqb (length b) 6) (proper_at s b 1) e).0
