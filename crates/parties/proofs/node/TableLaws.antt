-- A node table: what its reader tells, as tests on its bytes, and what it shows.
use mathlib.Core.Path.{◌≡◌, refl, sym, ap, ◌∙◌}
use mathlib.Core.Bool.{Bool, true, false, cond, ◌&&◌}
use mathlib.Core.List.{List}
use mathlib.Core.Option.{some, none}
use Prim.Native.Nat.{ℕ, ◌+◌, ◌-◌, ◌*◌, ◌<◌, ◌≤◌}
use native.Mathlib.Nat.{add-mul}
use native.Mathlib.Decide.{dec_le}
use native.Mathlib.Omega.{arith}
use borrow.Author.Tests.{le-leb, lt-leb, leb-true}
use lib.Dec.{leb}
use lib.ListN.{length, drop}
use Rattle.coding.proofs.Cases.{and-true}
use Rattle.parties.specs.declared.Measures.{Measures}
use Rattle.parties.specs.declared.Version.{Version}
use Rattle.parties.specs.protocol.Format.{bind, check, read_number, read_zeros, read_area}
use Rattle.parties.specs.protocol.Measures.{places, place_size}
use Rattle.parties.specs.protocol.Version.{ascending}
use Rattle.parties.specs.protocol.Version as version
use Rattle.parties.specs.protocol.NodeTable.{Held, read_held, write_held, in_order, read_places, read_table}
use Rattle.parties.specs.records.Places.{number_at, version_at, held_at, held_from, zero_run, sound_at, sound_from, sound_table, every}
use Rattle.parties.proofs.records.PositionLaws.{from-map, ordered-all, given-read}
use Rattle.parties.proofs.records.PlaceLaws.{read_number_lem, place_read, zeros_read}

module _ (s : Measures) (t : List ℕ) where
  -- a place of form has a sequence of at least 1
  sound_sequence : (at : ℕ) → sound_at s t at ≡ true → 1 ≤ (version_at t at).sequence.0
  unfolding sound_at
  sound_sequence at e = leb-true 1 (version_at t at).sequence.0 (and-true (leb 1 (version_at t at).sequence.0) _ (and-true _ _ e).0).0

  pub sound-ordered : (at n : ℕ) → sound_from s t version.no_version at n ≡ (every (sound_at s t) (place_size s) at n && in_order (held_from (place_size s) t at n))
  sound-ordered at n =
      ordered-all (sound_at s t) (version_at t) (place_size s) sound_sequence at n
      ∙ ap (λ (l : List Version). every (sound_at s t) (place_size s) at n && ascending l) (sym (from-map (λ h. h.version) (held_at t) (place_size s) at n))

  -- the filled places
  pub places-read : (n : ℕ) → 2 + n * place_size s ≤ length t
      → read_places s n (drop 2 t)
      ≡ cond (sound_from s t version.no_version 2 n) (some (record { value = held_from (place_size s) t 2 n; rest = drop (2 + n * place_size s) t })) none
  unfolding read_places
  places-read n h =
      given-read (read_area (place_size s) (read_held s) write_held) t (place_size s) (sound_at s t) (held_at t) (place_read s t) in_order 2 n h
      (sound_from s t version.no_version 2 n) (sound-ordered 2 n)

  count-read : 2 + places s * place_size s ≤ length t → read_number 2 t ≡ some (record { value = number_at t 0; rest = drop 2 t })
  count-read h = read_number_lem t 0 (omega arith)

  -- a table is read if its tests hold
  pub table-read : 2 + places s * place_size s ≤ length t
      → read_table s t
      ≡ cond (sound_table s t) (some (record { value = held_from (place_size s) t 2 (number_at t 0); rest = drop (2 + places s * place_size s) t })) none
  unfolding read_table sound_table
  table-read h = rw (count-read h) (go (dec_le (number_at t 0) (places s)))
    where
      n : ℕ
      n = number_at t 0

      l : List Held
      l = held_from (place_size s) t 2 n

      z : Bool
      z = zero_run t (2 + n * place_size s) ((places s - n) * place_size s)

      zeros : (b : Bool)
          → bind (bind (cond b (some (record { value = tt {0}; rest = drop (2 + places s * place_size s) t })) none) (λ u v. some (record { value = l; rest = v })))
          (λ x u. some (record { value = x; rest = u }))
          ≡ cond b (some (record { value = l; rest = drop (2 + places s * place_size s) t })) none
      zeros true = refl
      zeros false = refl

      filled : read_zeros ((places s - n) * place_size s) (drop (2 + n * place_size s) t)
          ≡ cond z (some (record { value = tt {0}; rest = drop (2 + places s * place_size s) t })) none
          → (b : Bool)
          → bind (bind (cond b (some (record { value = l; rest = drop (2 + n * place_size s) t })) none)
          (λ x u. bind (read_zeros ((places s - n) * place_size s) u) (λ y v. some (record { value = x; rest = v }))))
          (λ x u. some (record { value = x; rest = u }))
          ≡ cond (b && z) (some (record { value = l; rest = drop (2 + places s * place_size s) t })) none
      filled q false = refl
      filled q true = rw q (zeros z)

      go : Dec (n ≤ places s)
          → bind (check (leb n (places s)) n (drop 2 t))
          (λ k u. bind (bind (read_places s k u) (λ x v. bind (read_zeros ((places s - k) * place_size s) v) (λ y w. some (record { value = x; rest = w }))))
          (λ x v. some (record { value = x; rest = v })))
          ≡ cond (leb n (places s) && (sound_from s t version.no_version 2 n && z)) (some (record { value = l; rest = drop (2 + places s * place_size s) t })) none
      go (no q) = rw (lt-leb n (places s) (omega arith)) refl
      go (yes q) =
          let a : places s * place_size s ≡ n * place_size s + (places s - n) * place_size s =
          ap (λ (x : ℕ). x * place_size s) (omega arith) ∙ add-mul n (places s - n) (place_size s)
          in
          let e : 2 + n * place_size s + (places s - n) * place_size s ≡ 2 + places s * place_size s = omega arith in
          rw (le-leb n (places s) q, places-read n (omega arith))
          (filled
          (zeros_read t (2 + n * place_size s) ((places s - n) * place_size s) (omega arith)
          ∙ ap (λ (k : ℕ). cond z (some (record { value = tt {0}; rest = drop k t })) none) e)
          (sound_from s t version.no_version 2 n))

-- the ways out of a table's test
module _ (s : Measures) (t : List ℕ) (n : ℕ) (e : n ≡ number_at t 0) where
  pub table-many : places s < n → false ≡ sound_table s t
  unfolding sound_table
  table-many h = rw (← e) (sym (simp (lt-leb n (places s) h)))

  pub table-broken : n ≤ places s → sound_from s t version.no_version 2 n ≡ false → false ≡ sound_table s t
  unfolding sound_table
  table-broken h a = rw (← e) (sym (simp (le-leb n (places s) h, a)))

  pub table-rest : n ≤ places s → sound_from s t version.no_version 2 n ≡ true
      → (r : Bool) → r ≡ zero_run t (2 + n * place_size s) (2 + places s * place_size s - (2 + n * place_size s)) → r ≡ sound_table s t
  unfolding sound_table
  table-rest h a r z =
      let b : places s * place_size s ≡ n * place_size s + (places s - n) * place_size s =
      ap (λ (x : ℕ). x * place_size s) (omega arith) ∙ add-mul n (places s - n) (place_size s)
      in
      let k : 2 + places s * place_size s - (2 + n * place_size s) ≡ (places s - n) * place_size s = omega arith in
      rw (← e) (z ∙ ap (zero_run t (2 + n * place_size s)) k ∙ sym (simp (le-leb n (places s) h, a)))

pub table_none : (s : Measures) (t : List ℕ) → 2 + places s * place_size s ≤ length t → sound_table s t ≡ false → read_table s t ≡ none
table_none s t h e = rw (table-read s t h, e) refl
