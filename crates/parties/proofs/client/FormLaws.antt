-- What is left after the parts of a client's record, as its form test goes over them.
use mathlib.Core.Path.{◌≡◌, refl, sym, ap, ◌∙◌}
use mathlib.Core.Bool.{Bool, true, false, cond, not, ◌&&◌}
use mathlib.Core.List.{List, [], ◌∷◌, ◌++◌}
use mathlib.Core.Option.{Option, some, none}
use Prim.Native.Nat.{ℕ, suc, ◌+◌, ◌-◌, ◌*◌, ◌^◌, ◌<◌, ◌≤◌}
use native.Mathlib.Nat.{mul-add, mul-le-mul, mul-le-mul_right}
use native.Mathlib.Decide.{ℕ_discrete, dec_le}
use native.Mathlib.Omega.{arith}
use borrow.Author.Tests.{le-leb, lt-leb, ne_eqb, eqb-true}
use lib.Dec.{leb, ltb, eqb}
use lib.ListN.{length, take, drop, length-append, length-drop}
use lib.Seq.{drop-drop, length-take-le}
use Rattle.coding.specs.Nodes.{all}
use Rattle.coding.specs.Bytes.{Bytes}
use Rattle.coding.proofs.Cases.{and-true}
use Rattle.coding.proofs.PageLaws.{none≢some, some_eq}
use Rattle.parties.specs.declared.Measures.{Measures}
use Rattle.parties.specs.declared.ReadingIndex.{ReadingIndex}
use Rattle.parties.specs.declared.Version.{Version}
use Rattle.parties.specs.protocol.Format.{Read, Reader, bind, check, both, chain, read_number, write_number, read_many, read_each, read_bytes, read_zeros, read_area}
use Rattle.parties.specs.protocol.Measures.{passes, pointer_size}
use Rattle.parties.specs.protocol.Nodes.{count}
use Rattle.parties.specs.protocol.Version.{is_no_version}
use Rattle.parties.specs.protocol.Pointer.{Pointer, Named, is_none, proper_pointer, read_version, read_named, read_pointer, write_pointer}
use Rattle.parties.specs.protocol.Directory.{read_index}
use Rattle.parties.specs.protocol.Message.{proper_version}
use Rattle.parties.specs.protocol.Client.{Phase as Work, Fetches, read_page, read_some, read_stores, read_pieces, read_fetches, read_work, write_work, work_size}
use Rattle.parties.specs.protocol.Client.{proper_reserved, read_reserved, pointer_area, read_retained, read_client}
use Rattle.parties.proofs.protocol.formats.FormatLaws.{Format, number_one, format_bytes, format_number}
use Rattle.parties.proofs.protocol.formats.MeasureLaws.{passed}
use Rattle.parties.proofs.protocol.formats.PointerLaws.{format_pointer, none-pointer}
use Rattle.parties.proofs.protocol.formats.RowLaws.{pointer-fits}
use Rattle.parties.proofs.protocol.formats.ClientLaws.{ReadsAt, format_work, phase_good, work_fits, ReadsSome, format_some}
use Rattle.parties.specs.declared.Phase.{Phase}
use Rattle.parties.specs.records.Form.{rest}
use Rattle.parties.specs.records.Places.{version_at}
use Rattle.parties.specs.client.Record.{record_of, work_at, is_some}
use Rattle.parties.proofs.records.FormLaws.{Goes, left_read, none_read, rest_make, rest-mapped, rest_both, rest-many, rest_zeros, rest_area, none_area, rest-check, none_either}
use Rattle.parties.proofs.records.FormLaws.{fixed_fits, fixed_number, fixed_many, fixed_bytes}
use Rattle.parties.proofs.records.RecordLaws.{bytes_drop, not_none, chain_some, chain-none, indices_fixed}
use Rattle.parties.proofs.records.SizeLaws.{pointer_bound, pointers_bound}
use Rattle.parties.proofs.records.PlaceLaws.{version-read}

-- ---- sizes

pub record Sizes (s : Measures) : Type 0 where
  pub clients : s.m ≤ 8
  pub nodes : s.n ≤ 16
  pub named : s.t + s.k ≤ 16
  pub bytes : s.f ≤ 4096
  pub pointer : pointer_size s ≤ 519
  pub pointers : (s.m + 1) * pointer_size s ≤ 4671
  pub frame : (4 ≤ s.k * s.f) × (s.k * s.f ≤ s.n * s.f) × (s.k * s.f ≤ 65536)
  pub pieces : (s.n * (34 + s.f) ≡ s.n * 34 + s.n * s.f) × (s.n * s.f ≤ 65536)

pub sizes : (s : Measures) → passes s ≡ true → Sizes s
sizes s h =
    let p = passed s h in
    let k : s.k ≤ s.n = omega (arith, p.enough) in
    let n : s.n * s.f ≤ 16 * 4096 = mul-le-mul p.nodes.1 p.bytes.1 in
    let f : s.k * s.f ≤ s.n * s.f = mul-le-mul_right s.f k in
    record {
      clients = p.clients.1;
      nodes = p.nodes.1;
      named = omega (arith, p.enough, p.nodes);
      bytes = p.bytes.1;
      pointer = pointer_bound s h;
      pointers = pointers_bound s h;
      frame = (p.frame, f, omega arith);
      pieces = (mul-add s.n 34 s.f, omega arith);
    }

-- ---- a value in its area at a place of t, by a form test of the value

module _ {A : Type 0} (n : ℕ) (r : Reader A) (w : A → List ℕ) (g : A → Type 0) (f : Format A r w g) (fits : (a : A) → g a → length (w a) ≤ n)
    (t : List ℕ) (b : Bytes t) (at : ℕ) where
  pub area_broken : rest (r (drop at t)) ≡ none → rest (read_area n r w (drop at t)) ≡ none
  area_broken e = none_area n r w g f fits (drop at t) (bytes_drop at t b) e

  module _ (next : ℕ) (x : Goes t at next (rest (r (drop at t)))) where
    -- the value ends within its area
    pub area_ends : next ≤ at + n
    area_ends =
        let y = left_read (r (drop at t)) (drop next t) x.left in
        let o = f.only (drop at t) y.0 (bytes_drop at t b) y.1 in
        omega (
          arith,
          fits y.0.value o.0,
          ap length o.1,
          length-append (w y.0.value) y.0.rest,
          ap length y.2,
          length-drop at t,
          length-drop next t,
          x.from,
          x.to,
        )

    pub area_left : at + n ≤ length t
        → rest (read_area n r w (drop at t)) ≡ cond (all (λ b. eqb b 0) (take (at + n - next) (drop next t))) (some (drop (at + n) t)) none
    area_left room =
        let a : at ≤ next = x.from in
        let d : next ≤ length t = x.to in
        let l : n - (length (drop at t) - length (drop next t)) ≡ at + n - next = omega (arith, length-drop at t, length-drop next t, area_ends) in
        let m : at + n - next ≤ length (drop next t) = omega (arith, length-drop next t, area_ends) in
        let k : next + (at + n - next) ≡ at + n = omega (arith, area_ends) in
        rest_area n r w g f fits (drop at t) (bytes_drop at t b) (drop next t) x.left
        ∙ ap (λ (i : ℕ). rest (read_zeros i (drop next t))) l
        ∙ rest_zeros (at + n - next) (drop next t) m
        ∙ ap (λ (z : List ℕ). cond (all (λ b. eqb b 0) (take (at + n - next) (drop next t))) (some z) none)
        (drop-drop (at + n - next) next t ∙ ap (λ (i : ℕ). drop i t) k)

-- ---- a version at a place

pub reserved_at : (s : Measures) (t : List ℕ) (at : ℕ) (v : Version) → v ≡ version_at t at → at + 5 ≤ length t
    → rest (read_reserved s (drop at t)) ≡ cond (proper_reserved s v) (some (drop (at + 5) t)) none
unfolding read_reserved
reserved_at s t at v e h = rw (version-read t at v e h) (rest-check (proper_reserved s v) v (drop (at + 5) t))

-- ---- what is kept between operations

module _ (s : Measures) where
  abbrev Kept : Type 0
  Kept = List Version × List ReadingIndex

  abbrev read_kept : Reader Kept
  read_kept = both (read_many (read_reserved s) s.m) (λ r. read_many read_index s.m) (λ r i. (r, i))

  abbrev read_others : Reader (List Pointer × Kept)
  read_others = both (read_many (pointer_area s) s.m) (λ f. read_kept) (λ f x. (f, x))

  abbrev left_kept : List ℕ → Option (List ℕ)
  left_kept v = chain (rest (read_many (read_reserved s) s.m v)) (λ w. rest (read_many read_index s.m w))

  rest-retained : (u : List ℕ) → rest (read_retained s u) ≡ chain (rest (read_many (pointer_area s) (suc s.m) u)) left_kept
  unfolding read_retained
  rest-retained u =
      rest_both (pointer_area s) read_others (λ w x. record { written = w; frozen = x.0; reserved = x.1.0; frozen_indices = x.1.1 }) u
      ∙ go (rest (pointer_area s u))
      ∙ ap (λ (o : Option (List ℕ)). chain o left_kept) (sym (rest-many (pointer_area s) s.m u))
    where
      last : (o : Option (List ℕ)) → chain o (λ w. rest (read_kept w)) ≡ chain o left_kept
      last none = refl
      last (some w) = rest_both (read_many (read_reserved s) s.m) (read_many read_index s.m) (λ r i. (r, i)) w

      go : (o : Option (List ℕ)) → chain o (λ v. rest (read_others v)) ≡ chain (chain o (λ v. rest (read_many (pointer_area s) s.m v))) left_kept
      go none = refl
      go (some v) = rest_both (read_many (pointer_area s) s.m) read_kept (λ f x. (f, x)) v ∙ last (rest (read_many (pointer_area s) s.m v))

  module _ (t : List ℕ) (room : work_at s ≤ length t) where
    abbrev after : ℕ
    after = (s.m + 1) * pointer_size s

    pub retained-broken : rest (read_many (pointer_area s) (s.m + 1) t) ≡ none → rest (read_retained s t) ≡ none
    retained-broken e =
        let k : suc s.m ≡ s.m + 1 = omega arith in rest-retained t ∙ chain-none _ left_kept (ap (λ (n : ℕ). rest (read_many (pointer_area s) n t)) k ∙ e)

    -- any four bytes are an index
    pub retained_left : rest (read_many (pointer_area s) (s.m + 1) t) ≡ some (drop after t) → (b : Bool)
        → rest (read_many (read_reserved s) s.m (drop after t)) ≡ cond b (some (drop (after + s.m * 5) t)) none
        → rest (read_retained s t) ≡ cond b (some (drop (work_at s) t)) none
    retained_left e b d =
        let k : suc s.m ≡ s.m + 1 = omega arith in
        rest-retained t ∙ chain_some _ (drop after t) left_kept (ap (λ (n : ℕ). rest (read_many (pointer_area s) n t)) k ∙ e) ∙ go b d
      where
        go : (b : Bool) → rest (read_many (read_reserved s) s.m (drop after t)) ≡ cond b (some (drop (after + s.m * 5) t)) none
            → left_kept (drop after t) ≡ cond b (some (drop (work_at s) t)) none
        go false d = chain-none _ (λ w. rest (read_many read_index s.m w)) d
        go true d =
            let l : s.m * 4 ≤ length (drop (after + s.m * 5) t) = omega (arith, length-drop (after + s.m * 5) t) in
            let j : after + s.m * 5 + s.m * 4 ≡ work_at s = omega arith in
            chain_some _ (drop (after + s.m * 5) t) (λ w. rest (read_many read_index s.m w)) d
            ∙ fixed_fits (s.m * 4) (read_many read_index s.m) (indices_fixed s.m) (drop (after + s.m * 5) t) l
            ∙ ap some (drop-drop (s.m * 4) (after + s.m * 5) t ∙ ap (λ (n : ℕ). drop n t) j)

-- ---- the work of a phase

-- a page with its length
module _ (s : Measures) (t : List ℕ) (at n : ℕ) (e : read_number 4 (drop at t) ≡ some (record { value = n; rest = drop (at + 4) t })) where
  pub page-broken : s.k * s.f - 4 < n → rest (read_page s (drop at t)) ≡ none
  unfolding read_page read_bytes
  page-broken h = rw e (go (dec_le n (length (drop (at + 4) t))))
    where
      go : Dec (n ≤ length (drop (at + 4) t))
          → rest (bind (bind (cond (leb n (length (drop (at + 4) t))) (some (record { value = take n (drop (at + 4) t); rest = drop n (drop (at + 4) t) })) none)
          (λ b u. some (record { value = b; rest = u }))) (λ a t. check (leb (length a) (s.k * s.f - 4)) a t)) ≡ none
      go (yes l) =
          let m : length (take n (drop (at + 4) t)) ≡ n = length-take-le n (drop (at + 4) t) l in
          simp (le-leb n (length (drop (at + 4) t)) l, lt-leb (length (take n (drop (at + 4) t))) (s.k * s.f - 4) (omega arith))
      go (no l) = simp (lt-leb n (length (drop (at + 4) t)) (omega arith))

  pub page-sound : n ≤ s.k * s.f - 4 → at + 4 + n ≤ length t → rest (read_page s (drop at t)) ≡ some (drop (at + 4 + n) t)
  unfolding read_page read_bytes
  page-sound h l =
      let d : n ≤ length (drop (at + 4) t) = omega (arith, length-drop (at + 4) t) in
      let m : length (take n (drop (at + 4) t)) ≡ n = length-take-le n (drop (at + 4) t) d in
      rw e
      (simp (le-leb n (length (drop (at + 4) t)) d, le-leb (length (take n (drop (at + 4) t))) (s.k * s.f - 4) (omega arith))
      (ap some (drop-drop n (at + 4) t)))

-- a version, the map of those that acknowledged it, and n digests
module _ (s : Measures) (t : List ℕ) (at : ℕ) (v : Version) (map : ℕ) (room : at + 7 + s.n * 32 ≤ length t)
    (e : v ≡ version_at t at)
    (d : read_number 2 (drop (at + 5) t) ≡ some (record { value = map; rest = drop (at + 5 + 2) t })) where
  abbrev stores_proper : Bool
  stores_proper = proper_version s v && (ltb map (2 ^ s.n) && ltb (count map) (s.t + s.k))

  stores_at : rest (read_stores s (drop at t)) ≡ cond stores_proper (some (drop (at + 7 + s.n * 32) t)) none
  unfolding read_stores
  stores_at =
      let w = at + 5 + 2 in
      let l : s.n * 32 ≤ length (drop w t) = omega (arith, length-drop w t) in
      let x = left_read (read_many (read_bytes 32) s.n (drop w t)) (drop (s.n * 32) (drop w t))
      (fixed_fits (s.n * 32) (read_many (read_bytes 32) s.n) (fixed_many 32 (read_bytes 32) (fixed_bytes 32) s.n) (drop w t) l)
      in
      let k : at + 5 + 2 + s.n * 32 ≡ at + 7 + s.n * 32 = omega arith in
      rw (version-read t at v e (omega arith))
      (rw d
      (rw x.1
      (rest-check stores_proper _ x.0.rest
      ∙ ap (λ (z : List ℕ). cond stores_proper (some z) none) (x.2 ∙ drop-drop (s.n * 32) w t ∙ ap (λ (n : ℕ). drop n t) k))))

  pub stores-broken : stores_proper ≡ false → rest (read_stores s (drop at t)) ≡ none
  stores-broken p = stores_at ∙ ap (λ (b : Bool). cond b (some (drop (at + 7 + s.n * 32) t)) none) p

  pub stores-sound : stores_proper ≡ true → rest (read_stores s (drop at t)) ≡ some (drop (at + 7 + s.n * 32) t)
  stores-sound p = stores_at ∙ ap (λ (b : Bool). cond b (some (drop (at + 7 + s.n * 32) t)) none) p

-- a pointer other than none
module _ (s : Measures) (u w : List ℕ) (v : Version) (e : read_version u ≡ some (record { value = v; rest = w })) where
  version_of : (r : Read Pointer) → read_pointer s u ≡ some r → r.value.version ≡ v
  unfolding read_pointer
  version_of r = rw e (named (read_named w))
    where
      tested : (b : Bool) (p : Pointer) (t : List ℕ) → p.version ≡ v → check b p t ≡ some r → r.value.version ≡ v
      tested true p t f d = ap (λ (x : Read Pointer). x.value.version) (sym (some_eq d)) ∙ f
      tested false p t f d = absurd (none≢some d)

      named : (o : Option (Read Named))
          → bind (bind o (λ n u. some (record { value = record { version = v; named = n }; rest = u }))) (λ p t. check (proper_pointer s p) p t) ≡ some r
          → r.value.version ≡ v
      named none d = absurd (none≢some d)
      named (some n) d = tested (proper_pointer s (record { version = v; named = n.value })) (record { version = v; named = n.value }) n.rest refl d

  some_read : (b : Bool) → ((r : Read Pointer) → read_pointer s u ≡ some r → is_none r.value ≡ b) → rest (read_some s u) ≡ cond b none (rest (read_pointer s u))
  unfolding read_some
  some_read b h = go (read_pointer s u) b h
    where
      go : (o : Option (Read Pointer)) (b : Bool) → ((r : Read Pointer) → o ≡ some r → is_none r.value ≡ b)
          → rest (bind o (λ p t. check (not (is_none p)) p t)) ≡ cond b none (rest o)
      go none true h = refl
      go none false h = refl
      go (some r) true h = rw (h r refl) refl
      go (some r) false h = rw (h r refl) refl

  pub some_broken : Bytes u → is_no_version v ≡ true → rest (read_some s u) ≡ none
  some_broken b z =
      some_read true (λ r d. none-pointer s r.value ((format_pointer s).only u r b d).0
      (ap (λ (x : Version). x.sequence.0) (version_of r d) ∙ eqb-true v.sequence.0 0 (and-true (eqb v.sequence.0 0) (eqb v.client 255) z).0))

  pub some_left : is_no_version v ≡ false → rest (read_some s u) ≡ rest (read_pointer s u)
  some_left z = some_read false (λ r d. not_none r.value (ap is_no_version (version_of r d) ∙ z))

-- and it ends within a pointer's size
pub some_ends : (s : Measures) (t : List ℕ) (at next : ℕ) → Bytes t → Goes t at next (rest (read_some s (drop at t))) → next ≤ at + pointer_size s
some_ends s t at next b =
    area_ends (pointer_size s) (read_some s) write_pointer (ReadsSome s) (format_some s) (λ p g. pointer-fits s p g.0) t b at next

-- ---- pieces

abbrev read_piece : Measures → ℕ → Reader (List ℕ)
read_piece s l = read_area s.f (read_bytes l) (λ p. p)

module _ (s : Measures) (t : List ℕ) (at l : ℕ) (room : at + s.f ≤ length t) where
  pub piece-broken : s.f < l → rest (read_piece s l (drop at t)) ≡ none
  unfolding read_area read_bytes
  piece-broken h = go (dec_le l (length (drop at t)))
    where
      spare : (o : Option (Read (Unit {0}))) (a : List ℕ) → length a ≡ l
          → rest (bind (bind o (λ z t. some (record { value = a; rest = t }))) (λ a t. check (leb (length a) s.f) a t)) ≡ none
      spare none a e = refl
      spare (some z) a e = simp (lt-leb (length a) s.f (omega arith))

      go : Dec (l ≤ length (drop at t))
          → rest (bind (bind (cond (leb l (length (drop at t))) (some (record { value = take l (drop at t); rest = drop l (drop at t) })) none)
          (λ a t. bind (read_zeros (s.f - length a) t) (λ z u. some (record { value = a; rest = u })))) (λ a t. check (leb (length a) s.f) a t)) ≡ none
      go (yes k) =
          simp (le-leb l (length (drop at t)) k)
          (spare (read_zeros (s.f - length (take l (drop at t))) (drop l (drop at t))) (take l (drop at t)) (length-take-le l (drop at t) k))
      go (no k) = simp (lt-leb l (length (drop at t)) (omega arith))

  pub piece_left : Bytes t → l ≤ s.f
      → rest (read_piece s l (drop at t)) ≡ cond (all (λ b. eqb b 0) (take (at + s.f - (at + l)) (drop (at + l) t))) (some (drop (at + s.f) t)) none
  piece_left b h =
      area_left s.f (read_bytes l) (λ p. p) (λ p. Bytes p × (length p ≡ l)) (format_bytes l) (λ p g. omega (arith, g.1)) t b at (at + l)
      (record {
        left =
            fixed_fits l (read_bytes l) (fixed_bytes l) (drop at t) (omega (arith, length-drop at t)) ∙ ap some (drop-drop l at t);
        from = omega arith;
        to = omega arith;
      })
      room

-- what is left after pieces of the lengths that were read
abbrev pub left_each : Measures → Option (Read (List ℕ)) → List ℕ → Option (List ℕ)
left_each s none u = none
left_each s (some r) u = rest (read_each (read_piece s) r.value u)

module _ (s : Measures) (t : List ℕ) where
  pub pieces_start : (at : ℕ) → at + 2 * s.n ≤ length t
      → rest (read_pieces s (drop at t)) ≡ left_each s (read_many (read_number 2) s.n (drop at t)) (drop (at + 2 * s.n) t)
  unfolding read_pieces
  pieces_start at room =
      let l : s.n * 2 ≤ length (drop at t) = omega (arith, length-drop at t) in
      let k : at + s.n * 2 ≡ at + 2 * s.n = omega arith in
      let x = left_read (read_many (read_number 2) s.n (drop at t)) (drop (s.n * 2) (drop at t))
      (fixed_fits (s.n * 2) (read_many (read_number 2) s.n) (fixed_many 2 (read_number 2) (fixed_number 2) s.n) (drop at t) l)
      in
      rw x.1
      (rest_make (λ ps. ps) (read_each (read_piece s) x.0.value x.0.rest)
      ∙ ap (λ (u : List ℕ). rest (read_each (read_piece s) x.0.value u)) (x.2 ∙ drop-drop (s.n * 2) at t ∙ ap (λ (n : ℕ). drop n t) k))

  module _ (i : ℕ) (h : i < s.n) (q p l : ℕ) (e : read_number 2 (drop q t) ≡ some (record { value = l; rest = drop (q + 2) t })) where
    each_more : (u : List ℕ)
        → left_each s (read_many (read_number 2) (s.n - i) (drop q t)) u
        ≡ chain (rest (read_piece s l u)) (λ v. left_each s (read_many (read_number 2) (s.n - (i + 1)) (drop (q + 2) t)) v)
    unfolding read_many read_each
    each_more u =
        let d : s.n - i ≡ suc (s.n - (i + 1)) = omega arith in
        rw d (rw e (go (read_many (read_number 2) (s.n - (i + 1)) (drop (q + 2) t))))
      where
        no : (o : Option (List ℕ)) → ◌≡◌ {A = Option (List ℕ)} none (chain o (λ v. none))
        no none = refl
        no (some v) = refl

        go : (o : Option (Read (List ℕ)))
            → left_each s (bind o (λ ls u. some (record { value = l ∷ ls; rest = u }))) u ≡ chain (rest (read_piece s l u)) (λ v. left_each s o v)
        go none = no (rest (read_piece s l u))
        go (some r) = rest_both (read_piece s l) (read_each (read_piece s) r.value) (λ a ps. a ∷ ps) u

    pub pieces_turn : (v : List ℕ) → rest (read_piece s l (drop p t)) ≡ some v
        → left_each s (read_many (read_number 2) (s.n - i) (drop q t)) (drop p t)
        ≡ left_each s (read_many (read_number 2) (s.n - (i + 1)) (drop (q + 2) t)) v
    pieces_turn v f = each_more (drop p t) ∙ chain_some _ v _ f

    pub pieces-broken : rest (read_piece s l (drop p t)) ≡ none → left_each s (read_many (read_number 2) (s.n - i) (drop q t)) (drop p t) ≡ none
    pieces-broken f = each_more (drop p t) ∙ chain-none _ _ f

  pub pieces_end : (i : ℕ) → s.n ≤ i → (u v : List ℕ) → left_each s (read_many (read_number 2) (s.n - i) u) v ≡ some v
  unfolding read_many read_each
  pieces_end i h u v = let d : s.n - i ≡ 0 = omega arith in rw d refl

-- ---- a reading's work

module _ (s : Measures) (t : List ℕ) (at : ℕ) where
  pub fetches_none : rest (read_some s (drop at t)) ≡ none → rest (read_fetches s (drop at t)) ≡ none
  unfolding read_fetches
  fetches_none e = rw (none_read (read_some s (drop at t)) e) refl

  module _ (p m : ℕ) (e : rest (read_some s (drop at t)) ≡ some (drop p t)) (room : p + 4 ≤ length t)
      (d : read_number 2 (drop (p + 2) t) ≡ some (record { value = m; rest = drop (p + 2 + 2) t })) where
    pub fetches_left : rest (read_fetches s (drop at t)) ≡ cond (ltb m (2 ^ s.n) && ltb (count m) s.k) (rest (read_pieces s (drop (p + 4) t))) none
    unfolding read_fetches
    fetches_left =
        let x = left_read (read_some s (drop at t)) (drop p t) e in
        let y = left_read (read_number 2 (drop p t)) (drop 2 (drop p t)) (fixed_fits 2 (read_number 2) (fixed_number 2) (drop p t) (omega (arith, length-drop p t))) in
        let k : p + 2 + 2 ≡ p + 4 = omega arith in
        rw x.1
        (rw x.2
        (rw y.1
        (rw (y.2 ∙ drop-drop 2 p t)
        (rw d (rw k (go x.0.value y.0.value (read_pieces s (drop (p + 4) t))))))))
      where
        go : (v : Pointer) (c : ℕ) (o : Option (Read (List (List ℕ))))
            → rest (bind (bind (bind (bind o (λ l u. some (record { value = (m, l); rest = u })))
            (λ (x : ℕ × List (List ℕ)) u. some (record { value = (c, x); rest = u })))
            (λ (x : ℕ × (ℕ × List (List ℕ))) u. some (record { value = record { pointer = v; counted = x.0; matching = x.1.0; pieces = x.1.1 }; rest = u })))
            (λ (x : Fetches) t. check (ltb x.matching (2 ^ s.n) && ltb (count x.matching) s.k) x t))
            ≡ cond (ltb m (2 ^ s.n) && ltb (count m) s.k) (rest o) none
        go v c none = none_either (ltb m (2 ^ s.n) && ltb (count m) s.k)
        go v c (some r) = rest-check (ltb m (2 ^ s.n) && ltb (count m) s.k) _ r.rest

-- ---- the work by its step

low : (n : ℕ) → 0 ≤ n
low n = omega arith

above : (k n : ℕ) → k ≤ n → (n ≡ k → ⊥) → k + 1 ≤ n
above k n h d = omega arith

between : (k n : ℕ) → k ≤ n → n ≤ k + 1 → (n ≡ k + 1 → ⊥) → n ≡ k
between k n h l d = omega arith

module _ (s : Measures) (u : List ℕ) where
  work_idle : rest (read_work s 0 u) ≡ some u
  unfolding read_work
  work_idle = refl

  pub work_scanning : rest (read_work s 1 u) ≡ rest (read_page s u)
  unfolding read_work
  work_scanning = rest-mapped Work.scanning (read_page s) u

  pub work_storing : rest (read_work s 2 u) ≡ rest (read_stores s u)
  unfolding read_work
  work_storing = rest-mapped (λ x. Work.storing x.version x.acknowledged x.digests) (read_stores s) u

  work_updating : rest (read_work s 3 u) ≡ rest (read_some s u)
  unfolding read_work
  work_updating = rest-mapped Work.updating (read_some s) u

  work_freezing : rest (read_work s 4 u) ≡ rest (read_some s u)
  unfolding read_work
  work_freezing = rest-mapped Work.freezing (read_some s) u

  pub work_some : (n : ℕ) → 3 ≤ n → n ≤ 4 → rest (read_work s n u) ≡ rest (read_some s u)
  work_some n a b = go (ℕ_discrete n 3)
    where
      go : Dec (n ≡ 3) → rest (read_work s n u) ≡ rest (read_some s u)
      go (yes e) = rw e work_updating
      go (no e) = let f : n ≡ 4 = omega arith in rw f work_freezing

  work_raising : rest (read_work s 5 u) ≡ some u
  unfolding read_work
  work_raising = refl

  work_picking : rest (read_work s 6 u) ≡ some u
  unfolding read_work
  work_picking = refl

  pub work_fetching : rest (read_work s 7 u) ≡ rest (read_fetches s u)
  unfolding read_work
  work_fetching = rest-mapped (λ x. Work.fetching x.pointer x.counted x.matching x.pieces) (read_fetches s) u

  pub work_other : (n : ℕ) → 7 < n → rest (read_work s n u) ≡ none
  unfolding read_work
  work_other n h =
      simp (
        ne_eqb n 0 (λ e. omega arith),
        ne_eqb n 1 (λ e. omega arith),
        ne_eqb n 2 (λ e. omega arith),
        ne_eqb n 3 (λ e. omega arith),
        ne_eqb n 4 (λ e. omega arith),
        ne_eqb n 5 (λ e. omega arith),
        ne_eqb n 6 (λ e. omega arith),
        ne_eqb n 7 (λ e. omega arith),
      )

  -- idle, raising and picking keep nothing
  pub work_empty : (n : ℕ) → n ≤ 7 → (n ≡ 1 → ⊥) → (n ≡ 2 → ⊥) → (n ≡ 3 → ⊥) → (n ≡ 4 → ⊥) → (n ≡ 7 → ⊥) → rest (read_work s n u) ≡ some u
  work_empty n h a b c d e = go (ℕ_discrete n 0) (ℕ_discrete n 5)
    where
      go : Dec (n ≡ 0) → Dec (n ≡ 5) → rest (read_work s n u) ≡ some u
      go (yes z) y = rw z work_idle
      go (no z) (yes y) = rw y work_raising
      go (no z) (no y) = rw (between 6 n (above 5 n (above 4 n (above 3 n (above 2 n (above 1 n (above 0 n (low n) z) a) b) c) d) y) h e) work_picking

-- ---- the record

some_left_is : {A : Type 0} (o : Option (Read A)) (b : Bool) (u : List ℕ) → rest o ≡ cond b (some u) none → b ≡ is_some o
some_left_is none true u e = absurd (none≢some e)
some_left_is none false u e = refl
some_left_is (some r) true u e = refl
some_left_is (some r) false u e = absurd (none≢some (sym e))

module _ (s : Measures) (h : passes s ≡ true) (p : Phase) (hr : p.reading.0 < 256 ^ 4) (t : List ℕ) where
  abbrev left_work : List ℕ → Option (List ℕ)
  left_work u = rest (read_area (work_size s) (read_work s p.step) (write_work s) u)

  rest-client : rest (read_client s (record_of p t)) ≡ chain (rest (read_retained s t)) left_work
  unfolding read_client read_index
  rest-client =
      rw (number_one p.step (write_number 4 p.reading.0 ++ t))
      (rw ((format_number 4).back p.reading.0 hr t)
      (rest_make _ (bind (bind (read_retained s t) (λ x v. bind (read_area (work_size s) (read_work s p.step) (write_work s) v) (λ w z. some (record { value = (x, w); rest = z }))))
      (λ y v. some (record { value = (p.reading, y); rest = v })))
      ∙ rest_make _ (bind (read_retained s t) (λ x v. bind (read_area (work_size s) (read_work s p.step) (write_work s) v) (λ w z. some (record { value = (x, w); rest = z }))))
      ∙ rest_both (read_retained s) (read_area (work_size s) (read_work s p.step) (write_work s)) (λ x w. (x, w)) t))

  pub client_unkept : rest (read_retained s t) ≡ none → is_some (read_client s (record_of p t)) ≡ false
  client_unkept e = sym (some_left_is (read_client s (record_of p t)) false [] (rest-client ∙ chain-none _ left_work e))

  work_room : (w : Work) → ReadsAt s p.step w → length (write_work s w) ≤ work_size s
  work_room w g = work_fits s (passed s h) w (phase_good s w g.1)

  module _ (b : Bytes t) (e : rest (read_retained s t) ≡ some (drop (work_at s) t)) where
    pub client-broken : rest (read_work s p.step (drop (work_at s) t)) ≡ none → is_some (read_client s (record_of p t)) ≡ false
    client-broken d =
        sym (some_left_is (read_client s (record_of p t)) false []
        (rest-client ∙ chain_some _ (drop (work_at s) t) left_work e
        ∙ area_broken (work_size s) (read_work s p.step) (write_work s) (ReadsAt s p.step) (format_work s p.step) work_room t b (work_at s) d))

    module _ (next : ℕ) (x : Goes t (work_at s) next (rest (read_work s p.step (drop (work_at s) t)))) where
      pub client-ends : next ≤ work_at s + work_size s
      client-ends = area_ends (work_size s) (read_work s p.step) (write_work s) (ReadsAt s p.step) (format_work s p.step) work_room t b (work_at s) next x

      pub client-sound : work_at s + work_size s ≤ length t
          → all (λ b. eqb b 0) (take (work_at s + work_size s - next) (drop next t)) ≡ is_some (read_client s (record_of p t))
      client-sound room =
          some_left_is (read_client s (record_of p t)) _ (drop (work_at s + work_size s) t)
          (rest-client ∙ chain_some _ (drop (work_at s) t) left_work e
          ∙ area_left (work_size s) (read_work s p.step) (write_work s) (ReadsAt s p.step) (format_work s p.step) work_room t b (work_at s) next x room)
