-- Joining's answers, one law for each way out, and what a joined page is.
use Rattle.std.proofs.Common.{◌≡◌, ℕ, ◌+◌, ◌-◌, ◌*◌, ◌^◌, ◌<◌, ◌≤◌, Bool, true, false, List, ◌++◌, length, get_or, take, drop, sym, refl, ap, ◌∙◌, mul-le-mul_right, arith, length-take-le, get_or-take, le-ltb, lt-ltb}
use mathlib.Core.Option.{Option, some, none}
use native.Mathlib.Decide.{dec_lt}
use lib.ListN.{get_or-eq_default}
use lib.Seq.{take-append_seam}
use Rattle.coding.specs.Grid.{Distinct}
use Rattle.coding.specs.Bytes.{Bytes}
use Rattle.coding.specs.Pieces.{proper}
use Rattle.coding.specs.Answer.{Outcome}
use Rattle.coding.specs.Nodes.{nodes_of, sound, first_length}
use Rattle.coding.specs.Join.{joined, page_of, JoinEnd, page_end, join, PiecesOf, Joins}
use Rattle.coding.proofs.PolynomialLaws.{ascending_distinct, bytes_take}
use Rattle.coding.proofs.MeasureLaws.{Proper, proper-measures, measures-small}
use Rattle.coding.proofs.NodesLaws.{nodes-within, nodes_ascend, sound-length}
use Rattle.coding.proofs.JoinLaws.{area_fits}
use Rattle.coding.proofs.RoundTripLaws.{joined-pieces, pieces-page}

module _ (n k F present : ℕ) (room lens out : List ℕ) where
  pub join-measures : proper n k F ≡ false → join n k F present room lens out ≡ record { outcome = Outcome.refuses 1; out = out }
  unfolding join
  join-measures e = simp e

  module _ (p : proper n k F ≡ true) where
    pub join-short-room : length room < n * F → join n k F present room lens out ≡ record { outcome = Outcome.refuses 2; out = out }
    unfolding join
    join-short-room h = simp (p, lt-ltb (length room) (n * F) h)

    module _ (r : n * F ≤ length room) where
      pub join_short_lens : length lens < n → join n k F present room lens out ≡ record { outcome = Outcome.refuses 2; out = out }
      unfolding join
      join_short_lens h = simp (p, le-ltb (length room) (n * F) r, lt-ltb (length lens) n h)

      module _ (s : n ≤ length lens) where
        pub join-short-out : length out < k * F - 4 → join n k F present room lens out ≡ record { outcome = Outcome.refuses 2; out = out }
        unfolding join
        join-short-out h = simp (p, le-ltb (length room) (n * F) r, le-ltb (length lens) n s, lt-ltb (length out) (k * F - 4) h)

        module _ (o : k * F - 4 ≤ length out) where
          pub join_above : 2 ^ n ≤ present → join n k F present room lens out ≡ record { outcome = Outcome.refuses 4; out = out }
          unfolding join
          join_above h =
              simp (
                p,
                le-ltb (length room) (n * F) r,
                le-ltb (length lens) n s,
                le-ltb (length out) (k * F - 4) o,
                le-ltb present (2 ^ n) h,
              )

          module _ (m : present < 2 ^ n) where
            pub join_unsound : sound F lens (nodes_of present n) ≡ false → join n k F present room lens out ≡ record { outcome = Outcome.refuses 4; out = out }
            unfolding join
            join_unsound e =
                simp (
                  p,
                  le-ltb (length room) (n * F) r,
                  le-ltb (length lens) n s,
                  le-ltb (length out) (k * F - 4) o,
                  lt-ltb present (2 ^ n) m,
                  e,
                )

            module _ (e : sound F lens (nodes_of present n) ≡ true) where
              pub join-few : length (nodes_of present n) < k → join n k F present room lens out ≡ record { outcome = Outcome.refuses 9; out = out }
              unfolding join
              join-few h =
                  simp (
                    p,
                    le-ltb (length room) (n * F) r,
                    le-ltb (length lens) n s,
                    le-ltb (length out) (k * F - 4) o,
                    lt-ltb present (2 ^ n) m,
                    e,
                    lt-ltb (length (nodes_of present n)) k h,
                  )

              pub join-page : k ≤ length (nodes_of present n)
                  → join n k F present room lens out
                  ≡ page_end (page_of k (joined F room (take k (nodes_of present n)) (first_length lens (nodes_of present n)))) out
              unfolding join
              join-page h =
                  simp (
                    p,
                    le-ltb (length room) (n * F) r,
                    le-ltb (length lens) n s,
                    le-ltb (length out) (k * F - 4) o,
                    lt-ltb present (2 ^ n) m,
                    e,
                    le-ltb (length (nodes_of present n)) k h,
                  )

-- the k lowest nodes
module _ (n k F present : ℕ) (room lens : List ℕ) (p : Proper n k F) (r : n * F ≤ length room) (e : sound F lens (nodes_of present n) ≡ true)
    (h : k ≤ length (nodes_of present n)) where
  pub lowest_length : length (take k (nodes_of present n)) ≡ k
  lowest_length = length-take-le k (nodes_of present n) h

  pub lowest_at : (s : ℕ) → s < k → get_or (take k (nodes_of present n)) s 0 ≡ get_or (nodes_of present n) s 0
  lowest_at s l = get_or-take k (nodes_of present n) s 0 l

  pub lowest_bytes : Bytes (take k (nodes_of present n))
  lowest_bytes = bytes_take k (nodes_of present n) (nodes-bytes present n p.nodes.1)
    where
      nodes-bytes : (map n : ℕ) → n ≤ 16 → Bytes (nodes_of map n)
      nodes-bytes map n b i = go (dec_lt i (length (nodes_of map n)))
        where
          go : Dec (i < length (nodes_of map n)) → get_or (nodes_of map n) i 0 < 256
          go (yes l) = omega (arith, nodes-within map n i l)
          go (no l) = let z : get_or (nodes_of map n) i 0 ≡ 0 = get_or-eq_default (nodes_of map n) 0 (omega arith) in omega arith

  pub lowest_distinct : Distinct (take k (nodes_of present n))
  lowest_distinct = ascending_distinct k (nodes_of present n) (λ i l. nodes_ascend present n i (omega arith))

  pub lowest_area : (s : ℕ) → s < k → (get_or (take k (nodes_of present n)) s 0 - 1) * F + first_length lens (nodes_of present n) ≤ length room
  lowest_area s l =
      let c : s < length (nodes_of present n) = omega arith in
      let w = nodes-within present n s c in
      let L = first_length lens (nodes_of present n) in
      let t = sound-length F lens (nodes_of present n) (omega (arith, p.parts.0)) e in
      let b : get_or (nodes_of present n) s 0 * F ≤ length room = omega (arith, mul-le-mul_right F w.1) in
      let z : 0 + L ≤ F = omega arith in
      rw (lowest_at s l) (omega (arith, area_fits (get_or (nodes_of present n) s 0) F 0 L (length room) w.0 b z))

pub refused : (a len : ℕ) → Outcome.refuses a ≡ Outcome.gives len → ⊥
refused a len e = let z : ◌≡◌ {A = ℕ} 0 1 = cc in omega arith

gives_eq : (a b : ℕ) → Outcome.gives a ≡ Outcome.gives b → a ≡ b
gives_eq a b e = cc

-- a page that is given is one whose pieces these are
abbrev Claim : ℕ → ℕ → ℕ → ℕ → List ℕ → List ℕ → ℕ → JoinEnd → Type 0
Claim n k F present room lens len j =
    j.outcome ≡ Outcome.gives len → PiecesOf k F room (nodes_of present n) (first_length lens (nodes_of present n)) (take len j.out)

module _ (n k F present : ℕ) (room lens out : List ℕ) (b : Bytes room) where
  pub joined-page : proper n k F ≡ true → n * F ≤ length room → n ≤ length lens → k * F - 4 ≤ length out → present < 2 ^ n
      → sound F lens (nodes_of present n) ≡ true → k ≤ length (nodes_of present n) → (page : List ℕ) → Bytes page → length page ≤ k * F - 4
      → PiecesOf k F room (nodes_of present n) (first_length lens (nodes_of present n)) page
      → join n k F present room lens out ≡ record { outcome = Outcome.gives (length page); out = page ++ drop (length page) out }
  joined-page p r s o m e h page bp lp w =
      let u = proper-measures n k F p in
      let c : length page < 2 ^ 32 = omega (arith, measures-small n k F u) in
      join-page n k F present room lens out p r s o m e h
      ∙ ap (λ (v : Option (List ℕ)). page_end v out)
      (pieces-page k F (first_length lens (nodes_of present n)) room (take k (nodes_of present n)) u.parts.0 b
      (lowest_length n k F present room lens u r e h) (lowest_bytes n k F present room lens u r e h) (lowest_distinct n k F present room lens u r e h)
      page bp c (lowest_area n k F present room lens u r e h)
      (λ i l. rw (lowest_at n k F present room lens u r e h i l) (w i l)))

  given : proper n k F ≡ true → n * F ≤ length room → sound F lens (nodes_of present n) ≡ true → k ≤ length (nodes_of present n)
      → (v : Option (List ℕ)) → page_of k (joined F room (take k (nodes_of present n)) (first_length lens (nodes_of present n))) ≡ v → (len : ℕ)
      → (page_end v out).outcome ≡ Outcome.gives len
      → PiecesOf k F room (nodes_of present n) (first_length lens (nodes_of present n)) (take len (page_end v out).out)
  given p r e h none z len q = absurd (refused 4 len q)
  given p r e h (some page) z len q =
      let u = proper-measures n k F p in
      let t : take len (page ++ drop (length page) out) ≡ page =
      ap (λ (x : ℕ). take x (page ++ drop (length page) out)) (sym (gives_eq (length page) len q)) ∙ take-append_seam page (drop (length page) out)
      in
      λ s l.
      rw t
      (rw (← lowest_at n k F present room lens u r e h s l)
      (joined-pieces k F (first_length lens (nodes_of present n)) room (take k (nodes_of present n)) u.parts.0 b
      (lowest_length n k F present room lens u r e h) (lowest_bytes n k F present room lens u r e h) (lowest_distinct n k F present room lens u r e h)
      page z s l (lowest_area n k F present room lens u r e h s l)))

  counted : (len : ℕ) (p : proper n k F ≡ true) (r : n * F ≤ length room) (s : n ≤ length lens) (o : k * F - 4 ≤ length out)
      (m : present < 2 ^ n) (e : sound F lens (nodes_of present n) ≡ true) → Dec (length (nodes_of present n) < k) → Claim n k F present room lens len (join n k F present room lens out)
  counted len p r s o m e (yes h) = rw (join-few n k F present room lens out p r s o m e h) (λ q. absurd (refused 9 len q))
  counted len p r s o m e (no h) =
      let l : k ≤ length (nodes_of present n) = omega arith in
      rw (join-page n k F present room lens out p r s o m e l) (given p r e l (page_of k (joined F room (take k (nodes_of present n)) (first_length lens (nodes_of present n)))) refl len)

  formed : (len : ℕ) (p : proper n k F ≡ true) (r : n * F ≤ length room) (s : n ≤ length lens) (o : k * F - 4 ≤ length out)
      → Dec (present < 2 ^ n) → (t : Bool) → sound F lens (nodes_of present n) ≡ t → Claim n k F present room lens len (join n k F present room lens out)
  formed len p r s o (no m) t e = rw (join_above n k F present room lens out p r s o (omega arith)) (λ q. absurd (refused 4 len q))
  formed len p r s o (yes m) false e = rw (join_unsound n k F present room lens out p r s o m e) (λ q. absurd (refused 4 len q))
  formed len p r s o (yes m) true e = counted len p r s o m e (dec_lt (length (nodes_of present n)) k)

  long : (len : ℕ) (p : proper n k F ≡ true) → Dec (length room < n * F) → Dec (length lens < n) → Dec (length out < k * F - 4)
      → Claim n k F present room lens len (join n k F present room lens out)
  long len p (yes r) s o = rw (join-short-room n k F present room lens out p r) (λ q. absurd (refused 2 len q))
  long len p (no r) (yes s) o = rw (join_short_lens n k F present room lens out p (omega arith) s) (λ q. absurd (refused 2 len q))
  long len p (no r) (no s) (yes o) = rw (join-short-out n k F present room lens out p (omega arith) (omega arith) o) (λ q. absurd (refused 2 len q))
  long len p (no r) (no s) (no o) =
      formed len p (omega arith) (omega arith) (omega arith) (dec_lt present (2 ^ n)) (sound F lens (nodes_of present n)) refl

  passed : (len : ℕ) → (join n k F present room lens out).outcome ≡ Outcome.gives len → (t : Bool) → proper n k F ≡ t
      → PiecesOf k F room (nodes_of present n) (first_length lens (nodes_of present n)) (take len (join n k F present room lens out).out)
  passed len q false p = absurd (refused 1 len (sym (ap (λ (v : JoinEnd). v.outcome) (join-measures n k F present room lens out p)) ∙ q))
  passed len q true p = long len p (dec_lt (length room) (n * F)) (dec_lt (length lens) n) (dec_lt (length out) (k * F - 4)) q

  -- the pages that joining gives are those whose pieces these are, and it gives each such page
  pub joins : Joins n k F present room lens out (join n k F present room lens out).outcome (join n k F present room lens out).out
  joins =
      record {
        page = λ len q. passed len q (proper n k F) refl;
        found = λ p r s o m e h page bp lp w.
            let a = joined-page p r s o m e h page bp lp w in (ap (λ (v : JoinEnd). v.outcome) a, ap (λ (v : JoinEnd). v.out) a);
      }

  -- an answer that is the specification's
  pub answered : (o : Outcome) (end : List ℕ) → o ≡ (join n k F present room lens out).outcome → end ≡ (join n k F present room lens out).out
      → (o ≡ (join n k F present room lens out).outcome) × (end ≡ (join n k F present room lens out).out) × Joins n k F present room lens out o end
  answered o end p q = (p, q, rw (p, q) joins)

  pub answered_refusal : (o : Outcome) → join n k F present room lens out ≡ record { outcome = o; out = out }
      → (o ≡ (join n k F present room lens out).outcome) × (out ≡ (join n k F present room lens out).out) × Joins n k F present room lens out o out
  answered_refusal o e = answered o out (sym (ap (λ (v : JoinEnd). v.outcome) e)) (sym (ap (λ (v : JoinEnd). v.out) e))
