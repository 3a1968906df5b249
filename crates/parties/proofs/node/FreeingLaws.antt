-- Kept places go down over dropped ones: the invariant of that walk, one law for each turn.
use mathlib.Core.Path.{◌≡◌, refl, sym, ap, subst, ◌∙◌}
use mathlib.Core.Bool.{true, false}
use mathlib.Core.List.{List, [], ◌++◌, append_assoc, append-nil}
use Prim.Native.Nat.{ℕ, suc, ◌+◌, ◌-◌, ◌*◌, ◌<◌, ◌≤◌}
use native.Mathlib.Nat.{zero-mul}
use native.Mathlib.Omega.{arith}
use lib.ListN.{length, get_or, take, drop, length-append, length-drop}
use lib.Seq.{take_at, drop_at, drop-drop, get_or-drop, length-take-le, take-add}
use Rattle.coding.specs.Bytes.{Bytes}
use Rattle.coding.proofs.BytesLaws.{stride}
use Rattle.parties.specs.declared.Measures.{Measures}
use Rattle.parties.specs.declared.Version.{Version}
use Rattle.parties.specs.protocol.Format.{write_many}
use Rattle.parties.specs.protocol.Measures.{place_size}
use Rattle.parties.specs.protocol.Version.{ascending}
use Rattle.parties.specs.protocol.NodeTable.{Held, in_order}
use Rattle.parties.specs.protocol.Node.{release}
use Rattle.parties.specs.records.Places.{version_at, held_at, held_from, sound_at, every, splice, place_of}
use Rattle.parties.specs.node.ToNode.{versions_from}
use Rattle.parties.specs.node.NodeCode.{list_behind, list_names, Listed, Released}
use Rattle.parties.proofs.records.PositionLaws.{from-none, every_first, one_less}
use Rattle.parties.proofs.records.SpliceLaws.{length-splice, splice-next, splice_self}
use Rattle.parties.proofs.node.ShownLaws.{place_bytes, place_fits, place_size_lem}
use Rattle.parties.proofs.node.DropLaws.{next-order, next-ascends, walk_behind, walk_named, walk_kept}

-- what is read from a position on depends on the bytes there
version-same : (t u : List ℕ) (at : ℕ) → drop at t ≡ drop at u → version_at t at ≡ version_at u at
unfolding version_at
version-same t u at e =
    λ i. record {
      sequence = record { 0 = ((first i * 256 + byte 1 i) * 256 + byte 2 i) * 256 + byte 3 i };
      client = byte 4 i;
    }
  where
    byte : (k : ℕ) → get_or t (at + k) 0 ≡ get_or u (at + k) 0
    byte k = sym (get_or-drop at t k 0) ∙ ap (λ (l : List ℕ). get_or l k 0) e ∙ get_or-drop at u k 0

    first : get_or t at 0 ≡ get_or u at 0
    first = let q : at ≡ at + 0 = omega arith in ap (λ (n : ℕ). get_or t n 0) q ∙ byte 0 ∙ sym (ap (λ (n : ℕ). get_or u n 0) q)

-- a splice up to its end, and after it
module _ (t : List ℕ) (at : ℕ) (x : List ℕ) (h : at ≤ length t) where
  head : length (take at t ++ x) ≡ at + length x
  head = length-append (take at t) x ∙ ap (λ (n : ℕ). n + length x) (length-take-le at t h)

  pub take-splice : take (at + length x) (splice t at x) ≡ take at t ++ x
  unfolding splice
  take-splice =
      ap (take (at + length x)) (sym (append_assoc (take at t) x (drop (at + length x) t))) ∙ take_at (take at t ++ x) (drop (at + length x) t) (at + length x) head

  pub drop-splice : (k : ℕ) → at + length x ≤ k → drop k (splice t at x) ≡ drop k t
  unfolding splice
  drop-splice k q =
      let e : k ≡ at + length x + (k - (at + length x)) = omega arith in
      ap (λ (n : ℕ). drop n (take at t ++ (x ++ drop (at + length x) t))) e
      ∙ sym (drop-drop (k - (at + length x)) (at + length x) (take at t ++ (x ++ drop (at + length x) t)))
      ∙ ap (drop (k - (at + length x)))
      (ap (drop (at + length x)) (sym (append_assoc (take at t) x (drop (at + length x) t))) ∙ drop_at (take at t ++ x) (drop (at + length x) t) (at + length x) head)
      ∙ drop-drop (k - (at + length x)) (at + length x) t
      ∙ ap (λ (n : ℕ). drop n t) (sym e)

-- the kept places so far and those still to be kept are all that are kept
pub record Freeing (s : Measures) (t₀ b : List ℕ) (n m : ℕ) (t : List ℕ) (from left at more to kept : ℕ) : Type 0 where
  pub same : length t ≡ length t₀
  pub place : to ≡ 2 + kept * place_size s
  pub lower : to ≤ from
  pub fewer : kept + left ≤ n
  pub stop : from + left * place_size s ≡ 2 + n * place_size s
  pub inside : 2 + n * place_size s ≤ length t₀
  pub listed : at + more * 5 ≤ length b
  pub rest : drop from t ≡ drop from t₀
  pub front : take to t ++ write_many (place_of s) (release (versions_from b at more) (held_from (place_size s) t₀ from left))
      ≡ take 2 t₀ ++ write_many (place_of s) (release (versions_from b 1 m) (held_from (place_size s) t₀ 2 n))
  pub many : kept + length (release (versions_from b at more) (held_from (place_size s) t₀ from left)) ≡ length (release (versions_from b 1 m) (held_from (place_size s) t₀ 2 n))
  pub each : every (sound_at s t₀) (place_size s) from left ≡ true
  pub order : in_order (held_from (place_size s) t₀ from left) ≡ true
  pub ascends : ascending (versions_from b at more) ≡ true

module _ (s : Measures) (t₀ b : List ℕ) (n m : ℕ) (t : List ℕ) (from left at more to kept : ℕ) (i : Freeing s t₀ b n m t from left at more to kept) where
  pub freeing_end : left ≤ 0 → Released s t₀ b n m t kept
  unfolding release write_many
  freeing_end h =
      let z = place_size s in
      let e : held_from z t₀ from left ≡ [] = from-none (held_at t₀) z from left h in
      let k : left ≡ 0 = omega arith in
      let j : from ≡ 2 + n * z = omega (arith, i.stop, zero-mul z, ap (λ (x : ℕ). x * z) k) in
      record {
        many = sym (omega (arith, ap (λ (l : List Held). length (release (versions_from b at more) l)) e)) ∙ i.many;
        front =
            ap (λ (x : ℕ). take x t) (sym i.place)
            ∙ sym (append-nil (take to t))
            ∙ ap (λ (l : List Held). take to t ++ write_many (place_of s) (release (versions_from b at more) l)) (sym e)
            ∙ i.front;
        rest = rw (← j) i.rest;
        same = i.same;
        fewer = omega (arith, i.fewer);
      }

  module _ (h : 0 < left) where
    next_stop : from + place_size s + (left - 1) * place_size s ≡ 2 + n * place_size s
    next_stop = omega (arith, i.stop, one_less left (place_size s) h)

    pub place_inside : from + place_size s ≤ length t₀
    place_inside = omega (arith, next_stop, i.inside)

    -- the code reads the table as it is now
    now_there : version_at t from ≡ version_at t₀ from
    now_there = version-same t t₀ from i.rest

    pub freeing_behind : (v : Version) → v ≡ version_at t from → list_behind v b at more ≡ true → (0 < more) × Freeing s t₀ b n m t from left (at + 5) (more - 1) to kept
    freeing_behind v e q =
        let w = walk_behind (place_size s) t₀ b from left at more h i.order (sym (ap (λ (v : Version). list_behind v b at more) (e ∙ now_there)) ∙ q) in
        let k : 0 < more = w.0 in (
          k,
          record {
            same = i.same;
            place = i.place;
            lower = i.lower;
            fewer = i.fewer;
            stop = i.stop;
            inside = i.inside;
            listed = omega (arith, i.listed);
            rest = i.rest;
            front = ap (λ (l : List Held). take to t ++ write_many (place_of s) l) (sym w.1) ∙ i.front;
            many = ap (λ (l : List Held). kept + length l) (sym w.1) ∙ i.many;
            each = i.each;
            order = i.order;
            ascends = next-ascends (place_size s) t₀ b from left at more k i.ascends;
          },
        )

    -- the place after this one
    next-rest : drop (from + place_size s) t ≡ drop (from + place_size s) t₀
    next-rest = sym (drop-drop (place_size s) from t) ∙ ap (drop (place_size s)) i.rest ∙ drop-drop (place_size s) from t₀

    next-each : every (sound_at s t₀) (place_size s) (from + place_size s) (left - 1) ≡ true
    next-each = (every_first (sound_at s t₀) (place_size s) from left h i.each).1

    pub freeing_named : (v : Version) → v ≡ version_at t from → list_names v b at more ≡ true → Freeing s t₀ b n m t (from + place_size s) (left - 1) at more to kept
    freeing_named v e q =
        let w = walk_named (place_size s) t₀ b from left at more h (sym (ap (λ (v : Version). list_names v b at more) (e ∙ now_there)) ∙ q) in
        record {
          same = i.same;
          place = i.place;
          lower = omega (arith, i.lower);
          fewer = omega (arith, i.fewer);
          stop = next_stop;
          inside = i.inside;
          listed = i.listed;
          rest = next-rest;
          front = ap (λ (l : List Held). take to t ++ write_many (place_of s) l) (sym w) ∙ i.front;
          many = ap (λ (l : List Held). kept + length l) (sym w) ∙ i.many;
          each = next-each;
          order = next-order (place_size s) t₀ b from left at more h i.order;
          ascends = i.ascends;
        }

    pub freeing_kept : Bytes t₀ → (v : Version) → v ≡ version_at t from → list_behind v b at more ≡ false → list_names v b at more ≡ false → (u : List ℕ)
        → u ≡ splice t to (take (place_size s) (drop from t)) → Freeing s t₀ b n m u (from + place_size s) (left - 1) at more (to + place_size s) (kept + 1)
    unfolding write_many
    freeing_kept bs v ev p q u e =
        let z = place_size s in
        let x = held_at t₀ from in
        let w = walk_kept z t₀ b from left at more h i.ascends (sym (ap (λ (v : Version). list_behind v b at more) (ev ∙ now_there)) ∙ p) (sym (ap (λ (v : Version). list_names v b at more) (ev ∙ now_there)) ∙ q) in
        let sound : sound_at s t₀ from ≡ true = (every_first (sound_at s t₀) z from left h i.each).0 in
        let piece : take z (drop from t) ≡ place_of s x = ap (take z) i.rest ∙ place_bytes s t₀ from bs place_inside sound in
        let size : length (place_of s x) ≡ z = place_size_lem s x (place_fits s t₀ from bs place_inside sound) in
        let eu : u ≡ splice t to (place_of s x) = e ∙ ap (splice t to) piece in
        let fits : to + length (place_of s x) ≤ length t = omega (arith, size, i.lower, i.same, place_inside) in
        let r = release (versions_from b at more) (held_from z t₀ (from + z) (left - 1)) in
        let front : take (to + z) u ≡ take to t ++ place_of s x =
        ap (λ (k : ℕ). take (to + k) u) (sym size) ∙ ap (take (to + length (place_of s x))) eu ∙ take-splice t to (place_of s x) (omega arith) in
        record {
          same = ap length eu ∙ length-splice t to (place_of s x) fits ∙ i.same;
          place = omega (arith, i.place, stride kept z);
          lower = omega (arith, i.lower);
          fewer = omega (arith, i.fewer);
          stop = next_stop;
          inside = i.inside;
          listed = i.listed;
          rest = ap (drop (from + z)) eu ∙ drop-splice t to (place_of s x) (omega arith) (from + z) (omega (arith, size, i.lower)) ∙ next-rest;
          front =
              ap (λ (l : List ℕ). l ++ write_many (place_of s) r) front
              ∙ append_assoc (take to t) (place_of s x) (write_many (place_of s) r)
              ∙ ap (λ (l : List Held). take to t ++ write_many (place_of s) l) (sym w)
              ∙ i.front;
          many =
              (let d : kept + 1 + length r ≡ kept + suc (length r) = omega arith in d) ∙ ap (λ (l : List Held). kept + length l) (sym w) ∙ i.many;
          each = next-each;
          order = next-order z t₀ b from left at more h i.order;
          ascends = i.ascends;
        }

-- ---- a run of kept places

-- the bytes from `run` to `from` are still to go down to `to`
abbrev pub lowered_run : List ℕ → ℕ → ℕ → ℕ → List ℕ
lowered_run t from run to = splice t to (take (from - run) (drop run t))

-- the walk, once the run is down
pub record Pending (s : Measures) (t₀ b : List ℕ) (n m : ℕ) (t : List ℕ) (from left at more run to kept : ℕ) : Type 0 where
  pub freeing : Freeing s t₀ b n m (lowered_run t from run to) from left at more (to + (from - run)) kept
  pub down : to ≤ run
  pub begun : run ≤ from
  pub behind : drop run t ≡ drop run t₀
  pub long : length t ≡ length t₀

-- no bytes
splice-none : (t x : List ℕ) (at k : ℕ) → k ≡ 0 → splice t at (take k x) ≡ t
splice-none t x at k e = ap (λ (j : ℕ). splice t at (take j x)) e ∙ sym (splice_self t at 0)

-- before the first turn
pub pending_first : (s : Measures) (t₀ b : List ℕ) (n m : ℕ) → Listed s t₀ b n m → Pending s t₀ b n m t₀ 2 n 1 m 2 2 0
pending_first s t₀ b n m l =
    record {
      freeing =
          subst (λ (u : List ℕ). Freeing s t₀ b n m u 2 n 1 m 2 0) (splice_self t₀ 2 0)
          record {
            same = refl;
            place = omega (arith, zero-mul (place_size s));
            lower = omega arith;
            fewer = omega arith;
            stop = refl;
            inside = l.places;
            listed = l.list;
            rest = refl;
            front = refl;
            many = omega arith;
            each = l.each;
            order = l.order;
            ascends = l.ascends;
          };
      down = omega arith;
      begun = omega arith;
      behind = refl;
      long = refl;
    }

module _ (s : Measures) (t₀ b : List ℕ) (n m : ℕ) (t : List ℕ) (from left at more run to kept : ℕ) (i : Pending s t₀ b n m t from left at more run to kept) where
  abbrev u : List ℕ
  u = lowered_run t from run to

  beyond : drop from t ≡ drop from t₀
  beyond =
      let e : from ≡ run + (from - run) = omega (arith, i.begun) in
      rw e (sym (drop-drop (from - run) run t) ∙ ap (drop (from - run)) i.behind ∙ drop-drop (from - run) run t₀)

  -- the code reads the table in which the run is still to go down
  same-version : version_at t from ≡ version_at u from
  same-version = version-same t u from (beyond ∙ sym i.freeing.rest)

  pub pending_fits : from ≤ length t
  pending_fits = omega (arith, i.freeing.stop, i.freeing.inside, i.long)

  pub pending_end : left ≤ 0 → (w : List ℕ) → w ≡ lowered_run t from run to → Released s t₀ b n m w kept
  pending_end h w e =
      subst (λ (x : List ℕ). Released s t₀ b n m x kept) (sym e)
      (freeing_end s t₀ b n m u from left at more (to + (from - run)) kept i.freeing h)

  module _ (h : 0 < left) where
    pub pending_behind : (v : Version) → v ≡ version_at t from → list_behind v b at more ≡ true
        → (0 < more) × Pending s t₀ b n m t from left (at + 5) (more - 1) run to kept
    pending_behind v e q =
        let f = freeing_behind s t₀ b n m u from left at more (to + (from - run)) kept i.freeing h v (e ∙ same-version) q in
        (f.0, record { freeing = f.1; down = i.down; begun = i.begun; behind = i.behind; long = i.long })

    pub pending_named : (v : Version) → v ≡ version_at t from → list_names v b at more ≡ true → (w : List ℕ) → w ≡ lowered_run t from run to
        → Pending s t₀ b n m w (from + place_size s) (left - 1) at more (from + place_size s) (to + (from - run)) kept
    pending_named v e q w ew =
        let next = from + place_size s in
        let k : next - next ≡ 0 = omega arith in
        let f = freeing_named s t₀ b n m u from left at more (to + (from - run)) kept i.freeing h v (e ∙ same-version) q in
        let end : to + (from - run) ≡ to + (from - run) + (next - next) = omega arith in
        record {
          freeing =
              subst (λ (x : ℕ). Freeing s t₀ b n m (lowered_run w next next (to + (from - run))) next (left - 1) at more x kept) end
              (subst (λ (x : List ℕ). Freeing s t₀ b n m x next (left - 1) at more (to + (from - run)) kept)
              (sym (splice-none w (drop next w) (to + (from - run)) (next - next) k ∙ ew)) f);
          down = omega (arith, i.down, i.begun);
          begun = omega arith;
          behind = ap (drop next) ew ∙ f.rest;
          long = ap length ew ∙ f.same;
        }

    pub pending_kept : Bytes t₀ → (v : Version) → v ≡ version_at t from → list_behind v b at more ≡ false → list_names v b at more ≡ false
        → Pending s t₀ b n m t (from + place_size s) (left - 1) at more run to (kept + 1)
    pending_kept bs v e p q =
        let z = place_size s in
        let r = drop run t in
        let here : from ≡ run + (from - run) = omega (arith, i.begun) in
        let fits : from + z ≤ length t =
        omega (arith, i.long, place_inside s t₀ b n m u from left at more (to + (from - run)) kept i.freeing h)
        in
        let size : from + z - run ≡ from - run + z = omega (arith, i.begun) in
        let rest : drop (from - run) r ≡ drop from t = drop-drop (from - run) run t ∙ ap (λ (x : ℕ). drop x t) (sym here) in
        let piece : take z (drop (from - run) r) ≡ take z (drop from u) =
        ap (take z) (rest ∙ beyond ∙ sym i.freeing.rest)
        in
        let first : length (take (from - run) r) ≡ from - run = length-take-le (from - run) r (omega (arith, length-drop run t, fits)) in
        let last : length (take z (drop (from - run) r)) ≡ z =
        length-take-le z (drop (from - run) r) (omega (arith, length-drop (from - run) r, length-drop run t, fits, i.begun))
        in
        let down : lowered_run t (from + z) run to ≡ splice u (to + (from - run)) (take z (drop from u)) =
        ap (λ (x : ℕ). splice t to (take x r)) size
        ∙ ap (splice t to) (take-add (from - run) z r)
        ∙ sym (splice-next t to (take (from - run) r) (take z (drop (from - run) r)) (to + (from - run)) (omega (arith, first)) (omega (arith, last, fits, i.down, i.begun)))
        ∙ ap (splice u (to + (from - run))) piece
        in
        let end : to + (from - run) + z ≡ to + (from + z - run) = omega (arith, size) in
        record {
          freeing =
              subst (λ (x : ℕ). Freeing s t₀ b n m (lowered_run t (from + z) run to) (from + z) (left - 1) at more x (kept + 1)) end
              (freeing_kept s t₀ b n m u from left at more (to + (from - run)) kept i.freeing h bs v (e ∙ same-version) p q
              (lowered_run t (from + z) run to) down);
          down = i.down;
          begun = omega (arith, i.begun);
          behind = i.behind;
          long = i.long;
        }
