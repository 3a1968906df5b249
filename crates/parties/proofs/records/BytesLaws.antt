-- Laws of bytes in a lent slice: numbers, runs of zeros, copies and moves.
use mathlib.Core.Path.{◌≡◌, refl, sym, ap, ap₂, ◌∙◌}
use mathlib.Core.Bool.{Bool, true, false, ◌&&◌}
use mathlib.Core.List.{List, [], ◌∷◌, ◌++◌, append_assoc}
use mathlib.Core.Option.{Option, some}
use Prim.Native.Nat.{ℕ, zero, suc, ◌+◌, ◌-◌, ◌*◌, ◌/◌, ◌%◌, ◌<◌, ◌≤◌}
use native.Mathlib.Nat.{add-zero, zero-mul, suc-mul}
use native.Mathlib.Decide.{ℕ_discrete}
use native.Mathlib.Omega.{arith}
use borrow.Author.Tests.{eq-eqb, ne_eqb}
use lib.Bits.{bit_or, or_add_and, and_le_l, and_le_r}
use lib.Dec.{eqb}
use Rattle.std.specs.List.{fold}
use lib.ListN.{length, get_or, take, drop, set, length-drop, take-append-drop}
use lib.Seq.{drop-cons, take-add, take-take, take-append-le, drop-drop, drop_at, get_or-drop, length-take-le, sets-eq, paste, paste-zero, paste-suc, length-paste, take-paste, drop-paste}
use Rattle.coding.specs.Nodes.{all}
use Rattle.std.proofs.Common.{slice_index_or}
use Rattle.std.specs.Simd.{first_chunks}
use Rattle.coding.proofs.NodesLaws.{all_append}
use Rattle.coding.proofs.BytesLaws.{stride, paste_ext, paste-before, paste-after, Pasted, pasted_none, pasted_more, pasted_length, pasted_all}
use Rattle.coding.proofs.PageLaws.{some_eq}
use Rattle.parties.specs.protocol.Format.{Read, bind, read_byte, read_number, write_number}

-- ---- numbers

-- one byte more of a number
number_more : (w n m k : ℕ) (t : List ℕ) (at : ℕ) → at + w < length t → m ≡ n * 256 + get_or t (at + w) 0 → k ≡ suc (at + w)
    → read_number w (drop at t) ≡ some (record { value = n; rest = drop (at + w) t })
    → read_number (suc w) (drop at t) ≡ some (record { value = m; rest = drop k t })
unfolding read_number
number_more w n m k t at h v p e =
    ap (λ (r : Option (Read ℕ)). bind r (λ n s. bind (read_byte s) (λ b u. some (record { value = n * 256 + b; rest = u })))) e
    ∙ ap (λ (s : List ℕ). bind (read_byte s) (λ b u. some (record { value = n * 256 + b; rest = u }))) (drop-cons t (at + w) 0 h)
    ∙ (λ i. some (record { value = sym v i; rest = drop (sym p i) t }))

number-none : (t : List ℕ) (at : ℕ) → read_number 0 (drop at t) ≡ some (record { value = 0; rest = drop (at + 0) t })
unfolding read_number
number-none t at = let e : at ≡ at + 0 = omega arith in λ i. some (record { value = 0; rest = drop (e i) t })

pub number-two : (t : List ℕ) (at n : ℕ) → at + 2 ≤ length t → n ≡ get_or t at 0 * 256 + get_or t (at + 1) 0
    → read_number 2 (drop at t) ≡ some (record { value = n; rest = drop (at + 2) t })
number-two t at n h e =
    let z : get_or t (at + 0) 0 ≡ get_or t at 0 = ap (λ (x : ℕ). get_or t x 0) (add-zero at) in
    number_more 1 (get_or t at 0) n (at + 2) t at (omega arith) e (omega arith)
    (number_more 0 0 (get_or t at 0) (at + 1) t at (omega arith) (omega arith) (omega arith) (number-none t at))

pub number-four : (t : List ℕ) (at n : ℕ) → at + 4 ≤ length t
    → n ≡ ((get_or t at 0 * 256 + get_or t (at + 1) 0) * 256 + get_or t (at + 2) 0) * 256 + get_or t (at + 3) 0
    → read_number 4 (drop at t) ≡ some (record { value = n; rest = drop (at + 4) t })
number-four t at n h e =
    let two = get_or t at 0 * 256 + get_or t (at + 1) 0 in
    number_more 3 (two * 256 + get_or t (at + 2) 0) n (at + 4) t at (omega arith) e (omega arith)
    (number_more 2 two (two * 256 + get_or t (at + 2) 0) (at + 3) t at (omega arith) refl (omega arith)
    (number-two t at two (omega arith) refl))

-- the number that is read there
pub two-read : (t : List ℕ) (at n : ℕ) (r : List ℕ) → at + 2 ≤ length t → read_number 2 (drop at t) ≡ some (record { value = n; rest = r })
    → n ≡ get_or t at 0 * 256 + get_or t (at + 1) 0
two-read t at n r h e = ap (λ (x : Read ℕ). x.value) (some_eq (sym e ∙ number-two t at (get_or t at 0 * 256 + get_or t (at + 1) 0) h refl))

pub four-read : (t : List ℕ) (at n : ℕ) (r : List ℕ) → at + 4 ≤ length t → read_number 4 (drop at t) ≡ some (record { value = n; rest = r })
    → n ≡ ((get_or t at 0 * 256 + get_or t (at + 1) 0) * 256 + get_or t (at + 2) 0) * 256 + get_or t (at + 3) 0
four-read t at n r h e =
    ap (λ (x : Read ℕ). x.value)
    (some_eq
    (sym e
    ∙ number-four t at (((get_or t at 0 * 256 + get_or t (at + 1) 0) * 256 + get_or t (at + 2) 0) * 256 + get_or t (at + 3) 0) h refl))

-- ---- runs of zeros

or_zero : (a b : ℕ) → eqb (bit_or a b) 0 ≡ (eqb a 0 && eqb b 0)
or_zero a b = go (ℕ_discrete a 0) (ℕ_discrete b 0)
  where
    go : Dec (a ≡ 0) → Dec (b ≡ 0) → eqb (bit_or a b) 0 ≡ (eqb a 0 && eqb b 0)
    go (yes x) (yes y) = rw (x, y)
    go (yes x) (no y) = ne_eqb (bit_or a b) 0 (λ e. omega (arith, or_add_and a b, and_le_l a b)) ∙ sym (simp (ne_eqb b 0 y, eq-eqb a 0 x))
    go (no x) y = ne_eqb (bit_or a b) 0 (λ e. omega (arith, or_add_and a b, and_le_r a b)) ∙ sym (simp (ne_eqb a 0 x))

-- whether bytes are all zero is told by their bits, or'ed
or_all : (a : ℕ) (l : List ℕ) → eqb (fold bit_or a l) 0 ≡ (eqb a 0 && all (λ b. eqb b 0) l)
unfolding all
or_all a [] = one (eqb a 0)
  where
    one : (b : Bool) → b ≡ (b && true)
    one true = refl
    one false = refl
or_all a (b ∷ l) = or_all (bit_or a b) l ∙ ap (λ (x : Bool). x && all (λ b. eqb b 0) l) (or_zero a b) ∙ three (eqb a 0)
  where
    three : (x : Bool) → ((x && eqb b 0) && all (λ b. eqb b 0) l) ≡ (x && (eqb b 0 && all (λ b. eqb b 0) l))
    three true = refl
    three false = refl

pub ored_zero : (l : List ℕ) → eqb (fold bit_or 0 l) 0 ≡ all (λ b. eqb b 0) l
ored_zero l = or_all 0 l

-- ---- blocks of zeros

-- a block among those that stand behind each other
block_at : (n k i : ℕ) (l : List ℕ) → i < k → slice_index_or (first_chunks n k l) i [] ≡ take n (drop (i * n) l)
block_at n zero i l h = absurd (omega arith)
block_at n (suc k) zero l h = let e : 0 * n ≡ 0 = zero-mul n in rw e refl
block_at n (suc k) (suc i) l h =
    let e : n + i * n ≡ suc i * n = omega (arith, suc-mul i n) in
    block_at n k i (drop n l) (omega arith) ∙ ap (take n) (drop-drop (i * n) n l ∙ ap (λ (x : ℕ). drop x l) e)

-- the bytes from a block on are zero if the block is and those after it are
module _ (n k i : ℕ) (l : List ℕ) (h : i < k) (b : Bool) (e : b ≡ all (λ b. eqb b 0) (slice_index_or (first_chunks n k l) i [])) where
  pub zeros_block : all (λ b. eqb b 0) (drop (i * n) l) ≡ (b && all (λ b. eqb b 0) (drop ((i + 1) * n) l))
  zeros_block =
      let f : i * n + n ≡ (i + 1) * n = omega (arith, stride i n) in
      ap (all (λ b. eqb b 0)) (sym (take-append-drop n (drop (i * n) l)))
      ∙ all_append (λ b. eqb b 0) (take n (drop (i * n) l)) (drop n (drop (i * n) l))
      ∙ ap₂ (λ (x : Bool) (y : List ℕ). x && all (λ b. eqb b 0) y)
      (ap (all (λ b. eqb b 0)) (sym (block_at n k i l h)) ∙ sym e)
      (drop-drop n (i * n) l ∙ ap (λ (x : ℕ). drop x l) f)

-- ---- numbers written

pub put_four : (t : List ℕ) (at n : ℕ) → at + 4 ≤ length t
    → set (set (set (set t at (n / 256 / 256 / 256 % 256)) (at + 1) (n / 256 / 256 % 256)) (at + 2) (n / 256 % 256)) (at + 3) (n % 256)
    ≡ paste t at (write_number 4 n) 4
unfolding write_number
put_four t at n h =
    let a : at + 1 ≡ suc at = omega arith in
    let b : at + 2 ≡ suc (suc at) = omega arith in
    let c : at + 3 ≡ suc (suc (suc at)) = omega arith in
    rw (a, b, c) (sets-eq (n / 256 / 256 / 256 % 256 ∷ n / 256 / 256 % 256 ∷ n / 256 % 256 ∷ n % 256 ∷ []) t at h)

-- ---- pastes, one beside the other

module _ (t : List ℕ) (q : ℕ) (s : List ℕ) (m n : ℕ) (ht : q + m + n ≤ length t) (hs : m + n ≤ length s) where
  -- the bytes before what was pasted are pasted too
  paste_low : paste (paste t (q + m) (drop m s) n) q s m ≡ paste t q s (m + n)
  paste_low =
      let a : length (take (q + m) t) ≡ q + m = length-take-le (q + m) t (omega arith) in
      let x : take q (paste t (q + m) (drop m s) n) ≡ take q t =
      ap (take q) (append_assoc (take (q + m) t) (take n (drop m s)) (drop (q + m + n) t))
      ∙ take-append-le q (take (q + m) t) (take n (drop m s) ++ drop (q + m + n) t) (omega arith)
      ∙ take-take q (q + m) t (omega arith)
      in
      let y : drop (q + m) (paste t (q + m) (drop m s) n) ≡ take n (drop m s) ++ drop (q + m + n) t =
      ap (drop (q + m)) (append_assoc (take (q + m) t) (take n (drop m s)) (drop (q + m + n) t))
      ∙ drop_at (take (q + m) t) (take n (drop m s) ++ drop (q + m + n) t) (q + m) a
      in
      let z : q + m + n ≡ q + (m + n) = omega arith in
      (λ i. x i ++ take m s ++ y i)
      ∙ sym (append_assoc (take q t ++ take m s) (take n (drop m s)) (drop (q + m + n) t))
      ∙ ap (λ (l : List ℕ). l ++ drop (q + m + n) t) (append_assoc (take q t) (take m s) (take n (drop m s)))
      ∙ (λ i. take q t ++ sym (take-add m n s) i ++ drop (z i) t)

  -- the bytes after what was pasted
  paste-high : paste (paste t q s m) (q + m) (drop m s) n ≡ paste t q s (m + n)
  paste-high =
      let a : q ≤ length t = omega arith in
      let b : m ≤ length s = omega arith in
      let x : drop (q + m + n) (paste t q s m) ≡ drop (q + m + n) t =
      sym (drop-drop n (q + m) (paste t q s m)) ∙ ap (drop n) (drop-paste t q s m a b) ∙ drop-drop n (q + m) t
      in
      let z : q + m + n ≡ q + (m + n) = omega arith in
      (λ i. take-paste t q s m a b i ++ take n (drop m s) ++ x i)
      ∙ ap (λ (l : List ℕ). l ++ drop (q + m + n) t) (append_assoc (take q t) (take m s) (take n (drop m s)))
      ∙ (λ i. take q t ++ sym (take-add m n s) i ++ drop (z i) t)

-- ---- copies

-- the first l bytes of a copy are done
pub record Copied (t : List ℕ) (at : ℕ) (s : List ℕ) (from n : ℕ) (u : List ℕ) (l : ℕ) : Type 0 where
  pub pasted : Pasted t at (drop from s) n u l

pub copied_none : (t : List ℕ) (at : ℕ) (s : List ℕ) (from n : ℕ) → Copied t at s from n t 0
copied_none t at s from n = record { pasted = pasted_none t at (drop from s) n }

module _ (t : List ℕ) (at : ℕ) (s : List ℕ) (from n : ℕ) (ht : at + n ≤ length t) (hs : from + n ≤ length s) (u : List ℕ) (l : ℕ)
    (c : Copied t at s from n u l) where
  source_fits : n ≤ length (drop from s)
  source_fits = omega (arith, length-drop from s)

  pub copied_length : length u ≡ length t
  copied_length = pasted_length t at (drop from s) n ht source_fits u l c.pasted

  pub copied_more : l < n → Copied t at s from n (set u (at + l) (get_or s (from + l) 0)) (l + 1)
  copied_more h = record { pasted = rw (← get_or-drop from s l 0) (pasted_more t at (drop from s) n ht source_fits u l c.pasted h) }

  -- m bytes more at once
  pub copied_block : (m : ℕ) → l + m ≤ n → (w : List ℕ) → w ≡ paste u (at + l) (drop (from + l) s) m → Copied t at s from n w (l + m)
  copied_block m h w e =
      record {
        pasted =
            record {
              within = h;
              done =
                  e ∙ (λ i. paste (c.pasted.done i) (at + l) (sym (drop-drop l from s) i) m)
                  ∙ paste-high t at (drop from s) l m (omega arith) (omega (arith, source_fits));
            };
      }

  pub copied_all : n ≤ l → u ≡ paste t at (drop from s) n
  copied_all h = pasted_all t at (drop from s) n ht source_fits u l c.pasted h

-- ---- moves

-- a paste of one byte is a store
paste_one : (t : List ℕ) (at : ℕ) (s : List ℕ) → at < length t → 0 < length s → set t at (get_or s 0 0) ≡ paste t at s 1
paste_one t at s ht hs =
    let z : at + 0 ≡ at = omega arith in
    (λ i. set (paste-zero t at s i) (sym z i) (get_or s 0 0)) ∙ paste-suc t at s 0 0 (omega arith) hs

-- a block that was read whole
pub block_moved : (t s : List ℕ) (from at : ℕ) (v : List ℕ) → v ≡ take 512 (drop from s) → paste t at v 512 ≡ paste t at (drop from s) 512
block_moved t s from at v e =
    ap (λ (l : List ℕ). take at t ++ l ++ drop (at + 512) t) (ap (take 512) e ∙ take-take 512 512 (drop from s) (omega arith))

-- the bytes from p on have gone up
pub record MovedUp (t : List ℕ) (from to by : ℕ) (u : List ℕ) (p : ℕ) : Type 0 where
  pub after : from ≤ p
  pub within : p ≤ to
  pub moved : u ≡ paste t (p + by) (drop p t) (to - p)

pub up_none : (t : List ℕ) (from to by : ℕ) → from ≤ to → MovedUp t from to by t to
up_none t from to by h =
    let z : to - to ≡ 0 = omega arith in record { after = h; within = omega arith; moved = rw z (paste-zero t (to + by) (drop to t)) }

module _ (t : List ℕ) (from to by : ℕ) (ht : to + by ≤ length t) (u : List ℕ) (p : ℕ) (s : MovedUp t from to by u p) where
  up_fits : to - p ≤ length (drop p t)
  up_fits = omega (arith, length-drop p t, s.within)

  pub up_length : length u ≡ length t
  up_length = ap length s.moved ∙ length-paste t (p + by) (drop p t) (to - p) (omega (arith, s.within)) up_fits

  -- m bytes more; they were still as at the start
  pub up_more : (q m : ℕ) → q + m ≡ p → from ≤ q → (w : List ℕ) → w ≡ paste u (q + by) (drop q u) m → MovedUp t from to by w q
  up_more q m e f w g =
      let b : p ≤ to = s.within in
      let n : length u ≡ length t = up_length in
      let k : (i : ℕ) → i < m → get_or (drop q u) i 0 ≡ get_or (drop q t) i 0 =
      λ i h.
      get_or-drop q u i 0
      ∙ ap (λ (l : List ℕ). get_or l (q + i) 0) s.moved
      ∙ paste-before t (p + by) (drop p t) (to - p) 0 (omega arith) up_fits (q + i) (omega arith)
      ∙ sym (get_or-drop q t i 0)
      in
      let x : p + by ≡ q + by + m = omega arith in
      let y : drop p t ≡ drop m (drop q t) = ap (λ (i : ℕ). drop i t) (sym e) ∙ sym (drop-drop m q t) in
      let z : m + (to - p) ≡ to - q = omega arith in
      record {
        after = f;
        within = omega arith;
        moved =
            g
            ∙ paste_ext u (q + by) (drop q u) (drop q t) m (omega (arith, length-drop q u)) (omega (arith, length-drop q t)) k
            ∙ ap (λ (l : List ℕ). paste l (q + by) (drop q t) m) (s.moved ∙ (λ i. paste t (x i) (y i) (to - p)))
            ∙ paste_low t (q + by) (drop q t) m (to - p) (omega arith) (omega (arith, length-drop q t))
            ∙ ap (λ (i : ℕ). paste t (q + by) (drop q t) i) z;
      }

  -- the rest at once
  pub up_rest : (w : List ℕ) → w ≡ paste u (from + by) (drop from u) (p - from) → MovedUp t from to by w from
  up_rest w e = up_more from (p - from) (omega (arith, s.after)) (omega arith) w e

  pub up_all : p ≤ from → u ≡ paste t (from + by) (drop from t) (to - from)
  up_all h = let e : p ≡ from = omega (arith, s.after) in rw e at s.moved

-- the bytes before p have gone down
pub record MovedDown (t : List ℕ) (from to by : ℕ) (u : List ℕ) (p : ℕ) : Type 0 where
  pub after : from ≤ p
  pub within : p ≤ to
  pub moved : u ≡ paste t (from - by) (drop from t) (p - from)

pub down_none : (t : List ℕ) (from to by : ℕ) → from ≤ to → MovedDown t from to by t from
down_none t from to by h =
    let z : from - from ≡ 0 = omega arith in record { after = omega arith; within = h; moved = rw z (paste-zero t (from - by) (drop from t)) }

module _ (t : List ℕ) (from to by : ℕ) (hb : by ≤ from) (ht : to ≤ length t) (u : List ℕ) (p : ℕ) (s : MovedDown t from to by u p) where
  down_fits : p - from ≤ length (drop from t)
  down_fits = omega (arith, length-drop from t, s.within)

  pub down_length : length u ≡ length t
  down_length = ap length s.moved ∙ length-paste t (from - by) (drop from t) (p - from) (omega (arith, s.within)) down_fits

  pub down_more : (q m : ℕ) → p + m ≡ q → q ≤ to → (w : List ℕ) → w ≡ paste u (p - by) (drop p u) m → MovedDown t from to by w q
  down_more q m e f w g =
      let a : from ≤ p = s.after in
      let n : length u ≡ length t = down_length in
      let k : (i : ℕ) → i < m → get_or (drop p u) i 0 ≡ get_or (drop p t) i 0 =
      λ i h.
      get_or-drop p u i 0
      ∙ ap (λ (l : List ℕ). get_or l (p + i) 0) s.moved
      ∙ paste-after t (from - by) (drop from t) (p - from) 0 (omega arith) down_fits (p + i) (omega arith)
      ∙ sym (get_or-drop p t i 0)
      in
      let x : p - by ≡ from - by + (p - from) = omega arith in
      let v : from + (p - from) ≡ p = omega arith in
      let y : drop p t ≡ drop (p - from) (drop from t) = ap (λ (i : ℕ). drop i t) (sym v) ∙ sym (drop-drop (p - from) from t) in
      let z : p - from + m ≡ q - from = omega arith in
      record {
        after = omega arith;
        within = f;
        moved =
            g
            ∙ paste_ext u (p - by) (drop p u) (drop p t) m (omega (arith, length-drop p u)) (omega (arith, length-drop p t)) k
            ∙ (λ i. paste (s.moved i) (x i) (y i) m)
            ∙ paste-high t (from - by) (drop from t) (p - from) m (omega arith) (omega (arith, length-drop from t))
            ∙ ap (λ (i : ℕ). paste t (from - by) (drop from t) i) z;
      }

  pub down_one : p < to → MovedDown t from to by (set u (p - by) (get_or u p 0)) (p + 1)
  down_one h =
      let n : length u ≡ length t = down_length in
      let z : p + 0 ≡ p = omega arith in
      down_more (p + 1) 1 refl (omega arith) (set u (p - by) (get_or u p 0))
      (ap (set u (p - by)) (ap (λ (i : ℕ). get_or u i 0) (sym z) ∙ sym (get_or-drop p u 0 0))
      ∙ paste_one u (p - by) (drop p u) (omega arith) (omega (arith, length-drop p u)))

  -- the rest at once
  pub down_rest : (w : List ℕ) → w ≡ paste u (p - by) (drop p u) (to - p) → MovedDown t from to by w to
  down_rest w e = down_more to (to - p) (omega (arith, s.within)) (omega arith) w e

  pub down_all : to ≤ p → u ≡ paste t (from - by) (drop from t) (to - from)
  down_all h = let e : p ≡ to = omega (arith, s.within) in rw e at s.moved
