-- Laws of the record of a deposit's update: the new pointer, and what is frozen.
use mathlib.Core.Path.{◌≡◌, sym, ap, ◌∙◌}
use mathlib.Core.Bool.{true}
use mathlib.Core.List.{List, [], ◌∷◌, ◌++◌, append_assoc, append-nil}
use Prim.Native.Nat.{ℕ, zero, suc, ◌+◌, ◌-◌, ◌*◌, ◌<◌, ◌≤◌}
use native.Mathlib.Nat.{suc-mul, mul-le-mul_right}
use native.Mathlib.Numerals.{add-one}
use native.Mathlib.Omega.{arith}
use lib.ListN.{length, get_or, take, drop, set, replicate, length-append, length-drop, take-append-drop}
use lib.Seq.{paste, take-suc, take_all, take_at, drop_at}
use Rattle.coding.specs.Bytes.{Bytes}
use Rattle.coding.proofs.BytesLaws.{stride}
use Rattle.parties.specs.declared.Measures.{Measures}
use Rattle.parties.specs.protocol.Format.{write_number, write_many, write_area}
use Rattle.parties.specs.protocol.Measures.{pointer_size}
use Rattle.parties.specs.protocol.Pointer.{Pointer, none_pointer, write_pointer, write_version}
use Rattle.parties.specs.protocol.Directory.{map_of, write_index, write_content, write_fields, write_record}
use Rattle.parties.specs.protocol.Client.{Retained, read_retained, write_retained, read_some}
use Rattle.parties.specs.protocol.ClientEvents.{lay, room_size}
use Rattle.parties.proofs.protocol.formats.FormatLaws.{Each, length-same}
use Rattle.parties.proofs.protocol.formats.EachLaws.{each_at}
use Rattle.parties.proofs.protocol.formats.PointerLaws.{GoodPointer}
use Rattle.parties.proofs.protocol.formats.DirectoryLaws.{GoodIndex, length-index}
use Rattle.parties.proofs.protocol.formats.RowLaws.{pointer-fits}
use Rattle.parties.proofs.protocol.formats.ClientLaws.{keeper, length_retained}
use Rattle.parties.specs.client.Record.{area_size, work_at, is_some}
use Rattle.parties.specs.records.Places.{splice}
use Rattle.parties.specs.client.Pick.{pointer_part}
use Rattle.parties.specs.client.Found.{retained_in, pointer_in}
use Rattle.parties.specs.client.Publish.{update_of}
use Rattle.parties.proofs.records.SizeLaws.{below_rows}
use Rattle.parties.proofs.records.SpliceLaws.{paste-splice, length-splice, splice-next, splice_front, splice_self, tagged, many-append, to_end}
use Rattle.parties.proofs.client.PickLaws.{pointer-part}
use Rattle.parties.proofs.client.AreaLaws.{Retains, frozen-part}
use Rattle.parties.proofs.client.FoundLaws.{kept, pointer-length, pointer-there}

-- ---- the first of many values

many-next : {A : Type 0} (w : A → List ℕ) (d : A) (l : List A) (q : ℕ) → q < length l
    → write_many w (take (q + 1) l) ≡ write_many w (take q l) ++ w (get_or l q d)
unfolding write_many
many-next w d l q h =
    rw (add-one q)
    (ap (write_many w) (take-suc l q d h) ∙ many-append w (take q l) (get_or l q d ∷ [])
    ∙ ap (λ (x : List ℕ). write_many w (take q l) ++ x) (append-nil (w (get_or l q d))))

many-few : {A : Type 0} (w : A → List ℕ) (g : A → Type 0) (k : ℕ) → ((a : A) → g a → length (w a) ≤ k) → (l : List A) → Each g l
    → (q : ℕ) → length (write_many w (take q l)) ≤ q * k
unfolding write_many
many-few w g k h l e zero = omega arith
many-few w g k h [] e (suc q) = omega arith
many-few w g k h (a ∷ l) e (suc q) =
    omega (arith, length-append (w a) (write_many w (take q l)), h a e.0, many-few w g k h l e.1 q, suc-mul q k)

-- a part of a slice to its end
pub part-whole : (t : List ℕ) (from : ℕ) → pointer_part (take (length t - from) (drop from t)) ≡ pointer_part (drop from t)
part-whole t from = ap pointer_part (to_end t from)

-- ---- what is frozen

-- the first q frozen pointers, as they are written
abbrev frozen_to : Measures → List ℕ → ℕ → List ℕ
frozen_to s area q = write_many write_pointer (take q (retained_in s area).frozen)

-- they stand in the room from a place on
pub record Laid (s : Measures) (area room : List ℕ) (at : ℕ) (u : List ℕ) (end q : ℕ) : Type 0 where
  pub within : q ≤ s.m
  pub target : end ≡ at + length (frozen_to s area q)
  pub laid : u ≡ splice room at (frozen_to s area q)

module _ (s : Measures) (area : List ℕ) (b : Bytes area) (o : is_some (read_retained s area) ≡ true) where
  abbrev x : Retained
  x = retained_in s area

  there : Retains s area (keeper x) (drop (work_at s) area)
  there = kept s area b o

  abbrev nth : ℕ → Pointer
  nth q = get_or x.frozen q none_pointer

  nth_good : (q : ℕ) → q < s.m → GoodPointer s (nth q)
  nth_good q l = each_at (GoodPointer s) none_pointer x.frozen there.good.frozen.0 q (omega (arith, there.good.frozen.1))

  nth_own : (q : ℕ) → q < s.m → pointer_part (drop ((q + 1) * pointer_size s) area) ≡ write_pointer (nth q)
  unfolding write_area
  nth_own q l =
      let k : ℕ = (q + 1) * pointer_size s in
      let z = replicate {A = ℕ} (pointer_size s - length (write_pointer (nth q))) 0 in
      let r = drop (pointer_size s) (drop k area) in
      ap pointer_part
      (sym (take-append-drop (pointer_size s) (drop k area))
      ∙ ap (λ (y : List ℕ). y ++ r) (frozen-part s area (keeper x) (drop (work_at s) area) there q l)
      ∙ append_assoc (write_pointer (nth q)) z r)
      ∙ pointer-part s (nth q) (nth_good q l) (z ++ r)

  frozen-next : (q : ℕ) → q < s.m → frozen_to s area (q + 1) ≡ frozen_to s area q ++ write_pointer (nth q)
  frozen-next q l = many-next write_pointer none_pointer x.frozen q (omega (arith, there.good.frozen.1))

  frozen-few : (q : ℕ) → length (frozen_to s area q) ≤ q * pointer_size s
  frozen-few q = many-few write_pointer (GoodPointer s) (pointer_size s) (pointer-fits s) x.frozen there.good.frozen.0 q

  frozen_full : frozen_to s area s.m ≡ write_many write_pointer x.frozen
  frozen_full = ap (write_many write_pointer) (take_all s.m x.frozen (omega (arith, there.good.frozen.1)))

  pub laid_none : (room : List ℕ) (at : ℕ) → at ≤ length room → Laid s area room at room at 0
  unfolding write_many
  laid_none room at h = record { within = omega arith; target = omega arith; laid = splice_self room at 0 }

  module _ (room : List ℕ) (at : ℕ) (fits : at + s.m * pointer_size s ≤ length room) (u : List ℕ) (end q : ℕ) (w : Laid s area room at u end q) where
    pub laid-length : length u ≡ length room
    laid-length = ap length w.laid ∙ length-splice room at (frozen_to s area q) (omega (arith, frozen-few q, mul-le-mul_right (pointer_size s) w.within))

    -- where the next pointer stands
    abbrev from : ℕ
    from = (q + 1) * pointer_size s

    pub laid_from : q < s.m → area_size s ≤ length area → from ≤ length area
    laid_from l h = omega (arith, stride q (pointer_size s), below_rows q s.m (pointer_size s) l, stride s.m (pointer_size s))

    part_is : q < s.m → pointer_part (drop from area) ≡ write_pointer (nth q)
    part_is l = nth_own q l

    pub laid-fits : q < s.m → end + length (pointer_part (drop from area)) ≤ length u
    laid-fits l =
        omega (
          arith,
          w.target,
          laid-length,
          frozen-few q,
          ap length (part_is l),
          pointer-fits s (nth q) (nth_good q l),
          below_rows q s.m (pointer_size s) l,
        )

    pub laid_more : q < s.m → (r : ℕ) (v : List ℕ) → r ≡ end + length (pointer_part (drop from area)) → v ≡ splice u end (pointer_part (drop from area))
        → Laid s area room at v r (q + 1)
    laid_more l r v e f =
        let y = write_pointer (nth q) in
        let z : length (pointer_part (drop from area)) ≡ length y = ap length (part_is l) in
        record {
          within = omega arith;
          target = omega (arith, w.target, ap length (frozen-next q l), length-append (frozen_to s area q) y);
          laid =
              f ∙ (λ j. splice (w.laid j) end (part_is l j))
              ∙ splice-next room at (frozen_to s area q) y end w.target (omega (arith, laid-fits l, laid-length))
              ∙ ap (splice room at) (sym (frozen-next q l));
        }

    pub laid-all : s.m ≤ q
        → (end ≡ at + length (write_many write_pointer x.frozen)) × (u ≡ splice room at (write_many write_pointer x.frozen))
    laid-all l =
        let e : q ≡ s.m = omega (arith, w.within) in
        let f : frozen_to s area q ≡ write_many write_pointer x.frozen = ap (frozen_to s area) e ∙ frozen_full in
        (w.target ∙ ap (λ (y : List ℕ). at + length y) f, w.laid ∙ ap (splice room at) f)

  -- ---- the indices
  abbrev indices : List ℕ
  indices = write_many write_index x.frozen_indices

  indices-length : length indices ≡ 4 * s.m
  indices-length =
      length-same write_index GoodIndex 4 (λ n g. length-index n) x.frozen_indices there.good.indices.0 ∙ omega (arith, there.good.indices.1)

  indices-there : take (4 * s.m) (drop (work_at s - 4 * s.m) area) ≡ indices
  unfolding write_retained
  indices-there =
      let a = write_area (pointer_size s) write_pointer x.written in
      let f = write_many (write_area (pointer_size s) write_pointer) x.frozen in
      let v = write_many write_version x.reserved in
      let r = drop (work_at s) area in
      let g = a ++ (f ++ v) in
      let e : write_retained s x ≡ g ++ indices =
      ap (λ (l : List ℕ). a ++ l) (sym (append_assoc f v indices)) ∙ sym (append_assoc a (f ++ v) indices)
      in
      let lg : length g ≡ work_at s - 4 * s.m =
      omega (arith, ap length e, length-append g indices, indices-length, length_retained s (keeper x) there.good)
      in
      ap (λ (l : List ℕ). take (4 * s.m) (drop (work_at s - 4 * s.m) l)) (there.parts ∙ ap (λ (l : List ℕ). l ++ r) e ∙ append_assoc g indices r)
      ∙ ap (take (4 * s.m)) (drop_at g (indices ++ r) (work_at s - 4 * s.m) lg)
      ∙ take_at indices r (4 * s.m) indices-length

  -- ---- the record
  module _ (o2 : is_some (read_some s (drop (work_at s) area)) ≡ true) (room : List ℕ) (long : area_size s ≤ length area) (enough : room_size s ≤ length room) where
    abbrev new : List ℕ
    new = write_pointer (pointer_in s area)

    abbrev frozen : List ℕ
    frozen = write_many write_pointer x.frozen

    update_is : ((7 ∷ new) ++ frozen) ++ indices ≡ update_of x (pointer_in s area)
    unfolding write_record write_fields write_content write_many map_of write_number
    update_is =
        ap (λ (l : List ℕ). 7 ∷ l) (append_assoc new frozen indices)
        ∙ sym (λ j. 7 ∷ (append-nil new j ++ (frozen ++ append-nil indices j)))

    new_there : take (pointer_size s) (drop (work_at s) area) ≡ new
    new_there =
        ap (take (pointer_size s)) (pointer-there s area b o2)
        ∙ take_at new (drop (work_at s + pointer_size s) area) (pointer_size s) (pointer-length s area b o2)

    update-fits : 1 + pointer_size s + length frozen + 4 * s.m ≤ length room
    update-fits = omega (arith, ap length frozen_full, frozen-few s.m, stride s.m (pointer_size s))

    module _ (size at : ℕ) (es : size ≡ pointer_size s) (ea : at ≡ work_at s) (u : List ℕ) (eu : u ≡ paste (set room 0 7) 1 (drop at area) size) where
      front_put : u ≡ splice room 0 (7 ∷ new)
      front_put =
          eu ∙ tagged room 7 area at size (omega (arith, update-fits)) (omega arith)
          ∙ ap (λ (l : List ℕ). splice room 0 (7 ∷ l)) ((λ j. take (es j) (drop (ea j) area)) ∙ new_there)

      pub front_length : length u ≡ length room
      front_length = ap length front_put ∙ length-splice room 0 (7 ∷ new) (omega (arith, update-fits, pointer-length s area b o2))

      module _ (end : ℕ) (v : List ℕ) (ee : end ≡ 1 + size + length frozen) (ev : v ≡ splice u (1 + size) frozen) where
        pub end_fits : end + 4 * s.m ≤ length room
        end_fits = omega (arith, update-fits)

        frozen_put : v ≡ splice room 0 ((7 ∷ new) ++ frozen)
        frozen_put =
            ev ∙ ap (λ (l : List ℕ). splice l (1 + size) frozen) front_put
            ∙ splice-next room 0 (7 ∷ new) frozen (1 + size) (omega (arith, pointer-length s area b o2)) (omega (arith, update-fits))

        pub frozen-length : length v ≡ length room
        frozen-length =
            ap length ev ∙ length-splice u (1 + size) frozen (omega (arith, update-fits, front_length)) ∙ front_length

        module _ (w : List ℕ) (ew : w ≡ paste v end (drop (at - 4 * s.m) area) (4 * s.m)) where
          indices_put : w ≡ splice v end indices
          indices_put =
              ew ∙ paste-splice v end (drop (at - 4 * s.m) area) (4 * s.m) (omega (arith, length-drop (at - 4 * s.m) area))
              ∙ ap (λ (k : ℕ). splice v end (take (4 * s.m) (drop (k - 4 * s.m) area))) ea
              ∙ ap (splice v end) indices-there

          pub update-length : length w ≡ length room
          update-length =
              ap length indices_put ∙ length-splice v end indices (omega (arith, end_fits, indices-length, frozen-length)) ∙ frozen-length

          pub update_put : (end + 4 * s.m ≡ length (update_of x (pointer_in s area))) × (w ≡ lay (update_of x (pointer_in s area)) room)
          update_put =
              let l = (7 ∷ new) ++ frozen in
              let n : end ≡ 0 + length l = omega (arith, length-append (7 ∷ new) frozen, pointer-length s area b o2) in (
                omega (arith, sym (ap length update_is), length-append l indices, indices-length),
                indices_put ∙ ap (λ (k : List ℕ). splice k end indices) frozen_put
                    ∙ splice-next room 0 l indices end n (omega (arith, end_fits, indices-length))
                    ∙ ap (splice room 0) update_is ∙ splice_front room (update_of x (pointer_in s area)),
              )
