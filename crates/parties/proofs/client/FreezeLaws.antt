-- A deposit's second scan: what is retained after it, and what it leaves.
use mathlib.Core.Path.{◌≡◌, sym, ap, subst, ◌∙◌}
use mathlib.Core.Bool.{true, cond}
use mathlib.Core.List.{List, ◌++◌, append-nil}
use Prim.Native.Nat.{ℕ, ◌+◌, ◌-◌, ◌<◌, ◌≤◌}
use native.Mathlib.Omega.{arith}
use lib.ListN.{length, get_or, take, drop, replicate, length-drop}
use lib.Seq.{paste, take_at, drop-drop}
use Rattle.coding.specs.Bytes.{Bytes}
use Rattle.parties.specs.declared.Measures.{Measures}
use Rattle.parties.specs.protocol.Format.{write_area}
use Rattle.parties.specs.protocol.Measures.{pointer_size}
use Rattle.parties.specs.protocol.Nodes.{stands}
use Rattle.parties.specs.protocol.Pointer.{Pointer, write_pointer}
use Rattle.parties.specs.protocol.Directory.{Row, no_row}
use Rattle.parties.specs.protocol.Client.{Retained, read_retained, write_retained, read_some, work_size}
use Rattle.parties.proofs.protocol.formats.FormatLaws.{length_area}
use Rattle.parties.proofs.protocol.formats.EachLaws.{each_as}
use Rattle.parties.proofs.protocol.formats.PointerLaws.{GoodPointer}
use Rattle.parties.specs.client.Record.{area_size, work_at, is_some}
use Rattle.parties.specs.client.Found.{retained_in, pointer_in}
use Rattle.parties.specs.client.Freeze.{retained_after}
use Rattle.parties.specs.client.Retain.{notice}
use Rattle.parties.proofs.client.FoundLaws.{kept, pointer-length, pointer-there}
use Rattle.parties.proofs.client.RetainLaws.{Keeping, keeping_length, partly, partly_none, partly_more, partly_ends}
use Rattle.parties.proofs.client.AreaLaws.{area_of, area_sized}

-- the first q clients are through
abbrev pub Retaining : Measures → ℕ → List Row → List ℕ → List ℕ → ℕ → Type 0
Retaining s map rows area₀ area q = Keeping s area (partly map (retained_in s area₀) rows (pointer_in s area₀) q) (drop (work_at s) area₀)

module _ (s : Measures) (map : ℕ) (rows : List Row) (area₀ : List ℕ) (b : Bytes area₀) (long : area_size s ≤ length area₀)
    (o : is_some (read_retained s area₀) ≡ true) (n : is_some (read_some s (drop (work_at s) area₀)) ≡ true) where
  abbrev x : Retained
  x = retained_in s area₀

  abbrev p : Pointer
  p = pointer_in s area₀

  sized : length (area_of s p) ≡ pointer_size s
  sized = length_area (pointer_size s) write_pointer p (omega (arith, pointer-length s area₀ b n))

  there : take (pointer_size s) (drop (work_at s) area₀) ≡ area_of s p
  unfolding write_area
  there =
      let z : 0 ≡ pointer_size s - length (write_pointer p) = omega (arith, pointer-length s area₀ b n) in
      ap (take (pointer_size s)) (pointer-there s area₀ b n)
      ∙ take_at (write_pointer p) (drop (work_at s + pointer_size s) area₀) (pointer_size s) (pointer-length s area₀ b n)
      ∙ sym (append-nil (write_pointer p)) ∙ ap (λ (k : ℕ). write_pointer p ++ replicate k 0) z

  starts : Keeping s area₀ x (drop (work_at s) area₀)
  starts =
      let k = kept s area₀ b o in
      let g = k.good in
      record {
        pointers = (
          area_sized s x.written g.written,
          each_as (GoodPointer s) (λ a. length (area_of s a) ≡ pointer_size s) (area_sized s) x.frozen g.frozen.0,
        );
        frozen = g.frozen.1;
        reserved = g.reserved.1;
        indices = g.indices.1;
        parts = k.parts;
      }

  pub retaining_none : Retaining s map rows area₀ area₀ 0
  retaining_none =
      partly_none s map x rows p (drop (work_at s) area₀) sized there starts.frozen starts.reserved starts.indices area₀ starts

  module _ (area : List ℕ) (q : ℕ) (g : Retaining s map rows area₀ area q) where
    pub retaining_length : length area ≡ length area₀
    retaining_length = omega (arith, keeping_length s area _ (drop (work_at s) area₀) g, length-drop (work_at s) area₀, long)

    pub retaining_more : q < s.m → (a : List ℕ) → a ≡ cond (stands map (q + 1)) (notice s q (get_or rows q no_row).reading_index area) area
        → Retaining s map rows area₀ a (q + 1)
    retaining_more h =
        partly_more s map x rows p (drop (work_at s) area₀) sized there starts.frozen starts.reserved starts.indices area q h g

    pub retaining_ends : q ≡ s.m → (at size work : ℕ) → at ≡ work_at s → size ≡ pointer_size s → work ≡ work_size s
        → (u v : List ℕ) → u ≡ paste area (at - at) (drop at area) (at + size - at)
        → v ≡ paste u at (replicate (at + work - at) 0) (at + work - at)
        → v ≡ write_retained s (retained_after s map x rows p) ++ (replicate (work_size s) 0 ++ drop (area_size s) area₀)
    retaining_ends e at size work ha hs hw u v eu ev =
        let z : at - at ≡ 0 = omega arith in
        let y : at + size - at ≡ size = omega arith in
        let w : at + work - at ≡ work = omega arith in
        let k : work_at s + work_size s ≡ area_size s = omega arith in
        partly_ends s map x rows p (drop (work_at s) area₀) sized there starts.frozen starts.reserved starts.indices area
        (subst (λ (i : ℕ). Retaining s map rows area₀ area i) e g) (omega (arith, long, length-drop (work_at s) area₀)) u v
        (eu ∙ (λ j. paste area (z j) (drop (ha j) area) ((y ∙ hs) j)))
        (ev ∙ (λ j. paste u (ha j) (replicate ((w ∙ hw) j) 0) ((w ∙ hw) j)))
        ∙ ap (λ (d : List ℕ). write_retained s (retained_after s map x rows p) ++ (replicate (work_size s) 0 ++ d))
        (drop-drop (work_size s) (work_at s) area₀ ∙ ap (λ (i : ℕ). drop i area₀) k)
