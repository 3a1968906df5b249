-- Laws of the part that a pointer takes.
use mathlib.Core.Path.{◌≡◌, sym, ap, ◌∙◌}
use mathlib.Core.Bool.{Bool, true, false, cond}
use mathlib.Core.List.{List, ◌++◌, append_assoc}
use Prim.Native.Nat.{ℕ, ◌+◌, ◌*◌, ◌≤◌}
use native.Mathlib.Omega.{arith}
use lib.Dec.{ltb}
use lib.ListN.{length, take, drop, length-append}
use lib.Seq.{take_all, take_at, drop_at}
use Rattle.parties.specs.declared.Measures.{Measures}
use Rattle.parties.specs.declared.ReadingIndex.{ReadingIndex}
use Rattle.parties.specs.protocol.Format.{read_number, write_number, write_many}
use Rattle.parties.specs.protocol.Nodes.{count}
use Rattle.parties.specs.protocol.Pointer.{Pointer, write_version, write_named, write_pointer}
use Rattle.parties.proofs.protocol.formats.FormatLaws.{format_number}
use Rattle.parties.proofs.protocol.formats.PointerLaws.{GoodPointer, length-version, pointer-length}
use Rattle.parties.specs.client.Pick.{map_of, pointer_part, picked_part}
use Rattle.parties.proofs.records.BytesLaws.{two-read}

pub part-all : (s : List ℕ) → length s ≤ 7 + 32 * count (map_of s) → s ≡ pointer_part s
unfolding pointer_part
part-all s h = sym (take_all (7 + 32 * count (map_of s)) s h)

pub part_cut : (s : List ℕ) (n : ℕ) → n ≡ count (map_of s) → take (7 + 32 * n) s ≡ pointer_part s
unfolding pointer_part
part_cut s n e = ap (λ (x : ℕ). take (7 + 32 * x) s) e

-- ---- the part is the pointer, where one stands

module _ (m : Measures) (p : Pointer) (g : GoodPointer m p) where
  pointer-map : (s : List ℕ) → p.named.nodes ≡ map_of (write_pointer p ++ s)
  unfolding write_pointer write_named
  pointer-map s =
      let x = write_version p.version in
      let y = write_number 2 p.named.nodes in
      let z = write_many (λ d. d) p.named.digests in
      let e : (x ++ (y ++ z)) ++ s ≡ x ++ (y ++ (z ++ s)) = append_assoc x (y ++ z) s ∙ ap (λ (l : List ℕ). x ++ l) (append_assoc y z s) in
      let l : 7 ≤ length (write_pointer p ++ s) = omega (arith, length-append (write_pointer p) s, pointer-length m p g) in
      two-read (write_pointer p ++ s) 5 p.named.nodes (z ++ s) l
      (ap (λ (t : List ℕ). read_number 2 (drop 5 t)) e
      ∙ ap (read_number 2) (drop_at x (y ++ (z ++ s)) 5 (length-version p.version))
      ∙ (format_number 2).back p.named.nodes g.0.1.0 (z ++ s))

  pub pointer-part : (s : List ℕ) → pointer_part (write_pointer p ++ s) ≡ write_pointer p
  unfolding pointer_part
  pointer-part s =
      take_at (write_pointer p) s (7 + 32 * count (map_of (write_pointer p ++ s)))
      (pointer-length m p g ∙ ap (λ (x : ℕ). 7 + 32 * count x) (pointer-map s))

-- what is picked of two fields is the pointer that document 01 says
pub picked_pointer : (m : Measures) (p q : Pointer) → GoodPointer m p → GoodPointer m q → (s t : List ℕ) (i frozen_index : ReadingIndex)
    → picked_part (write_pointer p ++ s) (write_pointer q ++ t) i frozen_index ≡ write_pointer (cond (ltb frozen_index.0 i.0) p q)
picked_pointer m p q gp gq s t i frozen_index = go (ltb frozen_index.0 i.0)
  where
    go : (b : Bool) → cond b (pointer_part (write_pointer p ++ s)) (pointer_part (write_pointer q ++ t)) ≡ write_pointer (cond b p q)
    go true = pointer-part m p gp s
    go false = pointer-part m q gq t
