-- Laws of outputs whose front is written: in rows that are whole.
use mathlib.Core.Path.{◌≡◌, refl, sym, ap, ◌∙◌}
use mathlib.Core.List.{List}
use Prim.Native.Nat.{ℕ, ◌+◌, ◌*◌, ◌/◌, ◌%◌, ◌<◌, ◌≤◌}
use native.Mathlib.Nat.{zero-add, div-add-mod'}
use native.Mathlib.Decide.{dec_lt}
use native.Mathlib.Omega.{arith}
use lib.ListN.{length, get_or, set, length-set}
use lib.Seq.{paste, ext_get_or}
use Rattle.coding.specs.Bytes.{tabulate}
use Rattle.coding.specs.Areas.{Columns}
use Rattle.coding.proofs.BytesLaws.{stride, stored_more, Front, front_length, front_in, front-after}
use Rattle.coding.proofs.AreasLaws.{Walk, walk_more}
use Rattle.recordings.proofs.PlaceLaws.{row_within, row_below, entry-below}

-- an array, of which the first l bytes are f 0, f 1, ..
pub record Filled (f : ℕ → ℕ) (size : ℕ) (v : List ℕ) (l : ℕ) : Type 0 where
  pub long : length v ≡ size
  pub done : (j : ℕ) → j < l → get_or v j 0 ≡ f j

module _ (f : ℕ → ℕ) (size : ℕ) (v : List ℕ) (l : ℕ) (s : Filled f size v l) where
  pub filled_more : (x : ℕ) → x ≡ f l → l < size → Filled f size (set v l x) (l + 1)
  filled_more x e h =
      record { long = length-set v l x ∙ s.long; done = stored_more 0 (λ j a. a ≡ f j) l v x (rw s.long h) s.done e }

-- a loop over the rows, whose place is reckoned anew at each
pub walk_next : (n F j m : ℕ) (v : ℕ → ℕ → ℕ) (t u : List ℕ) (i : ℕ) → j + m ≤ F → n * F ≤ length t → Walk n F j m v t u (i * F + j) i → i < n
    → (s : List ℕ) → m ≤ length s → ((l : ℕ) → l < m → get_or s l 0 ≡ v i l) → Walk n F j m v t (paste u (i * F + j) s m) ((i + 1) * F + j) (i + 1)
walk_next n F j m v t u i fits room w h s hs hv =
    let z : (i + 1) * F + j ≡ i * F + j + F = omega (arith, stride i F) in rw z (walk_more n F j m v t u (i * F + j) i fits room w h s hs hv)

module _ (n F : ℕ) (v : ℕ → ℕ → ℕ) (f : ℕ → ℕ) (e : (i l : ℕ) → i < n → l < F → f (i * F + l) ≡ v i l) (t u : List ℕ) where
  -- no place from the last row's end on is in a row
  past : (q : ℕ) → n * F ≤ q → (i l : ℕ) → i < n → l < F → q ≡ i * F + (0 + l) → ⊥
  past q h i l hi hl z = omega (arith, row_within F i l hl n hi)

  -- each place below is in one
  own : (q : ℕ) → q ≡ q / F * F + (0 + q % F)
  own q = omega (arith, div-add-mod' q F)

  -- a front of n rows
  pub front-columns : Front t f u (n * F) → Columns n F 0 F v t u
  front-columns s =
      record {
        same = front_length t f u (n * F) s;
        inside = λ i l hi hl.
            ap (λ (x : ℕ). get_or u (i * F + x) 0) (zero-add l)
            ∙ front_in t f u (n * F) s (i * F + l) (row_within F i l hl n hi)
            ∙ e i l hi hl;
        outside = λ q h. go q h s (dec_lt q (n * F));
      }
    where
      go : (q : ℕ) → ((i l : ℕ) → i < n → l < F → q ≡ i * F + (0 + l) → ⊥) → Front t f u (n * F) → Dec (q < n * F) → get_or u q 0 ≡ get_or t q 0
      go q h s (yes b) = absurd (h (q / F) (q % F) (row_below n F q b) (entry-below n F q b) (own q))
      go q h s (no b) = front-after t f u (n * F) s q (omega arith)

  -- rows that are whole fix the list
  pub columns-front : n * F ≤ length t → Columns n F 0 F v t u → u ≡ paste t 0 (tabulate (n * F) f) (n * F)
  columns-front r c =
      ext_get_or 0 u w (c.same ∙ sym (front_length t f w (n * F) s)) (λ q _. go q (dec_lt q (n * F)))
    where
      w : List ℕ
      w = paste t 0 (tabulate (n * F) f) (n * F)

      s : Front t f w (n * F)
      s = record { within = r; done = refl }

      go : (q : ℕ) → Dec (q < n * F) → get_or u q 0 ≡ get_or w q 0
      go q (yes b) =
          let hi : q / F < n = row_below n F q b in
          let hl : q % F < F = entry-below n F q b in
          ap (λ (x : ℕ). get_or u x 0) (own q)
          ∙ c.inside (q / F) (q % F) hi hl
          ∙ sym (e (q / F) (q % F) hi hl)
          ∙ ap f (div-add-mod' q F)
          ∙ sym (front_in t f w (n * F) s q b)
      go q (no b) = c.outside q (past q (omega arith)) ∙ sym (front-after t f w (n * F) s q (omega arith))
