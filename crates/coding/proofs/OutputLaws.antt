-- Laws of frame bytes placed in the output.
use Rattle.std.proofs.Common.{◌≡◌, ℕ, ◌+◌, ◌*◌, ◌<◌, ◌≤◌, ◌⊎◌, List, length, get_or, set, sym, refl, ap, ◌∙◌, inl, inr, ⊎_elim, arith, length-set, get_or-set_other, get_or-set_same}
use native.Mathlib.Decide.{dec_lt, ℕ_discrete}
use Rattle.coding.specs.Output.{Placed, Stride}

module _ (g : ℕ → ℕ) (len : ℕ) where
  pub placed_none : (D : ℕ → Type 0) (t : List ℕ) → ((q : ℕ) → q < len → D (4 + q) → ⊥) → Placed g len D t t
  placed_none D t h =
      record { same = refl; beyond = λ q l. refl; keep = λ q e. e; right = λ q l d. absurd (h q l d) }

  -- a later write keeps what is right
  pub placed_then : (D E H : ℕ → Type 0) (t u w : List ℕ) → ((p : ℕ) → H p → D p ⊎ E p) → Placed g len D t u → Placed g len E u w → Placed g len H t w
  placed_then D E H t u w h a b =
      record {
        same = b.same ∙ a.same;
        beyond = λ q l. b.beyond q l ∙ a.beyond q l;
        keep = λ q e. b.keep q (a.keep q e);
        right = λ q l d. ⊎_elim (λ x. b.keep q (a.right q l x)) (λ y. b.right q l y) (h (4 + q) d);
      }

  pub placed_fewer : (D E : ℕ → Type 0) (t u : List ℕ) → ((p : ℕ) → E p → D p) → Placed g len D t u → Placed g len E t u
  placed_fewer D E t u h a =
      record { same = a.same; beyond = a.beyond; keep = a.keep; right = λ q l d. a.right q l (h (4 + q) d) }

  pub placed_put : (t : List ℕ) (q x : ℕ) → q < len → q < length t → x ≡ g (4 + q) → Placed g len (◌≡◌ (4 + q)) t (set t q x)
  placed_put t q x h l e =
      record {
        same = length-set t q x;
        beyond = λ p b. get_or-set_other t q p x 0 (λ z. omega arith);
        keep = λ p z. go p (λ _. z) (ℕ_discrete p q);
        right = λ p b z. go p (λ n. absurd (n (omega arith))) (ℕ_discrete p q);
      }
    where
      go : (p : ℕ) → ((p ≡ q → ⊥) → get_or t p 0 ≡ g (4 + p)) → Dec (p ≡ q) → get_or (set t q x) p 0 ≡ g (4 + p)
      go p f (yes z) = rw z (get_or-set_same t q x 0 l ∙ e)
      go p f (no z) = get_or-set_other t q p x 0 z ∙ f z

-- one place more of a stride
pub stride_more : (from k l p : ℕ) → Stride from k (l + 1) p → Stride from k l p ⊎ (from + l * k ≡ p)
stride_more from k l p s = go (dec_lt s.0 l)
  where
    go : Dec (s.0 < l) → Stride from k l p ⊎ (from + l * k ≡ p)
    go (yes h) = inl (s.0, h, s.2)
    go (no h) =
        let b : s.0 < l + 1 = s.1 in
        let e : s.0 ≡ l = omega arith in inr (sym (s.2 ∙ ap (λ (x : ℕ). from + x * k) e))

-- a loop that scatters the first m lanes of v, of which l are placed
pub record Scatter (v : List ℕ) (m from k len : ℕ) (t u : List ℕ) (l : ℕ) : Type 0 where
  pub within : l ≤ m
  pub same : length u ≡ length t
  pub placed : (g : ℕ → ℕ) → ((i : ℕ) → i < m → get_or v i 0 ≡ g (from + i * k)) → Placed g len (Stride from k l) t u

pub scatter_more : (v : List ℕ) (m from k len : ℕ) (t u : List ℕ) (l : ℕ) (w : List ℕ) → Scatter v m from k len t u l → l < m
    → length w ≡ length u → ((g : ℕ → ℕ) → get_or v l 0 ≡ g (from + l * k) → Placed g len (◌≡◌ (from + l * k)) u w)
    → Scatter v m from k len t w (l + 1)
scatter_more v m from k len t u l w s h e p =
    record {
      within = omega arith;
      same = e ∙ s.same;
      placed = λ g z.
          placed_then g len (Stride from k l) (◌≡◌ (from + l * k)) (Stride from k (l + 1)) t u w (stride_more from k l) (s.placed g z) (p g (z l h));
    }
