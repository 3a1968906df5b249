-- Laws of columns written into areas.
use Rattle.std.proofs.Common.{◌≡◌, ℕ, ◌+◌, ◌-◌, ◌*◌, ◌/◌, ◌%◌, ◌<◌, ◌≤◌, ◌⊎◌, List, [], ◌++◌, length, get_or, take, drop, sym, refl, ap, ◌∙◌, inl, inr, ⊎_elim, append-nil, not-suc-le-zero, add-zero, mul-le-mul_right, add-mul, div-add-mod', arith, length-append, length-drop, drop_of_length-le, length-take-le, get_or-drop, take_all, get_or-take, get_or-append-add, ext_get_or, zero-add}
use native.Mathlib.Nat.{mul-add-div_right, div-eq_of_lt}
use native.Mathlib.Decide.{dec_lt}
use lib.ListN.{get_or-append}
use lib.Seq.{paste, length-paste}
use Rattle.coding.specs.Bytes.{Bytes}
use Rattle.coding.specs.Areas.{Columns}
use Rattle.coding.proofs.BytesLaws.{stride, paste_in, paste-before, paste-after}

pub columns-none : (F j m : ℕ) (v : ℕ → ℕ → ℕ) (t : List ℕ) → Columns 0 F j m v t t
columns-none F j m v t =
    record { same = refl; inside = λ i l h. absurd (not-suc-le-zero h); outside = λ q h. refl }

pub columns-empty : (n F j : ℕ) (v : ℕ → ℕ → ℕ) (t : List ℕ) → Columns n F j 0 v t t
columns-empty n F j v t =
    record { same = refl; inside = λ i l hi h. absurd (not-suc-le-zero h); outside = λ q h. refl }

-- areas before another one end where it starts
below_area : (i i' F : ℕ) → i < i' → i * F + F ≤ i' * F
below_area i i' F h =
    let b : i + 1 ≤ i' = omega arith in omega (arith, stride i F, mul-le-mul_right F b)

module _ (n F j m : ℕ) (v : ℕ → ℕ → ℕ) (t u : List ℕ) (c : Columns n F j m v t u) (fits : j + m ≤ F) where
  -- the next area is still as it was
  pub columns-kept : (l : ℕ) → l < m → get_or u (n * F + (j + l)) 0 ≡ get_or t (n * F + (j + l)) 0
  columns-kept l h = c.outside (n * F + (j + l)) (λ i l' hi hl e. omega (arith, below_area i n F hi))

  -- one area more
  pub columns-more : (s : List ℕ) → m ≤ length s → n * F + j + m ≤ length t → ((l : ℕ) → l < m → get_or s l 0 ≡ v n l)
      → Columns (n + 1) F j m v t (paste u (n * F + j) s m)
  columns-more s hs ht hv =
      let hu : n * F + j + m ≤ length u = rw c.same ht in
      let at = n * F + j in
      record {
        same = length-paste u at s m hu hs ∙ c.same;
        inside = λ i l hi hl. go_in i l hl hu (dec_lt i n) (omega arith);
        outside = λ q h. go_out q hu h (dec_lt q at) (dec_lt q (at + m));
      }
    where
      go_in : (i l : ℕ) → l < m → n * F + j + m ≤ length u → Dec (i < n) → i ≤ n → get_or (paste u (n * F + j) s m) (i * F + (j + l)) 0 ≡ v i l
      go_in i l hl hu (yes h) hi =
          paste-before u (n * F + j) s m 0 hu hs (i * F + (j + l)) (omega (arith, below_area i n F h)) ∙ c.inside i l h hl
      go_in i l hl hu (no h) hi =
          let e : i ≡ n = omega arith in
          let f : n * F + (j + l) ≡ n * F + j + l = omega arith in rw (e, f) (paste_in u (n * F + j) s m 0 hu hs l hl ∙ hv l hl)

      go_out : (q : ℕ) → n * F + j + m ≤ length u
          → ((i l : ℕ) → i < n + 1 → l < m → q ≡ i * F + (j + l) → ⊥)
          → Dec (q < n * F + j) → Dec (q < n * F + j + m) → get_or (paste u (n * F + j) s m) q 0 ≡ get_or t q 0
      go_out q hu h (yes a) b =
          paste-before u (n * F + j) s m 0 hu hs q a ∙ c.outside q (λ i l hi hl. h i l (omega arith) hl)
      go_out q hu h (no a) (yes b) =
          absurd (h n (q - (n * F + j)) (omega arith) (omega arith) (omega arith))
      go_out q hu h (no a) (no b) =
          paste-after u (n * F + j) s m 0 hu hs q (omega arith) ∙ c.outside q (λ i l hi hl. h i l (omega arith) hl)

-- the same columns written again
pub columns_again : (n F j m : ℕ) (v w : ℕ → ℕ → ℕ) (r t u : List ℕ) → Columns n F j m v r t → Columns n F j m w t u → Columns n F j m w r u
columns_again n F j m v w r t u a b =
    record {
      same = b.same ∙ a.same;
      inside = b.inside;
      outside = λ q h. b.outside q h ∙ a.outside q h;
    }

pub columns_stay : (n F j m : ℕ) (v : ℕ → ℕ → ℕ) (t u : List ℕ) → Columns n F j m v t u → Columns n F j m v u u
columns_stay n F j m v t u c = record { same = refl; inside = c.inside; outside = λ q h. refl }

-- columns that follow those written
pub columns-join : (n F a j m : ℕ) (v w : ℕ → ℕ → ℕ) (r t u : List ℕ) → a + j + m ≤ F → ((i l : ℕ) → w i l ≡ v i (j + l))
    → Columns n F a j v r t → Columns n F (a + j) m w t u → Columns n F a (j + m) v r u
columns-join n F a j m v w r t u fits e x y =
    record {
      same = y.same ∙ x.same;
      inside = λ i l hi hl. go_in i l hi hl (dec_lt l j);
      outside = λ q h.
          y.outside q (λ i l hi hl z. h i (j + l) hi (omega arith) (omega arith))
          ∙ x.outside q (λ i l hi hl z. h i l hi (omega arith) z);
    }
  where
    apart : (i l i' l' : ℕ) → l < j → l' < m → Dec (i < i') → Dec (i' < i) → i * F + (a + l) ≡ i' * F + (a + j + l') → ⊥
    apart i l i' l' hl hl' (yes p) q z = omega (arith, below_area i i' F p)
    apart i l i' l' hl hl' (no p) (yes q) z = omega (arith, below_area i' i F q)
    apart i l i' l' hl hl' (no p) (no q) z =
        let s : i ≡ i' = omega arith in
        let d : i * F + (a + l) ≡ i * F + (a + j + l') = z ∙ ap (λ (x : ℕ). x * F + (a + j + l')) (sym s) in omega arith

    go_in : (i l : ℕ) → i < n → l < j + m → Dec (l < j) → get_or u (i * F + (a + l)) 0 ≡ v i l
    go_in i l hi hl (yes h) =
        y.outside (i * F + (a + l)) (λ i' l' hi' hl'. apart i l i' l' h hl' (dec_lt i i') (dec_lt i' i)) ∙ x.inside i l hi h
    go_in i l hi hl (no h) =
        let z : i * F + (a + l) ≡ i * F + (a + j + (l - j)) = omega arith in
        let d : j + (l - j) ≡ l = omega arith in
        ap (λ (x : ℕ). get_or u x 0) z ∙ y.inside i (l - j) hi (omega arith) ∙ e i (l - j) ∙ ap (v i) d

-- a place is in one column of one area, or in none
place : (n F m q : ℕ) → 0 < F → m ≤ F
    → ((i : ℕ) × (l : ℕ) × (i < n) × (l < m) × (q ≡ i * F + (0 + l))) ⊎ ((i l : ℕ) → i < n → l < m → q ≡ i * F + (0 + l) → ⊥)
place n F m q pos fits = go (dec_lt (q / F) n) (dec_lt (q % F) m)
  where
    own : q ≡ q / F * F + (0 + q % F)
    own = omega (arith, div-add-mod' q F)

    -- the area of a place is its quotient
    area : (i l : ℕ) → l < m → q ≡ i * F + (0 + l) → q / F ≡ i
    area i l h z =
        let y : q ≡ i * F + l = omega arith in
        let s : l < F = omega arith in rw y (mul-add-div_right pos i l ∙ ap (λ (x : ℕ). i + x) (div-eq_of_lt s) ∙ add-zero i)

    go : Dec (q / F < n) → Dec (q % F < m)
        → ((i : ℕ) × (l : ℕ) × (i < n) × (l < m) × (q ≡ i * F + (0 + l))) ⊎ ((i l : ℕ) → i < n → l < m → q ≡ i * F + (0 + l) → ⊥)
    go (yes hi) (yes hl) = inl (q / F, q % F, hi, hl, own)
    go (yes hi) (no hl) =
        inr
        (λ i l hi' hl' z.
        let y : q / F ≡ i = area i l hl' z in
        let x : q ≡ q / F * F + (0 + q % F) = own in
        let p : q ≡ q / F * F + (0 + l) = z ∙ ap (λ (x : ℕ). x * F + (0 + l)) (sym y) in omega arith)
    go (no hi) hl = inr (λ i l hi' hl' z. let y : q / F ≡ i = area i l hl' z in omega arith)

-- the columns fix the list
pub columns_unique : (n F m : ℕ) (v : ℕ → ℕ → ℕ) (t u w : List ℕ) → 0 < F → m ≤ F → Columns n F 0 m v t u → Columns n F 0 m v t w → u ≡ w
columns_unique n F m v t u w pos fits a b =
    ext_get_or 0 u w (a.same ∙ sym b.same)
    (λ q h.
    ⊎_elim
    (λ x. rw x.4 (a.inside x.0 x.1 x.2 x.3 ∙ sym (b.inside x.0 x.1 x.2 x.3)))
    (λ x. a.outside q x ∙ sym (b.outside q x))
    (place n F m q pos fits))

pub columns-bytes : (n F m : ℕ) (v : ℕ → ℕ → ℕ) (t u : List ℕ) → 0 < F → m ≤ F → ((i l : ℕ) → v i l < 256) → Bytes t
    → Columns n F 0 m v t u → Bytes u
columns-bytes n F m v t u pos fits hv b c q =
    ⊎_elim
    (λ x. rw x.4 (rw (c.inside x.0 x.1 x.2 x.3) (hv x.0 x.1)))
    (λ x. rw (c.outside q x) (b q))
    (place n F m q pos fits)

-- areas that follow those written, in the rest of the list
pub columns-areas : (a c F m : ℕ) (v w : ℕ → ℕ → ℕ) (t u p : List ℕ) → m ≤ F → a * F ≤ length u → ((i l : ℕ) → w i l ≡ v (a + i) l)
    → Columns a F 0 m v t u → Columns c F 0 m w (drop (a * F) u) p → Columns (a + c) F 0 m v t (take (a * F) u ++ p)
columns-areas a c F m v w t u p fits r e x y =
    let n : length (take (a * F) u) ≡ a * F = length-take-le (a * F) u r in
    record {
      same = length-append (take (a * F) u) p ∙ omega (arith, x.same, y.same, length-drop (a * F) u);
      inside = λ i l hi hl. go_in i l hi hl n (dec_lt i a);
      outside = λ q h. go_out q h n (dec_lt q (a * F));
    }
  where
    low : (q : ℕ) → length (take (a * F) u) ≡ a * F → q < a * F → get_or (take (a * F) u ++ p) q 0 ≡ get_or u q 0
    low q n h = get_or-append (take (a * F) u) p 0 q (rw n h) ∙ get_or-take (a * F) u q 0 h

    high : (q : ℕ) → length (take (a * F) u) ≡ a * F → get_or (take (a * F) u ++ p) (a * F + q) 0 ≡ get_or p q 0
    high q n = ap (λ (z : ℕ). get_or (take (a * F) u ++ p) (z + q) 0) (sym n) ∙ get_or-append-add (take (a * F) u) p q 0

    go_in : (i l : ℕ) → i < a + c → l < m → length (take (a * F) u) ≡ a * F → Dec (i < a) → get_or (take (a * F) u ++ p) (i * F + (0 + l)) 0 ≡ v i l
    go_in i l hi hl n (yes h) = low (i * F + (0 + l)) n (omega (arith, below_area i a F h)) ∙ x.inside i l h hl
    go_in i l hi hl n (no h) =
        let d : i ≡ a + (i - a) = omega arith in
        let z : i * F + (0 + l) ≡ a * F + ((i - a) * F + (0 + l)) =
        ap (λ (k : ℕ). k * F + (0 + l)) d ∙ omega (arith, add-mul a (i - a) F)
        in
        ap (λ (k : ℕ). get_or (take (a * F) u ++ p) k 0) z
        ∙ high ((i - a) * F + (0 + l)) n
        ∙ y.inside (i - a) l (omega arith) hl
        ∙ e (i - a) l
        ∙ ap (λ (k : ℕ). v k l) (sym d)

    go_out : (q : ℕ) → ((i l : ℕ) → i < a + c → l < m → q ≡ i * F + (0 + l) → ⊥) → length (take (a * F) u) ≡ a * F → Dec (q < a * F)
        → get_or (take (a * F) u ++ p) q 0 ≡ get_or t q 0
    go_out q h n (yes b) = low q n b ∙ x.outside q (λ i l hi hl. h i l (omega arith) hl)
    go_out q h n (no b) =
        let d : q ≡ a * F + (q - a * F) = omega arith in
        ap (λ (k : ℕ). get_or (take (a * F) u ++ p) k 0) d
        ∙ high (q - a * F) n
        ∙ y.outside (q - a * F) (λ i l hi hl z. h (a + i) l (omega arith) hl (omega (arith, add-mul a i F)))
        ∙ get_or-drop (a * F) u (q - a * F) 0
        ∙ ap (λ (k : ℕ). get_or u k 0) (sym d)
        ∙ x.outside q (λ i l hi hl. h i l (omega arith) hl)

-- a loop over the areas: those below i are written, and the next place is area i's
pub record Walk (n F j m : ℕ) (v : ℕ → ℕ → ℕ) (t u : List ℕ) (at i : ℕ) : Type 0 where
  pub within : i ≤ n
  pub place : at ≡ i * F + j
  pub columns : Columns i F j m v t u

pub walk_none : (n F j m : ℕ) (v : ℕ → ℕ → ℕ) (t : List ℕ) → Walk n F j m v t t j 0
walk_none n F j m v t = record { within = omega arith; place = omega arith; columns = columns-none F j m v t }

module _ (n F j m : ℕ) (v : ℕ → ℕ → ℕ) (t u : List ℕ) (at i : ℕ) (fits : j + m ≤ F) (room : n * F ≤ length t) (w : Walk n F j m v t u at i) where
  pub walk_fits : i < n → at + F ≤ length t + j
  walk_fits h = let p : at ≡ i * F + j = w.place in omega (arith, below_area i n F h)

  pub walk_room : i < n → at + m ≤ length u
  walk_room h = let e : length u ≡ length t = w.columns.same in omega (arith, walk_fits h)

  pub walk_kept : (l : ℕ) → l < m → get_or u (at + l) 0 ≡ get_or t (i * F + (j + l)) 0
  walk_kept l h =
      let p : at ≡ i * F + j = w.place in
      let e : at + l ≡ i * F + (j + l) = omega arith in
      ap (λ (x : ℕ). get_or u x 0) e ∙ columns-kept i F j m v t u w.columns fits l h

  pub walk_more : i < n → (s : List ℕ) → m ≤ length s → ((l : ℕ) → l < m → get_or s l 0 ≡ v i l) → Walk n F j m v t (paste u at s m) (at + F) (i + 1)
  walk_more h s hs hv =
      let p : at ≡ i * F + j = w.place in
      record {
        within = omega arith;
        place = omega (arith, stride i F);
        columns = rw p (columns-more i F j m v t u w.columns fits s hs (omega (arith, walk_fits h)) hv);
      }

  pub walk_all : n ≤ i → Columns n F j m v t u
  walk_all h = let e : i ≡ n = omega (arith, w.within) in rw e at w.columns

-- the same, of a part lent from a place to the end
pub columns-rest : (a c F m : ℕ) (v w : ℕ → ℕ → ℕ) (t u p : List ℕ) → m ≤ F → a * F ≤ length u → ((i l : ℕ) → w i l ≡ v (a + i) l)
    → Columns a F 0 m v t u → Columns c F 0 m w (take (length u - a * F) (drop (a * F) u)) p
    → Columns (a + c) F 0 m v t (take (a * F) u ++ (p ++ drop (length u - a * F) (drop (a * F) u)))
columns-rest a c F m v w t u p fits r e x y =
    let s : length (drop (a * F) u) ≡ length u - a * F = length-drop (a * F) u in
    let d : take (length u - a * F) (drop (a * F) u) ≡ drop (a * F) u = take_all (length u - a * F) (drop (a * F) u) (omega arith) in
    let z : drop (length u - a * F) (drop (a * F) u) ≡ [] = drop_of_length-le (drop (a * F) u) {i = length u - a * F} (omega arith) in
    rw z (rw (append-nil p) (columns-areas a c F m v w t u p fits r e x (rw d at y)))

-- the next columns of all areas, which end at e
pub columns_next : (n F j m e : ℕ) (v : ℕ → ℕ → ℕ) (r t u : List ℕ) → e ≡ j + m → e ≤ F → Columns n F 0 j v r t
    → Columns n F j m (λ i l. v i (j + l)) t u → Columns n F 0 e v r u
columns_next n F j m e v r t u q fits x y =
    rw q (columns-join n F 0 j m v (λ i l. v i (j + l)) r t u (omega arith) (λ i l. refl) x (rw zero-add y))
