-- Laws of lists of bytes: what is tabulated, filled from the front, spliced.
use Rattle.std.proofs.Common.{◌≡◌, ℕ, zero, suc, ◌+◌, ◌-◌, ◌*◌, ◌<◌, ◌≤◌, List, [], ◌∷◌, ◌++◌, map, length, get_or, take, drop, set, replicate, sym, refl, ap, ◌∙◌, ap₂, le_of_eq, not-suc-le-zero, add-mul, one-mul, zero-add, add-one, arith, length-append, length-set, length-take-le, get_or-drop, get_or-set_other, get_or-take, get_or-set_same, take-suc-set, get_or-append-add, ext_get_or}
use mathlib.Core.List.{map-append}
use native.Mathlib.Decide.{dec_lt, ℕ_discrete}
use lib.ListN.{get_or-append, replicate-append-replicate}
use lib.Seq.{get_or-append_seam, paste, length_paste_head, paste-zero, paste-suc, length-paste}
use Rattle.coding.specs.Bytes.{Bytes, tabulate}

pub zeros_at : (n i : ℕ) → get_or (replicate {A = ℕ} n 0) i 0 ≡ 0
zeros_at zero i = refl
zeros_at (suc n) zero = refl
zeros_at (suc n) (suc i) = zeros_at n i

-- what holds of the first entry and of each later one holds of each
pub all_cons : (P : ℕ → Type 0) (a : ℕ) (p : List ℕ) → P a → ((i : ℕ) → P (get_or p i 0)) → (i : ℕ) → P (get_or (a ∷ p) i 0)
all_cons P a p h t zero = h
all_cons P a p h t (suc i) = t i

pub bytes_cons : (a : ℕ) (p : List ℕ) → a < 256 → Bytes p → Bytes (a ∷ p)
bytes_cons = all_cons (λ a. a < 256)

-- what holds of each entry below i, and of the one stored at i, holds below i + 1
pub stored_more : {A : Type 0} (z : A) (P : ℕ → A → Type 0) (i : ℕ) (xs : List A) (a : A) → i < length xs
    → ((j : ℕ) → j < i → P j (get_or xs j z)) → P i a → (j : ℕ) → j < i + 1 → P j (get_or (set xs i a) j z)
stored_more z P i xs a l all here j h = go (ℕ_discrete j i)
  where
    go : Dec (j ≡ i) → P j (get_or (set xs i a) j z)
    go (yes e) = rw e (rw (get_or-set_same xs i a z l) here)
    go (no d) = rw (get_or-set_other xs i j a z d) (all j (omega arith))

-- one step of a stride
pub stride : (l k : ℕ) → (l + 1) * k ≡ l * k + k
stride l k = add-mul l 1 k ∙ ap (λ (x : ℕ). l * k + x) (one-mul k)

module _ {ℓ} {A : Type ℓ} where
  pub tabulate-none : (f : ℕ → A) → tabulate 0 f ≡ []
  unfolding tabulate
  tabulate-none f = refl

  pub tabulate-more : (n : ℕ) (f : ℕ → A) → tabulate (suc n) f ≡ tabulate n f ++ (f n ∷ [])
  unfolding tabulate
  tabulate-more n f = refl

  pub length-tabulate : (n : ℕ) (f : ℕ → A) → length (tabulate n f) ≡ n
  unfolding tabulate
  length-tabulate zero f = refl
  length-tabulate (suc n) f = length-append (tabulate n f) (f n ∷ []) ∙ ap (λ (x : ℕ). x + 1) (length-tabulate n f) ∙ add-one n

  pub get_or-tabulate : (n : ℕ) (f : ℕ → A) (i : ℕ) (d : A) → i < n → get_or (tabulate n f) i d ≡ f i
  unfolding tabulate
  get_or-tabulate zero f i d h = absurd (not-suc-le-zero h)
  get_or-tabulate (suc n) f i d h = go (get_or-tabulate n f i d) (dec_lt i n)
    where
      go : (i < n → get_or (tabulate n f) i d ≡ f i) → Dec (i < n) → get_or (tabulate n f ++ (f n ∷ [])) i d ≡ f i
      go ih (yes l) = get_or-append (tabulate n f) (f n ∷ []) d i (rw length-tabulate l) ∙ ih l
      go ih (no l) =
          let e : i ≡ n = omega arith in
          rw e (ap (λ (x : ℕ). get_or (tabulate n f ++ (f n ∷ [])) x d) (sym (length-tabulate n f)) ∙ get_or-append_seam (tabulate n f) (f n) [] d)

  pub tabulate_ext : (n : ℕ) (f g : ℕ → A) → ((i : ℕ) → i < n → f i ≡ g i) → tabulate n f ≡ tabulate n g
  unfolding tabulate
  tabulate_ext zero f g h = refl
  tabulate_ext (suc n) f g h =
      λ j. tabulate_ext n f g (λ i l. h i (omega arith)) j ++ (h n (omega arith) j ∷ [])

  pub tabulate-same : (n : ℕ) (a : A) → tabulate n (λ i. a) ≡ replicate n a
  unfolding tabulate
  tabulate-same zero a = refl
  tabulate-same (suc n) a =
      ap (λ (l : List A). l ++ (a ∷ [])) (tabulate-same n a) ∙ replicate-append-replicate n 1 a ∙ ap (λ (k : ℕ). replicate k a) (add-one n)

  -- a list filled from the front, one store a turn
  pub filled_more : (v : List A) (i : ℕ) (f : ℕ → A) → i < length v → take i v ≡ tabulate i f → take (i + 1) (set v i (f i)) ≡ tabulate (i + 1) f
  unfolding tabulate
  filled_more v i f h e = rw add-one (take-suc-set v i (f i) h ∙ ap (λ (l : List A). l ++ (f i ∷ [])) e)

pub map-tabulate : {A B : Type 0} (g : A → B) (n : ℕ) (f : ℕ → A) → map g (tabulate n f) ≡ tabulate n (λ i. g (f i))
unfolding tabulate
map-tabulate g zero f = refl
map-tabulate {B = B} g (suc n) f = map-append g (tabulate n f) (f n ∷ []) ∙ ap (λ (t : List B). t ++ (g (f n) ∷ [])) (map-tabulate g n f)

-- what is pasted counts as far as it is shown
pub paste_ext : (d : List ℕ) (at : ℕ) (s t : List ℕ) (n : ℕ) → n ≤ length s → n ≤ length t → ((i : ℕ) → i < n → get_or s i 0 ≡ get_or t i 0)
    → paste d at s n ≡ paste d at t n
paste_ext d at s t n hs ht h =
    ap (λ (l : List ℕ). take at d ++ l ++ drop (at + n) d)
    (ext_get_or 0 (take n s) (take n t) (length-take-le n s hs ∙ sym (length-take-le n t ht))
    (λ i b.
    let c : i < n = rw (length-take-le n s hs) at b in get_or-take n s i 0 c ∙ h i c ∙ sym (get_or-take n t i 0 c)))

module _ {ℓ} {A : Type ℓ} (d : List A) (at : ℕ) (s : List A) (n : ℕ) (z : A) (hd : at + n ≤ length d) (hs : n ≤ length s) where
  -- what a paste shows at each place
  pub paste_in : (q : ℕ) → q < n → get_or (paste d at s n) (at + q) z ≡ get_or s q z
  paste_in q h =
      let b : at ≤ length d = omega arith in
      let e : length (take at d) ≡ at = length-take-le at d b in
      let f : at + q < length (take at d ++ take n s) = rw (length_paste_head d at s n b hs) (omega arith) in
      get_or-append (take at d ++ take n s) (drop (at + n) d) z (at + q) f
      ∙ ap (λ (x : ℕ). get_or (take at d ++ take n s) (x + q) z) (sym e)
      ∙ get_or-append-add (take at d) (take n s) q z
      ∙ get_or-take n s q z h

  pub paste-before : (q : ℕ) → q < at → get_or (paste d at s n) q z ≡ get_or d q z
  paste-before q h =
      let b : at ≤ length d = omega arith in
      let e : length (take at d) ≡ at = length-take-le at d b in
      let f : q < length (take at d ++ take n s) = rw (length_paste_head d at s n b hs) (omega arith) in
      get_or-append (take at d ++ take n s) (drop (at + n) d) z q f
      ∙ get_or-append (take at d) (take n s) z q (rw e h)
      ∙ get_or-take at d q z h

  pub paste-after : (q : ℕ) → at + n ≤ q → get_or (paste d at s n) q z ≡ get_or d q z
  paste-after q h =
      let b : at ≤ length d = omega arith in
      let e : length (take at d ++ take n s) ≡ at + n = length_paste_head d at s n b hs in
      let f : q ≡ at + n + (q - (at + n)) = omega arith in
      ap (λ (x : ℕ). get_or (paste d at s n) x z) (f ∙ ap (λ (x : ℕ). x + (q - (at + n))) (sym e))
      ∙ get_or-append-add (take at d ++ take n s) (drop (at + n) d) (q - (at + n)) z
      ∙ get_or-drop (at + n) d (q - (at + n)) z
      ∙ ap (λ (x : ℕ). get_or d x z) (sym f)

-- u is d with f 0, f 1, .. over its first n bytes
pub record Front (d : List ℕ) (f : ℕ → ℕ) (u : List ℕ) (n : ℕ) : Type 0 where
  pub within : n ≤ length d
  pub done : u ≡ paste d 0 (tabulate n f) n

pub front-none : (d : List ℕ) (f : ℕ → ℕ) → Front d f d 0
front-none d f = record { within = omega arith; done = paste-zero d 0 (tabulate 0 f) }

module _ (d : List ℕ) (f : ℕ → ℕ) (u : List ℕ) (n : ℕ) (s : Front d f u n) where
  fits : 0 + n ≤ length d
  fits = omega (arith, s.within)

  long : n ≤ length (tabulate n f)
  long = le_of_eq (sym (length-tabulate n f))

  pub front_length : length u ≡ length d
  front_length = ap length s.done ∙ length-paste d 0 (tabulate n f) n fits long

  pub front_in : (q : ℕ) → q < n → get_or u q 0 ≡ f q
  front_in q b =
      ap₂ (λ (v : List ℕ) (x : ℕ). get_or v x 0) s.done (sym (zero-add q))
      ∙ paste_in d 0 (tabulate n f) n 0 fits long q b
      ∙ get_or-tabulate n f q 0 b

  pub front-after : (q : ℕ) → n ≤ q → get_or u q 0 ≡ get_or d q 0
  front-after q b = ap (λ (v : List ℕ). get_or v q 0) s.done ∙ paste-after d 0 (tabulate n f) n 0 fits long q (omega arith)

-- m bytes more
pub front-more : (d : List ℕ) (f : ℕ → ℕ) (u : List ℕ) (n m : ℕ) (v : List ℕ) → Front d f u n → n + m ≤ length d → m ≤ length v
    → ((l : ℕ) → l < m → get_or v l 0 ≡ f (n + l)) → Front d f (paste u n v m) (n + m)
front-more d f u n m v s hd hv e =
    record {
      within = hd;
      done = ext_get_or 0 (paste u n v m) w (length-paste u n v m hu hv ∙ front_length d f u n s ∙ sym (front_length d f w (n + m) t))
          (λ q _. go q (dec_lt q n) (dec_lt q (n + m)));
    }
  where
    w : List ℕ
    w = paste d 0 (tabulate (n + m) f) (n + m)

    t : Front d f w (n + m)
    t = record { within = hd; done = refl }

    hu : n + m ≤ length u
    hu = rw (front_length d f u n s) hd

    go : (q : ℕ) → Dec (q < n) → Dec (q < n + m) → get_or (paste u n v m) q 0 ≡ get_or w q 0
    go q (yes h) p = paste-before u n v m 0 hu hv q h ∙ front_in d f u n s q h ∙ sym (front_in d f w (n + m) t q (omega arith))
    go q (no h) (yes p) =
        let z : n + (q - n) ≡ q = omega arith in
        ap (λ (x : ℕ). get_or (paste u n v m) x 0) (sym z)
        ∙ paste_in u n v m 0 hu hv (q - n) (omega arith)
        ∙ e (q - n) (omega arith)
        ∙ ap f z
        ∙ sym (front_in d f w (n + m) t q p)
    go q (no h) (no p) =
        paste-after u n v m 0 hu hv q (omega arith)
        ∙ front-after d f u n s q (omega arith)
        ∙ sym (front-after d f w (n + m) t q (omega arith))

-- the next bytes, which end at e
pub front_next : (d : List ℕ) (f : ℕ → ℕ) (u w : List ℕ) (n m e : ℕ) (v : List ℕ) → e ≡ n + m → w ≡ paste u n v m → e ≤ length d
    → m ≤ length v → Front d f u n → ((l : ℕ) → l < m → get_or v l 0 ≡ f (n + l)) → Front d f w e
front_next d f u w n m e v q o hd hv s b = rw (q, o) (front-more d f u n m v s (rw q at hd) hv b)

-- 16 lanes, of which the first l are filled with f 0, f 1, ..
pub record Lanes (f : ℕ → ℕ) (v : List ℕ) (l : ℕ) : Type 0 where
  pub within : l ≤ 16
  pub sixteen : length v ≡ 16
  pub done : take l v ≡ tabulate l f

pub lanes_none : (f : ℕ → ℕ) (v : List ℕ) → length v ≡ 16 → Lanes f v 0
unfolding tabulate
lanes_none f v h = record { within = omega arith; sixteen = h; done = refl }

module _ (f : ℕ → ℕ) (v : List ℕ) (l : ℕ) (s : Lanes f v l) where
  pub lanes_more : (x : ℕ) → x ≡ f l → l < 16 → Lanes f (set v l x) (l + 1)
  lanes_more x e h =
      let b : l < length v = rw s.sixteen h in
      record {
        within = omega arith;
        sixteen = length-set v l x ∙ s.sixteen;
        done = rw e (filled_more v l f b s.done);
      }

  pub lanes_at : (m i : ℕ) → m ≤ l → i < m → get_or v i 0 ≡ f i
  lanes_at m i hm hi =
      let h : i < l = omega arith in
      sym (get_or-take l v i 0 h) ∙ ap (λ (w : List ℕ). get_or w i 0) s.done ∙ get_or-tabulate l f i 0 h

-- the same, with a place that goes on by k
pub record Strided (f : ℕ → ℕ) (from k : ℕ) (v : List ℕ) (at l : ℕ) : Type 0 where
  pub lanes : Lanes (λ i. f (from + i * k)) v l
  pub place : at ≡ from + l * k

pub strided_at : (f : ℕ → ℕ) (from k : ℕ) (v : List ℕ) (at l : ℕ) → Strided f from k v at l → (m i : ℕ) → m ≤ l → i < m → get_or v i 0 ≡ f (from + i * k)
strided_at f from k v at l s = lanes_at (λ i. f (from + i * k)) v l s.lanes

-- a copy of the first m lanes of v, of which l are done
pub record Pasted (t : List ℕ) (at : ℕ) (v : List ℕ) (m : ℕ) (u : List ℕ) (l : ℕ) : Type 0 where
  pub within : l ≤ m
  pub done : u ≡ paste t at v l

pub pasted_none : (t : List ℕ) (at : ℕ) (v : List ℕ) (m : ℕ) → Pasted t at v m t 0
pasted_none t at v m = record { within = omega arith; done = paste-zero t at v }

module _ (t : List ℕ) (at : ℕ) (v : List ℕ) (m : ℕ) (ht : at + m ≤ length t) (hv : m ≤ length v) (u : List ℕ) (l : ℕ) (s : Pasted t at v m u l) where
  pub pasted_length : length u ≡ length t
  pasted_length =
      let w : l ≤ m = s.within in ap length s.done ∙ length-paste t at v l (omega arith) (omega arith)

  pub pasted_more : l < m → Pasted t at v m (set u (at + l) (get_or v l 0)) (l + 1)
  pasted_more h =
      record {
        within = omega arith;
        done = rw add-one (ap (λ (w : List ℕ). set w (at + l) (get_or v l 0)) s.done ∙ paste-suc t at v l 0 (omega arith) (omega arith));
      }

  pub pasted_all : m ≤ l → u ≡ paste t at v m
  pasted_all h = let e : l ≡ m = omega (arith, s.within) in rw e at s.done
