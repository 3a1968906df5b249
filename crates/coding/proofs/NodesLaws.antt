-- Laws of the nodes that a bit map names.
use Rattle.std.proofs.Common.{◌≡◌, ℕ, zero, suc, ◌+◌, ◌-◌, ◌*◌, ◌/◌, ◌%◌, ◌^◌, ◌<◌, ◌≤◌, Bool, true, false, cond, ◌&&◌, eqb, ltb, leb, List, [], ◌∷◌, ◌++◌, length, get_or, drop, sym, refl, ap, ◌∙◌, true≢false, append_assoc, append-nil, not-suc-le-zero, div-lt_iff_lt-mul, add-one, arith, length-append, drop-cons, pow_pos, pow_mono, le-ltb, lt-ltb, eq-eqb, ne_eqb, eqb-true, le-leb}
use native.Mathlib.Nat.{zero-div, div-eq_of_lt}
use native.Mathlib.Decide.{dec_lt, ℕ_discrete}
use borrow.Author.Tests.{lt-leb}
use lib.ListN.{get_or-append}
use lib.Seq.{drop-length, get_or-append_seam}
use Rattle.coding.specs.Nodes.{all, nodes_of, sound, first_length}

-- nothing is left of a number below a power once it is shifted by that power
pub shifted_out : (m n : ℕ) → eqb (m / 2 ^ n) 0 ≡ ltb m (2 ^ n)
shifted_out m n = go (dec_lt m (2 ^ n))
  where
    go : Dec (m < 2 ^ n) → eqb (m / 2 ^ n) 0 ≡ ltb m (2 ^ n)
    go (yes h) = eq-eqb (m / 2 ^ n) 0 (div-eq_of_lt h) ∙ sym (lt-ltb m (2 ^ n) h)
    go (no h) =
        ne_eqb (m / 2 ^ n) 0
        (λ e.
        let b : m / 2 ^ n < 1 = omega arith in
        let d : m < 1 * 2 ^ n = (div-lt_iff_lt-mul (pow_pos n)).0 b in omega arith)
        ∙ sym (le-ltb m (2 ^ n) (omega arith))

-- the nodes up to none, and up to one more, which is named if its bit stands
pub nodes_start : (map : ℕ) → nodes_of map 0 ≡ []
unfolding nodes_of
nodes_start map = refl

pub nodes_skip : (map i : ℕ) → eqb (map / 2 ^ i % 2) 1 ≡ false → nodes_of map (i + 1) ≡ nodes_of map i
unfolding nodes_of
nodes_skip map i e = rw (add-one i) (simp e (append-nil (nodes_of map i)))

pub nodes-more : (map i : ℕ) → eqb (map / 2 ^ i % 2) 1 ≡ true → nodes_of map (i + 1) ≡ nodes_of map i ++ ((i + 1) ∷ [])
unfolding nodes_of
nodes-more map i e = rw (add-one i) (simp e refl)

-- the empty map names no node
pub nodes-none : (n : ℕ) → nodes_of 0 n ≡ []
unfolding nodes_of
nodes-none zero = refl
nodes-none (suc n) =
    let z : 0 / 2 ^ n % 2 ≡ 0 = ap (λ (x : ℕ). x % 2) (zero-div (2 ^ n)) in
    rw (nodes-none n) (simp (ne_eqb (0 / 2 ^ n % 2) 1 (λ e. omega arith)))

pub nodes-few : (map i : ℕ) → length (nodes_of map i) ≤ i
unfolding nodes_of
nodes-few map zero = omega arith
nodes-few map (suc i) = go (eqb (map / 2 ^ i % 2) 1) (nodes-few map i)
  where
    go : (b : Bool) → length (nodes_of map i) ≤ i → length (nodes_of map i ++ cond b (suc i ∷ []) []) ≤ suc i
    go true h = rw length-append (omega arith)
    go false h = rw length-append (omega arith)

pub nodes-counted : (map i : ℕ) → length (nodes_of map (suc i)) ≡ length (nodes_of map i) + map / 2 ^ i % 2
nodes-counted map i = go (ℕ_discrete (map / 2 ^ i % 2) 1)
  where
    go : Dec (map / 2 ^ i % 2 ≡ 1) → length (nodes_of map (suc i)) ≡ length (nodes_of map i) + map / 2 ^ i % 2
    go (yes e) =
        rw (← add-one i)
        (ap length (nodes-more map i (eq-eqb (map / 2 ^ i % 2) 1 e)) ∙ length-append (nodes_of map i) ((i + 1) ∷ []) ∙ omega arith)
    go (no e) = rw (← add-one i) (ap length (nodes_skip map i (ne_eqb (map / 2 ^ i % 2) 1 e)) ∙ omega arith)

-- the nodes up to i come before the later ones
pub nodes-split : (map i d : ℕ) → (b : List ℕ) × (nodes_of map (i + d) ≡ nodes_of map i ++ b)
unfolding nodes_of
nodes-split map i zero = let e : i + 0 ≡ i = omega arith in ([], ap (nodes_of map) e ∙ sym (append-nil (nodes_of map i)))
nodes-split map i (suc d) =
    let x = nodes-split map i d in
    let e : i + suc d ≡ suc (i + d) = omega arith in
    let y : List ℕ = cond (eqb (map / 2 ^ (i + d) % 2) 1) (suc (i + d) ∷ []) [] in
    (x.0 ++ y, ap (nodes_of map) e ∙ ap (λ (l : List ℕ). l ++ y) x.1 ∙ append_assoc (nodes_of map i) x.0 y)

-- no node beyond n, where the map has n bits
pub nodes-beyond : (map n j : ℕ) → map < 2 ^ n → n ≤ j → nodes_of map j ≡ nodes_of map n
unfolding nodes_of
nodes-beyond map n zero h l = let e : 0 ≡ n = omega arith in ap (nodes_of map) e
nodes-beyond map n (suc j) h l = go (ℕ_discrete (suc j) n) (nodes-beyond map n j h)
  where
    go : Dec (suc j ≡ n) → (n ≤ j → nodes_of map j ≡ nodes_of map n) → nodes_of map (suc j) ≡ nodes_of map n
    go (yes e) ih = ap (nodes_of map) e
    go (no e) ih =
        let k : n ≤ j = omega arith in
        let b : map < 2 ^ j = omega (arith, pow_mono k) in
        let z : map / 2 ^ j % 2 ≡ 0 = ap (λ (x : ℕ). x % 2) (div-eq_of_lt b) in
        rw (ne_eqb (map / 2 ^ j % 2) 1 (λ e. omega arith)) (append-nil (nodes_of map j) ∙ ih k)

-- the nodes are from 1 to n and ascend
pub nodes-within : (map n s : ℕ) → s < length (nodes_of map n) → (1 ≤ get_or (nodes_of map n) s 0) × (get_or (nodes_of map n) s 0 ≤ n)
unfolding nodes_of
nodes-within map zero s h = absurd (not-suc-le-zero h)
nodes-within map (suc i) s h = go (eqb (map / 2 ^ i % 2) 1) (nodes-within map i s) h (dec_lt s (length (nodes_of map i)))
  where
    go : (b : Bool) → (s < length (nodes_of map i) → (1 ≤ get_or (nodes_of map i) s 0) × (get_or (nodes_of map i) s 0 ≤ i))
        → s < length (nodes_of map i ++ cond b (suc i ∷ []) []) → Dec (s < length (nodes_of map i))
        → (1 ≤ get_or (nodes_of map i ++ cond b (suc i ∷ []) []) s 0) × (get_or (nodes_of map i ++ cond b (suc i ∷ []) []) s 0 ≤ suc i)
    go b ih t (yes l) =
        let e : get_or (nodes_of map i ++ cond b (suc i ∷ []) []) s 0 ≡ get_or (nodes_of map i) s 0 =
        get_or-append (nodes_of map i) (cond b (suc i ∷ []) []) 0 s l
        in omega (arith, ih l)
    go true ih t (no l) =
        let z : s < length (nodes_of map i) + 1 = rw length-append at t in
        let y : s ≡ length (nodes_of map i) = omega arith in
        let e : get_or (nodes_of map i ++ (suc i ∷ [])) s 0 ≡ suc i =
        ap (λ (x : ℕ). get_or (nodes_of map i ++ (suc i ∷ [])) x 0) y ∙ get_or-append_seam (nodes_of map i) (suc i) [] 0
        in omega arith
    go false ih t (no l) = let z : s < length (nodes_of map i) + 0 = rw length-append at t in absurd (omega arith)

-- a node is listed where its bit stands, and only there
pub nodes-bit : (map n s : ℕ) → s < length (nodes_of map n) → map / 2 ^ (get_or (nodes_of map n) s 0 - 1) % 2 ≡ 1
unfolding nodes_of
nodes-bit map zero s h = absurd (not-suc-le-zero h)
nodes-bit map (suc n) s h = go (eqb (map / 2 ^ n % 2) 1) refl (nodes-bit map n s) h (dec_lt s (length (nodes_of map n)))
  where
    go : (b : Bool) → eqb (map / 2 ^ n % 2) 1 ≡ b → (s < length (nodes_of map n) → map / 2 ^ (get_or (nodes_of map n) s 0 - 1) % 2 ≡ 1)
        → s < length (nodes_of map n ++ cond b (suc n ∷ []) []) → Dec (s < length (nodes_of map n))
        → map / 2 ^ (get_or (nodes_of map n ++ cond b (suc n ∷ []) []) s 0 - 1) % 2 ≡ 1
    go b e ih t (yes l) = rw (get_or-append (nodes_of map n) (cond b (suc n ∷ []) []) 0 s l) (ih l)
    go true e ih t (no l) =
        let z : s < length (nodes_of map n) + 1 = rw length-append at t in
        let y : s ≡ length (nodes_of map n) = omega arith in
        let x : suc n - 1 ≡ n = omega arith in
        rw y (rw (get_or-append_seam (nodes_of map n) (suc n) [] 0) (ap (λ (i : ℕ). map / 2 ^ i % 2) x ∙ eqb-true (map / 2 ^ n % 2) 1 e))
    go false e ih t (no l) = let z : s < length (nodes_of map n) + 0 = rw length-append at t in absurd (omega arith)

pub bit-listed : (map n i : ℕ) → i < n → map / 2 ^ i % 2 ≡ 1 → (s : ℕ) × (s < length (nodes_of map n)) × (get_or (nodes_of map n) s 0 ≡ suc i)
unfolding nodes_of
bit-listed map zero i l h = absurd (not-suc-le-zero l)
bit-listed map (suc n) i l h = go (ℕ_discrete i n) (bit-listed map n i)
  where
    go : Dec (i ≡ n) → (i < n → map / 2 ^ i % 2 ≡ 1 → (s : ℕ) × (s < length (nodes_of map n)) × (get_or (nodes_of map n) s 0 ≡ suc i))
        → (s : ℕ) × (s < length (nodes_of map (suc n))) × (get_or (nodes_of map (suc n)) s 0 ≡ suc i)
    go (yes e) ih =
        let b : map / 2 ^ n % 2 ≡ 1 = rw (← e) h in (
          length (nodes_of map n),
          omega (arith, nodes-counted map n),
          rw (eq-eqb (map / 2 ^ n % 2) 1 b) (get_or-append_seam (nodes_of map n) (suc n) [] 0 ∙ ap suc (sym e)),
        )
    go (no e) ih =
        let x = ih (omega arith) h in (
          x.0,
          omega (arith, nodes-counted map n, x.1),
          get_or-append (nodes_of map n) (cond (eqb (map / 2 ^ n % 2) 1) (suc n ∷ []) []) 0 x.0 x.1 ∙ x.2,
        )

pub nodes_ascend : (map n s : ℕ) → suc s < length (nodes_of map n) → get_or (nodes_of map n) s 0 < get_or (nodes_of map n) (suc s) 0
unfolding nodes_of
nodes_ascend map zero s h = absurd (not-suc-le-zero h)
nodes_ascend map (suc i) s h = go (eqb (map / 2 ^ i % 2) 1) (nodes_ascend map i s) h (dec_lt (suc s) (length (nodes_of map i)))
  where
    go : (b : Bool) → (suc s < length (nodes_of map i) → get_or (nodes_of map i) s 0 < get_or (nodes_of map i) (suc s) 0)
        → suc s < length (nodes_of map i ++ cond b (suc i ∷ []) []) → Dec (suc s < length (nodes_of map i))
        → get_or (nodes_of map i ++ cond b (suc i ∷ []) []) s 0 < get_or (nodes_of map i ++ cond b (suc i ∷ []) []) (suc s) 0
    go b ih t (yes l) =
        let e : get_or (nodes_of map i ++ cond b (suc i ∷ []) []) s 0 ≡ get_or (nodes_of map i) s 0 =
        get_or-append (nodes_of map i) (cond b (suc i ∷ []) []) 0 s (omega arith)
        in
        let f : get_or (nodes_of map i ++ cond b (suc i ∷ []) []) (suc s) 0 ≡ get_or (nodes_of map i) (suc s) 0 =
        get_or-append (nodes_of map i) (cond b (suc i ∷ []) []) 0 (suc s) l
        in omega (arith, ih l)
    go true ih t (no l) =
        let z : suc s < length (nodes_of map i) + 1 = rw length-append at t in
        let y : suc s ≡ length (nodes_of map i) = omega arith in
        let b : s < length (nodes_of map i) = omega arith in
        let e : get_or (nodes_of map i ++ (suc i ∷ [])) s 0 ≡ get_or (nodes_of map i) s 0 = get_or-append (nodes_of map i) (suc i ∷ []) 0 s b in
        let f : get_or (nodes_of map i ++ (suc i ∷ [])) (suc s) 0 ≡ suc i =
        ap (λ (x : ℕ). get_or (nodes_of map i ++ (suc i ∷ [])) x 0) y ∙ get_or-append_seam (nodes_of map i) (suc i) [] 0
        in omega (arith, nodes-within map i s b)
    go false ih t (no l) = let z : suc s < length (nodes_of map i) + 0 = rw length-append at t in absurd (omega arith)

-- a test over no entry, over one, and over one list behind another
pub all_none : (f : ℕ → Bool) → all f [] ≡ true
unfolding all
all_none f = refl

pub all_one : (f : ℕ → Bool) (x : ℕ) → all f (x ∷ []) ≡ f x
unfolding all
all_one f x = go (f x)
  where
    go : (b : Bool) → (b && true) ≡ b
    go true = refl
    go false = refl

pub all_append : (f : ℕ → Bool) (xs ys : List ℕ) → all f (xs ++ ys) ≡ (all f xs && all f ys)
unfolding all
all_append f [] ys = refl
all_append f (x ∷ xs) ys = ap (λ (b : Bool). f x && b) (all_append f xs ys) ∙ sym (go (f x) (all f xs) (all f ys))
  where
    go : (a b c : Bool) → ((a && b) && c) ≡ (a && (b && c))
    go true b c = refl
    go false b c = refl

-- a test over a list, from a place on
pub all-step : (f : ℕ → Bool) (xs : List ℕ) (s : ℕ) → s < length xs → all f (drop s xs) ≡ (f (get_or xs s 0) && all f (drop (s + 1) xs))
unfolding all
all-step f xs s h = rw (add-one s) (ap (all f) (drop-cons xs s 0 h))

pub all_end : (f : ℕ → Bool) (xs : List ℕ) (s : ℕ) → length xs ≡ s → all f (drop s xs) ≡ true
unfolding all
all_end f xs s h = rw (← h) (ap (all f) (drop-length xs))

-- no piece is sound
pub sound_none : (F : ℕ) (lens xs : List ℕ) → eqb (length xs) 0 ≡ true → sound F lens xs ≡ true
unfolding sound
sound_none F lens [] e = refl
sound_none F lens (x ∷ xs) e = let z : length (x ∷ xs) ≡ 0 = eqb-true (length (x ∷ xs)) 0 e in absurd (omega arith)

pub some_nodes : (xs : List ℕ) → eqb (length xs) 0 ≡ false → 0 < length xs
some_nodes [] e = absurd (true≢false e)
some_nodes (x ∷ xs) e = omega arith

module _ (F : ℕ) (lens xs : List ℕ) (some : 0 < length xs) (len : ℕ) (e : len ≡ get_or lens (get_or xs 0 0 - 1) 0) where
  sound-first : sound F lens xs ≡ (leb 1 len && (leb len F && all (λ i. eqb (get_or lens (i - 1) 0) len) (drop 1 xs)))
  unfolding sound all
  sound-first = rw e (go xs some)
    where
      go : (xs : List ℕ) → 0 < length xs
          → sound F lens xs ≡ (leb 1 (get_or lens (get_or xs 0 0 - 1) 0) && (leb (get_or lens (get_or xs 0 0 - 1) 0) F
          && all (λ i. eqb (get_or lens (i - 1) 0) (get_or lens (get_or xs 0 0 - 1) 0)) (drop 1 xs)))
      go [] h = absurd (not-suc-le-zero h)
      go (x ∷ xs) h = refl

  pub sound_low : len < 1 → sound F lens xs ≡ false
  sound_low h = sound-first ∙ simp (lt-leb 1 len h)

  pub sound-high : 1 ≤ len → F < len → sound F lens xs ≡ false
  sound-high h l = sound-first ∙ simp (le-leb 1 len h, lt-leb len F l)

  pub sound-rest : 1 ≤ len → len ≤ F → sound F lens xs ≡ all (λ i. eqb (get_or lens (i - 1) 0) len) (drop 1 xs)
  sound-rest h l = sound-first ∙ simp (le-leb 1 len h, le-leb len F l)

pub first-length : (lens xs : List ℕ) → 0 < length xs → first_length lens xs ≡ get_or lens (get_or xs 0 0 - 1) 0
unfolding first_length
first-length lens [] h = absurd (not-suc-le-zero h)
first-length lens (x ∷ xs) h = refl

-- sound pieces have a length from 1 to F
pub sound-length : (F : ℕ) (lens xs : List ℕ) → 0 < length xs → sound F lens xs ≡ true → (1 ≤ first_length lens xs) × (first_length lens xs ≤ F)
sound-length F lens xs h e = rw (first-length lens xs h) (go (dec_lt (get_or lens (get_or xs 0 0 - 1) 0) 1) (dec_lt F (get_or lens (get_or xs 0 0 - 1) 0)))
  where
    go : Dec (get_or lens (get_or xs 0 0 - 1) 0 < 1) → Dec (F < get_or lens (get_or xs 0 0 - 1) 0)
        → (1 ≤ get_or lens (get_or xs 0 0 - 1) 0) × (get_or lens (get_or xs 0 0 - 1) 0 ≤ F)
    go (yes l) m = absurd (true≢false (sym e ∙ sound_low F lens xs h (get_or lens (get_or xs 0 0 - 1) 0) refl l))
    go (no l) (yes m) = absurd (true≢false (sym e ∙ sound-high F lens xs h (get_or lens (get_or xs 0 0 - 1) 0) refl (omega arith) m))
    go (no l) (no m) = (omega arith, omega arith)
