-- Laws of the page of a frame: one for each way out, and that a frame's page is the page that it frames.
use Rattle.std.proofs.Common.{◌≡◌, ℕ, zero, suc, ◌+◌, ◌-◌, ◌*◌, ◌/◌, ◌%◌, ◌^◌, ◌<◌, ◌≤◌, Bool, true, false, ◌&&◌, eqb, List, [], ◌∷◌, ◌++◌, length, get_or, take, drop, replicate, sym, refl, ap, ◌∙◌, not-suc-le-zero, mul-le-mul_right, arith, length-drop, length-take-le, get_or-drop, get_or-take, ext_get_or, le-ltb, lt-ltb, eq-eqb, eqb-true, le-leb}
use mathlib.Core.Option.{Option, some, none}
use native.Mathlib.Decide.{dec_le, dec_lt}
use borrow.Author.Tests.{lt-leb}
use lib.ListN.{get_or-append, get_or-eq_default}
use Rattle.coding.specs.Bytes.{Bytes, four_bytes, from_four}
use Rattle.coding.specs.Pieces.{columns, frame}
use Rattle.coding.specs.Frame.{frame_byte}
use Rattle.coding.specs.Nodes.{all}
use Rattle.coding.specs.Join.{page_of}
use Rattle.coding.proofs.Cases.{and-true}
use Rattle.coding.proofs.BytesLaws.{stride}
use Rattle.coding.proofs.FrameLaws.{frame-page, frame_at, columns_hold, length-frame}

module _ (k : ℕ) (f : List ℕ) where
  pub page-short : length f < 4 → page_of k f ≡ none
  unfolding page_of
  page-short h = simp (lt-leb 4 (length f) h)

  pub page-long : 4 ≤ length f → length f - 4 < from_four f → page_of k f ≡ none
  unfolding page_of
  page-long h l = simp (le-leb 4 (length f) h, lt-leb (from_four f) (length f - 4) l)

  pub page-wide : 4 ≤ length f → from_four f ≤ length f - 4 → k ≤ length f - 4 - from_four f → page_of k f ≡ none
  unfolding page_of
  page-wide h l w = simp (le-leb 4 (length f) h, le-leb (from_four f) (length f - 4) l, le-ltb (length f - 4 - from_four f) k w)

  pub page-filled : 4 ≤ length f → from_four f ≤ length f - 4 → length f - 4 - from_four f < k
      → all (λ b. eqb b 0) (drop (4 + from_four f) f) ≡ false → page_of k f ≡ none
  unfolding page_of
  page-filled h l w e = simp (le-leb 4 (length f) h, le-leb (from_four f) (length f - 4) l, lt-ltb (length f - 4 - from_four f) k w, e)

  pub page-found : 4 ≤ length f → from_four f ≤ length f - 4 → length f - 4 - from_four f < k
      → all (λ b. eqb b 0) (drop (4 + from_four f) f) ≡ true → page_of k f ≡ some (take (from_four f) (drop 4 f))
  unfolding page_of
  page-found h l w e = simp (le-leb 4 (length f) h, le-leb (from_four f) (length f - 4) l, lt-ltb (length f - 4 - from_four f) k w, e)

-- two multiples of k in one stretch of k numbers are the same
pub multiple_unique : (a b k m : ℕ) → m ≤ a * k → a * k < m + k → m ≤ b * k → b * k < m + k → a ≡ b
multiple_unique a b k m ha la hb lb = go (dec_lt a b) (dec_lt b a)
  where
    below : (a b : ℕ) → a < b → m ≤ a * k → b * k < m + k → ⊥
    below a b h x y =
        let s : a + 1 ≤ b = omega arith in omega (arith, stride a k, mul-le-mul_right k s)

    go : Dec (a < b) → Dec (b < a) → a ≡ b
    go (yes h) q = absurd (below a b h ha lb)
    go (no h) (yes q) = absurd (below b a q hb la)
    go (no h) (no q) = omega arith

-- four bytes and their number
from-four : (a b c d : ℕ) → a < 256 → b < 256 → c < 256 → d < 256
    → four_bytes (((a * 256 + b) * 256 + c) * 256 + d) ≡ a ∷ b ∷ c ∷ d ∷ []
from-four a b c d ha hb hc hd =
    let n = ((a * 256 + b) * 256 + c) * 256 + d in
    let e : n / 256 ≡ (a * 256 + b) * 256 + c = omega arith in
    let f : ((a * 256 + b) * 256 + c) / 256 ≡ a * 256 + b = omega arith in
    let g : (a * 256 + b) / 256 ≡ a = omega arith in
    let x : n % 256 ≡ d = omega arith in
    let y : ((a * 256 + b) * 256 + c) % 256 ≡ c = omega arith in
    let z : (a * 256 + b) % 256 ≡ b = omega arith in
    let w : a % 256 ≡ a = omega arith in
    λ i. (ap (λ (v : ℕ). v / 256 / 256 % 256) e ∙ ap (λ (v : ℕ). v / 256 % 256) f ∙ ap (λ (v : ℕ). v % 256) g ∙ w) i
    ∷ (ap (λ (v : ℕ). v / 256 % 256) e ∙ ap (λ (v : ℕ). v % 256) f ∙ z) i
    ∷ (ap (λ (v : ℕ). v % 256) e ∙ y) i
    ∷ x i
    ∷ []

four-from : (n : ℕ) (s : List ℕ) → n < 2 ^ 32 → from_four (four_bytes n ++ s) ≡ n
four-from n s h = omega arith

frame-length : (k : ℕ) (page : List ℕ) → length page < 2 ^ 32 → from_four (frame k page) ≡ length page
unfolding frame
frame-length k page h = four-from (length page) (page ++ replicate (columns k (length page) * k - (4 + length page)) 0) h

pub none≢some : {A : Type 0} {a : A} → ◌≡◌ {A = Option A} none (some a) → ⊥
none≢some e = let z : ◌≡◌ {A = ℕ} 0 1 = cc in omega arith

pub some_eq : {A : Type 0} {a b : A} → ◌≡◌ {A = Option A} (some a) (some b) → a ≡ b
some_eq e = cc

-- a list that passes the test passes it at each place
pub all_at : (f : ℕ → Bool) (s : List ℕ) → all f s ≡ true → (i : ℕ) → i < length s → f (get_or s i 0) ≡ true
unfolding all
all_at f [] e i h = absurd (not-suc-le-zero h)
all_at f (x ∷ s) e i h = go i (all_at f s) h (and-true (f x) (all f s) e)
  where
    go : (i : ℕ) → (all f s ≡ true → (i : ℕ) → i < length s → f (get_or s i 0) ≡ true) → i < suc (length s)
        → (f x ≡ true) × (all f s ≡ true) → f (get_or (x ∷ s) i 0) ≡ true
    go zero ih l p = p.0
    go (suc i) ih l p = ih p.1 i (omega arith)

pub all_from : (f : ℕ → Bool) (s : List ℕ) → ((i : ℕ) → i < length s → f (get_or s i 0) ≡ true) → all f s ≡ true
unfolding all
all_from f [] h = refl
all_from f (x ∷ s) h = ap (λ (b : Bool). b && all f s) (h 0 (omega arith)) ∙ all_from f s (λ i l. h (suc i) (omega arith))

-- a frame that has a page is the page's frame
pub page-frame : (k L : ℕ) (f page : List ℕ) → 1 ≤ k → length f ≡ L * k → Bytes f → page_of k f ≡ some page → frame k page ≡ f
page-frame k L f page hk n b e = go (dec_le 4 (length f)) (dec_le (from_four f) (length f - 4)) (dec_lt (length f - 4 - from_four f) k) (all (λ b. eqb b 0) (drop (4 + from_four f) f)) refl
  where
    v : ℕ
    v = from_four f

    never : page_of k f ≡ none → ⊥
    never q = none≢some (sym q ∙ e)

    found : 4 ≤ length f → from_four f ≤ length f - 4 → length f - 4 - from_four f < k → all (λ b. eqb b 0) (drop (4 + from_four f) f) ≡ true
        → page ≡ take (from_four f) (drop 4 f) → frame k page ≡ f
    found h l w z q =
        let d : length (drop 4 f) ≡ length f - 4 = length-drop 4 f in
        let m : length page ≡ from_four f = ap length q ∙ length-take-le (from_four f) (drop 4 f) (omega arith) in
        let c = columns_hold k (length page) hk in
        let u : columns k (length page) ≡ L = multiple_unique (columns k (length page)) L k (4 + length page) c.0 c.1 (omega arith) (omega arith) in
        ext_get_or 0 (frame k page) f (length-frame k page hk ∙ ap (λ (x : ℕ). x * k) u ∙ sym n)
        (λ p t. frame_at k page p ∙ at p (rw (length-frame k page hk ∙ ap (λ (x : ℕ). x * k) u ∙ sym n) at t) m (dec_lt p 4) (dec_lt p (4 + from_four f)))
      where
        first : four_bytes (from_four f) ≡ get_or f 0 0 ∷ get_or f 1 0 ∷ get_or f 2 0 ∷ get_or f 3 0 ∷ []
        first = from-four (get_or f 0 0) (get_or f 1 0) (get_or f 2 0) (get_or f 3 0) (b 0) (b 1) (b 2) (b 3)

        low : (p : ℕ) → p < 4 → get_or (get_or f 0 0 ∷ get_or f 1 0 ∷ get_or f 2 0 ∷ get_or f 3 0 ∷ []) p 0 ≡ get_or f p 0
        low zero t = refl
        low (suc zero) t = refl
        low (suc (suc zero)) t = refl
        low (suc (suc (suc zero))) t = refl
        low (suc (suc (suc (suc p)))) t = absurd (omega arith)

        at : (p : ℕ) → p < length f → length page ≡ from_four f → Dec (p < 4) → Dec (p < 4 + from_four f) → frame_byte page p ≡ get_or f p 0
        at p t m (yes x) y =
            get_or-append (four_bytes (length page)) page 0 p x
            ∙ ap (λ (n : ℕ). get_or (four_bytes n) p 0) m
            ∙ ap (λ (s : List ℕ). get_or s p 0) first
            ∙ low p x
        at p t m (no x) (yes y) =
            let r : p ≡ 4 + (p - 4) = omega arith in
            let g : p - 4 < from_four f = omega arith in
            ap (frame_byte page) r
            ∙ frame-page page (p - 4)
            ∙ ap (λ (s : List ℕ). get_or s (p - 4) 0) q
            ∙ get_or-take (from_four f) (drop 4 f) (p - 4) 0 g
            ∙ get_or-drop 4 f (p - 4) 0
            ∙ ap (λ (x : ℕ). get_or f x 0) (sym r)
        at p t m (no x) (no y) =
            let r : p ≡ 4 + (p - 4) = omega arith in
            let s : p ≡ 4 + from_four f + (p - (4 + from_four f)) = omega arith in
            let g : p - (4 + from_four f) < length (drop (4 + from_four f) f) = rw (length-drop (4 + from_four f) f) (omega arith) in
            ap (frame_byte page) r
            ∙ frame-page page (p - 4)
            ∙ get_or-eq_default page 0 (omega arith)
            ∙ sym (eqb-true (get_or (drop (4 + from_four f) f) (p - (4 + from_four f)) 0) 0 (all_at (λ b. eqb b 0) (drop (4 + from_four f) f) z (p - (4 + from_four f)) g))
            ∙ get_or-drop (4 + from_four f) f (p - (4 + from_four f)) 0
            ∙ ap (λ (x : ℕ). get_or f x 0) (sym s)

    go : Dec (4 ≤ length f) → Dec (from_four f ≤ length f - 4) → Dec (length f - 4 - from_four f < k) → (z : Bool)
        → all (λ b. eqb b 0) (drop (4 + from_four f) f) ≡ z → frame k page ≡ f
    go (no h) l w z q = absurd (never (page-short k f (omega arith)))
    go (yes h) (no l) w z q = absurd (never (page-long k f h (omega arith)))
    go (yes h) (yes l) (no w) z q = absurd (never (page-wide k f h l (omega arith)))
    go (yes h) (yes l) (yes w) false q = absurd (never (page-filled k f h l w q))
    go (yes h) (yes l) (yes w) true q = found h l w q (some_eq (sym e ∙ page-found k f h l w q))

-- a page's frame has that page
pub frame_page_of : (k : ℕ) (page : List ℕ) → 1 ≤ k → length page < 2 ^ 32 → page_of k (frame k page) ≡ some page
frame_page_of k page hk h =
    let n : length (frame k page) ≡ columns k (length page) * k = length-frame k page hk in
    let c = columns_hold k (length page) hk in
    let v : from_four (frame k page) ≡ length page = frame-length k page h in
    page-found k (frame k page) (omega arith) (omega arith) (omega arith)
    (ap (λ (x : ℕ). all (λ b. eqb b 0) (drop (4 + x) (frame k page))) v
    ∙ all_from (λ b. eqb b 0) (drop (4 + length page) (frame k page))
    (λ i l.
    let a : 4 + length page + i ≡ 4 + (length page + i) = omega arith in
    eq-eqb (get_or (drop (4 + length page) (frame k page)) i 0) 0
    (get_or-drop (4 + length page) (frame k page) i 0
    ∙ frame_at k page (4 + length page + i)
    ∙ ap (frame_byte page) a
    ∙ frame-page page (length page + i)
    ∙ get_or-eq_default page 0 (omega arith))))
    ∙ ap some
    (ap (λ (x : ℕ). take x (drop 4 (frame k page))) v
    ∙ ext_get_or 0 (take (length page) (drop 4 (frame k page))) page
    (length-take-le (length page) (drop 4 (frame k page)) (omega (arith, length-drop 4 (frame k page))))
    (λ i l.
    let g : i < length page = rw (length-take-le (length page) (drop 4 (frame k page)) (omega (arith, length-drop 4 (frame k page)))) at l in
    get_or-take (length page) (drop 4 (frame k page)) i 0 g
    ∙ get_or-drop 4 (frame k page) i 0
    ∙ frame_at k page (4 + i)
    ∙ frame-page page i))
