-- Bytes written over bytes, values of one length behind each other, and a node table taken apart at a place.
use mathlib.Core.Path.{◌≡◌, refl, sym, ap, ap₂, ◌∙◌}
use mathlib.Core.List.{List, [], ◌∷◌, ◌++◌, append_assoc}
use Prim.Native.Nat.{ℕ, zero, suc, ◌+◌, ◌-◌, ◌*◌, ◌<◌, ◌≤◌}
use native.Mathlib.Nat.{zero-add, suc-mul}
use native.Mathlib.Omega.{arith}
use lib.ListN.{length, get_or, set, take, drop, replicate, length-append, length-drop, length-replicate, replicate-append-replicate, take-append-drop}
use lib.Seq.{paste, set_split, take_at, drop_at, take-append-le, drop-append-le, take-append-add, drop-append-add, take_all, drop-drop, length-take-le}
use Rattle.parties.specs.declared.Measures.{Measures}
use Rattle.parties.specs.protocol.Format.{write_number, write_many, write_area}
use Rattle.parties.specs.protocol.Measures.{places, place_size}
use Rattle.parties.specs.protocol.NodeTable.{Held, write_places, write_table}
use Rattle.parties.proofs.protocol.formats.FormatLaws.{Each}
use Rattle.parties.proofs.protocol.formats.EachLaws.{each_at}
use Rattle.parties.specs.records.Places.{splice, place_of}

-- a part to the end
pub to_end : (t : List ℕ) (at : ℕ) → take (length t - at) (drop at t) ≡ drop at t
to_end t at = take_all (length t - at) (drop at t) (omega (arith, length-drop at t))

-- past a first part
pub drop_past : (p q : List ℕ) (n j k : ℕ) → length p ≡ n → k ≡ n + j → drop k (p ++ q) ≡ drop j q
drop_past p q n j k e f = let g : k ≡ length p + j = omega arith in rw g (drop-append-add p q j)

pub paste_past : (p t b : List ℕ) (n j k at : ℕ) → length p ≡ n → at ≡ n + j → paste (p ++ t) at b k ≡ p ++ paste t j b k
paste_past p t b n j k at e f =
    let g : at ≡ length p + j = omega arith in
    let h : at + k ≡ length p + (j + k) = omega arith in
    ap₂ (λ (x y : ℕ). take x (p ++ t) ++ take k b ++ drop y (p ++ t)) g h
    ∙ ap₂ (λ (x y : List ℕ). x ++ take k b ++ y) (take-append-add p t j) (drop-append-add p t (j + k))
    ∙ ap (λ (x : List ℕ). x ++ drop (j + k) t) (append_assoc p (take j t) (take k b))
    ∙ append_assoc p (take j t ++ take k b) (drop (j + k) t)

-- ---- bytes over bytes

pub splice-parts : (p q r x : List ℕ) (at : ℕ) → length p ≡ at → length q ≡ length x → splice (p ++ (q ++ r)) at x ≡ p ++ (x ++ r)
unfolding splice
splice-parts p q r x at e f =
    let g : length (p ++ q) ≡ at + length x = length-append p q ∙ omega arith in
    ap₂ (λ (a : List ℕ) (b : List ℕ). a ++ (x ++ b)) (take_at p (q ++ r) at e)
    (ap (drop (at + length x)) (sym (append_assoc p q r)) ∙ drop_at (p ++ q) r (at + length x) g)

pub paste-splice : (t : List ℕ) (at : ℕ) (x : List ℕ) (n : ℕ) → n ≤ length x → paste t at x n ≡ splice t at (take n x)
unfolding splice
paste-splice t at x n h =
    append_assoc (take at t) (take n x) (drop (at + n) t) ∙ ap (λ (k : ℕ). take at t ++ (take n x ++ drop (at + k) t)) (sym (length-take-le n x h))

-- one byte
pub splice_one : (t : List ℕ) (at x : ℕ) → at < length t → set t at x ≡ splice t at (x ∷ [])
unfolding splice
splice_one t at x h = let e : suc at ≡ at + 1 = omega arith in set_split t at x h ∙ ap (λ (n : ℕ). take at t ++ (x ∷ drop n t)) e

-- all of what is pasted
pub paste_all : (t : List ℕ) (at : ℕ) (x : List ℕ) (n : ℕ) → n ≡ length x → paste t at x n ≡ splice t at x
paste_all t at x n h = paste-splice t at x n (omega arith) ∙ ap (splice t at) (take_all n x (omega arith))

pub length-splice : (t : List ℕ) (at : ℕ) (x : List ℕ) → at + length x ≤ length t → length (splice t at x) ≡ length t
unfolding splice
length-splice t at x h =
    length-append (take at t) (x ++ drop (at + length x) t)
    ∙ omega (arith, length-take-le at t (omega arith), length-append x (drop (at + length x) t), length-drop (at + length x) t)

-- one after the other
pub splice-next : (t : List ℕ) (at : ℕ) (x y : List ℕ) (k : ℕ) → k ≡ at + length x → k + length y ≤ length t → splice (splice t at x) k y ≡ splice t at (x ++ y)
unfolding splice
splice-next t at x y k e h =
    let f : length (take at t ++ x) ≡ k = length-append (take at t) x ∙ omega (arith, length-take-le at t (omega arith)) in
    let g : k + length y ≡ length (take at t ++ x) + length y = omega arith in
    let j : at + length (x ++ y) ≡ at + length x + length y = omega (arith, length-append x y) in
    ap (λ (u : List ℕ). take k u ++ (y ++ drop (k + length y) u)) (sym (append_assoc (take at t) x (drop (at + length x) t)))
    ∙ ap₂ (λ (a : List ℕ) (b : List ℕ). a ++ (y ++ b))
    (take_at (take at t ++ x) (drop (at + length x) t) k f)
    (sym (drop-drop (length y) k ((take at t ++ x) ++ drop (at + length x) t))
    ∙ ap (drop (length y)) (drop_at (take at t ++ x) (drop (at + length x) t) k f)
    ∙ drop-drop (length y) (at + length x) t
    ∙ ap (λ (n : ℕ). drop n t) (sym j))
    ∙ append_assoc (take at t) x (y ++ drop (at + length (x ++ y)) t)
    ∙ ap (λ (u : List ℕ). take at t ++ u) (sym (append_assoc x y (drop (at + length (x ++ y)) t)))

pub paste-join : (t : List ℕ) (at : ℕ) (a b : List ℕ) (m n : ℕ) → length a ≡ m → length b ≡ n → at + m + n ≤ length t
    → paste (paste t at a m) (at + m) b n ≡ paste t at (a ++ b) (m + n)
paste-join t at a b m n e f h =
    paste_all (paste t at a m) (at + m) b n (sym f) ∙ ap (λ (u : List ℕ). splice u (at + m) b) (paste_all t at a m (sym e))
    ∙ splice-next t at a b (at + m) (omega arith) (omega arith) ∙ sym (paste_all t at (a ++ b) (m + n) (omega (arith, length-append a b)))

-- bytes, and zeros after them
pub area_put_lem : (t : List ℕ) (at f : ℕ) (p : List ℕ) → at + f ≤ length t → length p ≤ f
    → paste (paste t at p (length p)) (at + length p) (replicate (at + f - (at + length p)) 0) (at + f - (at + length p)) ≡ paste t at (write_area f (λ p. p) p) f
unfolding write_area
area_put_lem t at f p h l =
    let n = length p in
    let e : at + f - (at + n) ≡ f - n = omega arith in
    let g : n + (f - n) ≡ f = omega arith in
    (λ i. paste (paste t at p n) (at + n) (replicate (e i) 0) (e i))
    ∙ paste-join t at p (replicate (f - n) 0) n (f - n) refl (length-replicate {A = ℕ} (f - n) 0) (omega arith)
    ∙ ap (paste t at (p ++ replicate (f - n) 0)) g

-- bytes at the front
pub splice_front : (t x : List ℕ) → splice t 0 x ≡ x ++ drop (length x) t
unfolding splice
splice_front t x = ap (λ (n : ℕ). x ++ drop n t) (zero-add (length x))

-- bytes over themselves
taken : (n : ℕ) (t : List ℕ) → take n t ++ drop (length (take n t)) t ≡ t
taken zero t = refl
taken (suc n) [] = refl
taken (suc n) (x ∷ t) = ap (λ (l : List ℕ). x ∷ l) (taken n t)

-- bytes over themselves, also where there are fewer
pub splice_self : (t : List ℕ) (at n : ℕ) → t ≡ splice t at (take n (drop at t))
unfolding splice
splice_self t at n =
    let p = take n (drop at t) in
    sym (take-append-drop at t)
    ∙ ap (λ (l : List ℕ). take at t ++ l) (sym (taken n (drop at t)))
    ∙ ap (λ (l : List ℕ). take at t ++ (p ++ l)) (drop-drop (length p) at t)

-- bytes that were lent and are back
pub splice-back : (t new : List ℕ) (at size : ℕ) → length new ≡ size → take at t ++ (new ++ drop size (drop at t)) ≡ splice t at new
unfolding splice
splice-back t new at size e =
    ap (λ (u : List ℕ). take at t ++ (new ++ u)) (drop-drop size at t ∙ ap (λ (k : ℕ). drop (at + k) t) (sym e))

-- what stands in a place, before it and after it, once bytes were written there
kept-front : (a r : List ℕ) (at size : ℕ) → at + size ≤ length a → take size (drop at (a ++ r)) ≡ take size (drop at a)
kept-front a r at size h =
    ap (take size) (drop-append-le at a r (omega arith)) ∙ take-append-le size (drop at a) r (rw length-drop (omega arith))

module _ (t : List ℕ) (from : ℕ) (x : List ℕ) (fits : from + length x ≤ length t) where
  pub spliced_own : take (length x) (drop from (splice t from x)) ≡ x
  unfolding splice
  spliced_own =
      ap (take (length x)) (drop_at (take from t) (x ++ drop (from + length x) t) from (length-take-le from t (omega arith)))
      ∙ take_at x (drop (from + length x) t) (length x) refl

  pub spliced_before : (at size : ℕ) → at + size ≤ from → take size (drop at (splice t from x)) ≡ take size (drop at t)
  unfolding splice
  spliced_before at size h =
      let e : at + size ≤ length (take from t) = omega (arith, length-take-le from t (omega arith)) in
      kept-front (take from t) (x ++ drop (from + length x) t) at size e
      ∙ sym (kept-front (take from t) (drop from t) at size e)
      ∙ ap (λ (u : List ℕ). take size (drop at u)) (take-append-drop from t)

  pub spliced_after : (at size : ℕ) → from + length x ≤ at → take size (drop at (splice t from x)) ≡ take size (drop at t)
  unfolding splice
  spliced_after at size h =
      let a = take from t ++ x in
      let n : length a ≡ from + length x = omega (arith, length-append (take from t) x, length-take-le from t (omega arith)) in
      let k = at - (from + length x) in
      let e : at ≡ length a + k = omega arith in
      let f : from + length x + k ≡ at = omega arith in
      ap (λ (u : List ℕ). take size (drop at u)) (sym (append_assoc (take from t) x (drop (from + length x) t)))
      ∙ ap (λ (j : ℕ). take size (drop j (a ++ drop (from + length x) t))) e
      ∙ ap (take size) (drop-append-add a (drop (from + length x) t) k ∙ drop-drop k (from + length x) t ∙ ap (λ (j : ℕ). drop j t) f)

-- a place that goes down
pub lowered : (t : List ℕ) (from to z : ℕ) → to ≤ from → from + z ≤ length t → paste t (from - (from - to)) (drop from t) (from + z - from) ≡ splice t to (take z (drop from t))
lowered t from to z h k =
    let a : from - (from - to) ≡ to = omega arith in
    let b : from + z - from ≡ z = omega arith in
    ap₂ (λ (x : ℕ) (y : ℕ). paste t x (drop from t) y) a b ∙ paste-splice t to (drop from t) z (rw length-drop (omega arith))

-- a tag, then bytes
pub tagged : (t : List ℕ) (tag : ℕ) (b : List ℕ) (from n : ℕ) → 1 + n ≤ length t → from + n ≤ length b
    → paste (set t 0 tag) 1 (drop from b) n ≡ splice t 0 (tag ∷ take n (drop from b))
tagged t tag b from n h k =
    let e : n ≤ length (drop from b) = rw length-drop (omega arith) in
    let l : length (take n (drop from b)) ≡ n = length-take-le n (drop from b) e in
    paste-splice (set t 0 tag) 1 (drop from b) n e
    ∙ ap (λ (u : List ℕ). splice u 1 (take n (drop from b))) (first t (omega arith))
    ∙ splice-next t 0 (tag ∷ []) (take n (drop from b)) 1 refl (omega arith)
  where
    first : (t : List ℕ) → 1 ≤ length t → set t 0 tag ≡ splice t 0 (tag ∷ [])
    first t q = splice_one t 0 tag q

-- ---- values behind each other

pub many-append : {A : Type 0} (w : A → List ℕ) (a b : List A) → write_many w (a ++ b) ≡ write_many w a ++ write_many w b
unfolding write_many
many-append w [] b = refl
many-append w (x ∷ a) b = ap (λ (u : List ℕ). w x ++ u) (many-append w a b) ∙ sym (append_assoc (w x) (write_many w a) (write_many w b))

pub many-same : {A : Type 0} (w : A → List ℕ) (a : A) (x : List ℕ) → w a ≡ x → (n : ℕ) → write_many w (replicate n a) ≡ write_many (λ d. d) (replicate n x)
unfolding write_many
many-same w a x e zero = refl
many-same w a x e (suc n) = λ i. e i ++ many-same w a x e n i

pub many_zeros : {A : Type 0} (w : A → List ℕ) (a : A) (k : ℕ) → w a ≡ replicate k 0 → (n : ℕ) → write_many w (replicate n a) ≡ replicate (n * k) 0
unfolding write_many
many_zeros w a k e zero = let z : 0 ≡ 0 * k = omega arith in ap (λ (m : ℕ). replicate m 0) z
many_zeros w a k e (suc n) =
    let z : k + n * k ≡ suc n * k = omega (arith, suc-mul n k) in
    (λ i. e i ++ many_zeros w a k e n i) ∙ replicate-append-replicate k (n * k) 0 ∙ ap (λ (m : ℕ). replicate m 0) z

module _ {A : Type 0} (w : A → List ℕ) (g : A → Type 0) (k : ℕ) (same : (a : A) → g a → length (w a) ≡ k) (z : List ℕ) (o : A) where
  -- the value at a place, and what follows
  pub many_at : (l : List A) (i : ℕ) → Each g l → i < length l
      → drop (i * k) (write_many w l ++ z) ≡ w (get_or l i o) ++ drop (i * k + k) (write_many w l ++ z)
  unfolding write_many
  many_at [] i h b = absurd (omega arith)
  many_at (a ∷ l) zero h b =
      let e : 0 * k ≡ 0 = omega arith in
      let m : 0 * k + k ≡ k = omega arith in
      rw (m, e)
      (append_assoc (w a) (write_many w l) z
      ∙ ap (λ (x : List ℕ). w a ++ x) (sym (ap (drop k) (append_assoc (w a) (write_many w l) z) ∙ drop_at (w a) (write_many w l ++ z) k (same a h.0))))
  many_at (a ∷ l) (suc i) h b =
      let n : length (w a) ≡ k = same a h.0 in
      let e : suc i * k ≡ length (w a) + i * k = omega (arith, suc-mul i k) in
      let m : suc i * k + k ≡ length (w a) + (i * k + k) = omega (arith, suc-mul i k) in
      rw (m, e)
      (ap (drop (length (w a) + i * k)) (append_assoc (w a) (write_many w l) z)
      ∙ drop-append-add (w a) (write_many w l ++ z) (i * k)
      ∙ many_at l i h.1 (omega arith)
      ∙ ap (λ (x : List ℕ). w (get_or l i o) ++ x)
      (sym (ap (drop (length (w a) + (i * k + k))) (append_assoc (w a) (write_many w l) z) ∙ drop-append-add (w a) (write_many w l ++ z) (i * k + k))))

  -- another value at a place
  pub many-set : (l : List A) (i : ℕ) (a : A) → Each g l → i < length l
      → write_many w (set l i a) ++ z ≡ (take (i * k) (write_many w l ++ z) ++ w a) ++ drop (i * k + k) (write_many w l ++ z)
  unfolding write_many
  many-set [] i a h b = absurd (omega arith)
  many-set (x ∷ l) zero a h b =
      let e : 0 * k ≡ 0 = omega arith in
      let m : 0 * k + k ≡ k = omega arith in
      rw (m, e)
      (append_assoc (w a) (write_many w l) z
      ∙ ap (λ (y : List ℕ). w a ++ y) (sym (ap (drop k) (append_assoc (w x) (write_many w l) z) ∙ drop_at (w x) (write_many w l ++ z) k (same x h.0))))
  many-set (x ∷ l) (suc i) a h b =
      let n : length (w x) ≡ k = same x h.0 in
      let e : suc i * k ≡ length (w x) + i * k = omega (arith, suc-mul i k) in
      let m : suc i * k + k ≡ length (w x) + (i * k + k) = omega (arith, suc-mul i k) in
      let t = write_many w l ++ z in
      rw (m, e)
      (append_assoc (w x) (write_many w (set l i a)) z
      ∙ ap (λ (y : List ℕ). w x ++ y) (many-set l i a h.1 (omega arith))
      ∙ sym (append_assoc (w x) (take (i * k) t ++ w a) (drop (i * k + k) t))
      ∙ ap (λ (y : List ℕ). y ++ drop (i * k + k) t) (sym (append_assoc (w x) (take (i * k) t) (w a)))
      ∙ ap₂ (λ (y v : List ℕ). (y ++ w a) ++ v)
      (sym (ap (take (length (w x) + i * k)) (append_assoc (w x) (write_many w l) z) ∙ take-append-add (w x) t (i * k)))
      (sym (ap (drop (length (w x) + (i * k + k))) (append_assoc (w x) (write_many w l) z) ∙ drop-append-add (w x) t (i * k + k))))

-- one of them
pub many-part : {A : Type 0} (w : A → List ℕ) (g : A → Type 0) (k : ℕ) → ((a : A) → g a → length (w a) ≡ k) → (d : A) (l : List A) → Each g l
    → (i : ℕ) → i < length l → (t : List ℕ) → take k (drop (i * k) (write_many w l ++ t)) ≡ w (get_or l i d)
many-part w g k h d l e i b t =
    ap (take k) (many_at w g k h t d l i e b) ∙ take_at (w (get_or l i d)) (drop (i * k + k) (write_many w l ++ t)) k (h (get_or l i d) (each_at g d l e i b))

-- one of them written over
pub many_put : {A : Type 0} (w : A → List ℕ) (g : A → Type 0) (k : ℕ) → ((a : A) → g a → length (w a) ≡ k) → (l : List A) → Each g l
    → (i : ℕ) → i < length l → (a : A) (t b : List ℕ) → take k b ≡ w a → paste (write_many w l ++ t) (i * k) b k ≡ write_many w (set l i a) ++ t
many_put w g k h l e i n a t b f =
    ap (λ (x : List ℕ). (take (i * k) (write_many w l ++ t) ++ x) ++ drop (i * k + k) (write_many w l ++ t)) f ∙ sym (many-set w g k h t a l i a e n)

-- ---- a table's bytes

-- count, the places before, those after, the free ones
pub table-parts : (s : Measures) (a b : List Held) (n : ℕ) (rest : List ℕ) → length (a ++ b) ≡ n
    → write_table s (a ++ b) ++ rest
    ≡ (write_number 2 n ++ write_many (place_of s) a) ++ (write_many (place_of s) b ++ (replicate ((places s - n) * place_size s) 0 ++ rest))
unfolding write_table write_places
table-parts s a b n rest e =
    ap (λ (k : ℕ). (write_number 2 k ++ (write_many (place_of s) (a ++ b) ++ replicate ((places s - k) * place_size s) 0)) ++ rest) e
    ∙ ap (λ (u : List ℕ). (write_number 2 n ++ (u ++ replicate ((places s - n) * place_size s) 0)) ++ rest) (many-append (place_of s) a b)
    ∙ simp append_assoc
