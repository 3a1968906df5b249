-- Laws of bytes put into a text.
use mathlib.Core.Path.{◌≡◌, refl, sym, ap, ◌∙◌}
use mathlib.Core.List.{List, [], ◌∷◌, ◌++◌, append_assoc}
use Prim.Native.Nat.{ℕ, suc, ◌+◌, ◌*◌, ◌/◌, ◌%◌, ◌^◌, ◌<◌, ◌≤◌}
use native.Mathlib.Nat.{add-zero}
use native.Mathlib.Numerals.{add-one}
use native.Mathlib.Omega.{arith}
use borrow.Author.Tests.{lt-ltb, le-ltb, lt-leb, le-leb}
use lib.ListN.{length, get_or, take, drop, set, length-append, length-take, length-drop, take-append-drop}
use lib.Seq.{take-suc, take_all, drop-cons, set_at, take_at, drop_at, length-take-le, drop-drop}
use Rattle.std.specs.Prelude.{decimal}
use Rattle.std.proofs.lemmas.Fmt.{AppendsLastDigit, decimal_from_appends, length-decimal-le_succ}
use Rattle.lines.specs.Text.{over, written, put_at, decimal_within, decimal_of, hex_digit, hex_of}

pub over_none : (t : List ℕ) (at : ℕ) → over t at [] ≡ t
unfolding over
over_none t at = rw add-zero (take-append-drop at t)

pub over-length : (t : List ℕ) (at : ℕ) (b : List ℕ) → at + length b ≤ length t → length (over t at b) ≡ length t
unfolding over
over-length t at b h = simp (length-append, length-take, length-drop) (omega arith)

-- what stands before the bytes, with them
head_length : (t : List ℕ) (at : ℕ) (b : List ℕ) → at + length b ≤ length t → length (take at t ++ b) ≡ at + length b
head_length t at b h = simp (length-append, length-take) (omega arith)

-- one byte more
over-more : (t : List ℕ) (at : ℕ) (b : List ℕ) (x : ℕ) → at + length b < length t → set (over t at b) (at + length b) x ≡ over t at (b ++ (x ∷ []))
unfolding over
over-more t at b x h =
    let e : suc (at + length b) ≡ at + length (b ++ (x ∷ [])) = simp length-append (omega arith) in
    ap (λ (l : List ℕ). set l (at + length b) x) (sym (append_assoc (take at t) b (drop (at + length b) t)) ∙ ap (λ (l : List ℕ). (take at t ++ b) ++ l) (drop-cons t (at + length b) 0 h))
    ∙ set_at (take at t ++ b) (get_or t (at + length b) 0) (drop (suc (at + length b)) t) x (at + length b) (head_length t at b (omega arith))
    ∙ append_assoc (take at t) b (x ∷ drop (suc (at + length b)) t)
    ∙ ap (λ (l : List ℕ). take at t ++ l) (sym (append_assoc b (x ∷ []) (drop (suc (at + length b)) t)) ∙ ap (λ (n : ℕ). (b ++ (x ∷ [])) ++ drop n t) e)

-- bytes, and others after them
pub over-join : (t : List ℕ) (at : ℕ) (b d : List ℕ) → at + length b + length d ≤ length t → over (over t at b) (at + length b) d ≡ over t at (b ++ d)
unfolding over
over-join t at b d h =
    let n = at + length b in
    let p = take at t ++ b in
    let l : length p ≡ n = head_length t at b (omega arith) in
    let e : n + length d ≡ at + length (b ++ d) = simp length-append (omega arith) in
    let a : take at t ++ (b ++ drop n t) ≡ p ++ drop n t = sym (append_assoc (take at t) b (drop n t)) in
    let f : take n (p ++ drop n t) ≡ p = take_at p (drop n t) n l in
    let g : drop (n + length d) (p ++ drop n t) ≡ drop (n + length d) t =
    sym (drop-drop (length d) n (p ++ drop n t)) ∙ ap (drop (length d)) (drop_at p (drop n t) n l) ∙ drop-drop (length d) n t in
    ap (λ (s : List ℕ). take n s ++ (d ++ drop (n + length d) s)) a
    ∙ (λ i. f i ++ (d ++ g i))
    ∙ append_assoc (take at t) b (d ++ drop (n + length d) t)
    ∙ ap (λ (s : List ℕ). take at t ++ s) (sym (append_assoc b d (drop (n + length d) t)))
    ∙ ap (λ (k : ℕ). take at t ++ ((b ++ d) ++ drop k t)) e

-- ---- whether they fit

pub put_full : (t : List ℕ) (at : ℕ) (b : List ℕ) → length t < at + length b → written t at ≡ put_at t at b
unfolding put_at
put_full t at b h = sym (simp (lt-leb (at + length b) (length t) h))

pub put_fits : (t : List ℕ) (at : ℕ) (b s : List ℕ) (r : ℕ) → at + length b ≤ length t → r ≡ at + length b → s ≡ over t at b → written s r ≡ put_at t at b
unfolding put_at
put_fits t at b s r h e f = rw (le-leb (at + length b) (length t) h) (λ i. written (f i) (e i))

-- ---- bytes as they are

pub byte_put : (t : List ℕ) (at x : ℕ) → at < length t → set t at x ≡ over t at (x ∷ [])
byte_put t at x h =
    let z : at + 0 < length t = omega arith in
    (λ i. set (sym (over_none t at) i) (sym (add-zero at) i) x) ∙ over-more t at [] x z

-- ---- hexadecimal

hex-append : (a b : List ℕ) → hex_of (a ++ b) ≡ hex_of a ++ hex_of b
unfolding hex_of
hex-append [] b = refl
hex-append (x ∷ a) b = ap (λ (l : List ℕ). hex_digit (x / 16) ∷ hex_digit (x % 16) ∷ l) (hex-append a b)

pub hex-length : (b : List ℕ) → length (hex_of b) ≡ 2 * length b
unfolding hex_of
hex-length [] = refl
hex-length (x ∷ b) = omega (arith, hex-length b)

pub hex-none : (t : List ℕ) (at : ℕ) → over t at (hex_of []) ≡ t
unfolding hex_of
hex-none t at = over_none t at

pub hex-more : (t : List ℕ) (at : ℕ) (b : List ℕ) (i : ℕ) (s : List ℕ) (u v : ℕ) → at + 2 * length b ≤ length t → i < length b
    → s ≡ over t at (hex_of (take i b)) → u ≡ hex_digit (get_or b i 0 / 16) → v ≡ hex_digit (get_or b i 0 % 16)
    → set (set s (at + 2 * i) u) (at + 2 * i + 1) v ≡ over t at (hex_of (take (i + 1) b))
unfolding hex_of
hex-more t at b i s u v h l e eu ev =
    let x = get_or b i 0 in
    let w = hex_of (take i b) in
    let z : length w ≡ 2 * i = hex-length (take i b) ∙ ap (λ (n : ℕ). 2 * n) (length-take-le i b (omega arith)) in
    let y : length (w ++ (u ∷ [])) ≡ 2 * i + 1 = simp length-append (omega arith) in
    let p : at + length (w ++ (u ∷ [])) ≡ at + 2 * i + 1 = omega arith in
    (λ j. set (set (e j) (at + sym z j) u) (at + 2 * i + 1) v)
    ∙ ap (λ (a : List ℕ). set a (at + 2 * i + 1) v) (over-more t at w u (omega arith))
    ∙ ap (λ (n : ℕ). set (over t at (w ++ (u ∷ []))) n v) (sym p)
    ∙ over-more t at (w ++ (u ∷ [])) v (omega arith)
    ∙ ap (over t at) (append_assoc w (u ∷ []) (v ∷ []) ∙ (λ j. w ++ (eu j ∷ ev j ∷ [])) ∙ sym (hex-append (take i b) (x ∷ []))
    ∙ ap hex_of (sym (take-suc b i 0 l) ∙ ap (λ (n : ℕ). take n b) (sym (add-one i))))

pub hex-all : (t : List ℕ) (at : ℕ) (b : List ℕ) (i : ℕ) (s : List ℕ) → length b ≤ i → s ≡ over t at (hex_of (take i b)) → s ≡ over t at (hex_of b)
hex-all t at b i s h e = e ∙ ap (λ (l : List ℕ). over t at (hex_of l)) (take_all i b h)

pub hex_put : (t : List ℕ) (at : ℕ) (b s : List ℕ) → at + 2 * length b ≤ length t → s ≡ over t at (hex_of b)
    → written s (at + 2 * length b) ≡ put_at t at (hex_of b)
hex_put t at b s h e = put_fits t at (hex_of b) s (at + 2 * length b) (omega (arith, hex-length b)) (omega (arith, hex-length b)) e

pub hex_full : (t : List ℕ) (at : ℕ) (b : List ℕ) → length t < at + 2 * length b → written t at ≡ put_at t at (hex_of b)
hex_full t at b h = put_full t at (hex_of b) (omega (arith, hex-length b))

-- ---- decimal

-- the decimal form is the one that is printed
last_digits : AppendsLastDigit decimal_within
unfolding decimal_within
last_digits = record { one = λ k n h. simp (lt-ltb n 10 h) refl; more = λ k n h. simp (le-ltb n 10 h) refl }

pub decimal_printed : (n : ℕ) → n < 2 ^ 64 → decimal_of n ≡ decimal n
decimal_printed n h = decimal_from_appends decimal_within last_digits (suc n) n h (rw (← add-one n) (length-decimal-le_succ n h))

pub decimal_put : (t : List ℕ) (at n : ℕ) (l s : List ℕ) (r : ℕ) → n < 2 ^ 64 → l ≡ decimal n → written s r ≡ put_at t at l
    → written s r ≡ put_at t at (decimal_of n)
decimal_put t at n l s r h e p = p ∙ ap (put_at t at) (e ∙ sym (decimal_printed n h))
