-- How long a printed line is, and at most.
use mathlib.Core.Path.{◌≡◌, sym, ap, ◌∙◌}
use mathlib.Core.List.{List, [], ◌∷◌}
use Prim.Native.Nat.{ℕ, zero, suc, ◌+◌, ◌*◌, ◌/◌, ◌^◌, ◌<◌, ◌≤◌}
use native.Mathlib.Decide.{dec_lt}
use native.Mathlib.Nat.{pow-suc}
use native.Mathlib.Omega.{arith}
use borrow.Author.Tests.{lt-ltb, le-ltb}
use lib.ListN.{length, length-append}
use Rattle.std.specs.Prelude.{decimal}
use Rattle.lines.specs.Text.{decimal_within, decimal_of}
use Rattle.lines.specs.Sentences.{spaced_number, shown, header_line, refused_line, deposited_line, nothing_line, page_line}
use Rattle.lines.proofs.TextLaws.{hex-length, decimal_printed}

-- ---- how long it is

pub spaced_size : (n : ℕ) (l : List ℕ) → n < 2 ^ 64 → l ≡ decimal n → length l + 1 ≡ length (spaced_number n)
unfolding spaced_number
spaced_size n l h e =
    let d : length l ≡ length (decimal_of n) = ap length (e ∙ sym (decimal_printed n h)) in omega arith

pub header_size : (m n k t f : ℕ) → length (header_line m n k t f)
    ≡ 4 + length (spaced_number m) + length (spaced_number n) + length (spaced_number k) + length (spaced_number t) + length (spaced_number f)
unfolding header_line
header_size m n k t f = simp length-append (omega arith)

pub refused-size : (x : ℕ) → length (refused_line x) ≡ 8 + length (spaced_number x)
unfolding refused_line
refused-size x = simp length-append (omega arith)

pub deposited-size : (c q : ℕ) → length (deposited_line c q) ≡ 8 + length (spaced_number c) + length (spaced_number q)
unfolding deposited_line
deposited-size c q = simp length-append (omega arith)

pub nothing-size : (c : ℕ) → length (nothing_line c) ≡ 14 + length (spaced_number c)
unfolding nothing_line
nothing-size c = simp length-append (omega arith)

pub page-size : (c q w : ℕ) (page : List ℕ) → length (page_line c q w page)
    ≡ 6 + length (spaced_number c) + length (spaced_number q) + length (spaced_number w) + length (shown page)
unfolding page_line
page-size c q w page = simp length-append (omega arith)

-- ---- how long it is at most

-- a number below 10 ^ d has at most d digits
decimal-length : (most d n : ℕ) → n < 10 ^ suc d → length (decimal_within most n) ≤ suc d
unfolding decimal_within
decimal-length zero d n h = omega arith
decimal-length (suc most) d n h = go d h (dec_lt n 10) (λ e. decimal-length most e (n / 10))
  where
    go : (d : ℕ) → n < 10 ^ suc d → Dec (n < 10) → ((e : ℕ) → n / 10 < 10 ^ suc e → length (decimal_within most (n / 10)) ≤ suc e)
        → length (decimal_within (suc most) n) ≤ suc d
    go d h (yes l) tenth = simp (lt-ltb n 10 l) (omega arith)
    go zero h (no l) tenth = absurd (omega arith)
    go (suc d) h (no l) tenth =
        let t : 10 ≤ n = omega arith in
        let p : 10 ^ suc (suc d) ≡ 10 ^ suc d * 10 = pow-suc 10 (suc d) in
        let q : n / 10 < 10 ^ suc d = omega arith in
        simp (le-ltb n 10 t, length-append) (omega (arith, tenth d q))

pub spaced_length : (d n : ℕ) → n < 10 ^ suc d → length (spaced_number n) ≤ 2 + d
unfolding spaced_number
spaced_length d n h = omega (arith, decimal-length (suc n) d n h)

shown-length : (page : List ℕ) → length (shown page) ≤ 5 + 2 * length page
unfolding shown
shown-length [] = omega arith
shown-length (b ∷ l) = omega (arith, hex-length (b ∷ l))

pub header_length : (m n k t f : ℕ) → m < 10 → n < 100 → k < 100 → t < 100 → f < 100 → length (header_line m n k t f) ≤ 18
unfolding header_line
header_length m n k t f a b c d e =
    simp length-append (omega (arith, spaced_length 0 m a, spaced_length 1 n b, spaced_length 1 k c, spaced_length 1 t d, spaced_length 1 f e))

pub refused-length : (x : ℕ) → x < 100 → length (refused_line x) ≤ 11
unfolding refused_line
refused-length x h = simp length-append (omega (arith, spaced_length 1 x h))

module _ (c : ℕ) (small : c < 4294967296) where
  client-length : length (spaced_number c) ≤ 11
  client-length = spaced_length 9 c (omega arith)

  pub deposited-length : (q : ℕ) → q < 4294967296 → length (deposited_line c q) ≤ 30
  unfolding deposited_line
  deposited-length q h = simp length-append (omega (arith, client-length, spaced_length 9 q (omega arith)))

  pub nothing-length : length (nothing_line c) ≤ 25
  unfolding nothing_line
  nothing-length = simp length-append (omega (arith, client-length))

  pub page-length : (q w : ℕ) (page : List ℕ) → q < 4294967296 → w < 256 → length (page_line c q w page) ≤ 37 + 2 * length page
  unfolding page_line
  page-length q w page h l =
      simp length-append (omega (arith, client-length, spaced_length 9 q (omega arith), spaced_length 2 w (omega arith), shown-length page))
