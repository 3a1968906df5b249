-- Laws of lines: bytes put one after another.
use mathlib.Core.Path.{◌≡◌, refl, sym, ap, ◌∙◌}
use mathlib.Core.List.{List, [], ◌∷◌, ◌++◌}
use Prim.Native.Nat.{ℕ, ◌+◌, ◌*◌, ◌/◌, ◌<◌, ◌≤◌}
use native.Mathlib.Decide.{dec_le}
use native.Mathlib.Omega.{arith}
use lib.Dec.{leb}
use borrow.Author.Tests.{lt-leb, le-leb}
use lib.ListN.{length, drop, length-append}
use Rattle.lines.specs.Text.{over, Written, written, put_at, put_line, hex_of}
use Rattle.lines.specs.Ascii.{ascii}
use Rattle.lines.specs.Sentences.{spaced_number, shown, header_line, refused_line, deposited_line, nothing_line, page_line, Adds}
use Rattle.lines.proofs.TextLaws.{over-length, over-join, hex-length}

pub adds_one : (t : List ℕ) (at : ℕ) (b s : List ℕ) (r : ℕ) → written s r ≡ put_at t at b → Adds t at b s r
unfolding put_at
adds_one t at b s r e = record { fits = λ h. e ∙ simp (le-leb (at + length b) (length t) h) }

pub adds_join : {t : List ℕ} {at : ℕ} {b s : List ℕ} {q : ℕ} {d u : List ℕ} {r : ℕ} → Adds t at b s q → Adds s q d u r → Adds t at (b ++ d) u r
adds_join {t} {at} {b} {s} {q} {d} {u} {r} x y =
    record {
      fits = λ h.
          let l : length (b ++ d) ≡ length b + length d = length-append b d in
          let f = x.fits (omega arith) in
          let e : q ≡ at + length b = ap (λ (w : Written). w.answer) f in
          let g : s ≡ over t at b = ap (λ (w : Written). w.text) f in
          let m : length s ≡ length t = ap length g ∙ over-length t at b (omega arith) in
          let k : over s q d ≡ over t at (b ++ d) = (λ i. over (g i) (e i) d) ∙ over-join t at b d (omega arith) in
          let n : q + length d ≡ at + length (b ++ d) = omega arith in
          y.fits (omega arith) ∙ (λ i. written (k i) (n i));
    }

pub adds_more : {t : List ℕ} {at : ℕ} {b s : List ℕ} {q : ℕ} (d u : List ℕ) (r : ℕ) → Adds t at b s q → written u r ≡ put_at s q d → Adds t at (b ++ d) u r
adds_more {t} {at} {b} {s} {q} d u r x p = adds_join x (adds_one s q d u r p)

-- what stands at the front, part by part, is a line
pub line-fits : {t s : List ℕ} {r : ℕ} (l p : List ℕ) → length l ≤ length t → l ≡ p → Adds t 0 p s r → written s r ≡ put_line t l
unfolding over put_line
line-fits {t} {s} {r} l p h e x =
    let f : 0 + length p ≡ length l = omega (arith, ap length e) in
    let g : p ++ drop (0 + length p) t ≡ l ++ drop (length l) t = λ i. sym e i ++ drop (f i) t in
    rw (le-leb (length l) (length t) h) (x.fits (omega arith) ∙ (λ i. written (g i) (f i)))

pub header_parts : (m n k t f : ℕ)
    → header_line m n k t f ≡ ascii "AWE" ++ spaced_number m ++ spaced_number n ++ spaced_number k ++ spaced_number t ++ spaced_number f ++ (10 ∷ [])
unfolding header_line
header_parts m n k t f = refl

pub refused-parts : (x : ℕ) → refused_line x ≡ ascii "REFUSED" ++ spaced_number x ++ (10 ∷ [])
unfolding refused_line
refused-parts x = refl

pub deposited-parts : (c q : ℕ) → deposited_line c q ≡ ascii "DEPOSIT" ++ spaced_number c ++ spaced_number q ++ (10 ∷ [])
unfolding deposited_line
deposited-parts c q = refl

pub nothing-parts : (c : ℕ) → nothing_line c ≡ ascii "READ" ++ spaced_number c ++ ascii " 0 none -\n"
unfolding nothing_line
nothing-parts c = refl

pub page-parts : (c q w : ℕ) (page : List ℕ)
    → page_line c q w page ≡ ascii "READ" ++ spaced_number c ++ spaced_number q ++ spaced_number w ++ (32 ∷ []) ++ shown page ++ (10 ∷ [])
unfolding page_line
page-parts c q w page = refl

pub line_full : (t l : List ℕ) → length t < length l → written t 0 ≡ put_line t l
unfolding put_line
line_full t l h = sym (simp (lt-leb (length l) (length t) h))

-- a page as it is shown
shown-none : (b : List ℕ) → length b ≡ 0 → shown b ≡ ascii "empty"
unfolding shown
shown-none [] h = refl
shown-none (x ∷ b) h = absurd (omega arith)

shown_some : (b : List ℕ) → (length b ≡ 0 → ⊥) → shown b ≡ hex_of b
unfolding shown
shown_some [] h = absurd (h refl)
shown_some (x ∷ b) h = refl

pub show_none : (t : List ℕ) (at : ℕ) (s : List ℕ) (r : ℕ) (b : List ℕ) → length b ≡ 0 → written s r ≡ put_at t at (ascii "empty") → written s r ≡ put_at t at (shown b)
show_none t at s r b h p = p ∙ ap (put_at t at) (sym (shown-none b h))

pub show_some : (t : List ℕ) (at : ℕ) (s : List ℕ) (r : ℕ) (b : List ℕ) → (length b ≡ 0 → ⊥) → written s r ≡ put_at t at (hex_of b) → written s r ≡ put_at t at (shown b)
show_some t at s r b h p = p ∙ ap (put_at t at) (sym (shown_some b h))

-- and how long it is
pub shown-short : (b : List ℕ) → length b ≡ 0 → length (shown b) ≡ 5
shown-short b h = ap length (shown-none b h)

pub shown-long : (b : List ℕ) → (length b ≡ 0 → ⊥) → length (shown b) ≡ 2 * length b
shown-long b h = ap length (shown_some b h) ∙ hex-length b

pub half-fits : (b : List ℕ) (room : ℕ) → (length b ≡ 0 → ⊥) → leb (length b) (room / 2) ≡ leb (length (shown b)) room
half-fits b room h = go (dec_le (length b) (room / 2))
  where
    n : length (shown b) ≡ 2 * length b
    n = shown-long b h

    go : Dec (length b ≤ room / 2) → leb (length b) (room / 2) ≡ leb (length (shown b)) room
    go (yes l) = le-leb (length b) (room / 2) l ∙ sym (le-leb (length (shown b)) room (omega (arith, n)))
    go (no l) = lt-leb (length b) (room / 2) (omega arith) ∙ sym (lt-leb (length (shown b)) room (omega (arith, n)))
