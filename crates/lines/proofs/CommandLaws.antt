-- Laws of what a line of `stand` asks for.
use mathlib.Core.Path.{◌≡◌, refl, sym, ap, ◌∙◌}
use mathlib.Core.Bool.{Bool, true, false, cond, not, ◌&&◌}
use mathlib.Core.List.{List, [], ◌∷◌}
use mathlib.Core.Option.{Option, none, some}
use Prim.Native.Nat.{ℕ, zero, suc, ◌<◌}
use native.Mathlib.Omega.{arith}
use native.Mathlib.Decide.{ℕ_discrete}
use borrow.Author.Tests.{eq-eqb, ne_eqb}
use lib.Dec.{ltb, eqb}
use lib.ListN.{length, get_or}
use Rattle.std.specs.Prelude.{Option as Told, Some, None}
use Rattle.lines.specs.declared.read.Line.{Line}
use Rattle.lines.specs.Words.{words, first, later, final, every, void, odd, same, limit, digit, decimal, number_of, hex_value, hex_bytes, page_of, pack_from, packed}
use Rattle.lines.specs.Line.{as_told, numbers_of, PageIs, LineOf}
use Rattle.lines.specs.Ascii.{ascii}
use Rattle.lines.specs.Command.{config, read, deposit, other, config_of, read_of, deposit_of, word, config_asked, read_asked, deposit_asked, asked, stand_line, Asks}
use Rattle.lines.specs.Command.{number_told, number, config_told, read_told, deposit_told, config_from, read_from, deposit_from, verb_of, asked_of}
use Rattle.lines.proofs.WordsLaws.{same_eq, small, packed_injective}

-- ---- the numbers of a line

number_at : (n i : ℕ) (ws : List (List ℕ)) → i < n → i < length ws → get_or (numbers_of n ws) i None ≡ as_told (number_of (get_or ws i []))
unfolding numbers_of
number_at zero i ws h l = absurd (omega arith)
number_at (suc n) i [] h l = absurd (omega arith)
number_at (suc n) zero (w ∷ ws) h l = refl
number_at (suc n) (suc i) (w ∷ ws) h l = number_at n i ws (omega arith) (omega arith)

later_at : (i : ℕ) (ws : List (List ℕ)) → i < 6 → suc i < length ws → get_or (numbers_of 6 (later ws)) i None ≡ as_told (number_of (word ws (suc i)))
later_at i [] h l = absurd (omega arith)
later_at i (w ∷ ws) h l = number_at 6 i ws h (omega arith)

-- a word's number is below 2 ^ 32
number-kept : (w : List ℕ) → number_told (as_told (number_of w)) ≡ as_told (number_of w)
unfolding number_of
number-kept w = go (not (void w)) (every digit w) (ltb (decimal 0 w) limit) (decimal 0 w) refl
  where
    go : (a b t : Bool) (d : ℕ) → ltb d limit ≡ t → number_told (as_told (cond (a && b && t) (some d) none)) ≡ as_told (cond (a && b && t) (some d) none)
    go false b t d e = refl
    go true false t d e = refl
    go true true false d e = refl
    go true true true d e = simp e

-- ---- each form, of the numbers and the page that a line has

config-asks : (m n k t f : Option ℕ) (page : List ℕ)
    → Asks (config_of m n k t f) page (config_told (as_told m) (as_told n) (as_told k) (as_told t) (as_told f))
config-asks none n k t f page = tt
config-asks (some m) none k t f page = tt
config-asks (some m) (some n) none t f page = tt
config-asks (some m) (some n) (some k) none f page = tt
config-asks (some m) (some n) (some k) (some t) none page = tt
config-asks (some m) (some n) (some k) (some t) (some f) page = (refl, refl, refl, refl, refl)

read-asks : (c : Option ℕ) (page : List ℕ) → Asks (read_of c) page (read_told (as_told c))
read-asks none page = tt
read-asks (some c) page = refl

deposit-asks : (c : Option ℕ) (b : Option (List ℕ)) (n : Told ℕ) (page : List ℕ) → PageIs b page n → Asks (deposit_of c b) page (deposit_told (as_told c) n)
deposit-asks none b n page h = tt
deposit-asks (some c) none None page h = tt
deposit-asks (some c) none (Some n) page h = absurd h
deposit-asks (some c) (some b) None page h = absurd h
deposit-asks (some c) (some b) (Some n) page h = (refl, h)

final_third : (ws : List (List ℕ)) → length ws ≡ 3 → final ws ≡ word ws 2
final_third [] h = absurd (omega arith)
final_third (u ∷ []) h = absurd (omega arith)
final_third (u ∷ v ∷ []) h = absurd (omega arith)
final_third (u ∷ v ∷ w ∷ []) h = refl
final_third (u ∷ v ∷ w ∷ x ∷ ws) h = absurd (omega arith)

module _ (p page : List ℕ) (l : Line) (o : LineOf p page l) where
  -- the code counts words up to 8
  words_count : (n : ℕ) → n < 8 → l.words ≡ n → length (words p) ≡ n
  words_count n h e = omega (arith, o.count)

  words-differ : (n : ℕ) → n < 8 → (l.words ≡ n → ⊥) → eqb (length (words p)) n ≡ false
  words-differ n h e = ne_eqb (length (words p)) n (λ q. e (omega (arith, o.count)))

  told : (i : ℕ) → i < 6 → suc i < length (words p) → number l i ≡ as_told (number_of (word (words p) (suc i)))
  told i h k =
      ap (λ (v : List (Told ℕ)). number_told (get_or v i None)) o.given
      ∙ ap number_told (later_at i (words p) h k)
      ∙ number-kept (word (words p) (suc i))

  config-line : Asks (config_asked (words p)) page (config_from l)
  unfolding config_asked
  config-line = go (ℕ_discrete l.words 6)
    where
      go : Dec (l.words ≡ 6) → Asks (config_asked (words p)) page (config_from l)
      go (no e) = rw (ne_eqb l.words 6 e, words-differ 6 (omega arith) e) tt
      go (yes e) =
          let n : length (words p) ≡ 6 = words_count 6 (omega arith) e in
          let w = λ (i : ℕ). number_of (word (words p) (suc i)) in
          rw (
            eq-eqb l.words 6 e,
            eq-eqb (length (words p)) 6 n,
            told 0 (omega arith) (omega arith),
            told 1 (omega arith) (omega arith),
            told 2 (omega arith) (omega arith),
            told 3 (omega arith) (omega arith),
            told 4 (omega arith) (omega arith),
          ) (config-asks (w 0) (w 1) (w 2) (w 3) (w 4) page)

  read-line : Asks (read_asked (words p)) page (read_from l)
  unfolding read_asked
  read-line = go (ℕ_discrete l.words 2)
    where
      go : Dec (l.words ≡ 2) → Asks (read_asked (words p)) page (read_from l)
      go (no e) = rw (ne_eqb l.words 2 e, words-differ 2 (omega arith) e) tt
      go (yes e) =
          let n : length (words p) ≡ 2 = words_count 2 (omega arith) e in
          rw (eq-eqb l.words 2 e, eq-eqb (length (words p)) 2 n, told 0 (omega arith) (omega arith))
          (read-asks (number_of (word (words p) 1)) page)

  deposit-line : Asks (deposit_asked (words p)) page (deposit_from l)
  unfolding deposit_asked
  deposit-line = go (ℕ_discrete l.words 3)
    where
      go : Dec (l.words ≡ 3) → Asks (deposit_asked (words p)) page (deposit_from l)
      go (no e) = rw (ne_eqb l.words 3 e, words-differ 3 (omega arith) e) tt
      go (yes e) =
          let n : length (words p) ≡ 3 = words_count 3 (omega arith) e in
          let s : PageIs (page_of (word (words p) 2)) page l.page = rw (final_third (words p) n) at o.shown in
          rw (eq-eqb l.words 3 e, eq-eqb (length (words p)) 3 n, told 0 (omega arith) (omega arith))
          (deposit-asks (number_of (word (words p) 1)) (page_of (word (words p) 2)) l.page page s)

  -- ---- which of them, by the first word's number

  named : (w : List ℕ) → small w → (packed w ≡ 0 → ⊥) → l.name ≡ packed w → first (words p) ≡ w
  named w s z e = packed_injective (first (words p)) w o.bytes s (sym o.called ∙ e) z

  not_named : (w : List ℕ) → (l.name ≡ packed w → ⊥) → same (first (words p)) w ≡ false
  not_named w h = go (same (first (words p)) w) refl
    where
      go : (t : Bool) → same (first (words p)) w ≡ t → same (first (words p)) w ≡ false
      go true e = absurd (h (o.called ∙ ap packed (same_eq (first (words p)) w e)))
      go false e = e

  asked-config : l.name ≡ 390805221435751 → Asks (stand_line p) page (asked_of l)
  unfolding stand_line asked asked_of verb_of same every packed pack_from
  asked-config e = rw (named (ascii "config") refl (λ z. omega (arith, z)) e, eq-eqb l.name 390805221435751 e) config-line

  module _ (c : l.name ≡ 390805221435751 → ⊥) where
    asked-read : l.name ≡ 6214213988 → Asks (stand_line p) page (asked_of l)
    unfolding stand_line asked asked_of verb_of same every packed pack_from
    asked-read e =
        rw (named (ascii "read") refl (λ z. omega (arith, z)) e, ne_eqb l.name 390805221435751 c, eq-eqb l.name 6214213988 e) read-line

    module _ (d : l.name ≡ 6214213988 → ⊥) where
      asked-deposit : l.name ≡ 100316625289570676 → Asks (stand_line p) page (asked_of l)
      unfolding stand_line asked asked_of verb_of same every packed pack_from
      asked-deposit e =
          rw (named (ascii "deposit") refl (λ z. omega (arith, z)) e, ne_eqb l.name 390805221435751 c, ne_eqb l.name 6214213988 d, eq-eqb l.name 100316625289570676 e)
          deposit-line

      asked-other : (l.name ≡ 100316625289570676 → ⊥) → Asks (stand_line p) page (asked_of l)
      unfolding stand_line asked asked_of verb_of packed pack_from
      asked-other e =
          rw (
            not_named (ascii "config") c,
            not_named (ascii "read") d,
            not_named (ascii "deposit") e,
            ne_eqb l.name 390805221435751 c,
            ne_eqb l.name 6214213988 d,
            ne_eqb l.name 100316625289570676 e,
          ) tt

  -- what the code makes of a line is what the line's bytes ask for
  pub asked-line : Asks (stand_line p) page (asked_of l)
  asked-line = go (ℕ_discrete l.name 390805221435751) (ℕ_discrete l.name 6214213988) (ℕ_discrete l.name 100316625289570676)
    where
      go : Dec (l.name ≡ 390805221435751) → Dec (l.name ≡ 6214213988) → Dec (l.name ≡ 100316625289570676) → Asks (stand_line p) page (asked_of l)
      go (yes c) d e = asked-config c
      go (no c) (yes d) e = asked-read c d
      go (no c) (no d) (yes e) = asked-deposit c d e
      go (no c) (no d) (no e) = asked-other c d e

-- ---- examples, each computed

config_example : stand_line (ascii "config 2 4 2 1 8") ≡ config 2 4 2 1 8
unfolding stand_line asked config_asked words same number_of every decimal
config_example = refl

read_example : stand_line (ascii "read 0001") ≡ read 1
unfolding stand_line asked read_asked words same number_of every decimal
read_example = refl

deposit_example : stand_line (ascii "deposit 0 41") ≡ deposit 0 (0x41 ∷ [])
unfolding stand_line asked deposit_asked words same number_of every decimal page_of odd hex_value hex_bytes
deposit_example = refl

empty_example : stand_line (ascii "deposit 1 empty") ≡ deposit 1 []
unfolding stand_line asked deposit_asked words same number_of every decimal page_of
empty_example = refl

-- a number is missing
short_example : stand_line (ascii "read") ≡ other
unfolding stand_line asked read_asked words same
short_example = refl

-- a second space, or a space at the end, has a word after it
spaces_example : stand_line (ascii "read  1") ≡ other
unfolding stand_line asked read_asked words same
spaces_example = refl

end_example : stand_line (ascii "read 1 ") ≡ other
unfolding stand_line asked read_asked words same
end_example = refl

-- a capital letter
capital_example : stand_line (ascii "Read 1") ≡ other
unfolding stand_line asked words same
capital_example = refl

-- half a byte
half_example : stand_line (ascii "deposit 0 4") ≡ other
unfolding stand_line asked deposit_asked words same number_of every decimal page_of odd hex_value
half_example = refl

-- 2 ^ 32
large_example : stand_line (ascii "read 4294967296") ≡ other
unfolding stand_line asked read_asked words same number_of every decimal
large_example = refl
