-- The lines that a program prints.
use Rattle.std.specs.Prelude.{◌≡◌, refl, List, [], ◌∷◌, ◌++◌, ℕ, ◌+◌, ◌≤◌, length}
use Rattle.lines.specs.Ascii.{ascii}
use Rattle.lines.specs.Text.{over, written, decimal_within, decimal_of, hex_of}

-- a number after a space
unfoldable pub spaced_number : ℕ → List ℕ
spaced_number n = ascii " " ++ decimal_of n

-- a page's bytes in hexadecimal, or a word where there are none
unfoldable pub shown : List ℕ → List ℕ
shown [] = ascii "empty"
shown (b ∷ l) = hex_of (b ∷ l)

-- the measures: m clients, n nodes, k pieces make a page, t nodes may be dishonest, a piece has at most f bytes
unfoldable pub header_line : ℕ → ℕ → ℕ → ℕ → ℕ → List ℕ
header_line m n k t f = ascii "AWE" ++ spaced_number m ++ spaced_number n ++ spaced_number k ++ spaced_number t ++ spaced_number f ++ ascii "\n"

-- a refusal, by its number
unfoldable pub refused_line : ℕ → List ℕ
refused_line x = ascii "REFUSED" ++ spaced_number x ++ ascii "\n"

-- a deposit that ended: the client, the sequence number
unfoldable pub deposited_line : ℕ → ℕ → List ℕ
deposited_line c sequence = ascii "DEPOSIT" ++ spaced_number c ++ spaced_number sequence ++ ascii "\n"

-- a reading that found nothing: the client
unfoldable pub nothing_line : ℕ → List ℕ
nothing_line c = ascii "READ" ++ spaced_number c ++ ascii " 0 none -\n"

-- a reading that found a page: the client, the page's sequence number and writer, the page
unfoldable pub page_line : ℕ → ℕ → ℕ → List ℕ → List ℕ
page_line c sequence writer page = ascii "READ" ++ spaced_number c ++ spaced_number sequence ++ spaced_number writer ++ ascii " " ++ shown page ++ ascii "\n"

-- bytes b are put at a place of a text that has room for them, and r is the place after them
pub record Adds (text : List ℕ) (at : ℕ) (b : List ℕ) (after : List ℕ) (r : ℕ) : Type 0 where
  pub fits : at + length b ≤ length text → written after r ≡ written (over text at b) (at + length b)

-- ---- examples, each computed

header_example : header_line 2 4 2 1 8 ≡ ascii "AWE 2 4 2 1 8\n"
unfolding decimal_within spaced_number header_line
header_example = refl

refused_example : refused_line 4 ≡ ascii "REFUSED 4\n"
unfolding decimal_within spaced_number refused_line
refused_example = refl

deposited_example : deposited_line 0 100 ≡ ascii "DEPOSIT 0 100\n"
unfolding decimal_within spaced_number deposited_line
deposited_example = refl

nothing_example : nothing_line 1 ≡ ascii "READ 1 0 none -\n"
unfolding decimal_within spaced_number nothing_line
nothing_example = refl

page_example : page_line 1 1 0 (0x41 ∷ 0xFE ∷ []) ≡ ascii "READ 1 1 0 41FE\n"
unfolding decimal_within hex_of spaced_number shown page_line
page_example = refl

empty_example : page_line 1 1 0 [] ≡ ascii "READ 1 1 0 empty\n"
unfolding decimal_within hex_of spaced_number shown page_line
empty_example = refl
