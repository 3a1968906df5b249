-- The words of a line of text, and what each of them says.
use Rattle.std.specs.Prelude.{Bool, true, false, cond, not, ◌&&◌, List, [], ◌∷◌, ℕ, ◌+◌, ◌-◌, ◌*◌, leb, ltb, eqb, length}
use Rattle.std.proofs.Math.Option.{Option, none, some}
use Rattle.lines.specs.Ascii.{ascii}

-- ---- words: what stands between the spaces

abbrev pub grow : ℕ → List (List ℕ) → List (List ℕ)
grow b [] = (b ∷ []) ∷ []
grow b (w ∷ ws) = (b ∷ w) ∷ ws

unfoldable pub words : List ℕ → List (List ℕ)
words [] = [] ∷ []
words (b ∷ p) = cond (eqb b 32) ([] ∷ words p) (grow b (words p))

-- the first, those after it, the last
abbrev pub first : List (List ℕ) → List ℕ
first [] = []
first (w ∷ ws) = w

abbrev pub later : List (List ℕ) → List (List ℕ)
later [] = []
later (w ∷ ws) = ws

abbrev pub last_from : List ℕ → List (List ℕ) → List ℕ
last_from w [] = w
last_from w (v ∷ ws) = last_from v ws

abbrev pub final : List (List ℕ) → List ℕ
final ws = last_from [] ws

-- ---- tests of a word

unfoldable pub every : (ℕ → Bool) → List ℕ → Bool
every f [] = true
every f (b ∷ w) = f b && every f w

abbrev pub void : List ℕ → Bool
void [] = true
void (b ∷ w) = false

unfoldable pub odd : List ℕ → Bool
odd [] = false
odd (b ∷ w) = not (odd w)

unfoldable pub same : List ℕ → List ℕ → Bool
same [] [] = true
same [] (c ∷ v) = false
same (b ∷ w) [] = false
same (b ∷ w) (c ∷ v) = eqb b c && same w v

abbrev pub between : ℕ → ℕ → ℕ → Bool
between low high b = leb low b && leb b high

-- ---- a number: digits only, at least one, and below 2 ^ 32

abbrev pub limit : ℕ
limit = 4294967296

abbrev pub digit : ℕ → Bool
digit b = between 48 57 b

unfoldable pub decimal : ℕ → List ℕ → ℕ
decimal n [] = n
decimal n (b ∷ w) = decimal (n * 10 + (b - 48)) w

unfoldable pub number_of : List ℕ → Option ℕ
number_of w = cond (not (void w) && every digit w && ltb (decimal 0 w) limit) (some (decimal 0 w)) none

-- ---- a page: hex digits of either case, two to a byte and at least two, or the word `empty` for no bytes

-- a hex digit's value; 16 for any other byte
unfoldable pub hex_value : ℕ → ℕ
hex_value b = cond (between 48 57 b) (b - 48) (cond (between 65 70 b) (b - 55) (cond (between 97 102 b) (b - 87) 16))

abbrev pub hex_digit : ℕ → Bool
hex_digit b = ltb (hex_value b) 16

unfoldable pub hex_bytes : List ℕ → List ℕ
hex_bytes [] = []
hex_bytes (a ∷ []) = []
hex_bytes (a ∷ b ∷ w) = (hex_value a * 16 + hex_value b) ∷ hex_bytes w

abbrev pub empty_word : List ℕ
empty_word = ascii "empty"

unfoldable pub page_of : List ℕ → Option (List ℕ)
page_of w = cond (same w empty_word) (some []) (cond (every hex_digit w && not (odd w) && not (void w)) (some (hex_bytes w)) none)

-- ---- a word as one number: its bytes after a 1; 0 for a word of more than 7 bytes

unfoldable pub pack_from : ℕ → List ℕ → ℕ
pack_from n [] = n
pack_from n (b ∷ w) = pack_from (n * 256 + b) w

unfoldable pub packed : List ℕ → ℕ
packed w = cond (leb (length w) 7) (pack_from 1 w) 0
