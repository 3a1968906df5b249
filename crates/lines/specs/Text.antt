-- Words that are printed, and what it is to put them, or a line of them, into a text.
use Rattle.std.specs.Prelude.{cond, List, [], ◌∷◌, ◌++◌, ℕ, zero, suc, ◌+◌, ◌/◌, ◌%◌, leb, ltb, length, take, drop}

-- a text with bytes b over its own from a place on
unfoldable pub over : List ℕ → ℕ → List ℕ → List ℕ
over text at b = take at text ++ (b ++ drop (at + length b) text)

-- a text, and the number that is answered
pub record Written : Type 0 where
  pub text : List ℕ
  pub answer : ℕ

abbrev pub written : List ℕ → ℕ → Written
written text answer = record { text = text; answer = answer }

-- bytes b are put at a place, and the answer is the place after them; where they do not fit, the text stays as it was, and the answer is the place
unfoldable pub put_at : List ℕ → ℕ → List ℕ → Written
put_at text at b = cond (leb (at + length b) (length text)) (written (over text at b) (at + length b)) (written text at)

-- a line is put at the front of a text, and the answer is its length; where it does not fit, the text stays as it was, and the answer is 0, which is
-- no line's length
unfoldable pub put_line : List ℕ → List ℕ → Written
put_line text line = cond (leb (length line) (length text)) (written (line ++ drop (length line) text) (length line)) (written text 0)

-- a number in decimal: one digit below 10, else the digits of its tenth and then its last digit; at most so many digits
unfoldable pub decimal_within : ℕ → ℕ → List ℕ
decimal_within zero n = []
decimal_within (suc most) n = cond (ltb n 10) ((48 + n) ∷ []) (decimal_within most (n / 10) ++ ((48 + n % 10) ∷ []))

-- a number in decimal: it has no more digits than its successor counts
abbrev pub decimal_of : ℕ → List ℕ
decimal_of n = decimal_within (suc n) n

-- a digit in hexadecimal: `0` to `9`, `A` to `F`
abbrev pub hex_digit : ℕ → ℕ
hex_digit d = cond (ltb d 10) (48 + d) (55 + d)

-- bytes in hexadecimal, two digits each
unfoldable pub hex_of : List ℕ → List ℕ
hex_of [] = []
hex_of (b ∷ l) = hex_digit (b / 16) ∷ hex_digit (b % 16) ∷ hex_of l
