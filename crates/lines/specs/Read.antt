-- What the code keeps of the front of a line.
use Rattle.std.specs.Prelude.{◌≡◌, Bool, true, false, cond, not, ◌&&◌, List, [], ◌∷◌, ◌++◌, ℕ, ◌+◌, ◌-◌, ◌*◌, min, ltb, eqb, length, set, Option, Some, None}
use Rattle.lines.specs.declared.read.Reading.{Reading}
use Rattle.lines.specs.declared.read.Line.{Line}
use Rattle.lines.specs.Words.{words, first, later, every, odd, limit, digit, decimal, hex_value, hex_digit, hex_bytes, empty_word, packed, between}
use Rattle.lines.specs.Line.{numbers_of, Kept}

-- ---- what each of its functions leaves

-- one more, up to 8
abbrev pub counted : ℕ → ℕ
counted n = cond (ltb n 8) (n + 1) 8

-- a word of so many bytes with one byte more, packed; 0 for more than 7 bytes, and for 256 ^ 7 and more, which no word of 6 bytes packs to
abbrev pub packed_with : ℕ → ℕ → ℕ → ℕ
packed_with word len b = cond (ltb len 7 && ltb word 72057594037927936) (word * 256 + b) 0

-- none from 2 ^ 32 on
abbrev pub capped : ℕ → Option ℕ
capped n = cond (ltb n limit) (Some n) None

-- a value with one digit more; none where it is no digit, and where it is too big
abbrev pub value_with : Option ℕ → ℕ → Option ℕ
value_with None b = None
value_with (Some v) b = cond (digit b) (capped (v * 10 + (b - 48))) None

-- the first word is the name
abbrev pub name_from : ℕ → ℕ → ℕ → ℕ
name_from words name word = cond (eqb words 1) word name

-- a word of no bytes is no number
abbrev pub number_from : ℕ → Option ℕ → Option ℕ
number_from len value = cond (eqb len 0) None value

-- the word of this place ended: the 2nd to the 7th are numbers
abbrev pub numbers_with : ℕ → List (Option ℕ) → Option ℕ → List (Option ℕ)
numbers_with words numbers n = cond (between 2 7 words) (set numbers (words - 2) n) numbers

-- two hex digits are a byte: with the second of them it goes into the page, where there is room
abbrev pub puts : Bool → ℕ → ℕ → ℕ → ℕ → Bool
puts odd high n bytes room = odd && (ltb bytes room && (ltb high 16 && ltb n 16))

abbrev pub bytes_with : Bool → ℕ → ℕ → ℕ → ℕ → ℕ
bytes_with odd high n bytes room = cond (puts odd high n bytes room) (bytes + 1) bytes

abbrev pub page_with : Bool → ℕ → ℕ → ℕ → List ℕ → List ℕ
page_with odd high n bytes page = cond (puts odd high n bytes (length page)) (set page bytes (high * 16 + n)) page

-- the word under way as a page
abbrev pub page_from : Reading → Option ℕ
page_from r =
    cond (eqb r.word (packed empty_word)) (Some 0)
    (cond r.hex (cond r.odd None (cond (eqb r.len 0) None (Some r.bytes))) None)

-- ---- what is kept, and what is handed on: of whatever was kept before, and of a page of so many bytes

-- so many words, the last of them empty and under way
abbrev pub new_word : ℕ → ℕ → List (Option ℕ) → Reading
new_word words name numbers =
    record { words = words; name = name; numbers = numbers; word = 1; len = 0; value = Some 0; hex = true; odd = false; high = 0; bytes = 0 }

unfoldable pub begun : Reading
begun = new_word 1 0 (None ∷ None ∷ None ∷ None ∷ None ∷ None ∷ [])

-- a space ends the word under way
abbrev pub space_of : Reading → Reading
space_of r =
    new_word (counted r.words) (name_from r.words r.name r.word) (numbers_with r.words r.numbers (number_from r.len r.value))

-- any other byte is one more of it
abbrev pub letter_of : Reading → ℕ → ℕ → Reading
letter_of r b room =
    record {
      words = r.words;
      name = r.name;
      numbers = r.numbers;
      word = packed_with r.word r.len b;
      len = counted r.len;
      value = value_with r.value b;
      hex = r.hex && ltb (hex_value b) 16;
      odd = not r.odd;
      high = hex_value b;
      bytes = bytes_with r.odd r.high (hex_value b) r.bytes room;
    }

unfoldable pub next_of : Reading → ℕ → ℕ → Reading
next_of r b room = cond (eqb b 32) (space_of r) (letter_of r b room)

unfoldable pub next_page : Reading → ℕ → List ℕ → List ℕ
next_page r b page = cond (eqb b 32) page (page_with r.odd r.high (hex_value b) r.bytes page)

unfoldable pub ended_of : Reading → Line
ended_of r =
    record {
      words = r.words;
      name = name_from r.words r.name r.word;
      numbers = numbers_with r.words r.numbers (number_from r.len r.value);
      page = page_from r;
    }

-- ---- the word under way

-- its value so far
unfoldable pub value_of : List ℕ → Option ℕ
value_of w = cond (every digit w) (capped (decimal 0 w)) None

-- the value of its last hex digit
unfoldable pub high_from : ℕ → List ℕ → ℕ
high_from h [] = h
high_from h (b ∷ w) = high_from (hex_value b) w

-- its hex digits' bytes so far are in the page
pub record Paired (w : List ℕ) (r : Reading) (page : List ℕ) : Type 0 where
  pub half : r.odd ≡ odd w
  pub high : r.high ≡ high_from 0 w
  pub kept : Kept (hex_bytes w) r.bytes page

-- ---- the front p of a line was read: some words ended, and one is under way
pub record Read (p : List ℕ) (r : Reading) (page : List ℕ) : Type 0 where
  pub ended : List (List ℕ)
  pub under : List ℕ
  pub whole : words p ≡ ended ++ (under ∷ [])
  pub count : r.words ≡ min 8 (length ended + 1)
  pub opened : every (λ b. ltb b 256) (first ended) ≡ true
  pub called : r.name ≡ cond (eqb (length ended) 0) 0 (packed (first ended))
  pub given : r.numbers ≡ numbers_of 6 (later ended)
  pub bytes : every (λ b. ltb b 256) under ≡ true
  pub word : r.word ≡ packed under
  pub long : r.len ≡ min 8 (length under)
  pub value : r.value ≡ value_of under
  pub hex : r.hex ≡ every hex_digit under
  -- of a word with a byte that is no hex digit, nothing is said of the slice, `odd`, `high` and `bytes`; a new word begins anew
  pub pairs : every hex_digit under ≡ true → Paired under r page
