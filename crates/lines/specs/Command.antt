-- A line of `stand`: its first word says what is asked, and the words after it are numbers and a page.
use Rattle.std.specs.Prelude.{◌≡◌, cond, List, [], ℕ, eqb, length, take, get_or, Option as Told, Some, None}
use Rattle.std.proofs.Math.Option.{Option, none, some}
use Rattle.lines.specs.declared.read.Line.{Line}
use Rattle.lines.specs.declared.command.Command.{Command}
use Rattle.lines.specs.declared.command.Verb.{Verb}
use Rattle.lines.specs.Words.{words, first, same, number_of, page_of, packed}
use Rattle.lines.specs.Line.{Kept}
use Rattle.lines.specs.Read.{capped}
use Rattle.lines.specs.Ascii.{ascii}

pub data Asked : Type 0 where
  config : ℕ → ℕ → ℕ → ℕ → ℕ → Asked
  read : ℕ → Asked
  deposit : ℕ → List ℕ → Asked
  -- a line of another form
  other : Asked

abbrev pub config_of : Option ℕ → Option ℕ → Option ℕ → Option ℕ → Option ℕ → Asked
config_of none n k t f = other
config_of (some m) none k t f = other
config_of (some m) (some n) none t f = other
config_of (some m) (some n) (some k) none f = other
config_of (some m) (some n) (some k) (some t) none = other
config_of (some m) (some n) (some k) (some t) (some f) = config m n k t f

abbrev pub read_of : Option ℕ → Asked
read_of none = other
read_of (some c) = read c

abbrev pub deposit_of : Option ℕ → Option (List ℕ) → Asked
deposit_of none page = other
deposit_of (some c) none = other
deposit_of (some c) (some page) = deposit c page

abbrev pub word : List (List ℕ) → ℕ → List ℕ
word ws i = get_or ws i []

-- each form has so many words, the first one too
unfoldable pub config_asked : List (List ℕ) → Asked
config_asked ws =
    cond (eqb (length ws) 6)
    (config_of (number_of (word ws 1)) (number_of (word ws 2)) (number_of (word ws 3)) (number_of (word ws 4)) (number_of (word ws 5)))
    other

unfoldable pub read_asked : List (List ℕ) → Asked
read_asked ws = cond (eqb (length ws) 2) (read_of (number_of (word ws 1))) other

unfoldable pub deposit_asked : List (List ℕ) → Asked
deposit_asked ws = cond (eqb (length ws) 3) (deposit_of (number_of (word ws 1)) (page_of (word ws 2))) other

-- the first word says which form it is
unfoldable pub asked : List (List ℕ) → Asked
asked ws =
    cond (same (first ws) (ascii "config")) (config_asked ws)
    (cond (same (first ws) (ascii "read")) (read_asked ws)
    (cond (same (first ws) (ascii "deposit")) (deposit_asked ws) other))

-- what the bytes of a line ask for
unfoldable pub stand_line : List ℕ → Asked
stand_line p = asked (words p)

-- as the code hands it on: a page stands at the front of the slice
abbrev pub Asks : Asked → List ℕ → Told Command → Type 0
Asks (config m n k t f) page (Some (Command.Config m' n' k' t' f')) = (m' ≡ m) × (n' ≡ n) × (k' ≡ k) × (t' ≡ t) × (f' ≡ f)
Asks (config m n k t f) page (Some (Command.Read c)) = ⊥
Asks (config m n k t f) page (Some (Command.Deposit c b)) = ⊥
Asks (config m n k t f) page None = ⊥
Asks (read c) page (Some (Command.Config m' n' k' t' f')) = ⊥
Asks (read c) page (Some (Command.Read c')) = c' ≡ c
Asks (read c) page (Some (Command.Deposit c' b)) = ⊥
Asks (read c) page None = ⊥
Asks (deposit c bytes) page (Some (Command.Config m' n' k' t' f')) = ⊥
Asks (deposit c bytes) page (Some (Command.Read c')) = ⊥
Asks (deposit c bytes) page (Some (Command.Deposit c' n)) = (c' ≡ c) × Kept bytes n page
Asks (deposit c bytes) page None = ⊥
Asks other page (Some (Command.Config m' n' k' t' f')) = ⊥
Asks other page (Some (Command.Read c)) = ⊥
Asks other page (Some (Command.Deposit c b)) = ⊥
Asks other page None = Unit {0}

-- ---- what the code makes of a line that it was handed, whatever it says

-- from 2 ^ 32 on a number is none
abbrev pub number_told : Told ℕ → Told ℕ
number_told None = None
number_told (Some n) = capped n

-- the number at a place among those after the first word
abbrev pub number : Line → ℕ → Told ℕ
number l i = number_told (get_or l.numbers i None)

abbrev pub config_told : Told ℕ → Told ℕ → Told ℕ → Told ℕ → Told ℕ → Told Command
config_told None n k t f = None
config_told (Some m) None k t f = None
config_told (Some m) (Some n) None t f = None
config_told (Some m) (Some n) (Some k) None f = None
config_told (Some m) (Some n) (Some k) (Some t) None = None
config_told (Some m) (Some n) (Some k) (Some t) (Some f) = Some (Command.Config m n k t f)

abbrev pub read_told : Told ℕ → Told Command
read_told None = None
read_told (Some c) = Some (Command.Read c)

abbrev pub deposit_told : Told ℕ → Told ℕ → Told Command
deposit_told None n = None
deposit_told (Some c) None = None
deposit_told (Some c) (Some n) = Some (Command.Deposit c n)

abbrev pub config_from : Line → Told Command
config_from l =
    cond (eqb l.words 6) (config_told (number l 0) (number l 1) (number l 2) (number l 3) (number l 4)) None

abbrev pub read_from : Line → Told Command
read_from l = cond (eqb l.words 2) (read_told (number l 0)) None

abbrev pub deposit_from : Line → Told Command
deposit_from l = cond (eqb l.words 3) (deposit_told (number l 0) l.page) None

-- which form it is, by the first word packed
unfoldable pub verb_of : ℕ → Told Verb
verb_of name =
    cond (eqb name (packed (ascii "config"))) (Some Verb.Config)
    (cond (eqb name (packed (ascii "read"))) (Some Verb.Read)
    (cond (eqb name (packed (ascii "deposit"))) (Some Verb.Deposit) None))

abbrev pub asked_by : Told Verb → Line → Told Command
asked_by (Some Verb.Config) l = config_from l
asked_by (Some Verb.Read) l = read_from l
asked_by (Some Verb.Deposit) l = deposit_from l
asked_by None l = None

unfoldable pub asked_of : Line → Told Command
asked_of l = asked_by (verb_of l.name) l

-- with the bytes of a page, which stand at the front of the slice
abbrev pub given : Told Command → List ℕ → Asked
given (Some (Command.Config m n k t f)) page = config m n k t f
given (Some (Command.Read c)) page = read c
given (Some (Command.Deposit c n)) page = deposit c (take n page)
given None page = other
