-- What a line says, as the code hands it on.
use Rattle.std.specs.Prelude.{◌≡◌, true, List, [], ◌∷◌, ℕ, zero, suc, min, ltb, length, take, Option as Told, Some, None}
use Rattle.std.proofs.Math.Option.{Option, none, some}
use Rattle.lines.specs.declared.read.Line.{Line}
use Rattle.lines.specs.Words.{words, first, later, final, every, number_of, page_of, packed}

-- as the code has it
abbrev pub as_told : {A : Type 0} → Option A → Told A
as_told none = None
as_told (some a) = Some a

-- the numbers of the first words, so many of them; none for each that is missing
unfoldable pub numbers_of : ℕ → List (List ℕ) → List (Told ℕ)
numbers_of zero ws = []
numbers_of (suc n) [] = None ∷ numbers_of n []
numbers_of (suc n) (w ∷ ws) = as_told (number_of w) ∷ numbers_of n ws

-- a page of these bytes stands at the front of the slice, as far as the slice has room: n of them; of what lies behind them this says nothing
pub record Kept (bytes : List ℕ) (n : ℕ) (page : List ℕ) : Type 0 where
  pub size : n ≡ min (length bytes) (length page)
  pub front : take n page ≡ take n bytes

abbrev pub PageIs : Option (List ℕ) → List ℕ → Told ℕ → Type 0
PageIs none page (Some n) = ⊥
PageIs none page None = Unit {0}
PageIs (some bytes) page (Some n) = Kept bytes n page
PageIs (some bytes) page None = ⊥

-- what was read of the bytes p of a line, without the line feed
pub record LineOf (p page : List ℕ) (l : Line) : Type 0 where
  pub count : l.words ≡ min 8 (length (words p))
  pub bytes : every (λ b. ltb b 256) (first (words p)) ≡ true
  pub called : l.name ≡ packed (first (words p))
  pub given : l.numbers ≡ numbers_of 6 (later (words p))
  pub shown : PageIs (page_of (final (words p))) page l.page
