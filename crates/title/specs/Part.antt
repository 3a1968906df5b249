-- Where a part of the memory stands, as the code finds it.
use Rattle.std.specs.Prelude.{◌≡◌, true, false, ℕ, ◌+◌, ◌<◌, ◌≤◌, Result, Ok, Err}
use Rattle.parties.specs.declared.Refusal.{Refusal}
use Rattle.parties.specs.declared.Measures.{Measures}
use Rattle.parties.specs.protocol.Measures.{passes}
use Rattle.parties.specs.records.Answer.{number}
use Rattle.title.specs.Memory.{memory_size}
use Rattle.title.specs.declared.memory.Part.{Part}

-- a memory of so many bytes is refused with this number
pub data Refuses (s : Measures) (len : ℕ) : ℕ → Type 0 where
  measures : passes s ≡ false → Refuses s len 1
  short : passes s ≡ true → len < memory_size s → Refuses s len 2

-- a part of so many bytes stands from a to b, and the memory has it
pub record Stands (s : Measures) (len at size a b : ℕ) : Type 0 where
  pub measures : passes s ≡ true
  pub long : memory_size s ≤ len
  pub first : a ≡ at
  pub last : b ≡ at + size
  pub within : b ≤ len

-- measures that pass, and a memory of so many bytes that has all parts, or why it is refused
abbrev pub Fits : {A : Type 0} → Measures → ℕ → Result A Refusal → Type 0
Fits s len (Ok x) = (passes s ≡ true) × (memory_size s ≤ len)
Fits s len (Err r) = Refuses s len (number r)

abbrev pub Placed : Measures → ℕ → ℕ → ℕ → Result Part Refusal → Type 0
Placed s len at size (Ok part) = Stands s len at size part.start part.end
Placed s len at size (Err r) = Refuses s len (number r)
