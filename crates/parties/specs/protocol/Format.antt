-- Formats: what is read from the front of some bytes, and what is written.
use Rattle.std.specs.Prelude.{Bool, true, false, cond, List, [], ◌∷◌, ◌++◌, ℕ, zero, suc, ◌+◌, ◌-◌, ◌*◌, ◌/◌, ◌%◌, leb, eqb, length, take, drop, replicate}
use Rattle.std.proofs.Math.Option.{Option, some, none}
use Rattle.coding.specs.Nodes.{all}

-- a value read, and the bytes after it
pub record Read (A : Type 0) : Type 0 where
  pub value : A
  pub rest : List ℕ

abbrev pub Reader : Type 0 → Type 0
Reader A = List ℕ → Option (Read A)

-- what follows a reading that succeeded
abbrev pub bind : {A B : Type 0} → Option (Read A) → (A → Reader B) → Option (Read B)
bind none f = none
bind (some r) f = f r.value r.rest

-- a value is read only if it passes the test
abbrev pub check : {A : Type 0} → Bool → A → Reader A
check true a s = some (record { value = a; rest = s })
check false a s = none

-- two values, one after the other; the second may go by the first
abbrev pub both : {A B C : Type 0} → Reader A → (A → Reader B) → (A → B → C) → Reader C
both ra rb make s = bind (ra s) (λ a t. bind (rb a t) (λ b u. some (record { value = make a b; rest = u })))

-- a value of another type
abbrev pub mapped : {A B : Type 0} → (A → B) → Reader A → Reader B
mapped f r s = bind (r s) (λ a t. some (record { value = f a; rest = t }))

abbrev pub read_nothing : Reader (Unit {0})
read_nothing s = some (record { value = tt; rest = s })

abbrev pub read_none : {A : Type 0} → Reader A
read_none s = none

-- only values that pass a test
abbrev pub given : {A : Type 0} → (A → Bool) → Reader A → Reader A
given test r s = bind (r s) (λ a t. check (test a) a t)

abbrev pub read_byte : Reader ℕ
read_byte [] = none
read_byte (b ∷ s) = some (record { value = b; rest = s })

-- a number of w bytes, high byte first
unfoldable pub read_number : ℕ → Reader ℕ
read_number zero s = some (record { value = 0; rest = s })
read_number (suc w) s = both (read_number w) (λ n. read_byte) (λ n b. n * 256 + b) s

unfoldable pub write_number : ℕ → ℕ → List ℕ
write_number zero n = []
write_number (suc w) n = write_number w (n / 256) ++ (n % 256 ∷ [])

-- n values, one after the other
unfoldable pub read_many : {A : Type 0} → Reader A → ℕ → Reader (List A)
read_many r zero s = some (record { value = []; rest = s })
read_many r (suc n) s = both r (λ a. read_many r n) (λ a l. a ∷ l) s

unfoldable pub write_many : {A : Type 0} → (A → List ℕ) → List A → List ℕ
write_many w [] = []
write_many w (a ∷ l) = w a ++ write_many w l

-- one value for each number of a list
unfoldable pub read_each : {A : Type 0} → (ℕ → Reader A) → List ℕ → Reader (List A)
read_each r [] s = some (record { value = []; rest = s })
read_each r (x ∷ xs) s = both (r x) (λ a. read_each r xs) (λ a l. a ∷ l) s

-- the next n bytes as they are
unfoldable pub read_bytes : ℕ → Reader (List ℕ)
read_bytes n s = cond (leb n (length s)) (some (record { value = take n s; rest = drop n s })) none

-- n zero bytes
unfoldable pub read_zeros : ℕ → Reader (Unit {0})
read_zeros n = mapped (λ z. tt) (given (all (λ b. eqb b 0)) (read_bytes n))

-- a value at the front of an area of n bytes, the spare bytes zero
unfoldable pub read_area : {A : Type 0} → ℕ → Reader A → (A → List ℕ) → Reader A
read_area n r w = given (λ a. leb (length (w a)) n) (both r (λ a. read_zeros (n - length (w a))) (λ a z. a))

unfoldable pub write_area : {A : Type 0} → ℕ → (A → List ℕ) → A → List ℕ
write_area n w a = w a ++ replicate (n - length (w a)) 0

-- what follows a reading of all bytes
abbrev pub chain : {A B : Type 0} → Option A → (A → Option B) → Option B
chain none f = none
chain (some a) f = f a

-- the value of bytes that are read to their end
abbrev pub whole : {A : Type 0} → Reader A → List ℕ → Option A
whole r s = chain (r s) (λ x. cond (eqb (length x.rest) 0) (some x.value) none)

-- a value at the front, and one of all bytes after it
abbrev pub end_with : {A B C : Type 0} → Reader A → (A → List ℕ → Option B) → (A → B → C) → List ℕ → Option C
end_with ra rb make s = chain (ra s) (λ x. chain (rb x.value x.rest) (λ b. some (make x.value b)))
