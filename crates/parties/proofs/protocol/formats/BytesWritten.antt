-- What is written is bytes.
use mathlib.Core.List.{List, [], ◌∷◌, ◌++◌}
use Prim.Native.Nat.{ℕ, zero, suc, ◌-◌, ◌/◌, ◌%◌}
use native.Mathlib.Omega.{arith}
use lib.ListN.{length, replicate}
use Rattle.coding.specs.Bytes.{Bytes}
use Rattle.coding.proofs.BytesLaws.{zeros_at, bytes_cons}
use Rattle.parties.specs.declared.Measures.{Measures}
use Rattle.parties.specs.protocol.Format.{write_number, write_many, write_area}
use Rattle.parties.specs.protocol.Client.{areas}
use Rattle.parties.proofs.protocol.formats.FormatLaws.{Each}
use Rattle.parties.proofs.protocol.formats.ClientLaws.{ShortPiece}

pub bytes_nil : Bytes []
bytes_nil i = omega arith

pub bytes-append : (p q : List ℕ) → Bytes p → Bytes q → Bytes (p ++ q)
bytes-append [] q a b = b
bytes-append (x ∷ p) q a b = bytes_cons x (p ++ q) (a 0) (bytes-append p q (λ i. a (suc i)) b)

pub bytes-number : (w n : ℕ) → Bytes (write_number w n)
unfolding write_number
bytes-number zero n = bytes_nil
bytes-number (suc w) n = bytes-append (write_number w (n / 256)) (n % 256 ∷ []) (bytes-number w (n / 256)) (bytes_cons (n % 256) [] (omega arith) bytes_nil)

pub bytes_zeros : (n : ℕ) → Bytes (replicate n 0)
bytes_zeros n i = rw (zeros_at n i) (omega arith)

pub bytes-many : {A : Type 0} (w : A → List ℕ) (g : A → Type 0) → ((a : A) → g a → Bytes (w a)) → (l : List A) → Each g l → Bytes (write_many w l)
unfolding write_many
bytes-many w g h [] e = bytes_nil
bytes-many w g h (a ∷ l) e = bytes-append (w a) (write_many w l) (h a e.0) (bytes-many w g h l e.1)

pub bytes_area : {A : Type 0} (n : ℕ) (w : A → List ℕ) (a : A) → Bytes (w a) → Bytes (write_area n w a)
unfolding write_area
bytes_area n w a b = bytes-append (w a) (replicate (n - length (w a)) 0) b (bytes_zeros (n - length (w a)))

-- the areas as joining takes them
pub bytes-areas : (s : Measures) (ps : List (List ℕ)) → Each (ShortPiece s) ps → Bytes (areas s ps)
bytes-areas s = bytes-many (write_area s.f (λ p. p)) (ShortPiece s) (λ p h. bytes_area s.f (λ p. p) p h.0)
