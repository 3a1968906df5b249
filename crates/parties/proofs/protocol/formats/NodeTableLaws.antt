-- A node table as bytes: written and read back.
use mathlib.Core.Path.{◌≡◌, refl, ap, ◌∙◌}
use mathlib.Core.Bool.{true}
use mathlib.Core.List.{List, ◌++◌}
use Prim.Native.Nat.{ℕ, ◌+◌, ◌-◌, ◌*◌, ◌^◌, ◌<◌, ◌≤◌}
use native.Mathlib.Nat.{add-mul}
use native.Mathlib.Omega.{arith}
use borrow.Author.Tests.{leb-true}
use lib.Dec.{leb}
use lib.ListN.{length, replicate, length-append, length-replicate}
use Rattle.coding.specs.Bytes.{Bytes}
use Rattle.parties.specs.declared.Measures.{Measures}
use Rattle.parties.specs.protocol.Format.{both, given, read_number, write_number, read_bytes, read_many, write_many, read_zeros, read_area, write_area}
use Rattle.parties.specs.protocol.Measures.{places, place_size}
use Rattle.parties.specs.protocol.Pointer.{read_version, write_version}
use Rattle.parties.specs.protocol.NodeTable.{Held, proper_held, read_piece, write_piece, read_held, write_held, in_order}
use Rattle.parties.specs.protocol.NodeTable.{read_places, write_places, read_table, write_table}
use Rattle.parties.proofs.protocol.formats.FormatLaws.{Format, format_then, format_check, format_number, format_many, format_bytes}
use Rattle.parties.proofs.protocol.formats.FormatLaws.{format_zeros, format_area, Each, length_area, length-same}
use Rattle.parties.proofs.protocol.formats.PointerLaws.{GoodVersion, format_version, length-number}

abbrev pub GoodPiece : List ℕ → Type 0
GoodPiece p = (length p < 256 ^ 2) × (Bytes p × (length p ≡ length p))

pub format_piece : Format (List ℕ) read_piece write_piece GoodPiece
unfolding read_piece write_piece
format_piece =
    format_then (read_number 2) (write_number 2) (λ n. n < 256 ^ 2) (λ n. read_bytes n) (λ n p. p) (λ n p. Bytes p × (length p ≡ n))
    (λ n p. p) length (λ p. p) (λ p. refl) (λ n p g h. h.1) (λ n p. refl) (format_number 2) (λ n. format_bytes n)

abbrev pub GoodHeld : Measures → Held → Type 0
GoodHeld s h = (GoodVersion h.version × GoodPiece h.piece) × (proper_held s h ≡ true)

pub format_held : (s : Measures) → Format Held (read_held s) write_held (GoodHeld s)
unfolding read_held write_held
format_held s =
    format_check _ write_held (λ h. GoodVersion h.version × GoodPiece h.piece) (proper_held s)
    (format_then read_version write_version GoodVersion (λ v. read_piece) (λ v. write_piece) (λ v. GoodPiece)
    (λ v p. record { version = v; piece = p }) (λ h. h.version) (λ h. h.piece)
    (λ h. refl) (λ v p g h. refl) (λ v p. refl) format_version (λ v. format_piece))

-- a piece in its place
abbrev pub FitsPlace : Measures → Held → Type 0
FitsPlace s h = (GoodHeld s h × Unit {0}) × (leb (length (write_held h)) (place_size s) ≡ true)

abbrev pub GoodPlaces : Measures → ℕ → List Held → Type 0
GoodPlaces s n l = (Each (FitsPlace s) l × (length l ≡ n)) × (in_order l ≡ true)

format_places : (s : Measures) (n : ℕ) → Format (List Held) (read_places s n) (write_places s) (GoodPlaces s n)
unfolding read_places write_places
format_places s n =
    format_check (read_many (read_area (place_size s) (read_held s) write_held) n) (write_places s) (λ l. Each (FitsPlace s) l × (length l ≡ n)) in_order
    (format_many (read_area (place_size s) (read_held s) write_held) (write_area (place_size s) write_held) (FitsPlace s)
    (format_area (place_size s) (read_held s) write_held (GoodHeld s) (format_held s)) n)

abbrev pub GoodTable : Measures → List Held → Type 0
GoodTable s l =
    ((length l < 256 ^ 2) × (leb (length l) (places s) ≡ true)) × (GoodPlaces s (length l) l × Unit {0})

pub format_table : (s : Measures) → Format (List Held) (read_table s) (write_table s) (GoodTable s)
unfolding read_table write_table
format_table s =
    format_then (given (λ n. leb n (places s)) (read_number 2)) (write_number 2) (λ n. (n < 256 ^ 2) × (leb n (places s) ≡ true))
    (λ n. both (read_places s n) (λ l. read_zeros ((places s - n) * place_size s)) (λ l z. l))
    (λ n l. write_places s l ++ replicate ((places s - n) * place_size s) 0)
    (λ n l. GoodPlaces s n l × Unit {0})
    (λ n l. l) length (λ l. l) (λ l. refl) (λ n l g h. h.0.0.1) (λ n l. refl)
    (format_check (read_number 2) (write_number 2) (λ n. n < 256 ^ 2) (λ n. leb n (places s)) (format_number 2))
    (λ n.
    format_then (read_places s n) (write_places s) (GoodPlaces s n) (λ l. read_zeros ((places s - n) * place_size s))
    (λ l u. replicate ((places s - n) * place_size s) 0) (λ l u. Unit {0})
    (λ l z. l) (λ l. l) (λ l. tt) (λ l. refl) (λ l z g h. refl) (λ l z. refl) (format_places s n)
    (λ l. format_zeros ((places s - n) * place_size s)))

-- a node table's bytes are as many as its places tell
pub length-table : (s : Measures) (l : List Held) → GoodTable s l → length (write_table s l) ≡ 2 + places s * place_size s
unfolding write_table write_places
length-table s l g =
    let z = place_size s in
    let w = write_many (write_area z write_held) l in
    let n : length l ≤ places s = leb-true (length l) (places s) g.0.1 in
    let e : places s * z ≡ length l * z + (places s - length l) * z = ap (λ (x : ℕ). x * z) (omega arith) ∙ add-mul (length l) (places s - length l) z in
    omega (
      arith,
      length-append (write_number 2 (length l)) (w ++ replicate ((places s - length l) * z) 0),
      length-number 2 (length l),
      length-append w (replicate ((places s - length l) * z) 0),
      length-same (write_area z write_held) (FitsPlace s) z (λ h f. length_area z write_held h (leb-true (length (write_held h)) z f.1)) l g.1.0.0.0,
      length-replicate {A = ℕ} ((places s - length l) * z) 0,
    )
