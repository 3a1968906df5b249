-- Versions and pointers as bytes: written and read back, and their lengths.
use mathlib.Core.Path.{◌≡◌, refl, sym, ap, ◌∙◌}
use mathlib.Core.Bool.{Bool, true, false, ◌&&◌, ◌||◌, true≢false}
use mathlib.Core.List.{◌++◌}
use Prim.Native.Nat.{ℕ, zero, suc, ◌+◌, ◌*◌, ◌/◌, ◌^◌, ◌<◌}
use native.Mathlib.Omega.{arith}
use borrow.Author.Tests.{lt-leb, ne_eqb, eqb-true}
use lib.Dec.{leb, ltb, eqb}
use lib.ListN.{length, length-append}
use Rattle.coding.specs.Bytes.{Bytes}
use Rattle.coding.proofs.Cases.{and-true}
use Rattle.parties.specs.declared.Measures.{Measures}
use Rattle.parties.specs.declared.Version.{Version}
use Rattle.parties.specs.protocol.Format.{read_number, write_number, read_many, write_many, read_bytes}
use Rattle.parties.specs.protocol.Measures.{pointer_size}
use Rattle.parties.specs.protocol.Nodes.{nodes_in, count}
use Rattle.parties.specs.protocol.Pointer.{read_version, write_version, Named, Pointer, is_none, proper_pointer, read_named, write_named, read_pointer, write_pointer}
use Rattle.parties.proofs.protocol.formats.FormatLaws.{Format, format_then, format_check, format_number, format_many, format_bytes, Each, length-same}

-- a sequence fits 4 bytes, a client 1
abbrev pub GoodVersion : Version → Type 0
GoodVersion v = (v.sequence.0 < 256 ^ 4) × (v.client < 256 ^ 1)

pub format_version : Format Version read_version write_version GoodVersion
unfolding read_version write_version
format_version =
    format_then (read_number 4) (write_number 4) (λ q. q < 256 ^ 4) (λ q. read_number 1) (λ q. write_number 1) (λ q c. c < 256 ^ 1)
    (λ q c. record { sequence = record { 0 = q }; client = c }) (λ v. v.sequence.0) (λ v. v.client)
    (λ v. refl) (λ q c g h. refl) (λ q c. refl) (format_number 4) (λ q. format_number 1)

-- as many digests as nodes, each of 32 bytes
abbrev pub GoodNamed : Named → Type 0
GoodNamed x = (x.nodes < 256 ^ 2) × (Each (λ d. Bytes d × (length d ≡ 32)) x.digests × (length x.digests ≡ length (nodes_in x.nodes)))

pub format_named : Format Named read_named write_named GoodNamed
unfolding read_named write_named
format_named =
    format_then (read_number 2) (write_number 2) (λ m. m < 256 ^ 2) (λ m. read_many (read_bytes 32) (length (nodes_in m))) (λ m. write_many (λ d. d))
    (λ m ds. Each (λ d. Bytes d × (length d ≡ 32)) ds × (length ds ≡ length (nodes_in m)))
    (λ m ds. record { nodes = m; digests = ds }) (λ x. x.nodes) (λ x. x.digests)
    (λ x. refl) (λ m ds g h. refl) (λ m ds. refl) (format_number 2)
    (λ m. format_many (read_bytes 32) (λ d. d) (λ d. Bytes d × (length d ≡ 32)) (format_bytes 32) (length (nodes_in m)))

abbrev pub GoodPointer : Measures → Pointer → Type 0
GoodPointer s p = (GoodVersion p.version × GoodNamed p.named) × (proper_pointer s p ≡ true)

pub format_pointer : (s : Measures) → Format Pointer (read_pointer s) write_pointer (GoodPointer s)
unfolding read_pointer write_pointer
format_pointer s =
    format_check _ write_pointer (λ p. GoodVersion p.version × GoodNamed p.named) (proper_pointer s)
    (format_then read_version write_version GoodVersion (λ v. read_named) (λ v. write_named) (λ v. GoodNamed)
    (λ v x. record { version = v; named = x }) (λ p. p.version) (λ p. p.named)
    (λ p. refl) (λ v x g h. refl) (λ v x. refl) format_version (λ v. format_named))

-- lengths

pub length-number : (w n : ℕ) → length (write_number w n) ≡ w
unfolding write_number
length-number zero n = refl
length-number (suc w) n = length-append (write_number w (n / 256)) _ ∙ omega (arith, length-number w (n / 256))

pub length-version : (v : Version) → length (write_version v) ≡ 5
unfolding write_version
length-version v =
    length-append (write_number 4 v.sequence.0) (write_number 1 v.client) ∙ omega (arith, length-number 4 v.sequence.0, length-number 1 v.client)

pub length-pointer : (p : Pointer) → length (write_pointer p) ≡ 7 + length (write_many (λ d. d) p.named.digests)
unfolding write_pointer write_named
length-pointer p =
    let x = write_version p.version in
    let y = write_number 2 p.named.nodes in
    let z = write_many (λ d. d) p.named.digests in
    length-append x (y ++ z) ∙ omega (arith, length-append y z, length-version p.version, length-number 2 p.named.nodes)

-- ---- only none has sequence 0

pub some_pointer : (p : Pointer) → (p.version.sequence.0 ≡ 0 → ⊥) → is_none p ≡ false
some_pointer p n =
    ap (λ (b : Bool). b && (eqb p.version.client 255 && eqb p.named.nodes 0)) (ne_eqb p.version.sequence.0 0 n)

module _ (s : Measures) (p : Pointer) (g : GoodPointer s p) where
  pub pointer-length : length (write_pointer p) ≡ 7 + 32 * count p.named.nodes
  pointer-length =
      length-pointer p
      ∙ omega (arith, length-same (λ d. d) (λ d. Bytes d × (length d ≡ 32)) 32 (λ d h. h.1) p.named.digests g.0.1.1.0, g.0.1.1.1)

  abbrev others : Bool
  others = ltb p.version.client s.m && (eqb (count p.named.nodes) (s.t + s.k) && ltb p.named.nodes (2 ^ s.n))

  pub none-pointer : p.version.sequence.0 ≡ 0 → is_none p ≡ true
  unfolding proper_pointer
  none-pointer e = go (is_none p) (leb 1 p.version.sequence.0) others (lt-leb 1 p.version.sequence.0 (omega arith)) g.1
    where
      go : (a b r : Bool) → b ≡ false → (a || (b && r)) ≡ true → a ≡ true
      go true b r f h = refl
      go false true r f h = absurd (true≢false f)
      go false false r f h = h

  -- t + k nodes stored what any other pointer names
  pub some_count : is_none p ≡ false → count p.named.nodes ≡ s.t + s.k
  unfolding proper_pointer
  some_count n =
      let a = and-true (leb 1 p.version.sequence.0) others (ap (λ (b : Bool). b || (leb 1 p.version.sequence.0 && others)) (sym n) ∙ g.1) in
      let c = and-true (ltb p.version.client s.m) _ a.1 in
      eqb-true (count p.named.nodes) (s.t + s.k) (and-true (eqb (count p.named.nodes) (s.t + s.k)) _ c.1).0

  pub some_length : is_none p ≡ false → length (write_pointer p) ≡ pointer_size s
  some_length n = pointer-length ∙ ap (λ (k : ℕ). 7 + 32 * k) (some_count n)
