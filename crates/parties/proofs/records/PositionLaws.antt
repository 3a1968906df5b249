-- Values at positions of some bytes: read one after the other, and in order.
use mathlib.Core.Path.{◌≡◌, refl, sym, ap, ap₂, ◌∙◌}
use mathlib.Core.Bool.{Bool, true, false, cond, ◌&&◌}
use mathlib.Core.List.{List, [], ◌∷◌, ◌++◌, map}
use mathlib.Core.Option.{some, none}
use Prim.Native.Nat.{ℕ, zero, suc, ◌+◌, ◌-◌, ◌*◌, ◌<◌, ◌≤◌}
use native.Mathlib.Nat.{suc-mul, zero-mul}
use native.Mathlib.Omega.{arith}
use lib.ListN.{length, drop}
use Rattle.coding.proofs.BytesLaws.{stride}
use Rattle.coding.proofs.Cases.{and-true}
use Rattle.parties.specs.declared.Version.{Version}
use Rattle.parties.specs.protocol.Format.{Reader, bind, check, given, read_many}
use Rattle.parties.specs.protocol.Version.{below, ascending}
use Rattle.parties.specs.protocol.Version as version
use Rattle.parties.proofs.protocol.formats.VersionLaws.{none_below}
use Rattle.parties.specs.records.Places.{from, every, ordered}

-- one more
pub next_place : (at n z : ℕ) → at + suc n * z ≡ at + z + n * z
next_place at n z = omega (arith, suc-mul n z)

pub one_less : (n z : ℕ) → 0 < n → n * z ≡ z + (n - 1) * z
one_less n z h = let e : n - 1 + 1 ≡ n = omega arith in sym (ap (λ (x : ℕ). x * z) e) ∙ omega (arith, stride (n - 1) z)

module _ {A : Type 0} (f : ℕ → A) (z : ℕ) where
  pub from-length : (at n : ℕ) → length (from f z at n) ≡ n
  unfolding from
  from-length at zero = refl
  from-length at (suc n) = ap suc (from-length (at + z) n)

  -- the first j, and those after them
  pub from-split : (at j n : ℕ) → from f z at (j + n) ≡ from f z at j ++ from f z (at + j * z) n
  unfolding from
  from-split at zero n =
      let e : 0 + n ≡ n = omega arith in
      let p : at ≡ at + 0 * z = omega (arith, zero-mul z) in ap (from f z at) e ∙ ap (λ (a : ℕ). from f z a n) p
  from-split at (suc j) n =
      let e : suc j + n ≡ suc (j + n) = omega arith in
      ap (from f z at) e
      ∙ ap (λ (l : List A). f at ∷ l)
      (from-split (at + z) j n ∙ ap (λ (a : ℕ). from f z (at + z) j ++ from f z a n) (sym (next_place at j z)))

  pub from_first : (at n : ℕ) → 0 < n → from f z at n ≡ f at ∷ from f z (at + z) (n - 1)
  unfolding from
  from_first at n h = let e : n ≡ suc (n - 1) = omega arith in ap (from f z at) e

  pub from-none : (at n : ℕ) → n ≤ 0 → from f z at n ≡ []
  unfolding from
  from-none at n h = let e : n ≡ 0 = omega arith in ap (from f z at) e

-- a test that holds at each holds at one, and after the first
pub every_at : (test : ℕ → Bool) (z at n : ℕ) → every test z at n ≡ true → (j : ℕ) → j < n → test (at + j * z) ≡ true
unfolding every
every_at test z at zero e j h = absurd (omega arith)
every_at test z at (suc n) e zero h =
    let k : at + 0 * z ≡ at = omega (arith, zero-mul z) in rw k (and-true (test at) (every test z (at + z) n) e).0
every_at test z at (suc n) e (suc j) h =
    rw (next_place at j z) (every_at test z (at + z) n (and-true (test at) (every test z (at + z) n) e).1 j (omega arith))

pub every_first : (test : ℕ → Bool) (z at n : ℕ) → 0 < n → every test z at n ≡ true → (test at ≡ true) × (every test z (at + z) (n - 1) ≡ true)
unfolding every
every_first test z at n h e = let k : n ≡ suc (n - 1) = omega arith in and-true (test at) (every test z (at + z) (n - 1)) (sym (ap (every test z at) k) ∙ e)

pub from-map : {A B : Type 0} (g : A → B) (f : ℕ → A) (z at n : ℕ) → map g (from f z at n) ≡ from (λ p. g (f p)) z at n
unfolding from
from-map g f z at zero = refl
from-map g f z at (suc n) = ap (λ (l : List _). g (f at) ∷ l) (from-map g f z (at + z) n)

-- a reader of one value, used n times
module _ {A : Type 0} (r : Reader A) (t : List ℕ) (z : ℕ) (test : ℕ → Bool) (f : ℕ → A)
    (one : (at : ℕ) → at + z ≤ length t → r (drop at t) ≡ cond (test at) (some (record { value = f at; rest = drop (at + z) t })) none) where
  pub many_read : (at n : ℕ) → at + n * z ≤ length t
      → read_many r n (drop at t) ≡ cond (every test z at n) (some (record { value = from f z at n; rest = drop (at + n * z) t })) none
  unfolding read_many every from
  many_read at zero h =
      let e : at ≡ at + 0 * z = omega (arith, zero-mul z) in ap (λ (k : ℕ). some (record { value = []; rest = drop k t })) e
  many_read at (suc n) h =
      let e : at + suc n * z ≡ at + z + n * z = next_place at n z in
      rw (one at (omega arith)) (first e (many_read (at + z) n (omega arith)) (test at))
    where
      more : at + suc n * z ≡ at + z + n * z → (b : Bool)
          → bind (cond b (some (record { value = from f z (at + z) n; rest = drop (at + z + n * z) t })) none) (λ l u. some (record { value = f at ∷ l; rest = u }))
          ≡ cond b (some (record { value = f at ∷ from f z (at + z) n; rest = drop (at + suc n * z) t })) none
      more e false = refl
      more e true = ap (λ (k : ℕ). some (record { value = f at ∷ from f z (at + z) n; rest = drop k t })) (sym e)

      first : at + suc n * z ≡ at + z + n * z
          → read_many r n (drop (at + z) t) ≡ cond (every test z (at + z) n) (some (record { value = from f z (at + z) n; rest = drop (at + z + n * z) t })) none
          → (b : Bool)
          → bind (cond b (some (record { value = f at; rest = drop (at + z) t })) none)
          (λ a u. bind (read_many r n u) (λ l v. some (record { value = a ∷ l; rest = v })))
          ≡ cond (b && every test z (at + z) n) (some (record { value = f at ∷ from f z (at + z) n; rest = drop (at + suc n * z) t })) none
      first e ih false = refl
      first e ih true = rw ih (more e (every test z (at + z) n))

  -- and their order
  pub given-read : (order : List A → Bool) (at n : ℕ) → at + n * z ≤ length t → (b : Bool) → b ≡ (every test z at n && order (from f z at n))
      → given order (read_many r n) (drop at t) ≡ cond b (some (record { value = from f z at n; rest = drop (at + n * z) t })) none
  given-read order at n h b e = rw (many_read at n h, e) (go (every test z at n))
    where
      last : (b : Bool) → check b (from f z at n) (drop (at + n * z) t) ≡ cond b (some (record { value = from f z at n; rest = drop (at + n * z) t })) none
      last false = refl
      last true = refl

      go : (b : Bool) → bind (cond b (some (record { value = from f z at n; rest = drop (at + n * z) t })) none) (λ a u. check (order a) a u)
          ≡ cond (b && order (from f z at n)) (some (record { value = from f z at n; rest = drop (at + n * z) t })) none
      go false = refl
      go true = last (order (from f z at n))

-- form and order in one pass
and_swap : (a b c d : Bool) → (a && (b && (c && d))) ≡ ((a && c) && (b && d))
and_swap false b c d = refl
and_swap true true c d = refl
and_swap true false true d = refl
and_swap true false false d = refl

module _ (test : ℕ → Bool) (v : ℕ → Version) (z : ℕ) where
  ordered-passes : (p : Version) (at n : ℕ) → ordered test v z p at n ≡ (every test z at n && ascending (p ∷ from v z at n))
  unfolding ordered every from ascending
  ordered-passes p at zero = refl
  ordered-passes p at (suc n) =
      rw (ordered-passes (v at) (at + z) n) (and_swap (test at) (below p (v at)) (every test z (at + z) n) (ascending (v at ∷ from v z (at + z) n)))

  -- below the first stands none
  pub ordered-all : ((at : ℕ) → test at ≡ true → 1 ≤ (v at).sequence.0) → (at n : ℕ)
      → ordered test v z version.no_version at n ≡ (every test z at n && ascending (from v z at n))
  unfolding every from ascending
  ordered-all h at zero = ordered-passes version.no_version at zero
  ordered-all h at (suc n) = ordered-passes version.no_version at (suc n) ∙ go (test at) refl
    where
      rest : Bool
      rest = every test z (at + z) n

      order : Bool
      order = ascending (v at ∷ from v z (at + z) n)

      go : (b : Bool) → test at ≡ b → ((b && rest) && (below version.no_version (v at) && order)) ≡ ((b && rest) && order)
      go false e = refl
      go true e = ap (λ (b : Bool). rest && (b && order)) (none_below (v at) (h at e))

  -- the ways on and out at a position
  module _ (p : Version) (at n : ℕ) where
    pub ordered_end : n ≤ 0 → ordered test v z p at n ≡ true
    unfolding ordered
    ordered_end h = let e : n ≡ 0 = omega arith in rw e refl

    ordered-first : 0 < n → ordered test v z p at n ≡ (test at && (below p (v at) && ordered test v z (v at) (at + z) (n - 1)))
    unfolding ordered
    ordered-first h = let e : n ≡ suc (n - 1) = omega arith in ap (ordered test v z p at) e

    pub ordered-broken : 0 < n → test at ≡ false → ordered test v z p at n ≡ false
    ordered-broken h e = ordered-first h ∙ simp e

    module _ (w : Version) (e : w ≡ v at) (h : 0 < n) (a : test at ≡ true) where
      pub ordered_not : below p w ≡ false → ordered test v z p at n ≡ false
      ordered_not b = ordered-first h ∙ rw (← e) (simp (a, b))

      pub ordered-next : below p w ≡ true → ordered test v z p at n ≡ ordered test v z w (at + z) (n - 1)
      ordered-next b = ordered-first h ∙ rw (← e) (simp (a, b))

  -- a turn of a loop over n positions from `first` on, of which i are passed
  pub ordered_turn : (first n : ℕ) (p : Version) (i : ℕ) → i < n → (w : Version) → w ≡ v (first + i * z) → test (first + i * z) ≡ true → below p w ≡ true
      → ordered test v z p (first + i * z) (n - i) ≡ ordered test v z w (first + (i + 1) * z) (n - (i + 1))
  ordered_turn first n p i h w e a b =
      let x : first + i * z + z ≡ first + (i + 1) * z = omega (arith, stride i z) in
      let y : n - i - 1 ≡ n - (i + 1) = omega arith in
      ordered-next p (first + i * z) (n - i) w e (omega arith) a b ∙ ap₂ (ordered test v z w) x y
