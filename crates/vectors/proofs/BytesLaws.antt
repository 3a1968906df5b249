-- Laws of bytes to work on, and of their sums.
use Rattle.std.proofs.Common.{◌≡◌, refl, sym, ap, ◌∙◌, List, [], ◌∷◌, ◌++◌, ℕ, ◌+◌, ◌<◌, ◌≤◌, add-one, length, get_or, take, drop, set, drop_of_length-le, take-suc-set, drop-cons}
use Rattle.std.proofs.lemmas.List.{take_more}
use Rattle.vectors.specs.Bytes.{poison_at, poison_of, summed, checksum_from, hex_pair, hex_of}

pub poison_none : (s : List ℕ) → take 0 s ≡ poison_of 0
unfolding poison_of
poison_none s = refl

pub poison_more : (s : List ℕ) (i : ℕ) → i < length s → take i s ≡ poison_of i → take (i + 1) (set s i (poison_at i)) ≡ poison_of (i + 1)
unfolding poison_of
poison_more s i h e =
    rw (add-one i) (take-suc-set s i (poison_at i) h ∙ ap (λ (l : List ℕ). l ++ (poison_at i ∷ [])) e)

pub sum_more : (s : List ℕ) (i h b : ℕ) → i < length s → b ≡ get_or s i 0 → checksum_from (summed h b) (drop (i + 1) s) ≡ checksum_from h (drop i s)
unfolding checksum_from
sum_more s i h b l e =
    rw (add-one i, e) (sym (ap (checksum_from h) (drop-cons s i 0 l)))

pub sum_all : (s : List ℕ) (i h : ℕ) → length s ≤ i → checksum_from h (drop i s) ≡ h
unfolding checksum_from
sum_all s i h l = ap (checksum_from h) (drop_of_length-le s l)

hex_append : (a b : List ℕ) → hex_of (a ++ b) ≡ hex_of a ++ hex_of b
unfolding hex_of
hex_append [] b = refl
hex_append (x ∷ a) b = ap (λ (l : List ℕ). hex_pair x ++ l) (hex_append a b)

-- one byte more is printed
pub hex_more : (s : List ℕ) (i : ℕ) → i < length s → hex_of (take (i + 1) s) ≡ hex_of (take i s) ++ hex_pair (get_or s i 0)
unfolding hex_of
hex_more s i h = ap hex_of (take_more s i 0 h) ∙ hex_append (take i s) (get_or s i 0 ∷ [])
