-- Laws of counting: a sum over rows and entries may be taken row by row or entry by entry.
use mathlib.Core.Path.{◌≡◌, refl, sym, ap, ap₂, ◌∙◌}
use mathlib.Core.Bool.{Bool, true, false, cond}
use mathlib.Core.List.{List, [], ◌∷◌, ◌++◌}
use Prim.Native.Nat.{ℕ, zero, suc, ◌+◌, ◌*◌, ◌<◌}
use native.Mathlib.Nat.{add-zero, zero-add, add-suc, zero-mul}
use native.Mathlib.Numerals.{add-one}
use native.Mathlib.Omega.{arith}
use lib.ListN.{length, get_or}
use lib.Dec.{eqb}
use lib.Seq.{ext_get_or}
use Rattle.coding.specs.Bytes.{tabulate}
use Rattle.coding.proofs.BytesLaws.{tabulate-none, tabulate-more, length-tabulate, get_or-tabulate, stride}
use Rattle.recordings.specs.Planes.{to_samples}
use Rattle.recordings.specs.Permutation.{count}
use Rattle.recordings.proofs.PlaceLaws.{row_of, entry_of}

-- f 0 + f 1 + .. , n of them
unfoldable sum : ℕ → (ℕ → ℕ) → ℕ
sum zero f = 0
sum (suc n) f = sum n f + f n

sum_ext : (n : ℕ) (f g : ℕ → ℕ) → ((i : ℕ) → i < n → f i ≡ g i) → sum n f ≡ sum n g
unfolding sum
sum_ext zero f g h = refl
sum_ext (suc n) f g h = ap₂ (λ (a b : ℕ). a + b) (sum_ext n f g (λ i l. h i (omega arith))) (h n (omega arith))

sum_more : (n m : ℕ) (f : ℕ → ℕ) → sum (n + m) f ≡ sum n f + sum m (λ i. f (n + i))
unfolding sum
sum_more n zero f = ap (λ (x : ℕ). sum x f) (add-zero n) ∙ sym (add-zero (sum n f))
sum_more n (suc m) f = ap (λ (x : ℕ). sum x f) (add-suc n m) ∙ omega (arith, sum_more n m f)

sum_zero : (n : ℕ) → sum n (λ i. 0) ≡ 0
unfolding sum
sum_zero zero = refl
sum_zero (suc n) = omega (arith, sum_zero n)

sum_add : (n : ℕ) (f g : ℕ → ℕ) → sum n f + sum n g ≡ sum n (λ i. f i + g i)
unfolding sum
sum_add zero f g = refl
sum_add (suc n) f g = omega (arith, sum_add n f g)

sum_rows : (n F : ℕ) (f : ℕ → ℕ) → sum (n * F) f ≡ sum n (λ i. sum F (λ l. f (i * F + l)))
unfolding sum
sum_rows zero F f = ap (λ (x : ℕ). sum x f) (zero-mul F)
sum_rows (suc n) F f =
    ap (λ (x : ℕ). sum x f) (rw add-one at (stride n F))
    ∙ sum_more (n * F) F f
    ∙ ap (λ (x : ℕ). x + sum F (λ l. f (n * F + l))) (sum_rows n F f)

sum_swap : (n m : ℕ) (f : ℕ → ℕ → ℕ) → sum n (λ i. sum m (f i)) ≡ sum m (λ j. sum n (λ i. f i j))
unfolding sum
sum_swap zero m f = sym (sum_zero m)
sum_swap (suc n) m f =
    ap (λ (a : ℕ). a + sum m (f n)) (sum_swap n m f) ∙ sum_add m (λ j. sum n (λ i. f i j)) (f n)

-- what is taken entry by entry is what is taken row by row
sum-turned : (w N : ℕ) (f : ℕ → ℕ) → sum (w * N) (λ i. f (to_samples w N i)) ≡ sum (N * w) f
sum-turned w N f =
    sum_rows w N (λ i. f (to_samples w N i))
    ∙ sum_ext w (λ p. sum N (λ s. f (to_samples w N (p * N + s)))) (λ p. sum N (λ s. f (s * w + p)))
    (λ p _. sum_ext N (λ s. f (to_samples w N (p * N + s))) (λ s. f (s * w + p))
    (λ s h. ap₂ (λ (a b : ℕ). f (a * w + b)) (entry_of N p s h) (row_of N p s h)))
    ∙ sum_swap w N (λ p s. f (s * w + p))
    ∙ sym (sum_rows N w f)

-- 1 for the byte b
abbrev hit : ℕ → ℕ → ℕ
hit b a = cond (eqb a b) 1 0

count-append : (b : ℕ) (s t : List ℕ) → count b (s ++ t) ≡ count b s + count b t
unfolding count
count-append b [] t = sym (zero-add (count b t))
count-append b (a ∷ s) t = go (count-append b s t) (eqb a b)
  where
    go : count b (s ++ t) ≡ count b s + count b t → (x : Bool)
        → cond x (suc (count b (s ++ t))) (count b (s ++ t)) ≡ cond x (suc (count b s)) (count b s) + count b t
    go e true = omega arith
    go e false = e

count_one : (b a : ℕ) → count b (a ∷ []) ≡ hit b a
unfolding count
count_one b a = refl

count-tabulate : (b n : ℕ) (f : ℕ → ℕ) → count b (tabulate n f) ≡ sum n (λ i. hit b (f i))
unfolding sum count
count-tabulate b zero f = ap (count b) (tabulate-none f)
count-tabulate b (suc n) f =
    ap (count b) (tabulate-more n f)
    ∙ count-append b (tabulate n f) (f n ∷ [])
    ∙ ap₂ (λ (x y : ℕ). x + y) (count-tabulate b n f) (count_one b (f n))

-- a list is what it shows at its places
tabulate_own : (d : List ℕ) → d ≡ tabulate (length d) (λ i. get_or d i 0)
tabulate_own d =
    ext_get_or 0 d (tabulate (length d) (λ i. get_or d i 0)) (sym (length-tabulate (length d) (λ i. get_or d i 0)))
    (λ i h. sym (get_or-tabulate (length d) (λ i. get_or d i 0) i 0 h))

pub count-turned : (b w N : ℕ) (d : List ℕ) → length d ≡ N * w → length d ≡ w * N
    → count b (tabulate (length d) (λ i. get_or d (to_samples w N i) 0)) ≡ count b d
count-turned b w N d e e' =
    count-tabulate b (length d) (λ i. get_or d (to_samples w N i) 0)
    ∙ ap (λ (L : ℕ). sum L (λ i. hit b (get_or d (to_samples w N i) 0))) e'
    ∙ sum-turned w N (λ q. hit b (get_or d q 0))
    ∙ ap (λ (L : ℕ). sum L (λ q. hit b (get_or d q 0))) (sym e)
    ∙ sym (count-tabulate b (length d) (λ i. get_or d i 0))
    ∙ ap (count b) (sym (tabulate_own d))
