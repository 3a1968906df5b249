-- Lengths by value, and an area lent to a piece and put back.
use mathlib.Core.Path.{◌≡◌, sym, ap, ◌∙◌}
use mathlib.Core.List.{List, ◌++◌, append_assoc}
use Prim.Native.Nat.{ℕ, ◌+◌, ◌-◌, ◌≤◌}
use native.Mathlib.Omega.{arith}
use lib.ListN.{length, take, drop, set, take-append-drop}
use lib.Seq.{paste, take_at, take-add, take-set-lt, drop-paste, length-take-le}
use Rattle.coding.specs.Bytes.{tabulate}
use Rattle.coding.proofs.BytesLaws.{Lanes}

-- the lengths, and another for one of them
pub lengths-done : (g : ℕ → ℕ) (v : List ℕ) (j n i len : ℕ) → Lanes g v j → j ≤ n → n ≤ j → 1 ≤ i → i ≤ n
    → take n (set v (i - 1) len) ≡ set (tabulate n g) (i - 1) len
lengths-done g v j n i len x a b lo up =
    let e : j ≡ n = omega arith in
    take-set-lt n v (i - 1) len (omega arith) ∙ ap (λ (l : List ℕ). set l (i - 1) len) (rw e at x.done)

-- what was written over is put back
pub put_back : (t : List ℕ) (at : ℕ) (w v : List ℕ) (n : ℕ) → at + n ≤ length t → length w ≡ n → take n v ≡ take n (drop at t)
    → paste (paste t at w n) at (drop 0 v) n ≡ t
put_back t at w v n h k e =
    let a : take at (paste t at w n) ≡ take at t =
    ap (take at) (append_assoc (take at t) (take n w) (drop (at + n) t))
    ∙ take_at (take at t) (take n w ++ drop (at + n) t) at (length-take-le at t (omega arith))
    in
    (λ i. (a i ++ e i) ++ drop-paste t at w n (omega arith) (omega arith) i)
    ∙ ap (λ (l : List ℕ). l ++ drop (at + n) t) (sym (take-add at n t)) ∙ take-append-drop (at + n) t
