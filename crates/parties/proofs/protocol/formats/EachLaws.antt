-- What holds of each entry of a list: of lists made, changed, and read by place.
use mathlib.Core.Path.{sym, subst}
use mathlib.Core.Bool.{Bool, cond}
use mathlib.Core.List.{List, [], ◌∷◌, ◌++◌, map}
use Prim.Native.Nat.{ℕ, zero, suc, ◌<◌}
use native.Mathlib.Omega.{arith}
use lib.ListN.{length, get_or, set, replicate, length-map, get_or-map}
use Rattle.coding.specs.Bytes.{tabulate}
use Rattle.coding.proofs.BytesLaws.{length-tabulate, get_or-tabulate}
use Rattle.parties.proofs.protocol.model.Cells.{chosen}
use Rattle.parties.proofs.protocol.formats.FormatLaws.{Each}

-- ---- by the entries

-- what holds of all
pub each_all : {A : Type 0} (g : A → Type 0) → ((a : A) → g a) → (l : List A) → Each g l
each_all g h [] = tt
each_all g h (a ∷ l) = (h a, each_all g h l)

pub each_as : {A : Type 0} (g h : A → Type 0) → ((a : A) → g a → h a) → (l : List A) → Each g l → Each h l
each_as g h f [] e = tt
each_as g h f (a ∷ l) e = (f a e.0, each_as g h f l e.1)

pub each_with : {A : Type 0} (g h k : A → Type 0) → ((a : A) → g a → h a → k a) → (l : List A) → Each g l → Each h l → Each k l
each_with g h k f [] a b = tt
each_with g h k f (x ∷ l) a b = (f x a.0 b.0, each_with g h k f l a.1 b.1)

pub each_append : {A : Type 0} (g : A → Type 0) (l m : List A) → Each g l → Each g m → Each g (l ++ m)
each_append g [] m a b = b
each_append g (x ∷ l) m a b = (a.0, each_append g l m a.1 b)

pub each_set : {A : Type 0} (g : A → Type 0) (l : List A) (j : ℕ) (a : A) → g a → Each g l → Each g (set l j a)
each_set g [] j a h e = tt
each_set g (x ∷ l) zero a h e = (h, e.1)
each_set g (x ∷ l) (suc j) a h e = (e.0, each_set g l j a h e.1)

pub each-replicate : {A : Type 0} (g : A → Type 0) (n : ℕ) (a : A) → g a → Each g (replicate n a)
each-replicate g zero a h = tt
each-replicate g (suc n) a h = (h, each-replicate g n a h)

-- ---- by their places

pub each_from : {A : Type 0} (g : A → Type 0) (d : A) (l : List A) → ((i : ℕ) → i < length l → g (get_or l i d)) → Each g l
each_from g d [] h = tt
each_from g d (a ∷ l) h = (h 0 (omega arith), each_from g d l (λ i b. h (suc i) (omega arith)))

pub each_at : {A : Type 0} (g : A → Type 0) (d : A) (l : List A) → Each g l → (i : ℕ) → i < length l → g (get_or l i d)
each_at g d [] e i h = absurd (omega arith)
each_at g d (a ∷ l) e zero h = e.0
each_at g d (a ∷ l) e (suc i) h = each_at g d l e.1 i (omega arith)

-- also where there is no entry
pub each_else : {A : Type 0} (g : A → Type 0) (d : A) (l : List A) → g d → Each g l → (i : ℕ) → g (get_or l i d)
each_else g d [] h e i = h
each_else g d (a ∷ l) h e zero = e.0
each_else g d (a ∷ l) h e (suc i) = each_else g d l h e.1 i

pub each_map : {A B : Type 0} (g : B → Type 0) (f : A → B) (d : A) (l : List A) → ((i : ℕ) → i < length l → g (f (get_or l i d))) → Each g (map f l)
each_map g f d l h =
    each_from g (f d) (map f l) (λ i b. subst g (sym (get_or-map f l i d)) (h i (rw (length-map l f) at b)))

pub each-tabulate : {A : Type 0} (g : A → Type 0) (n : ℕ) (f : ℕ → A) → ((i : ℕ) → i < n → g (f i)) → Each g (tabulate n f)
each-tabulate g n f h =
    each_from g (f 0) (tabulate n f) (λ i b.
    let l : i < n = rw (length-tabulate n f) at b in subst g (sym (get_or-tabulate n f i (f 0) l)) (h i l))

pub tabulate-each : {A : Type 0} (g : A → Type 0) (n : ℕ) (f : ℕ → A) → Each g (tabulate n f) → (i : ℕ) → i < n → g (f i)
tabulate-each g n f e i l =
    subst g (get_or-tabulate n f i (f i) l) (each_at g (f i) (tabulate n f) e i (rw (length-tabulate n f) l))

-- another value stands at the places of a test
pub each_chosen : {A : Type 0} (g : A → Type 0) (n : ℕ) (b : ℕ → Bool) (x : A) (f : ℕ → A) → g x → Each g (tabulate n f)
    → Each g (tabulate n (λ i. cond (b i) x (f i)))
each_chosen g n b x f h e = each-tabulate g n (λ i. cond (b i) x (f i)) (λ i l. chosen g (b i) x (f i) h (tabulate-each g n f e i l))
