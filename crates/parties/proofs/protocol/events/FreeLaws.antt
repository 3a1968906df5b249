-- Laws of a deposit's end: the free list, and what is frozen.
use mathlib.Core.Path.{◌≡◌, refl, sym, ap, ◌∙◌}
use mathlib.Core.Bool.{Bool, true, false, cond, not, ◌&&◌, ◌||◌, true≢false, and-false, or-true}
use mathlib.Core.Logic.{◌⊎◌, inl, inr}
use mathlib.Core.List.{List, [], ◌∷◌, ◌++◌, map}
use Prim.Native.Nat.{ℕ, zero, suc, ◌+◌, ◌*◌, ◌<◌, ◌≤◌}
use native.Mathlib.Decide.{ℕ_discrete}
use native.Mathlib.Omega.{arith}
use borrow.Author.Tests.{eq-eqb, not-true}
use lib.Dec.{eqb, ltb}
use lib.ListN.{length, get_or}
use Rattle.coding.specs.Bytes.{tabulate}
use Rattle.coding.proofs.Cases.{and-true, chosen_of}
use Rattle.coding.proofs.BytesLaws.{tabulate-none, tabulate-more, get_or-tabulate, tabulate_ext, map-tabulate}
use Rattle.parties.specs.declared.Measures.{Measures}
use Rattle.parties.specs.declared.ReadingIndex.{ReadingIndex}
use Rattle.parties.specs.declared.Version.{Version}
use Rattle.parties.specs.protocol.Version.{below, no_version, ascending}
use Rattle.parties.specs.protocol.Pointer.{Pointer, none_pointer}
use Rattle.parties.specs.protocol.Directory.{Row, no_row}
use Rattle.parties.specs.protocol.NodeTable.{Held}
use Rattle.parties.specs.protocol.Node.{keep, listed}
use Rattle.parties.specs.protocol.Client.{Phase, Client}
use Rattle.parties.specs.protocol.Deposit.{noticed, frozen_after, replaced, insert, still_retained, free_list, freed}
use Rattle.parties.proofs.protocol.model.Cells.{is_false}
use Rattle.parties.proofs.protocol.formats.FormatLaws.{Each}
use Rattle.parties.proofs.protocol.formats.VersionLaws.{neither_below, same_eq, eq_same}
use Rattle.parties.proofs.protocol.events.NodeLaws.{keep-ascending}
use Rattle.parties.proofs.protocol.model.Model.{Rows, Clients, notices, frozen_by, Replaced, Retains, Frees}
use Rattle.parties.proofs.protocol.steps.View.{client_at, row_at, rows_at}

-- ---- versions listed

-- one of two versions is below the other
abbrev apart : Version → Version → Bool
apart u v = below u v || below v u

together : (u v : Version) → apart u v ≡ false → u ≡ v
together u v e = same_eq u v (ap not e)

not_apart : (v : Version) → apart v v ≡ false
not_apart v = not-true (apart v v) (eq_same v v refl)

pub listed_here : (u v : Version) (l : List Version) → v ≡ u → listed u (v ∷ l) ≡ true
unfolding listed
listed_here u v l e = rw e (rw (not_apart u))

pub listed-there : (u v : Version) (l : List Version) → listed u l ≡ true → listed u (v ∷ l) ≡ true
unfolding listed
listed-there u v l e = go (apart u v) refl
  where
    go : (b : Bool) → apart u v ≡ b → cond b (listed u l) true ≡ true
    go true p = e
    go false p = refl

pub listed-split : (u v : Version) (l : List Version) → listed u (v ∷ l) ≡ true → (v ≡ u) ⊎ (listed u l ≡ true)
unfolding listed
listed-split u v l e = go (apart u v) refl e
  where
    go : (b : Bool) → apart u v ≡ b → cond b (listed u l) true ≡ true → (v ≡ u) ⊎ (listed u l ≡ true)
    go true p h = inr h
    go false p h = inl (sym (together u v p))

-- what holds of all versions listed holds of each entry
pub each-listed : (g : Version → Type 0) (l : List Version) → ((v : Version) → listed v l ≡ true → g v) → Each g l
each-listed g [] h = tt
each-listed g (v ∷ l) h = (h v (listed_here v v l refl), each-listed g l (λ u e. h u (listed-there u v l e)))

pub listed-append : (u : Version) (l r : List Version) → listed u (l ++ r) ≡ (listed u l || listed u r)
unfolding listed
listed-append u [] r = refl
listed-append u (v ∷ l) r = go (apart u v) refl (listed-append u l r)
  where
    go : (b : Bool) → apart u v ≡ b → listed u (l ++ r) ≡ (listed u l || listed u r)
        → cond b (listed u (l ++ r)) true ≡ (cond b (listed u l) true || listed u r)
    go true p ih = ih
    go false p ih = refl

-- ---- the free list

-- the versions of a table are inserted into as its pieces are kept
abbrev bare : Version → Held
bare v = record { version = v; piece = [] }

abbrev versions : List Held → List Version
versions l = map (λ h. h.version) l

bare_back : (l : List Version) → versions (map bare l) ≡ l
bare_back [] = refl
bare_back (v ∷ l) = ap (λ (t : List Version). v ∷ t) (bare_back l)

insert-keep : (v : Version) (l : List Version) → insert v l ≡ versions (keep (bare v) (map bare l))
unfolding insert keep
insert-keep v [] = refl
insert-keep v (w ∷ l) = go (below v w) refl (below w v) refl (insert-keep v l)
  where
    go : (a : Bool) → below v w ≡ a → (b : Bool) → below w v ≡ b → insert v l ≡ versions (keep (bare v) (map bare l))
        → insert v (w ∷ l) ≡ versions (keep (bare v) (map bare (w ∷ l)))
    go true p b q ih = rw p (ap (λ (t : List Version). v ∷ w ∷ t) (sym (bare_back l)))
    go false p true q ih = rw (p, q) (ap (λ (t : List Version). w ∷ t) ih)
    go false p false q ih = rw (p, q) (λ i. sym (neither_below v w p q) i ∷ sym (bare_back l) i)

pub insert-ascending : (v : Version) (l : List Version) → ascending l ≡ true → ascending (insert v l) ≡ true
insert-ascending v l e = rw (insert-keep v l) (keep-ascending (bare v) (map bare l) (ap ascending (bare_back l) ∙ e))

pub insert-length : (v : Version) (l : List Version) → length (insert v l) ≤ suc (length l)
unfolding insert
insert-length v [] = omega arith
insert-length v (w ∷ l) = go (below v w) refl (below w v) refl (insert-length v l)
  where
    go : (a : Bool) → below v w ≡ a → (b : Bool) → below w v ≡ b → length (insert v l) ≤ suc (length l) → length (insert v (w ∷ l)) ≤ suc (suc (length l))
    go true p b q ih = rw p (omega arith)
    go false p true q ih = rw (p, q) (omega arith)
    go false p false q ih = rw (p, q) (omega arith)

-- what is listed does not go by the order
swap : (a b x : Bool) → cond a (cond b x true) true ≡ cond b (cond a x true) true
swap true true x = refl
swap true false x = refl
swap false true x = refl
swap false false x = refl

once : (a x : Bool) → cond a x true ≡ cond a (cond a x true) true
once true x = refl
once false x = refl

pub insert-listed : (u v : Version) (l : List Version) → listed u (insert v l) ≡ listed u (v ∷ l)
unfolding insert listed
insert-listed u v [] = refl
insert-listed u v (w ∷ l) = go (below v w) refl (below w v) refl (insert-listed u v l)
  where
    go : (a : Bool) → below v w ≡ a → (b : Bool) → below w v ≡ b → listed u (insert v l) ≡ listed u (v ∷ l)
        → listed u (insert v (w ∷ l)) ≡ listed u (v ∷ w ∷ l)
    go true p b q ih = rw p refl
    go false p true q ih = rw (p, q) (ap (λ (x : Bool). cond (apart u w) x true) ih ∙ swap (apart u w) (apart u v) (listed u l))
    go false p false q ih =
        rw (p, q)
        (once (apart u w) (listed u l) ∙ ap (λ (t : Version). cond (apart u t) (cond (apart u w) (listed u l) true) true) (sym (neither_below v w p q)))

module _ (kept : List Version) where
  pub free-ascending : (l : List Version) → ascending (free_list kept l) ≡ true
  unfolding free_list ascending
  free-ascending [] = refl
  free-ascending (v ∷ l) = go (listed v (no_version ∷ kept)) (free-ascending l)
    where
      go : (b : Bool) → ascending (free_list kept l) ≡ true → ascending (cond b (free_list kept l) (insert v (free_list kept l))) ≡ true
      go true ih = ih
      go false ih = insert-ascending v (free_list kept l) ih

  pub free-length : (l : List Version) → length (free_list kept l) ≤ length l
  unfolding free_list
  free-length [] = omega arith
  free-length (v ∷ l) = go (listed v (no_version ∷ kept)) (free-length l)
    where
      go : (b : Bool) → length (free_list kept l) ≤ length l → length (cond b (free_list kept l) (insert v (free_list kept l))) ≤ suc (length l)
      go true ih = omega arith
      go false ih = omega (arith, insert-length v (free_list kept l))

  pub free-listed : (u : Version) (l : List Version) → listed u (free_list kept l) ≡ (listed u l && not (listed u (no_version ∷ kept)))
  unfolding free_list listed
  free-listed u [] = refl
  free-listed u (v ∷ l) = go (listed v (no_version ∷ kept)) refl (apart u v) refl (free-listed u l)
    where
      own : apart u v ≡ false → listed u (no_version ∷ kept) ≡ listed v (no_version ∷ kept)
      own q = ap (λ (t : Version). listed t (no_version ∷ kept)) (together u v q)

      go : (b : Bool) → listed v (no_version ∷ kept) ≡ b → (c : Bool) → apart u v ≡ c → listed u (free_list kept l) ≡ (listed u l && not (listed u (no_version ∷ kept)))
          → listed u (cond b (free_list kept l) (insert v (free_list kept l))) ≡ (cond c (listed u l) true && not (listed u (no_version ∷ kept)))
      go true p true q ih = ih
      go true p false q ih = ih ∙ rw (own q ∙ p) (and-false (listed u l))
      go false p true q ih = insert-listed u v (free_list kept l) ∙ rw q ih
      go false p false q ih = insert-listed u v (free_list kept l) ∙ rw q (rw (own q ∙ p))

-- the previous version, and two for each client at the most
pub replaced-length : (own : ℕ) (c : Client) (rows : List Row) (n : ℕ) → length (replaced own c rows n) ≤ 2 * n + 1
unfolding replaced
replaced-length own c rows zero = omega arith
replaced-length own c rows (suc q) = go (noticed own c rows q) (replaced-length own c rows q)
  where
    go : (b : Bool) → length (replaced own c rows q) ≤ 2 * q + 1
        → length (cond b ((get_or c.frozen q none_pointer).version ∷ get_or c.reserved q no_version ∷ replaced own c rows q) (replaced own c rows q)) ≤ 2 * suc q + 1
    go true ih = omega arith
    go false ih = omega arith

-- ---- on a model's clients and rows

listed-tabulate : (u : Version) (n : ℕ) (f : ℕ → Version) → listed u (tabulate n f) ≡ true → (q : ℕ) × (q < n) × (f q ≡ u)
unfolding listed
listed-tabulate u zero f e = absurd (true≢false (sym e ∙ ap (listed u) (tabulate-none f)))
listed-tabulate u (suc n) f e =
    go (listed u (tabulate n f)) refl (sym (listed-append u (tabulate n f) (f n ∷ [])) ∙ ap (listed u) (sym (tabulate-more n f)) ∙ e) (listed-tabulate u n f)
  where
    go : (b : Bool) → listed u (tabulate n f) ≡ b → (b || listed u (f n ∷ [])) ≡ true → (listed u (tabulate n f) ≡ true → (q : ℕ) × (q < n) × (f q ≡ u))
        → (q : ℕ) × (q < suc n) × (f q ≡ u)
    go true p h ih = let x = ih p in (x.0, omega (arith, x.1), x.2)
    go false p h ih = last (listed-split u (f n) [] h)
      where
        last : (f n ≡ u) ⊎ (listed u [] ≡ true) → (q : ℕ) × (q < suc n) × (f q ≡ u)
        last (inl x) = (n, omega arith, x)
        last (inr x) = absurd (true≢false (sym x))

pub tabulate-listed : (u : Version) (n : ℕ) (f : ℕ → Version) (q : ℕ) → q < n → f q ≡ u → listed u (tabulate n f) ≡ true
tabulate-listed u zero f q l e = absurd (omega arith)
tabulate-listed u (suc n) f q l e = ap (listed u) (tabulate-more n f) ∙ go (ℕ_discrete q n) (tabulate-listed u n f q)
  where
    go : Dec (q ≡ n) → (q < n → f q ≡ u → listed u (tabulate n f) ≡ true) → listed u (tabulate n f ++ (f n ∷ [])) ≡ true
    go (yes p) ih = listed-append u (tabulate n f) (f n ∷ []) ∙ rw (listed_here u (f n) [] (ap f (sym p) ∙ e)) (or-true (listed u (tabulate n f)))
    go (no p) ih = listed-append u (tabulate n f) (f n ∷ []) ∙ rw (ih (omega arith) e)

module _ (z : Measures) (k : Clients) (a : Rows) (c : ℕ) (x : Pointer) where
  -- what the lists of a record and of rows show for client q
  frozen_at : (q : ℕ) → q < z.m → get_or (client_at z k c).frozen q none_pointer ≡ k.frozen c q
  frozen_at q l = get_or-tabulate z.m (k.frozen c) q none_pointer l

  reserved_at : (q : ℕ) → q < z.m → get_or (client_at z k c).reserved q no_version ≡ k.reserved c q
  reserved_at q l = get_or-tabulate z.m (k.reserved c) q no_version l

  index_at : (q : ℕ) → q < z.m → get_or (client_at z k c).frozen_indices q (record { 0 = 0 }) ≡ record { 0 = k.indices c q }
  index_at q l = get_or-tabulate {A = ReadingIndex} z.m (λ q. record { 0 = k.indices c q }) q (record { 0 = 0 }) l

  reading_at : (q : ℕ) → q < z.m → (get_or (rows_at z a) q no_row).reading_index ≡ record { 0 = a.reading q }
  reading_at q l = ap (λ (r : Row). r.reading_index) (get_or-tabulate z.m (row_at z a) q no_row l)

  noticed_at : (q : ℕ) → q < z.m → noticed c (client_at z k c) (rows_at z a) q ≡ notices k a c q
  unfolding noticed
  noticed_at q l = λ i. not (eqb q c) && ltb (index_at q l i).0 (reading_at q l i).0

  -- the record of a deposit's end
  pub frozen-after : frozen_after z c (client_at z k c) (rows_at z a) x ≡ client_at z (frozen_by k c x a) c
  unfolding frozen_after
  frozen-after =
      rw (eq-eqb c c refl)
      (λ i. record {
        phase = Phase.idle;
        reading_index = record { 0 = k.reading c };
        written = x;
        frozen = tabulate_ext z.m _ _ (λ q l j. cond (noticed_at q l j) x (frozen_at q l j)) i;
        reserved = tabulate_ext z.m _ _ (λ q l j. cond (noticed_at q l j) (k.written c).version (reserved_at q l j)) i;
        frozen_indices =
            tabulate_ext z.m _ _
            (λ q l.
            (λ j. cond (noticed_at q l j) (reading_at q l j) (index_at q l j)) ∙ chosen_of {B = ReadingIndex} (λ n. record { 0 = n }) (notices k a c q) (a.reading q) (k.indices c q)) i;
      })

  -- the versions replaced, of the first n clients
  abbrev gone : ℕ → List Version
  gone n = replaced c (client_at z k c) (rows_at z a) n

  gone_more : (q : ℕ) → q < z.m → gone (suc q) ≡ cond (notices k a c q) ((k.frozen c q).version ∷ k.reserved c q ∷ gone q) (gone q)
  unfolding replaced
  gone_more q l = λ i. cond (noticed_at q l i) ((frozen_at q l i).version ∷ reserved_at q l i ∷ gone q) (gone q)

  gone_from : (u : Version) (n : ℕ) → n ≤ z.m → listed u (gone n) ≡ true → Replaced z k a c u
  unfolding replaced listed
  gone_from u zero l e = go (listed-split u (k.written c).version [] e)
    where
      go : ((k.written c).version ≡ u) ⊎ (listed u [] ≡ true) → Replaced z k a c u
      go (inl h) = Replaced.previous h
      go (inr h) = absurd (true≢false (sym h))
  gone_from u (suc q) l e = go (notices k a c q) refl (sym (ap (listed u) (gone_more q (omega arith))) ∙ e) (gone_from u q (omega arith))
    where
      second : notices k a c q ≡ true → (listed u (gone q) ≡ true → Replaced z k a c u)
          → (k.reserved c q ≡ u) ⊎ (listed u (gone q) ≡ true) → Replaced z k a c u
      second p ih (inl h) = Replaced.unreserved q (omega arith) p h
      second p ih (inr h) = ih h

      first : notices k a c q ≡ true → (listed u (gone q) ≡ true → Replaced z k a c u)
          → ((k.frozen c q).version ≡ u) ⊎ (listed u (k.reserved c q ∷ gone q) ≡ true) → Replaced z k a c u
      first p ih (inl h) = Replaced.thawed q (omega arith) p h
      first p ih (inr h) = second p ih (listed-split u (k.reserved c q) (gone q) h)

      go : (b : Bool) → notices k a c q ≡ b → listed u (cond b ((k.frozen c q).version ∷ k.reserved c q ∷ gone q) (gone q)) ≡ true
          → (listed u (gone q) ≡ true → Replaced z k a c u) → Replaced z k a c u
      go true p h ih = first p ih (listed-split u (k.frozen c q).version (k.reserved c q ∷ gone q) h)
      go false p h ih = ih h

  gone_later : (u : Version) (n q : ℕ) → q ≤ n → n ≤ z.m → listed u (gone q) ≡ true → listed u (gone n) ≡ true
  gone_later u zero q l m e = let f : q ≡ 0 = omega arith in rw f at e
  gone_later u (suc n) q l m e = go (ℕ_discrete q (suc n)) (gone_later u n q)
    where
      stays : (b : Bool) → listed u (gone n) ≡ true → listed u (cond b ((k.frozen c n).version ∷ k.reserved c n ∷ gone n) (gone n)) ≡ true
      stays true h =
          listed-there u (k.frozen c n).version (k.reserved c n ∷ gone n) (listed-there u (k.reserved c n) (gone n) h)
      stays false h = h

      go : Dec (q ≡ suc n) → (q ≤ n → n ≤ z.m → listed u (gone q) ≡ true → listed u (gone n) ≡ true) → listed u (gone (suc n)) ≡ true
      go (yes f) ih = rw f at e
      go (no f) ih = rw (gone_more n (omega arith)) (stays (notices k a c n) (ih (omega arith) (omega arith) e))

  gone_to : (u : Version) → Replaced z k a c u → listed u (gone z.m) ≡ true
  unfolding replaced
  gone_to u (Replaced.previous e) = gone_later u z.m 0 (omega arith) (omega arith) (listed_here u (k.written c).version [] e)
  gone_to u (Replaced.thawed q l p e) =
      gone_later u z.m (suc q) (omega arith) (omega arith)
      (rw (gone_more q l) (rw p (listed_here u (k.frozen c q).version (k.reserved c q ∷ gone q) e)))
  gone_to u (Replaced.unreserved q l p e) =
      gone_later u z.m (suc q) (omega arith) (omega arith)
      (rw (gone_more q l)
      (rw p (listed-there u (k.frozen c q).version (k.reserved c q ∷ gone q) (listed_here u (k.reserved c q) (gone q) e))))

-- the versions that a record freezes or reserves
module _ (z : Measures) (k : Clients) (c : ℕ) where
  retained_as : still_retained (client_at z k c) ≡ tabulate z.m (λ q. (k.frozen c q).version) ++ tabulate z.m (k.reserved c)
  retained_as = ap (λ (l : List Version). l ++ tabulate z.m (k.reserved c)) (map-tabulate (λ (p : Pointer). p.version) z.m (k.frozen c))

  retained-from : (u : Version) → listed u (still_retained (client_at z k c)) ≡ true → Retains z k c u
  retained-from u e = go (listed u f) refl (sym (ap (listed u) retained_as ∙ listed-append u f r) ∙ e)
    where
      f : List Version
      f = tabulate z.m (λ q. (k.frozen c q).version)

      r : List Version
      r = tabulate z.m (k.reserved c)

      go : (b : Bool) → listed u f ≡ b → (b || listed u r) ≡ true → Retains z k c u
      go true p h = let x = listed-tabulate u z.m (λ q. (k.frozen c q).version) p in Retains.frozen x.0 x.1 x.2
      go false p h = let x = listed-tabulate u z.m (k.reserved c) h in Retains.reserved x.0 x.1 x.2

  retained_to : (u : Version) → Retains z k c u → listed u (still_retained (client_at z k c)) ≡ true
  retained_to u (Retains.frozen q l e) =
      rw retained_as
      (rw (listed-append u (tabulate z.m (λ q. (k.frozen c q).version)) (tabulate z.m (k.reserved c)))
      (rw (tabulate-listed u z.m (λ q. (k.frozen c q).version) q l e) refl))
  retained_to u (Retains.reserved q l e) =
      rw retained_as
      (rw (listed-append u (tabulate z.m (λ q. (k.frozen c q).version)) (tabulate z.m (k.reserved c)))
      (rw (tabulate-listed u z.m (k.reserved c) q l e) (or-true (listed u (tabulate z.m (λ q. (k.frozen c q).version))))))

module _ (z : Measures) (k : Clients) (a : Rows) (c : ℕ) (x : Pointer) where
  -- what leaves the free list: none, and what is still frozen or reserved
  abbrev kept : List Version
  kept = still_retained (client_at z (frozen_by k c x a) c)

  freed-listed : (u : Version) → listed u (freed z c (client_at z k c) (rows_at z a) x) ≡ (listed u (gone z k a c x z.m) && not (listed u (no_version ∷ kept)))
  freed-listed u = rw (frozen-after z k a c x) (free-listed kept u (gone z k a c x z.m))

  pub frees : Frees z k a c x (freed z c (client_at z k c) (rows_at z a) x)
  frees =
      record {
        replaced = λ v e. gone_from z k a c x v z.m (omega arith) (parts v e).0;
        left = λ v e r. true≢false (sym (listed-there v no_version kept (retained_to z (frozen_by k c x a) c v r)) ∙ (parts v e).1);
        proper = λ v e n. true≢false (sym (listed_here v no_version kept (sym n)) ∙ (parts v e).1);
        all = λ v r nr nn. freed-listed v ∙ rw (gone_to z k a c x v r) (ap not (is_false (listed v (no_version ∷ kept)) (unkept v nr nn)));
      }
    where
      parts : (v : Version) → listed v (freed z c (client_at z k c) (rows_at z a) x) ≡ true
          → (listed v (gone z k a c x z.m) ≡ true) × (listed v (no_version ∷ kept) ≡ false)
      parts v e =
          let y = and-true (listed v (gone z k a c x z.m)) (not (listed v (no_version ∷ kept))) (sym (freed-listed v) ∙ e) in
          (y.0, not-true (listed v (no_version ∷ kept)) y.1)

      unkept : (v : Version) → (Retains z (frozen_by k c x a) c v → ⊥) → (v ≡ no_version → ⊥) → listed v (no_version ∷ kept) ≡ true → ⊥
      unkept v nr nn e = go (listed-split v no_version kept e)
        where
          go : (no_version ≡ v) ⊎ (listed v kept ≡ true) → ⊥
          go (inl h) = nn (sym h)
          go (inr h) = nr (retained-from z (frozen_by k c x a) c v h)
