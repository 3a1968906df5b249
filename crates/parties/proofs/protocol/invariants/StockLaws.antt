-- What follows for a node's table: few pieces of each client, room for what is stored, and what a client keeps is held.
use mathlib.Core.Path.{◌≡◌, refl, sym, ap, ◌∙◌}
use mathlib.Core.Bool.{Bool, true, false, not, ◌||◌, true≢false, or-true}
use mathlib.Core.Logic.{◌⊎◌, inl, inr}
use mathlib.Core.List.{List, [], ◌∷◌}
use mathlib.Core.Option.{Option, some, none}
use Prim.Native.Nat.{ℕ, zero, suc, ◌+◌, ◌*◌, ◌≤◌, ◌<◌}
use native.Mathlib.Nat.{suc-mul, mul_left_comm}
use native.Mathlib.Omega.{arith}
use lib.ListN.{length}
use Rattle.coding.specs.Pieces.{piece}
use Rattle.coding.proofs.Cases.{and-true}
use Rattle.parties.specs.declared.Measures.{Measures}
use Rattle.parties.specs.declared.Version.{Version}
use Rattle.parties.specs.protocol.NodeTable.{Held, in_order}
use Rattle.parties.specs.protocol.Node.{hand_back, listed}
use Rattle.parties.specs.protocol.Claim.{Member, pieces_of}
use Rattle.parties.specs.protocol.NodeEvents.{is_held}
use Rattle.parties.specs.protocol.Message.{ToNode}
use Rattle.parties.specs.protocol.Reading.{same_version}
use Rattle.parties.proofs.protocol.model.Cells.{by_eq}
use Rattle.parties.proofs.protocol.formats.FormatLaws.{Each}
use Rattle.parties.proofs.protocol.formats.EachLaws.{each_as, each_with}
use Rattle.parties.proofs.protocol.formats.MeasureLaws.{Passed}
use Rattle.parties.proofs.protocol.formats.VersionLaws.{Below, true_below, below_trans, below_irrefl, not_below_self, not_below_back, same_eq, eq_same}
use Rattle.parties.proofs.protocol.events.NodeLaws.{split-ascending, hand-more, hand-same}
use Rattle.parties.proofs.protocol.model.Model.{num, Past, Model}
use Rattle.parties.proofs.protocol.invariants.Invariants.{Owned, Keeps, Plays, NoStore, Stocked, Stocking, effect, holding}
use Rattle.parties.proofs.protocol.model.QueueLaws.{hand-each}
use Rattle.parties.proofs.protocol.model.PlaysLaws.{plays_few}

-- ---- what is held

-- a piece that is held is its deposit's
pub held-piece : (z : Measures) (p : Past) (i : ℕ) (v : Version) (l : List Held) → holding l v ≡ true → Each (Stocked z p i) l
    → hand_back v l ≡ some (piece z.k (p.pages (num v)) i)
held-piece z p i v l e a = go (hand_back v l) refl e
  where
    go : (x : Option (List ℕ)) → hand_back v l ≡ x → is_held x ≡ true → x ≡ some (piece z.k (p.pages (num v)) i)
    go (some x) h e = ap some (hand-each (Stocked z p i) v x l a h).piece
    go none h e = absurd (true≢false (sym e))

-- a version that a client keeps, and of which no store is under way, is held
pub kept-held : (z : Measures) (honest : ℕ → Bool) (s : Model) → Stocking z honest s → (i : ℕ) → honest i ≡ true → 1 ≤ i → i ≤ z.n
    → (v : Version) → v.client < z.m → Keeps z s.c v.client v → NoStore v (s.n.to_node v.client i) → holding (s.n.held i) v ≡ true
kept-held z honest s o i hi lo up v l k = along (holding (s.n.held i)) (s.n.to_node v.client i) (o.plays v.client i hi lo up l)
  where
    along : (f : Version → Bool) (q : List ToNode) → Plays z s.c v.client f q → NoStore v q → f v ≡ true
    along f [] p n = p.1 v refl k
    along f (ToNode.store u x ∷ q) p n = go (same_version v u) refl (along (effect (ToNode.store u x) f) q p.1 n.1)
      where
        go : (b : Bool) → same_version v u ≡ b → (b || f v) ≡ true → f v ≡ true
        go true e h = absurd (n.0 (sym (same_eq v u e)))
        go false e h = h
    along f (ToNode.request u ∷ q) p n = along f q p.1 n
    along f (ToNode.free l ∷ q) p n = (and-true (f v) (not (listed v l)) (along (effect (ToNode.free l) f) q p.1 n)).0

-- ---- counting

-- in a table in order the first version is below all others
below_rest : (x : Held) (l : List Held) → in_order (x ∷ l) ≡ true → Each (λ h. Below x.version h.version) l
below_rest x [] e = tt
below_rest x (y ∷ l) e =
    let a = split-ascending x (y ∷ l) e in (
      a.0,
      each_as (λ h. Below y.version h.version) (λ h. Below x.version h.version)
          (λ h b. below_trans x.version y.version h.version a.0 b) l
          (below_rest y l a.1),
    )

-- every place's version is held
all_held : (l : List Held) → in_order l ≡ true → Each (λ h. holding l h.version ≡ true) l
all_held [] e = tt
all_held (x ∷ l) e = (
  ap is_held (hand-same x.version x l (not_below_self x.version) (not_below_self x.version)),
  each_with (λ h. Below x.version h.version) (λ h. holding l h.version ≡ true) (λ h. holding (x ∷ l) h.version ≡ true)
      (λ h b c.
      let t = true_below x.version h.version b in
      ap is_held (hand-more h.version x l (not_below_back x.version h.version t) t) ∙ c)
      l (below_rest x l e) (all_held l (split-ascending x l e).1),
)

-- a list without one of its members
without : {A : Type 0} {a : A} {l : List A} → Member a l → (r : List A) × (length l ≡ suc (length r)) × ((b : A) → (b ≡ a → ⊥) → Member b l → Member b r)
without (Member.here l) = (l, refl, λ b n k. later n k)
  where
    later : {A : Type 0} {a b : A} {l : List A} → (b ≡ a → ⊥) → Member b (a ∷ l) → Member b l
    later n (Member.here l) = absurd (n refl)
    later n (Member.there a l k) = k
without (Member.there c l m) = let r = without m in (c ∷ r.0, ap suc r.1, λ b n k. on (r.2 b n) k)
  where
    on : {A : Type 0} {b c : A} {l r : List A} → (Member b l → Member b r) → Member b (c ∷ l) → Member b (c ∷ r)
    on f (Member.here l) = Member.here _
    on f (Member.there c l k) = Member.there c _ (f k)

-- versions in order that are all among some others are not more than they
count_among : (w : ℕ) (l : List Held) (vs : List Version) → in_order l ≡ true → Each (λ h. h.version.client ≡ w → Member h.version vs) l
    → pieces_of w l ≤ length vs
count_among w [] vs e a = omega arith
count_among w (x ∷ l) vs e a =
    by_eq x.version.client w
    (λ f g.
    let r = without (a.0 g) in
    let c =
    count_among w l r.0 (split-ascending x l e).1
    (each_with (λ h. Below x.version h.version) (λ h. h.version.client ≡ w → Member h.version vs)
    (λ h. h.version.client ≡ w → Member h.version r.0)
    (λ h b m k. r.2 h.version (λ q. below_irrefl x.version (rw q at b)) (m k)) l (below_rest x l e) a.1)
    in rw f (omega (arith, c, r.1)))
    (λ f g. rw f (count_among w l vs (split-ascending x l e).1 a.1))

-- of each client at most 2m
pub held-few : (z : Measures) (honest : ℕ → Bool) (s : Model) → Passed z → Owned z s → Stocking z honest s
    → (i : ℕ) → honest i ≡ true → 1 ≤ i → i ≤ z.n → (w : ℕ) → w < z.m → pieces_of w (s.n.held i) ≤ 2 * z.m
held-few z honest s pa o k i hi lo up w l =
    let b = plays_few z s pa o w l (holding (s.n.held i)) (s.n.to_node w i) (k.plays w i hi lo up l) in
    let c =
    count_among w (s.n.held i) b.versions (k.order i)
    (each_as (λ h. holding (s.n.held i) h.version ≡ true) (λ h. h.version.client ≡ w → Member h.version b.versions)
    (λ h e d. b.all h.version d e) (s.n.held i) (all_held (s.n.held i) (k.order i)))
    in omega (arith, b.few)

-- ---- all clients

sums : ℕ → List Held → ℕ
sums zero l = 0
sums (suc n) l = pieces_of n l + sums n l

sums_first : (n : ℕ) (x : Held) (l : List Held)
    → (x.version.client < n → sums n (x ∷ l) ≡ suc (sums n l)) × (n ≤ x.version.client → sums n (x ∷ l) ≡ sums n l)
unfolding sums
sums_first zero x l = (λ h. absurd (omega arith), λ h. refl)
sums_first (suc n) x l =
    let r = sums_first n x l in
    by_eq x.version.client n
    (λ f g. rw f (λ h. let b : n ≤ x.version.client = omega arith in omega (arith, r.1 b), λ h. absurd (omega arith)))
    (λ f g. rw f (
      λ h. let b : x.version.client < n = omega arith in omega (arith, r.0 b),
      λ h. let b : n ≤ x.version.client = omega arith in omega (arith, r.1 b),
    ))

sums_none : (n : ℕ) → sums n [] ≡ 0
unfolding sums
sums_none zero = refl
sums_none (suc n) = omega (arith, sums_none n)

-- versions of the first n clients alone
sums_all : (n : ℕ) (l : List Held) → Each (λ h. h.version.client < n) l → sums n l ≡ length l
sums_all n [] a = sums_none n
sums_all n (x ∷ l) a = (sums_first n x l).0 a.0 ∙ ap suc (sums_all n l a.1)

sums_few : (c b n : ℕ) (l : List Held) → ((w : ℕ) → w < n → pieces_of w l ≤ b) → (sums n l ≤ n * b) × (c < n → pieces_of c l < b → sums n l < n * b)
unfolding sums
sums_few c b zero l h = (omega arith, λ d e. absurd (omega arith))
sums_few c b (suc n) l h =
    let r = sums_few c b n l (λ w d. h w (omega arith)) in (
      omega (arith, r.0, h n (omega arith), suc-mul n b),
      λ d e. by_eq c n (λ f g. let e' : pieces_of n l < b = rw g at e in omega (arith, r.0, suc-mul n b))
          (λ f g. let d' : c < n = omega arith in omega (arith, r.1 d' e, h n (omega arith), suc-mul n b)),
    )

-- a version to store is held, or there is room for it
pub held_all : (z : Measures) (honest : ℕ → Bool) (s : Model) → Passed z → Owned z s → Stocking z honest s
    → (c i : ℕ) (v : Version) (x : List ℕ) (rest : List ToNode) → honest i ≡ true → 1 ≤ i → i ≤ z.n → c < z.m → s.n.to_node c i ≡ ToNode.store v x ∷ rest
    → (holding (s.n.held i) v ≡ true) ⊎ (length (s.n.held i) < 2 * (z.m * z.m))
held_all z honest s pa o k c i v x rest hi lo up l e = go (holding (s.n.held i) v) refl
  where
    few : holding (s.n.held i) v ≡ false → pieces_of c (s.n.held i) < 2 * z.m
    few n =
        let b = plays_few z s pa o c l (effect (ToNode.store v x) (holding (s.n.held i))) rest (rw e at (k.plays c i hi lo up l)).1 in
        let r = without (b.all v (rw e at (k.sound c i hi lo up l)).0.2 (rw (eq_same v v refl) refl)) in
        let d =
        count_among c (s.n.held i) r.0 (k.order i)
        (each_as (λ h. holding (s.n.held i) h.version ≡ true) (λ h. h.version.client ≡ c → Member h.version r.0)
        (λ h t u.
        r.2 h.version (λ q. true≢false (sym t ∙ ap (holding (s.n.held i)) q ∙ n))
        (b.all h.version u (rw t (or-true (same_version h.version v)))))
        (s.n.held i) (all_held (s.n.held i) (k.order i)))
        in omega (arith, d, r.1, b.few)

    go : (b : Bool) → holding (s.n.held i) v ≡ b → (holding (s.n.held i) v ≡ true) ⊎ (length (s.n.held i) < 2 * (z.m * z.m))
    go true n = inl n
    go false n =
        let a =
        sums_all z.m (s.n.held i) (each_as (Stocked z s.p i) (λ h. h.version.client < z.m) (λ h t. t.client) (s.n.held i) (k.stocked i hi lo up))
        in
        let b = (sums_few c (2 * z.m) z.m (s.n.held i) (held-few z honest s pa o k i hi lo up)).1 l (few n) in
        inr (omega (arith, a, b, mul_left_comm z.m 2 z.m))
