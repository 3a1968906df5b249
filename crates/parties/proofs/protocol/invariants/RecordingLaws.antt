-- What holds of operations stays, as history and past grow.
use mathlib.Core.Path.{◌≡◌, sym, ◌∙◌, ap}
use mathlib.Core.Bool.{true}
use mathlib.Core.Logic.{◌⊎◌, inl, inr}
use mathlib.Core.List.{List}
use mathlib.Core.Option.{some, none}
use Prim.Native.Nat.{ℕ, ◌≤◌, ◌<◌}
use native.Mathlib.Omega.{arith}
use Rattle.coding.proofs.PageLaws.{some_eq}
use Rattle.parties.specs.declared.Measures.{Measures}
use Rattle.parties.specs.declared.Version.{Version}
use Rattle.parties.specs.protocol.Pointer.{Pointer}
use Rattle.parties.specs.protocol.Run.{History, Operation}
use Rattle.parties.proofs.protocol.model.Model.{num, ver, Turn, Past, Model}
use Rattle.parties.proofs.protocol.invariants.Chronicle.{Undrawn, Drawn, Unpicked, Picked, Current, Doing, Busy, Listed, ShownPointer, Deposited, Draws, Recording}
use Rattle.parties.proofs.protocol.model.PastLaws.{formed_kept}
use Rattle.parties.proofs.protocol.model.Growth.{Grown}

-- ---- one operation

-- what an operation with number o tells: a deposit of what it drew, a reading of its pointer and of what it gave
pub record Fair (h : History) (p : Past) (o : ℕ) (a : Operation) : Type 0 where
  pub draws : (bytes : List ℕ) (v : Version) → a.page ≡ some bytes → a.version ≡ some v → Draws p o bytes v
  pub reads : (v : Version) → a.page ≡ none → a.version ≡ some v → (x : Pointer) × (a.pointer ≡ some x) × (x.version ≡ v) × ShownPointer h p x
  pub pointer : (x : Pointer) → a.pointer ≡ some x → (a.page ≡ none) × (a.version ≡ some x.version)
  pub gives : (b : List ℕ) → a.given ≡ some b
      → (x : Pointer) × (a.page ≡ none) × (a.pointer ≡ some x) × (256 ≤ ver x) × (b ≡ p.pages (ver x))

pub fair_of : (z : Measures) (s : Model) → Recording z s → (o : ℕ) → o < s.h.begun → Fair s.h s.p o (s.h.operation o)
fair_of z s r o l =
    record { draws = λ b v. r.draws o b v l; reads = λ v. r.reads o v l; pointer = λ x. r.pointer o x l; gives = λ b. r.gives o b l }

-- ---- growth

-- a version that a reading shows and that is not none is drawn
shown_drawn : (h : History) (p : Past) (x : Pointer) → 256 ≤ ver x → ShownPointer h p x → p.drawn (ver x) ≡ true
shown_drawn h p x l (ShownPointer.absent e) = let q : ver x ≡ 255 = ap ver e in absurd (omega arith)
shown_drawn h p x l (ShownPointer.put d e n i) = d

-- what a reading gave is a page of a version that is drawn
given_drawn : (h : History) (p : Past) (o : ℕ) (a : Operation) → Fair h p o a → (x : Pointer) → a.pointer ≡ some x → 256 ≤ ver x
    → p.drawn (ver x) ≡ true
given_drawn h p o a f x e l =
    let b = f.pointer x e in
    let y = f.reads x.version b.0 b.1 in
    let q : y.0 ≡ x = some_eq (sym y.1 ∙ e) in
    shown_drawn h p x l (rw q at y.3)

module _ (h h' : History) (p p' : Past) (g : Grown p p') (listed : (x : Pointer) → Listed h x → Listed h' x) where
  shown-later : (x : Pointer) → ShownPointer h p x → ShownPointer h' p' x
  shown-later x (ShownPointer.absent e) = ShownPointer.absent e
  shown-later x (ShownPointer.put d e n i) = ShownPointer.put (g.later.drawn (ver x) d) (formed_kept p p' x g.later d e n) n (listed x i)

  draws_later : (o : ℕ) (bytes : List ℕ) (v : Version) → Draws p o bytes v → Draws p' o bytes v
  draws_later o bytes v a =
      record {
        drawn = g.later.drawn (num v) a.drawn;
        deposit = g.deposits (num v) a.drawn ∙ a.deposit;
        page = g.later.pages (num v) a.drawn ∙ a.page;
        client = a.client;
      }

  pub fair_later : (o : ℕ) (a : Operation) → Fair h p o a → Fair h' p' o a
  fair_later o a f =
      record {
        draws = λ b v e i. draws_later o b v (f.draws b v e i);
        reads = λ v e i. let y = f.reads v e i in (y.0, y.1, y.2, shown-later y.0 y.3);
        pointer = f.pointer;
        gives = λ b e. let y = f.gives b e in
            (y.0, y.1, y.2, y.3, y.4 ∙ sym (g.later.pages (ver y.0) (given_drawn h p o a f y.0 y.2 y.3)));
      }

-- history and past go on: no operation loses its page or version, no pointer is taken back
pub record Onward (h h' : History) (p p' : Past) : Type 0 where
  pub past : Grown p p'
  pub begun : h.begun ≤ h'.begun
  pub page : (o : ℕ) → o < h.begun → (h'.operation o).page ≡ (h.operation o).page
  pub version : (o : ℕ) (v : Version) → o < h.begun → (h.operation o).version ≡ some v → (h'.operation o).version ≡ some v
  pub listed : (x : Pointer) → Listed h x → Listed h' x

deposited-later : (h h' : History) (p p' : Past) → Onward h h' p p' → (v : ℕ) → p.drawn v ≡ true → Deposited h p v → Deposited h' p' v
deposited-later h h' p p' g v d a =
    let o : p'.deposits v ≡ p.deposits v = g.past.deposits v d in
    record {
      begun = rw o (omega (arith, a.begun, g.begun));
      page = rw (o, g.past.later.pages v d) (g.page (p.deposits v) a.begun ∙ a.page);
      version = rw o (g.version (p.deposits v) _ a.begun a.version);
    }

-- ---- one client's last operation

-- it is the same one, and not marked
pub record Same (h h' : History) (c : ℕ) : Type 0 where
  pub begun : h.begun ≤ h'.begun
  pub latest : h'.latest c ≡ h.latest c
  pub operation : h'.operation (h'.latest c) ≡ h.operation (h.latest c)

module _ (h h' : History) (p p' : Past) (c : ℕ) (g : Grown p p') (same : Current h c → Same h h' c)
    (drew : (v : Version) → Current h c → Drawn h p c v → p.drawn (num v) ≡ true) where
  current_later : Current h c → Current h' c
  current_later a =
      let e = same a in
      record {
        begun = rw e.latest (omega (arith, e.begun, a.begun));
        client = ap (λ y. y.client) e.operation ∙ a.client;
        unended = ap (λ y. y.ended) e.operation ∙ a.unended;
        given = ap (λ y. y.given) e.operation ∙ a.given;
      }

  undrawn_later : (bytes : List ℕ) → Current h c × Undrawn h c bytes → Current h' c × Undrawn h' c bytes
  undrawn_later bytes (a, b) =
      let e = (same a).operation in
      (current_later a, record { page = ap (λ y. y.page) e ∙ b.page; version = ap (λ y. y.version) e ∙ b.version })

  drawn_later : (v : Version) → Current h c × Drawn h p c v → Current h' c × Drawn h' p' c v
  drawn_later v (a, b) =
      let e = (same a).operation in
      let d = drew v a b in (
        current_later a,
        record {
          page = ap (λ y. y.page) e ∙ b.page ∙ ap some (sym (g.later.pages (num v) d));
          version = ap (λ y. y.version) e ∙ b.version;
          deposit = g.deposits (num v) d ∙ b.deposit ∙ sym (same a).latest;
        },
      )

  unpicked_later : Current h c × Unpicked h c → Current h' c × Unpicked h' c
  unpicked_later (a, b) =
      let e = (same a).operation in
      (current_later a, record { page = ap (λ y. y.page) e ∙ b.page; version = ap (λ y. y.version) e ∙ b.version })

  picked_later : (x : Pointer) → Current h c × Picked h c x → Current h' c × Picked h' c x
  picked_later x (a, b) =
      let e = (same a).operation in (
        current_later a,
        record {
          page = ap (λ y. y.page) e ∙ b.page;
          version = ap (λ y. y.version) e ∙ b.version;
          pointer = ap (λ y. y.pointer) e ∙ b.pointer;
        },
      )

  pub doing_later : (t : Turn) → Doing h p c t → Doing h' p' c t
  doing_later Turn.idle b = tt
  doing_later (Turn.scanning bytes) b = undrawn_later bytes b
  doing_later (Turn.scanned bytes a) b = undrawn_later bytes b
  doing_later (Turn.storing v bytes a) b = drawn_later v b
  doing_later (Turn.updating x) b = drawn_later x.version b
  doing_later (Turn.updated x) b = drawn_later x.version b
  doing_later (Turn.freezing x) b = drawn_later x.version b
  doing_later (Turn.noticing x a) b = drawn_later x.version b
  doing_later Turn.raising b = unpicked_later b
  doing_later Turn.raised b = unpicked_later b
  doing_later Turn.picking b = unpicked_later b
  doing_later (Turn.picked a) b = unpicked_later b
  doing_later (Turn.fetching x n m ps) b = picked_later x b

-- ---- all of it

-- operation o is one that was there, and is not marked
pub record Unmarked (h h' : History) (o : ℕ) : Type 0 where
  pub begun : o < h.begun
  pub operation : h'.operation o ≡ h.operation o

-- the version of an open deposit is drawn
pub drew : (z : Measures) (s : Model) → Recording z s → (c : ℕ) (v : Version) → Current s.h c → Drawn s.h s.p c v → s.p.drawn (num v) ≡ true
drew z s r c v a b = (r.draws (s.h.latest c) (s.p.pages (num v)) v a.begun b.page b.version).drawn

module _ (z : Measures) (s t : Model) (g : Onward s.h t.h s.p t.p) (r : Recording z s) where
  pub recorded : ((c : ℕ) → c < z.m → Doing t.h t.p c (t.c.turn c))
      → ((o : ℕ) → o < t.h.begun → (t.h.operation o).ended ≡ none
      → ((t.h.operation o).client < z.m) × (t.h.latest (t.h.operation o).client ≡ o) × Busy (t.c.turn (t.h.operation o).client))
      → ((v : ℕ) → t.p.drawn v ≡ true → (s.p.drawn v ≡ true) ⊎ Deposited t.h t.p v)
      → ((o : ℕ) → o < t.h.begun → Unmarked s.h t.h o ⊎ Fair t.h t.p o (t.h.operation o))
      → Recording z t
  recorded doing busy drawn marked =
      record {
        doing = doing;
        busy = busy;
        deposited = λ v d. deposit v (drawn v d);
        draws = λ o b v l. (fair o (marked o l)).draws b v;
        reads = λ o v l. (fair o (marked o l)).reads v;
        pointer = λ o x l. (fair o (marked o l)).pointer x;
        gives = λ o b l. (fair o (marked o l)).gives b;
      }
    where
      deposit : (v : ℕ) → (s.p.drawn v ≡ true) ⊎ Deposited t.h t.p v → Deposited t.h t.p v
      deposit v (inl d) = deposited-later s.h t.h s.p t.p g v d (r.deposited v d)
      deposit v (inr a) = a

      fair : (o : ℕ) → Unmarked s.h t.h o ⊎ Fair t.h t.p o (t.h.operation o) → Fair t.h t.p o (t.h.operation o)
      fair o (inl u) = rw u.operation (fair_later s.h t.h s.p t.p g.past g.listed o (s.h.operation o) (fair_of z s r o u.begun))
      fair o (inr a) = a
