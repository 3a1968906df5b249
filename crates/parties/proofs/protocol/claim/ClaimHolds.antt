-- The claim follows from the invariants, on the state that shows the model.
use mathlib.Core.Path.{◌≡◌, refl, sym, ap, subst, ◌∙◌}
use mathlib.Core.Bool.{Bool, true}
use mathlib.Core.Logic.{◌⊎◌, inl, inr}
use mathlib.Core.List.{List, [], ◌∷◌, append-nil}
use mathlib.Core.Option.{Option, some, none}
use Prim.Native.Nat.{ℕ, ◌%◌, ◌≤◌, ◌<◌}
use native.Mathlib.Omega.{arith}
use native.Mathlib.Decide.{ℕ_discrete}
use borrow.Author.Tests.{le-ltb, lt-ltb}
use Rattle.coding.specs.Pieces.{piece}
use Rattle.coding.specs.Placed.{digest_input}
use Rattle.coding.proofs.PageLaws.{none≢some, some_eq}
use Rattle.parties.specs.declared.Measures.{Measures}
use Rattle.parties.specs.declared.Version.{Version}
use Rattle.parties.specs.protocol.Measures.{passes}
use Rattle.parties.specs.protocol.Nodes.{stands}
use Rattle.parties.specs.protocol.Pointer.{Pointer, none_pointer, write_version}
use Rattle.parties.specs.protocol.NodeTable.{read_table, write_table}
use Rattle.parties.specs.protocol.Node.{hand_back}
use Rattle.parties.specs.protocol.Run.{Put, History, State}
use Rattle.parties.specs.protocol.Claim.{Member, Bears, IsDeposit, IsReading, Open, Precedes, FirstPut, Concerns, Alike, MatchesOwn, shown, places, Claim, StringOf, Differ}
use Rattle.parties.proofs.protocol.formats.MeasureLaws.{passed}
use Rattle.parties.proofs.protocol.formats.NodeTableLaws.{format_table}
use Rattle.parties.proofs.protocol.model.Model.{num, ver, Turn, Past, Model}
use Rattle.parties.proofs.protocol.invariants.Invariants.{Known, Keeps, Pointed, unnum}
use Rattle.parties.proofs.protocol.invariants.Chronicle.{Rightly, ShownPointer, Listed, Draws, Doing, Busy}
use Rattle.parties.proofs.protocol.model.VersionNumbers.{unnum_num, below_num}
use Rattle.parties.proofs.protocol.model.MemberLaws.{member_cases}
use Rattle.parties.proofs.protocol.model.PastLaws.{pointed_version, some_formed}
use Rattle.parties.proofs.protocol.invariants.StockLaws.{held-few, kept-held, held-piece}
use Rattle.parties.proofs.protocol.invariants.RetainingKept.{safe_keeps}
use Rattle.parties.proofs.protocol.invariants.Invariant.{Invariant}
use Rattle.parties.proofs.protocol.events.ReplyLaws.{known_picked, own_matched, matched_own}
use Rattle.parties.proofs.protocol.steps.View.{Shows}

-- a pointer that is put in was first put in for its version's deposit
first_put : (p : Past) (x : Pointer) (l : List Put) → ((y : Put) → Member y l → Rightly p y) → p.pointers (ver x) ≡ x
    → (d : ℕ) → Member (record { pointer = x; operation = d }) l → FirstPut x (p.deposits (ver x)) l
first_put p x [] r e d m = elim m [ ]
first_put p x (y ∷ l) r e d m =
    go (ℕ_discrete (ver y.pointer) (ver x)) (λ n. first_put p x l (λ y' m'. r y' (Member.there y l m')) e d n)
    (member_cases (record { pointer = x; operation = d }) y l m)
  where
    go : Dec (ver y.pointer ≡ ver x) → (Member (record { pointer = x; operation = d }) l → FirstPut x (p.deposits (ver x)) l)
        → ((record { pointer = x; operation = d }) ≡ y) ⊎ Member (record { pointer = x; operation = d }) l → FirstPut x (p.deposits (ver x)) (y ∷ l)
    go (yes q) rest k =
        let g = r y (Member.here l) in
        inl (sym g.pointer ∙ ap p.pointers q ∙ e, sym g.deposit ∙ ap p.deposits q)
    go (no q) rest (inl k) = absurd (q (ap (λ (a : Put). ver a.pointer) (sym k)))
    go (no q) rest (inr k) = inr (λ f. q (ap ver f), rest k)

-- what was first put in was put in
first-listed : (x : Pointer) (d : ℕ) (l : List Put) → FirstPut x d l → Member (record { pointer = x; operation = d }) l
first-listed x d [] m = elim m [ ]
first-listed x d (y ∷ l) (inl e) = subst (λ (a : Put). Member a (y ∷ l)) (λ i. record { pointer = e.0 i; operation = e.1 i }) (Member.here l)
first-listed x d (y ∷ l) (inr e) = Member.there y l (first-listed x d l e.1)

module _ (z : Measures) (honest : ℕ → Bool) (ok : passes z ≡ true) (s : Model) (v : Invariant z honest s) where
  -- a pointer that is shown has the version of its number
  shown-version : (x : Pointer) → ShownPointer s.h s.p x → x.version ≡ unnum (ver x)
  shown-version x (ShownPointer.absent e) = ap (λ (y : Pointer). y.version) e ∙ sym (ap (λ (y : Pointer). unnum (ver y)) e)
  shown-version x (ShownPointer.put d p b l) = go (v.drawing (ver x) d).pointer
    where
      go : (s.p.pointers (ver x) ≡ none_pointer) ⊎ Pointed z s.p (ver x) → x.version ≡ unnum (ver x)
      go (inl n) = absurd (some_formed s.p x p b n)
      go (inr n) = ap (λ (y : Pointer). y.version) (sym p ∙ n.pointer) ∙ pointed_version z (unnum (ver x)) (s.p.pages (ver x)) n.nodes

  -- what an operation bears: a deposit's own version, or that of a pointer that a reading shows
  data Borne (o : ℕ) (u : Version) : Type 0 where
    drew : (bytes : List ℕ) → IsDeposit s.h o bytes → Draws s.p o bytes u → Borne o u
    read : (x : Pointer) → IsReading s.h o → (s.h.operation o).pointer ≡ some x → x.version ≡ u → ShownPointer s.h s.p x → Borne o u

  borne : (o : ℕ) (u : Version) → Bears s.h o u → Borne o u
  borne o u b = go (s.h.operation o).page refl
    where
      go : (q : Option (List ℕ)) → (s.h.operation o).page ≡ q → Borne o u
      go (some bytes) e = drew bytes e (v.recording.draws o bytes u b.0 e b.1)
      go none e = let r = v.recording.reads o u b.0 e b.1 in read r.0 e r.1 r.2 r.3

  -- a version that is borne is that of its number
  borne_unnum : (o : ℕ) (u : Version) → Borne o u → u ≡ unnum (num u)
  borne_unnum o u (drew bytes e d) = sym (unnum_num u (omega (arith, d.client)))
  borne_unnum o u (read x e p q sh) = sym q ∙ shown-version x sh ∙ ap (λ (y : Version). unnum (num y)) q

  borne_client : (o : ℕ) (u : Version) → Borne o u → u.client < 256
  borne_client o u b =
      let e : u.client ≡ num u % 256 = ap (λ (y : Version). y.client) (borne_unnum o u b) in omega (arith, e)

  -- a reading whose pointer is put in concerns that version's deposit
  shows-deposit : (o : ℕ) (x : Pointer) → IsReading s.h o → (s.h.operation o).pointer ≡ some x → s.p.pointers (ver x) ≡ x → 256 ≤ ver x
      → Listed s.h x → Concerns s.h o (s.p.deposits (ver x))
  shows-deposit o x e p q b l =
      Concerns.shows x e p (λ n. let f : ver x ≡ 255 = ap ver n in omega arith) (first_put s.p x s.h.puts v.putting.rightly q l.0 l.1)

  -- the number of what is borne names the deposit that is concerned
  concerned : (o d : ℕ) (u : Version) → Borne o u → Concerns s.h o d → (s.p.drawn (num u) ≡ true) × (s.p.deposits (num u) ≡ d)
  concerned o d u (drew bytes e g) (Concerns.itself bytes' e' q) = (g.drawn, g.deposit ∙ q)
  concerned o d u (drew bytes e g) (Concerns.shows x e' p n f) = absurd (none≢some (sym e' ∙ e))
  concerned o d u (read x e p q sh) (Concerns.itself bytes e' q') = absurd (none≢some (sym e ∙ e'))
  concerned o d u (read x e p q sh) (Concerns.shows y e' p' n f) =
      let a : x ≡ y = some_eq (sym p ∙ p') in
      let g = v.putting.rightly (record { pointer = y; operation = d }) (first-listed y d s.h.puts f) in
      let c : ver y ≡ num u = ap ver (sym a) ∙ ap num q in
      (ap s.p.drawn (sym c) ∙ g.drawn, ap s.p.deposits (sym c) ∙ g.deposit)

  -- equal numbers
  same-deposit : (o p : ℕ) (u : Version) → Borne o u → Borne p u → Alike s.h o p
  same-deposit o p u (drew b e g) (drew b' e' g') = inl (o, Concerns.itself b e refl, Concerns.itself b' e' (sym g'.deposit ∙ g.deposit))
  same-deposit o p u (drew b e g) (read x e' q r (ShownPointer.absent n)) =
      let f : u.client ≡ 255 = ap (λ (y : Version). y.client) (sym r) ∙ ap (λ (y : Pointer). y.version.client) n in absurd (omega (arith, g.client))
  same-deposit o p u (drew b e g) (read x e' q r (ShownPointer.put d k l m)) =
      let f : s.p.deposits (ver x) ≡ o = ap (λ (y : Version). s.p.deposits (num y)) r ∙ g.deposit in
      inl (o, Concerns.itself b e refl, subst (Concerns s.h p) f (shows-deposit p x e' q k l m))
  same-deposit o p u (read x e' q r (ShownPointer.absent n)) (drew b e g) =
      let f : u.client ≡ 255 = ap (λ (y : Version). y.client) (sym r) ∙ ap (λ (y : Pointer). y.version.client) n in absurd (omega (arith, g.client))
  same-deposit o p u (read x e' q r (ShownPointer.put d k l m)) (drew b e g) =
      let f : s.p.deposits (ver x) ≡ p = ap (λ (y : Version). s.p.deposits (num y)) r ∙ g.deposit in
      inl (p, subst (Concerns s.h o) f (shows-deposit o x e' q k l m), Concerns.itself b e refl)
  same-deposit o p u (read x e q r (ShownPointer.absent n)) (read y e' q' r' (ShownPointer.absent n')) = inr ((e, q ∙ ap some n), (e', q' ∙ ap some n'))
  same-deposit o p u (read x e q r (ShownPointer.absent n)) (read y e' q' r' (ShownPointer.put d k l m)) =
      let f : ver y ≡ 255 = ap num (r' ∙ sym r) ∙ ap ver n in absurd (omega arith)
  same-deposit o p u (read x e q r (ShownPointer.put d k l m)) (read y e' q' r' (ShownPointer.absent n)) =
      let f : ver x ≡ 255 = ap num (r ∙ sym r') ∙ ap ver n in absurd (omega arith)
  same-deposit o p u (read x e q r (ShownPointer.put d k l m)) (read y e' q' r' (ShownPointer.put d' k' l' m')) =
      let f : s.p.deposits (ver y) ≡ s.p.deposits (ver x) = ap (λ (w : Version). s.p.deposits (num w)) (r' ∙ sym r) in
      inl (s.p.deposits (ver x), shows-deposit o x e q k l m, subst (Concerns s.h p) f (shows-deposit p y e' q' k' l' m'))

  -- and back
  same_version_lem : (o p : ℕ) (u w : Version) → Bears s.h o u → Bears s.h p w → Alike s.h o p → u ≡ w
  same_version_lem o p u w b c (inl (d, f, g)) =
      let a = concerned o d u (borne o u b) f in
      let e = concerned p d w (borne p w c) g in
      let x = (v.recording.deposited (num u) a.0).version in
      let y = (v.recording.deposited (num w) e.0).version in
      borne_unnum o u (borne o u b)
      ∙ some_eq (sym x ∙ ap (λ (j : ℕ). (s.h.operation j).version) (a.1 ∙ sym e.1) ∙ y)
      ∙ sym (borne_unnum p w (borne p w c))
  same_version_lem o p u w b c (inr (f, g)) =
      some_eq (sym b.1 ∙ (v.recording.pointer o none_pointer b.0 f.1).1)
      ∙ sym (some_eq (sym c.1 ∙ (v.recording.pointer p none_pointer c.0 g.1).1))

  -- order
  later : (e o : ℕ) (u w : Version) → Bears s.h e u → Bears s.h o w → Precedes s.h e o
      → (num u ≤ num w) × ((bytes : List ℕ) → IsDeposit s.h o bytes → num u < num w)
  later e o u w b c (t, en, lt) = go (s.h.operation o).page refl
    where
      r : (j : ℕ) × (j < z.m) × (num u ≤ s.p.shown o j)
      r = v.ordering.before e o u t b.0 c.0 b.1 en lt

      go : (q : Option (List ℕ)) → (s.h.operation o).page ≡ q → (num u ≤ num w) × ((bytes : List ℕ) → IsDeposit s.h o bytes → num u < num w)
      go none q = (
        (let f = v.ordering.read o w c.0 c.1 q r.0 r.1 in omega (arith, f, r.2)),
        λ bytes d. absurd (none≢some (sym q ∙ d)),
      )
      go (some bytes) q =
          let f = v.ordering.drew o w bytes c.0 c.1 q r.0 r.1 in
          let g : num u < num w = omega (arith, f, r.2) in (omega (arith, g), λ bytes d. g)

  -- what an open reading's turn is
  data Asking (c o : ℕ) (p : Pointer) : Type 0 where
    asking : (n m : ℕ) (ps : List (List ℕ)) → s.c.turn c ≡ Turn.fetching p n m ps → Asking c o p

  at_turn : (c o : ℕ) (p : Pointer) → s.h.latest c ≡ o → IsReading s.h o → (s.h.operation o).pointer ≡ some p
      → (s.h.operation o).version ≡ some p.version → (t : Turn) → s.c.turn c ≡ t → Doing s.h s.p c t → (t ≡ Turn.idle → ⊥) → Asking c o p
  at_turn c o p e r q u Turn.idle f d n = absurd (n refl)
  at_turn c o p e r q u (Turn.scanning b) f d n = absurd (none≢some (sym r ∙ ap (λ (j : ℕ). (s.h.operation j).page) (sym e) ∙ d.1.page))
  at_turn c o p e r q u (Turn.scanned b a) f d n = absurd (none≢some (sym r ∙ ap (λ (j : ℕ). (s.h.operation j).page) (sym e) ∙ d.1.page))
  at_turn c o p e r q u (Turn.storing x b a) f d n = absurd (none≢some (sym r ∙ ap (λ (j : ℕ). (s.h.operation j).page) (sym e) ∙ d.1.page))
  at_turn c o p e r q u (Turn.updating x) f d n = absurd (none≢some (sym r ∙ ap (λ (j : ℕ). (s.h.operation j).page) (sym e) ∙ d.1.page))
  at_turn c o p e r q u (Turn.updated x) f d n = absurd (none≢some (sym r ∙ ap (λ (j : ℕ). (s.h.operation j).page) (sym e) ∙ d.1.page))
  at_turn c o p e r q u (Turn.freezing x) f d n = absurd (none≢some (sym r ∙ ap (λ (j : ℕ). (s.h.operation j).page) (sym e) ∙ d.1.page))
  at_turn c o p e r q u (Turn.noticing x a) f d n = absurd (none≢some (sym r ∙ ap (λ (j : ℕ). (s.h.operation j).page) (sym e) ∙ d.1.page))
  at_turn c o p e r q u Turn.raising f d n = absurd (none≢some (sym d.1.version ∙ ap (λ (j : ℕ). (s.h.operation j).version) e ∙ u))
  at_turn c o p e r q u Turn.raised f d n = absurd (none≢some (sym d.1.version ∙ ap (λ (j : ℕ). (s.h.operation j).version) e ∙ u))
  at_turn c o p e r q u Turn.picking f d n = absurd (none≢some (sym d.1.version ∙ ap (λ (j : ℕ). (s.h.operation j).version) e ∙ u))
  at_turn c o p e r q u (Turn.picked a) f d n = absurd (none≢some (sym d.1.version ∙ ap (λ (j : ℕ). (s.h.operation j).version) e ∙ u))
  at_turn c o p e r q u (Turn.fetching x k m ps) f d n =
      let a : x ≡ p = some_eq (sym d.1.pointer ∙ ap (λ (j : ℕ). (s.h.operation j).pointer) e ∙ q) in
      asking k m ps (f ∙ ap (λ (y : Pointer). Turn.fetching y k m ps) a)

  -- every honest node that the pointer of an open reading names holds its piece
  held_at : (c : ℕ) (p : Pointer) (n m : ℕ) (ps : List (List ℕ)) → c < z.m → s.c.turn c ≡ Turn.fetching p n m ps → (i : ℕ) → honest i ≡ true → 1 ≤ i
      → i ≤ z.n
      → stands p.named.nodes i ≡ true → hand_back p.version (s.n.held i) ≡ some (piece z.k (s.p.pages (ver p)) i)
  held_at c p n m ps l e i hi lo up st =
      let w = rw e at (v.owned.own c l) in
      let k = safe_keeps z s.c p.version.client c (s.c.reading c) p.version l (rw e at (v.retaining c l)) in
      go w k w.2
    where
      go : (1 ≤ s.c.reading c) × (p.version.client < z.m) × Known s.p p.version.client p × (256 ≤ ver p)
          → Keeps z s.c p.version.client p.version → Known s.p p.version.client p
          → hand_back p.version (s.n.held i) ≡ some (piece z.k (s.p.pages (ver p)) i)
      go w k (Known.absent a) = let f : ver p ≡ 255 = ap ver a in absurd (omega (arith, w.3))
      go w k (Known.formed d a b g) =
          let named : stands (s.p.pointers (ver p)).named.nodes i ≡ true = ap (λ (x : Pointer). stands x.named.nodes i) a ∙ st in
          let arrived = v.arriving.named p.version i hi lo up w.1 d named in
          held-piece z s.p i p.version (s.n.held i) (kept-held z honest s v.stocking i hi lo up p.version w.1 k arrived)
          (v.stocking.stocked i hi lo up)

  -- a reading's pointer is shown
  pointer-shown : (o : ℕ) (x : Pointer) → o < s.h.begun → IsReading s.h o → (s.h.operation o).pointer ≡ some x → ShownPointer s.h s.p x
  pointer-shown o x l e p =
      let r = v.recording.reads o x.version l e (v.recording.pointer o x l p).1 in
      subst (ShownPointer s.h s.p) (some_eq (sym r.1 ∙ p)) r.3

  -- one that is not none: its deposit, with its page
  deposit_of_lem : (o : ℕ) (x : Pointer) → o < s.h.begun → IsReading s.h o → (s.h.operation o).pointer ≡ some x → 256 ≤ ver x
      → (d : ℕ) × Concerns s.h o d × IsDeposit s.h d (s.p.pages (ver x))
  deposit_of_lem o x l e p b = go (pointer-shown o x l e p)
    where
      go : ShownPointer s.h s.p x → (d : ℕ) × Concerns s.h o d × IsDeposit s.h d (s.p.pages (ver x))
      go (ShownPointer.absent n) = let f : ver x ≡ 255 = ap ver n in absurd (omega arith)
      go (ShownPointer.put d k c m) = (s.p.deposits (ver x), shows-deposit o x e p k b m, (v.recording.deposited (ver x) d).page)

  -- which pieces match it: its deposit's
  pieces_match : (x : Pointer) → ShownPointer s.h s.p x → 256 ≤ ver x → Differ (StringOf z s.h) → MatchesOwn z s.h x (s.p.pages (ver x))
  pieces_match x (ShownPointer.absent n) b differ r a q lo up named = let f : ver x ≡ 255 = ap ver n in absurd (omega arith)
  pieces_match x (ShownPointer.put d k c m) b differ r a q lo up named =
      let e : x.version.client ≡ ver x % 256 = ap (λ (y : Version). y.client) (shown-version x (ShownPointer.put d k c m)) in
      let l : x.version.client < z.m = omega (arith, e, (v.drawing (ver x) d).writer) in
      let pick = known_picked z (passed z ok) s v.drawing x l (Known.formed d k refl b) b in
      let came = StringOf.came r a lo up (ap (λ (y : Version). digest_input (write_version y) r.node r.piece) (sym q)) in (
        matched_own z (passed z ok) s x pick r.node lo up named s.h (v.recording.deposited (ver x) d) differ r.piece came,
        own_matched z (passed z ok) s x pick r.node lo up named r.piece,
      )

  module _ (st : State) (o : Shows z honest st s) where
    reads_held : (i : ℕ) → honest i ≡ true → 1 ≤ i → i ≤ z.n → read_table z (st.nodes i) ≡ some (record { value = s.n.held i; rest = [] })
    reads_held i hi lo up =
        let t = o.table i hi lo up in
        ap (read_table z) (t.bytes ∙ sym (append-nil (write_table z (s.n.held i)))) ∙ (format_table z).back (s.n.held i) t.good []

    shown-places : (i : ℕ) → honest i ≡ true → 1 ≤ i → i ≤ z.n → places z st i ≡ s.n.held i
    shown-places i hi lo up = ap shown (reads_held i hi lo up)

    held_in : (j : ℕ) (p : Pointer) → Open s.h j → IsReading s.h j → (s.h.operation j).pointer ≡ some p
        → (d : ℕ) × (bytes : List ℕ) × Concerns s.h j d × IsDeposit s.h d bytes
        × ((i : ℕ) → honest i ≡ true → 1 ≤ i → i ≤ z.n → stands p.named.nodes i ≡ true
        → hand_back p.version (places z st i) ≡ some (piece z.k bytes i))
    held_in j p op e q =
        let b = v.recording.busy j op.0 op.1 in
        go (s.h.operation j).client b.0 b.1 (at_turn (s.h.operation j).client j p b.1 e q (v.recording.pointer j p op.0 q).1
        (s.c.turn (s.h.operation j).client) refl (v.recording.doing (s.h.operation j).client b.0) (λ i. subst Busy i b.2))
      where
        go : (c : ℕ) → c < z.m → s.h.latest c ≡ j → Asking c j p
            → (d : ℕ) × (bytes : List ℕ) × Concerns s.h j d × IsDeposit s.h d bytes
            × ((i : ℕ) → honest i ≡ true → 1 ≤ i → i ≤ z.n → stands p.named.nodes i ≡ true
            → hand_back p.version (places z st i) ≡ some (piece z.k bytes i))
        go c l f (asking n m ps t) =
            let w = rw t at (v.owned.own c l) in
            let r = deposit_of_lem j p op.0 e q w.3 in
            (r.0, s.p.pages (ver p), r.1, r.2, λ i hi lo up k. rw (shown-places i hi lo up) (held_at c p n m ps l t i hi lo up k))

    exact_in : (j : ℕ) (given : List ℕ) → j < s.h.begun → (s.h.operation j).given ≡ some given
        → (d : ℕ) × Concerns s.h j d × IsDeposit s.h d given
    exact_in j given l e =
        let r = v.recording.gives j given l e in
        let f = deposit_of_lem j r.0 l r.1 r.2 r.3 in (f.0, f.1, f.2 ∙ ap some (sym r.4))

    matched_in : Differ (StringOf z s.h) → (j : ℕ) (p : Pointer) → j < s.h.begun → IsReading s.h j → (s.h.operation j).pointer ≡ some p
        → (p ≡ none_pointer → ⊥) → (d : ℕ) × (bytes : List ℕ) × Concerns s.h j d × IsDeposit s.h d bytes × MatchesOwn z s.h p bytes
    matched_in differ j p l e q present = go (pointer-shown j p l e q)
      where
        go : ShownPointer s.h s.p p → (d : ℕ) × (bytes : List ℕ) × Concerns s.h j d × IsDeposit s.h d bytes × MatchesOwn z s.h p bytes
        go (ShownPointer.absent n) = absurd (present n)
        go (ShownPointer.put d k b m) =
            let f = deposit_of_lem j p l e q b in (f.0, s.p.pages (ver p), f.1, f.2, pieces_match p (ShownPointer.put d k b m) b differ)

    -- demand 3 of the state, under the premise on digests
    pub claim-holds : Differ (StringOf z st.history) → Claim z honest st
    claim-holds differ =
        record {
          equal = rw o.history (λ j p u w b c e. same-deposit j p u (borne j u b) (subst (Borne p) (sym e) (borne p w c)));
          alike = rw o.history same_version_lem;
          order = rw o.history (λ e j u w b c p.
              below_num w u (borne_client j w (borne j w c)) (borne_client e u (borne e u b)) ∙ le-ltb (num w) (num u) (later e j u w b c p).0);
          strict = rw o.history (λ e j u w bytes b c p d.
              below_num u w (borne_client e u (borne e u b)) (borne_client j w (borne j w c)) ∙ lt-ltb (num u) (num w) ((later e j u w b c p).1 bytes d));
          exact = rw o.history exact_in;
          reads = λ i hi lo up. rw (shown-places i hi lo up) (reads_held i hi lo up);
          held = rw o.history held_in;
          matched = rw o.history (matched_in (subst (λ (h : History). Differ (StringOf z h)) o.history differ));
          few = λ i w hi lo up l. rw (shown-places i hi lo up) (held-few z honest s (passed z ok) v.owned v.stocking i hi lo up w l);
        }
