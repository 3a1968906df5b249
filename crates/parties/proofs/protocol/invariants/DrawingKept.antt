-- What is known of the versions drawn: every step keeps `Drawing`.
use mathlib.Core.Path.{◌≡◌, refl, sym, ap, ◌∙◌}
use mathlib.Core.Bool.{Bool, true}
use mathlib.Core.Logic.{◌⊎◌, inl, inr}
use mathlib.Core.List.{List}
use Prim.Native.Nat.{ℕ, ◌+◌, ◌%◌, ◌^◌, ◌≤◌, ◌<◌}
use native.Mathlib.Omega.{arith}
use borrow.Author.Tests.{eq-eqb}
use lib.Dec.{eqb}
use Rattle.parties.specs.declared.Measures.{Measures}
use Rattle.parties.specs.declared.Version.{Version}
use Rattle.parties.specs.protocol.Nodes.{count, with_node}
use Rattle.parties.specs.protocol.Pointer.{Pointer, none_pointer}
use Rattle.parties.specs.protocol.Run.{History}
use Rattle.parties.proofs.protocol.model.Cells.{by_eq}
use Rattle.parties.proofs.protocol.formats.MeasureLaws.{Passed}
use Rattle.parties.proofs.protocol.formats.NodeMapLaws.{with_below}
use Rattle.parties.proofs.protocol.model.Model.{num, ver, Rows, Turn, Clients, Shown, Nodes, Past, Model, newest, last}
use Rattle.parties.proofs.protocol.model.Model.{turned, frozen_by, drawn_by, pointed_by, pointed, Above, Next}
use Rattle.parties.proofs.protocol.invariants.Invariants.{Storing, Owned, Pointed, DrawnVersion, Drawing}
use Rattle.parties.proofs.protocol.model.VersionNumbers.{num_client, num_sequence, unnum_num}
use Rattle.parties.proofs.protocol.model.PastLaws.{client-fits, pointed_version, draw-fresh}

-- ---- a version drawn before

-- its client's newest is no lower, its page is the same and its pointer is none or formed of it
draws_later : (z : Measures) (s t : Model) (v : ℕ) → ((w : ℕ) → last s.c w ≤ last t.c w) → t.p.pages v ≡ s.p.pages v
    → (t.p.pointers v ≡ none_pointer) ⊎ Pointed z t.p v → DrawnVersion z s v → DrawnVersion z t v
draws_later z s t v up e x o =
    record {
      proper = o.proper;
      writer = o.writer;
      sequence = o.sequence;
      before = omega (arith, o.before, up (v % 256));
      bytes = rw e o.bytes;
      long = rw e o.long;
      pointer = x;
    }

pointed_kept : (z : Measures) (p q : Past) (v : ℕ) → q.pages v ≡ p.pages v → q.pointers v ≡ p.pointers v
    → (p.pointers v ≡ none_pointer) ⊎ Pointed z p v → (q.pointers v ≡ none_pointer) ⊎ Pointed z q v
pointed_kept z p q v ea ep (inl e) = inl (ep ∙ e)
pointed_kept z p q v ea ep (inr o) =
    inr (record { nodes = o.nodes; pointer = rw (ep, ea) o.pointer; within = o.within; enough = o.enough })

draws_kept : (z : Measures) (s t : Model) (v : ℕ) → ((w : ℕ) → last s.c w ≤ last t.c w) → t.p.pages v ≡ s.p.pages v
    → t.p.pointers v ≡ s.p.pointers v → DrawnVersion z s v → DrawnVersion z t v
draws_kept z s t v up ea ep o = draws_later z s t v up ea (pointed_kept z s.p t.p v ea ep o.pointer) o

-- ---- the newest version of a client never falls

pub last-turned : (k : Clients) (c : ℕ) (t : Turn) → newest (k.turn c) (ver (k.written c)) ≤ newest t (ver (k.written c))
    → (w : ℕ) → last k w ≤ last (turned k c t) w
last-turned k c t h w = by_eq w c (λ f e. rw f (rw e h)) (λ f e. rw f (omega arith))

pub last-frozen : (k : Clients) (c : ℕ) (x : Pointer) (a : Rows) → k.turn c ≡ Turn.noticing x a → (w : ℕ) → last k w ≤ last (frozen_by k c x a) w
last-frozen k c x a g w = by_eq w c (λ f e. rw f (rw e (rw g (omega arith)))) (λ f e. rw f (omega arith))

-- ---- what a step does to the versions drawn

-- none is drawn, and no pointer is formed
calm : (z : Measures) (s : Model) {k : Clients} {d : Shown} {n : Nodes} {f : ℕ → ℕ → ℕ} {h : History}
    → ((w : ℕ) → last s.c w ≤ last k w) → Drawing z s
    → Drawing z
    (record {
      c = k;
      d = d;
      n = n;
      h = h;
      p = record { drawn = s.p.drawn; pages = s.p.pages; deposits = s.p.deposits; pointers = s.p.pointers; shown = f };
    })
calm z s up dr v y = draws_kept z s _ v up refl refl (dr v y)

-- a version is drawn, for the first time
drawn_drawing : (z : Measures) (s : Model) {n : Nodes} {h : History} (c : ℕ) (bytes : List ℕ) (a : Rows) (v : Version)
    → Passed z → c < z.m → s.c.turn c ≡ Turn.scanned bytes a → v.client ≡ c → v.sequence.0 < 2 ^ 32 → Above z a v.sequence.0
    → Owned z s → Drawing z s
    → Drawing z (record { c = turned s.c c (Turn.storing v bytes 0); d = s.d; n = n; p = drawn_by s.p (num v) bytes (s.h.latest c); h = h })
drawn_drawing z s c bytes a v ok l e ec es ab o dr u y =
    let own = rw e at (o.own c l) in
    let b : v.client < 256 = omega (arith, client-fits z c ok l) in
    let q : num v % 256 ≡ c = num_client v b ∙ ec in
    let same : eqb (num v) (num v) ≡ true = eq-eqb (num v) (num v) refl in
    let less = (draw-fresh z s c bytes a v ok o dr l e ec ab).0 in
    by_eq u (num v)
    (λ f g.
    rw g
    (record {
      proper = omega (arith, ab c l);
      writer = rw q l;
      sequence = rw (num_sequence v b) es;
      before = rw q (rw (eq-eqb c c refl) (omega arith));
      bytes = rw same own.0;
      long = rw same own.1;
      pointer = inl (rw same);
    }))
    (λ f g. draws_kept z s _ u (last-turned s.c c _ (rw e (omega arith))) (rw f) (rw f) (dr u (rw f at y)))

-- the pointer of a version is formed
pointed_drawing : (z : Measures) (s : Model) {n : Nodes} {h : History} (c : ℕ) (v : Version) (bytes : List ℕ) (a b : ℕ)
    → Passed z → c < z.m → s.c.turn c ≡ Turn.storing v bytes a → b < 2 ^ z.n → count b ≡ z.t + z.k
    → Storing z s.p s.c c v bytes a → Drawing z s
    → Drawing z
    (record {
      c = turned s.c c (Turn.updating (pointed z v bytes b));
      d = s.d;
      n = n;
      h = h;
      p = pointed_by s.p (num v) (pointed z v bytes b);
    })
pointed_drawing z s c v bytes a b ok l e small many o dr u y =
    let up = last-turned s.c c (Turn.updating (pointed z v bytes b)) (rw e (omega (arith, ap num (pointed_version z v bytes b)))) in
    by_eq u (num v)
    (λ f g.
    draws_later z s _ u up refl
    (inr (record {
      nodes = b;
      pointer = rw f (rw g (sym (λ i. pointed z (unnum_num v (omega (arith, o.client, client-fits z c ok l)) i) (o.page i) b)));
      within = small;
      enough = many;
    })) (dr u y))
    (λ f g. draws_kept z s _ u up refl (rw f) (dr u y))

pub drawing_kept : (z : Measures) (honest : ℕ → Bool) → Passed z → (s t : Model) → Next z honest s t → Owned z s → Drawing z s → Drawing z t
drawing_kept z honest ok s t (Next.refused h q) o dr = calm z s (λ w. omega arith) dr
drawing_kept z honest ok s t (Next.deposit c bytes h q l e bb n) o dr = calm z s (last-turned s.c c _ (rw e (omega arith))) dr
drawing_kept z honest ok s t (Next.reading c h q l e) o dr = calm z s (last-turned s.c c _ (rw e (omega arith))) dr
drawing_kept z honest ok s t (Next.publish c x h q l e) o dr = calm z s (last-turned s.c c _ (rw e (omega arith))) dr
drawing_kept z honest ok s t (Next.raise c h q l e) o dr = calm z s (last-turned s.c c _ (rw e (omega arith))) dr
drawing_kept z honest ok s t (Next.scan-first c bytes h q l e) o dr = calm z s (last-turned s.c c _ (rw e (omega arith))) dr
drawing_kept z honest ok s t (Next.scan_second c x h q l e) o dr = calm z s (last-turned s.c c _ (rw e (omega arith))) dr
drawing_kept z honest ok s t (Next.scan-reading c h q l e) o dr = calm z s (last-turned s.c c _ (rw e (omega arith))) dr
drawing_kept z honest ok s t (Next.acknowledged c x h q l e) o dr = calm z s (last-turned s.c c _ (rw e (omega arith))) dr
drawing_kept z honest ok s t (Next.known c h q l e) o dr = calm z s (last-turned s.c c _ (rw e (omega arith))) dr
drawing_kept z honest ok s t (Next.draw c bytes a v h q l e ec es ab) o dr = drawn_drawing z s c bytes a v ok l e ec es ab o dr
drawing_kept z honest ok s t (Next.spent c bytes a h q l e) o dr = calm z s (last-turned s.c c _ (rw e (omega arith))) dr
drawing_kept z honest ok s t (Next.freeze c x a fl h q l e fr) o dr = calm z s (last-frozen s.c c x a e) dr
drawing_kept z honest ok s t (Next.empty c a h q l e pk) o dr = calm z s (last-turned s.c c _ (rw e (omega arith))) dr
drawing_kept z honest ok s t (Next.fetch c a x h q l e pk ne) o dr = calm z s (last-turned s.c c _ (rw e (omega arith))) dr
drawing_kept z honest ok s t (Next.store c i v x rest h q hi lo up l e) o dr = calm z s (λ w. omega arith) dr
drawing_kept z honest ok s t (Next.request c i v rest h q hi lo up l e) o dr = calm z s (λ w. omega arith) dr
drawing_kept z honest ok s t (Next.free c i fl rest h q hi lo up l e) o dr = calm z s (λ w. omega arith) dr
drawing_kept z honest ok s t (Next.passed i c m qs h q co) o dr = calm z s (λ w. omega arith) dr
drawing_kept z honest ok s t (Next.added i c v bytes a qs h q l lo up e co st few) o dr = calm z s (last-turned s.c c _ (rw e (omega arith))) dr
drawing_kept z honest ok s t (Next.formed i c v bytes a qs h q l lo up e co st en) o dr =
    let own = rw e at (o.own c l) in pointed_drawing z s c v bytes a (with_node a i) ok l e (with_below a i z.n lo up own.nodes) en own dr
drawing_kept z honest ok s t (Next.missed i c x n m ps y qs h q l lo up e co hi sn st) o dr = calm z s (last-turned s.c c _ (rw e (omega arith))) dr
drawing_kept z honest ok s t (Next.matched i c x n m ps b qs h q l lo up e co sn st eb few) o dr = calm z s (last-turned s.c c _ (rw e (omega arith))) dr
drawing_kept z honest ok s t (Next.ended i c x n m ps y qs h q l e co) o dr = calm z s (last-turned s.c c _ (rw e (omega arith))) dr
