-- What is known of the clients' pointers and turns: every step keeps `Owned`.
use mathlib.Core.Path.{◌≡◌, refl, sym, ap, ◌∙◌}
use mathlib.Core.Bool.{Bool, cond}
use mathlib.Core.List.{List}
use Prim.Native.Nat.{ℕ, ◌^◌, ◌≤◌, ◌<◌}
use native.Mathlib.Omega.{arith}
use borrow.Author.Tests.{eq-eqb, ne_eqb}
use lib.Pow.{pow_pos}
use Rattle.coding.proofs.NodesLaws.{nodes-none}
use Rattle.parties.specs.declared.Measures.{Measures}
use Rattle.parties.specs.declared.Version.{Version}
use Rattle.parties.specs.protocol.Nodes.{with_node}
use Rattle.parties.specs.protocol.Pointer.{Pointer}
use Rattle.parties.specs.protocol.Deposit.{pointer_of}
use Rattle.parties.specs.protocol.Run.{History}
use Rattle.parties.proofs.protocol.model.Cells.{by_eq, chosen}
use Rattle.parties.proofs.protocol.formats.MeasureLaws.{Passed}
use Rattle.parties.proofs.protocol.formats.NodeMapLaws.{with_below}
use Rattle.parties.proofs.protocol.model.Model.{num, ver, Rows, Turn, Clients, Shown, Nodes, Past, Model, put_by, shown_written, rows_of}
use Rattle.parties.proofs.protocol.model.Model.{turned, frozen_by, drawn_by, pointed_by, pointed, Picks, notices, Next}
use Rattle.parties.proofs.protocol.invariants.Invariants.{Known, KnownVersion, KnownRows, Storing, Forming, Own, Owned, Drawing}
use Rattle.parties.proofs.protocol.model.VersionNumbers.{num_client}
use Rattle.parties.proofs.protocol.model.PastLaws.{client-fits, Later, Stays, later_same, drawn_stays, drawn_later, pointed_stays}
use Rattle.parties.proofs.protocol.model.PastLaws.{pointed_later, formed_kept, known_kept, rows-kept, known_offer, version-kept, pointer-version, draw-fresh}
use Rattle.parties.proofs.protocol.invariants.LaggingKept.{moved}

-- a known pointer or version of client w, no higher than a number
abbrev KnownTo : Past → ℕ → ℕ → Pointer → Type 0
KnownTo p w n x = Known p w x × (ver x ≤ n)

abbrev VersionTo : Past → ℕ → ℕ → Version → Type 0
VersionTo p w n v = KnownVersion p w v × (num v ≤ n)

-- ---- the facts of a turn stay when the past goes on and other clients move

module _ (z : Measures) (p q : Past) (k l : Clients) (w : ℕ) (g : Later p q) (st : Stays p q w) (b : w < 256)
    (ew : l.written w ≡ k.written w) (er : l.reading w ≡ k.reading w) where
  storing-kept : (v : Version) (bytes : List ℕ) (a : ℕ) → Storing z p k w v bytes a → Storing z q l w v bytes a
  storing-kept v bytes a o =
      record {
        drawn = g.drawn (num v) o.drawn;
        page = g.pages (num v) o.drawn ∙ o.page;
        pointer = st (num v) (num_client v (omega (arith, o.client)) ∙ o.client) o.drawn ∙ o.pointer;
        client = o.client;
        newer = rw ew o.newer;
        sequence = o.sequence;
        nodes = o.nodes;
        few = o.few;
      }

  forming_kept : (x : Pointer) → Forming p k w x → Forming q l w x
  forming_kept x o =
      record {
        drawn = g.drawn (ver x) o.drawn;
        pointer = formed_kept p q x g o.drawn o.pointer o.proper;
        client = o.client;
        newer = rw ew o.newer;
        proper = o.proper;
      }

  own_kept : (t : Turn) → Own z p k w t → Own z q l w t
  own_kept Turn.idle o = tt
  own_kept (Turn.scanning bytes) o = o
  own_kept (Turn.scanned bytes a) o = (o.0, o.1, o.2 ∙ sym ew, rows-kept z p q a g o.3)
  own_kept (Turn.storing v bytes a) o = storing-kept v bytes a o
  own_kept (Turn.updating x) o = forming_kept x o
  own_kept (Turn.updated x) o = forming_kept x o
  own_kept (Turn.freezing x) o = forming_kept x o
  own_kept (Turn.noticing x a) o = (forming_kept x o.0, rows-kept z p q a g o.1)
  own_kept Turn.raising o = rw er o
  own_kept Turn.raised o = rw er o
  own_kept Turn.picking o = rw er o
  own_kept (Turn.picked a) o = (rw er o.0, rows-kept z p q a g o.1)
  own_kept (Turn.fetching x n m ps) o = (rw er o.0, o.1, known_kept p q x.version.client x g o.2, o.3)

-- ---- one client's turn changes

-- the past goes on, and the directory shows other known pointers perhaps
moved_owned : (z : Measures) (s : Model) (c : ℕ) (t : Turn) {r : ℕ → ℕ} {d : Shown} {n : Nodes} {p : Past} {h : History}
    → Passed z → Later s.p p → ((w : ℕ) → w < z.m → (w ≡ c → ⊥) → Stays s.p p w)
    → ((w : ℕ) → (w ≡ c → ⊥) → r w ≡ s.c.reading w) → Own z p (moved s.c c t r) c t
    → ((w q : ℕ) → w < z.m → KnownTo s.p w (ver (s.c.written w)) (d.frozen w q))
    → Owned z s → Owned z (record { c = moved s.c c t r; d = d; n = n; p = p; h = h })
moved_owned z s c t {r = r} {d = d} {p = p} ok g st er own sh o =
    record {
      own =
          λ w l. by_eq w c (λ f e. rw f (rw e own))
          (λ f e. rw f (own_kept z s.p p s.c (moved s.c c t r) w g (st w l e) (client-fits z w ok l) refl (er w e) (s.c.turn w) (o.own w l)));
      written = λ w l. known_kept s.p p w (s.c.written w) g (o.written w l);
      frozen = λ w q l. let x = o.frozen w q l in (known_kept s.p p w (s.c.frozen w q) g x.0, x.1);
      reserved = λ w q l. let x = o.reserved w q l in (version-kept s.p p w (s.c.reserved w q) g x.0, x.1);
      shown = λ w q l. let x = sh w q l in (known_kept s.p p w (d.frozen w q) g x.0, x.1);
      self = o.self;
    }

own_turned : (z : Measures) (p : Past) (k : Clients) (c : ℕ) (t : Turn) → Passed z → c < z.m → Own z p k c t → Own z p (turned k c t) c t
own_turned z p k c t ok l own =
    own_kept z p p k (turned k c t) c (later_same p) (λ v e d. refl) (client-fits z c ok l) refl refl t own

-- with the directory and the reading indices as they are
turned_owned : (z : Measures) (s : Model) (c : ℕ) (t : Turn) {n : Nodes} {p : Past} {h : History}
    → Passed z → c < z.m → Later s.p p → ((w : ℕ) → w < z.m → (w ≡ c → ⊥) → Stays s.p p w) → Own z p s.c c t
    → Owned z s → Owned z (record { c = turned s.c c t; d = s.d; n = n; p = p; h = h })
turned_owned z s c t {p = p} ok l g st own o = moved_owned z s c t ok g st (λ w e. refl) (own_turned z p s.c c t ok l own) o.shown o

-- with the past as it is
same_owned : (z : Measures) (s : Model) (c : ℕ) (t : Turn) {n : Nodes} {h : History}
    → Passed z → c < z.m → Own z s.p s.c c t → Owned z s → Owned z (record { c = turned s.c c t; d = s.d; n = n; p = s.p; h = h })
same_owned z s c t ok l own o = turned_owned z s c t ok l (later_same s.p) (λ w l e v q d. refl) own o

-- only nodes and queues change
nodes_owned : (z : Measures) (s : Model) {n : Nodes} {h : History} → Owned z s → Owned z (record { c = s.c; d = s.d; n = n; p = s.p; h = h })
nodes_owned z s o =
    record { own = o.own; written = o.written; frozen = o.frozen; reserved = o.reserved; shown = o.shown; self = o.self }

-- ---- what a scan shows is known

pub forming_known : (p : Past) (k : Clients) (w : ℕ) (x : Pointer) → Forming p k w x → Known p w x
forming_known p k w x o = Known.formed o.drawn o.pointer o.client o.proper

put_known : (z : Measures) (p : Past) (k : Clients) (w : ℕ) (t : Turn) → Own z p k w t → Known p w (k.written w) → Known p w (put_by t (k.written w))
put_known z p k w Turn.idle o h = h
put_known z p k w (Turn.scanning bytes) o h = h
put_known z p k w (Turn.scanned bytes a) o h = h
put_known z p k w (Turn.storing v bytes a) o h = h
put_known z p k w (Turn.updating x) o h = h
put_known z p k w (Turn.updated x) o h = forming_known p k w x o
put_known z p k w (Turn.freezing x) o h = forming_known p k w x o
put_known z p k w (Turn.noticing x a) o h = forming_known p k w x o.0
put_known z p k w Turn.raising o h = h
put_known z p k w Turn.raised o h = h
put_known z p k w Turn.picking o h = h
put_known z p k w (Turn.picked a) o h = h
put_known z p k w (Turn.fetching x n m ps) o h = h

pub written_known : (z : Measures) (s : Model) (w : ℕ) → w < z.m → Owned z s → Known s.p w (shown_written s.c w)
written_known z s w l o = put_known z s.p s.c w (s.c.turn w) (o.own w l) (o.written w l)

pub rows_known : (z : Measures) (s : Model) → Owned z s → KnownRows z s.p (rows_of s)
rows_known z s o w l = (written_known z s w l o, λ c. (o.shown w c l).0)

-- ---- events with content

-- a pick that is not none is known
pub pick_known : (z : Measures) (p : Past) (a : Rows) (c r : ℕ) (x : Pointer)
    → Picks z a c r x → (ver x ≡ 255 → ⊥) → KnownRows z p a
    → (x.version.client < z.m) × Known p x.version.client x × (256 ≤ ver x)
pick_known z p a c r x pk ne k = go (rw pk.offered at (known_offer z p a k c r pk.row pk.within))
  where
    go : Known p pk.row x → (x.version.client < z.m) × Known p x.version.client x × (256 ≤ ver x)
    go (Known.absent e) = absurd (ne (ap ver e))
    go (Known.formed d e q h) = (rw q pk.within, Known.formed d e refl h, h)

-- the version drawn is being stored, no node has acknowledged it
drawn_storing : (z : Measures) (p : Past) (k : Clients) (c : ℕ) (v : Version) (bytes : List ℕ) (o : ℕ)
    → Passed z → v.client ≡ c → ver (k.written c) < num v → 1 ≤ v.sequence.0 → v.sequence.0 < 2 ^ 32
    → Storing z (drawn_by p (num v) bytes o) k c v bytes 0
drawn_storing z p k c v bytes o ok ec less lo up =
    let f = eq-eqb (num v) (num v) refl in
    record {
      drawn = rw f;
      page = rw f;
      pointer = rw f;
      client = ec;
      newer = less;
      sequence = (lo, up);
      nodes = pow_pos z.n;
      few = rw (nodes-none 16) (omega (arith, ok.parts));
    }

-- enough nodes have acknowledged it, and its pointer is formed
stored_forming : (z : Measures) (p : Past) (k : Clients) (c : ℕ) (v : Version) (bytes : List ℕ) (a b : ℕ)
    → Storing z p k c v bytes a → Forming (pointed_by p (num v) (pointed z v bytes b)) k c (pointed z v bytes b)
unfolding pointer_of
stored_forming z p k c v bytes a b o =
    record { drawn = o.drawn; pointer = rw (eq-eqb (num v) (num v) refl); client = o.client; newer = o.newer; proper = omega arith }

-- a deposit's end
freeze_owned : (z : Measures) (s : Model) (c : ℕ) (x : Pointer) (a : Rows) {n : Nodes} {h : History}
    → Passed z → c < z.m → Forming s.p s.c c x → Owned z s → Owned z (record { c = frozen_by s.c c x a; d = s.d; n = n; p = s.p; h = h })
freeze_owned z s c x a ok l new o =
    record {
      own =
          λ w b. by_eq w c (λ f e. rw f tt)
          (λ f e.
          rw f
          (own_kept z s.p s.p s.c (frozen_by s.c c x a) w (later_same s.p) (λ v q d. refl) (client-fits z w ok b) (rw f) refl
          (s.c.turn w) (o.own w b)));
      written = λ w b. by_eq w c (λ f e. rw f (rw e (forming_known s.p s.c c x new))) (λ f e. rw f (o.written w b));
      frozen = λ w q b. by_eq w c (λ f e. rw f (rw e (frozen_at q))) (λ f e. rw f (o.frozen w q b));
      reserved = λ w q b. by_eq w c (λ f e. rw f (rw e (reserved_at q))) (λ f e. rw f (o.reserved w q b));
      shown = λ w q b. by_eq w c (λ f e. rw f (rw e (let y = o.shown c q l in (y.0, omega (arith, y.1))))) (λ f e. rw f (o.shown w q b));
      self = λ w b. by_eq w c (λ f e. rw f (rw e (rw (eq-eqb c c refl) (o.self c l)))) (λ f e. rw f (o.self w b));
    }
  where
    -- the pointers and versions of the client itself: the new one, the one written before, or an old one
    frozen_at : (q : ℕ) → KnownTo s.p c (ver x) (cond (notices s.c a c q) x (s.c.frozen c q))
    frozen_at q =
        chosen (KnownTo s.p c (ver x)) (notices s.c a c q) x (s.c.frozen c q)
        (forming_known s.p s.c c x new, omega arith) (let y = o.frozen c q l in (y.0, omega (arith, y.1)))

    reserved_at : (q : ℕ) → VersionTo s.p c (ver x) (cond (notices s.c a c q) (s.c.written c).version (s.c.reserved c q))
    reserved_at q =
        chosen (VersionTo s.p c (ver x)) (notices s.c a c q) (s.c.written c).version (s.c.reserved c q)
        (pointer-version s.p c (s.c.written c) (o.written c l), omega arith) (let y = o.reserved c q l in (y.0, omega (arith, y.1)))

pub owned_kept : (z : Measures) (honest : ℕ → Bool) → Passed z → (s t : Model) → Next z honest s t → Owned z s → Drawing z s → Owned z t
owned_kept z honest ok s t (Next.refused h q) o dr = nodes_owned z s o
owned_kept z honest ok s t (Next.deposit c bytes h q l e bb n) o dr =
    turned_owned z s c _ ok l (later_same s.p) (λ w l e v q d. refl) (bb, n) o
owned_kept z honest ok s t (Next.reading c h q l e) o dr =
    moved_owned z s c _ ok (later_same s.p) (λ w l e v q d. refl) (λ w e. rw (ne_eqb w c e))
    (rw (eq-eqb c c refl) (omega arith)) o.shown o
owned_kept z honest ok s t (Next.publish c x h q l e) o dr =
    moved_owned z s c _ ok (later_same s.p) (λ w l e v q d. refl) (λ w e. refl)
    (own_turned z s.p s.c c (Turn.updated x) ok l (rw e at (o.own c l)))
    (λ w q b. by_eq w c (λ f g. rw f (rw g (o.frozen c q l))) (λ f g. rw f (o.shown w q b))) o
owned_kept z honest ok s t (Next.raise c h q l e) o dr = same_owned z s c _ ok l (rw e at (o.own c l)) o
owned_kept z honest ok s t (Next.scan-first c bytes h q l e) o dr =
    let own = rw e at (o.own c l) in same_owned z s c _ ok l (own.0, own.1, rw e, rows_known z s o) o
owned_kept z honest ok s t (Next.scan_second c x h q l e) o dr = same_owned z s c _ ok l (rw e at (o.own c l), rows_known z s o) o
owned_kept z honest ok s t (Next.scan-reading c h q l e) o dr =
    same_owned z s c _ ok l (rw e at (o.own c l), rows_known z s o) o
owned_kept z honest ok s t (Next.acknowledged c x h q l e) o dr = same_owned z s c _ ok l (rw e at (o.own c l)) o
owned_kept z honest ok s t (Next.known c h q l e) o dr = same_owned z s c _ ok l (rw e at (o.own c l)) o
owned_kept z honest ok s t (Next.draw c bytes a v h q l e ec es ab) o dr =
    let f = draw-fresh z s c bytes a v ok o dr l e ec ab in
    turned_owned z s c _ ok l
    (drawn_later s.p (num v) bytes (s.h.latest c) f.1) (λ w b d u q y. drawn_stays s.p (num v) bytes (s.h.latest c) f.1 u y)
    (drawn_storing z s.p s.c c v bytes (s.h.latest c) ok ec f.0 (omega (arith, ab c l)) es) o
owned_kept z honest ok s t (Next.spent c bytes a h q l e) o dr = same_owned z s c _ ok l tt o
owned_kept z honest ok s t (Next.freeze c x a fl h q l e fr) o dr = freeze_owned z s c x a ok l (rw e at (o.own c l)).0 o
owned_kept z honest ok s t (Next.empty c a h q l e pk) o dr = same_owned z s c _ ok l tt o
owned_kept z honest ok s t (Next.fetch c a x h q l e pk ne) o dr =
    let own = rw e at (o.own c l) in
    let k = pick_known z s.p a c (s.c.reading c) x pk ne own.1 in
    same_owned z s c _ ok l (own.0, k.0, k.1, k.2) o
owned_kept z honest ok s t (Next.store c i v x rest h q hi lo up l e) o dr = nodes_owned z s o
owned_kept z honest ok s t (Next.request c i v rest h q hi lo up l e) o dr = nodes_owned z s o
owned_kept z honest ok s t (Next.free c i fl rest h q hi lo up l e) o dr = nodes_owned z s o
owned_kept z honest ok s t (Next.passed i c m qs h q co) o dr = nodes_owned z s o
owned_kept z honest ok s t (Next.added i c v bytes a qs h q l lo up e co st few) o dr =
    let own = rw e at (o.own c l) in
    same_owned z s c _ ok l
    (record {
      drawn = own.drawn;
      page = own.page;
      pointer = own.pointer;
      client = own.client;
      newer = own.newer;
      sequence = own.sequence;
      nodes = with_below a i z.n lo up own.nodes;
      few = few;
    }) o
owned_kept z honest ok s t (Next.formed i c v bytes a qs h q l lo up e co st en) o dr =
    let own = rw e at (o.own c l) in
    turned_owned z s c _ ok l
    (pointed_later s.p (num v) (pointed z v bytes (with_node a i)) own.pointer)
    (λ w b d u q y. pointed_stays s.p (num v) (pointed z v bytes (with_node a i)) u (λ f. d (omega (arith, own.client, client-fits z c ok l))))
    (stored_forming z s.p s.c c v bytes a (with_node a i) own) o
owned_kept z honest ok s t (Next.missed i c x n m ps y qs h q l lo up e co hi sn st) o dr =
    same_owned z s c _ ok l (rw e at (o.own c l)) o
owned_kept z honest ok s t (Next.matched i c x n m ps b qs h q l lo up e co sn st eb few) o dr =
    same_owned z s c _ ok l (rw e at (o.own c l)) o
owned_kept z honest ok s t (Next.ended i c x n m ps y qs h q l e co) o dr = same_owned z s c _ ok l tt o
