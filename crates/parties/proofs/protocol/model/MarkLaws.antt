-- What a step tells of the operation that it marks or begins, and that it leaves the other clients' operations.
use mathlib.Core.Path.{◌≡◌, refl, sym, ◌∙◌, ap}
use mathlib.Core.Bool.{false}
use mathlib.Core.List.{List}
use mathlib.Core.Option.{Option, some, none}
use Prim.Native.Nat.{ℕ, ◌≤◌, ◌<◌}
use native.Mathlib.Omega.{arith}
use borrow.Author.Tests.{eq-eqb, ne_eqb}
use lib.Dec.{eqb}
use Rattle.coding.proofs.PageLaws.{none≢some, some_eq}
use Rattle.parties.specs.declared.Version.{Version}
use Rattle.parties.specs.protocol.Pointer.{Pointer}
use Rattle.parties.specs.protocol.Run.{Reply, History, Operation, begin, bearing, ending, giving}
use Rattle.parties.proofs.protocol.model.Model.{num, ver, Past, drawn_by, choosing}
use Rattle.parties.proofs.protocol.invariants.Invariants.{Known}
use Rattle.parties.proofs.protocol.invariants.Chronicle.{Undrawn, Drawn, Unpicked, Picked, Current, Listed, ShownPointer, Deposited}
use Rattle.parties.proofs.protocol.model.VersionNumbers.{unnum_num}
use Rattle.parties.proofs.protocol.model.HistoryLaws.{marked_at, marked-last, opening, begun-last}
use Rattle.parties.proofs.protocol.invariants.RecordingLaws.{Fair, Same}

-- ---- the last operation of client c is marked

-- what every mark leaves of an operation
pub record Marking (b a : Operation) : Type 0 where
  pub client : a.client ≡ b.client
  pub page : a.page ≡ b.page
  pub version : (v : Version) → b.version ≡ some v → a.version ≡ some v

-- it bears its version since the mark
pub unborne : (b : Operation) (w : Option Version) → b.version ≡ none → (v : Version) → b.version ≡ some v → w ≡ some v
unborne b w n v e = absurd (none≢some (sym n ∙ e))

module _ (h : History) (c : ℕ) (a : Operation) (b : Current h c) (replied : List Reply) where
  -- the other clients' last operations are others
  pub marked_others : (j : ℕ) → (j ≡ c → ⊥) → Current h j → Same h (marked_at h c a replied) j
  marked_others j e i =
      record {
        begun = omega arith;
        latest = refl;
        operation = rw (ne_eqb (h.latest j) (h.latest c) (λ q. e (sym i.client ∙ ap (λ o. (h.operation o).client) q ∙ b.client))) refl;
      }

  pub marked_current : Marking (h.operation (h.latest c)) a → a.ended ≡ none → a.given ≡ none → Current (marked_at h c a replied) c
  marked_current m e n =
      let y = marked-last h c a replied in record { begun = b.begun; client = rw y (m.client ∙ b.client); unended = rw y e; given = rw y n }

-- ---- its end

-- it tells no more by its end
pub fair_ending : (h : History) (p : Past) (o time : ℕ) (a : Operation) → Fair h p o a → Fair h p o (ending time a)
fair_ending h p o time a f = record { draws = f.draws; reads = f.reads; pointer = f.pointer; gives = f.gives }

-- ---- a deposit's version

module _ (h : History) (p : Past) (c : ℕ) (bytes : List ℕ) (v : Version) (a : Undrawn h c bytes) where
  pub drawn_bearing : (replied : List Reply)
      → Drawn (marked_at h c (bearing v (h.operation (h.latest c))) replied) (drawn_by p (num v) bytes (h.latest c)) c v
  drawn_bearing replied =
      let y = marked-last h c (bearing v (h.operation (h.latest c))) replied in
      let same = eq-eqb (num v) (num v) refl in
      record { page = rw (y, same) a.page; version = rw y refl; deposit = rw same refl }

  pub deposited-bearing : (replied : List Reply) → h.latest c < h.begun → v.client < 256
      → Deposited (marked_at h c (bearing v (h.operation (h.latest c))) replied) (drawn_by p (num v) bytes (h.latest c)) (num v)
  deposited-bearing replied b l =
      let y = marked-last h c (bearing v (h.operation (h.latest c))) replied in
      let same = eq-eqb (num v) (num v) refl in
      record { begun = rw same b; page = rw same (rw y a.page); version = rw same (rw y (ap some (sym (unnum_num v l)))) }

  pub fair_bearing : Fair h p (h.latest c) (h.operation (h.latest c)) → Current h c → v.client < 8
      → Fair h (drawn_by p (num v) bytes (h.latest c)) (h.latest c) (bearing v (h.operation (h.latest c)))
  fair_bearing f b l =
      let same = eq-eqb (num v) (num v) refl in
      record {
        draws = λ y w e i.
            rw (← some_eq i) (record { drawn = rw same refl; deposit = rw same refl; page = rw same (some_eq (sym a.page ∙ e)); client = l });
        reads = λ w e i. absurd (none≢some (sym e ∙ a.page));
        pointer = λ x e. absurd (none≢some (sym (f.pointer x e).0 ∙ a.page));
        gives = λ y e. absurd (none≢some (sym b.given ∙ e));
      }

-- ---- a reading's pointer

pub picked_shown : (h : History) (p : Past) (w : ℕ) (x : Pointer) → (ver x ≡ 255 → ⊥) → Known p w x → Listed h x → ShownPointer h p x
picked_shown h p w x ne (Known.absent e) i = absurd (ne (ap ver e))
picked_shown h p w x ne (Known.formed d q c n) i = ShownPointer.put d q n i

pub picked_pointing : (h : History) (c : ℕ) (x : Pointer) → Unpicked h c → (replied : List Reply)
    → Picked (marked_at h c (choosing x (h.operation (h.latest c))) replied) c x
picked_pointing h c x a replied =
    let y = marked-last h c (choosing x (h.operation (h.latest c))) replied in record { page = rw y a.page; version = rw y refl; pointer = rw y refl }

module _ (h : History) (p : Past) (c : ℕ) (x : Pointer) where
  pub fair_pointing : Unpicked h c → Current h c → ShownPointer h p x → Fair h p (h.latest c) (choosing x (h.operation (h.latest c)))
  fair_pointing a b i =
      record {
        draws = λ y v e q. absurd (none≢some (sym a.page ∙ e));
        reads = λ v e q. (x, refl, some_eq q, i);
        pointer = λ y e. (a.page, ap (λ (w : Pointer). some w.version) (some_eq e));
        gives = λ y e. absurd (none≢some (sym b.given ∙ e));
      }

  -- it gives the page of its version
  pub fair_giving : Picked h c x → 256 ≤ ver x → Fair h p (h.latest c) (h.operation (h.latest c))
      → Fair h p (h.latest c) (giving (p.pages (ver x)) (h.operation (h.latest c)))
  fair_giving a l f =
      record { draws = f.draws; reads = f.reads; pointer = f.pointer; gives = λ b e. (x, a.page, a.pointer, l, sym (some_eq e)) }

-- ---- client c begins an operation

module _ (h : History) (c : ℕ) (page : Option (List ℕ)) where
  pub begun_current : Current (begin c page h) c
  begun_current =
      let y = begun-last h c page in
      record {
        begun = rw (eq-eqb c c refl) (omega arith);
        client = ap (λ o. o.client) y;
        unended = ap (λ o. o.ended) y;
        given = ap (λ o. o.given) y;
      }

  -- the others' last operations are older ones
  pub begun_others : (j : ℕ) → eqb j c ≡ false → Current h j → Same h (begin c page h) j
  begun_others j f b =
      record {
        begun = omega arith;
        latest = rw f refl;
        operation = rw f (rw (ne_eqb (h.latest j) h.begun (λ i. omega (arith, b.begun))) refl);
      }

  -- it tells nothing yet
  pub begun_fair : (p : Past) (o : ℕ) → Fair h p o (opening c page h.time)
  begun_fair p o =
      record {
        draws = λ b v e i. absurd (none≢some i);
        reads = λ v e i. absurd (none≢some i);
        pointer = λ x e. absurd (none≢some e);
        gives = λ b e. absurd (none≢some e);
      }
