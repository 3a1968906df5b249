-- Handing over the oldest parcel is the next event of a run.
use mathlib.Core.Path.{◌≡◌, refl, sym, subst}
use mathlib.Core.List.{List, [], ◌∷◌, ◌++◌, append-nil, append_assoc}
use Prim.Native.Nat.{ℕ, ◌≤◌}
use native.Mathlib.Omega.{arith}
use lib.ListN.{length, get_or}
use Rattle.std.specs.Prelude.{Result, Ok, Err}
use Rattle.parties.specs.declared.Refusal.{Refusal}
use Rattle.parties.specs.declared.Measures.{Measures}
use Rattle.parties.specs.protocol.Run.{Event, carry, hand, bring, deliver}
use Rattle.parties.specs.protocol.Claim.{AllLent, Lent as Given}
use Rattle.runs.specs.declared.answer.EventEnd.{EventEnd}
use Rattle.runs.specs.UnderWay.{After}
use Rattle.runs.specs.Acts.{Lent}
use Rattle.runs.specs.Happens.{PostRoomy, Happens}
use Rattle.runs.proofs.FormLaws.{from_list, none-key}
use Rattle.runs.specs.declared.parcels.Key.{Key}
use Rattle.runs.specs.Parcels.{Heads, call_kind, return_kind, to_node_kind, to_client_kind}
use Rattle.runs.specs.Oldest.{honest_all, client_in, node_in, without, Oldest, Fronts}

-- a run goes on, with every node honest
pub record Continues (s : Measures) (es : List Event) (memory post : List ℕ) (used : ℕ) : Type 0 where
  pub more : List Event
  pub lent : AllLent more
  pub after : After s honest_all (es ++ more) memory post used

-- events with lent memory, one list after the other
pub lent-more : (a b : List Event) → AllLent a → AllLent b → AllLent (a ++ b)
lent-more [] b h k = k
lent-more (e ∷ a) b h k = (h.0, lent-more a b h.1 k)

module _ (s : Measures) where
  -- nothing happens
  pub continues_same : (es : List Event) (memory post memory' post' : List ℕ) (used : ℕ) → memory' ≡ memory → post' ≡ post
      → After s honest_all es memory post used → Continues s es memory' post' used
  continues_same es memory post memory' post' used e g h = record { more = []; lent = tt; after = rw (append-nil es) (rw (e, g) h) }

  -- one run after another
  pub continues_more : (es : List Event) (memory post memory' post' : List ℕ) (used used' : ℕ) (c : Continues s es memory post used)
      → (After s honest_all (es ++ c.more) memory post used → Continues s (es ++ c.more) memory' post' used') → Continues s es memory' post' used'
  continues_more es memory post memory' post' used used' c f =
      let d = f c.after in
      record {
        more = c.more ++ d.more;
        lent = lent-more c.more d.more c.lent d.lent;
        after = subst (λ (l : List Event). After s honest_all l memory' post' used') (append_assoc es c.more d.more) d.after;
      }

  pub happens_continues : (e : Event) (used : ℕ) (x y : Lent) (result : EventEnd) → Happens s honest_all e used x y result → Given e
      → (es : List Event) → After s honest_all es x.memory x.post used → Continues s es y.memory y.post result.used
  happens_continues e used x y result (Happens.unready r u q) g es h =
      rw q (continues_same es x.memory x.post x.memory x.post used refl refl h)
  happens_continues e used x y result (Happens.happens t r l w f) g es h = record { more = e ∷ []; lent = (g, tt); after = (f es h).after }

  -- the room and the output have bytes in them: so has each event's that the parcel in front may be for
  pub oldest_continues : (used : ℕ) (x y : Lent) (result : EventEnd) → Oldest s used x y result → Given (deliver 0 0 x.room x.out)
      → (es : List Event) → After s honest_all es x.memory x.post used → Continues s es y.memory y.post result.used
  oldest_continues used x y result (Oldest.cramped r u e) g es h = rw e (continues_same es x.memory x.post x.memory x.post used refl refl h)
  oldest_continues used x y result (Oldest.form o u e) g es h = rw e (continues_same es x.memory x.post x.memory x.post used refl refl h)
  oldest_continues used x y result (Oldest.none o u e) g es h = rw e (continues_same es x.memory x.post x.memory x.post used refl refl h)
  oldest_continues used x y result (Oldest.call t l k o p) g es h = happens_continues _ used _ _ result p g.0 es h
  oldest_continues used x y result (Oldest.return t l k o p) g es h = happens_continues _ used _ _ result p g.0 es h
  oldest_continues used x y result (Oldest.to_node t l k o p) g es h = happens_continues _ used _ _ result p g.0 es h
  oldest_continues used x y result (Oldest.to_client t l k p) g es h = happens_continues _ used _ _ result p g es h

-- ---- the parcel in front, by its kind

pub front_by : (s : Measures) (post : List ℕ) (used : ℕ) → PostRoomy s (length post) used → 7 ≤ used → (r : Result Key Refusal) → Heads s post 0 r → Fronts s post used r
front_by s post used o l (Ok key) h = (l, sym h.0, h.1, h.2)
front_by s post used o l (Err r) h = (h.0, λ q p. none-key s o.measures used post (omega (arith, o.enough)) 0 l h.1 (from_list s used post q p))

module _ (s : Measures) (used : ℕ) (x y : Lent) (result : EventEnd) (l : 7 ≤ used) where
  module _ (o : y.out ≡ x.out) (c : ℕ) (e : c ≡ client_in x) where
    pub call_first : get_or x.post 0 0 ≡ call_kind → Happens s honest_all (carry c x.room) used (without x) (without y) result → Oldest s used x y result
    call_first k h = Oldest.call result l k o (rw (← e) h)

    pub return_first : get_or x.post 0 0 ≡ return_kind → Happens s honest_all (hand c x.room) used (without x) (without y) result → Oldest s used x y result
    return_first k h = Oldest.return result l k o (rw (← e) h)

    pub to_node_first : (i : ℕ) → i ≡ node_in x → get_or x.post 0 0 ≡ to_node_kind → Happens s honest_all (bring c i x.room) used (without x) (without y) result
        → Oldest s used x y result
    to_node_first i f k h = Oldest.to_node result l k o (rw (← e, ← f) h)

  pub to_client_first : (c i : ℕ) → c ≡ client_in x → i ≡ node_in x → get_or x.post 0 0 ≡ to_client_kind → Happens s honest_all (deliver i c x.room x.out) used x y result
      → Oldest s used x y result
  to_client_first c i e f k h = Oldest.to_client result l k (rw (← e, ← f) h)
