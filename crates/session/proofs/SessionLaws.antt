-- Laws of a session: fresh memory begins a run, and each operation goes on with it.
use mathlib.Core.Path.{◌≡◌, refl, sym, ap, ◌∙◌}
use mathlib.Core.Bool.{Bool, true}
use mathlib.Core.Logic.{inl, inr}
use mathlib.Core.List.{List, [], ◌∷◌, ◌++◌, append-nil, append_assoc}
use Prim.Native.Nat.{ℕ, zero, suc, ◌+◌, ◌-◌, ◌≤◌, ◌<◌}
use native.Mathlib.Decide.{ℕ_discrete, dec_le, dec_lt}
use native.Mathlib.Numerals.{add-one}
use native.Mathlib.Omega.{arith}
use lib.ListN.{length, take, drop, get_or, length-append}
use lib.Seq.{take-suc, length-take-le, drop-drop}
use Rattle.std.specs.Prelude.{Result, Ok}
use Rattle.parties.specs.declared.Measures.{Measures}
use Rattle.parties.specs.declared.Refusal.{Refusal}
use Rattle.parties.specs.protocol.Measures.{passes}
use Rattle.parties.specs.protocol.Answer.{refuses, serves}
use Rattle.parties.specs.protocol.Run.{Event}
use Rattle.parties.specs.protocol.Claim.{Lent as Given}
use Rattle.parties.specs.Answer.{served}
use Rattle.title.specs.Memory.{memory_size, memory_fresh}
use Rattle.title.specs.Part.{short}
use Rattle.title.proofs.FreshMemoryLaws.{fresh-refused}
use Rattle.title.proofs.Service.{fresh-serves}
use Rattle.runs.specs.declared.answer.EventEnd.{EventEnd}
use Rattle.runs.specs.UnderWay.{After}
use Rattle.runs.specs.Acts.{Lent}
use Rattle.runs.specs.Happens.{Happens}
use Rattle.runs.specs.Oldest.{honest_all}
use Rattle.runs.proofs.RunClaim.{fresh-after}
use Rattle.runs.proofs.OldestLaws.{Continues, continues_more, happens_continues, lent-more}
use Rattle.lines.proofs.ReadLaws.{begun-read}
use Rattle.session.specs.declared.session.Session.{Session}
use Rattle.session.specs.declared.settle.Settled.{Settled}
use Rattle.session.specs.Settle.{Settles}
use Rattle.session.specs.Session.{Runs, Live, new_line, started, Held, LiveIn, held, Feeds, FeedsAll, Gives, FeedsParts, FeedsInput}
use Rattle.session.proofs.SettleLaws.{settles_continue}

-- ---- a run begins

-- memory that was made fresh is long enough
pub fresh-long : (s : Measures) (memory : List ℕ) (a : Result ℕ Refusal) (k : ℕ) → passes s ≡ true → a ≡ Ok k → served a ≡ (memory_fresh s memory).answer
    → memory_size s ≤ length memory
fresh-long s memory a k ok e f = go (dec_le (memory_size s) (length memory))
  where
    go : Dec (memory_size s ≤ length memory) → memory_size s ≤ length memory
    go (yes h) = h
    go (no h) =
        let g : serves k ≡ refuses 2 = sym (ap served e) ∙ f ∙ sym (fresh-refused s memory 2 (short ok (omega arith))).0 in
        let z : ◌≡◌ {A = ℕ} 0 1 = cc in absurd (omega arith)

-- before the first line there is none
pub started-live : (memory post page : List ℕ) → Live started memory post page
started-live memory post page = record { runs = λ e. absurd (omega arith); line = []; read = begun-read page }

pub fresh-runs : (x : Session) (s : Measures) (memory after post : List ℕ) (a : Result ℕ Refusal) (k : ℕ) → x.measures ≡ s → x.used ≡ 0 → passes s ≡ true
    → a ≡ Ok k → served a ≡ (memory_fresh s memory).answer → after ≡ (memory_fresh s memory).memory → Runs x after post
fresh-runs x s memory after post a k m u ok e f g =
    record {
      events = [];
      lent = tt;
      measures = rw m ok;
      after =
          rw (m, u, g)
          (fresh-after s honest_all (memory_fresh s memory).memory post (fresh-serves s ok honest_all memory (fresh-long s memory a k ok e f)));
    }

-- a new line is read so far
pub new_live : (y : Session) (stage : ℕ) (s : Measures) (used : ℕ) (memory post page : List ℕ) → y ≡ new_line stage s used → (stage ≡ 1 → Runs y memory post)
    → Live y memory post page
new_live y stage s used memory post page e f =
    record { runs = λ o. f (sym (ap (λ (x : Session). x.stage) e) ∙ o); line = []; read = rw (ap (λ (x : Session). x.reading) e) (begun-read page) }

pub new_same : (y : Session) (stage : ℕ) (s : Measures) (used : ℕ) → y ≡ new_line stage s used → y ≡ new_line stage s y.used
new_same y stage s used e = e ∙ ap (λ (n : ℕ). new_line stage s n) (sym (ap (λ (x : Session). x.used) e))

-- ---- it goes on

pub runs_same : (x y : Session) (memory post : List ℕ) → y.measures ≡ x.measures → y.used ≡ x.used → Runs x memory post → Runs y memory post
runs_same x y memory post m u r = record { events = r.events; lent = r.lent; measures = rw m r.measures; after = rw (m, u) r.after }

-- a part of a slice has bytes in it, as the slice has
pub front_bytes : (n : ℕ) (b : List ℕ) → ((i : ℕ) → get_or b i 0 < 256) → (i : ℕ) → get_or (take n b) i 0 < 256
front_bytes zero b h i = omega arith
front_bytes (suc n) [] h i = omega arith
front_bytes (suc n) (a ∷ b) h zero = h 0
front_bytes (suc n) (a ∷ b) h (suc i) = front_bytes n b (λ j. h (suc j)) i

-- an operation: its start is an event of the run, and so is each parcel that is handed over
pub operation-runs : (x y : Session) (s : Measures) (used c : ℕ) (e : Event) (before after : Lent) (mid end : Lent) (result : EventEnd) (text text' : List ℕ) (r : Settled)
    → x.measures ≡ s → x.used ≡ used → Runs x before.memory before.post → y.measures ≡ s → y.used ≡ r.used
    → ((honest : ℕ → Bool) → Happens s honest e used before after result) → Given e → mid.memory ≡ after.memory → mid.post ≡ after.post
    → Settles s c result mid text end text' r → Runs y end.memory end.post
operation-runs x y s used c e before after mid end result text text' r m u h n v o g q w p =
    let a : After s honest_all h.events before.memory before.post used = rw (m, u) at h.after in
    let d : Continues s h.events mid.memory mid.post result.used = rw (q, w) (happens_continues s e used before after result (o honest_all) g h.events a) in
    let f =
    continues_more s h.events mid.memory mid.post end.memory end.post result.used r.used d
    (settles_continue s c result mid text end text' r p (h.events ++ d.more)) in
    record { events = h.events ++ f.more; lent = lent-more h.events f.more h.lent f.lent; measures = rw (n, ← m) h.measures; after = rw (n, v) f.after }

-- ---- bytes of the input

pub feeds_live : (x : Held) (bytes : List ℕ) (y : Held) → FeedsAll x bytes y → LiveIn x → LiveIn y
feeds_live x bytes y FeedsAll.begun l = l
feeds_live x bytes z (FeedsAll.more b a len y w h f) l = f.live (feeds_live x b y h l)

-- one byte more
pub feeds_more : (x y : Held) (lent : Lent) (page text input : List ℕ) (z w : Session) (i len : ℕ) → i < length input → FeedsAll x (take i input) y → w ≡ z
    → Feeds y (get_or input i 0) (held z lent page text) len → FeedsAll x (take (i + 1) input) (held w lent page text)
feeds_more x y lent page text input z w i len l h e f =
    rw (add-one i, take-suc input i 0 l, e) (FeedsAll.more (take i input) (get_or input i 0) len y (held z lent page text) h f)

feeds_then : (x y : Held) (a b : List ℕ) (z : Held) → FeedsAll x a y → FeedsAll y b z → FeedsAll x (a ++ b) z
feeds_then x y a b z h FeedsAll.begun = rw (append-nil a) h
feeds_then x y a b z h (FeedsAll.more bytes c len w v k f) =
    rw (← append_assoc a bytes (c ∷ [])) (FeedsAll.more (a ++ bytes) c len w z (feeds_then x y a bytes w h k) f)

-- ---- a read of standard input

-- one part more
pub input_more : (x y z : Held) (input before after : List ℕ) (most left : ℕ) (n : ℕ) → FeedsParts x input most y before left
    → (y.session.stage ≡ 2 → (n ≡ 0) × (after ≡ before)) → ((y.session.stage ≡ 2 → ⊥) → Gives left before after n) → (n ≡ 0 → ⊥) → FeedsAll y (take n after) z
    → FeedsParts x input most z after (left - n)
input_more x y z input before after most left n h u g l f =
    let d : y.session.stage ≡ 2 → ⊥ = λ e. l (u e).0 in FeedsParts.part y z before after left n h d (g d) (omega (arith, l)) f

-- ---- all parts together: the bytes that were fed, and what became of the slice

pub record Fed (x : Held) (input : List ℕ) (most : ℕ) (y : Held) (input' : List ℕ) (left : ℕ) : Type 0 where
  pub bytes : List ℕ
  pub count : length bytes + left ≡ most
  pub feeds : FeedsAll x bytes y
  pub same : length input' ≡ length input
  pub rest : drop most input' ≡ drop most input

-- one read leaves what is behind all that may be read
drop_more : (left most : ℕ) (a b : List ℕ) → left ≤ most → drop left a ≡ drop left b → drop most a ≡ drop most b
drop_more left most a b h e =
    let m : left + (most - left) ≡ most = omega arith in
    ap (λ (n : ℕ). drop n a) (sym m) ∙ sym (drop-drop (most - left) left a) ∙ ap (drop (most - left)) e ∙ drop-drop (most - left) left b ∙ ap (λ (n : ℕ). drop n b) m

parts_fed : (x : Held) (input : List ℕ) (most : ℕ) (y : Held) (before : List ℕ) (left : ℕ) → FeedsParts x input most y before left → Fed x input most y before left
parts_fed x input most y before left FeedsParts.unfed = record { bytes = []; count = omega arith; feeds = FeedsAll.begun; same = refl; rest = refl }
parts_fed x input most z after left (FeedsParts.part y w before b rest n h u g l f) =
    let d = parts_fed x input most y before rest h in
    let e : length (take n after) ≡ n = length-take-le n after (omega (arith, g.fits, g.same)) in
    record {
      bytes = d.bytes ++ take n after;
      count = omega (arith, d.count, e, g.few, length-append d.bytes (take n after));
      feeds = feeds_then x y d.bytes (take n after) z d.feeds f;
      same = g.same ∙ d.same;
      rest = drop_more rest most after before (omega (arith, d.count)) g.rest ∙ d.rest;
    }

pub input_fed : (x y : Held) (input input' : List ℕ) (most left : ℕ) → FeedsInput x input most y input' left → Fed x input most y input' left
input_fed x y input input' most left h = go (dec_lt 0 left) (ℕ_discrete y.session.stage 2)
  where
    d : Fed x input most y h.before left
    d = parts_fed x input most y h.before left h.parts

    go : Dec (0 < left) → Dec (y.session.stage ≡ 2) → Fed x input most y input' left
    go (yes l) (no e) =
        let g = h.last l e in
        record {
          bytes = d.bytes;
          count = d.count;
          feeds = d.feeds;
          same = g.same ∙ d.same;
          rest = drop_more left most input' h.before (omega (arith, d.count)) g.rest ∙ d.rest;
        }
    go (yes l) (yes e) = rw (h.unread (inr e)) d
    go (no l) e = rw (h.unread (inl (omega arith))) d

pub input_live : (x y : Held) (input input' : List ℕ) (most left : ℕ) → FeedsInput x input most y input' left → LiveIn x → LiveIn y
input_live x y input input' most left h l =
    let d = input_fed x y input input' most left h in feeds_live x d.bytes y d.feeds l
