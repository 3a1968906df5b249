-- Laws of parcels in a lent slice: their bytes, one more, one less, and the search for the oldest.
use mathlib.Core.Path.{◌≡◌, refl, sym, ap, ◌∙◌}
use mathlib.Core.Bool.{Bool, true, false, cond, ◌&&◌}
use mathlib.Core.List.{List, [], ◌∷◌, ◌++◌, append_assoc, append-nil}
use mathlib.Core.Option.{some}
use Prim.Native.Nat.{ℕ, suc, ◌+◌, ◌-◌, ◌*◌, ◌/◌, ◌%◌, ◌<◌, ◌≤◌}
use native.Mathlib.Omega.{arith}
use borrow.Author.Tests.{ltb-true, leb-true, eqb-true}
use lib.Dec.{eqb, leb, ltb}
use lib.ListN.{length, get_or, take, drop, set, length-append, length-take, length-drop, length-set}
use lib.Seq.{take-suc-set, take-add, take-length, drop-drop, drop_at, get_or-take, get_or-drop, length-take-le, paste, length-paste, take-paste}
use Rattle.parties.specs.declared.Measures.{Measures}
use Rattle.parties.specs.protocol.Measures.{passes}
use Rattle.parties.specs.protocol.Format.{read_number, write_number, write_many}
use Rattle.parties.proofs.protocol.formats.MeasureLaws.{passed}
use Rattle.parties.proofs.protocol.formats.PointerLaws.{length-number}
use Rattle.parties.proofs.records.BytesLaws.{four-read}
use Rattle.parties.proofs.records.SpliceLaws.{many-append}
use Rattle.title.proofs.PartLaws.{both_true}
use Rattle.runs.specs.Parcels.{Parcel, write_parcel, write_parcels, proper_key, proper, proper_all, Listed, keyed, bodies, FindsAt, Appended, Removed}

pub taken-short : (n : ℕ) (l : List ℕ) → length (take n l) ≤ length l
taken-short n l = omega (arith, length-take n l)

-- ---- bytes put after others

-- bytes stand after the first `used`
pub record Behind (post : List ℕ) (used : ℕ) (after b : List ℕ) : Type 0 where
  pub long : length after ≡ length post
  pub within : used + length b ≤ length post
  pub done : take (used + length b) after ≡ take used post ++ b

pub put_none : (post : List ℕ) (used : ℕ) → used ≤ length post → Behind post used post []
put_none post used h =
    let e : used + 0 ≡ used = omega arith in
    record { long = refl; within = omega arith; done = ap (λ (n : ℕ). take n post) e ∙ sym (append-nil (take used post)) }

module _ (post : List ℕ) (used : ℕ) (t b : List ℕ) (p : Behind post used t b) where
  -- a byte more
  pub put_byte : (at x : ℕ) → at ≡ used + length b → at < length post → Behind post used (set t at x) (b ++ (x ∷ []))
  put_byte at x e h =
      let l : length t ≡ length post = p.long in
      let n : used + length (b ++ (x ∷ [])) ≡ suc at = simp length-append (omega arith) in
      record {
        long = length-set t at x ∙ l;
        within = omega arith;
        done =
            ap (λ (m : ℕ). take m (set t at x)) n
            ∙ take-suc-set t at x (omega arith)
            ∙ ap (λ (m : ℕ). take m t ++ (x ∷ [])) e
            ∙ ap (λ (l : List ℕ). l ++ (x ∷ [])) p.done
            ∙ append_assoc (take used post) b (x ∷ []);
      }

  -- n bytes more
  pub put_bytes : (at : ℕ) (s : List ℕ) (n : ℕ) (u : List ℕ) → at ≡ used + length b → at + n ≤ length post → n ≤ length s → u ≡ paste t at s n
      → Behind post used u (b ++ take n s)
  put_bytes at s n u e h k g =
      let l : length t ≡ length post = p.long in
      let m : used + length (b ++ take n s) ≡ at + n = simp length-append (omega (arith, length-take-le n s k)) in
      record {
        long = ap length g ∙ length-paste t at s n (omega arith) k ∙ l;
        within = omega arith;
        done =
            ap (λ (m : ℕ). take m u) m
            ∙ ap (take (at + n)) g
            ∙ take-paste t at s n (omega arith) k
            ∙ ap (λ (m : ℕ). take m t ++ take n s) e
            ∙ ap (λ (l : List ℕ). l ++ take n s) p.done
            ∙ append_assoc (take used post) b (take n s);
      }

  -- bytes that are all copied
  pub put_all : (at : ℕ) (s : List ℕ) (u : List ℕ) → at ≡ used + length b → at + length s ≤ length post → u ≡ paste t at s (length s)
      → Behind post used u (b ++ s)
  put_all at s u e h g = rw take-length at (put_bytes at s (length s) u e h (omega arith) g)

-- ---- one parcel

-- its first seven bytes
abbrev pub heading : ℕ → ℕ → ℕ → ℕ → List ℕ
heading kind c i len = kind ∷ (write_number 1 c ++ (write_number 1 i ++ write_number 4 len))

pub heading_put : (post : List ℕ) (used kind c i len : ℕ) → used + 7 ≤ length post → (u : List ℕ)
    → u ≡ paste (set (set (set post used kind) (used + 1) (c % 256)) (used + 2) (i % 256)) (used + 3) (write_number 4 len) 4
    → (length u ≡ length post) × (take (used + 7) u ≡ take used post ++ heading kind c i len)
unfolding write_number
heading_put post used kind c i len h u e =
    let a = put_byte post used post [] (put_none post used (omega arith)) used kind (omega arith) (omega arith) in
    let b = put_byte post used _ _ a (used + 1) (c % 256) (omega arith) (omega arith) in
    let d = put_byte post used _ _ b (used + 2) (i % 256) (omega arith) (omega arith) in
    let g = put_bytes post used _ _ d (used + 3) (write_number 4 len) 4 u (omega arith) (omega arith) (omega (arith, length-number 4 len)) e in
    (g.long, g.done)

-- the number that its last four bytes say
four-join : (l : ℕ) → l < 4294967296 → ((l / 256 / 256 / 256 % 256 * 256 + l / 256 / 256 % 256) * 256 + l / 256 % 256) * 256 + l % 256 ≡ l
four-join l h =
    let a : l / 256 * 256 + l % 256 ≡ l = omega arith in
    let b : l / 256 / 256 * 256 + l / 256 % 256 ≡ l / 256 = omega arith in
    let c : l / 256 / 256 / 256 * 256 + l / 256 / 256 % 256 ≡ l / 256 / 256 = omega arith in
    let d : l / 256 / 256 / 256 % 256 ≡ l / 256 / 256 / 256 = omega arith in
    ap (λ (x : ℕ). ((x * 256 + l / 256 / 256 % 256) * 256 + l / 256 % 256) * 256 + l % 256) d
    ∙ ap (λ (x : ℕ). (x * 256 + l / 256 % 256) * 256 + l % 256) c
    ∙ ap (λ (x : ℕ). x * 256 + l % 256) b
    ∙ a

pub length-parcel : (p : Parcel) → length (write_parcel p) ≡ 7 + length p.bytes
unfolding write_number
length-parcel p = omega arith

pub length_one : (p : Parcel) → length (write_parcels (p ∷ [])) ≡ 7 + length p.bytes
unfolding write_many
length_one p = ap length (append-nil (write_parcel p)) ∙ length-parcel p

-- a parcel's heading and the two parts of its bytes
pub parcel_put : (post : List ℕ) (used kind c i : ℕ) (front rest : List ℕ) → used + (7 + (length front + length rest)) ≤ length post
    → (t : List ℕ) → length t ≡ length post → take (used + 7) t ≡ take used post ++ heading kind c i (length front + length rest)
    → (u : List ℕ) → u ≡ paste t (used + 7) (drop 0 front) (length front)
    → (v : List ℕ) → v ≡ paste u (used + 7 + length front) (drop 0 rest) (length rest)
    → Appended (record { kind = kind; client = c; node = i; bytes = front ++ rest } ∷ []) post used v (used + 7 + (length front + length rest))
unfolding write_number write_many
parcel_put post used kind c i front rest h t l d u e v g =
    let n : ℕ = length front + length rest in
    let a : Behind post used t (heading kind c i n) = record { long = l; within = omega arith; done = d } in
    let b = put_all post used t _ a (used + 7) front u (omega arith) (omega arith) e in
    let x = put_all post used u _ b (used + 7 + length front) rest v (omega (arith, length-append front [])) (omega arith) g in
    let p : Parcel = record { kind = kind; client = c; node = i; bytes = front ++ rest } in
    let w : (heading kind c i n ++ front) ++ rest ≡ write_parcels (p ∷ []) =
    ap (λ (m : ℕ). heading kind c i m ++ (front ++ rest)) (sym (length-append front rest))
    ∙ ap (λ (y : List ℕ). heading kind c i (length (front ++ rest)) ++ y) (sym (append-nil (front ++ rest)))
    in
    let k : used + length ((heading kind c i n ++ front) ++ rest) ≡ used + 7 + n = omega (arith, length-append front rest) in
    record {
      long = x.long;
      within = omega (arith, x.long);
      count = omega (arith, length_one p, length-append front rest);
      written = ap (λ (m : ℕ). take m v) (sym k) ∙ x.done ∙ ap (λ (y : List ℕ). take used post ++ y) w;
    }

-- ---- parcels one after the other

pub appended_none : (post : List ℕ) (used : ℕ) → used ≤ length post → Appended [] post used post used
unfolding write_many
appended_none post used h = record { long = refl; within = h; count = omega arith; written = sym (append-nil (take used post)) }

pub appended_more : (p q : List Parcel) (post : List ℕ) (used : ℕ) (mid : List ℕ) (at : ℕ) (after : List ℕ) (r : ℕ)
    → Appended p post used mid at → Appended q mid at after r → Appended (p ++ q) post used after r
appended_more p q post used mid at after r x y =
    let e : write_parcels (p ++ q) ≡ write_parcels p ++ write_parcels q = many-append write_parcel p q in
    record {
      long = y.long ∙ x.long;
      within = y.within;
      count = omega (arith, x.count, y.count, ap length e, length-append (write_parcels p) (write_parcels q));
      written =
          y.written
          ∙ ap (λ (l : List ℕ). l ++ write_parcels q) x.written
          ∙ append_assoc (take used post) (write_parcels p) (write_parcels q)
          ∙ ap (λ (l : List ℕ). take used post ++ l) (sym e);
    }

pub removed_all : (post : List ℕ) (used at end : ℕ) → at ≤ end → end ≤ used → used ≤ length post
    → (after : List ℕ) → after ≡ paste post at (drop end post) (used - end)
    → Removed at end post used after (used - (end - at))
removed_all post used at end a b h after f =
    let n : ℕ = used - end in
    let k : n ≤ length (drop end post) = omega (arith, length-drop end post) in
    let l : length after ≡ length post = ap length f ∙ length-paste post at (drop end post) n (omega arith) k in
    let r : used - (end - at) ≡ at + n = omega arith in
    let u : used ≡ end + n = omega arith in
    let d : drop end (take used post) ≡ take n (drop end post) =
    ap (λ (m : ℕ). drop end (take m post)) u
    ∙ ap (drop end) (take-add end n post)
    ∙ drop_at (take end post) (take n (drop end post)) end (length-take-le end post (omega arith))
    in
    record {
      long = l;
      within = omega arith;
      count = omega arith;
      written =
          ap (λ (m : ℕ). take m after) r
          ∙ ap (take (at + n)) f
          ∙ take-paste post at (drop end post) n (omega arith) k
          ∙ ap (λ (y : List ℕ). take at post ++ y) (sym d);
    }

-- ---- the search for the oldest

pub bodies-append : (kind c i : ℕ) (p q : List Parcel) → bodies kind c i (p ++ q) ≡ bodies kind c i p ++ bodies kind c i q
unfolding bodies
bodies-append kind c i [] q = refl
bodies-append kind c i (x ∷ p) q = go (keyed kind c i x) (bodies-append kind c i p q)
  where
    go : (b : Bool) → bodies kind c i (p ++ q) ≡ bodies kind c i p ++ bodies kind c i q
        → cond b (x.bytes ∷ bodies kind c i (p ++ q)) (bodies kind c i (p ++ q))
        ≡ cond b (x.bytes ∷ bodies kind c i p) (bodies kind c i p) ++ bodies kind c i q
    go true e = ap (λ (l : List (List ℕ)). x.bytes ∷ l) e
    go false e = e

-- the bounds of a key's numbers
pub key-client : (s : Measures) (kind c i : ℕ) → proper_key s kind c i ≡ true → c < s.m
unfolding proper_key
key-client s kind c i e = ltb-true c s.m (both_true (ltb c s.m) _ (both_true (leb kind 3) _ e).1).0

pub key-node : (s : Measures) (kind c i : ℕ) → proper_key s kind c i ≡ true → i ≤ s.n
unfolding proper_key
key-node s kind c i e = go (leb kind 1) (both_true (ltb c s.m) _ (both_true (leb kind 3) _ e).1).1
  where
    go : (b : Bool) → cond b (eqb i 0) (leb 1 i && leb i s.n) ≡ true → i ≤ s.n
    go true q = omega (arith, eqb-true i 0 q)
    go false q = leb-true i s.n (both_true (leb 1 i) _ q).1

-- parcels before a place, none of them looked for, and those from there on
pub record Passed (s : Measures) (kind c i : ℕ) (q : List Parcel) (used : ℕ) (post : List ℕ) (at : ℕ) : Type 0 where
  pub before : List Parcel
  pub rest : List Parcel
  pub parts : q ≡ before ++ rest
  pub none : bodies kind c i before ≡ []
  pub first : at ≡ length (write_parcels before)
  pub left : drop at (take used post) ≡ write_parcels rest
  pub good : proper_all s rest ≡ true

pub passed_none : (s : Measures) (kind c i : ℕ) (q : List Parcel) (used : ℕ) (post : List ℕ) → Listed s q used post → Passed s kind c i q used post 0
unfolding bodies write_many
passed_none s kind c i q used post l =
    record { before = []; rest = q; parts = refl; none = refl; first = refl; left = l.written; good = l.all_proper }

-- the bytes of the parcel at a place
module _ (s : Measures) (ok : passes s ≡ true) (used : ℕ) (post : List ℕ) (at : ℕ) (h : used ≤ length post) (p : Parcel) (tail : List Parcel)
    (e : drop at (take used post) ≡ write_parcel p ++ write_parcels tail) (b : at + 7 ≤ used) (g : proper s p ≡ true) where
  byte_at : (k : ℕ) → k < 7 → get_or post (at + k) 0 ≡ get_or (write_parcel p ++ write_parcels tail) k 0
  byte_at k l =
      sym (get_or-take used post (at + k) 0 (omega arith)) ∙ sym (get_or-drop at (take used post) k 0) ∙ ap (λ (x : List ℕ). get_or x k 0) e

  key-there : proper_key s p.kind p.client p.node ≡ true
  key-there = (both_true (proper_key s p.kind p.client p.node) _ g).0

  client-small : p.client < 256
  client-small = omega (arith, key-client s p.kind p.client p.node key-there, (passed s ok).clients.1)

  node-small : p.node < 256
  node-small = omega (arith, key-node s p.kind p.client p.node key-there, (passed s ok).nodes.1)

  length-small : length p.bytes < 4294967296
  length-small = ltb-true (length p.bytes) 4294967296 (both_true (proper_key s p.kind p.client p.node) _ g).1

  pub parcel-fits : at + (7 + length p.bytes) ≤ used
  parcel-fits =
      let n : length (take used post) ≡ used = length-take-le used post h in
      omega (arith, length-drop at (take used post), ap length e, length-append (write_parcel p) (write_parcels tail), length-parcel p)

  pub kind-there : get_or post at 0 ≡ p.kind
  kind-there = let z : at ≡ at + 0 = omega arith in ap (λ (x : ℕ). get_or post x 0) z ∙ byte_at 0 (omega arith)

  pub client-there : get_or post (at + 1) 0 ≡ p.client
  unfolding write_number
  client-there = byte_at 1 (omega arith) ∙ omega (arith, client-small)

  pub node-there : get_or post (at + 2) 0 ≡ p.node
  unfolding write_number
  node-there = byte_at 2 (omega arith) ∙ omega (arith, node-small)

  pub length-there : (n : ℕ) (r : List ℕ) → read_number 4 (drop (at + 3) post) ≡ some (record { value = n; rest = r }) → n ≡ length p.bytes
  unfolding write_number
  length-there n r x =
      let l : ℕ = length p.bytes in
      let w : get_or post (at + 3) 0 ≡ l / 256 / 256 / 256 % 256 = byte_at 3 (omega arith) in
      let x1 : get_or post (at + 3 + 1) 0 ≡ l / 256 / 256 % 256 = ap (λ (y : ℕ). get_or post y 0) (later 1) ∙ byte_at 4 (omega arith) in
      let x2 : get_or post (at + 3 + 2) 0 ≡ l / 256 % 256 = ap (λ (y : ℕ). get_or post y 0) (later 2) ∙ byte_at 5 (omega arith) in
      let x3 : get_or post (at + 3 + 3) 0 ≡ l % 256 = ap (λ (y : ℕ). get_or post y 0) (later 3) ∙ byte_at 6 (omega arith) in
      omega (arith, four-read post (at + 3) n r (omega arith) x, four-join l length-small)
    where
      later : (k : ℕ) → at + 3 + k ≡ at + (3 + k)
      later k = omega arith

  pub keyed-there : (kind c i : ℕ) → (eqb (get_or post at 0) kind && (eqb (get_or post (at + 1) 0) c && eqb (get_or post (at + 2) 0) i)) ≡ keyed kind c i p
  keyed-there kind c i = λ j. eqb (kind-there j) kind && (eqb (client-there j) c && eqb (node-there j) i)

  pub after-there : drop (at + (7 + length p.bytes)) (take used post) ≡ write_parcels tail
  after-there =
      sym (drop-drop (7 + length p.bytes) at (take used post))
      ∙ ap (drop (7 + length p.bytes)) e
      ∙ drop_at (write_parcel p) (write_parcels tail) (7 + length p.bytes) (length-parcel p)

module _ (z : Measures) (ok : passes z ≡ true) (kind c i : ℕ) (q : List Parcel) (used : ℕ) (post : List ℕ) (at : ℕ) (h : used ≤ length post) (a : at ≤ used)
    (s : Passed z kind c i q used post at) where
  left_length : used - at ≡ length (write_parcels s.rest)
  left_length = omega (arith, length-take-le used post h, length-drop at (take used post), ap length s.left)

  -- too few bytes for one more
  pub passed_end : used - at < 7 → bodies kind c i q ≡ []
  unfolding write_many
  passed_end l = go s.rest s.parts left_length
    where
      go : (rest : List Parcel) → q ≡ s.before ++ rest → used - at ≡ length (write_parcels rest) → bodies kind c i q ≡ []
      go [] e n = ap (bodies kind c i) (e ∙ append-nil s.before) ∙ s.none
      go (p ∷ rest) e n = absurd (omega (arith, length-append (write_parcel p) (write_parcels rest), length-parcel p))

  -- the parcel that stands there
  pub record Next : Type 0 where
    pub parcel : Parcel
    pub tail : List Parcel
    pub made : q ≡ s.before ++ (parcel ∷ tail)
    pub bytes : drop at (take used post) ≡ write_parcel parcel ++ write_parcels tail
    pub one : proper z parcel ≡ true
    pub all : proper_all z tail ≡ true

  pub passed_next : at + 7 ≤ used → Next
  unfolding write_many proper_all
  passed_next l = go s.rest s.parts s.left s.good left_length
    where
      go : (rest : List Parcel) → q ≡ s.before ++ rest → drop at (take used post) ≡ write_parcels rest → proper_all z rest ≡ true
          → used - at ≡ length (write_parcels rest) → Next
      go [] e w g n = absurd (omega arith)
      go (p ∷ rest) e w g n =
          record {
            parcel = p;
            tail = rest;
            made = e;
            bytes = w;
            one = (both_true (proper z p) (proper_all z rest) g).0;
            all = (both_true (proper z p) (proper_all z rest) g).1;
          }

  module _ (l : at + 7 ≤ used) (n : ℕ) (r : List ℕ) (x : read_number 4 (drop (at + 3) post) ≡ some (record { value = n; rest = r })) where
    length-next : n ≡ length (passed_next l).parcel.bytes
    length-next = let w = passed_next l in length-there z ok used post at h w.parcel w.tail w.bytes l w.one n r x

    pub next_fits : at + 7 + n ≤ used
    next_fits = let w = passed_next l in omega (arith, length-next, parcel-fits z ok used post at h w.parcel w.tail w.bytes l w.one)

    module _ (k : Bool) (f : k ≡ (eqb (get_or post at 0) kind && (eqb (get_or post (at + 1) 0) c && eqb (get_or post (at + 2) 0) i))) where
      keyed-next : k ≡ keyed kind c i (passed_next l).parcel
      keyed-next = let w = passed_next l in f ∙ keyed-there z ok used post at h w.parcel w.tail w.bytes l w.one kind c i

      -- it is looked for
      pub next-found : k ≡ true → FindsAt kind c i q at (at + 7 + n)
      next-found t =
          let w = passed_next l in
          record {
            before = s.before;
            parcel = w.parcel;
            rest = w.tail;
            parts = w.made;
            none = s.none;
            same = sym keyed-next ∙ t;
            first = s.first;
            last = omega (arith, length-next);
          }

      -- or not
      pub next_passed : k ≡ false → Passed z kind c i q used post (at + 7 + n)
      unfolding bodies write_many
      next_passed t =
          let w = passed_next l in
          let to : at + 7 + n ≡ at + (7 + length w.parcel.bytes) = omega (arith, length-next) in
          let b : bodies kind c i (w.parcel ∷ []) ≡ [] = ap (λ (y : Bool). cond y (w.parcel.bytes ∷ []) []) (sym keyed-next ∙ t) in
          let m : write_parcels (s.before ++ (w.parcel ∷ [])) ≡ write_parcels s.before ++ write_parcels (w.parcel ∷ []) =
          many-append write_parcel s.before (w.parcel ∷ [])
          in
          record {
            before = s.before ++ (w.parcel ∷ []);
            rest = w.tail;
            parts = w.made ∙ sym (append_assoc s.before (w.parcel ∷ []) w.tail);
            none = bodies-append kind c i s.before (w.parcel ∷ []) ∙ (λ j. s.none j ++ b j);
            first = omega (arith, s.first, length-next, ap length m, length-append (write_parcels s.before) (write_parcels (w.parcel ∷ [])), length_one w.parcel);
            left = ap (λ (y : ℕ). drop y (take used post)) to ∙ after-there z ok used post at h w.parcel w.tail w.bytes l w.one;
            good = w.all;
          }
