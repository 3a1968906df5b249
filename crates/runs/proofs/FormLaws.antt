-- The form of a list of parcels: what a heading at a place tells of the list from there on.
use mathlib.Core.Path.{◌≡◌, refl, sym, ap, ◌∙◌}
use mathlib.Core.Bool.{true, false, false≢true}
use mathlib.Core.Logic.{◌⊎◌, inl, inr}
use mathlib.Core.List.{List, [], ◌∷◌, ◌++◌, append_assoc}
use mathlib.Core.Option.{some}
use Prim.Native.Nat.{ℕ, suc, ◌+◌, ◌-◌, ◌%◌, ◌<◌, ◌≤◌}
use native.Mathlib.Omega.{arith}
use borrow.Author.Tests.{lt-ltb, le-ltb, lt-leb, le-leb}
use lib.Dec.{eqb, leb}
use lib.ListN.{length, get_or, take, drop, length-append, length-drop}
use lib.Seq.{take-add, take_at, drop_at, drop-drop, drop-cons, get_or-drop, length-take-le}
use Rattle.parties.specs.declared.Measures.{Measures}
use Rattle.parties.specs.protocol.Measures.{passes}
use Rattle.parties.specs.protocol.Format.{read_number, write_number, write_many}
use Rattle.parties.proofs.protocol.formats.FormatLaws.{format_number}
use Rattle.parties.proofs.protocol.formats.MeasureLaws.{passed}
use Rattle.parties.proofs.protocol.formats.PointerLaws.{length-number}
use Rattle.title.proofs.PartLaws.{both_true}
use Rattle.runs.specs.declared.parcels.Kind.{Kind}
use Rattle.runs.specs.Parcels.{kind_of, Parcel, write_parcel, write_parcels, proper_key, proper, proper_all, Listed, IsList, ListFrom, HeadingAt}
use Rattle.runs.proofs.PostLaws.{length-parcel, key-client, key-node, length-there, parcel-fits, kind-there, client-there, node-there, after-there}

-- ---- from the start on

pub from_list : (s : Measures) (used : ℕ) (post : List ℕ) (q : List Parcel) → Listed s q used post → ListFrom s used post 0
from_list s used post q l = record { parcels = q; written = l.written; all_proper = l.all_proper }

pub is_list : (s : Measures) (used : ℕ) (post : List ℕ) → used ≤ length post → ListFrom s used post 0 → IsList s used post
is_list s used post h l = record { parcels = l.parcels; listed = record { within = h; written = l.written; all_proper = l.all_proper } }

-- nothing is left
no_bytes : (l : List ℕ) → length l ≡ 0 → l ≡ []
no_bytes [] e = refl
no_bytes (x ∷ l) e = absurd (omega arith)

pub list_end : (s : Measures) (used : ℕ) (post : List ℕ) (at : ℕ) → used ≤ length post → used ≤ at → ListFrom s used post at
unfolding write_many proper_all
list_end s used post at h l =
    record { parcels = []; written = no_bytes (drop at (take used post)) (omega (arith, length-drop at (take used post), length-take-le used post h)); all_proper = refl }

-- ---- one parcel

one_byte : (c : ℕ) → c < 256 → write_number 1 c ≡ c ∷ []
unfolding write_number
one_byte c h = let e : c % 256 ≡ c = omega arith in ap (λ (x : ℕ). x ∷ []) e

module _ (s : Measures) (ok : passes s ≡ true) (used : ℕ) (post : List ℕ) (h : used ≤ length post) (at : ℕ) where
  -- the first of a list that is not empty
  record First (l : ListFrom s used post at) : Type 0 where
    parcel : Parcel
    tail : List Parcel
    bytes : drop at (take used post) ≡ write_parcel parcel ++ write_parcels tail
    one : proper s parcel ≡ true
    all : proper_all s tail ≡ true

  long : length (drop at (take used post)) ≡ used - at
  long = omega (arith, length-drop at (take used post), length-take-le used post h)

  first : at < used → (l : ListFrom s used post at) → First l
  unfolding write_many proper_all
  first b l = go l.parcels l.written l.all_proper
    where
      go : (q : List Parcel) → drop at (take used post) ≡ write_parcels q → proper_all s q ≡ true → First l
      go [] e g = absurd (omega (arith, long, ap length e))
      go (p ∷ q) e g = record { parcel = p; tail = q; bytes = e; one = (both_true (proper s p) (proper_all s q) g).0; all = (both_true (proper s p) (proper_all s q) g).1 }

  pub none-short : at < used → used - at < 7 → ListFrom s used post at → ⊥
  none-short b few l =
      let f = first b l in
      omega (arith, long, ap length f.bytes, length-append (write_parcel f.parcel) (write_parcels f.tail), length-parcel f.parcel)

  pub none-key : at + 7 ≤ used → proper_key s (get_or post at 0) (get_or post (at + 1) 0) (get_or post (at + 2) 0) ≡ false → ListFrom s used post at → ⊥
  none-key b k l =
      let f = first (omega arith) l in
      let p = f.parcel in
      let same : proper_key s (get_or post at 0) (get_or post (at + 1) 0) (get_or post (at + 2) 0) ≡ proper_key s p.kind p.client p.node =
      λ j. proper_key s (kind-there s ok used post at h p f.tail f.bytes b f.one j) (client-there s ok used post at h p f.tail f.bytes b f.one j)
      (node-there s ok used post at h p f.tail f.bytes b f.one j)
      in
      false≢true (sym k ∙ same ∙ (both_true (proper_key s p.kind p.client p.node) _ f.one).0)

  pub none-long : (n : ℕ) (r : List ℕ) → at + 7 ≤ used → read_number 4 (drop (at + 3) post) ≡ some (record { value = n; rest = r }) → used - at - 7 < n
      → ListFrom s used post at → ⊥
  none-long n r b x many l =
      let f = first (omega arith) l in
      omega (arith, length-there s ok used post at h f.parcel f.tail f.bytes b f.one n r x, parcel-fits s ok used post at h f.parcel f.tail f.bytes b f.one)

  module _ (end : ℕ) (t : HeadingAt s used post at end) where
    reach : at + 7 ≤ used
    reach = omega (arith, t.last, t.within)

    -- a list from here is one from there
    pub list-next : ListFrom s used post at → ListFrom s used post end
    list-next l =
        let f = first (omega (arith, reach)) l in
        let n : t.len ≡ length f.parcel.bytes = length-there s ok used post at h f.parcel f.tail f.bytes reach f.one t.len _ t.read in
        let e : end ≡ at + (7 + length f.parcel.bytes) = omega (arith, t.last, n) in
        record {
          parcels = f.tail;
          written = ap (λ (x : ℕ). drop x (take used post)) e ∙ after-there s ok used post at h f.parcel f.tail f.bytes reach f.one;
          all_proper = f.all;
        }

    -- and the other way round
    module _ (all : (i : ℕ) → get_or post i 0 < 256) where
      bytes : (i : ℕ) → get_or (drop (at + 3) post) i 0 < 256
      bytes i = rw (get_or-drop (at + 3) post i 0) (all (at + 3 + i))

      len-small : t.len < 4294967296
      len-small = ((format_number 4).only (drop (at + 3) post) _ bytes t.read).0

      body-long : length (take t.len (drop (at + 7) post)) ≡ t.len
      body-long = length-take-le t.len (drop (at + 7) post) (omega (arith, length-drop (at + 7) post, t.last, t.within))

      here : Parcel
      here = record { kind = get_or post at 0; client = get_or post (at + 1) 0; node = get_or post (at + 2) 0; bytes = take t.len (drop (at + 7) post) }

      three : take 3 (drop at post) ≡ get_or post at 0 ∷ get_or post (at + 1) 0 ∷ get_or post (at + 2) 0 ∷ []
      three =
          let a : at < length post = omega (arith, reach) in
          let b : at + 1 < length post = omega (arith, reach) in
          let c : at + 2 < length post = omega (arith, reach) in
          let e : suc at ≡ at + 1 = omega arith in
          let f : suc (at + 1) ≡ at + 2 = omega arith in
          ap (take 3)
          (drop-cons post at 0 a
          ∙ ap (λ (l : List ℕ). get_or post at 0 ∷ l)
          (ap (λ (n : ℕ). drop n post) e ∙ drop-cons post (at + 1) 0 b
          ∙ ap (λ (l : List ℕ). get_or post (at + 1) 0 ∷ l) (ap (λ (n : ℕ). drop n post) f ∙ drop-cons post (at + 2) 0 c)))

      four : take 4 (drop (at + 3) post) ≡ write_number 4 t.len
      four =
          ap (take 4) ((format_number 4).only (drop (at + 3) post) _ bytes t.read).1
          ∙ take_at (write_number 4 t.len) _ 4 (length-number 4 t.len)

      written-here : take (7 + t.len) (drop at post) ≡ write_parcel here
      unfolding here
      written-here =
          let c : get_or post (at + 1) 0 < 256 = omega (arith, key-client s (get_or post at 0) (get_or post (at + 1) 0) (get_or post (at + 2) 0) t.key, (passed s ok).clients.1) in
          let i : get_or post (at + 2) 0 < 256 = omega (arith, key-node s (get_or post at 0) (get_or post (at + 1) 0) (get_or post (at + 2) 0) t.key, (passed s ok).nodes.1) in
          take-add 7 t.len (drop at post)
          ∙ (λ j. (take-add 3 4 (drop at post) ∙ (λ i. three i ++ (ap (take 4) (drop-drop 3 at post) ∙ four) i)) j ++ take t.len (drop-drop 7 at post j))
          ∙ (λ j. get_or post at 0 ∷ (sym (one_byte (get_or post (at + 1) 0) c) j ++ (sym (one_byte (get_or post (at + 2) 0) i) j ++ (write_number 4 (sym body-long j) ++ take t.len (drop (at + 7) post)))))

      pub list-before : ListFrom s used post end → ListFrom s used post at
      unfolding write_many proper_all here
      list-before l =
          let m = used - end in
          let a : used ≡ at + (7 + t.len) + m = omega (arith, t.last, t.within) in
          let e : end ≡ at + (7 + t.len) = omega (arith, t.last) in
          let u : used ≡ end + m = omega (arith, t.within) in
          let w : take used post ≡ take end post ++ take m (drop end post) = ap (λ (n : ℕ). take n post) u ∙ take-add end m post in
          let v : take end post ≡ take at post ++ write_parcel here =
          ap (λ (n : ℕ). take n post) e ∙ take-add at (7 + t.len) post ∙ ap (λ (y : List ℕ). take at post ++ y) written-here
          in
          let rest : drop end (take used post) ≡ take m (drop end post) =
          ap (drop end) w ∙ drop_at (take end post) (take m (drop end post)) end (length-take-le end post (omega (arith, t.within)))
          in
          record {
            parcels = here ∷ l.parcels;
            written =
                ap (drop at) (w ∙ ap (λ (y : List ℕ). y ++ take m (drop end post)) v ∙ append_assoc (take at post) (write_parcel here) (take m (drop end post)))
                ∙ drop_at (take at post) (write_parcel here ++ take m (drop end post)) at (length-take-le at post (omega (arith, reach)))
                ∙ ap (λ (y : List ℕ). write_parcel here ++ y) (sym rest ∙ l.written);
            all_proper = rw (t.key, lt-ltb (length (take t.len (drop (at + 7) post))) 4294967296 (omega (arith, body-long, len-small))) l.all_proper;
          }

-- ---- the tests of a key, one after the other

pub kind-within : (kind : Kind) → kind_of kind ≤ 3
kind-within Kind.Call = omega arith
kind-within Kind.Return = omega arith
kind-within Kind.ToNode = omega arith
kind-within Kind.ToClient = omega arith

pub plain_kind : (kind : Kind) → (kind ≡ Kind.Call) ⊎ (kind ≡ Kind.Return) → kind_of kind ≤ 1
plain_kind kind (inl e) = rw e (omega arith)
plain_kind kind (inr e) = rw e (omega arith)

pub message_kind : (kind : Kind) → (kind ≡ Kind.ToNode) ⊎ (kind ≡ Kind.ToClient) → 1 < kind_of kind
message_kind kind (inl e) = rw e (omega arith)
message_kind kind (inr e) = rw e (omega arith)

module _ (s : Measures) (kind c i : ℕ) where
  pub key-kind : 3 < kind → false ≡ proper_key s kind c i
  unfolding proper_key
  key-kind h = sym (rw (lt-leb kind 3 h) refl)

  module _ (k : kind ≤ 3) where
    pub key-outside : s.m ≤ c → false ≡ proper_key s kind c i
    unfolding proper_key
    key-outside h = sym (rw (le-leb kind 3 k, le-ltb c s.m h) refl)

    module _ (l : c < s.m) where
      pub key-call : kind ≤ 1 → eqb i 0 ≡ proper_key s kind c i
      unfolding proper_key
      key-call h = sym (rw (le-leb kind 3 k, lt-ltb c s.m l, le-leb kind 1 h) refl)

      pub key_low : 1 < kind → i < 1 → false ≡ proper_key s kind c i
      unfolding proper_key
      key_low h j = sym (rw (le-leb kind 3 k, lt-ltb c s.m l, lt-leb kind 1 h, lt-leb 1 i j) refl)

      pub key_message : 1 < kind → 1 ≤ i → leb i s.n ≡ proper_key s kind c i
      unfolding proper_key
      key_message h j = sym (rw (le-leb kind 3 k, lt-ltb c s.m l, lt-leb kind 1 h, le-leb 1 i j) refl)
