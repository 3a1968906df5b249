-- A fresh client's record: zeros, and then the client of each none.
use mathlib.Core.Path.{◌≡◌, refl, sym, ap, ◌∙◌}
use mathlib.Core.Bool.{true, false}
use mathlib.Core.List.{List, [], ◌∷◌, ◌++◌, append_assoc}
use Prim.Native.Nat.{ℕ, zero, suc, ◌+◌, ◌-◌, ◌*◌, ◌<◌, ◌≤◌}
use native.Mathlib.Nat.{suc-mul}
use native.Mathlib.Omega.{arith}
use borrow.Author.Tests.{le-leb, lt-leb}
use lib.ListN.{length, drop, set, replicate, length-replicate, length-set, replicate-append-replicate}
use lib.Seq.{take_all, paste}
use Rattle.parties.specs.declared.Measures.{Measures}
use Rattle.parties.specs.protocol.Format.{write_number, write_many, write_area}
use Rattle.parties.specs.protocol.Measures.{passes, pointer_size}
use Rattle.parties.specs.protocol.Version.{no_version}
use Rattle.parties.specs.protocol.Pointer.{none_pointer, write_version, write_named, write_pointer}
use Rattle.parties.specs.protocol.Directory.{write_index}
use Rattle.parties.specs.protocol.Answer.{refused, waits}
use Rattle.parties.specs.protocol.Client.{work_size, write_retained, retained, write_client, client_size, fresh_client}
use Rattle.parties.specs.protocol.ClientEvents.{unchanged, client_fresh}
use Rattle.parties.proofs.protocol.formats.PointerLaws.{length-number}
use Rattle.parties.specs.declared.Phase.{Phase}
use Rattle.parties.specs.client.Record.{record_of, area_size, marked}
use Rattle.parties.proofs.records.SpliceLaws.{drop_past, many-same, many_zeros}
use Rattle.parties.proofs.directory.RoomLaws.{many_replicated, many-last}
use Rattle.parties.proofs.directory.FreshLaws.{index-bytes}
use Rattle.parties.proofs.client.AreaLaws.{written-parts, idle_work}
use Rattle.parties.proofs.client.GateLaws.{long_record}

-- ---- marks

pub marked-none : (t : List ℕ) (at w : ℕ) → t ≡ marked t at w 0
unfolding marked
marked-none t at w = refl

pub marked_more : (t : List ℕ) (at w n : ℕ) → marked t at w (n + 1) ≡ set (marked t at w n) (at + n * w + 4) 255
unfolding marked
marked_more t at w n = let e : n + 1 ≡ suc n = omega arith in rw e refl

pub length_marked : (t : List ℕ) (at w n : ℕ) → length (marked t at w n) ≡ length t
unfolding marked
length_marked t at w zero = refl
length_marked t at w (suc n) = length-set (marked t at w n) (at + n * w + 4) 255 ∙ length_marked t at w n

set_past : (p q : List ℕ) (i v : ℕ) → set (p ++ q) (length p + i) v ≡ p ++ set q i v
set_past [] q i v = let e : 0 + i ≡ i = omega arith in rw e refl
set_past (x ∷ p) q i v = let e : suc (length p) + i ≡ suc (length p + i) = omega arith in rw e (ap (λ (l : List ℕ). x ∷ l) (set_past p q i v))

set_at_past : (p q : List ℕ) (n k i v : ℕ) → length p ≡ n → k ≡ n + i → set (p ++ q) k v ≡ p ++ set q i v
set_at_past p q n k i v e f = let g : k ≡ length p + i = omega arith in rw g (set_past p q i v)

-- none in k bytes
abbrev block : ℕ → List ℕ
block k = 0 ∷ 0 ∷ 0 ∷ 0 ∷ 255 ∷ replicate (k - 5) 0

abbrev blocks : ℕ → ℕ → List ℕ
blocks k n = write_many (λ b. b) (replicate n (block k))

mark_one : (k m : ℕ) (t : List ℕ) → 5 ≤ k → k ≤ m → set (replicate m 0 ++ t) 4 255 ≡ block k ++ (replicate (m - k) 0 ++ t)
mark_one k m t h l =
    let e : m ≡ suc (suc (suc (suc (suc (m - 5))))) = omega arith in
    let f : (k - 5) + (m - k) ≡ m - 5 = omega arith in
    ap (λ (n : ℕ). set (replicate n 0 ++ t) 4 255) e
    ∙ ap (λ (z : List ℕ). 0 ∷ 0 ∷ 0 ∷ 0 ∷ 255 ∷ (z ++ t)) (ap (λ (n : ℕ). replicate n 0) (sym f) ∙ sym (replicate-append-replicate (k - 5) (m - k) 0))
    ∙ ap (λ (z : List ℕ). 0 ∷ 0 ∷ 0 ∷ 0 ∷ 255 ∷ z) (append_assoc (replicate (k - 5) 0) (replicate (m - k) 0) t)

length_block : (k : ℕ) → 5 ≤ k → length (block k) ≡ k
length_block k h = omega (arith, length-replicate {A = ℕ} (k - 5) 0)

length_blocks : (k n : ℕ) → 5 ≤ k → length (blocks k n) ≡ n * k
length_blocks k n h = many_replicated (λ b. b) (block k) k n (length_block k h)

blocks_more : (k n : ℕ) (t : List ℕ) → blocks k n ++ (block k ++ t) ≡ blocks k (suc n) ++ t
blocks_more k n t = sym (append_assoc (blocks k n) (block k) t) ∙ ap (λ (l : List ℕ). l ++ t) (many-last (λ b. b) (block k) n)

module _ (k : ℕ) (h : 5 ≤ k) (p t : List ℕ) (at : ℕ) (e : length p ≡ at) (n : ℕ) where
  mark_some : (j : ℕ) → j ≤ n → marked (p ++ (replicate (n * k) 0 ++ t)) at k j ≡ p ++ (blocks k j ++ (replicate ((n - j) * k) 0 ++ t))
  unfolding marked write_many
  mark_some zero l = let z : n - 0 ≡ n = omega arith in rw z refl
  mark_some (suc j) l =
      let b = blocks k j in
      let r = replicate {A = ℕ} ((n - j) * k) 0 in
      let d : n - j ≡ suc (n - suc j) = omega arith in
      let m : (n - j) * k ≡ (n - suc j) * k + k = ap (λ (x : ℕ). x * k) d ∙ suc-mul (n - suc j) k in
      let y : (n - j) * k - k ≡ (n - suc j) * k = omega arith in
      ap (λ (l : List ℕ). set l (at + j * k + 4) 255) (mark_some j (omega arith))
      ∙ set_at_past p (b ++ (r ++ t)) at (at + j * k + 4) (j * k + 4) 255 e (omega arith)
      ∙ ap (λ (l : List ℕ). p ++ l)
      (set_at_past b (r ++ t) (j * k) (j * k + 4) 4 255 (length_blocks k j h) refl
      ∙ ap (λ (l : List ℕ). b ++ l) (mark_one k ((n - j) * k) t h (omega arith) ∙ ap (λ (x : ℕ). block k ++ (replicate x 0 ++ t)) y)
      ∙ blocks_more k j (replicate ((n - suc j) * k) 0 ++ t))

  mark-all : marked (p ++ (replicate (n * k) 0 ++ t)) at k n ≡ p ++ (blocks k n ++ t)
  mark-all =
      let z : (n - n) * k ≡ 0 = ap (λ (x : ℕ). x * k) (let d : n - n ≡ 0 = omega arith in d) ∙ (let y : 0 * k ≡ 0 = omega arith in y) in
      mark_some n (omega arith) ∙ ap (λ (x : ℕ). p ++ (blocks k n ++ (replicate x 0 ++ t))) z

-- ---- a fresh record's fields

none_area : (s : Measures) → write_area (pointer_size s) write_pointer none_pointer ≡ block (pointer_size s)
unfolding write_area write_pointer write_version write_named write_number write_many
none_area s =
    let e : pointer_size s - 5 ≡ suc (suc (pointer_size s - 7)) = omega arith in ap (λ (n : ℕ). 0 ∷ 0 ∷ 0 ∷ 0 ∷ 255 ∷ replicate n 0) (sym e)

none-version : write_version no_version ≡ block 5
unfolding write_version write_number
none-version = refl

-- ---- the event

module _ (s : Measures) (p : Phase) (area : List ℕ) where
  abbrev client : List ℕ
  client = record_of p area

  pub fresh-measures : passes s ≡ false → client_fresh s client ≡ unchanged (refused 1) client [] []
  unfolding client_fresh
  fresh-measures h = simp h

  pub fresh-short : passes s ≡ true → length area < area_size s → client_fresh s client ≡ unchanged (refused 2) client [] []
  unfolding client_fresh
  fresh-short h l = simp (h, long_record s p area ∙ lt-leb (area_size s) (length area) l)

  abbrev past : ℕ
  past = (s.m + 1) * pointer_size s

  -- the area as the code leaves it
  abbrev pub freshened : List ℕ
  freshened = marked (marked (paste area 0 (replicate (area_size s - 0) 0) (area_size s - 0)) 0 (pointer_size s) (s.m + 1)) past 5 s.m

  module _ (h : passes s ≡ true) (l : area_size s ≤ length area) where
    abbrev rest : List ℕ
    rest = drop (area_size s) area

    -- zeros, cut where the fields are
    cleared : paste area 0 (replicate (area_size s - 0) 0) (area_size s - 0)
        ≡ replicate ((s.m + 1) * pointer_size s) 0 ++ (replicate (s.m * 5) 0 ++ (replicate (s.m * 4) 0 ++ (replicate (work_size s) 0 ++ rest)))
    cleared =
        let n = area_size s in
        let a = replicate {A = ℕ} past 0 in
        let b = replicate {A = ℕ} (s.m * 5) 0 in
        let c = replicate {A = ℕ} (s.m * 4) 0 in
        let d = replicate {A = ℕ} (work_size s) 0 in
        let z : n - 0 ≡ n = omega arith in
        let y : 0 + n ≡ n = omega arith in
        let x : n ≡ past + (s.m * 5 + (s.m * 4 + work_size s)) = omega arith in
        ap (λ (m : ℕ). paste area 0 (replicate m 0) m) z
        ∙ (λ i. take_all n (replicate n 0) (omega (arith, length-replicate {A = ℕ} n 0)) i ++ drop (y i) area)
        ∙ ap (λ (m : ℕ). replicate m 0 ++ rest) x
        ∙ ap (λ (v : List ℕ). v ++ rest) (sym (replicate-append-replicate past (s.m * 5 + (s.m * 4 + work_size s)) 0))
        ∙ append_assoc a (replicate (s.m * 5 + (s.m * 4 + work_size s)) 0) rest
        ∙ ap (λ (v : List ℕ). a ++ v)
        (ap (λ (v : List ℕ). v ++ rest) (sym (replicate-append-replicate (s.m * 5) (s.m * 4 + work_size s) 0))
        ∙ append_assoc b (replicate (s.m * 4 + work_size s) 0) rest
        ∙ ap (λ (v : List ℕ). b ++ v)
        (ap (λ (v : List ℕ). v ++ rest) (sym (replicate-append-replicate (s.m * 4) (work_size s) 0)) ∙ append_assoc c d rest))

    fresh-fields : freshened
        ≡ blocks (pointer_size s) (s.m + 1) ++ (blocks 5 s.m ++ (replicate (s.m * 4) 0 ++ (replicate (work_size s) 0 ++ rest)))
    fresh-fields =
        let t = replicate {A = ℕ} (s.m * 4) 0 ++ (replicate (work_size s) 0 ++ rest) in
        let w : 5 ≤ pointer_size s = omega arith in
        ap (λ (u : List ℕ). marked (marked u 0 (pointer_size s) (s.m + 1)) past 5 s.m) cleared
        ∙ ap (λ (u : List ℕ). marked u past 5 s.m) (mark-all (pointer_size s) w [] (replicate (s.m * 5) 0 ++ t) 0 refl (s.m + 1))
        ∙ mark-all 5 (omega arith) (blocks (pointer_size s) (s.m + 1)) t past (length_blocks (pointer_size s) (s.m + 1) w) s.m

    retained-fields : write_retained s (retained (fresh_client s)) ≡ blocks (pointer_size s) (s.m + 1) ++ (blocks 5 s.m ++ replicate (s.m * 4) 0)
    unfolding write_retained write_many
    retained-fields =
        let e : suc s.m ≡ s.m + 1 = omega arith in
        (λ i. none_area s i
        ++ (many-same (write_area (pointer_size s) write_pointer) none_pointer (block (pointer_size s)) (none_area s) s.m i
        ++ (many-same write_version no_version (block 5) none-version s.m i ++ many_zeros write_index (record { 0 = 0 }) 4 index-bytes s.m i)))
        ∙ sym (append_assoc (block (pointer_size s)) (blocks (pointer_size s) s.m) (blocks 5 s.m ++ replicate (s.m * 4) 0))
        ∙ ap (λ (n : ℕ). blocks (pointer_size s) n ++ (blocks 5 s.m ++ replicate (s.m * 4) 0)) e

    beyond : drop (client_size s) client ≡ rest
    beyond =
        let n = write_number 4 p.reading.0 in
        let e : client_size s ≡ suc (4 + area_size s) = omega arith in
        ap (λ (m : ℕ). drop m client) e ∙ drop_past n area 4 (area_size s) (4 + area_size s) (length-number 4 p.reading.0) refl

    fresh_record : write_client s (fresh_client s) ++ drop (client_size s) client ≡ record_of (record { step = 0; reading = record { 0 = 0 } }) freshened
    fresh_record =
        let a = blocks (pointer_size s) (s.m + 1) in
        let b = blocks 5 s.m in
        let c = replicate {A = ℕ} (s.m * 4) 0 in
        let d = replicate {A = ℕ} (work_size s) 0 ++ rest in
        ap (λ (t : List ℕ). write_client s (fresh_client s) ++ t) beyond
        ∙ written-parts s (fresh_client s) rest
        ∙ ap (λ (t : List ℕ). record_of (record { step = 0; reading = record { 0 = 0 } }) t)
        ((λ i. retained-fields i ++ (idle_work s i ++ rest)) ∙ append_assoc a (b ++ c) d ∙ ap (λ (t : List ℕ). a ++ t) (append_assoc b c d) ∙ sym fresh-fields)

    pub fresh-written : client_fresh s client
        ≡ record { answer = waits; client = record_of (record { step = 0; reading = record { 0 = 0 } }) freshened; room = []; out = [] }
    unfolding client_fresh
    fresh-written =
        simp (h, long_record s p area ∙ le-leb (area_size s) (length area) l)
        (λ i. record { answer = waits; client = fresh_record i; room = []; out = [] })
