-- The digest of a placed piece: what it is a digest of, that a first block has all or the front of that, and that it is 32 bytes.
use Rattle.std.proofs.Common.{◌≡◌, ℕ, zero, suc, ◌+◌, ◌/◌, ◌<◌, ◌≤◌, List, ◌∷◌, ◌++◌, length, get_or, take, drop, sym, refl, ap, ◌∙◌, arith, length-append, take-append-drop, length-take-le, take_all, get_or-take, take_at, ext_get_or, drop_at, set, replicate, min, ◌-◌, length-set, get_or-set_other, get_or-set_same, get_or-drop}
use borrow.Rule.Slice.PartMut.{put_mid}
use native.Mathlib.Decide.{dec_lt}
use lib.ListN.{get_or-append, get_or-eq_default}
use lib.Seq.{drop-append-add}
use Rattle.coding.specs.Bytes.{Bytes}
use Rattle.coding.specs.Sha256.{◌!◌, H₀, hash, compress, added, joined, padded, sha256}
use Rattle.coding.specs.Placed.{digest_input, piece_digest}
use Rattle.coding.proofs.BytesLaws.{zeros_at}
use Rattle.coding.proofs.Sha256Laws.{beyond, joined_at_lem, length-joined}

length-hash : (m : List ℕ) (i : ℕ) → length (hash H₀ m i) ≡ 8
unfolding hash compress added H₀
length-hash m zero = refl
length-hash m (suc i) = refl

length-sha256 : (m : List ℕ) → length (sha256 m) ≡ 32
unfolding sha256
length-sha256 m = length-joined (hash H₀ (padded m) (length (padded m) / 64)) ∙ omega (arith, length-hash (padded m) (length (padded m) / 64))

bytes-sha256 : (m : List ℕ) → Bytes (sha256 m)
unfolding sha256
bytes-sha256 m i = go (dec_lt i 32)
  where
    h : List ℕ
    h = hash H₀ (padded m) (length (padded m) / 64)

    go : Dec (i < 32) → get_or (joined h) i 0 < 256
    go (yes l) = rw (joined_at_lem h i (omega (arith, length-hash (padded m) (length (padded m) / 64)))) (omega arith)
    go (no l) =
        let z : length (joined h) ≤ i = omega (arith, length-joined h, length-hash (padded m) (length (padded m) / 64)) in
        rw (get_or-eq_default (joined h) 0 z) (omega arith)

pub digest_is : (v : List ℕ) (i : ℕ) (x : List ℕ) → sha256 (digest_input v i x) ≡ piece_digest v i x
unfolding piece_digest
digest_is v i x = refl

-- the string gives version, node and piece back
pub input_apart : (v w : List ℕ) (i j : ℕ) (x y : List ℕ) → length v ≡ length w → digest_input v i x ≡ digest_input w j y
    → (v ≡ w) × (i ≡ j) × (x ≡ y)
unfolding digest_input
input_apart v w i j x y l e =
    let n = length w in
    let rest : i ∷ x ≡ j ∷ y = sym (drop_at v (i ∷ x) n l) ∙ ap (drop n) e ∙ drop_at w (j ∷ y) n refl in
    (sym (take_at v (i ∷ x) n l) ∙ ap (take n) e ∙ take_at w (j ∷ y) n refl, cc rest, cc rest)

module _ (v : List ℕ) (i : ℕ) (x : List ℕ) where
  pub input_version : (j : ℕ) → j < length v → digest_input v i x ! j ≡ v ! j
  unfolding digest_input
  input_version j h = get_or-append v (i ∷ x) 0 j h

  pub input_node : (j : ℕ) → j ≡ length v → digest_input v i x ! j ≡ i
  unfolding digest_input
  input_node j q = beyond v (i ∷ x) j 0 (omega arith)

  pub input_piece : (j k : ℕ) → j ≡ length v + suc k → digest_input v i x ! j ≡ x ! k
  unfolding digest_input
  input_piece j k q = beyond v (i ∷ x) j (suc k) q

  -- b, a block, has the first bytes: all of a short piece, or 58 bytes of a longer one
  module _ (b : List ℕ) (five : length v ≡ 5) (block : length b ≡ 64) (same : (j : ℕ) → j < 64 → b ! j ≡ digest_input v i x ! j) where
    length_input : length (digest_input v i x) ≡ 6 + length x
    unfolding digest_input
    length_input = length-append v (i ∷ x) ∙ omega arith

    first-bytes : (n : ℕ) → n ≤ 64 → n ≤ length (digest_input v i x) → take n b ≡ take n (digest_input v i x)
    first-bytes n h k =
        let c : n ≤ length b = omega arith in
        ext_get_or 0 (take n b) (take n (digest_input v i x)) (length-take-le n b c ∙ sym (length-take-le n (digest_input v i x) k))
        (λ j l. let d : j < n = rw (length-take-le n b c) at l in
        get_or-take n b j 0 d ∙ same j (omega arith) ∙ sym (get_or-take n (digest_input v i x) j 0 d))

    pub short-piece : length x ≤ 58 → take (6 + length x) b ≡ digest_input v i x
    short-piece h =
        first-bytes (6 + length x) (omega arith) (omega (arith, length_input))
        ∙ take_all (6 + length x) (digest_input v i x) (omega (arith, length_input))

    pub long-piece : 58 ≤ length x → b ++ drop 58 x ≡ digest_input v i x
    unfolding digest_input
    long-piece h =
        let rest : drop (length v + 59) (v ++ (i ∷ x)) ≡ drop 58 x = drop-append-add v (i ∷ x) 59 in
        let front : take 64 b ≡ b = take_all 64 b (omega arith) in
        rw (← rest, five, ← front, first-bytes 64 (omega arith) (omega (arith, length_input))) (take-append-drop 64 (v ++ (i ∷ x)))

-- version, node and the front of the piece, stored in a block of zeros
pub block_law : (v : List ℕ) (i : ℕ) (x u w : List ℕ) (m : ℕ) → length v ≡ 5 → u ≡ v → m ≡ min (length x) 58 → w ≡ take m x
    → (j : ℕ) → j < 64 → put_mid 6 (6 + m - 6) (set (u ++ replicate 59 0) 5 i) w ! j ≡ digest_input v i x ! j
block_law v i x u w m five ue me we j h = go (dec_lt j 5) (dec_lt 5 j) (dec_lt j (6 + m))
  where
    c : List ℕ
    c = set (u ++ replicate 59 0) 5 i

    long : length c ≡ 64
    long = length-set (u ++ replicate 59 0) 5 i ∙ length-append u (replicate 59 0) ∙ rw ue (omega (arith, five))

    front : length (take 6 c) ≡ 6
    front = length-take-le 6 c (omega (arith, long))

    piece : length w ≡ m
    piece = rw we (length-take-le m x (omega (arith, me)))

    below : j < 6 → put_mid 6 (6 + m - 6) c w ! j ≡ c ! j
    below l = get_or-append (take 6 c) _ 0 j (omega (arith, front)) ∙ get_or-take 6 c j 0 l

    behind : 6 ≤ j → put_mid 6 (6 + m - 6) c w ! j ≡ (w ++ drop (6 + m - 6) (drop 6 c)) ! (j - 6)
    behind l = beyond (take 6 c) _ j (j - 6) (omega (arith, front))

    go : Dec (j < 5) → Dec (5 < j) → Dec (j < 6 + m) → put_mid 6 (6 + m - 6) c w ! j ≡ digest_input v i x ! j
    go (yes a) b d =
        below (omega arith)
        ∙ get_or-set_other (u ++ replicate 59 0) 5 j i 0 (λ q. omega arith)
        ∙ get_or-append u (replicate 59 0) 0 j (rw ue (omega (arith, five)))
        ∙ ap (λ (y : List ℕ). y ! j) ue
        ∙ sym (input_version v i x j (omega (arith, five)))
    go (no a) (no b) d =
        let q : j ≡ 5 = omega arith in
        below (omega arith)
        ∙ ap (λ (y : ℕ). c ! y) q
        ∙ get_or-set_same (u ++ replicate 59 0) 5 i 0 (rw (length-append u (replicate 59 0), ue) (omega (arith, five)))
        ∙ sym (input_node v i x j (omega (arith, five)))
    go (no a) (yes b) (yes d) =
        behind (omega arith)
        ∙ get_or-append w _ 0 (j - 6) (omega (arith, piece))
        ∙ ap (λ (y : List ℕ). y ! (j - 6)) we
        ∙ get_or-take m x (j - 6) 0 (omega arith)
        ∙ sym (input_piece v i x j (j - 6) (omega (arith, five)))
    go (no a) (yes b) (no d) =
        let k = j - 6 - m in
        let p : length x ≤ j - 6 = omega (arith, me) in
        let q : 6 + (6 + m - 6 + k) ≡ j = omega arith in
        behind (omega arith)
        ∙ beyond w _ (j - 6) k (omega (arith, piece))
        ∙ get_or-drop (6 + m - 6) (drop 6 c) k 0
        ∙ get_or-drop 6 c (6 + m - 6 + k) 0
        ∙ ap (λ (y : ℕ). c ! y) q
        ∙ get_or-set_other (u ++ replicate 59 0) 5 j i 0 (λ e. omega arith)
        ∙ beyond u (replicate 59 0) j (j - 5) (rw ue (omega (arith, five)))
        ∙ zeros_at 59 (j - 5)
        ∙ sym (input_piece v i x j (j - 6) (omega (arith, five)) ∙ get_or-eq_default x 0 p)

pub length-digest : (v : List ℕ) (i : ℕ) (x : List ℕ) → length (piece_digest v i x) ≡ 32
unfolding piece_digest
length-digest v i x = length-sha256 (digest_input v i x)

pub bytes-digest : (v : List ℕ) (i : ℕ) (x : List ℕ) → Bytes (piece_digest v i x)
unfolding piece_digest
bytes-digest v i x = bytes-sha256 (digest_input v i x)
