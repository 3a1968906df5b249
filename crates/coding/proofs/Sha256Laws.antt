-- Laws of the definitions of specs/Sha256, over plain numbers and lists, that the functions' proofs cite.
use Rattle.std.proofs.Common.{◌≡◌, ℕ, zero, suc, ◌+◌, ◌-◌, ◌*◌, ◌/◌, ◌%◌, ◌^◌, ◌<◌, ◌≤◌, List, [], ◌∷◌, ◌++◌, length, take, drop, set, replicate, sym, refl, ap, ◌∙◌, append_assoc, add_assoc, add-one, arith, length-append, length-take-le, get_or-set_other, get_or-take, get_or-set_same, take-suc-set, get_or-append-add, shr-shr, append-nil, length-drop, length-set, get_or-drop, take_all, take-suc, w32, w64}
use Rattle.std.specs.Int.{to_be_bytes}
use Rattle.std.proofs.Math.Nat.{div-div-eq-div-mul}
use Rattle.std.proofs.lemmas.Slice.{take-put_mid}
use borrow.Rule.Slice.PartMut.{put_mid}
use Rattle.coding.proofs.BytesLaws.{zeros_at}
use Prim.{Dec, yes, no}
use native.Mathlib.Decide.{dec_lt}
use lib.ListN.{length-replicate, get_or-replicate, get_or-append, get_or-eq_default}
use Rattle.coding.specs.Sha256.{◌!◌, bytes, padding, padded, word, words, scheduled, extended, schedule, K, round, rounds, compress, hash, joined, H₀, sha256}

-- a store right behind the first i elements
stored : (l : List ℕ) (i a : ℕ) → i < length l → take (i + 1) (set l i a) ≡ take i l ++ (a ∷ [])
stored l i a h = rw add-one (take-suc-set l i a h)

pub block_turn : (s m : List ℕ) (at j a : ℕ) → j < length m → take j m ≡ words s at j → a ≡ word s (at + 4 * j)
    → take (j + 1) (set m j a) ≡ words s at (j + 1)
unfolding words
block_turn s m at j a h o e = stored m j a h ∙ rw (o, e, add-one j)

-- step 1
pub extend_law : (w : List ℕ) (t a : ℕ) → 16 ≤ t → t < length w
    → a ≡ scheduled (w ! (t - 2)) (w ! (t - 7)) (w ! (t - 15)) (w ! (t - 16))
    → take (t + 1) (set w t a) ≡ extended (take t w) t
unfolding extended
extend_law w t a l h e =
    stored w t a h
    ∙ rw (
      get_or-take t w (t - 2) 0 (omega arith),
      get_or-take t w (t - 7) 0 (omega arith),
      get_or-take t w (t - 15) 0 (omega arith),
      get_or-take t w (t - 16) 0 (omega arith),
    )
    (ap (λ (x : ℕ). take t w ++ (x ∷ [])) e)

pub schedule_turn : (m w w' : List ℕ) (t u : ℕ) → u ≡ t + 1 → 16 ≤ t → take t w ≡ schedule m (t - 16)
    → take (t + 1) w' ≡ extended (take t w) t → take u w' ≡ schedule m (u - 16)
unfolding schedule
schedule_turn m w w' t u q l o e =
    let s : u - 16 ≡ suc (t - 16) = omega arith in
    let b : 16 + (t - 16) ≡ t = omega arith in
    rw (q, ← q, s, b) (rw q (e ∙ ap (λ (x : List ℕ). extended x t) o))

-- step 3
pub round_turn : (w h v r : List ℕ) (t u : ℕ) → u ≡ t + 1 → v ≡ rounds w h t → r ≡ round v (K ! t) (w ! t)
    → r ≡ rounds w h u
unfolding rounds
round_turn w h v r t u q o e = rw (q, add-one) (e ∙ ap (λ (x : List ℕ). round x (K ! t) (w ! t)) o)

pub hash_turn : (h s g m r : List ℕ) (i : ℕ) → g ≡ hash h s i → m ≡ words s (64 * i) 16 → r ≡ compress g m
    → r ≡ hash h s (i + 1)
unfolding hash
hash_turn h s g m r i o b e = rw add-one (e ∙ rw (o, b) refl)

pub beyond : (a b : List ℕ) (i k : ℕ) → i ≡ length a + k → (a ++ b) ! i ≡ b ! k
beyond a b i k q = rw q (get_or-append-add a b k 0)

-- bytes, the highest first
length-bytes : (n x : ℕ) → length (bytes n x) ≡ n
unfolding bytes
length-bytes zero x = refl
length-bytes (suc n) x =
    length-append (bytes n (x / 256)) (x % 256 ∷ []) ∙ omega (arith, length-bytes n (x / 256))

bytes_at : (n x k j : ℕ) → k + j + 1 ≡ n → bytes n x ! k ≡ x / 2 ^ (8 * j) % 256
unfolding bytes
bytes_at zero x k j q = absurd (omega arith)
bytes_at (suc n) x k zero q =
    let d : x / 1 ≡ x = omega arith in
    rw d (beyond (bytes n (x / 256)) (x % 256 ∷ []) k 0 (omega (arith, length-bytes n (x / 256))))
bytes_at (suc n) x k (suc j) q =
    let e : 8 + 8 * j ≡ 8 * suc j = omega arith in
    get_or-append (bytes n (x / 256)) (x % 256 ∷ []) 0 k (omega (arith, length-bytes n (x / 256)))
    ∙ bytes_at n (x / 256) k j (omega arith)
    ∙ ap (λ (y : ℕ). y % 256) (shr-shr x 8 (8 * j) ∙ ap (λ (y : ℕ). x / 2 ^ y) e)

pub joined_at_lem : (h : List ℕ) (i : ℕ) → i < 4 * length h → joined h ! i ≡ h ! (i / 4) / 2 ^ (8 * (3 - i % 4)) % 256
unfolding joined
joined_at_lem [] i g = absurd (omega arith)
joined_at_lem (x ∷ h) i g = go (dec_lt i 4) (joined_at_lem h (i - 4))
  where
    go : Dec (i < 4)
        → (i - 4 < 4 * length h → joined h ! (i - 4) ≡ h ! ((i - 4) / 4) / 2 ^ (8 * (3 - (i - 4) % 4)) % 256)
        → (bytes 4 x ++ joined h) ! i ≡ (x ∷ h) ! (i / 4) / 2 ^ (8 * (3 - i % 4)) % 256
    go (yes y) r =
        let a : i / 4 ≡ 0 = omega arith in
        let b : i % 4 ≡ i = omega arith in
        rw (a, b)
        (get_or-append (bytes 4 x) (joined h) 0 i (omega (arith, length-bytes 4 x))
        ∙ bytes_at 4 x i (3 - i) (omega arith))
    go (no n) r =
        let a : i / 4 ≡ suc ((i - 4) / 4) = omega arith in
        let b : i % 4 ≡ (i - 4) % 4 = omega arith in
        rw (a, b) (beyond (bytes 4 x) (joined h) i (i - 4) (omega (arith, length-bytes 4 x)) ∙ r (omega arith))

-- the bytes that the standard library gives
be_word : (x : ℕ) → to_be_bytes w32 x ≡ bytes 4 x
unfolding bytes
be_word x = simp div-div-eq-div-mul

be_length : (x : ℕ) → to_be_bytes w64 x ≡ bytes 8 x
unfolding bytes
be_length x = simp div-div-eq-div-mul

joined-append : (a : List ℕ) (x : ℕ) → joined (a ++ (x ∷ [])) ≡ joined a ++ bytes 4 x
unfolding joined
joined-append [] x = append-nil (bytes 4 x)
joined-append (y ∷ a) x = ap (λ (z : List ℕ). bytes 4 y ++ z) (joined-append a x) ∙ sym (append_assoc (bytes 4 y) (joined a) (bytes 4 x))

-- where the words below i stand, and the bytes of word i are stored behind them
pub joined_turn : (h b ys : List ℕ) (i : ℕ) → i < length h → length b ≡ 32 → 4 * i ≤ 28 → take (4 * i) b ≡ joined (take i h)
    → ys ≡ to_be_bytes w32 (h ! i) → take (4 * (i + 1)) (put_mid (4 * i) (4 * i + 4 - 4 * i) b ys) ≡ joined (take (i + 1) h)
joined_turn h b ys i l n f o e =
    take-put_mid (4 * i) (4 * i + 4 - 4 * i) b ys (4 * (i + 1)) (rw e (omega arith)) (omega arith)
    ∙ rw (o, e, be_word (h ! i), add-one i, take-suc h i 0 l) (sym (joined-append (take i h) (h ! i)))

pub length-joined : (h : List ℕ) → length (joined h) ≡ 4 * length h
unfolding joined
length-joined [] = refl
length-joined (x ∷ h) =
    length-append (bytes 4 x) (joined h) ∙ omega (arith, length-bytes 4 x, length-joined h)

-- 5.1.1
module _ (n : ℕ) where
  pub length-padding : length (padding n) ≡ 9 + (119 - n % 64) % 64
  unfolding padding
  length-padding = simp (length-append, length-replicate, length-bytes) (omega arith)

  padding_one : padding n ! 0 ≡ 0x80
  unfolding padding
  padding_one = refl

  padding_zero : (i : ℕ) → 0 < i → i + 8 < length (padding n) → padding n ! i ≡ 0
  unfolding padding
  padding_zero zero g h = absurd (omega arith)
  padding_zero (suc i) g h =
      let z = (119 - n % 64) % 64 in
      let l : i < z = omega (arith, length-padding) in
      get_or-append (replicate z 0) _ 0 i (rw length-replicate l) ∙ get_or-replicate z i 0 0 l

  padding-length : (i j : ℕ) → i + j + 1 ≡ length (padding n) → j < 8
      → padding n ! i ≡ (n * 8) % 2 ^ 64 / 2 ^ (8 * j) % 256
  unfolding padding
  padding-length zero j q h = absurd (omega (arith, length-padding))
  padding-length (suc i) j q h =
      let z = (119 - n % 64) % 64 in
      let e : i ≡ z + (7 - j) = omega (arith, length-padding) in
      beyond (replicate z 0) _ i (7 - j) (rw length-replicate e)
      ∙ bytes_at 8 ((n * 8) % 2 ^ 64) (7 - j) j (omega arith)

  -- it ends a block
  padding-whole : (a : ℕ) → n % 64 ≡ a % 64 → (a % 64 + length (padding n)) % 64 ≡ 0
  padding-whole a h = omega (arith, length-padding)

  -- the length counts modulo 2 ^ 64
  padding_wraps : padding (n % 2 ^ 64) ≡ padding n
  unfolding padding
  padding_wraps =
      let a : n % 2 ^ 64 % 64 ≡ n % 64 = omega arith in
      let b : n % 2 ^ 64 * 8 % 2 ^ 64 ≡ n * 8 % 2 ^ 64 = omega arith in
      rw (a, b)

-- what follows the whole blocks of s, and zeros
pub rest_law : (s ys : List ℕ) → ys ≡ take (length s - (length s - length s % 64)) (drop (length s - length s % 64) s)
    → (j : ℕ) → (ys ++ drop (length s % 64) (replicate 128 0)) ! j ≡ s ! (length s / 64 * 64 + j)
rest_law s ys e j = go (dec_lt j r)
  where
    r : ℕ
    r = length s % 64

    from : ℕ
    from = length s - r

    same : ys ≡ drop from s
    same = e ∙ take_all (length s - from) (drop from s) (omega (arith, length-drop from s))

    long : length ys ≡ r
    long = ap length same ∙ omega (arith, length-drop from s)

    go : Dec (j < r) → (ys ++ drop r (replicate 128 0)) ! j ≡ s ! (length s / 64 * 64 + j)
    go (yes y) =
        let q : from + j ≡ length s / 64 * 64 + j = omega arith in
        get_or-append ys _ 0 j (omega (arith, long)) ∙ ap (λ (x : List ℕ). x ! j) same ∙ get_or-drop from s j 0 ∙ ap (λ (x : ℕ). s ! x) q
    go (no h) =
        let p : length s ≤ length s / 64 * 64 + j = omega arith in
        beyond ys _ j (j - r) (omega (arith, long))
        ∙ get_or-drop r (replicate 128 0) (j - r) 0
        ∙ zeros_at 128 (r + (j - r))
        ∙ sym (get_or-eq_default s 0 p)

-- and the padding behind it: all but the length stands once the one bit is stored
module _ (s : List ℕ) (n e : ℕ) (ends : e ≡ length s % 64 + length (padding n)) where
  pub last_start : (b : List ℕ) → length b ≡ 128 → ((j : ℕ) → b ! j ≡ s ! (length s / 64 * 64 + j))
      → (j : ℕ) → j < e - 8 → set b (length s % 64) 0x80 ! j ≡ (s ++ padding n) ! (length s / 64 * 64 + j)
  last_start b l o j h = go (dec_lt j r) (dec_lt r j)
    where
      r : ℕ
      r = length s % 64

      i : ℕ
      i = length s / 64 * 64 + j

      go : Dec (j < r) → Dec (r < j) → set b r 0x80 ! j ≡ (s ++ padding n) ! i
      go (yes y) d = get_or-set_other b r j 0x80 0 (λ q. omega arith) ∙ o j ∙ sym (get_or-append s (padding n) 0 i (omega arith))
      go (no a) (yes y) =
          let f : length s ≤ i = omega arith in
          get_or-set_other b r j 0x80 0 (λ q. omega arith)
          ∙ o j
          ∙ get_or-eq_default s 0 f
          ∙ sym (beyond s (padding n) i (j - r) (omega arith) ∙ padding_zero n (j - r) (omega arith) (omega arith))
      go (no a) (no d) =
          let q : j ≡ r = omega arith in
          ap (λ (x : ℕ). set b r 0x80 ! x) q
          ∙ get_or-set_same b r 0x80 0 (omega arith)
          ∙ sym (beyond s (padding n) i 0 (omega arith) ∙ padding_one n)

  last-length : (j : ℕ) → e ≤ j + 8 → j < e
      → (s ++ padding n) ! (length s / 64 * 64 + j) ≡ (n * 8) % 2 ^ 64 / 2 ^ (8 * (e - 1 - j)) % 256
  last-length j g h =
      let i = j - length s % 64 in
      let r : length s % 64 ≤ j = omega (arith, length-padding n) in
      beyond s (padding n) (length s / 64 * 64 + j) i (omega arith) ∙ padding-length n i (e - 1 - j) (omega arith) (omega arith)

  -- and all once the length does, in the last eight bytes
  pub last_law : (b ys : List ℕ) → length b ≡ 128 → e ≤ 128 → ((j : ℕ) → b ! j ≡ s ! (length s / 64 * 64 + j))
      → ys ≡ to_be_bytes w64 ((n * 8) % 2 ^ 64) → (j : ℕ) → j < e
      → put_mid (e - 8) (e - (e - 8)) (set b (length s % 64) 0x80) ys ! j ≡ (s ++ padding n) ! (length s / 64 * 64 + j)
  last_law b ys l m o d j h = go (dec_lt j (e - 8))
    where
      c : List ℕ
      c = set b (length s % 64) 0x80

      eight : 8 ≤ e
      eight = omega (arith, length-padding n)

      front : length (take (e - 8) c) ≡ e - 8
      front = length-take-le (e - 8) c (rw (length-set b (length s % 64) 0x80) (omega arith))

      go : Dec (j < e - 8) → put_mid (e - 8) (e - (e - 8)) c ys ! j ≡ (s ++ padding n) ! (length s / 64 * 64 + j)
      go (yes y) =
          get_or-append (take (e - 8) c) _ 0 j (omega (arith, front))
          ∙ get_or-take (e - 8) c j 0 y
          ∙ last_start b l o j y
      go (no g) =
          let i = j - (e - 8) in
          let q : i + (e - 1 - j) + 1 ≡ 8 = omega (arith, eight) in
          beyond (take (e - 8) c) _ j i (omega (arith, front))
          ∙ get_or-append ys _ 0 i (rw d (omega (arith, eight)))
          ∙ ap (λ (x : List ℕ). x ! i) (d ∙ be_length ((n * 8) % 2 ^ 64))
          ∙ bytes_at 8 ((n * 8) % 2 ^ 64) i (e - 1 - j) q
          ∙ sym (last-length j (omega arith) h)

-- words of the same bytes are the same
words_same : (a b : List ℕ) (x y n : ℕ) → ((j : ℕ) → j < 4 * n → a ! (x + j) ≡ b ! (y + j)) → words a x n ≡ words b y n
unfolding words
words_same a b x y zero e = refl
words_same a b x y (suc n) e =
    let s : (i : ℕ) → i < 4 → a ! (x + 4 * n + i) ≡ b ! (y + 4 * n + i) =
    λ i h. rw (add_assoc x (4 * n) i, add_assoc y (4 * n) i) (e (4 * n + i) (omega arith)) in
    rw (
      words_same a b x y n (λ j h. e j (omega arith)),
      e (4 * n) (omega arith),
      s 1 (omega arith),
      s 2 (omega arith),
      s 3 (omega arith),
    )

-- the hash value after q blocks and then n more, where these are the first n of a message of their own
hash-more : (h m b : List ℕ) (q n : ℕ) → ((j : ℕ) → j < 64 * n → m ! (64 * q + j) ≡ b ! j)
    → hash h m (q + n) ≡ hash (hash h m q) b n
unfolding hash
hash-more h m b q zero e =
    let d : q + 0 ≡ q = omega arith in
    rw d
hash-more h m b q (suc n) e =
    let d : q + suc n ≡ suc (q + n) = omega arith in
    rw (d, hash-more h m b q n (λ j l. e j (omega arith)))
    (ap (compress (hash (hash h m q) b n))
    (words_same m b (64 * (q + n)) (64 * n) 16
    (λ j l. let f : 64 * (q + n) + j ≡ 64 * q + (64 * n + j) = omega arith in rw f (e (64 * n + j) (omega arith)))))

-- the hash value after n blocks that two messages share
hash-same : (h m b : List ℕ) (n : ℕ) → ((j : ℕ) → j < 64 * n → m ! j ≡ b ! j) → hash h m n ≡ hash h b n
unfolding hash
hash-same h m b n e =
    let z : 0 + n ≡ n = omega arith in
    rw z at (hash-more h m b 0 n (λ j l. let f : 64 * 0 + j ≡ j = omega arith in rw f (e j l)))

-- whole blocks, and then n blocks of what follows them
hash-append : (h b u : List ℕ) (n : ℕ) → length b % 64 ≡ 0
    → hash h (b ++ u) (length b / 64 + n) ≡ hash (hash h b (length b / 64)) u n
hash-append h b u n w =
    let q = length b / 64 in
    hash-more h (b ++ u) u q n (λ j l. beyond b u (64 * q + j) j (omega arith))
    ∙ ap (λ (g : List ℕ). hash g u n) (hash-same h (b ++ u) b q (λ j l. get_or-append b u 0 j (omega arith)))

blocks_of : (a s e x : ℕ) → a % 64 ≡ 0 → e % 64 ≡ 0 → x ≡ a + (s / 64 * 64 + e) → x / 64 ≡ a / 64 + (s / 64 + e / 64)
blocks_of a s e x h k q = omega arith

-- the digest of whole blocks b and then s, where the first e bytes of t are what follows the whole blocks of s, with the padding
pub digest_law : (b s t : List ℕ) (n e : ℕ) → length b % 64 ≡ 0 → n ≡ (length b + length s) % 2 ^ 64
    → e ≡ length s % 64 + length (padding n) → length t ≡ 128
    → ((j : ℕ) → j < e → t ! j ≡ (s ++ padding n) ! (length s / 64 * 64 + j))
    → joined (hash (hash (hash H₀ b (length b / 64)) s (length s / 64)) (take e t) (length (take e t) / 64)) ≡ sha256 (b ++ s)
unfolding sha256 padded
digest_law b s t n e w m p l o =
    let q = length s / 64 in
    let u = s ++ padding n in
    let f : e ≤ length t = omega (arith, length-padding n) in
    let g : padding (length (b ++ s)) ≡ padding n = rw (length-append b s, m) (sym (padding_wraps (length b + length s))) in
    let k : e % 64 ≡ 0 = rw p (padding-whole n (length s) (omega arith)) in
    let c : length (b ++ u) / 64 ≡ length b / 64 + (q + e / 64) =
    blocks_of (length b) (length s) e (length (b ++ u)) w k (omega (arith, length-append b u, length-append s (padding n))) in
    ap joined
    (rw (g, append_assoc b s (padding n), c, length-take-le e t f)
    (sym (hash-append H₀ b u (q + e / 64) w
    ∙ hash-more (hash H₀ b (length b / 64)) u (take e t) q (e / 64)
    (λ j h. let d : length s / 64 * 64 + j ≡ 64 * q + j = omega arith in
    sym (get_or-take e t j 0 (omega arith) ∙ o j (omega arith) ∙ ap (λ (x : ℕ). u ! x) d))
    ∙ ap (λ (x : List ℕ). hash x (take e t) (e / 64))
    (hash-same (hash H₀ b (length b / 64)) u s q (λ j h. get_or-append s (padding n) 0 j (omega arith))))))
