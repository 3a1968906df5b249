-- Laws of what is kept of the front of a line: each byte more, and its end.
use mathlib.Core.Path.{◌≡◌, refl, sym, ap, ◌∙◌}
use mathlib.Core.Bool.{Bool, true, false, cond, not, ◌&&◌}
use mathlib.Core.List.{List, [], ◌∷◌, ◌++◌}
use mathlib.Core.Option.{none, some}
use Prim.Native.Nat.{ℕ, zero, suc, ◌+◌, ◌-◌, ◌*◌, ◌<◌, ◌≤◌, min}
use native.Mathlib.Decide.{ℕ_discrete, dec_lt}
use native.Mathlib.Numerals.{add-one}
use native.Mathlib.Omega.{arith}
use borrow.Author.Tests.{le-ltb, lt-ltb, le-leb, lt-leb, eq-eqb, ne_eqb, ltb-true}
use lib.Dec.{ltb, eqb}
use lib.ListN.{length, take, set, length-append, length-set}
use lib.Seq.{take_all, take-append-le, take-suc-set}
use Rattle.lines.specs.declared.read.Reading.{Reading}
use Rattle.lines.specs.Words.{words, first, later, last_from, final, every, void, odd, same, limit, digit, decimal, number_of, hex_value, hex_digit, hex_bytes, empty_word, page_of, pack_from, packed}
use Rattle.std.specs.Prelude.{Option, Some, None}
use Rattle.lines.specs.Line.{as_told, numbers_of, Kept, PageIs, LineOf}
use Rattle.lines.specs.Read.{counted, packed_with, capped, value_with, name_from, number_from, numbers_with, puts, bytes_with, page_with, page_from}
use Rattle.lines.specs.Read.{begun, space_of, letter_of, next_of, next_page, ended_of, value_of, high_from, Paired, Read}
use Rattle.lines.proofs.WordsLaws.{and_left, and_right, words_space, words_letter, every_more, odd-more, same_eq, decimal-more, high-more, high-below, hex-more, small, pack_more, room, pack_below, packed_injective}

-- ---- a value with one digit more

none_either : (t : Bool) → ◌≡◌ {A = Option ℕ} None (cond t None None)
none_either true = refl
none_either false = refl

value-step : (e : Bool) (d b : ℕ) → value_with (cond e (capped d) None) b ≡ cond (e && digit b) (capped (d * 10 + (b - 48))) None
value-step false d b = refl
value-step true d b = go (dec_lt d limit)
  where
    go : Dec (d < limit) → value_with (capped d) b ≡ cond (digit b) (capped (d * 10 + (b - 48))) None
    go (yes h) = simp (lt-ltb d limit h)
    go (no h) = simp (le-ltb d limit (omega arith), le-ltb (d * 10 + (b - 48)) limit (omega arith)) (none_either (digit b))

value-more : (w : List ℕ) (b : ℕ) → value_with (value_of w) b ≡ value_of (w ++ (b ∷ []))
unfolding value_of
value-more w b =
    value-step (every digit w) (decimal 0 w) b
    ∙ (λ i. cond (sym (every_more digit w b) i) (capped (sym (decimal-more 0 w b) i)) None)

-- ---- a page with one digit more

put_full : (bs : List ℕ) (v n : ℕ) (page : List ℕ) → length page ≤ n → Kept bs n page → Kept (bs ++ (v ∷ [])) n page
put_full bs v n page h k =
    let s : n ≡ min (length bs) (length page) = k.size in
    let l : length (bs ++ (v ∷ [])) ≡ length bs + 1 = length-append bs (v ∷ []) in
    record { size = omega arith; front = k.front ∙ sym (take-append-le n bs (v ∷ []) (omega arith)) }

put_more : (bs : List ℕ) (v n : ℕ) (page : List ℕ) → n < length page → Kept bs n page → Kept (bs ++ (v ∷ [])) (n + 1) (set page n v)
put_more bs v n page h k =
    let s : n ≡ min (length bs) (length page) = k.size in
    let l : length (bs ++ (v ∷ [])) ≡ length bs + 1 = length-append bs (v ∷ []) in
    let m : length (set page n v) ≡ length page = length-set page n v in
    let f : take (n + 1) (set page n v) ≡ take (n + 1) (bs ++ (v ∷ [])) =
    ap (λ (x : ℕ). take x (set page n v)) (add-one n)
    ∙ take-suc-set page n v h
    ∙ ap (λ (x : List ℕ). x ++ (v ∷ [])) (k.front ∙ take_all n bs (omega arith))
    ∙ sym (take_all (n + 1) (bs ++ (v ∷ [])) (omega arith))
    in
    record { size = omega arith; front = f }

-- ---- a packed word and its length with one byte more

counted_min : (k : ℕ) → counted (min 8 k) ≡ min 8 (k + 1)
counted_min k = go (dec_lt k 8)
  where
    go : Dec (k < 8) → counted (min 8 k) ≡ min 8 (k + 1)
    go (yes h) = simp (lt-ltb (min 8 k) 8 (omega arith)) (omega arith)
    go (no h) = simp (le-ltb (min 8 k) 8 (omega arith)) (omega arith)

packed_more : (w : List ℕ) (b : ℕ) → small w → packed_with (packed w) (min 8 (length w)) b ≡ packed (w ++ (b ∷ []))
unfolding packed room
packed_more w b s = go (dec_lt (length w) 7)
  where
    go : Dec (length w < 7) → packed_with (packed w) (min 8 (length w)) b ≡ packed (w ++ (b ∷ []))
    go (yes h) =
        let l : length (w ++ (b ∷ [])) ≡ length w + 1 = length-append w (b ∷ []) in
        simp (
          le-leb (length w) 7 (omega arith),
          lt-ltb (min 8 (length w)) 7 (omega arith),
          lt-ltb (pack_from 1 w) 72057594037927936 (omega (arith, pack_below 6 w 1 2 s (omega arith) (omega arith))),
          le-leb (length (w ++ (b ∷ []))) 7 (omega arith),
        ) (sym (pack_more 1 w b))
    go (no h) =
        let l : length (w ++ (b ∷ [])) ≡ length w + 1 = length-append w (b ∷ []) in
        simp (le-ltb (min 8 (length w)) 7 (omega arith), lt-leb (length (w ++ (b ∷ []))) 7 (omega arith))

-- ---- the numbers of words that ended

numbers_more : (n : ℕ) (ws : List (List ℕ)) (w : List ℕ) → length ws < n
    → set (numbers_of n ws) (length ws) (as_told (number_of w)) ≡ numbers_of n (ws ++ (w ∷ []))
unfolding numbers_of
numbers_more zero ws w h = absurd (omega arith)
numbers_more (suc n) [] w h = refl
numbers_more (suc n) (v ∷ ws) w h = ap (λ (l : List (Option ℕ)). as_told (number_of v) ∷ l) (numbers_more n ws w (omega arith))

numbers_full : (n : ℕ) (ws : List (List ℕ)) (w : List ℕ) → n ≤ length ws → numbers_of n ws ≡ numbers_of n (ws ++ (w ∷ []))
unfolding numbers_of
numbers_full zero ws w h = refl
numbers_full (suc n) [] w h = absurd (omega arith)
numbers_full (suc n) (v ∷ ws) w h = ap (λ (l : List (Option ℕ)). as_told (number_of v) ∷ l) (numbers_full n ws w (omega arith))

number-told : (w : List ℕ) → number_from (min 8 (length w)) (value_of w) ≡ as_told (number_of w)
unfolding value_of number_of
number-told [] = refl
number-told (b ∷ w) =
    simp (ne_eqb (min 8 (suc (length w))) 0 (λ e. omega arith)) (go (every digit (b ∷ w)) (ltb (decimal 0 (b ∷ w)) limit) (decimal 0 (b ∷ w)))
  where
    go : (e l : Bool) (d : ℕ) → cond e (cond l (Some d) None) None ≡ as_told (cond (e && l) (some d) none)
    go true true d = refl
    go true false d = refl
    go false l d = refl

-- the word under way ends
name_told : (ws : List (List ℕ)) (w : List ℕ) (k name word : ℕ) → k ≡ min 8 (length ws + 1)
    → name ≡ cond (eqb (length ws) 0) 0 (packed (first ws)) → word ≡ packed w → name_from k name word ≡ packed (first (ws ++ (w ∷ [])))
name_told [] w k name word e n q = simp (eq-eqb k 1 (omega arith)) q
name_told (v ∷ ws) w k name word e n q =
    simp (ne_eqb k 1 (λ z. omega arith)) (n ∙ simp (ne_eqb (suc (length ws)) 0 (λ z. omega arith)))

first-told : (ws : List (List ℕ)) (w : List ℕ) → small (first ws) → small w → small (first (ws ++ (w ∷ [])))
first-told [] w a b = b
first-told (v ∷ ws) w a b = a

numbers-told : (ws : List (List ℕ)) (w : List ℕ) (k : ℕ) (n : Option ℕ) (numbers : List (Option ℕ)) → k ≡ min 8 (length ws + 1)
    → numbers ≡ numbers_of 6 (later ws) → n ≡ as_told (number_of w) → numbers_with k numbers n ≡ numbers_of 6 (later (ws ++ (w ∷ [])))
numbers-told [] w k n numbers e f q = simp (lt-leb 2 k (omega arith)) f
numbers-told (v ∷ ws) w k n numbers e f q = go (dec_lt (length ws) 6)
  where
    go : Dec (length ws < 6) → numbers_with k numbers n ≡ numbers_of 6 (ws ++ (w ∷ []))
    go (yes h) =
        let z : k - 2 ≡ length ws = omega arith in
        simp (le-leb 2 k (omega arith), le-leb k 7 (omega arith)) ((λ i. set (f i) (z i) (q i)) ∙ numbers_more 6 ws w h)
    go (no h) = simp (le-leb 2 k (omega arith), lt-leb k 7 (omega arith)) (f ∙ numbers_full 6 ws w (omega arith))

number_of_lem : (w : List ℕ) (len : ℕ) (value : Option ℕ) → len ≡ min 8 (length w) → value ≡ value_of w → number_from len value ≡ as_told (number_of w)
number_of_lem w len value a b = (λ i. number_from (a i) (b i)) ∙ number-told w

-- ---- what the code keeps and hands on, part by part

module _ (odd : Bool) (high n bytes : ℕ) (page : List ℕ) where
  pub put_none : puts odd high n bytes (length page) ≡ false → (bytes ≡ bytes_with odd high n bytes (length page)) × (page ≡ page_with odd high n bytes page)
  put_none e = rw e (refl, refl)

-- ---- what is kept, from the start and with each byte more

pub begun-read : (page : List ℕ) → Read [] begun page
unfolding begun words numbers_of every packed pack_from value_of decimal odd high_from hex_bytes
begun-read page =
    record {
      ended = [];
      under = [];
      whole = refl;
      count = refl;
      opened = refl;
      called = refl;
      given = refl;
      bytes = refl;
      word = refl;
      long = refl;
      value = refl;
      hex = refl;
      pairs = λ t. record { half = refl; high = refl; kept = record { size = omega arith; front = refl } };
    }

space_read : (p page : List ℕ) (r : Reading) → Read p r page → Read (p ++ (32 ∷ [])) (space_of r) page
unfolding every packed pack_from value_of decimal odd high_from hex_bytes
space_read p page r o =
    let ws = o.ended in
    let w = o.under in
    let l : length (ws ++ (w ∷ [])) ≡ length ws + 1 = length-append ws (w ∷ []) in
    record {
      ended = ws ++ (w ∷ []);
      under = [];
      whole = words_space p ∙ ap (λ (x : List (List ℕ)). x ++ ([] ∷ [])) o.whole;
      count = ap counted o.count ∙ counted_min (length ws + 1) ∙ ap (λ (x : ℕ). min 8 (x + 1)) (sym l);
      opened = first-told ws w o.opened o.bytes;
      called =
          name_told ws w r.words r.name r.word o.count o.called o.word
          ∙ sym (simp (ne_eqb (length (ws ++ (w ∷ []))) 0 (λ y. omega arith)));
      given = numbers-told ws w r.words (number_from r.len r.value) r.numbers o.count o.given (number_of_lem w r.len r.value o.long o.value);
      bytes = refl;
      word = refl;
      long = refl;
      value = refl;
      hex = refl;
      pairs = λ t. record { half = refl; high = refl; kept = record { size = omega arith; front = refl } };
    }

-- a byte goes into the page
put_read : (t : Bool) (bs : List ℕ) (high n bytes : ℕ) (page : List ℕ) → high < 16 → n < 16 → Kept bs bytes page
    → Kept (cond t (bs ++ ((high * 16 + n) ∷ [])) bs) (bytes_with t high n bytes (length page)) (page_with t high n bytes page)
put_read false bs high n bytes page h l k = k
put_read true bs high n bytes page h l k = go (dec_lt bytes (length page))
  where
    go : Dec (bytes < length page)
        → Kept (bs ++ ((high * 16 + n) ∷ [])) (bytes_with true high n bytes (length page)) (page_with true high n bytes page)
    go (yes r) = rw (lt-ltb bytes (length page) r, lt-ltb high 16 h, lt-ltb n 16 l) (put_more bs (high * 16 + n) bytes page r k)
    go (no r) = rw (le-ltb bytes (length page) (omega arith)) (put_full bs (high * 16 + n) bytes page (omega arith) k)

pairs-more : (w : List ℕ) (r : Reading) (b : ℕ) (page : List ℕ) → hex_digit b ≡ true → every hex_digit w ≡ true → Paired w r page
    → Paired (w ++ (b ∷ [])) (letter_of r b (length page)) (page_with r.odd r.high (hex_value b) r.bytes page)
pairs-more w r b page d e o =
    let h : high_from 0 w < 16 = high-below 0 w (omega arith) e in
    let v : r.high ≡ high_from 0 w = o.high in
    let k = put_read r.odd (hex_bytes w) r.high (hex_value b) r.bytes page (omega arith) (ltb-true (hex_value b) 16 d) o.kept in
    let q : cond r.odd (hex_bytes w ++ ((r.high * 16 + hex_value b) ∷ [])) (hex_bytes w) ≡ hex_bytes (w ++ (b ∷ [])) =
    (λ i. cond (o.half i) (hex_bytes w ++ ((v i * 16 + hex_value b) ∷ [])) (hex_bytes w)) ∙ hex-more 0 w b
    in
    record {
      half = ap not o.half ∙ sym (odd-more w b);
      high = sym (high-more 0 w b);
      kept = rw q at k;
    }

letter_read : (p : List ℕ) (r : Reading) (b : ℕ) (page : List ℕ) → b < 256 → (b ≡ 32 → ⊥) → Read p r page
    → Read (p ++ (b ∷ [])) (letter_of r b (length page)) (page_with r.odd r.high (hex_value b) r.bytes page)
letter_read p r b page u h o =
    let ws = o.ended in
    let w = o.under in
    let y : every hex_digit (w ++ (b ∷ [])) ≡ (every hex_digit w && hex_digit b) = every_more hex_digit w b in
    record {
      ended = ws;
      under = w ++ (b ∷ []);
      whole = words_letter b h p ws w o.whole;
      count = o.count;
      opened = o.opened;
      called = o.called;
      given = o.given;
      bytes = every_more (λ x. ltb x 256) w b ∙ (λ i. o.bytes i && lt-ltb b 256 u i);
      word = (λ i. packed_with (o.word i) (o.long i) b) ∙ packed_more w b o.bytes;
      long = ap counted o.long ∙ counted_min (length w) ∙ ap (min 8) (sym (length-append w (b ∷ [])));
      value = ap (λ (v : Option ℕ). value_with v b) o.value ∙ value-more w b;
      hex = (λ i. o.hex i && hex_digit b) ∙ sym y;
      pairs =
          λ z.
          let q : (every hex_digit w && hex_digit b) ≡ true = sym y ∙ z in
          let v : every hex_digit w ≡ true = and_left (every hex_digit w) (hex_digit b) q in
          pairs-more w r b page (and_right (every hex_digit w) (hex_digit b) q) v (o.pairs v);
    }

-- one byte more of the line
pub next-read : (p : List ℕ) (r : Reading) (b : ℕ) (page : List ℕ) → b < 256 → Read p r page → Read (p ++ (b ∷ [])) (next_of r b (length page)) (next_page r b page)
unfolding next_of next_page
next-read p r b page u o = go (ℕ_discrete b 32)
  where
    go : Dec (b ≡ 32) → Read (p ++ (b ∷ [])) (cond (eqb b 32) (space_of r) (letter_of r b (length page))) (cond (eqb b 32) page (page_with r.odd r.high (hex_value b) r.bytes page))
    go (yes e) = rw e (space_read p page r o)
    go (no e) = rw (ne_eqb b 32 e) (letter_read p r b page u e o)

-- ---- the line's end

pub page-short : (r : Reading) → (r.word ≡ 1535139411065 → ⊥) → r.hex ≡ true → r.odd ≡ false → r.len ≡ 0 → None ≡ page_from r
unfolding packed pack_from
page-short r a b c d = sym (simp (ne_eqb r.word 1535139411065 a, b, c, eq-eqb r.len 0 d))

void-length : (w : List ℕ) → eqb (min 8 (length w)) 0 ≡ void w
void-length [] = refl
void-length (b ∷ w) = ne_eqb (min 8 (suc (length w))) 0 (λ e. omega arith)

last_end : (v : List ℕ) (ws : List (List ℕ)) (w : List ℕ) → last_from v (ws ++ (w ∷ [])) ≡ w
last_end v [] w = refl
last_end v (u ∷ ws) w = last_end u ws w

-- the word packs to `empty` where it is that word
is_empty : (w : List ℕ) → small w → packed w ≡ packed empty_word → w ≡ empty_word
unfolding packed pack_from every
is_empty w s e = packed_injective w empty_word s refl e (λ z. omega (arith, z))

not_empty : (w : List ℕ) → (packed w ≡ packed empty_word → ⊥) → same w empty_word ≡ false
not_empty w h = go (same w empty_word) refl
  where
    go : (t : Bool) → same w empty_word ≡ t → same w empty_word ≡ false
    go true e = absurd (h (ap packed (same_eq w empty_word e)))
    go false e = e

page-pick : (w : List ℕ) (page : List ℕ) (e o v : Bool) (n : ℕ) (x y : Bool) → x ≡ e → (e ≡ true → y ≡ o)
    → (e ≡ true → Kept (hex_bytes w) n page)
    → PageIs (cond (e && not o && not v) (some (hex_bytes w)) none) page (cond x (cond y None (cond v None (Some n))) None)
page-pick w page false o v n x y a b k = rw a tt
page-pick w page true o v n x y a b k = go o v (b refl)
  where
    go : (o v : Bool) → y ≡ o
        → PageIs (cond (not o && not v) (some (hex_bytes w)) none) page (cond x (cond y None (cond v None (Some n))) None)
    go true v q = rw (a, q) tt
    go false true q = rw (a, q) tt
    go false false q = rw (a, q) (k refl)

page-told : (w page : List ℕ) (r : Reading) → small w → r.word ≡ packed w → r.len ≡ min 8 (length w) → r.hex ≡ every hex_digit w
    → (every hex_digit w ≡ true → Paired w r page) → PageIs (page_of w) page (page_from r)
unfolding page_of same
page-told w page r s a l x k = go (ℕ_discrete r.word (packed empty_word))
  where
    go : Dec (r.word ≡ packed empty_word) → PageIs (page_of w) page (page_from r)
    go (yes e) =
        let z : same w empty_word ≡ true = ap (λ (v : List ℕ). same v empty_word) (is_empty w s (sym a ∙ e)) in
        rw (eq-eqb r.word (packed empty_word) e, z) (record { size = omega arith; front = refl })
    go (no e) =
        let z : eqb r.len 0 ≡ void w = ap (λ (n : ℕ). eqb n 0) l ∙ void-length w in
        rw (ne_eqb r.word (packed empty_word) e, not_empty w (λ q. e (a ∙ q)), z)
        (page-pick w page (every hex_digit w) (odd w) (void w) r.bytes r.hex r.odd x (λ t. (k t).half) (λ t. (k t).kept))

pub ended-read : (p page : List ℕ) (r : Reading) → Read p r page → LineOf p page (ended_of r)
unfolding ended_of
ended-read p page r o =
    let ws = o.ended in
    let w = o.under in
    let n : length (words p) ≡ length ws + 1 = ap length o.whole ∙ length-append ws (w ∷ []) in
    let f : final (words p) ≡ w = ap final o.whole ∙ last_end [] ws w in
    let g : PageIs (page_of w) page (page_from r) = page-told w page r o.bytes o.word o.long o.hex o.pairs in
    record {
      count = o.count ∙ ap (min 8) (sym n);
      bytes = ap (λ (x : List (List ℕ)). every (λ b. ltb b 256) (first x)) o.whole ∙ first-told ws w o.opened o.bytes;
      called = name_told ws w r.words r.name r.word o.count o.called o.word ∙ ap (λ (x : List (List ℕ)). packed (first x)) (sym o.whole);
      given =
          numbers-told ws w r.words (number_from r.len r.value) r.numbers o.count o.given (number_of_lem w r.len r.value o.long o.value)
          ∙ ap (λ (x : List (List ℕ)). numbers_of 6 (later x)) (sym o.whole);
      shown = rw f g;
    }
