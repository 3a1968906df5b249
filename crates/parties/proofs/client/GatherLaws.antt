-- Laws of the new pointer of a deposit: the digests of the nodes that acknowledged it, one behind the other.
use mathlib.Core.Path.{◌≡◌, refl, sym, ap, ◌∙◌}
use mathlib.Core.Bool.{Bool, true, false, cond}
use mathlib.Core.List.{List, [], ◌∷◌, ◌++◌, append_assoc, append-nil, map as each, map-append}
use Prim.Native.Nat.{ℕ, ◌+◌, ◌-◌, ◌*◌, ◌^◌, ◌<◌, ◌≤◌}
use native.Mathlib.Omega.{arith}
use lib.ListN.{length, get_or, take, drop, replicate, length-append, length-replicate, length-drop, length-map}
use lib.Seq.{paste, drop_at, take-take, take-append-le, length-take-le}
use Rattle.coding.specs.Bytes.{Bytes}
use Rattle.coding.specs.Nodes.{nodes_of}
use Rattle.coding.proofs.BytesLaws.{get_or-tabulate}
use Rattle.coding.proofs.NodesLaws.{nodes_start, nodes_skip, nodes-more, nodes-few, nodes-within}
use Rattle.parties.specs.declared.Measures.{Measures}
use Rattle.parties.specs.protocol.Format.{write_number, write_many}
use Rattle.parties.specs.protocol.Measures.{passes, pointer_size}
use Rattle.parties.specs.protocol.Nodes.{count, stands}
use Rattle.parties.specs.protocol.Pointer.{Pointer, write_version, write_named, write_pointer}
use Rattle.parties.specs.protocol.Client.{work_size}
use Rattle.parties.specs.protocol.Deposit.{pointer_of}
use Rattle.parties.proofs.protocol.formats.FormatLaws.{length-same}
use Rattle.parties.proofs.protocol.formats.EachLaws.{each_map}
use Rattle.parties.proofs.protocol.formats.NodeMapLaws.{nodes-all}
use Rattle.parties.proofs.protocol.formats.PointerLaws.{length-number, length-version, length-pointer}
use Rattle.parties.specs.records.Places.{version_at, splice}
use Rattle.parties.specs.client.Publish.{digests_in, pointer_from}
use Rattle.parties.proofs.records.NodesLaws.{bit_of}
use Rattle.parties.proofs.records.SpliceLaws.{paste_all, length-splice, splice-next, splice_self, many-append}
use Rattle.parties.proofs.node.FreeingLaws.{drop-splice}
use Rattle.parties.proofs.node.ShownLaws.{version-bytes}
use Rattle.parties.proofs.client.FormLaws.{sizes}

-- bytes right before others
splice-before : (t : List ℕ) (at k : ℕ) (x y : List ℕ) → k ≡ at + length x → k ≤ length t → splice (splice t k y) at x ≡ splice t at (x ++ y)
unfolding splice
splice-before t at k x y e h =
    let l : length (take k t) ≡ k = length-take-le k t h in
    let r = y ++ drop (k + length y) t in
    let f : at + length (x ++ y) ≡ k + length y = omega (arith, length-append x y) in
    (λ i. take-append-le at (take k t) r (omega arith) i ++ (x ++ drop (sym e i) (take k t ++ r)))
    ∙ (λ i. take-take at k t (omega arith) i ++ (x ++ drop_at (take k t) r k l i))
    ∙ ap (λ (l : List ℕ). take at t ++ l) (sym (append_assoc x y (drop (k + length y) t)))
    ∙ ap (λ (n : ℕ). take at t ++ ((x ++ y) ++ drop n t)) (sym f)

-- ---- the digests of the first nodes

-- those of the nodes up to i that the map names, as they are written
abbrev gathered : ℕ → ℕ → List ℕ → ℕ → ℕ → List ℕ
gathered n map t at i = write_many (λ d. d) (each (λ j. get_or (digests_in n t at) (j - 1) []) (nodes_of map i))

module _ (n map : ℕ) (t : List ℕ) (at : ℕ) where
  abbrev digest : ℕ → List ℕ
  digest j = get_or (digests_in n t at) (j - 1) []

  gathered_none : gathered n map t at 0 ≡ []
  unfolding write_many
  gathered_none = ap (λ (l : List ℕ). write_many (λ d. d) (each digest l)) (nodes_start map)

  gathered_skip : (i : ℕ) → stands map (i + 1) ≡ false → gathered n map t at (i + 1) ≡ gathered n map t at i
  gathered_skip i e = ap (λ (l : List ℕ). write_many (λ d. d) (each digest l)) (nodes_skip map i (sym (bit_of map i) ∙ e))

  gathered_more : (i : ℕ) → i < n → stands map (i + 1) ≡ true
      → gathered n map t at (i + 1) ≡ gathered n map t at i ++ take 32 (drop (at + 7 + 32 * i) t)
  unfolding write_many
  gathered_more i h e =
      let z : i + 1 - 1 ≡ i = omega arith in
      ap (λ (l : List ℕ). write_many (λ d. d) (each digest l)) (nodes-more map i (sym (bit_of map i) ∙ e))
      ∙ ap (write_many (λ d. d)) (map-append digest (nodes_of map i) ((i + 1) ∷ []))
      ∙ many-append (λ d. d) (each digest (nodes_of map i)) (digest (i + 1) ∷ [])
      ∙ ap (λ (l : List ℕ). gathered n map t at i ++ l)
      (append-nil (digest (i + 1)) ∙ ap (λ (j : ℕ). get_or (digests_in n t at) j []) z
      ∙ get_or-tabulate n (λ j. take 32 (drop (at + 7 + 32 * j) t)) i [] h)

  module _ (ht : at + 7 + 32 * n ≤ length t) where
    part_length : (i : ℕ) → i < n → length (take 32 (drop (at + 7 + 32 * i) t)) ≡ 32
    part_length i h = length-take-le 32 (drop (at + 7 + 32 * i) t) (omega (arith, length-drop (at + 7 + 32 * i) t))

    digest-length : (j : ℕ) → 1 ≤ j → j ≤ n → length (digest j) ≡ 32
    digest-length j a b =
        ap length (get_or-tabulate n (λ i. take 32 (drop (at + 7 + 32 * i) t)) (j - 1) [] (omega arith)) ∙ part_length (j - 1) (omega arith)

    gathered_length : (i : ℕ) → i ≤ n → length (gathered n map t at i) ≡ 32 * length (nodes_of map i)
    gathered_length i h =
        length-same (λ d. d) (λ d. length d ≡ 32) 32 (λ d g. g) (each digest (nodes_of map i))
        (each_map (λ d. length d ≡ 32) digest 0 (nodes_of map i)
        (λ k b.
        let x = nodes-within map i k b in digest-length (get_or (nodes_of map i) k 0) x.0 (omega (arith, x.1))))
        ∙ omega (arith, length-map (nodes_of map i) digest)

-- ---- the walk

-- the digests of the nodes up to i are moved; from the next on, all is as it was
pub record Gathered (n map : ℕ) (t : List ℕ) (at : ℕ) (u : List ℕ) (to i : ℕ) : Type 0 where
  pub within : i ≤ n
  pub target : to ≡ at + 7 + length (gathered n map t at i)
  pub moved : u ≡ splice t (at + 7) (gathered n map t at i)

module _ (n map : ℕ) (t : List ℕ) (at : ℕ) (ht : at + 7 + 32 * n ≤ length t) where
  pub walk_none : Gathered n map t at t (at + 7) 0
  walk_none =
      record {
        within = omega arith;
        target = omega (arith, ap length (gathered_none n map t at));
        moved = splice_self t (at + 7) 0 ∙ ap (splice t (at + 7)) (sym (gathered_none n map t at));
      }

  module _ (u : List ℕ) (to i : ℕ) (w : Gathered n map t at u to i) where
    -- where the next digest stands
    abbrev from : ℕ
    from = at + 7 + 32 * i

    pub walk_down : to ≤ from
    walk_down = omega (arith, w.target, gathered_length n map t at ht i w.within, nodes-few map i)

    pub walk_length : length u ≡ length t
    walk_length =
        ap length w.moved
        ∙ length-splice t (at + 7) (gathered n map t at i) (omega (arith, gathered_length n map t at ht i w.within, nodes-few map i, w.within))

    pub walk_more : i < n → (r : ℕ) (v : List ℕ) → r ≡ cond (stands map (i + 1)) (to + 32) to
        → v ≡ cond (stands map (i + 1)) (splice u to (take 32 (drop from u))) u
        → Gathered n map t at v r (i + 1)
    walk_more h r v e f = go (stands map (i + 1)) refl e f
      where
        go : (b : Bool) → stands map (i + 1) ≡ b → r ≡ cond b (to + 32) to → v ≡ cond b (splice u to (take 32 (drop from u))) u
            → Gathered n map t at v r (i + 1)
        go true e x y =
            let g = gathered n map t at i in
            let d = take 32 (drop from t) in
            let ld : length d ≡ 32 = part_length n map t at ht i h in
            let lg : at + 7 + length g ≤ from = omega (arith, walk_down, w.target) in
            let f : drop from u ≡ drop from t = ap (drop from) w.moved ∙ drop-splice t (at + 7) g (omega arith) from lg in
            record {
              within = omega arith;
              target = omega (arith, x, w.target, ap length (gathered_more n map t at i h e), length-append g d, ld);
              moved =
                  y ∙ (λ j. splice (w.moved j) to (take 32 (f j)))
                  ∙ splice-next t (at + 7) g d to w.target (omega (arith, walk_down, ld))
                  ∙ ap (splice t (at + 7)) (sym (gathered_more n map t at i h e));
            }
        go false e x y =
            record {
              within = omega arith;
              target = x ∙ w.target ∙ ap (λ (l : List ℕ). at + 7 + length l) (sym (gathered_skip n map t at i e));
              moved = y ∙ w.moved ∙ ap (splice t (at + 7)) (sym (gathered_skip n map t at i e));
            }

-- all digests that the pointer names
module _ (s : Measures) (h : passes s ≡ true) (map : ℕ) (b : map < 2 ^ s.n) (t : List ℕ) (at : ℕ) where
  abbrev p : Pointer
  p = pointer_from s map t at

  abbrev digests : List ℕ
  digests = write_many (λ d. d) p.named.digests

  digests_are : gathered s.n map t at s.n ≡ digests
  unfolding pointer_from pointer_of
  digests_are =
      ap (λ (l : List ℕ). write_many (λ d. d) (each (λ j. get_or (digests_in s.n t at) (j - 1) []) l)) (sym (nodes-all map s.n b (sizes s h).nodes))

  pub walk_all : (u : List ℕ) (to i : ℕ) → Gathered s.n map t at u to i → s.n ≤ i → u ≡ splice t (at + 7) digests
  walk_all u to i w l =
      let e : i ≡ s.n = omega (arith, w.within) in
      w.moved ∙ ap (λ (k : ℕ). splice t (at + 7) (gathered s.n map t at k)) e ∙ ap (splice t (at + 7)) digests_are

  -- ---- the pointer
  module _ (f : count map ≡ s.t + s.k) (ht : at + work_size s ≤ length t) where
    digests-length : length digests ≡ 32 * (s.t + s.k)
    digests-length =
        sym (ap length digests_are)
        ∙ gathered_length s.n map t at (omega (arith, (sizes s h).pieces)) s.n (omega arith)
        ∙ omega (arith, ap length (nodes-all map s.n b (sizes s h).nodes))

    formed_length : length (write_pointer p) ≡ pointer_size s
    formed_length = length-pointer p ∙ omega (arith, digests-length)

    pointer-written : write_version (version_at t at) ++ (write_number 2 map ++ digests) ≡ write_pointer p
    unfolding write_pointer write_named pointer_from pointer_of
    pointer-written = refl

    -- the three writes
    pub formed : Bytes t → (front size : ℕ) → front ≡ pointer_size s → size ≡ work_size s
        → (u v w : List ℕ) → u ≡ splice t (at + 7) digests → v ≡ paste u (at + 5) (write_number 2 map) 2
        → w ≡ paste v (at + front) (replicate (at + size - (at + front)) 0) (at + size - (at + front))
        → w ≡ paste t at (write_pointer p ++ replicate (work_size s - pointer_size s) 0) (work_size s)
    formed bt front size ef es u v w eu ev ew =
        let x = write_version (version_at t at) in
        let y = write_number 2 map in
        let k : ℕ = work_size s - pointer_size s in
        let z = replicate {A = ℕ} k 0 in
        let lx : length x ≡ 5 = length-version (version_at t at) in
        let ly : length y ≡ 2 = length-number 2 map in
        let lz : length z ≡ k = length-replicate {A = ℕ} k 0 in
        let ld : length (y ++ digests) ≡ 2 + 32 * (s.t + s.k) = omega (arith, length-append y digests, digests-length) in
        let lp : length (write_pointer p) ≡ pointer_size s = formed_length in
        let ep : at + front ≡ at + pointer_size s = omega arith in
        let ek : at + size - (at + front) ≡ k = omega arith in
        let a : v ≡ splice t at (write_pointer p) =
        ev ∙ ap (λ (l : List ℕ). paste l (at + 5) y 2) eu ∙ paste_all (splice t (at + 7) digests) (at + 5) y 2 (sym ly)
        ∙ splice-before t (at + 5) (at + 7) y digests (omega arith) (omega arith)
        ∙ ap (λ (l : List ℕ). splice l (at + 5) (y ++ digests))
        (splice_self t at 5 ∙ ap (splice t at) (version-bytes t at bt (omega arith)))
        ∙ splice-next t at x (y ++ digests) (at + 5) (omega arith) (omega arith)
        ∙ ap (splice t at) pointer-written
        in
        ew ∙ (λ i. paste (a i) (ep i) (replicate (ek i) 0) (ek i))
        ∙ paste_all (splice t at (write_pointer p)) (at + pointer_size s) z k (sym lz)
        ∙ splice-next t at (write_pointer p) z (at + pointer_size s) (omega arith) (omega arith)
        ∙ sym (paste_all t at (write_pointer p ++ z) (work_size s) (omega (arith, length-append (write_pointer p) z)))
