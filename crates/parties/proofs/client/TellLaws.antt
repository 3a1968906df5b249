-- Messages to a client: what their reader tells, by the positions of their bytes.
use mathlib.Core.Path.{◌≡◌, refl, sym, ap, ◌∙◌}
use mathlib.Core.Bool.{Bool, true, false, cond, ◌&&◌, true≢false}
use mathlib.Core.List.{List, [], ◌∷◌}
use mathlib.Core.Option.{Option, some, none}
use Prim.Native.Nat.{ℕ, suc, ◌<◌, ◌≤◌}
use native.Mathlib.Decide.{dec_le, ℕ_discrete}
use native.Mathlib.Omega.{arith}
use borrow.Author.Tests.{eq-eqb, ne_eqb}
use lib.Dec.{eqb}
use lib.ListN.{length, get_or, drop, length-drop}
use lib.Seq.{drop-cons, drop-length}
use Rattle.coding.proofs.Cases.{chosen_yes, chosen_no}
use Rattle.parties.specs.declared.Measures.{Measures}
use Rattle.parties.specs.declared.Version.{Version}
use Rattle.parties.specs.protocol.Format.{Read, chain, end_with}
use Rattle.parties.specs.protocol.Message.{read_proper, read_answer, answer, ToClient, read_to_client}
use Rattle.parties.specs.records.Places.{version_at, proper_at, version_alone}
use Rattle.parties.proofs.node.ToNodeLaws.{tag_is, tag_not, eqb_same, proper-read, proper-short, alone}

module _ (s : Measures) where
  -- tag 4

  stored-told : (b : List ℕ) → 1 ≤ length b → get_or b 0 0 ≡ 4 → read_to_client s b ≡ cond (version_alone s b) (some (ToClient.stored (version_at b 1))) none
  unfolding read_to_client
  stored-told [] h e = absurd (omega arith)
  stored-told (x ∷ u) h e = tag_is x 4 _ _ e ∙ alone s ToClient.stored x u

  module _ (b : List ℕ) (h : 1 ≤ length b) (e : get_or b 0 0 ≡ 4) where
    pub stored-broken : version_alone s b ≡ false → none ≡ read_to_client s b
    stored-broken q = chosen_no (version_alone s b) _ none q ∙ sym (stored-told b h e)

    pub stored-sound : version_alone s b ≡ true → (v : Version) → v ≡ version_at b 1 → some (ToClient.stored v) ≡ read_to_client s b
    stored-sound q v w =
        ap (λ (x : Version). some (ToClient.stored x)) w ∙ chosen_yes (version_alone s b) (some (ToClient.stored (version_at b 1))) none q ∙ sym (stored-told b h e)

  -- tag 5

  freed-told : (b : List ℕ) → 1 ≤ length b → get_or b 0 0 ≡ 5 → read_to_client s b ≡ cond (eqb (length b) 1) (some ToClient.freed) none
  unfolding read_to_client
  freed-told [] h e = absurd (omega arith)
  freed-told (x ∷ u) h e =
      tag_not x 4 _ _ (λ q. omega arith) ∙ tag_is x 5 _ _ e
      ∙ ap (λ (t : Bool). cond t (some ToClient.freed) none) (eqb_same (length u) 0 (suc (length u)) 1 (λ q. omega arith) (λ q. omega arith))

  module _ (b : List ℕ) (h : 1 ≤ length b) (e : get_or b 0 0 ≡ 5) where
    pub freed-broken : (length b ≡ 1 → ⊥) → none ≡ read_to_client s b
    freed-broken q = chosen_no (eqb (length b) 1) _ none (ne_eqb (length b) 1 q) ∙ sym (freed-told b h e)

    pub freed-sound : length b ≡ 1 → some ToClient.freed ≡ read_to_client s b
    freed-sound q = chosen_yes (eqb (length b) 1) (some ToClient.freed) none (eq-eqb (length b) 1 q) ∙ sym (freed-told b h e)

  -- tag 6

  replied-told : (b : List ℕ) → 1 ≤ length b → get_or b 0 0 ≡ 6 → read_to_client s b ≡ end_with (read_proper s) (λ v. read_answer) answer (drop 1 b)
  unfolding read_to_client
  replied-told [] h e = absurd (omega arith)
  replied-told (x ∷ u) h e = tag_not x 4 _ _ (λ q. omega arith) ∙ tag_not x 5 _ _ (λ q. omega arith) ∙ tag_is x 6 _ _ e

  abbrev replies : Option (Read Version) → Option ToClient
  replies o = chain o (λ x. chain (read_answer x.rest) (λ y. some (answer x.value y)))

  module _ (b : List ℕ) (h : 1 ≤ length b) (e : get_or b 0 0 ≡ 6) where
    replied-version : 6 ≤ length b → (t : Bool) → proper_at s b 1 ≡ t
        → read_to_client s b ≡ replies (cond t (some (record { value = version_at b 1; rest = drop 6 b })) none)
    replied-version l t q =
        replied-told b h e ∙ ap replies (proper-read s b 1 l)
        ∙ ap (λ (x : Bool). replies (cond x (some (record { value = version_at b 1; rest = drop 6 b })) none)) q

    nothing_left : length b ≡ 6 → drop 6 b ≡ []
    nothing_left l = ap (λ (n : ℕ). drop n b) (sym l) ∙ drop-length b

    pub replied-short : length b < 7 → none ≡ read_to_client s b
    replied-short l = go (ℕ_discrete (length b) 6)
      where
        empty : (t : Bool) → replies (cond t (some (record { value = version_at b 1; rest = [] })) none) ≡ none
        empty true = refl
        empty false = refl

        go : Dec (length b ≡ 6) → none ≡ read_to_client s b
        go (yes k) =
            sym (replied-version (omega arith) (proper_at s b 1) refl
            ∙ ap (λ (u : List ℕ). replies (cond (proper_at s b 1) (some (record { value = version_at b 1; rest = u })) none)) (nothing_left k)
            ∙ empty (proper_at s b 1))
        go (no k) = sym (replied-told b h e ∙ ap replies (proper-short s (drop 1 b) (omega (arith, length-drop 1 b))))

    module _ (l : 7 ≤ length b) where
      pub replied_improper : proper_at s b 1 ≡ false → none ≡ read_to_client s b
      replied_improper q = sym (replied-version (omega arith) false q)

      module _ (q : proper_at s b 1 ≡ true) where
        replied-proper : read_to_client s b ≡ chain (read_answer (get_or b 6 0 ∷ drop 7 b)) (λ y. some (answer (version_at b 1) y))
        replied-proper =
            replied-version (omega arith) true q
            ∙ ap (λ (u : List ℕ). chain (read_answer u) (λ y. some (answer (version_at b 1) y))) (drop-cons b 6 0 (omega arith))

        -- by the byte that says whether it is held
        abbrev held : Bool → Bool → Bool → Option ToClient
        held x y z =
            chain (cond x (some (some (drop 7 b))) (cond (y && z) (some none) none)) (λ y. some (answer (version_at b 1) y))

        pub replied-piece : (v : Version) → v ≡ version_at b 1 → get_or b 6 0 ≡ 1 → some (ToClient.reply v (drop 7 b)) ≡ read_to_client s b
        replied-piece v w x =
            ap (λ (y : Version). some (ToClient.reply y (drop 7 b))) w
            ∙ sym (replied-proper ∙ ap (λ (t : Bool). held t (eqb (get_or b 6 0) 0) (eqb (length (drop 7 b)) 0)) (eq-eqb (get_or b 6 0) 1 x))

        module _ (x : get_or b 6 0 ≡ 1 → ⊥) where
          replied-other : (y z : Bool) → eqb (get_or b 6 0) 0 ≡ y → eqb (length (drop 7 b)) 0 ≡ z → read_to_client s b ≡ held false y z
          replied-other y z f g = replied-proper ∙ (λ j. held (ne_eqb (get_or b 6 0) 1 x j) (f j) (g j))

          pub replied_neither : (get_or b 6 0 ≡ 0 → ⊥) → none ≡ read_to_client s b
          replied_neither y = sym (replied-other false (eqb (length (drop 7 b)) 0) (ne_eqb (get_or b 6 0) 0 y) refl)

          module _ (y : get_or b 6 0 ≡ 0) where
            pub replied-long : (length b ≡ 7 → ⊥) → none ≡ read_to_client s b
            replied-long z = sym (replied-other true false (eq-eqb (get_or b 6 0) 0 y) (ne_eqb (length (drop 7 b)) 0 (λ k. z (omega (arith, length-drop 7 b)))))

            pub replied-missing : (v : Version) → v ≡ version_at b 1 → length b ≡ 7 → some (ToClient.missing v) ≡ read_to_client s b
            replied-missing v w z =
                ap (λ (y : Version). some (ToClient.missing y)) w
                ∙ sym (replied-other true true (eq-eqb (get_or b 6 0) 0 y) (eq-eqb (length (drop 7 b)) 0 (omega (arith, length-drop 7 b))))

  -- other messages

  pub told_none : (b : List ℕ) → length b < 1 → none ≡ read_to_client s b
  unfolding read_to_client
  told_none [] h = refl
  told_none (x ∷ u) h = absurd (omega arith)

  pub told-other : (b : List ℕ) → 1 ≤ length b → (get_or b 0 0 ≡ 4 → ⊥) → (get_or b 0 0 ≡ 6 → ⊥) → (get_or b 0 0 ≡ 5 → ⊥) → none ≡ read_to_client s b
  unfolding read_to_client
  told-other [] h p q r = refl
  told-other (x ∷ u) h p q r = sym (tag_not x 4 _ _ p ∙ tag_not x 5 _ _ r ∙ tag_not x 6 _ _ q)

-- a reply has a byte behind its version
abbrev is_reply : Option ToClient → Bool
is_reply none = false
is_reply (some (ToClient.stored v)) = false
is_reply (some ToClient.freed) = false
is_reply (some (ToClient.reply v x)) = true
is_reply (some (ToClient.missing v)) = false

pub reply-long : (s : Measures) (b : List ℕ) (v : Version) (x : List ℕ) → some (ToClient.reply v x) ≡ read_to_client s b → 7 ≤ length b
reply-long s b v x e = go (dec_le 7 (length b))
  where
    neither : (t : Bool) (m : ToClient) → is_reply (some m) ≡ false → is_reply (cond t (some m) none) ≡ false
    neither true m f = f
    neither false m f = refl

    tagged : length b < 7 → 1 ≤ length b → Dec (get_or b 0 0 ≡ 4) → Dec (get_or b 0 0 ≡ 6) → Dec (get_or b 0 0 ≡ 5) → is_reply (read_to_client s b) ≡ false
    tagged l h (yes t) q r = ap is_reply (stored-told s b h t) ∙ neither (version_alone s b) (ToClient.stored (version_at b 1)) refl
    tagged l h (no p) (yes t) r = ap is_reply (sym (replied-short s b h t l))
    tagged l h (no p) (no q) (yes t) = ap is_reply (freed-told s b h t) ∙ neither (eqb (length b) 1) ToClient.freed refl
    tagged l h (no p) (no q) (no r) = ap is_reply (sym (told-other s b h p q r))

    short : length b < 7 → Dec (1 ≤ length b) → is_reply (read_to_client s b) ≡ false
    short l (yes h) = tagged l h (ℕ_discrete (get_or b 0 0) 4) (ℕ_discrete (get_or b 0 0) 6) (ℕ_discrete (get_or b 0 0) 5)
    short l (no h) = ap is_reply (sym (told_none s b (omega arith)))

    go : Dec (7 ≤ length b) → 7 ≤ length b
    go (yes h) = h
    go (no h) = absurd (true≢false (ap is_reply e ∙ short (omega arith) (dec_le 1 (length b))))
