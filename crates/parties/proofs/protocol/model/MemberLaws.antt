-- Members of a list: of its first entry and its rest, and of one more at its end.
use mathlib.Core.Path.{◌≡◌, refl, subst}
use mathlib.Core.Logic.{◌⊎◌, inl, inr}
use mathlib.Core.List.{List, [], ◌∷◌, ◌++◌}
use Rattle.parties.specs.protocol.Claim.{Member}

module _ {A : Type 0} (x : A) where
  pub member_first : (a : A) (l : List A) → a ≡ x → Member x (a ∷ l)
  member_first a l e = subst (λ y. Member y (a ∷ l)) e (Member.here l)

  pub member_cases : (a : A) (l : List A) → Member x (a ∷ l) → (x ≡ a) ⊎ Member x l
  member_cases a l (Member.here r) = inl refl
  member_cases a l (Member.there c r m) = inr m

  pub member_left : (l r : List A) → Member x l → Member x (l ++ r)
  member_left _ r (Member.here l) = Member.here (l ++ r)
  member_left _ r (Member.there b l m) = Member.there b (l ++ r) (member_left l r m)

  pub member_last : (l : List A) → Member x (l ++ (x ∷ []))
  member_last [] = Member.here []
  member_last (b ∷ l) = Member.there b (l ++ (x ∷ [])) (member_last l)

  pub member_split : (a : A) (l : List A) → Member x (l ++ (a ∷ [])) → Member x l ⊎ (x ≡ a)
  member_split a [] (Member.here l) = inr refl
  member_split a [] (Member.there b l m) = elim m [ ]
  member_split a (b ∷ l) (Member.here k) = inl (Member.here l)
  member_split a (b ∷ l) (Member.there c k m) = go (member_split a l m)
    where
      go : Member x l ⊎ (x ≡ a) → Member x (b ∷ l) ⊎ (x ≡ a)
      go (inl i) = inl (Member.there b l i)
      go (inr e) = inr e
