-- Starts of deposits with pages that are too long: all are refused alike.
use mathlib.Core.Path.{◌≡◌, sym, subst}
use mathlib.Core.Bool.{Bool}
use mathlib.Core.List.{List}
use Prim.Native.Nat.{ℕ, ◌-◌, ◌*◌, ◌<◌}
use borrow.Author.Tests.{ltb-true}
use lib.ListN.{length}
use Rattle.parties.specs.Sizes.{Sized}
use Rattle.parties.specs.declared.Measures.{Measures}
use Rattle.parties.specs.protocol.ClientEvents.{ClientEnd, start_deposit}
use Rattle.std.specs.Prelude.{Result}
use Rattle.parties.specs.declared.ClientAnswer.{ClientAnswer}
use Rattle.parties.specs.declared.Refusal.{Refusal}
use Rattle.parties.specs.client.Answer.{answered}
use Rattle.parties.specs.protocol.Run.{deposit}
use Rattle.parties.proofs.protocol.events.DepositStartLaws.{too_long_lem}
use Rattle.parties.proofs.protocol.events.SentLengths.{deposit_bounded}
use Rattle.title.specs.Memory.{record_in}
use Rattle.runs.specs.declared.answer.EventEnd.{EventEnd}
use Rattle.runs.specs.Acts.{Lent, AtClient, Acts}
use Rattle.runs.specs.Happens.{Unready, Ready, Happens}
use Rattle.runs.specs.Oldest.{alone}
use Rattle.runs.proofs.GoesLaws.{deposit-goes}

pub deposited-sized : (s : Measures) (a : Result ClientAnswer Refusal) (c : ℕ) (b page : List ℕ) → answered a ≡ (start_deposit s c b page).answer → Sized s (answered a)
deposited-sized s a c b page e = subst (Sized s) (sym e) (deposit_bounded s c b page)

module _ (s : Measures) (honest : ℕ → Bool) (c used : ℕ) (x y : Lent) (p q : List ℕ) (h : s.k * s.f - 4 < length p) (k : s.k * s.f - 4 < length q) where
  acts_long : (result : EventEnd) → Acts s honest used (alone x) (alone y) (deposit c p) result
      → Acts s honest used (alone x) (alone y) (deposit c q) result
  acts_long result (Acts.rests e m w) = absurd m
  acts_long result (Acts.deposits d b a t w o z) =
      Acts.deposits c q a result (subst (λ (r : ClientEnd). AtClient s c a r (alone x) (alone y)) (too_long_lem s c (record_in s c x.memory) p q h k) w) o z

  unready-long : (n : ℕ) → Unready s honest (deposit c p) used (alone x) n → Unready s honest (deposit c q) used (alone x) n
  unready-long n (Unready.measures e) = Unready.measures e
  unready-long n (Unready.short o e) = Unready.short o e
  unready-long n (Unready.lacks r e b) = Unready.lacks r e b
  unready-long n (Unready.outside r e b) = Unready.outside r e b
  unready-long n (Unready.form r e b f) = Unready.form r e b f

  acts_happen : (result : EventEnd) → Ready s (deposit c p) used (alone x) → length y.post ≡ length x.post
      → Acts s honest used (alone x) (alone y) (deposit c q) result
      → Happens s honest (deposit c q) used (alone x) (alone y) result
  acts_happen result v l (Acts.rests e o w) = absurd o
  acts_happen result v l (Acts.deposits d b a t w o z) =
      Happens.happens result (record { roomy = v.roomy; bounds = v.bounds; list = v.list }) l (Acts.deposits c q a result w o z)
      (λ es g. deposit-goes s v.roomy.measures honest es x.memory x.post used g c q a y.memory y.post result (ltb-true c s.m v.bounds)
      (subst (Sized s) (sym w.answer) (deposit_bounded s c (record_in s c x.memory) q)) w.answer w.memory z)

  pub deposit-long : (result : EventEnd) → Happens s honest (deposit c p) used (alone x) (alone y) result
      → Happens s honest (deposit c q) used (alone x) (alone y) result
  deposit-long result (Happens.unready r u e) = Happens.unready r (unready-long _ u) e
  deposit-long result (Happens.happens t v l w f) = acts_happen result v l (acts_long result w)
