-- An event that is refused by the record alone: a record that is too short for its phase is too short.
use mathlib.Core.Path.{◌≡◌, refl, sym, ap, ◌∙◌}
use mathlib.Core.Bool.{Bool, true, false, cond}
use mathlib.Core.List.{List}
use Prim.Native.Nat.{ℕ, ◌<◌}
use native.Mathlib.Omega.{arith}
use lib.ListN.{length}
use Rattle.parties.specs.declared.Measures.{Measures}
use Rattle.parties.specs.protocol.Measures.{passes}
use Rattle.parties.specs.protocol.Client.{client_size}
use Rattle.parties.specs.protocol.Answer.{ClientAnswer, refused}
use Rattle.parties.specs.protocol.ClientEvents.{ClientEnd, unchanged}
use Rattle.parties.proofs.protocol.events.LacksLaws.{Lacks, measures, short}

pub brief_lacks : (s : Measures) (client : List ℕ) → length client < 5
    → (n : ℕ) × Lacks s (client_size s) client n × (cond (passes s) 2 1 ≡ n)
brief_lacks s client h = go (passes s) refl
  where
    go : (b : Bool) → passes s ≡ b → (n : ℕ) × Lacks s (client_size s) client n × (cond b 2 1 ≡ n)
    go true e = (2, short e (omega arith), refl)
    go false e = (1, measures e, refl)

-- its answer, and nothing changes
pub lacking : (n : ℕ) (x : ClientAnswer) (e : ClientEnd) (client room out : List ℕ) → x ≡ refused n → e ≡ unchanged (refused n) client room out
    → (x ≡ e.answer) × (client ≡ e.client) × (room ≡ e.room) × (out ≡ e.out)
lacking n x e client room out a q = (
  a ∙ ap (λ (y : ClientEnd). y.answer) (sym q),
  ap (λ (y : ClientEnd). y.client) (sym q),
  ap (λ (y : ClientEnd). y.room) (sym q),
  ap (λ (y : ClientEnd). y.out) (sym q),
)
