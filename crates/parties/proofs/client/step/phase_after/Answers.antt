use mathlib.Core.Logic.{◌⊎◌, inl, inr}
use mathlib.Core.Path.{◌≡◌, refl, sym, ap}
use Rattle.parties.specs.protocol.Client.{idle_step}
use Rattle.std.specs.Prelude.{ℕ, ◌≢◌}
use Rattle.parties.specs.declared.Phase.{Phase}
use Rattle.parties.specs.declared.Version.{Version}
use Rattle.parties.specs.declared.ClientAnswer.{ClientAnswer}
use Rattle.parties.specs.client.Step.{at_step, phase_after}
use Rattle.parties.proofs.client.step.phase_after.Goals as goal
use Rattle.parties.proofs.client.step.phase_after.Goals.{in-Waits, in-Update, in-Stores, in-Requests, in_default}

-- the answers that are left end an operation
ends : (p : Phase) (a : ClientAnswer) → a ≢ ClientAnswer.Waits → a ≢ ClientAnswer.Scan
    → ((len : ℕ) → a ≢ ClientAnswer.Update len) → ((v : Version) (len : ℕ) → a ≢ ClientAnswer.Stores v len)
    → ((v : Version) (nodes : ℕ) → a ≢ ClientAnswer.Requests v nodes) → at_step p idle_step ≡ phase_after p a
ends p ClientAnswer.Waits w s u st q = absurd (w refl)
ends p ClientAnswer.Scan w s u st q = absurd (s refl)
ends p (ClientAnswer.Update len) w s u st q = absurd (u len refl)
ends p (ClientAnswer.Stores v len) w s u st q = absurd (st v len refl)
ends p (ClientAnswer.Requests v nodes) w s u st q = absurd (q v nodes refl)
ends p (ClientAnswer.Deposited v len) w s u st q = refl
ends p ClientAnswer.Empty w s u st q = refl
ends p (ClientAnswer.Page v len) w s u st q = refl
ends p ClientAnswer.Spent w s u st q = refl
ends p ClientAnswer.Failed w s u st q = refl

-- those that leave the step
stays : (p : Phase) (a : ClientAnswer) → (a ≡ ClientAnswer.Waits) ⊎ (a ≡ ClientAnswer.Scan) → p ≡ phase_after p a
stays p a (inl e) = ap (phase_after p) (sym e)
stays p a (inr e) = ap (phase_after p) (sym e)

pub returns : goal.returns
returns c =
    let p = c.args.p in
    let a = c.args.a in
    elim c.match-a.branch [
      | in-Waits w ↦ rw w.step-is (stays p a w.in-Waits.is)
      | in-Update w ↦ rw w.step-is (ap (phase_after p) (sym w.in-Update.is))
      | in-Stores w ↦ rw w.step-is (ap (phase_after p) (sym w.in-Stores.is))
      | in-Requests w ↦ rw w.step-is (ap (phase_after p) (sym w.in-Requests.is))
      | in_default w ↦ let d = w.in_default in rw w.step-is (ends p a d.not-Waits d.not-Scan d.not-Update d.not-Stores d.not-Requests)
    ]
