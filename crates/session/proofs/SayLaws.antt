-- Answers of which no line tells.
use mathlib.Core.Path.{◌≡◌, refl}
use mathlib.Core.List.{List}
use mathlib.Core.Logic.{◌≢◌}
use mathlib.Core.Option.{none}
use Prim.Native.Nat.{ℕ}
use Rattle.std.specs.Prelude.{Result}
use Rattle.parties.specs.declared.Version.{Version}
use Rattle.parties.specs.declared.Refusal.{Refusal}
use Rattle.parties.specs.declared.ClientAnswer.{ClientAnswer}
use Rattle.runs.specs.declared.answer.Happened.{Happened}
use Rattle.session.specs.Say.{client_line, happened_line}

pub client_silent : (c : ℕ) (a : ClientAnswer) (out : List ℕ) → ((v : Version) (len : ℕ) → a ≢ ClientAnswer.Deposited v len) → a ≢ ClientAnswer.Empty
    → ((v : Version) (len : ℕ) → a ≢ ClientAnswer.Page v len) → a ≢ ClientAnswer.Spent → a ≢ ClientAnswer.Failed → client_line c a out ≡ none
client_silent c ClientAnswer.Waits out d e p s w = refl
client_silent c ClientAnswer.Scan out d e p s w = refl
client_silent c (ClientAnswer.Update len) out d e p s w = refl
client_silent c (ClientAnswer.Stores v len) out d e p s w = refl
client_silent c (ClientAnswer.Requests v nodes) out d e p s w = refl
client_silent c (ClientAnswer.Deposited v len) out d e p s w = absurd (d v len refl)
client_silent c ClientAnswer.Empty out d e p s w = absurd (e refl)
client_silent c (ClientAnswer.Page v len) out d e p s w = absurd (p v len refl)
client_silent c ClientAnswer.Spent out d e p s w = absurd (s refl)
client_silent c ClientAnswer.Failed out d e p s w = absurd (w refl)

pub happened_silent : (c : ℕ) (a : Happened) (out : List ℕ) → ((r : Refusal) → a ≢ Happened.Refused r) → ((b : Result ClientAnswer Refusal) → a ≢ Happened.ByClient b)
    → happened_line c a out ≡ none
happened_silent c (Happened.Refused r) out f b = absurd (f r refl)
happened_silent c Happened.Nothing out f b = refl
happened_silent c Happened.Taken out f b = refl
happened_silent c (Happened.ByClient a) out f b = absurd (b a refl)
happened_silent c (Happened.ByServer a) out f b = refl
