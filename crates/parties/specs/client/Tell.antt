-- What a message to a client tells.
use Rattle.std.specs.Prelude.{List, ℕ, drop, Option as StdOption, Some, None}
use Rattle.std.proofs.Math.Option.{Option, some, none}
use Rattle.parties.specs.protocol.Message.{ToClient}
use Rattle.parties.specs.declared.client.tell.Told.{Told}

-- a reply's piece is the rest of the message, after tag, version and the byte that says it is held
abbrev pub told_by : List ℕ → StdOption Told → Option ToClient
told_by b (Some (Told.Stored v)) = some (ToClient.stored v)
told_by b (Some Told.Freed) = some ToClient.freed
told_by b (Some (Told.Reply v)) = some (ToClient.reply v (drop 7 b))
told_by b (Some (Told.Missing v)) = some (ToClient.missing v)
told_by b None = none
