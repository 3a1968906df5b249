-- A message to a client.
use Rattle.std.specs.Prelude.{List, ℕ}
use Rattle.parties.specs.declared.Measures.{Measures}
use Rattle.parties.specs.protocol.Message.{read_to_client}
use Rattle.parties.specs.protocol.Client.{read_client}
use Rattle.parties.specs.protocol.ClientEvents.{ClientEnd, on_client, on_message, message_at}

-- what a message from node i does to a client's record, room and output
unfoldable pub received_end : Measures → ℕ → List ℕ → List ℕ → List ℕ → List ℕ → ClientEnd
received_end s i client message room out =
    on_client s client room out (read_client s client) (λ c. on_message (read_to_client s message) (λ m. message_at s i c room out m))
