-- What holds of the service's memory after every list of events.
use Rattle.std.specs.Prelude.{Bool, List, ℕ}
use Rattle.parties.specs.declared.Measures.{Measures}
use Rattle.parties.specs.protocol.Run.{State}
use Rattle.parties.specs.protocol.Claim.{Claim}
use Rattle.title.specs.Memory.{directory_in, table_in, record_in}
use Rattle.title.specs.Service.{MemoryShows}

-- a run's state, with the memory's tables and records in place of its own
abbrev pub in_memory : Measures → List ℕ → State → State
in_memory s memory st =
    record {
      directory = directory_in s memory;
      nodes = λ i. table_in s i memory;
      clients = λ c. record_in s c memory;
      calls = st.calls;
      returns = st.returns;
      to_node = st.to_node;
      to_client = st.to_client;
      history = st.history;
    }

pub record ServiceClaim (s : Measures) (honest : ℕ → Bool) (memory : List ℕ) (st : State) : Type 0 where
  -- the memory has the run's tables and records
  pub shows : MemoryShows s memory st
  -- the claim holds of the run
  pub of_run : Claim s honest st
  -- and of the memory itself: an honest node's table there reads; named by an open reading's pointer it has the piece, and of one writer at most 2m
  pub of_memory : Claim s honest (in_memory s memory st)
