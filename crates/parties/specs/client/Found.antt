-- What a step finds in a client's area: what the client retains, and the pointer at the front of its work.
use Rattle.std.specs.Prelude.{List, [], ℕ, drop}
use Rattle.std.proofs.Math.Option.{Option, some, none}
use Rattle.parties.specs.declared.Measures.{Measures}
use Rattle.parties.specs.protocol.Format.{Read}
use Rattle.parties.specs.protocol.Pointer.{Pointer, none_pointer, read_pointer}
use Rattle.parties.specs.protocol.Client.{Retained, read_retained}
use Rattle.parties.specs.client.Record.{work_at}

abbrev pub retained_of : Option (Read Retained) → Retained
retained_of none = record { written = none_pointer; frozen = []; reserved = []; frozen_indices = [] }
retained_of (some r) = r.value

unfoldable pub retained_in : Measures → List ℕ → Retained
retained_in s area = retained_of (read_retained s area)

abbrev pub pointer_of : Option (Read Pointer) → Pointer
pointer_of none = none_pointer
pointer_of (some r) = r.value

unfoldable pub pointer_in : Measures → List ℕ → Pointer
pointer_in s area = pointer_of (read_pointer s (drop (work_at s) area))
