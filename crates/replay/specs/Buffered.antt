-- What a clause reads of a `Buffered`.
use Rattle.std.specs.Prelude.{ℕ, List, Option, take}
use Rattle.std.specs.Io.KnownBytes.{append_known}
use Rattle.replay.specs.declared.buffered.Buffered.{Buffered}

-- the writer's bytes and then those that are held, where they are known
abbrev pub held : {T : Type 0} → (T → Option (List ℕ)) → Buffered T → Option (List ℕ)
held contents b = append_known (contents b.writer) (take b.len b.bytes)
