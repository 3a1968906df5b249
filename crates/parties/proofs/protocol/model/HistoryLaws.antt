-- Histories after a step, written out: what a mark leaves is a record whose fields compute.
use mathlib.Core.Path.{◌≡◌, refl}
use mathlib.Core.List.{List}
use mathlib.Core.Option.{Option, none}
use Prim.Native.Nat.{ℕ, ◌+◌}
use borrow.Author.Tests.{eq-eqb}
use Rattle.parties.specs.protocol.Run.{History, Operation, Put, Reply, begin, upd}
use Rattle.parties.proofs.protocol.model.Model.{Marks}

-- one event more, with these operations, puts and replies
abbrev pub after : History → (ℕ → Operation) → List Put → List Reply → History
after h operation puts replied =
    record { time = h.time + 1; begun = h.begun; operation = operation; latest = h.latest; puts = puts; replied = replied }

pub marks_after : (h h' : History) (operation : ℕ → Operation) (puts : List Put) → Marks h h' operation puts → h' ≡ after h operation puts h'.replied
marks_after h h' operation puts q =
    λ i. record {
      time = q.time i;
      begun = q.begun i;
      operation = q.operations i;
      latest = q.latest i;
      puts = q.put i;
      replied = h'.replied;
    }

-- client c's last operation is a now
abbrev pub marked_at : History → ℕ → Operation → List Reply → History
marked_at h c a replied = after h (upd h.operation (h.latest c) a) h.puts replied

pub marked-last : (h : History) (c : ℕ) (a : Operation) (replied : List Reply) → (marked_at h c a replied).operation (h.latest c) ≡ a
marked-last h c a replied = rw (eq-eqb (h.latest c) (h.latest c) refl) refl

-- an operation that begins
abbrev pub opening : ℕ → Option (List ℕ) → ℕ → Operation
opening c page time = record { client = c; page = page; began = time; ended = none; version = none; pointer = none; given = none }

pub begun-last : (h : History) (c : ℕ) (page : Option (List ℕ)) → (begin c page h).operation ((begin c page h).latest c) ≡ opening c page h.time
begun-last h c page = rw (eq-eqb c c refl) (rw (eq-eqb h.begun h.begun refl) refl)
