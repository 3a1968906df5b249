use Prim.Native.Nat.{◌*◌}
use Rattle.parties.specs.client.Draw.{room_digests}
use Rattle.parties.proofs.records.BytesLaws.{Copied}
use Rattle.parties.proofs.client.draw.put_digests.Given as goal

-- The digests of the first i pieces are written.
abbrev pub invariant-loop-i : goal.invariant-loop-i
invariant-loop-i l = Copied l.initial.area l.from (room_digests l.s.measures.n l.s.measures.f l.v l.len l.room) 0 (32 * l.s.measures.n) l.area (32 * l.i)
