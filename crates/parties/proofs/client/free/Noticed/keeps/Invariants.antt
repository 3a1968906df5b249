use Rattle.parties.specs.client.Found.{retained_in}
use Rattle.parties.specs.client.Freeze.{frozen_now, reserved_now}
use Rattle.parties.proofs.client.FreeListLaws.{Clear}
use Rattle.parties.proofs.client.free.Noticed.keeps.Given as goal

-- None of the first q clients keeps the version.
abbrev pub invariant-loop-q : goal.invariant-loop-q
invariant-loop-q l = Clear l.v (frozen_now l.self.map (retained_in l.self.s.measures l.self.area.now) l.self.new) (reserved_now l.self.map (retained_in l.self.s.measures l.self.area.now)) l.q
