use mathlib.Core.Path.{◌≡◌}
use mathlib.Core.List.{List}
use Prim.Native.Nat.{ℕ}
use lib.ListN.{length}
use Rattle.parties.specs.client.Found.{retained_in}
use Rattle.parties.specs.client.FreeList.{Listing, freed_up_to}
use Rattle.parties.proofs.client.free.put_free_list.Given as goal

-- The free list of the first q clients stands in the room, of whatever room it was begun in.
abbrev pub invariant-loop-q : goal.invariant-loop-q
invariant-loop-q l =
    (length l.room ≡ length l.initial.room)
    × ((first : List ℕ) → Listing first (freed_up_to l.fn.s.measures l.map (retained_in l.fn.s.measures l.area) l.fn.v 0) l.start l.initial.room → Listing first (freed_up_to l.fn.s.measures l.map (retained_in l.fn.s.measures l.area) l.fn.v l.q) l.count l.room)
