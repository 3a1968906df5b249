use Rattle.session.specs.Settle.{lend, desk, Hands}
use Rattle.session.proofs.settle.settle.Given as goal

-- One parcel after the other is handed over.
abbrev pub invariant-loop-turn : goal.invariant-loop-turn
invariant-loop-turn l =
    Hands l.s l.c (desk (lend l.initial.memory l.initial.post l.initial.room l.initial.out) l.initial.x.used l.initial.text l.initial.x.len) l.turn
    (desk (lend l.memory l.post l.room l.out) l.x.used l.text l.x.len)
