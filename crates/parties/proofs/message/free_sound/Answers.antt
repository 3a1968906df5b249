use mathlib.Core.Path.{◌∙◌}
use Prim.Native.Nat.{◌-◌, ◌%◌}
use borrow.Author.Tests.{ne_eqb}
use lib.ListN.{length}
use Rattle.parties.proofs.node.ToNodeLaws.{free-length, free_versions}
use Rattle.parties.proofs.message.free_sound.Goals as goal

pub returns-then-len-eq0 : goal.returns-then-len-eq0
returns-then-len-eq0 c = let a = c.args in c.list_sound.ensures ∙ free_versions a.s a.b.now c.if-len-eq0.true

pub returns-else-len-eq0 : goal.returns-else-len-eq0
returns-else-len-eq0 c =
    let b = c.args.b.now in ne_eqb ((length b - 1) % 5) 0 c.if-len-eq0.false ∙ free-length c.args.s b c.if-len-eq0.false
