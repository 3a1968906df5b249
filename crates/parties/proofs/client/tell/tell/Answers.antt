use Rattle.parties.proofs.client.TellLaws.{freed-broken, freed-sound, told_none, told-other}
use Rattle.parties.proofs.client.tell.tell.Goals as goal

pub returns-then-b-lt1 : goal.returns-then-b-lt1
returns-then-b-lt1 c = let a = c.args in told_none a.s a.b.now c.if-b-lt1.true

pub returns-then-tag-ne-FREED : goal.returns-then-tag-ne-FREED
returns-then-tag-ne-FREED c =
    let a = c.args in
    told-other a.s a.b.now c.if-b-lt1.false c.if-tag-eq-STORED.false c.if-tag-eq-REPLY.false c.if-tag-ne-FREED.true

pub returns-then-b-ne1 : goal.returns-then-b-ne1
returns-then-b-ne1 c =
    let a = c.args in
    freed-broken a.s a.b.now c.if-b-lt1.false c.if-tag-ne-FREED.false c.if-b-ne1.true

pub returns : goal.returns
returns c =
    let a = c.args in
    freed-sound a.s a.b.now c.if-b-lt1.false c.if-tag-ne-FREED.false c.if-b-ne1.false
