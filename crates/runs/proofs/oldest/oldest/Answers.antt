use mathlib.Core.Path.{refl, ap, ◌∙◌}
use Rattle.runs.specs.Parcels.{kind_of}
use Rattle.runs.specs.Oldest.{honest_all, Oldest}
use Rattle.runs.proofs.OldestLaws.{call_first, return_first, to_node_first, to_client_first}
use Rattle.runs.proofs.oldest.oldest.Goals as goal

pub returns-in-Err : goal.returns-in-Err
returns-in-Err c = Oldest.cramped _ c.in-Err.ensures refl

pub returns-then-used-eq0 : goal.returns-then-used-eq0
returns-then-used-eq0 c = Oldest.none c.in_default.ensures c.if-used-eq0.true refl

pub returns-in-Err-front : goal.returns-in-Err-front
returns-in-Err-front c = let f = c.in-Err-front.ensures in rw f.0 (Oldest.form c.in_default.ensures f.1 refl)

pub returns-in-Call : goal.returns-in-Call
returns-in-Call c =
    let a = c.args in
    let f = c.in-Ok.ensures in
    let d = c.carry in
    call_first a.s a.used (record { memory = a.memory.now; post = a.post.now; room = a.room.now; out = a.out.now }) (record { memory = d.new.memory; post = d.new.post; room = d.new.room; out = a.out.now }) d.result f.0 refl _ f.2 (f.1 ∙ ap kind_of c.in-Call.is) (d.ensures honest_all)

pub returns-in-Return : goal.returns-in-Return
returns-in-Return c =
    let a = c.args in
    let f = c.in-Ok.ensures in
    let d = c.hand in
    return_first a.s a.used (record { memory = a.memory.now; post = a.post.now; room = a.room.now; out = a.out.now }) (record { memory = d.new.memory; post = d.new.post; room = d.new.room; out = a.out.now }) d.result f.0 refl _ f.2 (f.1 ∙ ap kind_of c.in-Return.is) (d.ensures honest_all)

pub returns-in-ToNode : goal.returns-in-ToNode
returns-in-ToNode c =
    let a = c.args in
    let f = c.in-Ok.ensures in
    let d = c.bring in
    to_node_first a.s a.used (record { memory = a.memory.now; post = a.post.now; room = a.room.now; out = a.out.now }) (record { memory = d.new.memory; post = d.new.post; room = d.new.room; out = a.out.now }) d.result f.0 refl _ f.2 _ f.3 (f.1 ∙ ap kind_of c.in-ToNode.is) d.ensures

pub returns-in-ToClient : goal.returns-in-ToClient
returns-in-ToClient c =
    let a = c.args in
    let f = c.in-Ok.ensures in
    let d = c.deliver in
    to_client_first a.s a.used (record { memory = a.memory.now; post = a.post.now; room = a.room.now; out = a.out.now }) (record { memory = d.new.memory; post = d.new.post; room = d.new.room; out = d.new.out }) d.result f.0 _ _ f.2 f.3 (f.1 ∙ ap kind_of c.in-ToClient.is) (d.ensures honest_all)
