use Rattle.std.proofs.Common.{length, sym, ap, ◌∙◌}
use Rattle.coding.specs.Join.{JoinedFrame}
use Rattle.coding.proofs.JoinLaws.{length-joined}
use Rattle.coding.proofs.join.Frame.size.Goals as goal

pub returns : goal.returns
returns c =
    let a = c.self.inside in
    sym (length-joined a.f a.room.now a.nodes.now a.columns) ∙ ap (λ (v : JoinedFrame). length v.bytes) c.self.view_is
