use mathlib.Core.Path.{ap₂, ◌∙◌}
use mathlib.Core.Bool.{not, ◌&&◌}
use lib.Dec.{ltb, eqb}
use Rattle.parties.specs.declared.ReadingIndex.{ReadingIndex}
use Rattle.parties.specs.protocol.Directory.{read_directory}
use Rattle.parties.proofs.protocol.formats.ClientLaws.{keeper}
use Rattle.parties.specs.client.Draw.{rows_of}
use Rattle.parties.specs.client.Found.{retained_in}
use Rattle.parties.proofs.client.NoticeLaws.{notices_is}
use Rattle.parties.proofs.client.notice.notices_client.Goals as goal

pub returns : goal.returns
returns c =
    let a = c.args in
    c.notices.ensures
    ∙ ap₂ (λ (k i : ReadingIndex). not (eqb a.q a.own) && ltb k.0 i.0) c.kept_index-kept.ensures c.shown_index-shown.ensures
    ∙ notices_is a.own (keeper (retained_in a.s.measures a.area.now)) (rows_of (read_directory a.s.measures a.rows.now)) a.q
