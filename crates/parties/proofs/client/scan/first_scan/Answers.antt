use Rattle.std.proofs.Common.{Fits, w8, get_or, rules}
use mathlib.Core.Path.{◌≡◌, sym, ap, ◌∙◌}
use native.Mathlib.Omega.{arith}
use Rattle.parties.specs.protocol.Version.{next_sequence}
use Rattle.parties.specs.protocol.Directory.{read_directory}
use Rattle.parties.specs.protocol.Deposit.{highest}
use Rattle.parties.specs.client.Draw.{rows_of}
use Rattle.parties.proofs.client.ScanLaws.{drawn_one, scanned_draws, scanned-spent}
use Rattle.parties.proofs.client.GateLaws.{Opened}
use Rattle.parties.proofs.client.scan.first_scan.Goals as goal
use Rattle.parties.proofs.client.scan.first_scan.Goals.{After-next}

opened : (c : After-next) → let a = c.args in Opened a.s.measures a.p a.area.now
opened c =
    let q = c.requires in
    record { measures = c.args.s.pass; step = omega arith; reading = omega arith; bytes = λ i. let b : Fits w8 (get_or c.args.area.now i 0) = search rules in b.fits; reads = q.2 }

drawn : (c : After-next) → next_sequence (highest (rows_of (read_directory c.args.s.measures c.args.rows.now))) ≡ c.next.result
drawn c = sym (c.next.ensures ∙ ap next_sequence c.highest.ensures)

pub returns-in_default : goal.returns-in_default
returns-in_default c =
    let a = c.args in
    let k = (goal.at.returns-in_default c).After-next in
    c.give_up.ensures ∙ sym (scanned-spent a.s.measures a.p a.area.now (opened k) a.own a.rows.now a.room.now c.requires.1 (drawn k ∙ c.in_default.is))

pub draw-requires : goal.draw-requires
draw-requires c =
    let a = c.args in
    let q = c.requires in
    let k = (goal.at.draw-requires c).After-next in
    (q.0, q.1, q.2, q.4, drawn_one (highest (rows_of (read_directory a.s.measures a.rows.now))) c.in-Some.q (drawn k ∙ c.in-Some.is))

pub returns : goal.returns
returns c =
    let a = c.args in
    let k = (goal.at.returns c).After-next in
    c.draw.ensures ∙ sym (scanned_draws a.s.measures a.p a.area.now (opened k) a.own a.rows.now a.room.now c.requires.1 c.in-Some.q (drawn k ∙ c.in-Some.is))
