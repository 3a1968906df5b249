use mathlib.Core.Path.{sym, ◌∙◌}
use Rattle.parties.proofs.client.TellLaws.{replied-short, replied_improper, replied-piece, replied_neither, replied-long, replied-missing}
use Rattle.parties.proofs.client.tell.replied.Goals as goal

pub returns-then-b-lt7 : goal.returns-then-b-lt7
returns-then-b-lt7 c =
    let a = c.args in
    let p = c.requires in
    replied-short a.s a.b.now p.0 p.1 c.if-b-lt7.true

pub returns-then-not-proper_at : goal.returns-then-not-proper_at
returns-then-not-proper_at c =
    let a = c.args in
    let p = c.requires in
    let proper-at = c.proper_at in
    replied_improper a.s a.b.now p.0 p.1 c.if-b-lt7.false (sym proper-at.ensures ∙ c.if-not-proper_at.true)

pub returns-then-held-eq1 : goal.returns-then-held-eq1
returns-then-held-eq1 c =
    let a = c.args in
    let p = c.requires in
    let proper-at = c.proper_at in
    replied-piece a.s a.b.now p.0 p.1 c.if-b-lt7.false
    (sym proper-at.ensures ∙ c.if-not-proper_at.false) c.version_at-v.result c.version_at-v.ensures c.if-held-eq1.true

pub returns-then-held-ne0 : goal.returns-then-held-ne0
returns-then-held-ne0 c =
    let a = c.args in
    let p = c.requires in
    let proper-at = c.proper_at in
    replied_neither a.s a.b.now p.0 p.1 c.if-b-lt7.false (sym proper-at.ensures ∙ c.if-not-proper_at.false)
    c.if-held-eq1.false c.if-held-ne0.true

pub returns-then-b-ne7 : goal.returns-then-b-ne7
returns-then-b-ne7 c =
    let a = c.args in
    let p = c.requires in
    let proper-at = c.proper_at in
    replied-long a.s a.b.now p.0 p.1 c.if-b-lt7.false (sym proper-at.ensures ∙ c.if-not-proper_at.false)
    c.if-held-eq1.false c.if-held-ne0.false c.if-b-ne7.true

pub returns : goal.returns
returns c =
    let a = c.args in
    let p = c.requires in
    let proper-at = c.proper_at in
    replied-missing a.s a.b.now p.0 p.1 c.if-b-lt7.false (sym proper-at.ensures ∙ c.if-not-proper_at.false)
    c.if-held-eq1.false c.if-held-ne0.false c.version_at-v.result c.version_at-v.ensures c.if-b-ne7.false
