use mathlib.Core.Path.{refl}
use native.Mathlib.Omega.{arith}
use mathlib.Core.List.{[], ◌∷◌, ◌++◌}
use Rattle.lines.proofs.ReadLaws.{next-read}
use Rattle.session.proofs.SessionLaws.{runs_same}
use Rattle.session.proofs.session.feed.Goals as goal

pub returns-clause-feeds : goal.returns-clause-feeds
returns-clause-feeds c =
    let a = c.args in
    let n = c.next-reading.ensures in
    record {
      live = λ l.
          record {
            runs = λ e. runs_same _ _ _ _ refl refl (l.runs e);
            line = l.line ++ (a.b ∷ []);
            read = rw (n.0, n.1) (next-read l.line a.x.reading a.b a.page.now (omega arith) l.read);
          };
      ends = λ e. absurd (c.if-b-eq10.false e);
      takes = λ e. (rw (n.0, n.1) refl, refl);
    }
