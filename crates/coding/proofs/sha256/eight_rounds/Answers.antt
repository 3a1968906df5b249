use Rattle.std.proofs.Common.{◌+◌, arith}
use Rattle.coding.proofs.Sha256Laws.{round_turn}
use Rattle.coding.proofs.sha256.eight_rounds.Goals as goal

pub returns : goal.returns
returns c =
    λ h e.
    let w = c.args.w.now in
    let t = c.args.t in
    let e1 = round_turn w h _ _ t (t + 1) (omega arith) e c.round-v1.ensures in
    let e2 = round_turn w h _ _ (t + 1) (t + 2) (omega arith) e1 c.round-v2.ensures in
    let e3 = round_turn w h _ _ (t + 2) (t + 3) (omega arith) e2 c.round-v3.ensures in
    let e4 = round_turn w h _ _ (t + 3) (t + 4) (omega arith) e3 c.round-v4.ensures in
    let e5 = round_turn w h _ _ (t + 4) (t + 5) (omega arith) e4 c.round-v5.ensures in
    let e6 = round_turn w h _ _ (t + 5) (t + 6) (omega arith) e5 c.round-v6.ensures in
    let e7 = round_turn w h _ _ (t + 6) (t + 7) (omega arith) e6 c.round-v7.ensures in
    round_turn w h _ _ (t + 7) (t + 8) (omega arith) e7 c.round.ensures
