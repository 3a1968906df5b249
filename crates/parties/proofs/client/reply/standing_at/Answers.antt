use Prim.Native.Nat.{◌+◌}
use native.Mathlib.Omega.{arith}
use Rattle.parties.proofs.records.PlaceLaws.{number-told}
use Rattle.parties.proofs.client.reply.standing_at.Goals as goal

pub returns : goal.returns
returns c =
    let a = c.args in
    let q = c.requires in
    let n = number-told a.area.now (a.at + 5) _ _ (omega (arith, q.0)) c.u16_at-named.ensures in
    let k = number-told a.area.now a.maps _ _ (omega (arith, q.1)) c.u16_at-counted.ensures in
    let m = number-told a.area.now (a.maps + 2) _ _ (omega (arith, q.1)) c.u16_at-matching.ensures in
    λ j. record { version = c.version_at-version.ensures j; named = n j; counted = k j; matching = m j }
