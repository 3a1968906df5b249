use Rattle.std.proofs.Common.{◌≡◌, ℕ, ◌+◌, ◌*◌, ◌/◌, ◌%◌, ◌<◌, length, get_or, ap, ◌∙◌, mod-lt, div-lt_iff_lt-mul, div-add-mod', arith}
use Rattle.coding.specs.Join.{JoinedFrame}
use Rattle.coding.proofs.JoinLaws.{length-joined}
use Rattle.coding.proofs.join.Frame.byte.Goals as goal

pub weigh-requires : goal.weigh-requires
weigh-requires c =
    let a = c.self.inside in
    let k = ap (λ (v : JoinedFrame). v.k) c.self.view_is in
    let n = ap (λ (v : JoinedFrame). v.columns) c.self.view_is in
    let b = ap (λ (v : JoinedFrame). length v.bytes) c.self.view_is in
    let s = length-joined a.f a.room.now a.nodes.now a.columns in
    let i : c.args.p < a.columns * length a.nodes.now = omega arith in
    let h : c.args.p / length a.nodes.now < a.columns = (div-lt_iff_lt-mul c.self.invariant.0).1 i in
    (omega (arith, mod-lt c.args.p c.self.invariant.0), omega arith, omega arith)

pub returns : goal.returns
returns c =
    let a = c.self.inside in
    let p = c.args.p in
    let k = ap (λ (v : JoinedFrame). v.k) c.self.view_is in
    let z : p / length a.nodes.now + 0 ≡ p / length a.nodes.now = omega arith in
    let e : (p / length a.nodes.now + 0) * c.args.self.now.k + p % length a.nodes.now ≡ p =
    rw (z, ← k) (div-add-mod' p (length a.nodes.now))
    in
    c.weigh.ensures 0 (omega arith) ∙ ap (λ (i : ℕ). get_or c.args.self.now.bytes i 0) e
