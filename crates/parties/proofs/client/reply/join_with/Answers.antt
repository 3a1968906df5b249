use mathlib.Core.Path.{◌≡◌, sym, ap, ◌∙◌}
use mathlib.Core.List.{List}
use Prim.Native.Nat.{ℕ, ◌+◌, ◌-◌, ◌*◌}
use native.Mathlib.Omega.{arith}
use lib.ListN.{length, take, drop}
use lib.Seq.{paste, length-paste, length-take-le}
use Rattle.coding.specs.Join.{join}
use Rattle.parties.specs.protocol.Format.{write_area}
use Rattle.parties.proofs.protocol.formats.FormatLaws.{length_area}
use Rattle.parties.proofs.client.FormLaws.{sizes}
use Rattle.parties.proofs.client.JoinWithLaws.{put_back}
use Rattle.parties.proofs.records.SizeLaws.{below_rows}
use borrow.Author.Rules.{rules}
use Rattle.parties.proofs.client.reply.join_with.Goals as goal

pub overflow_cast-len : goal.overflow_cast-len
overflow_cast-len c = omega (arith, (sizes c.args.s.measures c.args.s.pass).bytes, c.requires.3)

pub overflow_mul-place : goal.overflow_mul-place
overflow_mul-place c = let a = c.args in omega (arith, below_rows (a.i - 1) a.s.measures.n a.s.measures.f (omega arith), (sizes a.s.measures c.args.s.pass).pieces)

pub overflow_add-place : goal.overflow_add-place
overflow_add-place c = let a = c.args in omega (arith, below_rows (a.i - 1) a.s.measures.n a.s.measures.f (omega arith), c.requires.2)

pub lengths_with-lens-requires : goal.lengths_with-lens-requires
lengths_with-lens-requires c = let q = c.requires in ((sizes c.args.s.measures c.args.s.pass).nodes, q.0, q.1, omega (arith, q.2))

pub save-saved-requires : goal.save-saved-requires
save-saved-requires c =
    let a = c.args in ((sizes a.s.measures c.args.s.pass).bytes, omega (arith, below_rows (a.i - 1) a.s.measures.n a.s.measures.f (omega arith), c.requires.2))

pub put_area-requires : goal.put_area-requires
put_area-requires c =
    let a = c.args in (omega (arith, below_rows (a.i - 1) a.s.measures.n a.s.measures.f (omega arith), c.requires.2), c.requires.3)

pub slice_bounds-lens-end : goal.slice_bounds-lens-end
slice_bounds-lens-end c =
    let l : length c.lengths_with-lens.result ≡ 16 = search rules in omega (arith, (sizes c.args.s.measures c.args.s.pass).nodes)

pub slice_bounds-join-end-2 : goal.slice_bounds-join-end-2
slice_bounds-join-end-2 c =
    let l : length c.lengths_with-lens.result ≡ 16 = search rules in
    sym (length-take-le c.args.s.measures.n c.lengths_with-lens.result (omega (arith, (sizes c.args.s.measures c.args.s.pass).nodes)))

pub copy-requires : goal.copy-requires
copy-requires c =
    let a = c.args in
    let q = c.requires in
    let v : length c.save-saved.result ≡ 4096 = search rules in
    let place : ℕ = a.at + 2 * a.s.measures.n + (a.i - 1) * a.s.measures.f in
    let w = write_area a.s.measures.f (λ p. p) a.piece.now in
    let r = below_rows (a.i - 1) a.s.measures.n a.s.measures.f (omega arith) in
    let l = ap length c.put_area.ensures
    ∙ length-paste a.area.now place w a.s.measures.f (omega (arith, r, q.2)) (omega (arith, length_area a.s.measures.f (λ p. p) a.piece.now q.3))
    in
    (omega (arith, r, q.2, l), omega (arith, v, (sizes a.s.measures c.args.s.pass).bytes))

pub returns : goal.returns
returns c =
    let a = c.args in
    let q = c.requires in
    let place : ℕ = a.at + 2 * a.s.measures.n + (a.i - 1) * a.s.measures.f in
    let x = c.put_area.ensures in
    let k : a.at + 2 * a.s.measures.n + a.s.measures.n * a.s.measures.f - (a.at + 2 * a.s.measures.n) ≡ a.s.measures.n * a.s.measures.f = omega arith in
    let y = c.lengths_with-lens.ensures in (
      c.join-a.ensures.0 ∙ (λ j. (join a.s.measures.n a.s.measures.k a.s.measures.f a.matching (take (k j) (drop (a.at + 2 * a.s.measures.n) (x j))) (y j) a.out.now).outcome),
      c.join-a.ensures.1 ∙ (λ j. (join a.s.measures.n a.s.measures.k a.s.measures.f a.matching (take (k j) (drop (a.at + 2 * a.s.measures.n) (x j))) (y j) a.out.now).out),
      c.copy.ensures ∙ ap (λ (l : List ℕ). paste l place c.save-saved.result a.s.measures.f) x
          ∙ put_back a.area.now place (write_area a.s.measures.f (λ p. p) a.piece.now) c.save-saved.result a.s.measures.f
          (omega (arith, below_rows (a.i - 1) a.s.measures.n a.s.measures.f (omega arith), q.2)) (length_area a.s.measures.f (λ p. p) a.piece.now q.3) c.save-saved.ensures,
    )
