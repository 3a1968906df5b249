use Rattle.std.proofs.Common.{◌≡◌, ◌+◌, ◌*◌, ◌/◌, ◌%◌, ◌<◌, ◌≤◌, ℕ, List, length, get_or, rules, arith, sym, ap₂, ◌∙◌, le_of_eq}
use lib.Seq.{paste}
use Rattle.coding.proofs.BytesLaws.{Front, front-more}
use Rattle.recordings.specs.Planes.{among_planes}
use Rattle.recordings.proofs.PlaceLaws.{row_of, entry_of}
use Rattle.recordings.proofs.FrontLaws.{front-columns}
use Rattle.recordings.proofs.triples.write_triples.Goals as goal

-- sixteen samples more
module _ (d t u u' v : List ℕ) (n k : ℕ) (long : length v ≡ 48) (room : 48 * k + 48 ≤ length t)
    (p : (l : ℕ) → l < 48 → get_or v l 0 ≡ get_or d (among_planes n (16 * k + l / 3) (l % 3)) 0)
    (e : u' ≡ paste u (48 * k) v 48) (f : Front t (λ l. get_or d (among_planes n (l / 3) (l % 3)) 0) u (48 * k))
  where
    samples : (l : ℕ) → (48 * k + l) / 3 ≡ 16 * k + l / 3
    samples l = omega arith

    byte : (l : ℕ) → (48 * k + l) % 3 ≡ l % 3
    byte l = omega arith

    turn : Front t (λ l. get_or d (among_planes n (l / 3) (l % 3)) 0) u' (48 * (k + 1))
    turn =
        let g : ℕ → ℕ = λ l. get_or d (among_planes n (l / 3) (l % 3)) 0 in
        let z : 48 * (k + 1) ≡ 48 * k + 48 = omega arith in
        rw (e, z)
        (front-more t g u (48 * k) 48 v f room (le_of_eq (sym long))
        (λ l h. p l h ∙ ap₂ (λ (a b : ℕ). get_or d (b * n + a) 0) (sym (samples l)) (sym (byte l))))

pub loop-k-preserved : goal.loop-k-preserved
loop-k-preserved c =
    let v = c.gather.result in
    let l : length v ≡ 48 = search rules in
    turn c.args.bytes.now c.args.out.now _ _ v c.args.n c.loop-k.k l (omega arith) c.gather.ensures c.store.ensures c.loop-k.invariant

pub returns : goal.returns
returns c =
    let n = c.args.n / 16 * 16 in
    let e : 48 * c.loop-k.k ≡ n * 3 = omega arith in (
      omega arith,
      front-columns n 3 _ _ (λ i l hi hl. ap₂ (λ (a b : ℕ). get_or c.args.bytes.now (b * c.args.n + a) 0) (row_of 3 i l hl) (entry_of 3 i l hl)) _ _ (rw e at c.loop-k.invariant),
    )
