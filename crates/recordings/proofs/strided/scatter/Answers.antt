use Rattle.std.proofs.Common.{◌≡◌, refl, sym, ap, ap₂, ◌∙◌, ℕ, zero, suc, ◌+◌, ◌-◌, ◌*◌, ◌<◌, ◌≤◌, List, [], ◌∷◌, length, get_or, take, drop, set, add-zero, add_assoc, get_or-take, get_or-drop, arith}
use lib.Seq.{paste, paste-zero, paste-suc}
use Rattle.coding.proofs.AreasLaws.{Walk, walk_room, walk_all}
use Rattle.recordings.specs.Planes.{among_planes}
use Rattle.recordings.proofs.FrontLaws.{walk_next}
use Rattle.recordings.proofs.strided.scatter.Goals as goal

one : {p width : ℕ} → p < width → p + 1 ≤ width
one h = omega arith

-- a store is a row of one byte
set-paste : (u : List ℕ) (at x : ℕ) → at < length u → set u at x ≡ paste u at (x ∷ []) 1
set-paste u at x h =
    ap₂ (λ (w : List ℕ) (q : ℕ). set w q x) (paste-zero u at (x ∷ [])) (sym (add-zero at)) ∙ paste-suc u at (x ∷ []) 0 0 (rw add-zero h) (omega arith)

only : (x l : ℕ) → l < 1 → get_or (x ∷ []) l 0 ≡ x
only x zero h = refl
only x (suc l) h = absurd (omega arith)

-- a sample more
module _ (d : List ℕ) (n s width p : ℕ) (t u : List ℕ) (i : ℕ) (hp : p < width) (room : (n - s) * width ≤ length t)
    (w : Walk (n - s) width p 1 (λ j l. get_or d (among_planes n (s + j) p) 0) t u (i * width + p) i) (h : i < n - s)
  where
    turn : Walk (n - s) width p 1 (λ j l. get_or d (among_planes n (s + j) p) 0) t
        (set u (i * width + p) (get_or (take (((p * n + s) + (n - s)) - (p * n + s)) (drop (p * n + s) d)) i 0)) ((i + 1) * width + p) (i + 1)
    turn =
        let from = p * n + s in
        let x = get_or d (among_planes n (s + i) p) 0 in
        let e : get_or (take ((from + (n - s)) - from) (drop from d)) i 0 ≡ x =
        get_or-take ((from + (n - s)) - from) (drop from d) i 0 (omega arith) ∙ get_or-drop from d i 0 ∙ ap (λ (q : ℕ). get_or d q 0) (add_assoc (p * n) s i)
        in
        let b : i * width + p + 1 ≤ length u = walk_room _ _ _ _ _ _ _ _ _ (one hp) room w h in
        rw (e, set-paste u (i * width + p) x (omega arith)) (walk_next _ _ _ _ _ _ _ _ (one hp) room w h (x ∷ []) (omega arith) (only x))

pub loop-i-preserved : goal.loop-i-preserved
loop-i-preserved c =
    let r = c.args.recording.now in
    turn r.bytes.now r.count c.args.s r.width c.args.p _ _ c.loop-i.i c.requires.plane c.requires.room c.loop-i.invariant (omega arith)

pub returns : goal.returns
returns c = walk_all _ _ _ _ _ _ _ _ _ (one c.requires.plane) c.requires.room c.loop-i.invariant (omega arith)
