-- A client's record in one slice: its phase read and written back, and what an event at the client leaves.
use mathlib.Core.Path.{◌≡◌, refl, sym, ap, ◌∙◌}
use mathlib.Core.List.{List, [], ◌∷◌, ◌++◌, append-nil}
use mathlib.Core.Option.{some}
use Prim.Native.Nat.{ℕ, ◌+◌, ◌-◌, ◌<◌, ◌≤◌}
use native.Mathlib.Omega.{arith}
use lib.ListN.{length, get_or, take, drop, set, length-drop}
use lib.Seq.{paste, drop-cons, drop_at, drop-length, take_all, length-take-le}
use Rattle.parties.specs.protocol.Format.{read_number, write_number}
use Rattle.parties.specs.protocol.Answer.{ClientAnswer}
use Rattle.parties.specs.protocol.ClientEvents.{ClientEnd}
use Rattle.parties.proofs.protocol.formats.FormatLaws.{format_number}
use Rattle.parties.proofs.protocol.formats.PointerLaws.{length-number}
use Rattle.parties.specs.records.Places.{splice}
use Rattle.parties.proofs.records.RecordLaws.{bytes_drop}
use Rattle.parties.proofs.records.SpliceLaws.{paste_all, splice_one, splice-next}
use Rattle.parties.specs.declared.Phase.{Phase}
use Rattle.parties.specs.client.Record.{record_of}

pub phase-read : (t : List ℕ) (i : ℕ) → ((j : ℕ) → get_or t j 0 < 256) → 5 ≤ length t
    → read_number 4 (drop 1 t) ≡ some (record { value = i; rest = drop (1 + 4) t })
    → t ≡ record_of (record { step = get_or t 0 0; reading = record { 0 = i } }) (drop 5 t)
phase-read t i b h e =
    drop-cons t 0 0 (omega arith)
    ∙ ap (λ (l : List ℕ). get_or t 0 0 ∷ l) ((format_number 4).only (drop 1 t) (record { value = i; rest = drop (1 + 4) t }) (bytes_drop 1 t b) e).1

pub phase_put : (t : List ℕ) (p : Phase) → 5 ≤ length t → paste (set t 0 p.step) 1 (write_number 4 p.reading.0) 4 ≡ record_of p (drop 5 t)
unfolding splice
phase_put t p h =
    let n = write_number 4 p.reading.0 in
    let l = length-number 4 p.reading.0 in
    let five : 0 + length (p.step ∷ n) ≡ 5 = omega arith in
    paste_all (set t 0 p.step) 1 n 4 (sym l)
    ∙ ap (λ (u : List ℕ). splice u 1 n) (splice_one t 0 p.step (omega arith))
    ∙ splice-next t 0 (p.step ∷ []) n 1 refl (omega arith)
    ∙ ap (λ (k : ℕ). p.step ∷ (n ++ drop k t)) five

-- what the client's event says of the phase that was read and the area that was lent, said of the record
module _ (t : List ℕ) (h : 5 ≤ length t) (f : List ℕ → ClientEnd) (p : Phase) (e : t ≡ record_of p (drop 5 t)) (q : Phase) (area after : List ℕ)
    (g : after ≡ record_of q (drop 5 (take 5 t ++ (area ++ drop (length t - 5) (drop 5 t))))) where
  same : f (record_of p (take (length t - 5) (drop 5 t))) ≡ f t
  same = ap f (ap (record_of p) (take_all (length t - 5) (drop 5 t) (rw length-drop (omega arith))) ∙ sym e)

  back : after ≡ record_of q area
  back =
      let end : drop (length t - 5) (drop 5 t) ≡ [] =
      ap (λ (k : ℕ). drop k (drop 5 t)) (sym (length-drop 5 t)) ∙ drop-length (drop 5 t)
      in
      g
      ∙ ap (record_of q) (drop_at (take 5 t) (area ++ drop (length t - 5) (drop 5 t)) 5 (length-take-le 5 t h) ∙ ap (λ (u : List ℕ). area ++ u) end ∙ append-nil area)

  pub turned_two : (x : ClientAnswer) → let r = f (record_of p (take (length t - 5) (drop 5 t))) in
      (x ≡ r.answer) × (record_of q area ≡ r.client) → (x ≡ (f t).answer) × (after ≡ (f t).client)
  turned_two x y = (
    y.0 ∙ ap (λ (r : ClientEnd). r.answer) same,
    back ∙ y.1 ∙ ap (λ (r : ClientEnd). r.client) same,
  )

  pub turned_three : (x : ClientAnswer) (room : List ℕ) → let r = f (record_of p (take (length t - 5) (drop 5 t))) in
      (x ≡ r.answer) × (record_of q area ≡ r.client) × (room ≡ r.room) → (x ≡ (f t).answer) × (after ≡ (f t).client) × (room ≡ (f t).room)
  turned_three x room y =
      let z = turned_two x (y.0, y.1) in (z.0, z.1, y.2 ∙ ap (λ (r : ClientEnd). r.room) same)

  pub turned-four : (x : ClientAnswer) (room out : List ℕ) → let r = f (record_of p (take (length t - 5) (drop 5 t))) in
      (x ≡ r.answer) × (record_of q area ≡ r.client) × (room ≡ r.room) × (out ≡ r.out)
      → (x ≡ (f t).answer) × (after ≡ (f t).client) × (room ≡ (f t).room) × (out ≡ (f t).out)
  turned-four x room out y =
      let z = turned_three x room (y.0, y.1, y.2) in (z.0, z.1, z.2, y.3 ∙ ap (λ (r : ClientEnd). r.out) same)
