-- Document 01's edges hold of the definitions.
use mathlib.Core.Path.{◌≡◌, refl, ap, ◌∙◌}
use mathlib.Core.Bool.{Bool, true, false, cond}
use mathlib.Core.List.{List, [], ◌∷◌}
use mathlib.Core.Option.{Option, some, none}
use Prim.Native.Nat.{ℕ, zero, suc, ◌-◌, ◌*◌, ◌≤◌, ◌<◌}
use native.Mathlib.Omega.{arith}
use borrow.Author.Tests.{le-leb, lt-ltb}
use lib.Dec.{leb, ltb}
use lib.ListN.{length, get_or, replicate}
use Rattle.coding.proofs.EdgeCases.{edges as coding-edges}
use Rattle.parties.specs.declared.Measures.{Measures}
use Rattle.parties.specs.declared.ReadingIndex.{ReadingIndex}
use Rattle.parties.specs.declared.Sequence.{Sequence}
use Rattle.parties.specs.protocol.Format.{Read}
use Rattle.parties.specs.protocol.Measures.{passes}
use Rattle.parties.specs.protocol.Version.{below, next_sequence}
use Rattle.parties.specs.protocol.Pointer.{Pointer, none_pointer}
use Rattle.parties.specs.protocol.Directory.{Row, read_directory, fresh_row, fresh_directory}
use Rattle.parties.specs.protocol.Owner.{own_rows}
use Rattle.parties.specs.protocol.Verdict.{rows_verdict, record_verdict}
use Rattle.parties.specs.protocol.Client.{Phase, Client, client_size}
use Rattle.parties.specs.protocol.Deposit.{highest}
use Rattle.parties.specs.protocol.Reading.{candidate, pick}
use Rattle.parties.specs.protocol.Answer.{refused, scan, number, refuses, empty}
use Rattle.parties.specs.protocol.ClientEvents.{Step, stays, does, with_phase, is_idle, ClientEnd, room_size, begin_deposit, scanned_at, fetch, draw, on_client, on_rows, after, start_deposit, scan_answer}
use Rattle.parties.specs.protocol.DirectoryEvents.{directory_size, on_table, directory_update}
use Rattle.parties.specs.protocol.Edges.{Handed, Starting, Edges}
use Rattle.parties.proofs.protocol.formats.OwnerLaws.{owner_verdict, fresh_own}

four : (f : ℕ) → 2 ≤ f → f ≤ 4096 → passes (record { m = 2; n = 4; k = 2; t = 1; f = f }) ≡ true
unfolding passes
four f h l =
    let a : 1 ≤ f = omega arith in
    let b : 4 ≤ 2 * f = omega arith in simp (le-leb 1 f a, le-leb f 4096 l, le-leb 4 (2 * f) b)

-- where the record and the rows read, the scan's answer is the step on them
handed : (s : Measures) (own : ℕ) (client rows room : List ℕ) (c : Client) (l : List Row) (h : Handed s own client rows room c l) → own_rows 0 l ≡ true
    → scan_answer s own client rows room ≡ after s client room [] h.record_rest (scanned_at s own c room l c.phase)
unfolding scan_answer
handed s own client rows room c l h o =
    simp (
      h.measures,
      le-leb (client_size s) (length client) h.enough.0,
      le-leb (directory_size s) (length rows) h.enough.1,
      le-leb (room_size s) (length room) h.enough.2,
      lt-ltb own s.m h.number,
    )
    (ap (λ r. on_client s client room [] r (λ x. on_rows (rows_verdict s rows) (λ y. scanned_at s own x room y x.phase))) h.record_reads
    ∙ ap (λ v. after s client room [] h.record_rest (on_rows v (λ y. scanned_at s own c room y c.phase)))
    (owner_verdict (read_directory s rows) _ true h.rows-read o))

-- where the record reads, a deposit's start is the step on it
asked : (s : Measures) (own : ℕ) (client bytes : List ℕ) (c : Client) (h : Starting s own client c)
    → start_deposit s own client bytes ≡ after s client [] [] h.record_rest (begin_deposit s c bytes)
unfolding start_deposit
asked s own client bytes c h =
    simp (h.measures, le-leb (client_size s) (length client) h.enough, lt-ltb own s.m h.number)
    (ap (λ r. on_client s client [] [] r (λ x. begin_deposit s x bytes)) h.record_reads)

-- a page that has at most, or more than, kF − 4 bytes
measured : (s : Measures) (own : ℕ) (client bytes : List ℕ) (c : Client) (h : Starting s own client c) (b : Bool) → leb (length bytes) (s.k * s.f - 4) ≡ b
    → (start_deposit s own client bytes).answer ≡ cond b scan (refused 6)
unfolding begin_deposit
measured s own client bytes c h b e =
    ap (λ (x : ClientEnd). x.answer) (asked s own client bytes c h)
    ∙ ap (λ (p : Phase). (after s client [] [] h.record_rest (cond (is_idle p) (begins (leb (length bytes) (s.k * s.f - 4))) (stays (refused 5)))).answer)
    h.unoccupied
    ∙ ap (λ (x : Bool). (after s client [] [] h.record_rest (begins x)).answer) e
    ∙ go b
  where
    begins : Bool → Step
    begins x = cond x (does scan (with_phase (Phase.scanning bytes) c) [] []) (stays (refused 6))

    go : (x : Bool) → (after s client [] [] h.record_rest (begins x)).answer ≡ cond x scan (refused 6)
    go true = refl
    go false = refl

-- a fresh row offers nothing
fresh_offer : (s : Measures) (own : ℕ) (i : ReadingIndex) → candidate own i (fresh_row s) ≡ none_pointer
fresh_offer s own i = go (ltb (get_or (fresh_row s).frozen_indices own (record { 0 = 0 })).0 i.0)
  where
    same : (n j : ℕ) → get_or (replicate n none_pointer) j none_pointer ≡ none_pointer
    same zero j = refl
    same (suc n) zero = refl
    same (suc n) (suc j) = same n j

    go : (b : Bool) → cond b (fresh_row s).written (get_or (fresh_row s).frozen own none_pointer) ≡ none_pointer
    go true = refl
    go false = same s.m own

fresh-pick : (s : Measures) (own : ℕ) (i : ReadingIndex) (n : ℕ) → pick own i (replicate n (fresh_row s)) ≡ none_pointer
unfolding pick
fresh-pick s own i zero = refl
fresh-pick s own i (suc n) =
    ap (λ (p : Pointer). cond (below p.version (pick own i (replicate n (fresh_row s))).version) (pick own i (replicate n (fresh_row s))) p)
    (fresh_offer s own i)
    ∙ ap (λ (p : Pointer). cond (below none_pointer.version p.version) p none_pointer) (fresh-pick s own i n)

fresh-highest : (s : Measures) (n : ℕ) → highest (replicate n (fresh_row s)) ≡ record { 0 = 0 }
unfolding highest
fresh-highest s zero = refl
fresh-highest s (suc n) = ap (λ (q : Sequence). cond (ltb q.0 0) (record { 0 = 0 }) q) (fresh-highest s n)

-- the answer in the phase that the record shows
answered : (s : Measures) (own : ℕ) (client rows room : List ℕ) (c : Client) (l : List Row) (h : Handed s own client rows room c l) → own_rows 0 l ≡ true
    → (p : Phase) → c.phase ≡ p
    → (scan_answer s own client rows room).answer ≡ (after s client room [] h.record_rest (scanned_at s own c room l p)).answer
answered s own client rows room c l h o p e =
    ap (λ (x : ClientEnd). x.answer)
    (handed s own client rows room c l h o ∙ ap (λ (y : Phase). after s client room [] h.record_rest (scanned_at s own c room l y)) e)

nothing : (s : Measures) (own : ℕ) (client rows room : List ℕ) (c : Client) → Handed s own client rows room c (fresh_directory s)
    → c.phase ≡ Phase.picking → (scan_answer s own client rows room).answer ≡ empty
nothing s own client rows room c h e =
    answered s own client rows room c (fresh_directory s) h (fresh_own s) Phase.picking e
    ∙ ap (λ (p : Pointer). (after s client room [] h.record_rest (fetch s c room p)).answer) (fresh-pick s own c.reading_index s.m)

-- what is drawn after a highest sequence
drawn : (s : Measures) (own : ℕ) (client rows room bytes : List ℕ) (c : Client) (l : List Row) (h : Handed s own client rows room c l) → own_rows 0 l ≡ true
    → (q : Sequence) → c.phase ≡ Phase.scanning bytes → highest l ≡ q
    → (scan_answer s own client rows room).answer ≡ (after s client room [] h.record_rest (draw s own c room bytes (next_sequence q))).answer
drawn s own client rows room bytes c l h o q e f =
    answered s own client rows room c l h o (Phase.scanning bytes) e
    ∙ ap (λ (x : Sequence). (after s client room [] h.record_rest (draw s own c room bytes (next_sequence x))).answer) f

wrong : (s : Measures) (own : ℕ) (table rest : List ℕ) (r : Option (Read (List Row)))
    → (on_table s own table r (record_verdict s (0x10 ∷ rest))).answer ≡ refuses 4
unfolding record_verdict
wrong s own table rest none = refl
wrong s own table rest (some r) = refl

wrong_map : (s : Measures) (own : ℕ) (table rest : List ℕ) → passes s ≡ true → directory_size s ≤ length table → own < s.m
    → (directory_update s own table (0x10 ∷ rest)).answer ≡ refuses 4
unfolding directory_update
wrong_map s own table rest p l n =
    simp (p, le-leb (directory_size s) (length table) l, lt-ltb own s.m n) (wrong s own table rest (read_directory s table))

pub edges : Edges
unfolding passes start_deposit
edges =
    record {
      four-nodes = four;
      three_nodes = λ f. refl;
      three_refused = λ f own client bytes. refl;
      four_bytes = λ m n t own client bytes c h l.
          measured (record { m = m; n = n; k = 2; t = t; f = 4 }) own client bytes c h true (ap (λ (x : ℕ). leb x 4) l);
      five-bytes = λ m n t own client bytes c h l.
          measured (record { m = m; n = n; k = 2; t = t; f = 4 }) own client bytes c h false (ap (λ (x : ℕ). leb x 4) l);
      later = refl;
      nothing = nothing;
      first = λ s own client rows room bytes c h e.
          drawn s own client rows room bytes c (fresh_directory s) h (fresh_own s) (record { 0 = 0 }) e (fresh-highest s s.m);
      last = λ s own client rows room bytes c l h o e q.
          drawn s own client rows room bytes c l h o (record { 0 = 4294967294 }) e (λ i. record { 0 = q i });
      after = λ s own client rows room bytes c l h o e q.
          let a = drawn s own client rows room bytes c l h o (record { 0 = 4294967295 }) e (λ i. record { 0 = q i }) in (a, ap number a);
      wrong_map = wrong_map;
      coding = coding-edges;
    }
