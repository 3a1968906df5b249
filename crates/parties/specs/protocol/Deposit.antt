-- A deposit's steps (Algorithm 1) on a client's record.
use Rattle.std.specs.Prelude.{Bool, cond, not, ◌&&◌, List, [], ◌∷◌, ◌++◌, map, ℕ, zero, suc, ◌+◌, ◌-◌, ltb, eqb, get_or}
use Rattle.std.proofs.Math.Option.{Option, some, none}
use Rattle.coding.specs.Bytes.{tabulate}
use Rattle.coding.specs.Pieces.{piece}
use Rattle.coding.specs.Placed.{piece_digest}
use Rattle.parties.specs.declared.Measures.{Measures}
use Rattle.parties.specs.declared.Sequence.{Sequence}
use Rattle.parties.specs.declared.Version.{Version}
use Rattle.parties.specs.protocol.Version.{below, no_version}
use Rattle.parties.specs.protocol.Nodes.{nodes_in}
use Rattle.parties.specs.protocol.Pointer.{Pointer, none_pointer, write_version}
use Rattle.parties.specs.protocol.Directory.{Content, pointers_of, indices_of, Row, no_row}
use Rattle.parties.specs.protocol.Node.{listed}
use Rattle.parties.specs.protocol.Client.{Client, idle}

-- (wsn, *) ← max {M[p].writeptr.ts}: the highest written sequence of all rows
unfoldable pub highest : List Row → Sequence
highest [] = record { 0 = 0 }
highest (r ∷ l) = cond (ltb (highest l).0 r.written.version.sequence.0) r.written.version.sequence (highest l)

-- writeptr.hash[i] ← H(v_i), for every node
unfoldable pub digests_of : Measures → Version → List ℕ → List (List ℕ)
digests_of s v page = tabulate s.n (λ j. piece_digest (write_version v) (j + 1) (piece s.k page (j + 1)))

-- the new pointer: the nodes that acknowledged it, and their digests
unfoldable pub pointer_of : Version → ℕ → List (List ℕ) → Pointer
pointer_of v acknowledged digests =
    record { version = v; named = record { nodes = acknowledged; digests = map (λ i. get_or digests (i - 1) []) (nodes_in acknowledged) } }

-- dir-Update | c, (writeptr, frozenptrlist, frozenindex, *): bits 0 to 2, frozen as before this deposit's second scan
abbrev pub deposit_fields : Client → Pointer → List (Option Content)
deposit_fields c p = some (pointers_of (p ∷ [])) ∷ some (pointers_of c.frozen) ∷ some (indices_of c.frozen_indices) ∷ none ∷ []

-- index > frozenindex[p], for p ∈ C \ {c}: the row shows a reading that is not kept yet
unfoldable pub noticed : ℕ → Client → List Row → ℕ → Bool
noticed own c rows p = not (eqb p own) && ltb (get_or c.frozen_indices p (record { 0 = 0 })).0 (get_or rows p no_row).reading_index.0

-- frozenptrlist[p] ← writeptr; reservedptrlist[p] ← prevptr; frozenindex[p] ← index; and the new pointer is the written one
unfoldable pub frozen_after : Measures → ℕ → Client → List Row → Pointer → Client
unfolding noticed
frozen_after s own c rows p =
    record {
      phase = idle;
      reading_index = c.reading_index;
      written = p;
      frozen = tabulate s.m (λ q. cond (noticed own c rows q) p (get_or c.frozen q none_pointer));
      reserved = tabulate s.m (λ q. cond (noticed own c rows q) c.written.version (get_or c.reserved q no_version));
      frozen_indices = tabulate s.m (λ q. cond (noticed own c rows q) (get_or rows q no_row).reading_index (get_or c.frozen_indices q (record { 0 = 0 })));
    }

-- freets: the previous version, and the old frozen and reserved versions of the first n clients that are noticed
unfoldable pub replaced : ℕ → Client → List Row → ℕ → List Version
unfolding noticed
replaced own c rows zero = c.written.version ∷ []
replaced own c rows (suc q) =
    cond (noticed own c rows q)
    ((get_or c.frozen q none_pointer).version ∷ get_or c.reserved q no_version ∷ replaced own c rows q)
    (replaced own c rows q)

-- a version in its place, ascending, once
unfoldable pub insert : Version → List Version → List Version
insert v [] = v ∷ []
insert v (w ∷ l) = cond (below v w) (v ∷ w ∷ l) (cond (below w v) (w ∷ insert v l) (w ∷ l))

-- versions that a client still freezes or reserves
abbrev pub still_retained : Client → List Version
still_retained c = map (λ p. p.version) c.frozen ++ c.reserved

-- the free list: ascending, without repeats; versions still frozen or reserved leave it, so does none
unfoldable pub free_list : List Version → List Version → List Version
free_list kept [] = []
free_list kept (v ∷ l) = cond (listed v (no_version ∷ kept)) (free_list kept l) (insert v (free_list kept l))

abbrev pub freed : Measures → ℕ → Client → List Row → Pointer → List Version
freed s own c rows p = free_list (still_retained (frozen_after s own c rows p)) (replaced own c rows s.m)
