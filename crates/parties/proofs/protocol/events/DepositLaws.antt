-- Laws of a deposit's first step: the sequence drawn, and the store messages.
use mathlib.Core.Path.{◌≡◌, sym, ap, ap₂, ◌∙◌}
use mathlib.Core.Bool.{true}
use mathlib.Core.List.{List, [], ◌∷◌, ◌++◌, append-nil}
use mathlib.Core.Option.{some}
use Prim.Native.Nat.{ℕ, zero, suc, ◌+◌, ◌-◌, ◌*◌, ◌≤◌, ◌<◌}
use native.Mathlib.Nat.{not-suc-le-zero}
use native.Mathlib.Omega.{arith}
use native.Mathlib.Decide.{dec_lt}
use borrow.Author.Tests.{lt-ltb, le-ltb}
use lib.ListN.{length, get_or, take, drop, length-drop}
use lib.Seq.{take_at, drop-append-add}
use lib.Pow.{pow_pos}
use Rattle.coding.specs.Pieces.{columns, piece}
use Rattle.coding.specs.Split.{SplitEnd, written}
use Rattle.coding.proofs.BytesLaws.{length-tabulate, get_or-tabulate}
use Rattle.coding.proofs.NodesLaws.{nodes-none}
use Rattle.coding.proofs.SplitLaws.{split_done}
use Rattle.coding.proofs.RoundTripLaws.{piece_in_lem}
use Rattle.coding.proofs.RoundTrip.{area_piece}
use Rattle.parties.specs.declared.Measures.{Measures}
use Rattle.parties.specs.declared.Version.{Version}
use Rattle.parties.specs.protocol.Measures.{passes}
use Rattle.parties.specs.protocol.Nodes.{count}
use Rattle.parties.specs.protocol.Pointer.{write_version}
use Rattle.parties.specs.protocol.Directory.{Row, no_row}
use Rattle.parties.specs.protocol.Message.{ToNode, write_to_node}
use Rattle.parties.specs.protocol.Client.{Phase}
use Rattle.parties.specs.protocol.Deposit.{highest, digests_of}
use Rattle.parties.specs.protocol.Answer.{stores}
use Rattle.parties.specs.protocol.ClientEvents.{room_size, stores_room, message_to}
use Rattle.parties.proofs.protocol.formats.MeasureLaws.{passed}
use Rattle.parties.proofs.protocol.formats.PointerLaws.{length-version}
use Rattle.parties.proofs.protocol.formats.MessageLaws.{GoodNamedVersion}
use Rattle.parties.proofs.protocol.formats.ClientLaws.{GoodPhase}
use Rattle.parties.proofs.protocol.model.Model.{Rows, Above}
use Rattle.parties.proofs.protocol.steps.View.{row_at, rows_at}
use Rattle.parties.proofs.protocol.steps.GoodLaws.{proper_passed, digests_good, length-digests}

-- ---- the sequence drawn

-- no row's written sequence is above the highest
pub highest_above : (l : List Row) (i : ℕ) → i < length l → (get_or l i no_row).written.version.sequence.0 ≤ (highest l).0
unfolding highest
highest_above [] i h = absurd (not-suc-le-zero h)
highest_above (r ∷ l) zero h = go (dec_lt (highest l).0 r.written.version.sequence.0)
  where
    go : Dec ((highest l).0 < r.written.version.sequence.0) → r.written.version.sequence.0 ≤ (highest (r ∷ l)).0
    go (yes b) = rw (lt-ltb (highest l).0 r.written.version.sequence.0 b) (omega arith)
    go (no b) = rw (le-ltb (highest l).0 r.written.version.sequence.0 (omega arith)) (omega arith)
highest_above (r ∷ l) (suc i) h = go (highest_above l i (omega arith)) (dec_lt (highest l).0 r.written.version.sequence.0)
  where
    go : (get_or l i no_row).written.version.sequence.0 ≤ (highest l).0 → Dec ((highest l).0 < r.written.version.sequence.0)
        → (get_or l i no_row).written.version.sequence.0 ≤ (highest (r ∷ l)).0
    go ih (yes b) = rw (lt-ltb (highest l).0 r.written.version.sequence.0 b) (omega arith)
    go ih (no b) = rw (le-ltb (highest l).0 r.written.version.sequence.0 (omega arith)) ih

pub highest-rows : (z : Measures) (a : Rows) → Above z a ((highest (rows_at z a)).0 + 1)
highest-rows z a w l =
    let b : (get_or (rows_at z a) w no_row).written.version.sequence.0 ≤ (highest (rows_at z a)).0 =
    highest_above (rows_at z a) w (rw (length-tabulate z.m (row_at z a)) l)
    in
    let e : (get_or (rows_at z a) w no_row).written.version.sequence.0 ≡ (a.written w).version.sequence.0 =
    ap (λ (r : Row). r.written.version.sequence.0) (get_or-tabulate z.m (row_at z a) w no_row l)
    in omega arith

-- ---- the store messages

-- tag and version have 6 bytes
length_front : (v : Version) → length (write_to_node (ToNode.store v [])) ≡ 6
unfolding write_to_node
length_front v = ap (λ (b : List ℕ). suc (length b)) (append-nil (write_version v)) ∙ ap suc (length-version v)

module _ (z : Measures) (passes : passes z ≡ true) (v : Version) (bytes room : List ℕ) (short : length bytes ≤ z.k * z.f - 4)
    (enough : room_size z ≤ length room) where
  fits : z.n * z.f ≤ length (drop 6 room)
  fits = omega (arith, length-drop 6 room)

  stores-room : stores_room z v bytes room ≡ write_to_node (ToNode.store v []) ++ written z.k z.f bytes (drop 6 room) z.n
  stores-room =
      ap (λ (x : SplitEnd). write_to_node (ToNode.store v []) ++ x.room)
      (split_done z.n z.k z.f bytes (drop 6 room) (proper_passed z (passed z passes)) fits short)

  -- what is sent to node i is its piece
  pub stores-sent : (i : ℕ) → 1 ≤ i → i ≤ z.n
      → message_to z (stores v (columns z.k (length bytes))) (stores_room z v bytes room) i ≡ some (write_to_node (ToNode.store v (piece z.k bytes i)))
  unfolding write_to_node
  stores-sent i lo up =
      let f = write_to_node (ToNode.store v []) in
      let r = written z.k z.f bytes (drop 6 room) z.n in
      let len = columns z.k (length bytes) in
      let at : ℕ = (i - 1) * z.f in
      let d : drop (6 + at) (f ++ r) ≡ drop at r = ap (λ (x : ℕ). drop (x + at) (f ++ r)) (sym (length_front v)) ∙ drop-append-add f r at in
      ap (λ (x : List ℕ). message_to z (stores v len) x i) stores-room
      ∙ ap₂ (λ (x : List ℕ) (y : List ℕ). some (x ++ take len y)) (take_at f r 6 (length_front v)) d
      ∙ ap (λ (x : List ℕ). some (f ++ x)) (sym (piece_in_lem z.f r len i) ∙ sym (area_piece z.n z.k z.f bytes (drop 6 room) (proper_passed z (passed z passes)) fits short i lo up))
      ∙ ap (λ (x : List ℕ). some (1 ∷ (x ++ piece z.k bytes i))) (append-nil (write_version v))

-- ---- the record after it

-- no node has acknowledged it yet
pub storing_good : (z : Measures) → passes z ≡ true → (v : Version) (bytes : List ℕ) → GoodNamedVersion z v
    → GoodPhase z (Phase.storing v 0 (digests_of z v bytes))
storing_good z h v bytes g =
    let none : count 0 ≡ 0 = ap length (nodes-none 16) in
    (g.0, g.1, pow_pos z.n, omega (arith, (passed z h).parts), digests_good z v bytes, length-digests z v bytes)
