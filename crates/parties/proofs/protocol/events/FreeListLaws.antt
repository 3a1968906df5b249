-- A deposit's free list: ascending, without repeats, at most 2m − 1 versions, sent to every node, also if it is empty.
use mathlib.Core.Path.{◌≡◌, ap}
use mathlib.Core.Bool.{Bool, true, false, cond, not, ◌&&◌}
use mathlib.Core.List.{List, [], ◌∷◌}
use mathlib.Core.Option.{Option, some}
use Prim.Native.Nat.{ℕ, zero, suc, ◌+◌, ◌-◌, ◌*◌, ◌<◌, ◌≤◌}
use native.Mathlib.Decide.{ℕ_discrete}
use native.Mathlib.Omega.{arith}
use borrow.Author.Tests.{eq-eqb}
use lib.Dec.{ltb}
use lib.ListN.{length, get_or, drop}
use lib.Seq.{take_at}
use Rattle.parties.specs.declared.Measures.{Measures}
use Rattle.parties.specs.declared.Version.{Version}
use Rattle.parties.specs.protocol.Version.{no_version, ascending}
use Rattle.parties.specs.protocol.Pointer.{Pointer, none_pointer}
use Rattle.parties.specs.protocol.Directory.{Row, no_row}
use Rattle.parties.specs.protocol.Message.{ToNode, write_to_node}
use Rattle.parties.specs.protocol.Client.{Client}
use Rattle.parties.specs.protocol.Deposit.{noticed, frozen_after, replaced, still_retained, freed}
use Rattle.parties.specs.protocol.ClientEvents.{Step, stays, does, freeze, message_to}
use Rattle.parties.proofs.protocol.events.FreeLaws.{free-ascending, free-length, replaced-length}

-- a client does not notice itself
own_unnoticed : (own : ℕ) (c : Client) (rows : List Row) → noticed own c rows own ≡ false
unfolding noticed
own_unnoticed own c rows =
    ap (λ (b : Bool). not b && ltb (get_or c.frozen_indices own (record { 0 = 0 })).0 (get_or rows own no_row).reading_index.0) (eq-eqb own own (λ i. own))

-- so of n clients, itself among them, at most n − 1 are noticed
replaced-few : (own : ℕ) (c : Client) (rows : List Row) (n : ℕ) → own < n → length (replaced own c rows n) ≤ 2 * n - 1
unfolding replaced
replaced-few own c rows zero h = absurd (omega arith)
replaced-few own c rows (suc q) h = go (ℕ_discrete own q) (replaced-few own c rows q)
  where
    two : Bool → List Version
    two b = cond b ((get_or c.frozen q none_pointer).version ∷ get_or c.reserved q no_version ∷ replaced own c rows q) (replaced own c rows q)

    more : (b : Bool) → length (two b) ≤ length (replaced own c rows q) + 2
    more true = omega arith
    more false = omega arith

    go : Dec (own ≡ q) → (own < q → length (replaced own c rows q) ≤ 2 * q - 1) → length (two (noticed own c rows q)) ≤ 2 * suc q - 1
    go (yes e) ih =
        let u : noticed own c rows q ≡ false = rw (← e) (own_unnoticed own c rows) in
        rw u (omega (arith, replaced-length own c rows q))
    go (no e) ih = omega (arith, more (noticed own c rows q), ih (omega arith))

module _ (z : Measures) (own : ℕ) (c : Client) (rows : List Row) (p : Pointer) where
  pub freed-ascends : ascending (freed z own c rows p) ≡ true
  freed-ascends = free-ascending (still_retained (frozen_after z own c rows p)) (replaced own c rows z.m)

  pub freed-few : own < z.m → length (freed z own c rows p) ≤ 2 * z.m - 1
  freed-few h =
      omega (arith, free-length (still_retained (frozen_after z own c rows p)) (replaced own c rows z.m), replaced-few own c rows z.m h)

  -- what a step sends to a node
  abbrev sent : Step → ℕ → Option (List ℕ)
  sent (stays a) i = message_to z a [] i
  sent (does a d room out) i = message_to z a room i

  pub freed-sent : (room : List ℕ) (i : ℕ) → sent (freeze z own c room rows p) i ≡ some (write_to_node (ToNode.free (freed z own c rows p)))
  freed-sent room i =
      let m = write_to_node (ToNode.free (freed z own c rows p)) in ap some (take_at m (drop (length m) room) (length m) (λ i. length m))
