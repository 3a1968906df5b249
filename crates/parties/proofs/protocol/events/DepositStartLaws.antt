-- A start of a deposit: pages that are too long are refused alike, nothing is sent from a room, and 7 at the first scan takes it back.
use mathlib.Core.Path.{◌≡◌, refl, sym, ap, ◌∙◌}
use mathlib.Core.Bool.{Bool, true, false, cond, ◌&&◌}
use mathlib.Core.List.{List, [], ◌++◌}
use mathlib.Core.Option.{Option, some, none}
use Prim.Native.Nat.{ℕ, ◌-◌, ◌*◌, ◌<◌}
use native.Mathlib.Omega.{arith}
use borrow.Author.Tests.{lt-leb}
use lib.Dec.{leb, ltb}
use lib.ListN.{length}
use Rattle.coding.specs.Bytes.{Bytes}
use Rattle.coding.proofs.PageLaws.{none≢some, some_eq}
use Rattle.parties.specs.declared.Measures.{Measures}
use Rattle.std.specs.Prelude.{Option as StdOption, Some, None}
use Rattle.parties.specs.declared.Sequence.{Sequence}
use Rattle.parties.specs.protocol.Measures.{passes, row_size}
use Rattle.parties.specs.protocol.Format.{Read}
use Rattle.parties.specs.protocol.Version.{next_sequence}
use Rattle.parties.specs.protocol.Directory.{Row, read_directory}
use Rattle.parties.specs.protocol.Owner.{own_rows}
use Rattle.parties.specs.protocol.Verdict.{sound, broken, by_owner}
use Rattle.parties.specs.protocol.Client.{Phase, Client, scanning, read_client, write_client, client_size}
use Rattle.parties.specs.protocol.Deposit.{highest}
use Rattle.parties.specs.protocol.Answer.{refused, scan, spent, number}
use Rattle.parties.specs.protocol.ClientEvents.{start_deposit, scan_answer, Step, does, after, on_client, on_rows, unchanged, room_size, begin_deposit, scanned_at, draw, is_idle, with_phase}
use Rattle.parties.proofs.protocol.formats.ClientLaws.{GoodClient, client-back, client_only}

module _ (s : Measures) (c : ℕ) (b : List ℕ) where
  pub too_long_lem : (p q : List ℕ) → s.k * s.f - 4 < length p → s.k * s.f - 4 < length q → start_deposit s c b p ≡ start_deposit s c b q
  unfolding start_deposit begin_deposit
  too_long_lem p q h k = simp (lt-leb (length p) (s.k * s.f - 4) h, lt-leb (length q) (s.k * s.f - 4) k)

  pub deposit-room : (page : List ℕ) → (start_deposit s c b page).room ≡ []
  unfolding start_deposit begin_deposit
  deposit-room page = go (passes s) (leb (client_size s) (length b)) (ltb c s.m) (read_client s b)
    where
      begun : (r : Read Client) (x y : Bool)
          → (after s b [] [] r.rest (cond x (cond y (does scan (with_phase (scanning page) r.value) [] []) (Step.stays (refused 6))) (Step.stays (refused 5)))).room ≡ []
      begun r true true = refl
      begun r true false = refl
      begun r false y = refl

      go : (x y z : Bool) (r : Option (Read Client))
          → (cond x (cond y (cond z (on_client s b [] [] r (λ k. begin_deposit s k page)) (unchanged (refused 3) b [] [])) (unchanged (refused 2) b [] []))
          (unchanged (refused 1) b [] [])).room ≡ []
      go true true true none = refl
      go true true true (some r) = begun r (is_idle r.value.phase) (leb (length page) (s.k * s.f - 4))
      go true true false r = refl
      go true false z r = refl
      go false y z r = refl

-- ---- 7 at a deposit's first scan

module _ (s : Measures) (own : ℕ) where
  -- a start that is taken: the record was idle, and the page is kept beside it
  record Begun (b page after : List ℕ) : Type 0 where
    client : Client
    rest : List ℕ
    reads : read_client s b ≡ some (record { value = client; rest = rest })
    still : client.phase ≡ Phase.idle
    short : leb (length page) (s.k * s.f - 4) ≡ true
    kept : after ≡ write_client s (with_phase (scanning page) client) ++ rest

  begun : (b page : List ℕ) → (start_deposit s own b page).answer ≡ scan → Begun b page (start_deposit s own b page).client
  unfolding start_deposit begin_deposit
  begun b page = go (passes s) (leb (client_size s) (length b)) (ltb own s.m) (read_client s b) refl
    where
      refused_then : {A : Type 0} (n : ℕ) → refused n ≡ scan → A
      refused_then n h = absurd (none≢some (sym (ap number h)))

      started : (r : Read Client) → read_client s b ≡ some r → (p : Phase) → r.value.phase ≡ p → (y : Bool) → leb (length page) (s.k * s.f - 4) ≡ y
          → let e = after s b [] [] r.rest (cond (is_idle p) (cond y (does scan (with_phase (scanning page) r.value) [] []) (Step.stays (refused 6))) (Step.stays (refused 5)))
          in e.answer ≡ scan → Begun b page e.client
      started r e Phase.idle q true l h = record { client = r.value; rest = r.rest; reads = e; still = q; short = l; kept = refl }
      started r e Phase.idle q false l h = refused_then 6 h
      started r e (Phase.scanning x) q y l h = refused_then 5 h
      started r e (Phase.storing v a ds) q y l h = refused_then 5 h
      started r e (Phase.updating x) q y l h = refused_then 5 h
      started r e (Phase.freezing x) q y l h = refused_then 5 h
      started r e Phase.raising q y l h = refused_then 5 h
      started r e Phase.picking q y l h = refused_then 5 h
      started r e (Phase.fetching x n m ps) q y l h = refused_then 5 h

      go : (x y z : Bool) (r : Option (Read Client)) → read_client s b ≡ r
          → let e = cond x (cond y (cond z (on_client s b [] [] r (λ k. begin_deposit s k page)) (unchanged (refused 3) b [] [])) (unchanged (refused 2) b [] []))
          (unchanged (refused 1) b [] [])
          in e.answer ≡ scan → Begun b page e.client
      go true true true none q h = refused_then 4 h
      go true true true (some r) q h = started r q r.value.phase refl (leb (length page) (s.k * s.f - 4)) refl h
      go true true false r q h = refused_then 3 h
      go true false z r q h = refused_then 2 h
      go false y z r q h = refused_then 1 h

  -- the scan's answer on a record with a page: 7 leaves it idle
  given_up : (b page rows room : List ℕ) (c : Client) (rest : List ℕ) → read_client s b ≡ some (record { value = with_phase (scanning page) c; rest = rest })
      → (scan_answer s own b rows room).answer ≡ spent → (scan_answer s own b rows room).client ≡ write_client s (with_phase Phase.idle c) ++ rest
  unfolding scan_answer
  given_up b page rows room c rest e =
      rw e
      (go (passes s) (leb (client_size s) (length b) && (leb (s.m * row_size s) (length rows) && leb (room_size s) (length room))) (ltb own s.m) (read_directory s rows))
    where
      other : {A : Type 0} (n : ℕ) → (n ≡ 7 → ⊥) → refused n ≡ spent → A
      other n l h = absurd (l (some_eq (ap number h)))

      drawn : (n : StdOption Sequence) → let x = after s b room [] rest (draw s own (with_phase (scanning page) c) room page n) in
          x.answer ≡ spent → x.client ≡ write_client s (with_phase Phase.idle c) ++ rest
      drawn (Some q) h = absurd (none≢some (ap number h))
      drawn None h = refl

      owned : (r : Read (List Row)) (x : Bool) → let k = with_phase (scanning page) c in
          let e = after s b room [] rest (on_rows (cond x (sound r) (broken 14)) (λ l. scanned_at s own k room l k.phase))
          in e.answer ≡ spent → e.client ≡ write_client s (with_phase Phase.idle c) ++ rest
      owned r true h = drawn (next_sequence (highest r.value)) h
      owned r false h = other 14 (λ x. omega arith) h

      go : (x y z : Bool) (r : Option (Read (List Row))) → let k = with_phase (scanning page) c in
          let e = cond x (cond y (cond z (after s b room [] rest (on_rows (by_owner r) (λ l. scanned_at s own k room l k.phase))) (unchanged (refused 3) b room []))
          (unchanged (refused 2) b room [])) (unchanged (refused 1) b room [])
          in e.answer ≡ spent → e.client ≡ write_client s (with_phase Phase.idle c) ++ rest
      go true true true none h = other 4 (λ x. omega arith) h
      go true true true (some r) h = owned r (own_rows 0 r.value) h
      go true true false r h = other 3 (λ x. omega arith) h
      go true false z r h = other 2 (λ x. omega arith) h
      go false y z r h = other 1 (λ x. omega arith) h

  -- the deposit ends, and the client's record is as before it began
  pub spent_restores : passes s ≡ true → (b page rows room : List ℕ) → Bytes b → Bytes page → (start_deposit s own b page).answer ≡ scan
      → let kept = (start_deposit s own b page).client in (scan_answer s own kept rows room).answer ≡ spent → (scan_answer s own kept rows room).client ≡ b
  spent_restores ok b page rows room bytes paged h k =
      let x = begun b page h in
      let c = x.client in
      let g = client_only s b (record { value = c; rest = x.rest }) bytes x.reads in
      let scans : GoodClient s (with_phase (scanning page) c) =
      record {
        phase = (paged, x.short);
        index = g.0.index;
        written = g.0.written;
        frozen = g.0.frozen;
        reserved = g.0.reserved;
        indices = g.0.indices;
      }
      in
      let same : with_phase Phase.idle c ≡ c = λ i. with_phase (sym x.still i) c in
      given_up (start_deposit s own b page).client page rows room c x.rest (ap (read_client s) x.kept ∙ client-back s ok (with_phase (scanning page) c) scans x.rest) k
      ∙ ap (λ (d : Client). write_client s d ++ x.rest) same
      ∙ sym g.1
