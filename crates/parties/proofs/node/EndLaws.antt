-- A node's events: one law for each way out.
use mathlib.Core.Path.{◌≡◌, refl, sym, ap, ap₂, ◌∙◌}
use mathlib.Core.Bool.{Bool, true, false, cond, ◌||◌}
use mathlib.Core.List.{List, [], ◌∷◌, ◌++◌, append_assoc}
use mathlib.Core.Option.{Option, some, none}
use Prim.Native.Nat.{ℕ, suc, ◌+◌, ◌-◌, ◌*◌, ◌/◌, ◌<◌, ◌≤◌}
use native.Mathlib.Nat.{mul-le-mul_right}
use native.Mathlib.Omega.{arith}
use borrow.Author.Tests.{le-leb, lt-leb, lt-ltb, le-ltb}
use lib.Dec.{ltb}
use lib.ListN.{length, get_or, set, take, drop, replicate, length-drop, length-append}
use lib.Seq.{paste, length-take-le}
use Rattle.coding.specs.Bytes.{Bytes}
use Rattle.parties.specs.declared.Measures.{Measures}
use Rattle.parties.specs.declared.Version.{Version}
use Rattle.parties.specs.protocol.Format.{Read, write_number}
use Rattle.parties.specs.protocol.Measures.{passes, places, place_size}
use Rattle.parties.specs.protocol.Pointer.{write_version}
use Rattle.parties.specs.protocol.Answer.{Served, refuses, serves}
use Rattle.parties.specs.protocol.NodeTable.{Held, read_table, write_table}
use Rattle.parties.specs.protocol.Node.{keep, hand_back, release}
use Rattle.parties.specs.protocol.Message.{ToNode, ToClient, answer, read_to_node, write_to_client}
use Rattle.parties.specs.protocol.NodeEvents.{NodeEnd, node_message, on_message, kept, held_after, answer_to, is_held, table_size, answer_size}
use Rattle.parties.proofs.protocol.formats.FormatLaws.{Each}
use Rattle.parties.proofs.protocol.formats.MeasureLaws.{passed}
use Rattle.parties.proofs.protocol.formats.PointerLaws.{length-version}
use Rattle.parties.proofs.protocol.formats.NodeTableLaws.{FitsPlace, GoodTable}
use Rattle.parties.specs.records.Places.{number_at, version_at, length_at, piece_at, held_at, held_from, sound_at, sound_table, rank, stands_at, splice, place_of, version_alone}
use Rattle.parties.specs.node.ToNode.{versions_from, store_sound, free_sound}
use Rattle.parties.specs.node.NodeCode.{NodeReady, Ends, event, brought_by, inserted, Listed, Released}
use Rattle.parties.proofs.records.SizeLaws.{below_rows}
use Rattle.parties.proofs.records.PositionLaws.{from-length, every_at}
use Rattle.parties.proofs.node.TableLaws.{table_none}
use Rattle.parties.proofs.node.SeekLaws.{rank-within, seek_split, stands-within, stands-split, stands-hand, stands-keep, absent_hand, absent_keep}
use Rattle.parties.proofs.records.SpliceLaws.{paste-splice, splice_one, splice-next, splice_front, length-splice}
use Rattle.parties.proofs.node.ToNodeLaws.{store_of, request_of, free_of, tag_store, tag_request, tag_free, store_sizes, free-ascends}
use Rattle.parties.proofs.records.PlaceLaws.{alone-size}
use Rattle.parties.proofs.node.ShownLaws.{version-bytes, each_left, each_right, place_size_lem, place_short, table-shown, table-few, table-each, table-order, table_good, table-bytes}
use Rattle.parties.proofs.node.KeepLaws.{overwritten, grown, shrunk}

-- an end that is known
ends_of : (e f : NodeEnd) → e ≡ f → Ends e f.answer f.table f.room
ends_of e f p = record { answer = ap (λ x. x.answer) (sym p); table = ap (λ x. x.table) (sym p); room = ap (λ x. x.room) (sym p) }

-- what the tests before an event make sure of
pub node_ready : {s : Measures} {t room : List ℕ} → (passes s ≡ true) × (table_size s ≤ length t) × (answer_size s ≤ length room) → sound_table s t ≡ true
    → NodeReady s t room
node_ready p q = record { measures = p.0; table = p.1; answer = p.2; sound = q }

module _ (s : Measures) (t b room : List ℕ) where
  pub broken-table : table_size s ≤ length t → sound_table s t ≡ false → Ends (event s t b room) (refuses 4) t room
  broken-table h q =
      ends_of (event s t b room) (record { answer = refuses 4; table = t; room = room })
      (ap (λ (r : Option (Read (List Held))). on_message s t room r (read_to_node s b)) (table_none s t h q))

  module _ (r : NodeReady s t room) where
    pub broken_message : read_to_node s b ≡ none → Ends (event s t b room) (refuses 4) t room
    broken_message e =
        ends_of (event s t b room) (record { answer = refuses 4; table = t; room = room })
        (ap₂ (λ (x : Option (Read (List Held))) (y : Option ToNode). on_message s t room x y) (table-shown s t r.table r.sound) e)

    pub broken-store : 1 ≤ length b → get_or b 0 0 ≡ 1 → store_sound s b ≡ false → Ends (event s t b room) (refuses 4) t room
    broken-store l g q = broken_message (tag_store s b l g ∙ ap (λ (c : Bool). cond c (some (store_of b)) none) q)

    pub broken-request : 1 ≤ length b → get_or b 0 0 ≡ 2 → version_alone s b ≡ false → Ends (event s t b room) (refuses 4) t room
    broken-request l g q = broken_message (tag_request s b l g ∙ ap (λ (c : Bool). cond c (some (request_of b)) none) q)

    pub broken-free : 1 ≤ length b → get_or b 0 0 ≡ 3 → free_sound s b ≡ false → Ends (event s t b room) (refuses 4) t room
    broken-free l g q = broken_message (tag_free s b l g ∙ ap (λ (c : Bool). cond c (some (free_of b)) none) q)

    -- n places are filled
    module _ (n : ℕ) (en : n ≡ number_at t 0) where
      shown : read_table s t ≡ some (record { value = held_from (place_size s) t 2 n; rest = drop (table_size s) t })
      shown = rw en (table-shown s t r.table r.sound)

      pub few : n ≤ places s
      few = rw en (table-few s t r.table r.sound)

      pub sound_place : (j : ℕ) → j < n → sound_at s t (2 + j * place_size s) ≡ true
      sound_place j h = every_at (sound_at s t) (place_size s) 2 n (rw en (table-each s t r.table r.sound)) j h

      -- where places stand
      pub filled : 2 + n * place_size s ≤ length t
      filled = omega (arith, r.table, mul-le-mul_right (place_size s) few)

      pub grows : n < places s → 2 + n * place_size s + place_size s ≤ length t
      grows h = omega (arith, r.table, below_rows n (places s) (place_size s) h)

      module _ (v : Version) (j : ℕ) (ej : j ≡ rank (place_size s) t v 2 n) where
        pub ranked : 2 + j * place_size s ≤ 2 + n * place_size s
        ranked = let k : j ≤ n = rw ej (rank-within (place_size s) t v 2 n) in omega (arith, mul-le-mul_right (place_size s) k)

        stands-below : stands_at (place_size s) t n j v ≡ true → j < n
        stands-below st = stands-within (place_size s) t n (record { version = v; piece = [] }) j ej st

        pub stands-inside : stands_at (place_size s) t n j v ≡ true → 2 + j * place_size s + place_size s ≤ length t
        stands-inside st = omega (arith, below_rows j n (place_size s) (stands-below st), filled)

        pub stands-short : stands_at (place_size s) t n j v ≡ true → length_at t (2 + j * place_size s) ≤ s.f
        stands-short st = place_short s t (2 + j * place_size s) (sound_place j (stands-below st))

      -- what a list of form may drop
      pub listing : 1 ≤ length b → free_sound s b ≡ true → Listed s t b n ((length b - 1) / 5)
      listing l q =
          record {
            bytes = (passed s r.measures).bytes.1;
            places = filled;
            each = rw en (table-each s t r.table r.sound);
            order = rw en (table-order s t r.table r.sound);
            list = omega arith;
            ascends = free-ascends s b q;
          }

      -- the end of a message of form
      told : (m : ToNode) → read_to_node s b ≡ some m
          → event s t b room
          ≡ kept s t room (drop (table_size s) t) (held_after s (held_from (place_size s) t 2 n) m) (write_to_client (answer_to (held_from (place_size s) t 2 n) m))
      told m e = ap₂ (λ (x : Option (Read (List Held))) (y : Option ToNode). on_message s t room x y) shown e

      -- an answer at the front of the room, the table as given
      ended : (l : List Held) (reply : List ℕ) (k : ℕ) (u v : List ℕ)
          → event s t b room ≡ kept s t room (drop (table_size s) t) (some l) reply → length reply ≡ k
          → u ≡ write_table s l ++ drop (table_size s) t → v ≡ splice room 0 reply
          → Ends (event s t b room) (serves k) u v
      ended l reply k u v e c p q =
          record {
            answer = ap serves (sym c) ∙ ap (λ x. x.answer) (sym e);
            table = p ∙ ap (λ x. x.table) (sym e);
            room = q ∙ splice_front room reply ∙ ap (λ x. x.room) (sym e);
          }

      module _ (bt : Bytes t) (bb : Bytes b) (l : 1 ≤ length b) where
        good : GoodTable s (held_from (place_size s) t 2 n)
        good = rw en (table_good s t r.table r.sound bt)

        shows : t ≡ write_table s (held_from (place_size s) t 2 n) ++ drop (table_size s) t
        shows = rw en (table-bytes s t r.table r.sound bt)

        -- ---- a piece to keep

        module _ (g : get_or b 0 0 ≡ 1) (q : store_sound s b ≡ true) (j : ℕ) (ej : j ≡ rank (place_size s) t (version_at b 1) 2 n) where
          brings : read_to_node s b ≡ some (store_of b)
          brings = tag_store s b l g ∙ ap (λ (c : Bool). cond c (some (store_of b)) none) q

          short : length (drop 6 b) ≤ s.f
          short = let k = store_sizes s b q in omega (arith, k.0, k.1, length-drop 6 b)

          acknowledged : (v : List ℕ) → v ≡ splice room 0 (4 ∷ take 5 (drop 1 b)) → v ≡ splice room 0 (4 ∷ write_version (version_at b 1))
          acknowledged v e = e ∙ ap (λ (x : List ℕ). splice room 0 (4 ∷ x)) (version-bytes b 1 bb (omega (arith, (store_sizes s b q).0)))

          pub store-over : stands_at (place_size s) t n j (version_at b 1) ≡ true → (u v : List ℕ)
              → u ≡ splice t (2 + j * place_size s) (place_of s (brought_by b)) → v ≡ splice room 0 (4 ∷ take 5 (drop 1 b))
              → Ends (event s t b room) (serves 6) u v
          unfolding write_to_client
          store-over st u v eu ev =
              let z = place_size s in
              let a = held_from z t 2 j in
              let x = held_at t (2 + j * z) in
              let c = held_from z t (2 + j * z + z) (n - j - 1) in
              let split : held_from z t 2 n ≡ a ++ (x ∷ c) = stands-split z t n (brought_by b) j ej st in
              let each : Each (FitsPlace s) (a ++ (x ∷ c)) = rw split at good.1.0.0.0 in
              ended (keep (brought_by b) (held_from z t 2 n)) (4 ∷ write_version (version_at b 1)) 6 u v
              (told (store_of b) brings
              ∙ ap (λ (o : Option (List ℕ)).
              kept s t room (drop (table_size s) t) (cond (is_held o || ltb (length (held_from z t 2 n)) (places s)) (some (keep (brought_by b) (held_from z t 2 n))) none) (4 ∷ write_version (version_at b 1)))
              (stands-hand z t n (brought_by b) j ej st))
              (ap suc (length-version (version_at b 1)))
              (eu
              ∙ overwritten s t (brought_by b) short a (each_left (FitsPlace s) a (x ∷ c) each) (drop (table_size s) t) x c
              (place_size_lem s x (each_right (FitsPlace s) a (x ∷ c) each).0)
              (shows ∙ ap (λ (k : List Held). write_table s k ++ drop (table_size s) t) split) (2 + j * z)
              (ap (λ (k : ℕ). 2 + k * z) (sym (from-length (held_at t) z 2 j)))
              ∙ ap (λ (k : List Held). write_table s k ++ drop (table_size s) t) (sym (stands-keep z t n (brought_by b) j ej st)))
              (acknowledged v ev)

          module _ (st : stands_at (place_size s) t n j (version_at b 1) ≡ false) where
            -- what a new version comes to
            absent : (c : Bool) → ltb n (places s) ≡ c
                → event s t b room
                ≡ kept s t room (drop (table_size s) t) (cond c (some (keep (brought_by b) (held_from (place_size s) t 2 n))) none) (write_to_client (ToClient.stored (version_at b 1)))
            absent c e =
                told (store_of b) brings
                ∙ ap₂ (λ (o : Option (List ℕ)) (k : ℕ).
                kept s t room (drop (table_size s) t) (cond (is_held o || ltb k (places s)) (some (keep (brought_by b) (held_from (place_size s) t 2 n))) none) (write_to_client (ToClient.stored (version_at b 1))))
                (absent_hand (place_size s) t n (brought_by b) j ej st) (from-length (held_at t) (place_size s) 2 n)
                ∙ ap (λ (x : Bool). kept s t room (drop (table_size s) t) (cond x (some (keep (brought_by b) (held_from (place_size s) t 2 n))) none) (write_to_client (ToClient.stored (version_at b 1)))) e

            pub store_full : places s ≤ n → Ends (event s t b room) (refuses 8) t room
            store_full h = ends_of (event s t b room) (record { answer = refuses 8; table = t; room = room }) (absent false (le-ltb n (places s) h))

            pub store_new : n < places s → (u v : List ℕ)
                → u ≡ inserted s t (2 + j * place_size s) (2 + n * place_size s) (brought_by b) (n + 1) → v ≡ splice room 0 (4 ∷ take 5 (drop 1 b))
                → Ends (event s t b room) (serves 6) u v
            unfolding write_to_client
            store_new h u v eu ev =
                let z = place_size s in
                let a = held_from z t 2 j in
                let c = held_from z t (2 + j * z) (n - j) in
                let split : held_from z t 2 n ≡ a ++ c = seek_split z t n (brought_by b) j ej in
                let each : Each (FitsPlace s) (a ++ c) = rw split at good.1.0.0.0 in
                ended (keep (brought_by b) (held_from z t 2 n)) (4 ∷ write_version (version_at b 1)) 6 u v
                (absent true (lt-ltb n (places s) h))
                (ap suc (length-version (version_at b 1)))
                (eu
                ∙ grown s t (brought_by b) short a (each_left (FitsPlace s) a c each) (drop (table_size s) t) c (each_right (FitsPlace s) a c each) n
                (ap length (sym split) ∙ from-length (held_at t) z 2 n) h
                (shows ∙ ap (λ (k : List Held). write_table s k ++ drop (table_size s) t) split) (2 + j * z) (2 + n * z)
                (ap (λ (k : ℕ). 2 + k * z) (sym (from-length (held_at t) z 2 j))) refl
                ∙ ap (λ (k : List Held). write_table s k ++ drop (table_size s) t) (sym (absent_keep z t n (brought_by b) j ej st)))
                (acknowledged v ev)

        -- ---- a piece to hand back

        module _ (g : get_or b 0 0 ≡ 2) (q : version_alone s b ≡ true) (j : ℕ) (ej : j ≡ rank (place_size s) t (version_at b 1) 2 n) where
          asks : read_to_node s b ≡ some (request_of b)
          asks = tag_request s b l g ∙ ap (λ (c : Bool). cond c (some (request_of b)) none) q

          answers : (o : Option (List ℕ)) → hand_back (version_at b 1) (held_from (place_size s) t 2 n) ≡ o
              → event s t b room ≡ kept s t room (drop (table_size s) t) (some (held_from (place_size s) t 2 n)) (write_to_client (answer (version_at b 1) o))
          answers o e =
              told (request_of b) asks
              ∙ ap (λ (x : Option (List ℕ)). kept s t room (drop (table_size s) t) (some (held_from (place_size s) t 2 n)) (write_to_client (answer (version_at b 1) x))) e

          -- tag and version, then a flag
          flagged : (v w : List ℕ) (x : ℕ) → v ≡ splice room 0 (6 ∷ take 5 (drop 1 b)) → w ≡ set v 6 x → w ≡ splice room 0 (6 ∷ (write_version (version_at b 1) ++ (x ∷ [])))
          flagged v w x ev ew =
              let h : answer_size s ≤ length room = r.answer in
              let k : take 5 (drop 1 b) ≡ write_version (version_at b 1) = version-bytes b 1 bb (omega (arith, alone-size s b q)) in
              let e : v ≡ splice room 0 (6 ∷ write_version (version_at b 1)) = ev ∙ ap (λ (y : List ℕ). splice room 0 (6 ∷ y)) k in
              let m : length (6 ∷ write_version (version_at b 1)) ≡ 6 = ap suc (length-version (version_at b 1)) in
              let c : length v ≡ length room = ap length e ∙ length-splice room 0 (6 ∷ write_version (version_at b 1)) (omega arith) in
              ew
              ∙ splice_one v 6 x (omega arith)
              ∙ ap (λ (y : List ℕ). splice y 6 (x ∷ [])) e
              ∙ splice-next room 0 (6 ∷ write_version (version_at b 1)) (x ∷ []) 6 (omega arith) (omega arith)

          pub request_absent : stands_at (place_size s) t n j (version_at b 1) ≡ false → (v w : List ℕ)
              → v ≡ splice room 0 (6 ∷ take 5 (drop 1 b)) → w ≡ set v 6 0 → Ends (event s t b room) (serves 7) t w
          unfolding write_to_client
          request_absent st v w ev ew =
              ended (held_from (place_size s) t 2 n) (6 ∷ (write_version (version_at b 1) ++ (0 ∷ []))) 7 t w
              (answers none (absent_hand (place_size s) t n (record { version = version_at b 1; piece = [] }) j ej st))
              (ap suc (length-append (write_version (version_at b 1)) (0 ∷ []) ∙ omega (arith, length-version (version_at b 1)))) shows (flagged v w 0 ev ew)

          pub request-found : stands_at (place_size s) t n j (version_at b 1) ≡ true → (len : ℕ) → len ≡ length_at t (2 + j * place_size s) → (v w x : List ℕ)
              → v ≡ splice room 0 (6 ∷ take 5 (drop 1 b)) → w ≡ set v 6 1 → x ≡ paste w 7 (drop (2 + j * place_size s + 7) t) len
              → Ends (event s t b room) (serves (7 + len)) t x
          unfolding write_to_client piece_at
          request-found st len el v w x ev ew ex =
              let z = place_size s in
              let h : answer_size s ≤ length room = r.answer in
              let at = 2 + j * z in
              let inside : at + z ≤ length t = stands-inside (version_at b 1) j ej st in
              let k : len ≤ s.f = rw el (stands-short (version_at b 1) j ej st) in
              let f : List ℕ = 6 ∷ (write_version (version_at b 1) ++ (1 ∷ [])) in
              let nf : length f ≡ 7 = ap suc (length-append (write_version (version_at b 1)) (1 ∷ []) ∙ omega (arith, length-version (version_at b 1))) in
              let p = take len (drop (at + 7) t) in
              let np : length p ≡ len = length-take-le len (drop (at + 7) t) (rw length-drop (omega arith)) in
              let e : x ≡ splice room 0 (f ++ p) =
              ex
              ∙ paste-splice w 7 (drop (at + 7) t) len (rw length-drop (omega arith))
              ∙ ap (λ (y : List ℕ). splice y 7 p) (flagged v w 1 ev ew)
              ∙ splice-next room 0 f p 7 (omega arith) (omega arith)
              in
              let reply : ◌≡◌ {A = List ℕ} (6 ∷ (write_version (version_at b 1) ++ (1 ∷ p))) (f ++ p) = ap (λ (y : List ℕ). 6 ∷ y) (sym (append_assoc (write_version (version_at b 1)) (1 ∷ []) p)) in
              ended (held_from z t 2 n) (6 ∷ (write_version (version_at b 1) ++ (1 ∷ p))) (7 + len) t x
              (answers (some p) (stands-hand z t n (record { version = version_at b 1; piece = [] }) j ej st ∙ ap (λ (y : ℕ). some (take y (drop (at + 7) t))) (sym el)))
              (ap length reply ∙ length-append f p ∙ omega arith) shows (e ∙ ap (splice room 0) (sym reply))

        -- ---- versions to drop

        pub freed : get_or b 0 0 ≡ 3 → free_sound s b ≡ true → (u : List ℕ) (k : ℕ) → Released s t b n ((length b - 1) / 5) u k → (v w x : List ℕ)
            → v ≡ paste u (2 + k * place_size s) (replicate (2 + n * place_size s - (2 + k * place_size s)) 0) (2 + n * place_size s - (2 + k * place_size s))
            → w ≡ paste v 0 (write_number 2 k) 2 → x ≡ set room 0 5
            → Ends (event s t b room) (serves 1) w x
        unfolding write_to_client
        freed g q u k rel v w x ev ew ex =
            let z = place_size s in
            let m = release (versions_from b 1 ((length b - 1) / 5)) (held_from z t 2 n) in
            ended m (5 ∷ []) 1 w x
            (told (free_of b) (tag_free s b l g ∙ ap (λ (c : Bool). cond c (some (free_of b)) none) q)) refl
            (shrunk s t (held_from z t 2 n) m (drop (table_size s) t) n k (from-length (held_at t) z 2 n) (sym rel.many) rel.fewer few good.1.0.0.0 shows
            u rel.same filled rel.front rel.rest v w ev ew)
            (ex ∙ splice_one room 0 5 (omega (arith, r.answer)))

-- ---- the whole message

module _ (s : Measures) (i : ℕ) (t b room : List ℕ) where
  pub message_measures : passes s ≡ false
      → (refuses 1 ≡ (node_message s i t b room).answer) × (t ≡ (node_message s i t b room).table) × (room ≡ (node_message s i t b room).room)
  unfolding node_message
  message_measures e = rw e (refl, refl, refl)

  module _ (e : passes s ≡ true) where
    pub message_table : length t < table_size s
        → (refuses 2 ≡ (node_message s i t b room).answer) × (t ≡ (node_message s i t b room).table) × (room ≡ (node_message s i t b room).room)
    unfolding node_message
    message_table h = rw (e, lt-leb (table_size s) (length t) h) (refl, refl, refl)

    pub message_room : table_size s ≤ length t → length room < answer_size s
        → (refuses 2 ≡ (node_message s i t b room).answer) × (t ≡ (node_message s i t b room).table) × (room ≡ (node_message s i t b room).room)
    unfolding node_message
    message_room h k = rw (e, le-leb (table_size s) (length t) h, lt-leb (answer_size s) (length room) k) (refl, refl, refl)

    module _ (h : table_size s ≤ length t) (k : answer_size s ≤ length room) where
      pub message_low : i < 1
          → (refuses 3 ≡ (node_message s i t b room).answer) × (t ≡ (node_message s i t b room).table) × (room ≡ (node_message s i t b room).room)
      unfolding node_message
      message_low q = rw (e, le-leb (table_size s) (length t) h, le-leb (answer_size s) (length room) k, lt-leb 1 i q) (refl, refl, refl)

      pub message_high : 1 ≤ i → s.n < i
          → (refuses 3 ≡ (node_message s i t b room).answer) × (t ≡ (node_message s i t b room).table) × (room ≡ (node_message s i t b room).room)
      unfolding node_message
      message_high p q = rw (e, le-leb (table_size s) (length t) h, le-leb (answer_size s) (length room) k, le-leb 1 i p, lt-leb i s.n q) (refl, refl, refl)

      pub message_ends : 1 ≤ i → i ≤ s.n → (a : Served) (u v : List ℕ) → Ends (event s t b room) a u v
          → (a ≡ (node_message s i t b room).answer) × (u ≡ (node_message s i t b room).table) × (v ≡ (node_message s i t b room).room)
      unfolding node_message
      message_ends p q a u v x =
          rw (e, le-leb (table_size s) (length t) h, le-leb (answer_size s) (length room) k, le-leb 1 i p, le-leb i s.n q) (x.answer, x.table, x.room)
