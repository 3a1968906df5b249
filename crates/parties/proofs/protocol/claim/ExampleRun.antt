-- The worked run is as it is written down: one computation of its events by the definitions on bytes.
use mathlib.Core.Path.{◌≡◌, refl, ap, ap₂, sym, subst, ◌∙◌}
use mathlib.Core.Bool.{Bool, true, ◌&&◌}
use mathlib.Core.List.{List, [], ◌∷◌, ◌++◌}
use Prim.Native.Nat.{ℕ}
use native.Mathlib.Omega.{arith}
use borrow.Author.Tests.{ltb-true}
use lib.Dec.{ltb}
use Rattle.coding.specs.Bytes.{Bytes, tabulate}
use Rattle.coding.specs.Placed.{digest_input, piece_digest}
use Rattle.coding.specs.Field.{poly_product, poly_remainder, product, power, inverse, sum}
use Rattle.coding.specs.Join.{joined, page_of, join}
use Rattle.coding.specs.Nodes.{all as all_of, nodes_of, sound, first_length}
use Rattle.coding.specs.Pieces.{proper, columns, frame, piece_byte, piece}
use Rattle.coding.specs.Polynomial.{value, plus, times, roots_at, interpolate}
use Rattle.coding.specs.Sha256.{K, bytes, padding, padded, words, H₀, extended, schedule, turned, round, rounds, added, compress, hash, joined as digestJoined, sha256}
use Rattle.coding.specs.Split.{written as splitWritten, split}
use Rattle.coding.proofs.BytesLaws.{bytes_cons}
use Rattle.coding.proofs.Cases.{and-true}
use Rattle.parties.specs.declared.Measures.{Measures}
use Rattle.parties.specs.protocol.Format.{read_number, write_number, read_many, write_many, read_each, read_bytes, read_zeros, read_area, write_area}
use Rattle.parties.specs.protocol.Measures.{passes}
use Rattle.parties.specs.protocol.Version.{ascending}
use Rattle.parties.specs.protocol.Nodes.{stands, with_node}
use Rattle.parties.specs.protocol.Pointer.{read_version, write_version, proper_pointer, all_pointers, read_named, write_named, read_pointer, write_pointer}
use Rattle.parties.specs.protocol.Directory.{read_index, write_index, read_content, write_content, read_fields, write_fields, map_of, read_record, write_record, read_row, read_directory, write_directory, merge, update_row, all_fields}
use Rattle.parties.specs.protocol.Owner.{own_rows}
use Rattle.parties.specs.protocol.Verdict.{record_verdict}
use Rattle.parties.specs.protocol.NodeTable.{read_piece, write_piece, read_held, write_held, read_places, write_places, read_table, write_table}
use Rattle.parties.specs.protocol.Node.{keep, hand_back, listed, release}
use Rattle.parties.specs.protocol.Message.{read_proper, read_versions, read_to_node, write_to_node, read_to_client, write_to_client}
use Rattle.parties.specs.protocol.Client.{read_page, write_page, read_some, read_stores, write_stores, read_pieces, write_pieces, read_fetches, write_fetches, read_work, write_work, read_reserved, read_retained, write_retained, read_client, write_client}
use Rattle.parties.specs.protocol.Deposit.{highest, digests_of, pointer_of, noticed, frozen_after, replaced, insert, free_list}
use Rattle.parties.specs.protocol.Reading.{pick, same_bytes, digest_at, matches}
use Rattle.parties.specs.protocol.ClientEvents.{begin_deposit, begin_reading, start_deposit, start_reading, update_answer, scan_answer, client_message}
use Rattle.parties.specs.protocol.DirectoryEvents.{directory_update, directory_scan}
use Rattle.parties.specs.protocol.NodeEvents.{node_message}
use Rattle.parties.specs.protocol.Run.{Event, deposit, reading, carry, hand, bring, deliver, lie, Answered, State, Result, fresh, carry_out, run}
use Rattle.parties.specs.protocol.Claim.{Lent, AllLent}
use Rattle.parties.specs.protocol.Example.{measures, honest, last, opening, front, events, opened, answers, Ending, ending, expected, Worked}
use Rattle.parties.proofs.protocol.formats.BytesWritten.{bytes_nil}
use Rattle.parties.proofs.protocol.events.RunLaws.{run-last}
use Rattle.parties.proofs.protocol.claim.StringLaws.{unborne, firstly, client_of, marks_once, borne_once, borne_last}

-- ---- answers, whether versions are borne once, and state at once, so that each event is computed once

unfoldable play : Measures → (ℕ → Bool) → List Event → State → List Answered × Bool × State
play s honest [] st = ([], true, st)
play s honest (e ∷ es) st =
    let r = carry_out s honest e st in
    let q = play s honest es r.state in (r.answer ∷ q.0, marks_once (client_of e) r.answer st.history && q.1, q.2)

play_answers : (s : Measures) (honest : ℕ → Bool) (es : List Event) (st : State) → (play s honest es st).0 ≡ answers s honest es st
unfolding play answers
play_answers s honest [] st = refl
play_answers s honest (e ∷ es) st =
    ap (λ l. (carry_out s honest e st).answer ∷ l) (play_answers s honest es (carry_out s honest e st).state)

play_once : (s : Measures) (honest : ℕ → Bool) (es : List Event) (st : State) → (play s honest es st).1 ≡ borne_once s honest es st
unfolding play borne_once
play_once s honest [] st = refl
play_once s honest (e ∷ es) st =
    ap (λ b. marks_once (client_of e) (carry_out s honest e st).answer st.history && b) (play_once s honest es (carry_out s honest e st).state)

play_run : (s : Measures) (honest : ℕ → Bool) (es : List Event) (st : State) → (play s honest es st).2 ≡ run s honest es st
unfolding play run
play_run s honest [] st = refl
play_run s honest (e ∷ es) st = play_run s honest es (carry_out s honest e st).state

answers-last : (s : Measures) (honest : ℕ → Bool) (es : List Event) (e : Event) (st : State)
    → answers s honest (es ++ (e ∷ [])) st ≡ answers s honest es st ++ ((carry_out s honest e (run s honest es st)).answer ∷ [])
unfolding answers run
answers-last s honest [] e st = refl
answers-last s honest (x ∷ es) e st = ap (λ l. (carry_out s honest x st).answer ∷ l) (answers-last s honest es e (carry_out s honest x st).state)

-- the last event after the others
abbrev lasting : Result → List Answered → State → Ending
lasting r l st = ending (l ++ (r.answer ∷ [])) st r.state

abbrev end_of : List Answered × Bool × State → Ending × Bool
end_of (l, b, st) = let r = carry_out measures honest last.0 st in (lasting r l st, marks_once (client_of last.0) r.answer st.history && b)

played : end_of (play measures honest front (fresh measures)) ≡ (expected, true)
unfolding expected play unborne firstly marks_once tabulate digest_input piece_digest poly_product poly_remainder product power inverse sum joined page_of join all_of nodes_of sound
    first_length proper columns frame piece_byte piece value plus times roots_at interpolate K bytes padding padded words H₀ extended schedule turned round
    rounds added compress hash digestJoined sha256 splitWritten split read_number write_number read_many write_many read_each read_bytes read_zeros read_area
    write_area passes ascending stands with_node read_version write_version proper_pointer read_named write_named read_pointer write_pointer read_index
    write_index read_content write_content read_fields write_fields map_of read_record write_record read_row read_directory write_directory merge update_row
    all_pointers all_fields own_rows record_verdict read_piece write_piece read_held write_held read_places write_places read_table write_table keep hand_back listed release read_proper read_versions
    read_to_node write_to_node read_to_client write_to_client read_page write_page read_some read_stores write_stores read_pieces write_pieces read_fetches
    write_fetches read_work write_work read_reserved read_retained write_retained read_client write_client highest digests_of pointer_of noticed frozen_after
    replaced insert free_list pick same_bytes digest_at matches begin_deposit begin_reading start_deposit start_reading update_answer scan_answer client_message
    directory_update directory_scan node_message carry_out
played = refl

-- ---- lent memory has bytes in it: a test that antt computes

bytes_in : List ℕ → Bool
bytes_in l = all_of (λ b. ltb b 256) l

bytes_in_lem : (l : List ℕ) → bytes_in l ≡ true → Bytes l
unfolding bytes_in all_of
bytes_in_lem [] e = bytes_nil
bytes_in_lem (x ∷ l) e = let t = and-true (ltb x 256) _ e in bytes_cons x l (ltb-true x 256 t.0) (bytes_in_lem l t.1)

abbrev lent_to : Event → Bool
lent_to (deposit c bytes) = bytes_in bytes
lent_to (reading c room) = bytes_in room
lent_to (carry c room) = bytes_in room
lent_to (hand c room) = bytes_in room
lent_to (bring c i room) = bytes_in room
lent_to (deliver i c room out) = bytes_in room && bytes_in out
lent_to (lie i c bytes room out) = bytes_in bytes && (bytes_in room && bytes_in out)

lent_to_lem : (e : Event) → lent_to e ≡ true → Lent e
lent_to_lem (deposit c bytes) e = bytes_in_lem bytes e
lent_to_lem (reading c room) e = bytes_in_lem room e
lent_to_lem (carry c room) e = bytes_in_lem room e
lent_to_lem (hand c room) e = bytes_in_lem room e
lent_to_lem (bring c i room) e = bytes_in_lem room e
lent_to_lem (deliver i c room out) e = let t = and-true (bytes_in room) _ e in (bytes_in_lem room t.0, bytes_in_lem out t.1)
lent_to_lem (lie i c bytes room out) e =
    let t = and-true (bytes_in bytes) _ e in
    let u = and-true (bytes_in room) _ t.1 in (bytes_in_lem bytes t.0, bytes_in_lem room u.0, bytes_in_lem out u.1)

all_lent_to : List Event → Bool
all_lent_to [] = true
all_lent_to (e ∷ es) = lent_to e && all_lent_to es

all-lent : (es : List Event) → all_lent_to es ≡ true → AllLent es
unfolding all_lent_to
all-lent [] t = tt
all-lent (e ∷ es) t = let u = and-true (lent_to e) _ t in (lent_to_lem e u.0, all-lent es u.1)

lent-here : all_lent_to events ≡ true
unfolding all_lent_to bytes_in all_of opening write_to_client write_version write_number
lent-here = refl

-- ---- the theorem

pub worked : Worked
worked =
    record {
      ends =
          ap₂ (λ l st. ending l opened st) (answers-last measures honest front last.0 (fresh measures))
          (run-last measures honest front last.0 (fresh measures))
          ∙ ap₂ (λ l st. lasting (carry_out measures honest last.0 st) l st) (sym (play_answers measures honest front (fresh measures)))
          (sym (play_run measures honest front (fresh measures)))
          ∙ ap (λ (x : Ending × Bool). x.0) played;
      few = omega arith;
      lent = all-lent events lent-here;
    }

-- and no operation of it bears a second version
pub borne_once_lem : borne_once measures honest events (fresh measures) ≡ true
borne_once_lem =
    let p = play measures honest front (fresh measures) in
    let t = and-true (marks_once 2 (carry_out measures honest last.0 p.2).answer p.2.history) p.1 (ap (λ (x : Ending × Bool). x.1) played) in
    borne_last measures honest front last.0 (fresh measures) (sym (play_once measures honest front (fresh measures)) ∙ t.1)
    (subst (λ (st : State). marks_once 2 (carry_out measures honest last.0 st).answer st.history ≡ true)
    (play_run measures honest front (fresh measures)) t.0)
