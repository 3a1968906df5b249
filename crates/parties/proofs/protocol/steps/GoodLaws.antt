-- What the invariants say of forms: pointers that deposits formed, and the pieces and digests of pages, are well formed.
use mathlib.Core.Path.{◌≡◌, sym, subst, ◌∙◌}
use mathlib.Core.Bool.{true, false}
use mathlib.Core.Logic.{◌⊎◌, inl, inr}
use mathlib.Core.List.{List, []}
use Prim.Native.Nat.{ℕ, ◌+◌, ◌-◌, ◌*◌, ◌^◌, ◌<◌, ◌≤◌}
use native.Mathlib.Nat.{le_refl}
use native.Mathlib.Decide.{ℕ_discrete}
use native.Mathlib.Omega.{arith}
use borrow.Author.Tests.{le-leb, lt-ltb, eq-eqb, ne_eqb}
use lib.ListN.{length, get_or, replicate, length-replicate, length-map}
use lib.Pow.{pow_pos}
use Rattle.coding.specs.Pieces.{proper, piece}
use Rattle.coding.specs.Placed.{piece_digest}
use Rattle.coding.specs.Nodes.{nodes_of}
use Rattle.coding.proofs.BytesLaws.{length-tabulate}
use Rattle.coding.proofs.MeasureLaws.{measures-proper}
use Rattle.coding.proofs.NodesLaws.{nodes-none, nodes-within}
use Rattle.coding.proofs.PlacedLaws.{length-digest, bytes-digest}
use Rattle.coding.proofs.RoundTripLaws.{length-piece}
use Rattle.coding.proofs.RoundTrip.{piece_bytes, within, some_columns}
use Rattle.parties.specs.declared.Measures.{Measures}
use Rattle.parties.specs.declared.Version.{Version}
use Rattle.parties.specs.protocol.Nodes.{nodes_in, count}
use Rattle.parties.specs.protocol.Pointer.{Pointer, none_pointer, is_none, proper_pointer, write_version}
use Rattle.parties.specs.protocol.Client.{Phase}
use Rattle.parties.specs.protocol.Deposit.{digests_of, pointer_of}
use Rattle.parties.proofs.protocol.formats.FormatLaws.{Each}
use Rattle.parties.proofs.protocol.formats.EachLaws.{each_at, each_map, each-replicate, each-tabulate}
use Rattle.parties.proofs.protocol.formats.MeasureLaws.{Passed}
use Rattle.parties.proofs.protocol.formats.PointerLaws.{GoodPointer, some_pointer}
use Rattle.parties.proofs.protocol.formats.RowLaws.{none_good}
use Rattle.parties.proofs.protocol.formats.NodeMapLaws.{nodes-all}
use Rattle.parties.proofs.protocol.formats.MessageLaws.{GoodStored}
use Rattle.parties.proofs.protocol.formats.ClientLaws.{GoodDigest, ShortPiece, GoodPhase, map-fits}
use Rattle.parties.proofs.protocol.formats.BytesWritten.{bytes_nil}
use Rattle.parties.proofs.protocol.model.Model.{ver, Model, pointed}
use Rattle.parties.proofs.protocol.invariants.Invariants.{Known, Drawing, Pointed, unnum}
use Rattle.parties.proofs.protocol.model.PastLaws.{some_formed}

-- ---- pieces of a page that fits

pub proper_passed : (z : Measures) → Passed z → proper z.n z.k z.f ≡ true
proper_passed z p =
    measures-proper z.n z.k z.f
    (record { nodes = p.nodes; parts = (p.parts, omega (arith, p.enough)); longest = p.bytes; frame = p.frame })

module _ (z : Measures) (p : Passed z) (page : List ℕ) (short : length page ≤ z.k * z.f - 4) (i : ℕ) where
  -- a room for all pieces
  room : List ℕ
  room = replicate {A = ℕ} (z.n * z.f) 0

  wide : z.n * z.f ≤ length room
  unfolding room
  wide = rw (length-replicate {A = ℕ} (z.n * z.f) 0) (le_refl (z.n * z.f))

  pub piece_some : 1 ≤ length (piece z.k page i)
  piece_some = rw (length-piece z.k page i) (some_columns z.n z.k z.f page room (proper_passed z p) wide short)

  pub piece-short : length (piece z.k page i) ≤ z.f
  piece-short = rw (length-piece z.k page i) (within z.n z.k z.f page room (proper_passed z p) wide short)

  pub piece-stored : GoodStored z (piece z.k page i)
  piece-stored =
      (piece_bytes z.k page i, simp (le-leb 1 (length (piece z.k page i)) piece_some, le-leb (length (piece z.k page i)) z.f piece-short))

-- ---- digests

pub length-digests : (z : Measures) (v : Version) (page : List ℕ) → length (digests_of z v page) ≡ z.n
unfolding digests_of
length-digests z v page = length-tabulate z.n (λ j. piece_digest (write_version v) (j + 1) (piece z.k page (j + 1)))

pub digests_good : (z : Measures) (v : Version) (page : List ℕ) → Each GoodDigest (digests_of z v page)
unfolding digests_of
digests_good z v page =
    each-tabulate GoodDigest z.n (λ j. piece_digest (write_version v) (j + 1) (piece z.k page (j + 1)))
    (λ j l. (bytes-digest (write_version v) (j + 1) (piece z.k page (j + 1)), length-digest (write_version v) (j + 1) (piece z.k page (j + 1))))

-- ---- pointers

pub ver_some : (x : Pointer) → 256 ≤ ver x → is_none x ≡ false
ver_some x h = go (ℕ_discrete x.version.sequence.0 0)
  where
    go : Dec (x.version.sequence.0 ≡ 0) → is_none x ≡ false
    go (yes e) = simp (eq-eqb x.version.sequence.0 0 e, ne_eqb x.version.client 255 (λ q. omega arith))
    go (no e) = some_pointer x e

-- the pointer of a version that t + k nodes acknowledged
module _ (z : Measures) (p : Passed z) (v : Version) (a : ℕ) (one : 1 ≤ v.sequence.0) (fits : v.sequence.0 < 2 ^ 32) (writer : v.client < z.m)
    (bits : a < 2 ^ z.n) (enough : count a ≡ z.t + z.k) where
  -- a node that acknowledged is one of the n
  among : (i : ℕ) → i < length (nodes_in a) → get_or (nodes_in a) i 0 - 1 < z.n
  among i l =
      let e : nodes_in a ≡ nodes_of a z.n = nodes-all a z.n bits p.nodes.1 in
      let q = nodes-within a z.n i (rw e at l) in
      rw e (omega (arith, q.0, q.1))

  pub formed_good : (ds : List (List ℕ)) → Each GoodDigest ds → length ds ≡ z.n → GoodPointer z (pointer_of v a ds)
  unfolding pointer_of proper_pointer
  formed_good ds each many =
      let c : v.client < 256 = omega (arith, p.clients.1) in
      let named =
      each_map GoodDigest (λ i. get_or ds (i - 1) []) 0 (nodes_in a) (λ i l. each_at GoodDigest [] ds each (get_or (nodes_in a) i 0 - 1) (omega (arith, among i l, many)))
      in (
        ((fits, c), (map-fits z p a bits, (named, length-map (nodes_in a) _))),
        simp (
          ne_eqb v.sequence.0 0 (λ q. omega arith),
          le-leb 1 v.sequence.0 one,
          lt-ltb v.client z.m writer,
          eq-eqb (length (nodes_in a)) (z.t + z.k) enough,
          lt-ltb a (2 ^ z.n) bits,
        ),
      )

  pub pointed_good : (page : List ℕ) → GoodPointer z (pointed z v page a)
  pointed_good page = formed_good (digests_of z v page) (digests_good z v page) (length-digests z v page)

pub known_good : (z : Measures) → Passed z → (s : Model) → Drawing z s → (w : ℕ) → w < z.m → (x : Pointer) → Known s.p w x → GoodPointer z x
known_good z p s o w l x (Known.absent e) = subst (GoodPointer z) (sym e) (none_good z)
known_good z p s o w l x (Known.formed d e c h) = go (o (ver x) d).pointer
  where
    go : (s.p.pointers (ver x) ≡ none_pointer) ⊎ Pointed z s.p (ver x) → GoodPointer z x
    go (inl q) = absurd (some_formed s.p x e h q)
    go (inr q) =
        let y = o (ver x) d in
        subst (GoodPointer z) (sym q.pointer ∙ e)
        (pointed_good z p (unnum (ver x)) q.nodes (omega (arith, y.proper)) y.sequence y.writer q.within q.enough (s.p.pages (ver x)))

-- a reading whose nodes are asked
pub asking_good : (z : Measures) → Passed z → (x : Pointer) → GoodPointer z x → is_none x ≡ false → GoodPhase z (Phase.fetching x 0 0 (replicate z.n []))
asking_good z p x g n = (
  g,
  n,
  omega arith,
  pow_pos z.n,
  rw (nodes-none 16) (omega (arith, p.parts)),
  each-replicate (ShortPiece z) z.n [] (bytes_nil, omega arith),
  length-replicate z.n [],
)
