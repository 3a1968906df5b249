-- Demand 3 of the worked run. Its premise holds: the digests of its 21 strings differ in their first bytes.
use mathlib.Core.Path.{◌≡◌, refl, sym, ap, subst, ◌∙◌}
use mathlib.Core.Bool.{Bool, true, not, ◌&&◌, false≢true}
use mathlib.Core.Logic.{◌⊎◌, inl, inr, ◌↔◌}
use mathlib.Core.List.{List, [], ◌∷◌, map}
use mathlib.Core.Option.{some, none}
use Prim.Native.Nat.{ℕ, zero, suc, ◌≤◌, ◌<◌}
use native.Mathlib.Omega.{arith}
use borrow.Author.Tests.{eq-eqb}
use lib.Dec.{eqb}
use lib.ListN.{length, get_or}
use Rattle.coding.specs.Bytes.{tabulate}
use Rattle.coding.specs.Placed.{digest_input}
use Rattle.coding.specs.Field.{poly_product, poly_remainder, product, power, sum}
use Rattle.coding.specs.Pieces.{columns, frame, piece_byte, piece}
use Rattle.coding.specs.Sha256.{K, bytes, padding, padded, words, H₀, extended, schedule, turned, round, rounds, added, compress, hash, joined, sha256}
use Rattle.coding.proofs.Cases.{and-true}
use Rattle.coding.proofs.PageLaws.{none≢some, some_eq}
use Rattle.parties.specs.declared.Version.{Version}
use Rattle.parties.specs.protocol.Measures.{passes}
use Rattle.parties.specs.protocol.Format.{write_number}
use Rattle.parties.specs.protocol.Nodes.{stands}
use Rattle.parties.specs.protocol.Pointer.{Pointer, write_version}
use Rattle.parties.specs.protocol.Reading.{matches}
use Rattle.parties.specs.protocol.Run.{Operation, Put, Reply, History, fresh}
use Rattle.parties.specs.protocol.Claim.{IsDeposit, IsReading, FirstPut, Concerns, Member, MatchesOwn, StringOf, RunString, Differ, Bears, Open, Claim, pieces_of}
use Rattle.parties.specs.protocol.Example.{measures, honest, version, page_a, page_b, page_c, last, front, events, opened, ended, pointer_b, of_reading, reply_of, Ending, expected, Claimed}
use Rattle.parties.proofs.protocol.formats.FormatLaws.{Each}
use Rattle.parties.proofs.protocol.model.MemberLaws.{member_cases}
use Rattle.parties.proofs.protocol.claim.Demand.{demand_3}
use Rattle.parties.proofs.protocol.claim.ExampleRun.{worked, borne_once_lem}
use Rattle.parties.proofs.protocol.claim.StringLaws.{differ-run, front_strings, front-lent}

-- ---- the strings of the run: version, node and piece

abbrev placed : Version → List ℕ → ℕ → List ℕ
placed v bytes i = digest_input (write_version v) i (piece 2 bytes i)

-- a deposit's four, before others
of_deposit : Version → List ℕ → List (List ℕ) → List (List ℕ)
of_deposit v bytes l = placed v bytes 1 ∷ placed v bytes 2 ∷ placed v bytes 3 ∷ placed v bytes 4 ∷ l

-- those of the five deposits, and A's piece from node 4 under the number of B
from_e : List (List ℕ)
from_e = of_deposit (version 5 1) page_a (digest_input (write_version (version 2 1)) 4 (0x00 ∷ 0x04 ∷ 0x41 ∷ []) ∷ [])

from_c : List (List ℕ)
from_c = of_deposit (version 3 1) page_c (of_deposit (version 4 1) page_b from_e)

strings : List (List ℕ)
strings = of_deposit (version 1 0) page_a (of_deposit (version 2 1) page_b from_c)

-- for nodes 1 to 4
four : (p : ℕ → Type 0) → p 1 → p 2 → p 3 → p 4 → (i : ℕ) → 1 ≤ i → i ≤ 4 → p i
four p a b c d zero lo up = absurd (omega arith)
four p a b c d (suc zero) lo up = a
four p a b c d (suc (suc zero)) lo up = b
four p a b c d (suc (suc (suc zero))) lo up = c
four p a b c d (suc (suc (suc (suc zero)))) lo up = d
four p a b c d (suc (suc (suc (suc (suc i))))) lo up = absurd (omega arith)

module _ (v : Version) (bytes : List ℕ) (l : List (List ℕ)) where
  behind : (x : List ℕ) → Member x l → Member x (of_deposit v bytes l)
  unfolding of_deposit
  behind x m = Member.there _ _ (Member.there _ _ (Member.there _ _ (Member.there _ _ m)))

  first-four : (i : ℕ) → 1 ≤ i → i ≤ 4 → Member (placed v bytes i) (of_deposit v bytes l)
  unfolding of_deposit
  first-four =
      four (λ i. Member (placed v bytes i) (of_deposit v bytes l)) (Member.here _) (Member.there _ _ (Member.here _))
      (Member.there _ _ (Member.there _ _ (Member.here _))) (Member.there _ _ (Member.there _ _ (Member.there _ _ (Member.here _))))

-- a deposit's strings are among them
abbrev Cut : Version → List ℕ → Type 0
Cut v bytes = (i : ℕ) → 1 ≤ i → i ≤ 4 → Member (placed v bytes i) strings

-- behind A's and B's
from_C : (x : List ℕ) → Member x from_c → Member x strings
unfolding strings
from_C x m = behind _ _ _ x (behind _ _ _ x m)

cut_A : Cut (version 1 0) page_a
unfolding strings
cut_A = first-four _ _ _

cut_B : Cut (version 2 1) page_b
unfolding strings
cut_B i lo up = behind _ _ _ _ (first-four _ _ _ i lo up)

cut_C : Cut (version 3 1) page_c
unfolding from_c
cut_C i lo up = from_C _ (first-four _ _ _ i lo up)

cut_D : Cut (version 4 1) page_b
unfolding from_c
cut_D i lo up = from_C _ (behind _ _ _ _ (first-four _ _ _ i lo up))

cut_E : Cut (version 5 1) page_a
unfolding from_c from_e
cut_E i lo up = from_C _ (behind _ _ _ _ (behind _ _ _ _ (first-four _ _ _ i lo up)))

-- ---- what the run left behind it

begun : ended.history.begun ≡ 6
unfolding expected
begun = ap (λ (x : Ending). x.begun) worked.ends

-- an operation at the end
operation : (j : ℕ) → get_or (map ended.history.operation (0 ∷ 1 ∷ 2 ∷ 3 ∷ 4 ∷ 5 ∷ [])) j (of_reading none none)
    ≡ get_or expected.operations j (of_reading none none)
operation j = ap (λ (x : Ending). get_or x.operations j (of_reading none none)) worked.ends

deposit-cut : (o : ℕ) (v : Version) (bytes : List ℕ) → o < 6 → (ended.history.operation o).version ≡ some v → IsDeposit ended.history o bytes
    → Cut v bytes
unfolding expected
deposit-cut o v bytes l b d = go o l b d
  where
    is : (w : Version) (a : List ℕ) → some w ≡ some v → some a ≡ some bytes → Cut w a → Cut v bytes
    is w a e f h = subst (λ x. Cut x bytes) (some_eq e) (subst (Cut w) (some_eq f) h)

    go : (o : ℕ) → o < 6 → (ended.history.operation o).version ≡ some v → IsDeposit ended.history o bytes → Cut v bytes
    go zero l b d = is (version 1 0) page_a (sym (ap (λ (x : Operation). x.version) (operation 0)) ∙ b) (sym (ap (λ (x : Operation). x.page) (operation 0)) ∙ d) cut_A
    go (suc zero) l b d = is (version 2 1) page_b (sym (ap (λ (x : Operation). x.version) (operation 1)) ∙ b) (sym (ap (λ (x : Operation). x.page) (operation 1)) ∙ d) cut_B
    go (suc (suc zero)) l b d = absurd (none≢some (sym (ap (λ (x : Operation). x.page) (operation 2)) ∙ d))
    go (suc (suc (suc zero))) l b d = is (version 3 1) page_c (sym (ap (λ (x : Operation). x.version) (operation 3)) ∙ b) (sym (ap (λ (x : Operation). x.page) (operation 3)) ∙ d) cut_C
    go (suc (suc (suc (suc zero)))) l b d = is (version 4 1) page_b (sym (ap (λ (x : Operation). x.version) (operation 4)) ∙ b) (sym (ap (λ (x : Operation). x.page) (operation 4)) ∙ d) cut_D
    go (suc (suc (suc (suc (suc zero))))) l b d = is (version 5 1) page_a (sym (ap (λ (x : Operation). x.version) (operation 5)) ∙ b) (sym (ap (λ (x : Operation). x.page) (operation 5)) ∙ d) cut_E
    go (suc (suc (suc (suc (suc (suc o)))))) l b d = absurd (omega arith)

-- a reply's string
abbrev Came : Reply → Type 0
Came r = Member (digest_input (write_version r.version) r.node r.piece) strings

member_each : (r : Reply) (l : List Reply) → Each Came l → Member r l → Came r
member_each r [] h m = elim m [ ]
member_each r (y ∷ l) h m = go (member_each r l h.1) (member_cases r y l m)
  where
    go : (Member r l → Came r) → (r ≡ y) ⊎ Member r l → Came r
    go rest (inl e) = subst Came (sym e) h.0
    go rest (inr n) = rest n

reply-came : (r : Reply) → Member r ended.history.replied → Came r
unfolding expected from_c from_e tabulate poly_product poly_remainder product power sum columns frame piece_byte piece
reply-came r a =
    let e = ap (λ (y : Ending). y.replied) worked.ends in
    member_each r expected.replied (
      from_C _ (behind _ _ _ _ (behind _ _ _ _ (behind _ _ _ _ (Member.here _)))),
      (cut_B 4 (omega arith) (omega arith), (cut_B 2 (omega arith) (omega arith), (cut_B 3 (omega arith) (omega arith), tt))),
    ) (rw e at a)

string_of : (x : List ℕ) → StringOf measures ended.history x → Member x strings
string_of x (StringOf.cut o i v bytes b d lo up e) =
    let l : o < 6 = omega (arith, begun, b.0) in rw e (deposit-cut o v bytes l b.1 d i lo up)
string_of x (StringOf.came r a lo up e) = rw e (reply-came r a)

-- ---- their digests

abbrev first : List ℕ → ℕ
first x = get_or (sha256 x) 0 0

absent : ℕ → List ℕ → Bool
absent a [] = true
absent a (b ∷ l) = not (eqb a b) && absent a l

distinct : List ℕ → Bool
distinct [] = true
distinct (a ∷ l) = absent a l && distinct l

first-bytes : distinct (map first strings) ≡ true
unfolding strings from_c from_e of_deposit absent distinct digest_input write_version write_number tabulate poly_product poly_remainder product power sum columns frame piece_byte piece K bytes padding padded words H₀ extended schedule turned round rounds added compress hash joined sha256
first-bytes = refl

absent_member : (a : ℕ) (l : List (List ℕ)) → absent a (map first l) ≡ true → (x : List ℕ) → Member x l → a ≡ first x → ⊥
unfolding absent
absent_member a [] t x m e = elim m [ ]
absent_member a (y ∷ l) t x m e =
    let u = and-true (not (eqb a (first y))) (absent a (map first l)) t in go u.0 (λ n. absent_member a l u.1 x n e) (member_cases x y l m)
  where
    go : not (eqb a (first y)) ≡ true → (Member x l → ⊥) → (x ≡ y) ⊎ Member x l → ⊥
    go u rest (inl q) = false≢true (sym (ap not (eq-eqb a (first y) (e ∙ ap first q))) ∙ u)
    go u rest (inr n) = rest n

told_apart : (l : List (List ℕ)) → distinct (map first l) ≡ true → (x y : List ℕ) → Member x l → Member y l → first x ≡ first y → x ≡ y
unfolding distinct
told_apart [] t x y m n e = elim m [ ]
told_apart (z ∷ l) t x y m n e =
    let u = and-true (absent (first z) (map first l)) (distinct (map first l)) t in
    go u.0 (λ m' n'. told_apart l u.1 x y m' n' e) (member_cases x z l m) (member_cases y z l n)
  where
    go : absent (first z) (map first l) ≡ true → (Member x l → Member y l → x ≡ y) → (x ≡ z) ⊎ Member x l → (y ≡ z) ⊎ Member y l → x ≡ y
    go u rest (inl p) (inl q) = p ∙ sym q
    go u rest (inl p) (inr n) = absurd (absent_member (first z) l u y n (ap first (sym p) ∙ e))
    go u rest (inr m) (inl q) = absurd (absent_member (first z) l u x m (ap first (sym q) ∙ sym e))
    go u rest (inr m) (inr n) = rest m n

differ : Differ (RunString measures honest events (fresh measures))
differ =
    differ-run measures honest events (fresh measures) borne_once_lem (λ x y p q e.
    told_apart strings first-bytes x y (string_of x p) (string_of y q) (ap (λ (d : List ℕ). get_or d 0 0) e))

-- ---- the claim of this run

at_end : Claim measures honest ended
unfolding passes
at_end = demand_3 measures refl honest worked.few events worked.lent differ

at_last : Claim measures honest opened
unfolding passes
at_last =
    demand_3 measures refl honest worked.few front (front-lent front (last.0 ∷ []) worked.lent) (λ x y p q.
    differ x y (front_strings measures honest front (last.0 ∷ []) (fresh measures) x p)
    (front_strings measures honest front (last.0 ∷ []) (fresh measures) y q))

bears : (j : ℕ) (v : Version) → j < 6 → (ended.history.operation j).version ≡ some v → Bears ended.history j v
bears j v l e = let h : j < ended.history.begun = omega (arith, begun, l) in (h, e)

-- what a reading concerns is one deposit
first_one : (p : Pointer) (d e : ℕ) (l : List Put) → FirstPut p d l → FirstPut p e l → d ≡ e
first_one p d e [] f g = elim f [ ]
first_one p d e (x ∷ l) (inl a) (inl b) = sym a.1 ∙ b.1
first_one p d e (x ∷ l) (inl a) (inr b) = absurd (b.0 a.0)
first_one p d e (x ∷ l) (inr a) (inl b) = absurd (a.0 b.0)
first_one p d e (x ∷ l) (inr a) (inr b) = first_one p d e l a.1 b.1

concerns_one : (h : History) (o d e : ℕ) → IsReading h o → Concerns h o d → Concerns h o e → d ≡ e
concerns_one h o d e r (Concerns.itself bytes f q) c = absurd (none≢some (sym r ∙ f))
concerns_one h o d e r (Concerns.shows x f p n a) (Concerns.itself bytes g q) = absurd (none≢some (sym r ∙ g))
concerns_one h o d e r (Concerns.shows x f p n a) (Concerns.shows y g q m b) =
    first_one y d e h.puts (subst (λ (w : Pointer). FirstPut w d h.puts) (some_eq (sym p ∙ q)) a) b

-- a reply that came to the reading matches exactly if it is B's piece at its node
came-matches : (r : Reply) → Member r expected.replied → r.version ≡ version 2 1 → 1 ≤ r.node → r.node ≤ 4 → stands 14 r.node ≡ true
    → (matches measures pointer_b r.node r.piece ≡ true) ↔ (r.piece ≡ piece 2 page_b r.node)
unfolding expected
came-matches r a q lo up n =
    let pointer : (ended.history.operation 2).pointer ≡ some pointer_b = ap (λ (o : Operation). o.pointer) (operation 2) in
    let page : IsReading ended.history 2 = ap (λ (o : Operation). o.page) (operation 2) in
    let given : (ended.history.operation 2).given ≡ some page_b = ap (λ (o : Operation). o.given) (operation 2) in
    let l : 2 < ended.history.begun = omega (arith, begun) in
    let m = at_end.matched 2 pointer_b l page pointer (λ e. absurd (omega (arith, ap (λ (p : Pointer). p.named.nodes) e))) in
    let x = at_end.exact 2 page_b l given in
    let same : m.1 ≡ page_b =
    some_eq (sym m.3 ∙ ap (λ (j : ℕ). (ended.history.operation j).page) (concerns_one ended.history 2 m.0 x.0 page m.2 x.1) ∙ x.2)
    in
    subst (MatchesOwn measures ended.history pointer_b) same m.4 r
    (subst (Member r) (sym (ap (λ (y : Ending). y.replied) worked.ends)) a) q lo up n

matched-here : (matches measures pointer_b 4 (0x00 ∷ 0x04 ∷ 0x41 ∷ []) ≡ true → ⊥)
    × (matches measures pointer_b 4 (0x00 ∷ 0x18 ∷ 0xD7 ∷ 0xD7 ∷ 0xD7 ∷ []) ≡ true)
    × (matches measures pointer_b 2 (0x00 ∷ 0x0C ∷ 0x86 ∷ 0x86 ∷ 0x86 ∷ []) ≡ true)
unfolding expected stands tabulate poly_product poly_remainder product power sum columns frame piece_byte piece
matched-here =
    let a = reply_of 4 98 (0x00 ∷ 0x04 ∷ 0x41 ∷ []) in
    let b = reply_of 4 99 (0x00 ∷ 0x18 ∷ 0xD7 ∷ 0xD7 ∷ 0xD7 ∷ []) in
    let c = reply_of 2 100 (0x00 ∷ 0x0C ∷ 0x86 ∷ 0x86 ∷ 0x86 ∷ []) in (
      λ e.
          let f = (came-matches a (Member.here _) refl (omega arith) (omega arith) refl).0 e in
          omega (arith, ap (λ (l : List ℕ). get_or l 1 0) f),
      (came-matches b (Member.there a _ (Member.here _)) refl (omega arith) (omega arith) refl).1 refl,
      (came-matches c (Member.there a _ (Member.there b _ (Member.here _))) refl (omega arith) (omega arith) refl).1 refl,
    )

pub example_demand_3 : Claimed
unfolding expected stands
example_demand_3 =
    let version_0 : (ended.history.operation 0).version ≡ some (version 1 0) = ap (λ (o : Operation). o.version) (operation 0) in
    let version_1 : (ended.history.operation 1).version ≡ some (version 2 1) = ap (λ (o : Operation). o.version) (operation 1) in
    let version_2 : (ended.history.operation 2).version ≡ some (version 2 1) = ap (λ (o : Operation). o.version) (operation 2) in
    let ended_0 : (ended.history.operation 0).ended ≡ some 13 = ap (λ (o : Operation). o.ended) (operation 0) in
    let began_1 : (ended.history.operation 1).began ≡ 14 = ap (λ (o : Operation). o.began) (operation 1) in
    let began_2 : (ended.history.operation 2).began ≡ 28 = ap (λ (o : Operation). o.began) (operation 2) in
    let given : (ended.history.operation 2).given ≡ some page_b = ap (λ (o : Operation). o.given) (operation 2) in
    let page_1 : (ended.history.operation 1).page ≡ some page_b = ap (λ (o : Operation). o.page) (operation 1) in
    let bears_0 = bears 0 (version 1 0) (omega arith) version_0 in
    let bears_1 = bears 1 (version 2 1) (omega arith) version_1 in
    let bears_2 = bears 2 (version 2 1) (omega arith) version_2 in
    let before_1 : 13 < (ended.history.operation 1).began = omega (arith, began_1) in
    let before_2 : 13 < (ended.history.operation 2).began = omega (arith, began_2) in
    record {
      differ = differ;
      claim = at_end;
      claim_open = at_last;
      equal = (bears_1, bears_2, at_end.equal 1 2 (version 2 1) (version 2 1) bears_1 bears_2 refl);
      alike = λ a.
          let e = at_end.alike 0 2 (version 1 0) (version 2 1) bears_0 bears_2 a in
          absurd (omega (arith, ap (λ (v : Version). v.sequence.0) e));
      order = ((13, ended_0, before_2), at_end.order 0 2 (version 1 0) (version 2 1) bears_0 bears_2 (13, ended_0, before_2));
      strict =
          ((13, ended_0, before_1), at_end.strict 0 1 (version 1 0) (version 2 1) page_b bears_0 bears_1 (13, ended_0, before_1) page_1);
      exact = (given, at_end.exact 2 page_b bears_2.0 given);
      reads = (at_end.reads 1 refl (omega arith) (omega arith), ap (λ (x : Ending). length x.node_1) worked.ends);
      held =
          let begun_open : opened.history.begun ≡ 6 = ap (λ (x : Ending). x.asking.0) worked.ends in
          let asking : opened.history.operation 2 ≡ of_reading none none = ap (λ (x : Ending). x.asking.1) worked.ends in
          let started : 2 < opened.history.begun = omega (arith, begun_open) in
          let unended : Open opened.history 2 = (started, ap (λ (o : Operation). o.ended) asking) in
          let h = at_last.held 2 pointer_b unended (ap (λ (o : Operation). o.page) asking) (ap (λ (o : Operation). o.pointer) asking) in
          (unended, (h.0, h.1, h.2, h.3, h.4 2 refl (omega arith) (omega arith) refl, h.4 3 refl (omega arith) (omega arith) refl));
      matched = matched-here;
      few = (ap (λ (x : Ending). pieces_of 1 x.node_1) worked.ends, at_end.few 1 1 refl (omega arith) (omega arith) (omega arith));
    }
