-- The beginning of a run: fresh tables and records show a model in which nothing has happened, and every invariant holds of it.
use mathlib.Core.Path.{◌≡◌, refl, sym, ap, subst⁻¹, ◌∙◌}
use mathlib.Core.Bool.{Bool, false, false≢true}
use mathlib.Core.Logic.{inl}
use mathlib.Core.List.{[]}
use Prim.Native.Nat.{ℕ, ◌<◌}
use native.Mathlib.Omega.{arith}
use Rattle.coding.specs.Bytes.{tabulate}
use Rattle.coding.proofs.BytesLaws.{tabulate-same}
use Rattle.parties.specs.declared.Measures.{Measures}
use Rattle.parties.specs.declared.Version.{Version}
use Rattle.parties.specs.declared.ReadingIndex.{ReadingIndex}
use Rattle.parties.specs.protocol.Version.{no_version, ascending}
use Rattle.parties.specs.protocol.Pointer.{none_pointer}
use Rattle.parties.specs.protocol.Directory.{write_directory, fresh_row, fresh_directory}
use Rattle.parties.specs.protocol.Node.{hand_back}
use Rattle.parties.specs.protocol.Client.{write_client, fresh_client}
use Rattle.parties.specs.protocol.Run.{fresh}
use Rattle.parties.proofs.protocol.formats.MeasureLaws.{Passed}
use Rattle.parties.proofs.protocol.formats.RowLaws.{GoodRow, fresh_good}
use Rattle.parties.proofs.protocol.events.NodeLaws.{empty_good}
use Rattle.parties.proofs.protocol.formats.ClientLaws.{GoodClient, fresh-client}
use Rattle.parties.proofs.protocol.model.Model.{Turn, Model, rows_of}
use Rattle.parties.proofs.protocol.invariants.Invariants.{Known, KnownVersion, Lag, Keeps}
use Rattle.parties.proofs.protocol.invariants.Invariant.{Invariant}
use Rattle.parties.proofs.protocol.steps.View.{Shows, client_at, row_at, rows_at}

abbrev pub fresh_model : Measures → Model
fresh_model z =
    record {
      c =
          record {
            turn = λ w. Turn.idle;
            written = λ w. none_pointer;
            frozen = λ w q. none_pointer;
            reserved = λ w q. no_version;
            indices = λ w q. 0;
            reading = λ w. 0;
          };
      d = record { frozen = λ w q. none_pointer; indices = λ w q. 0 };
      n = record { held = λ i. []; to_node = λ w i. []; to_client = λ i w. [] };
      p = record { drawn = λ v. false; pages = λ v. []; deposits = λ v. 0; pointers = λ v. none_pointer; shown = λ o w. 0 };
      h = (fresh z).history;
    }

-- ---- its bytes

client_is : (z : Measures) (c : ℕ) → client_at z (fresh_model z).c c ≡ fresh_client z
client_is z c i =
    record {
      phase = (fresh_client z).phase;
      reading_index = (fresh_client z).reading_index;
      written = none_pointer;
      frozen = tabulate-same z.m none_pointer i;
      reserved = tabulate-same z.m no_version i;
      frozen_indices = tabulate-same {A = ReadingIndex} z.m (record { 0 = 0 }) i;
    }

row_is : (z : Measures) (w : ℕ) → row_at z (rows_of (fresh_model z)) w ≡ fresh_row z
row_is z w i =
    record {
      written = none_pointer;
      frozen = tabulate-same z.m none_pointer i;
      frozen_indices = tabulate-same {A = ReadingIndex} z.m (record { 0 = 0 }) i;
      reading_index = record { 0 = 0 };
    }

rows_are : (z : Measures) → rows_at z (rows_of (fresh_model z)) ≡ fresh_directory z
rows_are z = ap (tabulate z.m) (λ i w. row_is z w i) ∙ tabulate-same z.m (fresh_row z)

pub fresh-shows : (z : Measures) (honest : ℕ → Bool) → Shows z honest (fresh z) (fresh_model z)
fresh-shows z honest =
    record {
      directory = record { bytes = ap (write_directory z) (sym (rows_are z)); good = λ w l. subst⁻¹ (GoodRow z) (row_is z w) (fresh_good z) };
      client = λ c l.
          record {
            bytes = ap (write_client z) (sym (client_is z c));
            good = subst⁻¹ (GoodClient z) (client_is z c) (fresh-client z);
            calls = refl;
            returns = refl;
            turn = tt;
          };
      table = λ i a lo up. record { bytes = refl; good = empty_good z };
      to_node = λ c i l a lo up. record { bytes = refl; good = tt };
      to_client = λ i c a lo up l. record { bytes = refl; good = tt };
      strangers = λ c i l. refl;
      liars = λ i c a. refl;
      history = refl;
    }

-- ---- its invariants

-- a client below m keeps nothing: every version of it is none, and of no client
keeps-none : (z : Measures) → Passed z → (w : ℕ) → w < z.m → (u : Version) → u.client ≡ w → Keeps z (fresh_model z).c w u → ⊥
keeps-none z ok w l u e k = omega (arith, ok.clients.1, ap (λ (v : Version). v.client) (is_none k))
  where
    is_none : Keeps z (fresh_model z).c w u → no_version ≡ u
    is_none (Keeps.current h) = absurd h
    is_none (Keeps.written h) = h
    is_none (Keeps.frozen q i h) = h
    is_none (Keeps.reserved q i h) = h

pub fresh_invariant : (z : Measures) (honest : ℕ → Bool) → Passed z → Invariant z honest (fresh_model z)
unfolding hand_back ascending
fresh_invariant z honest ok =
    record {
      owned =
          record {
            own = λ w l. tt;
            written = λ w l. Known.absent refl;
            frozen = λ w q l. (Known.absent refl, omega arith);
            reserved = λ w q l. (KnownVersion.absent refl, omega arith);
            shown = λ w q l. (Known.absent refl, omega arith);
            self = λ w l. (refl, refl);
          };
      drawing = λ v d. absurd (false≢true d);
      lagging = record { lag = λ w q l. Lag.level refl refl; index = λ w q l k. omega arith; seen = λ w l. tt };
      retaining = λ c l. tt;
      stocking =
          record {
            order = λ i. refl;
            stocked = λ i a lo up. tt;
            sound = λ w i a lo up l. tt;
            plays = λ w i a lo up l. (λ u e h. absurd (false≢true h), λ u e k. absurd (keeps-none z ok w l u e k));
          };
      arriving =
          record {
            once = λ w i a lo up l. tt;
            messages = λ i c a lo up l. tt;
            acked = λ c l. tt;
            named = λ v i a lo up l d. absurd (false≢true d);
          };
      fetching = λ c l. tt;
      recording =
          record {
            doing = λ c l. tt;
            busy = λ o l. absurd (omega arith);
            deposited = λ v d. absurd (false≢true d);
            draws = λ o bytes v l. absurd (omega arith);
            reads = λ o v l. absurd (omega arith);
            pointer = λ o x l. absurd (omega arith);
            gives = λ o b l. absurd (omega arith);
          };
      putting =
          record {
            rightly = λ x. elim [ ];
            written = λ w l. inl refl;
            frozen = λ w q l. inl refl;
            shown = λ w q l. inl refl;
            turns = λ c l. tt;
          };
      ordering =
          record {
            begins = λ o l. omega arith;
            ends = λ o t l. absurd (omega arith);
            since = λ c l. tt;
            grows = λ o w l k. omega arith;
            ended = λ o v t l. absurd (omega arith);
            reads = λ o v l. absurd (omega arith);
            before = λ e o v t l. absurd (omega arith);
            read = λ o v l. absurd (omega arith);
            drew = λ o v bytes l. absurd (omega arith);
          };
    }
