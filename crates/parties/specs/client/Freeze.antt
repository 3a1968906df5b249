-- A deposit's second scan, with the clients whose readings it notices in a bit map: bit q for client q.
use Rattle.std.specs.Prelude.{◌≡◌, cond, List, [], ◌∷◌, ◌++◌, ℕ, zero, suc, ◌+◌, ◌<◌, get_or}
use Rattle.coding.specs.Bytes.{tabulate}
use Rattle.parties.specs.declared.Measures.{Measures}
use Rattle.parties.specs.declared.Version.{Version}
use Rattle.parties.specs.protocol.Version.{no_version}
use Rattle.parties.specs.protocol.Nodes.{stands}
use Rattle.parties.specs.protocol.Pointer.{Pointer, none_pointer}
use Rattle.parties.specs.protocol.Directory.{Row, no_row, read_directory}
use Rattle.parties.specs.protocol.Client.{Phase as Work, Retained, client_of, read_client}
use Rattle.parties.specs.protocol.ClientEvents.{ClientEnd, on_client, freeze}
use Rattle.parties.specs.protocol.Deposit.{noticed, free_list}
use Rattle.parties.specs.client.Draw.{rows_of}

-- the clients of a bit map are those whose reading is noticed
abbrev pub Notices : Measures → ℕ → Retained → List Row → ℕ → Type 0
Notices s own x rows map = (q : ℕ) → q < s.m → stands map (q + 1) ≡ noticed own (client_of (record { 0 = 0 }) x Work.idle) rows q

-- what is frozen and reserved for client q after it, where v is the new version
abbrev pub frozen_now : ℕ → Retained → Version → ℕ → Version
frozen_now map x v q = cond (stands map (q + 1)) v (get_or x.frozen q none_pointer).version

abbrev pub reserved_now : ℕ → Retained → ℕ → Version
reserved_now map x q = cond (stands map (q + 1)) x.written.version (get_or x.reserved q no_version)

-- what is retained after it: with the new pointer, and the indices that the rows show
unfoldable pub retained_after : Measures → ℕ → Retained → List Row → Pointer → Retained
retained_after s map x rows p =
    record {
      written = p;
      frozen = tabulate s.m (λ q. cond (stands map (q + 1)) p (get_or x.frozen q none_pointer));
      reserved = tabulate s.m (reserved_now map x);
      frozen_indices = tabulate s.m (λ q. cond (stands map (q + 1)) (get_or rows q no_row).reading_index (get_or x.frozen_indices q (record { 0 = 0 })));
    }

-- the versions that are still frozen or reserved
unfoldable pub kept_versions : Measures → ℕ → Retained → Version → List Version
kept_versions s map x v = tabulate s.m (frozen_now map x v) ++ tabulate s.m (reserved_now map x)

-- the previous version, and the old frozen and reserved versions of the first n clients that are noticed
unfoldable pub replaced_by : ℕ → Retained → ℕ → List Version
replaced_by map x zero = x.written.version ∷ []
replaced_by map x (suc q) =
    cond (stands map (q + 1)) ((get_or x.frozen q none_pointer).version ∷ get_or x.reserved q no_version ∷ replaced_by map x q) (replaced_by map x q)

abbrev pub freed_by : Measures → ℕ → Retained → Version → List Version
freed_by s map x v = free_list (kept_versions s map x v) (replaced_by map x s.m)

-- the new pointer of a deposit's second scan
abbrev pub new_pointer : Work → Pointer
new_pointer Work.idle = none_pointer
new_pointer (Work.scanning bytes) = none_pointer
new_pointer (Work.storing v a ds) = none_pointer
new_pointer (Work.updating p) = p
new_pointer (Work.freezing p) = p
new_pointer Work.raising = none_pointer
new_pointer Work.picking = none_pointer
new_pointer (Work.fetching p c m ps) = none_pointer

-- what the second scan does to a client's record and room
unfoldable pub freeze_end : Measures → ℕ → List ℕ → List ℕ → List ℕ → ClientEnd
freeze_end s own client rows room =
    on_client s client room [] (read_client s client) (λ c. freeze s own c room (rows_of (read_directory s rows)) (new_pointer c.phase))
