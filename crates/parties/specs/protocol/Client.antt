-- A client's record: what it keeps between operations, and what an open operation needs.
use Rattle.std.specs.Prelude.{Bool, cond, not, ◌&&◌, ◌||◌, List, [], ◌++◌, map, ℕ, ◌+◌, ◌-◌, ◌*◌, ◌^◌, leb, ltb, eqb, length, replicate}
use Rattle.parties.specs.declared.Measures.{Measures}
use Rattle.parties.specs.declared.ReadingIndex.{ReadingIndex}
use Rattle.parties.specs.declared.Version.{Version}
use Rattle.parties.specs.protocol.Format.{Reader, both, given, mapped, read_nothing, read_number, write_number, read_bytes, read_many, write_many, read_each, read_area, write_area, read_none}
use Rattle.parties.specs.protocol.Measures.{pointer_size}
use Rattle.parties.specs.protocol.Version.{no_version, is_no_version}
use Rattle.parties.specs.protocol.Nodes.{count}
use Rattle.parties.specs.protocol.Pointer.{Pointer, none_pointer, is_none, read_pointer, write_pointer, read_version, write_version}
use Rattle.parties.specs.protocol.Directory.{read_index, write_index}
use Rattle.parties.specs.protocol.Message.{proper_version}

-- where a client's operation stands; each names what it waits for
pub data Phase : Type 0 where
  idle : Phase
  -- a deposit's first scan; the page is kept until it is cut
  scanning : List ℕ → Phase
  -- acknowledgements of a version's stores: nodes that acknowledged it, digests of its n pieces
  storing : Version → ℕ → List (List ℕ) → Phase
  -- a deposit's update, then its second scan; with the new pointer
  updating : Pointer → Phase
  freezing : Pointer → Phase
  -- a reading's update, then its scan
  raising : Phase
  picking : Phase
  -- replies: the picked pointer, the nodes whose reply is counted, those whose piece matches, and the n nodes' matching pieces
  fetching : Pointer → ℕ → ℕ → List (List ℕ) → Phase

-- The source's writeptr is `written` until a deposit ends: the new pointer stands in the phase, and `written` is then the source's prevptr.
-- Of the source's reservedptrlist only the versions are ever used.
pub record Client : Type 0 where
  pub phase : Phase
  pub reading_index : ReadingIndex
  pub written : Pointer
  pub frozen : List Pointer
  pub reserved : List Version
  pub frozen_indices : List ReadingIndex

-- the byte that stands for each in the record
abbrev pub idle_step : ℕ
idle_step = 0

abbrev pub scanning_step : ℕ
scanning_step = 1

abbrev pub storing_step : ℕ
storing_step = 2

abbrev pub updating_step : ℕ
updating_step = 3

abbrev pub freezing_step : ℕ
freezing_step = 4

abbrev pub raising_step : ℕ
raising_step = 5

abbrev pub picking_step : ℕ
picking_step = 6

abbrev pub fetching_step : ℕ
fetching_step = 7

abbrev pub step : Phase → ℕ
step idle = idle_step
step (scanning page) = scanning_step
step (storing v acknowledged digests) = storing_step
step (updating p) = updating_step
step (freezing p) = freezing_step
step raising = raising_step
step picking = picking_step
step (fetching p counted matching pieces) = fetching_step

-- a page with its length in 4 bytes
unfoldable pub read_page : Measures → Reader (List ℕ)
read_page s = given (λ page. leb (length page) (s.k * s.f - 4)) (both (read_number 4) (λ n. read_bytes n) (λ n page. page))

unfoldable pub write_page : List ℕ → List ℕ
write_page page = write_number 4 (length page) ++ page

-- a pointer other than none
unfoldable pub read_some : Measures → Reader Pointer
read_some s = given (λ p. not (is_none p)) (read_pointer s)

-- what a deposit keeps of a version that it stores: fewer than t + k nodes have acknowledged it
pub record Stores : Type 0 where
  pub version : Version
  pub acknowledged : ℕ
  pub digests : List (List ℕ)

unfoldable pub read_stores : Measures → Reader Stores
read_stores s =
    given (λ x. proper_version s x.version && (ltb x.acknowledged (2 ^ s.n) && ltb (count x.acknowledged) (s.t + s.k)))
    (both read_version (λ v. both (read_number 2) (λ a. read_many (read_bytes 32) s.n) (λ a l. (a, l)))
    (λ v (x : ℕ × List (List ℕ)). record { version = v; acknowledged = x.0; digests = x.1 }))

unfoldable pub write_stores : Stores → List ℕ
write_stores x = write_version x.version ++ (write_number 2 x.acknowledged ++ write_many (λ d. d) x.digests)

-- n pieces: their lengths in 2 bytes each, then n areas of F bytes
unfoldable pub read_pieces : Measures → Reader (List (List ℕ))
read_pieces s = both (read_many (read_number 2) s.n) (λ ls. read_each (λ l. read_area s.f (read_bytes l) (λ p. p)) ls) (λ ls ps. ps)

abbrev pub lengths : List (List ℕ) → List ℕ
lengths ps = map length ps

-- the areas as joining takes them
abbrev pub areas : Measures → List (List ℕ) → List ℕ
areas s = write_many (write_area s.f (λ p. p))

unfoldable pub write_pieces : Measures → List (List ℕ) → List ℕ
write_pieces s ps = write_many (write_number 2) (lengths ps) ++ areas s ps

-- what a reading keeps: fewer than k pieces match
pub record Fetches : Type 0 where
  pub pointer : Pointer
  pub counted : ℕ
  pub matching : ℕ
  pub pieces : List (List ℕ)

unfoldable pub read_fetches : Measures → Reader Fetches
read_fetches s =
    given (λ x. ltb x.matching (2 ^ s.n) && ltb (count x.matching) s.k)
    (both (read_some s) (λ p. both (read_number 2) (λ c. both (read_number 2) (λ m. read_pieces s) (λ m l. (m, l))) (λ c (x : ℕ × List (List ℕ)). (c, x)))
    (λ p (x : ℕ × (ℕ × List (List ℕ))). record { pointer = p; counted = x.0; matching = x.1.0; pieces = x.1.1 }))

unfoldable pub write_fetches : Measures → Fetches → List ℕ
write_fetches s x = write_pointer x.pointer ++ (write_number 2 x.counted ++ (write_number 2 x.matching ++ write_pieces s x.pieces))

-- the work area of a phase, by its step
unfoldable pub read_work : Measures → ℕ → Reader Phase
read_work s n =
    cond (eqb n idle_step) (mapped (λ u. idle) read_nothing)
    (cond (eqb n scanning_step) (mapped scanning (read_page s))
    (cond (eqb n storing_step) (mapped (λ x. storing x.version x.acknowledged x.digests) (read_stores s))
    (cond (eqb n updating_step) (mapped updating (read_some s))
    (cond (eqb n freezing_step) (mapped freezing (read_some s))
    (cond (eqb n raising_step) (mapped (λ u. raising) read_nothing)
    (cond (eqb n picking_step) (mapped (λ u. picking) read_nothing)
    (cond (eqb n fetching_step) (mapped (λ x. fetching x.pointer x.counted x.matching x.pieces) (read_fetches s)) read_none)))))))

unfoldable pub write_work : Measures → Phase → List ℕ
write_work s idle = []
write_work s (scanning page) = write_page page
write_work s (storing v a ds) = write_stores (record { version = v; acknowledged = a; digests = ds })
write_work s (updating p) = write_pointer p
write_work s (freezing p) = write_pointer p
write_work s raising = []
write_work s picking = []
write_work s (fetching p c m ps) = write_fetches s (record { pointer = p; counted = c; matching = m; pieces = ps })

-- room for each phase's work: the page, the digests with their version and map, or the pointer with its maps and pieces
abbrev pub work_size : Measures → ℕ
work_size s = pointer_size s + 4 + s.n * (34 + s.f)

-- a reserved version is none, or has sequence at least 1 and client below m
abbrev pub proper_reserved : Measures → Version → Bool
proper_reserved s v = is_no_version v || proper_version s v

unfoldable pub read_reserved : Measures → Reader Version
read_reserved s = given (proper_reserved s) read_version

-- what is kept between operations
pub record Retained : Type 0 where
  pub written : Pointer
  pub frozen : List Pointer
  pub reserved : List Version
  pub frozen_indices : List ReadingIndex

abbrev pub pointer_area : Measures → Reader Pointer
pointer_area s = read_area (pointer_size s) (read_pointer s) write_pointer

unfoldable pub read_retained : Measures → Reader Retained
read_retained s =
    both (pointer_area s)
    (λ w. both (read_many (pointer_area s) s.m)
    (λ f. both (read_many (read_reserved s) s.m) (λ r. read_many read_index s.m) (λ r i. (r, i)))
    (λ f (x : List Version × List ReadingIndex). (f, x)))
    (λ w (x : List Pointer × (List Version × List ReadingIndex)). record { written = w; frozen = x.0; reserved = x.1.0; frozen_indices = x.1.1 })

unfoldable pub write_retained : Measures → Retained → List ℕ
write_retained s x =
    write_area (pointer_size s) write_pointer x.written
    ++ (write_many (write_area (pointer_size s) write_pointer) x.frozen
    ++ (write_many write_version x.reserved ++ write_many write_index x.frozen_indices))

abbrev pub retained : Client → Retained
retained c = record { written = c.written; frozen = c.frozen; reserved = c.reserved; frozen_indices = c.frozen_indices }

abbrev pub client_of : ReadingIndex → Retained → Phase → Client
client_of i x p =
    record { phase = p; reading_index = i; written = x.written; frozen = x.frozen; reserved = x.reserved; frozen_indices = x.frozen_indices }

-- a client's record: step (1 byte), reading index (4), what is retained, and the work area; spare bytes zero
unfoldable pub read_client : Measures → Reader Client
read_client s =
    both (read_number 1)
    (λ n. both read_index
    (λ i. both (read_retained s) (λ x. read_area (work_size s) (read_work s n) (write_work s)) (λ x p. (x, p)))
    (λ i (y : Retained × Phase). (i, y)))
    (λ n (y : ReadingIndex × (Retained × Phase)). client_of y.0 y.1.0 y.1.1)

unfoldable pub write_client : Measures → Client → List ℕ
write_client s c =
    write_number 1 (step c.phase)
    ++ (write_index c.reading_index ++ (write_retained s (retained c) ++ write_area (work_size s) (write_work s) c.phase))

-- the bytes of a client's record
abbrev pub client_size : Measures → ℕ
client_size s = 5 + ((s.m + 1) * pointer_size s + 9 * s.m + work_size s)

-- a fresh record is idle, its pointers none, its indices 0
abbrev pub fresh_client : Measures → Client
fresh_client s =
    record {
      phase = idle;
      reading_index = record { 0 = 0 };
      written = none_pointer;
      frozen = replicate s.m none_pointer;
      reserved = replicate s.m no_version;
      frozen_indices = replicate s.m (record { 0 = 0 });
    }
