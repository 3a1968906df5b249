-- Measures from numbers, and answers as numbers.
use Rattle.std.specs.Prelude.{List, [], ◌∷◌, ℕ, ◌+◌, ◌^◌}
use Rattle.parties.specs.declared.Measures.{Measures}
use Rattle.parties.specs.declared.Version.{Version}
use Rattle.parties.specs.protocol.Answer.{ClientAnswer, refused, waits, scan, update, stores, requests, deposited, empty, page, spent, failed, Served, refuses, serves}

abbrev pub measured : ℕ → ℕ → ℕ → ℕ → ℕ → Measures
measured m n k t f = record { m = m; n = n; k = k; t = t; f = f }

-- the bytes that are answered; or 2^32 and the papers' number of the refusal
abbrev pub code : Served → ℕ
code (serves len) = len
code (refuses n) = 2 ^ 32 + n

-- a kind, a version's sequence and client, and a number of that kind: document 01's, a length, or a bit map of nodes
abbrev pub four : ℕ → ℕ → ℕ → ℕ → List ℕ
four kind sequence client n = kind ∷ sequence ∷ client ∷ n ∷ []

abbrev pub of_version : ℕ → Version → ℕ → List ℕ
of_version kind v n = four kind v.sequence.0 v.client n

abbrev pub told : ClientAnswer → List ℕ
told (refused n) = four 0 0 0 n
told waits = four 1 0 0 0
told scan = four 2 0 0 0
told (update len) = four 3 0 0 len
told (stores v len) = of_version 4 v len
told (requests v nodes) = of_version 5 v nodes
told (deposited v len) = of_version 6 v len
told empty = four 7 0 0 0
told (page v len) = of_version 8 v len
told spent = four 9 0 0 0
told failed = four 10 0 0 0
