-- Byte planes: document 02 (l). N samples of w bytes lie one after the other; their planes are all first bytes, then all second, and so on.
use Rattle.std.specs.Prelude.{List, ℕ, ◌+◌, ◌*◌, ◌/◌, ◌%◌, length, get_or}
use Rattle.coding.specs.Bytes.{tabulate}

-- where byte p of sample s stands among the samples, and among the planes
abbrev pub among_samples : ℕ → ℕ → ℕ → ℕ
among_samples w s p = s * w + p

abbrev pub among_planes : ℕ → ℕ → ℕ → ℕ
among_planes N s p = p * N + s

-- the place among the samples of what stands at place i among the planes, and back
abbrev pub to_samples : ℕ → ℕ → ℕ → ℕ
to_samples w N i = among_samples w (i % N) (i / N)

abbrev pub to_planes : ℕ → ℕ → ℕ → ℕ
to_planes w N i = among_planes N (i / w) (i % w)

-- the planes of samples, and the samples of planes
unfoldable pub planes_of : ℕ → List ℕ → List ℕ
planes_of w d = tabulate (length d) (λ i. get_or d (to_samples w (length d / w) i) 0)

unfoldable pub samples_of : ℕ → List ℕ → List ℕ
samples_of w d = tabulate (length d) (λ i. get_or d (to_planes w (length d / w) i) 0)
