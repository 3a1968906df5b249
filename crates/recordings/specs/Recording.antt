-- Rehearsal recordings: samples of 24 bits.
use Rattle.std.specs.Prelude.{List, ℕ}
use Rattle.recordings.specs.Arrange.{ArrangeEnd, planes, samples}

abbrev pub sample_width : ℕ
sample_width = 3

abbrev pub rearrange : List ℕ → List ℕ → ArrangeEnd
rearrange = planes sample_width

abbrev pub restore : List ℕ → List ℕ → ArrangeEnd
restore = samples sample_width
