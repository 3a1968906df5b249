use Rattle.recordings.proofs.arrange.first_samples.Goals as goal

pub returns-then-recording-eq-TRIPLE : goal.returns-then-recording-eq-TRIPLE
returns-then-recording-eq-TRIPLE c = rw c.if-recording-eq-TRIPLE.true c.write_triples.ensures
