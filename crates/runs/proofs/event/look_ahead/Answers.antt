use Rattle.runs.specs.Event.{Halted}
use Rattle.runs.proofs.event.look_ahead.Goals as goal

pub returns-in-Ok-None : goal.returns-in-Ok-None
returns-in-Ok-None c = Halted.vacant (rw c.in-Ok-None.field-0-is at c.in-Ok-None.ensures)

pub returns-in-Err : goal.returns-in-Err
returns-in-Err c = Halted.stopped _ c.in-Err.ensures
