use mathlib.Core.Path.{sym, ◌∙◌}
use native.Mathlib.Omega.{arith}
use Rattle.title.specs.Part.{measures, short}
use Rattle.title.proofs.memory.fits.Goals as goal

pub returns-then-not-pass : goal.returns-then-not-pass
returns-then-not-pass c = measures (sym c.pass.ensures ∙ c.if-not-pass.true)

pub returns-then-len-memory_size : goal.returns-then-len-memory_size
returns-then-len-memory_size c = short (sym c.pass.ensures ∙ c.if-not-pass.false) (omega (arith, c.memory_size.ensures))
