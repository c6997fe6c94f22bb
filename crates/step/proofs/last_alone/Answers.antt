-- `last_alone` meets its contract: both ways.
use mathlib.Core.Path.{refl}
use mathlib.Core.Logic.{inl, inr}
use Rattle.step.proofs.last_alone.Goals as goal

pub returns-then-words-eq0 : goal.returns-then-words-eq0
returns-then-words-eq0 c = inl (c.if-words-eq0.true, refl)

pub returns : goal.returns
returns c = inr (c.if-words-eq0.false, refl)
