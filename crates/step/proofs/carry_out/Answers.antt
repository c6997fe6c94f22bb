-- `carry_out` meets its contract: the word of the entry is written in place of the stretch.
use mathlib.Core.Path.{sym, ◌∙◌}
use native.Mathlib.Omega.{arith}
use Rattle.std.proofs.lemmas.Result.{err_from_is_err_and}
use Rattle.step.proofs.UnderLaws.{part_range, none_given, some_given}
use Rattle.step.proofs.StepAnswerLaws.{within, too_long, ends_within, step_done}
use Rattle.step.proofs.carry_out.Goals as goal

pub replace-requires-clause-within : goal.replace-requires-clause-within
replace-requires-clause-within c = let C = c.requires.carries_some.3 in within C.plan (part_range C.stands.part)

pub replace-requires-clause-old_within : goal.replace-requires-clause-old_within
replace-requires-clause-old_within c = part_range c.requires.carries_some.3.plan.stretch

pub returns-in_err-made : goal.returns-in_err-made
returns-in_err-made c = λ m a k C.
    let n = none_given c.replace.result _ _ (sym c.ok_or.ensures.value ∙ c.in_err-made.was) in
    let p = err_from_is_err_and c.from_residual.result c.from_residual.ensures.1 in
    rw (p.1, p.2, n.1) (too_long C.plan C.stands C.its_word c.replace.ensures n.0)

pub overflow_add-part : goal.overflow_add-part
overflow_add-part c =
    let C = c.requires.carries_some.3 in
    omega (arith, ends_within C.plan C.stands C.its_word c.replace.ensures _ (some_given c.replace.result _ _ (sym c.ok_or.ensures.value ∙ c.in_ok-made.was)))

pub returns : goal.returns
returns c = λ m a k C.
    step_done C.plan C.stands C.its_word c.replace.ensures _ (some_given c.replace.result _ _ (sym c.ok_or.ensures.value ∙ c.in_ok-made.was)) c.next_state-state.result c.next_state-state.ensures
