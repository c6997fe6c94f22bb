-- `replace_by` meets its contract: the word is ours, or the table's row.
use mathlib.Core.Path.{sym, ap, ◌∙◌}
use mathlib.Core.Bool.{Bool, ◌||◌}
use Rattle.step.proofs.StepAnswerLaws.{our_word, row_word}
use Rattle.step.proofs.replace_by.Goals as goal

pub carry_out-requires-clause-carries_some : goal.carry_out-requires-clause-carries_some
carry_out-requires-clause-carries_some c =
    let P = c.requires.planned_some in
    let ours = ap (λ (b : Bool). c.args.plan.alone || b) (sym c.is_empty.ensures) ∙ c.if-plan-is_empty.true in
    (P.0, P.2.0, P.2.1, record { stands = P.2.2; plan = P.2.3; its_word = our_word P.2.3 P.1 ours c.column.ensures c.move_word-entry.ensures })

pub returns-then-plan-is_empty : goal.returns-then-plan-is_empty
returns-then-plan-is_empty c = λ m a k K S H.
    let ours = ap (λ (b : Bool). c.args.plan.alone || b) (sym c.is_empty.ensures) ∙ c.if-plan-is_empty.true in
    c.carry_out.ensures m a k (record { stands = S; plan = H; its_word = our_word H K ours c.column.ensures c.move_word-entry.ensures })

pub carry_out-requires-2-clause-carries_some : goal.carry_out-requires-2-clause-carries_some
carry_out-requires-2-clause-carries_some c =
    let P = c.requires.planned_some in
    let theirs = ap (λ (b : Bool). c.args.plan.alone || b) (sym c.is_empty.ensures) ∙ c.if-plan-is_empty.false in
    (P.0, P.2.0, P.2.1, record { stands = P.2.2; plan = P.2.3; its_word = rw (c.from.ensures, c.column-2.ensures) (row_word P.2.3 P.1 theirs) })

pub returns : goal.returns
returns c = λ m a k K S H.
    let theirs = ap (λ (b : Bool). c.args.plan.alone || b) (sym c.is_empty.ensures) ∙ c.if-plan-is_empty.false in
    c.carry_out-2.ensures m a k (record { stands = S; plan = H; its_word = rw (c.from.ensures, c.column-2.ensures) (row_word H K theirs) })
