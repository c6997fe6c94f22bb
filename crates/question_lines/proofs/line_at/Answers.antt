-- `line_at` meets its contract, by what `tree_at` answers.
use mathlib.Core.Path.{◌∙◌}
use Rattle.question_lines.proofs.FieldLaws.{tree_given, refusal_given}
use Rattle.question_lines.proofs.line_at.Goals as goal

pub put_tree-requires : goal.put_tree-requires
put_tree-requires c =
    let g = tree_given c.tree_at.ensures c.in-Ok.is in
    (g.index, g.few, g.entries)

pub returns-in-Ok : goal.returns-in-Ok
returns-in-Ok c = c.put_tree.ensures ∙ (tree_given c.tree_at.ensures c.in-Ok.is).line

pub returns-in-Err : goal.returns-in-Err
returns-in-Err c = c.put_refusal.ensures ∙ refusal_given c.tree_at.ensures c.in-Err.is c.from.ensures
