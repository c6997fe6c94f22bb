-- There are no lines of no entries.
use mathlib.Core.Path.{sym}
use lib.Seq.{length-take-le}
use Rattle.tree.proofs.WritingLaws.{wrote_as, wrote_nothing}
use Rattle.key.proofs.FinishLaws.{no_lines}
use Rattle.key.proofs.finish.Goals as goal

pub returns-then-nodes-eq0 : goal.returns-then-nodes-eq0
returns-then-nodes-eq0 c = let a = c.args in wrote_as (wrote_nothing _ _) (sym (no_lines a.device a.tree.now a.left.nodes c.if-nodes-eq0.true))

pub slice_bounds-put_tree_code-end : goal.slice_bounds-put_tree_code-end
slice_bounds-put_tree_code-end c = sym (length-take-le _ _ c.requires.0)
