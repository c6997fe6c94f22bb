use borrow.Author.Tests.{ne_eqb}
use Rattle.tree.proofs.WritingLaws.{wrote_then}
use Rattle.builder.proofs.write_joined.Goals as goal

pub returns-then-from-at : goal.returns-then-from-at
returns-then-from-at c = rw (ne_eqb _ _ c.if-from-at.true) (wrote_then c.copy-next.ensures c.write_one.ensures)
