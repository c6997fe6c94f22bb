-- The writer is called at the root, whose part is the whole list, and the answer is that of the code that it wrote.
use Rattle.tree.proofs.ParseLaws.{tree_some}
use Rattle.coder.proofs.CodingLaws.{root_writable, code_written}
use Rattle.coder.proofs.encode.Goals as goal

pub overflow_sub-tree : goal.overflow_sub-tree
overflow_sub-tree c = tree_some _ c.in_ok-check.ensures.1

pub write_node-requires : goal.write_node-requires
write_node-requires c = rw c.new-noted.ensures (root_writable c.in_ok-check.ensures.1 c.in_ok-check.ensures.0)

pub returns : goal.returns
returns c = code_written c.in_ok-check.ensures.0 c.in_ok-check.ensures.1 (rw c.new-noted.ensures at c.write_node.ensures)
