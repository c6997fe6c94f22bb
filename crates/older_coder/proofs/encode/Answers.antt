-- The writer is called at the root, whose part is the whole list, and SHOW stands behind what it wrote.
use Rattle.tree.proofs.ParseLaws.{tree_some}
use Rattle.older_coder.proofs.WriterLaws.{root_writable, show_room, code_written}
use Rattle.older_coder.proofs.encode.Goals as goal

pub overflow_sub-tree : goal.overflow_sub-tree
overflow_sub-tree c = tree_some _ c.in_ok-check.ensures.1

pub write_node-register-requires : goal.write_node-register-requires
write_node-register-requires c = rw c.new-noted.ensures (root_writable c.in_ok-check.ensures.1 c.in_ok-check.ensures.0)

pub put-requires : goal.put-requires
put-requires c = show_room c.in_ok-check.ensures.1 c.in_ok-check.ensures.0 (rw c.new-noted.ensures at c.write_node-register.ensures)

pub returns : goal.returns
returns c = code_written c.in_ok-check.ensures.1 c.in_ok-check.ensures.0 (rw c.new-noted.ensures at c.write_node-register.ensures) c.put.ensures
