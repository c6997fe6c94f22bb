-- The measure is the node's entry: a child's is lower.
use Rattle.older_coder.proofs.+write_node.Given as goal

abbrev pub decreases-write_node : goal.decreases-write_node
decreases-write_node l = l.end
