-- Where the closed run of a node stands, for any device. 01, "The instructions".
use Rattle.std.specs.Prelude.{List, ℕ, ◌+◌}
use Rattle.tree.specs.Tree.{Tree, size}
use Rattle.tree.specs.Context.{Frame}
use Rattle.code.specs.Need.{nodes_before}

-- "the run's first instruction from 1, and its length": one instruction for each node, in the one order of nodes
abbrev pub run_first : Tree → List Frame → ℕ
run_first h c = nodes_before h c + 1

abbrev pub run_count : Tree → List Frame → ℕ
run_count h c = size h
