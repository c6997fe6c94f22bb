use Prim.Native.Nat.{◌≤◌, ◌-◌}
use lib.ListN.{length}
use Rattle.sheet.specs.Rules.{with_nodes, with_tasks, sheet_rules}
use Rattle.sheet.specs.Reading.{most_bytes}
use Rattle.sheet.proofs.LoopLaws.{Running}
use Rattle.sheet.proofs.read_lines.Given as goal

abbrev pub invariant-loop-at : goal.invariant-loop-at
invariant-loop-at g l = (length l.file ≤ most_bytes) × (l.at ≤ length l.file) × (l.reader.line ≤ l.at)
    × Running (with_tasks l.tasks (with_nodes g.row.NODES sheet_rules)) l.file l.reader l.at

abbrev pub decreases-loop-at : goal.decreases-loop-at
decreases-loop-at g l = length l.file - l.at
