-- `lift_part` meets its contract: the first buffer begins with the list, so the node stands in it.
use mathlib.Core.Path.{◌≡◌}
use mathlib.Core.List.{List}
use Prim.Native.Nat.{ℕ}
use native.Mathlib.Omega.{arith}
use Rattle.tree.specs.Tree.{Tree}
use Rattle.tree.specs.Context.{Frame}
use Rattle.tree.specs.InnerPart.{Part}
use Rattle.tree.proofs.PartLaws.{part_length}
use Rattle.lift.proofs.WholeLaws.{stands_first}
use Rattle.lift.proofs.lift_part.Goals as goal

-- the part, from the start that was found
from_start : (list : List ℕ) (found from to : ℕ) (a : Tree) (k : List Frame) → found ≡ from → Part list from to a k → Part list found to a k
from_start list found from to a k e P = rw e P

pub part_start-from-requires : goal.part_start-from-requires
part_start-from-requires c = omega (arith, part_length c.requires.ends.3)

pub run-requires-clause-stands : goal.run-requires-clause-stands
run-requires-clause-stands c =
    let L = c.requires.ends in
    let Q = from_start c.args.list.now c.part_start-from.result L.0 c.args.to L.1 L.2 (c.part_start-from.ensures L.0 L.1 L.2 L.3) L.3 in
    (_, _, stands_first c.copy.ensures c.requires.list_len_bound.0 Q (c.first_state-state.ensures L.1 L.2 Q))

pub returns : goal.returns
returns c =
    λ m K. record {
      lifts = λ from a k P.
          let Q = from_start c.args.list.now c.part_start-from.result from c.args.to a k (c.part_start-from.ensures from a k P) P in
          (c.run.ensures m K).lifts a k (stands_first c.copy.ensures c.requires.list_len_bound.0 Q (c.first_state-state.ensures a k Q));
    }
