-- The code of a tree for 01's player. 01, "The instructions".
use Rattle.std.specs.Prelude.{Bool, cond, List, [], ◌∷◌, ◌++◌, ℕ, ◌+◌}
use Rattle.tree.specs.Tree.{Operator, union, difference, intersection, Tree}
use Rattle.player.specs.Instructions.{Operation, add, cut, both, Instruction, load, operate}
use Rattle.code.specs.Need.{in_order}

-- "ADD (2) target, s, t: union of registers s and t. CUT (3) target, s, t: s without t"; request 6: "the player gains BOTH (kind 4)"
abbrev pub operation : Operator → Operation
operation union = add
operation difference = cut
operation intersection = both

-- "then ADD or CUT with target r, left operand's register, right operand's": r of the first child, r+1 of the second;
-- f says whether the left child came first. Request 6: "Need, code and equivalence treat it as the others"
abbrev pub combine : ℕ → Operator → Bool → Instruction
combine r o f = operate (operation o) r (cond f r (r + 1)) (cond f (r + 1) r)

-- "Code for a node with target r: the child of larger need first, left on a tie, with target r; the other with target r+1"
unfoldable pub code : Tree → ℕ → List Instruction
code t r = in_order (λ r g. load r g ∷ []) (λ r o f x y. x ++ (y ++ (combine r o f ∷ []))) (λ r x. r + 1) r t
