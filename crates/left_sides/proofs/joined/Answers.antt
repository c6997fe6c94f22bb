-- `joined` meets its contract: A is looked for in the left operand first.
use Rattle.left_sides.proofs.MeaningLaws.{either_value}
use Rattle.left_sides.proofs.KnownLaws.{joined_left, joined_right}
use Rattle.left_sides.proofs.joined.Goals as goal

pub returns-then-x : goal.returns-then-x
returns-then-x c =
    let args = c.args in
    λ o p q s e f. joined_left o p q args.x args.y e f _ _ (c.combined-meaning.ensures o s) _ c.if-x.true
    (either_value args.x.once (λ t. either_value args.y.names (λ u. rw (u, t)) (λ u. rw (u, t))) (λ t. either_value args.y.names (λ u. rw (u, t)) (λ u. rw (u, t))))
    c.raised-level.ensures

pub returns : goal.returns
returns c =
    let args = c.args in
    λ o p q s e f. joined_right o p q args.x args.y e f _ _ (c.combined-meaning.ensures o s) c.if-x.false c.raised-level-2.ensures
