-- `lift_one`: what `lift` did or why it refused, and that its line has room.
use mathlib.Core.Path.{◌≡◌, sym, ◌∙◌}
use native.Mathlib.Omega.{arith}
use lib.ListN.{take, replicate}
use lib.Seq.{length-take-le}
use Rattle.tree.specs.Tree.{Tree}
use Rattle.moves.specs.Moves.{MoveTable}
use Rattle.moves.specs.InnerEntries.{TableIs}
use Rattle.moves.proofs.MoveLaws.{table_right}
use Rattle.lift.specs.Answer.{refusal_number}
use Rattle.lift_lines.specs.Inner.{IsList}
use Rattle.common.proofs.ListLaws.{zeros_length}
use Rattle.lift_lines.proofs.LiftOneLaws.{DoneLift, RefusedLift, lift_line_room, done_lift, refused_lift, lifted_one_done, lifted_one_refused}
use Rattle.lift_lines.proofs.lift_one.Goals as goal
use Rattle.lift_lines.proofs.lift_one.Goals.{In-Ok, In-Err}

-- what `lift` did, for any tree t that the entries are
did : (a : In-Ok) (m : MoveTable) → TableIs m a.args.table.signs.now a.args.table.lengths.now → (t : Tree) → IsList (take a.args.nodes a.args.tree.now) t
    → DoneLift m t (record { position = a.args.position; levels = a.args.levels }) a.in-Ok.lifted.nodes a.in-Ok.lifted.position a.in-Ok.lifted.looks a.lift_by.new.out
did a m K t w =
    done_lift m (table_right K) (take a.args.nodes a.args.tree.now) (replicate 8191 0) a.lift_by.new.out t _ w (zeros_length 8191) a.requires.lift_room.0.few a.in-Ok.lifted (a.in-Ok.ensures m K)

-- and for the one that `requires` has
abbrev Here : In-Ok → Type 0
Here a = DoneLift a.requires.lift_room.1.0 a.requires.in_array.0.0 (record { position = a.args.position; levels = a.args.levels }) a.in-Ok.lifted.nodes a.in-Ok.lifted.position a.in-Ok.lifted.looks a.lift_by.new.out

here : (a : In-Ok) → Here a
here a = let pre = a.requires in did a pre.lift_room.1.0 pre.lift_room.1.1 pre.in_array.0.0 pre.in_array.0.1

-- the same where it was refused
refusal : (a : In-Err) (m : MoveTable) → TableIs m a.args.table.signs.now a.args.table.lengths.now → (t : Tree) → IsList (take a.args.nodes a.args.tree.now) t
    → RefusedLift m t (record { position = a.args.position; levels = a.args.levels }) (refusal_number a.in-Err.refusal)
refusal a m K t w =
    refused_lift m (table_right K) (take a.args.nodes a.args.tree.now) (replicate 8191 0) a.lift_by.new.out t _ w (zeros_length 8191) a.requires.lift_room.0.few a.in-Err.refusal (a.in-Err.ensures m K)

pub slice_bounds-new-end : goal.slice_bounds-new-end
slice_bounds-new-end c = (here (goal.at.slice_bounds-new-end c).In-Ok).long

pub slice_bounds-copy-end : goal.slice_bounds-copy-end
slice_bounds-copy-end c = sym (length-take-le _ _ (here (goal.at.slice_bounds-copy-end c).In-Ok).long)

pub put_line-next-requires : goal.put_line-next-requires
put_line-next-requires c =
    let d = here (goal.at.put_line-next-requires c).In-Ok in
    lift_line_room _ _ _ _ _ (omega arith) d.place_small d.looks_small c.requires.lift_room.0.room

pub put_line-next-requires-in-Err : goal.put_line-next-requires-in-Err
put_line-next-requires-in-Err c =
    let pre = c.requires in
    let r = refusal (goal.at.put_line-next-requires-in-Err c).In-Err pre.lift_room.1.0 pre.lift_room.1.1 pre.in_array.0.0 pre.in_array.0.1 in
    lift_line_room _ _ _ _ _ (omega (arith, r.small, c.from.ensures, c.from-number.ensures)) (omega (arith, pre.lift_room.0.near, pre.lift_room.0.few)) (omega arith) pre.lift_room.0.room

pub returns-in-Ok : goal.returns-in-Ok
returns-in-Ok c = λ m K t w. lifted_one_done (did (goal.at.returns-in-Ok c).In-Ok m K t w) c.requires.in_array.2 c.copy.ensures c.put_line-next.ensures

pub returns-in-Err : goal.returns-in-Err
returns-in-Err c = λ m K t w.
    let pre = c.requires in
    let number : c.from.result ≡ refusal_number c.in-Err.refusal = c.from.ensures ∙ c.from-number.ensures in
    lifted_one_refused (refusal (goal.at.returns-in-Err c).In-Err m K t w) w pre.in_array.1 pre.lift_room.0.near (rw number at c.put_line-next-in-Err.ensures)
