-- The tree that was read is copied, its lifts are carried out in it, and what `put_held` leaves of it is left.
use mathlib.Core.Path.{sym}
use native.Mathlib.Omega.{arith}
use lib.Seq.{length-take-le}
use Rattle.moves.proofs.MoveLaws.{table_right}
use Rattle.key.proofs.AnswerLaws.{is_read, read_copied, read_marks, read_left, read_most}
use Rattle.key.proofs.answer_sheet.Goals as goal

pub slice_bounds-entries-end : goal.slice_bounds-entries-end
slice_bounds-entries-end c = (is_read c.requires.0.1).long

pub slice_bounds-copy-end : goal.slice_bounds-copy-end
slice_bounds-copy-end c = sym (length-take-le _ _ (is_read c.requires.0.1).long)

pub copy-requires : goal.copy-requires
copy-requires c =
    let read = c.args.read in
    let I = is_read c.requires.0.1 in
    omega (arith, length-take-le read.nodes read.tree I.long, I.counted, I.most, c.requires.1)

pub lift_all-done-requires : goal.lift_all-done-requires
lift_all-done-requires c =
    let copy = c.copy in
    let p = c.requires in
    let I = is_read p.0.1 in
    let s = copy.ensures.same in
    record {
      in_array = ((I.has.tree, read_copied I p.1 copy.ensures), omega (arith, s, I.counted, I.most, p.1), omega (arith, s, p.1));
      count_in_bounds = ((p.0.0.lifts, I.asks), omega (arith, I.few, p.2));
      some_table = p.3;
    }

pub slice_bounds-marks-end : goal.slice_bounds-marks-end
slice_bounds-marks-end c = (is_read c.requires.0.1).marks_long

pub slice_bounds-put_held-end : goal.slice_bounds-put_held-end
slice_bounds-put_held-end c = sym (length-take-le _ _ (is_read c.requires.0.1).marks_long)

pub put_held-requires : goal.put_held-requires
put_held-requires c =
    let copy = c.copy in
    let lift-all = c.lift_all-done in
    let p = c.requires in
    let I = is_read p.0.1 in
    let L = lift-all.ensures p.3.0 p.3.1 I.has.tree p.0.0.lifts (read_copied I p.1 copy.ensures) I.asks in
    let s = lift-all.auto.tree in
    ((_, L.holds, read_marks I (table_right p.3.1)), omega (arith, L.fits, s, copy.ensures.same, p.1), omega (arith, s, copy.ensures.same, p.1), omega (arith, read_most I L, L.wrote.same, p.2))

pub returns : goal.returns
returns c = λ m K st R.
    let I = is_read R in
    let L = c.lift_all-done.ensures m K I.has.tree st.lifts (read_copied I c.requires.1 c.copy.ensures) I.asks in
    read_left I (table_right K) L c.put_held.ensures
