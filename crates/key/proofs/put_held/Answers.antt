-- Without marks the tree stays; `gather` answers that it cannot be, or the gathered tree, which is copied.
use mathlib.Core.Path.{◌≡◌, sym, ◌∙◌}
use mathlib.Core.Bool.{Bool, false}
use mathlib.Core.List.{List, [], ◌∷◌}
use Prim.Native.Nat.{ℕ, ◌≤◌}
use native.Mathlib.Omega.{arith}
use borrow.Author.Tests.{eqb-true, eqb-false}
use lib.Dec.{eqb}
use lib.ListN.{length, take, replicate}
use lib.Seq.{length-take-le}
use Rattle.tree.specs.Tree.{Tree}
use Rattle.tree.specs.Parse.{tree_of}
use Rattle.coder.specs.Coding.{run_of}
use Rattle.coder.specs.declared.Run.{Run}
use Rattle.text.specs.Line.{line}
use Rattle.printing.specs.Key.{HELD}
use Rattle.lift_lines.specs.Inner.{IsList}
use Rattle.key.specs.Inner.{held_bytes, Markable}
use Rattle.printing.proofs.PrintingLaws.{never_most}
use Rattle.common.proofs.ListLaws.{zeros_length}
use Rattle.key.proofs.FinishLaws.{NamedTo, copied, empty_list, gathered_never, gathered_done, gathered_list, gathered_long, run_line, plain_left, never_left, held_left}
use Rattle.key.proofs.put_held.Goals as goal
use Rattle.key.proofs.put_held.Goals.{In-Ok}

some_mark : (marks : List ℕ) (empty : Bool) → empty ≡ eqb (length marks) 0 → empty ≡ false → 1 ≤ length marks
some_mark marks empty e f = let n : length marks ≡ 0 → ⊥ = eqb-false (length marks) 0 (sym e ∙ f) in omega arith

-- what `gather` did, for any tree u that the list is, and for the one that `requires` has
done : (a : In-Ok) (u : Tree) → IsList (take a.args.nodes a.args.tree.now) u → Markable u a.args.marks.now
    → NamedTo u a.args.marks.now (replicate 8191 0) a.gather.new.out a.in-Ok.done.nodes a.in-Ok.done.holder
done a u w m =
    gathered_done u w m (some_mark _ _ a.is_empty.ensures a.if-is_empty.false) (zeros_length 8191) (a.gather.ensures.gathers, a.gather.ensures.by) a.in-Ok.done a.in-Ok.is

abbrev Done : In-Ok → Type 0
Done a = NamedTo a.requires.0.0 a.args.marks.now (replicate 8191 0) a.gather.new.out a.in-Ok.done.nodes a.in-Ok.done.holder

done-here : (a : In-Ok) → Done a
done-here a = let pre = a.requires in done a pre.0.0 pre.0.1 pre.0.2

-- the HELD line has room
line-here : (a : In-Ok) (run : Run) → run ≡ run_of (tree_of (take a.in-Ok.done.nodes a.gather.new.out)) a.in-Ok.done.holder → length (line HELD (0 ∷ run.first ∷ run.count ∷ [])) ≤ held_bytes
line-here a run e = let D = (done-here a).to in run_line D.result _ _ D.gathered D.most _ (gathered_list D).list run e

pub returns-then-is_empty : goal.returns-then-is_empty
returns-then-is_empty c =
    let pre = c.requires in
    record { inside = pre.1; most = omega arith; holds = λ d u w m. plain_left (empty_list _ (eqb-true _ _ (sym c.is_empty.ensures ∙ c.if-is_empty.true))) d w }

pub put_line-next-requires : goal.put_line-next-requires
put_line-next-requires c =
    let pre = c.requires in
    let never = gathered_never pre.0.0 pre.0.1 pre.0.2 (some_mark _ _ c.is_empty.ensures c.if-is_empty.false) (zeros_length 8191) (c.gather.ensures.gathers, c.gather.ensures.by) c.in-Err.refusal c.in-Err.is in
    rw (c.from.ensures, never.0) (omega (arith, never_most, pre.3))

pub returns-in-Err : goal.returns-in-Err
returns-in-Err c =
    let pre = c.requires in
    let k = some_mark _ _ c.is_empty.ensures c.if-is_empty.false in
    let w = c.put_line-next.ensures in
    let never = λ (u : Tree) (l : IsList (take c.args.nodes c.args.tree.now) u) (m : Markable u c.args.marks.now). gathered_never u l m k (zeros_length 8191) (c.gather.ensures.gathers, c.gather.ensures.by) c.in-Err.refusal c.in-Err.is in
    let wrote = rw (c.from.ensures, (never pre.0.0 pre.0.1 pre.0.2).0) at w in
    record {
      inside = omega arith;
      most = omega (arith, wrote.ends, never_most);
      holds = λ d u l m. let n = never u l m in never_left _ k (n.1, n.2) wrote d;
    }

pub slice_bounds-gathered-end : goal.slice_bounds-gathered-end
slice_bounds-gathered-end c = gathered_long (done-here c).to

pub slice_bounds-list-end : goal.slice_bounds-list-end
slice_bounds-list-end c = sym (length-take-le _ _ (gathered_long (done-here (goal.at.slice_bounds-list-end c).In-Ok).to))

pub put_line-next-requires-in-Ok : goal.put_line-next-requires-in-Ok
put_line-next-requires-in-Ok c = omega (arith, line-here (goal.at.put_line-next-requires-in-Ok c).In-Ok c.run_of-run.result c.run_of-run.ensures, c.requires.3)

pub copy-requires : goal.copy-requires
copy-requires c =
    let D = (done-here (goal.at.copy-requires c).In-Ok).to in
    omega (arith, length-take-le c.in-Ok.done.nodes c.gather.new.out (gathered_long D), D.counted, D.most, c.requires.2)

pub returns-in-Ok : goal.returns-in-Ok
returns-in-Ok c =
    let a = (goal.at.returns-in-Ok c).In-Ok in
    let D = (done-here a).to in
    let line = c.put_line-next-in-Ok.ensures in
    let run_of = c.run_of-run in
    record {
      inside = omega (arith, D.counted, D.most, c.requires.2, c.copy.auto.out);
      most = omega (arith, line.ends, line-here a run_of.result run_of.ensures);
      holds = λ d u w m.
          let E = done a u w m in
          held_left E run_of.result run_of.ensures (some_mark _ _ c.is_empty.ensures c.if-is_empty.false) line (copied _ (gathered_list E.to) E.to.counted c.requires.2 c.copy.ensures) d;
    }
