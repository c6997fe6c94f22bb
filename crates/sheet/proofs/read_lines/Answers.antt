-- `read_lines`: what is left of the lines, read from the present state, gives the whole file's outcome.
use Rattle.std.proofs.Common.{◌≡◌, ◌∙◌, refl, sym, ap, arith, rules, Ok, Err, ◌+◌}
use Rattle.std.proofs.lemmas.Result.{err_from_is_err_and}
use Rattle.sheet.specs.Rules.{with_nodes, with_tasks, sheet_rules}
use Rattle.sheet.specs.InnerLines.{line_at}
use Rattle.sheet.specs.InnerHolding.{AfterLine}
use Rattle.sheet.specs.Reading.{ended}
use Rattle.sheet.specs.InnerFaults.{phase_number}
use Rattle.sheet.specs.declared.Phase.{Phase}
use Rattle.sheet.specs.declared.Phase.TheVariants.{Tree, Lifts, Marks, End, Ended}
use Rattle.sheet.specs.contracts.Phase.{the_type}
use denote.Enum.Bare.{sameb}
use mathlib.Core.Bool.{true, false, not, true≢false}
use Rattle.sheet.proofs.LineAtLaws.{line_at_range, line_at_alike, OneLine, one_line}
use Rattle.sheet.proofs.HoldLaws.{holds_gives}
use Rattle.sheet.proofs.LoopLaws.{answered_ok, refusal_of, gives_fault, running_nothing_read, read_long, running_refused, running_next, running_accepted, running_open}
use Rattle.sheet.proofs.read_lines.Given.{Over}
use Rattle.sheet.proofs.read_lines.Goals as goal
use Rattle.sheet.proofs.read_lines.Goals.{After-step}

-- after a line's step: the line at the byte, by the file's rules, and what the step did
line_is : (g : Over) (c : After-step g) → c.line_at-here.result ≡ line_at (with_tasks c.args.tasks (with_nodes g.row.NODES sheet_rules)) c.args.file.now c.loop-at.at
line_is g c = c.line_at-here.ensures ∙ line_at_alike sheet_rules _ refl refl _ _

one-read : (g : Over) (c : After-step g) → OneLine (with_tasks c.args.tasks (with_nodes g.row.NODES sheet_rules)) c.args.file.now c.loop-at.at c.line_at-here.result
one-read g c = rw (← line_is g c) at (one_line (with_tasks c.args.tasks (with_nodes g.row.NODES sheet_rules)) c.args.file.now c.loop-at.at c.loop-at-test.true)

stepped : (g : Over) (c : After-step g)
    → let here = line_at (with_tasks c.args.tasks (with_nodes g.row.NODES sheet_rules)) c.args.file.now c.loop-at.at in
    AfterLine (with_tasks c.args.tasks (with_nodes g.row.NODES sheet_rules)) c.loop-at.invariant.3.st here.line here.next (c.loop-at.reader.line + 1) c.step.result c.step.new.self
stepped g c =
    let R = c.loop-at.invariant.3 in
    rw (line_is g c) at (c.step.ensures _ R.st (rw (line_is g c) (line_at_range _ (omega arith) _ c.loop-at.at)) R.held)

not_ended : (phase : Phase) → true ≡ not (sameb the_type phase Ended) → phase_number phase ≡ ended → ⊥
not_ended Tree e z = omega arith
not_ended Lifts e z = omega arith
not_ended Marks e z = omega arith
not_ended End e z = omega arith
not_ended Ended e z = true≢false e

has_ended : (phase : Phase) → false ≡ not (sameb the_type phase Ended) → phase_number phase ≡ ended
has_ended Tree e = absurd (true≢false (sym e))
has_ended Lifts e = absurd (true≢false (sym e))
has_ended Marks e = absurd (true≢false (sym e))
has_ended End e = absurd (true≢false (sym e))
has_ended Ended e = refl

pub returns-then-file-gt-MOST_BYTES : goal.returns-then-file-gt-MOST_BYTES
returns-then-file-gt-MOST_BYTES g c = rw (read_long _ _ c.if-file-gt-MOST_BYTES.true) (refl, refl)

pub loop-at-init : goal.loop-at-init
loop-at-init g c =
    let e = c.new-reader.ensures in
    (c.if-file-gt-MOST_BYTES.false, omega arith, omega (arith, e.1), running_nothing_read _ _ _ e.0 e.1 c.if-file-gt-MOST_BYTES.false)

pub loop-at-smaller : goal.loop-at-smaller
loop-at-smaller g c =
    let here = one-read g (goal.at.loop-at-smaller g c).After-step in
    omega (arith, here.more, here.within, c.loop-at-test.true)

pub loop-at-preserved : goal.loop-at-preserved
loop-at-preserved g c =
    let t = (goal.at.loop-at-preserved g c).After-step in
    let here = one-read g t in
    let e : c.step.result ≡ Ok tt = answered_ok _ _ _ c.map_err.ensures.cases c.in_ok-map_err.was in
    let w = rw e at (stepped g t) in
    (c.loop-at.invariant.0, here.within, omega (arith, here.more, w.counted, c.loop-at.invariant.2), rw (line_is g t) (running_next c.loop-at.invariant.3 c.loop-at-test.true w))

pub returns-in_err-map_err : goal.returns-in_err-map_err
returns-in_err-map_err g c =
    let p = err_from_is_err_and c.from_residual.result c.from_residual.ensures.1 in
    let q = refusal_of _ c.step.result c.map_err.result _ c.map_err.ensures.cases c.in_err-map_err.was in
    let z : c.in_err-map_err.field-0.0 ≡ record { fault = q.0; line = c.step.new.self.line } = search (rules, q.2) in
    let w = rw q.1 at (stepped g (goal.at.returns-in_err-map_err g c).After-step) in
    gives_fault _ _ _ q.0 _ (running_refused c.loop-at.invariant.3 c.loop-at-test.true w) (p.1 ∙ ap Err (p.2 ∙ z))

pub returns-then-ne : goal.returns-then-ne
returns-then-ne g c =
    let R = c.loop-at.invariant.3 in
    rw (running_open R c.loop-at-test.false (not_ended c.loop-at.reader.phase c.if-ne.ensures)) (refl, refl)

pub returns : goal.returns
returns g c =
    let R = c.loop-at.invariant.3 in
    rw (running_accepted R c.loop-at-test.false (has_ended c.loop-at.reader.phase c.if-ne.ensures)) (holds_gives R.held)
