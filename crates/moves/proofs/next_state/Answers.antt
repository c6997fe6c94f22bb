-- `next_state` meets its contract: the scan finds the frames above A in the entry, and NextStateLaws says what state they make.
use mathlib.Core.Path.{◌≡◌, refl, sym, ap, ◌∙◌}
use mathlib.Core.Bool.{Bool, cond}
use mathlib.Core.Option.{Option, some, none}
use Rattle.std.specs.Prelude.{Some, None}
use Rattle.moves.specs.Moves.{Input, Move}
use Rattle.moves.specs.NextState.{state_after}
use Rattle.moves.specs.InnerEntries.{number_of, input_operand, InputIs, only_t, LeavesTwoUnder}
use Rattle.moves.proofs.NextStateLaws.{next_is}
use Rattle.moves.proofs.next_state.Goals as goal

pub returns-in_err-above_t : goal.returns-in_err-above_t
returns-in_err-above_t c = λ v i e f h. c.from_residual.ensures ∙ go v i f
  where
    go : (v : Move) (i : Option Input) → InputIs c.args.input i → None ≡ number_of (state_after v i)
    go v none f = refl
    go v (some i) f = absurd (let z = c.in_err-above_t.was in cc)

pub returns-then-alone : goal.returns-then-alone
returns-then-alone c = λ v i e f h. go v i e f h
  where
    go : (v : Move) (i : Option Input) → only_t v ≡ c.args.alone → InputIs c.args.input i → LeavesTwoUnder c.args.word.now v i → c.state_of.result ≡ number_of (state_after v i)
    go v none e f h = absurd (let z = c.in_ok-above_t.was in cc)
    go v (some i) e f h =
        let same : Some c.in_ok-above_t.above_t ≡ Some (input_operand i) = sym c.in_ok-above_t.was ∙ f in
        next_is c.above_a-above.ensures h _ c.state_of.result c.state_of.ensures (same ∙ sym (ap (λ (b : Bool). cond b (Some (input_operand i)) c.above_a-above.result.parent) (e ∙ c.if-alone.true)))

pub returns : goal.returns
returns c = λ v i e f h. go v i e f h
  where
    go : (v : Move) (i : Option Input) → only_t v ≡ c.args.alone → InputIs c.args.input i → LeavesTwoUnder c.args.word.now v i → c.state_of-2.result ≡ number_of (state_after v i)
    go v none e f h = absurd (let z = c.in_ok-above_t.was in cc)
    go v (some i) e f h =
        next_is c.above_a-above.ensures h _ c.state_of-2.result c.state_of-2.ensures (sym (ap (λ (b : Bool). cond b (Some (input_operand i)) c.above_a-above.result.parent) (e ∙ c.if-alone.false)))
