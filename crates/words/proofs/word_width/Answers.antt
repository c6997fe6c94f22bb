-- `word_width` meets its contract: after i turns the width is that of the first i signs, at most 8,191 for each.
use mathlib.Core.Path.{sym}
use native.Mathlib.Omega.{arith}
use Rattle.words.proofs.WordLaws.{spell_none, spell_more_length}
use Rattle.words.proofs.word_width.Goals as goal

pub loop-sign-init : goal.loop-sign-init
loop-sign-init c = (omega arith, λ l h. sym (spell_none l c.args.parts))

pub loop-sign-preserved : goal.loop-sign-preserved
loop-sign-preserved c =
    let g = c.args in
    let l = c.loop-sign in
    (omega (arith, c.sign_width-width.ensures.upper_bound, l.invariant.0), λ m h. omega (arith, c.sign_width-width.ensures.by_index m h, l.invariant.1 m h, spell_more_length m g.parts g.word.now l.sign-index c.loop-sign-test.true))
