-- `write_word` meets its contract: after i turns, what the first i signs stand for has been written.
use mathlib.Core.Path.{sym}
use Prim.Native.Nat.{◌+◌}
use native.Mathlib.Omega.{arith}
use Rattle.tree.proofs.WritingLaws.{wrote_nothing, wrote_then, wrote_as}
use Rattle.words.specs.InnerWords.{spell}
use Rattle.words.proofs.WordLaws.{spell_more, spell_more_length, spell_short}
use Rattle.words.proofs.write_word.Goals as goal

pub loop-sign-init : goal.loop-sign-init
unfolding spell
loop-sign-init c = wrote_nothing c.args.out.now c.args.at

pub write_sign-next-requires-clause-sign_in_bounds : goal.write_sign-next-requires-clause-sign_in_bounds
write_sign-next-requires-clause-sign_in_bounds c =
    let g = c.args in
    let l = c.loop-sign in
    omega (arith, c.requires.word_in_bounds, l.invariant.ends, l.invariant.same, spell_more_length g.list.now g.parts g.word.now l.sign-index c.loop-sign-test.true, spell_short g.list.now g.parts g.word.now (l.sign-index + 1))

pub loop-sign-preserved : goal.loop-sign-preserved
loop-sign-preserved c =
    let g = c.args in
    let l = c.loop-sign in
    wrote_as (wrote_then l.invariant c.write_sign-next.ensures) (sym (spell_more g.list.now g.parts g.word.now l.sign-index c.loop-sign-test.true))
