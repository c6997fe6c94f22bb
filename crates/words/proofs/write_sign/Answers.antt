-- `write_sign` meets its contract: by what the sign stands for.
use mathlib.Core.Path.{sym, ap, subst, ◌∙◌}
use mathlib.Core.List.{List}
use Prim.Native.Nat.{ℕ, ◌+◌, ◌≤◌}
use native.Mathlib.Omega.{arith}
use lib.ListN.{length}
use Rattle.tree.proofs.WritingLaws.{wrote_as, wrote_nothing}
use Rattle.words.proofs.WordLaws.{sign_part, sign_operator, sign_nothing}
use Rattle.words.proofs.write_sign.Goals as goal

pub copy-requires : goal.copy-requires
copy-requires c =
    let g = c.args in
    subst (λ (x : List ℕ). g.at + length x ≤ length g.out.now) (sign_part g.list.now g.parts g.sign _ (sym c.in-Some.ensures)) c.requires.sign_in_bounds

pub returns-in-Some : goal.returns-in-Some
returns-in-Some c = let g = c.args in wrote_as c.copy.ensures (sym (sign_part g.list.now g.parts g.sign _ (sym c.in-Some.ensures)))

pub write_one-requires : goal.write_one-requires
write_one-requires c =
    let g = c.args in
    omega (arith, c.requires.sign_in_bounds, ap length (sign_operator g.list.now g.parts g.sign _ (sym c.part_of.ensures ∙ c.in_default.is) (sym c.in-Some-operator_of.ensures)))

pub returns-in-Some-operator_of : goal.returns-in-Some-operator_of
returns-in-Some-operator_of c =
    let g = c.args in
    wrote_as c.write_one.ensures (sym (sign_operator g.list.now g.parts g.sign _ (sym c.part_of.ensures ∙ c.in_default.is) (sym c.in-Some-operator_of.ensures)))

pub returns-in-None : goal.returns-in-None
returns-in-None c =
    let g = c.args in
    wrote_as (wrote_nothing g.out.now g.at) (sym (sign_nothing g.list.now g.parts g.sign (sym c.part_of.ensures ∙ c.in_default.is) (sym c.in-None.ensures)))
