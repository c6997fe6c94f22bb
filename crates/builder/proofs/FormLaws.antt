-- What a form's tree selects, by what x, a and b do.
use mathlib.Core.Path.{◌≡◌, refl, ap₂, ◌∙◌}
use mathlib.Core.Bool.{Bool, false}
use mathlib.Core.Option.{Option}
use Prim.Native.Nat.{ℕ}
use Rattle.tree.specs.Tree.{Tree, union, difference, plus, minus, operator_of, apply}
use Rattle.tree.proofs.TreeLaws.{or_false}
use Rattle.forms.proofs.FormLaws.{form_value}
use Rattle.forms.specs.declared.Form.{Form}
use Rattle.forms.specs.declared.Form.TheVariants.{Drop, Less, Plus, ReducedPlus, JoinedLess, LessOutside, ReducedUnion, JoinedDifference}
use Rattle.builder.specs.InnerBuilding.{left_tree, right_tree, outer, formed}
use Rattle.builder.proofs.JoinLaws.{selects_optional, join_selects}

abbrev left_value : Form → Bool → Bool → Bool
left_value Drop x a = a
left_value Less x a = a
left_value Plus x a = a
left_value ReducedPlus x a = apply difference a x
left_value JoinedLess x a = apply union a x
left_value LessOutside x a = a
left_value ReducedUnion x a = apply difference a x
left_value JoinedDifference x a = apply union a x

abbrev right_value : Form → Bool → Bool → Bool
right_value Drop x b = false
right_value Less x b = apply difference x b
right_value Plus x b = apply difference x b
right_value ReducedPlus x b = apply difference x b
right_value JoinedLess x b = apply difference x b
right_value LessOutside x b = apply difference b x
right_value ReducedUnion x b = b
right_value JoinedDifference x b = b

value_is : (form : Form) (x a b : Bool) → apply (operator_of (outer form)) (left_value form x a) (right_value form x b) ≡ form_value form x a b
value_is Drop x a b = or_false a
value_is Less x a b = refl
value_is Plus x a b = refl
value_is ReducedPlus x a b = refl
value_is JoinedLess x a b = refl
value_is LessOutside x a b = refl
value_is ReducedUnion x a b = refl
value_is JoinedDifference x a b = refl

module _ (v : ℕ → Bool) (x a b : Option Tree) where
  left_selects : (form : Form) → selects_optional v (left_tree form x a) ≡ left_value form (selects_optional v x) (selects_optional v a)
  left_selects Drop = refl
  left_selects Less = refl
  left_selects Plus = refl
  left_selects ReducedPlus = join_selects v minus a x
  left_selects JoinedLess = join_selects v plus a x
  left_selects LessOutside = refl
  left_selects ReducedUnion = join_selects v minus a x
  left_selects JoinedDifference = join_selects v plus a x

  right_selects : (form : Form) → selects_optional v (right_tree form x b) ≡ right_value form (selects_optional v x) (selects_optional v b)
  right_selects Drop = refl
  right_selects Less = join_selects v minus x b
  right_selects Plus = join_selects v minus x b
  right_selects ReducedPlus = join_selects v minus x b
  right_selects JoinedLess = join_selects v minus x b
  right_selects LessOutside = join_selects v minus b x
  right_selects ReducedUnion = refl
  right_selects JoinedDifference = refl

  pub formed_selects : (form : Form) → selects_optional v (formed form x a b) ≡ form_value form (selects_optional v x) (selects_optional v a) (selects_optional v b)
  formed_selects form = join_selects v (outer form) (left_tree form x a) (right_tree form x b) ∙ ap₂ (apply (operator_of (outer form))) (left_selects form) (right_selects form)
      ∙ value_is form (selects_optional v x) (selects_optional v a) (selects_optional v b)
