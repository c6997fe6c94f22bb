-- The forms: parts that agree with their rows give a tree that agrees with the table. One computed test over all forms, rows and values.
use mathlib.Core.Path.{◌≡◌, refl, ap}
use mathlib.Core.Bool.{Bool, not, true, false, cond, ◌&&◌, ◌||◌}
use Prim.Native.Nat.{ℕ}
use borrow.Author.Tests.{not-true}
use Rattle.forms.specs.InnerForms.{may_use, first_row, second_row}
use Rattle.forms.specs.declared.Row.{Row}
use Rattle.forms.specs.declared.Form.{Form}
use Rattle.forms.specs.declared.Form.TheVariants.{Drop, Less, Plus, ReducedPlus, JoinedLess, LessOutside, ReducedUnion, JoinedDifference}
use Rattle.forms.proofs.TestLaws.{every, every_passes, both, implies, implied}

-- a value agrees with a row
abbrev pub fits : Row → Bool → Bool
fits r b = implies r.on b && implies r.off (not b)

-- what a form's tree selects, by what x, a and b do
abbrev pub form_value : Form → Bool → Bool → Bool → Bool
form_value Drop x a b = a
form_value Less x a b = a && not (x && not b)
form_value Plus x a b = a || (x && not b)
form_value ReducedPlus x a b = (a && not x) || (x && not b)
form_value JoinedLess x a b = (a || x) && not (x && not b)
form_value LessOutside x a b = a && not (b && not x)
form_value ReducedUnion x a b = (a && not x) || b
form_value JoinedDifference x a b = (a || x) && not b

-- how often x stands in it
abbrev pub leaf_count : Form → ℕ
leaf_count Drop = 0
leaf_count Less = 1
leaf_count Plus = 1
leaf_count ReducedPlus = 2
leaf_count JoinedLess = 2
leaf_count LessOutside = 1
leaf_count ReducedUnion = 1
leaf_count JoinedDifference = 1

-- ---- the test
-- row l without the variable and h with it, the variable's value x, the parts' values a and b
abbrev form_test : Form → Bool → Bool → Bool → Bool → Bool → Bool → Bool → Bool
form_test form lon loff hon hoff x a b =
    let l : Row = record { on = lon; off = loff } in
    let h : Row = record { on = hon; off = hoff } in
    implies (may_use form l h) (implies (fits (first_row form l h) a) (implies (fits (second_row form l h) b) (fits (cond x h l) (form_value form x a b))))

forms_test : (form : Form) → every 7 (form_test form) ≡ true
forms_test Drop = refl
forms_test Less = refl
forms_test Plus = refl
forms_test ReducedPlus = refl
forms_test JoinedLess = refl
forms_test LessOutside = refl
forms_test ReducedUnion = refl
forms_test JoinedDifference = refl

-- THE FORMS LAW
pub forms_law : (form : Form) (l h : Row) (x a b : Bool) → may_use form l h ≡ true → fits (first_row form l h) a ≡ true → fits (second_row form l h) b ≡ true
    → fits (cond x h l) (form_value form x a b) ≡ true
forms_law form l h x a b p q r =
    implied _ _ (implied _ _ (implied _ _ (every_passes 7 (form_test form) (forms_test form) l.on l.off h.on h.off x a b) p) q) r

-- ---- a part's row is not 1 and 0 at once: again one computed test
abbrev consistent_test : Form → Bool → Bool → Bool → Bool → Bool
consistent_test form lon loff hon hoff =
    let l : Row = record { on = lon; off = loff } in
    let h : Row = record { on = hon; off = hoff } in
    implies (may_use form l h) (implies (not (lon && loff)) (implies (not (hon && hoff))
    (not ((first_row form l h).on && (first_row form l h).off) && not ((second_row form l h).on && (second_row form l h).off))))

consistent_test_lem : (form : Form) → every 4 (consistent_test form) ≡ true
consistent_test_lem Drop = refl
consistent_test_lem Less = refl
consistent_test_lem Plus = refl
consistent_test_lem ReducedPlus = refl
consistent_test_lem JoinedLess = refl
consistent_test_lem LessOutside = refl
consistent_test_lem ReducedUnion = refl
consistent_test_lem JoinedDifference = refl

pub consistent_rows : (form : Form) (l h : Row) → may_use form l h ≡ true → (l.on && l.off) ≡ false → (h.on && h.off) ≡ false
    → (((first_row form l h).on && (first_row form l h).off) ≡ false) × (((second_row form l h).on && (second_row form l h).off) ≡ false)
consistent_rows form l h p q r =
    let e = both _ _ (implied _ _ (implied _ _ (implied _ _ (every_passes 4 (consistent_test form) (consistent_test_lem form) l.on l.off h.on h.off) p) (ap not q)) (ap not r)) in
    (not-true _ e.0, not-true _ e.1)
