-- A form that keeps the holder has its tree once.
use mathlib.Core.Path.{◌≡◌, refl}
use mathlib.Core.Bool.{Bool, true, false≢true}
use Rattle.forms.specs.declared.Form.{Form}
use Rattle.forms.specs.declared.Form.TheVariants.{Drop, Less, Plus, ReducedPlus, JoinedLess, LessOutside, ReducedUnion, JoinedDifference}
use Rattle.forms.proofs.FormLaws.{leaf_count}
use Rattle.forms.specs.InnerForms.{keeps_by}

pub keeps_once : (form : Form) (a b : Bool) → keeps_by form a b ≡ true → leaf_count form ≡ 1
keeps_once Drop a b e = absurd (false≢true e)
keeps_once Less a b e = refl
keeps_once Plus a b e = refl
keeps_once ReducedPlus a b e = absurd (false≢true e)
keeps_once JoinedLess a b e = absurd (false≢true e)
keeps_once LessOutside a b e = refl
keeps_once ReducedUnion a b e = refl
keeps_once JoinedDifference a b e = refl
