-- Which variable a table is split by, and by which form. A table has the variables 0 to n; where the holder of the marked groups is
-- one of them, it is the highest. What a split may do is tested here; which of the allowed splits is taken (`estimate`, `cost`,
-- `choose`) decides how small a tree gets and nothing else, and no law speaks of it. No caller has to believe any of this.
use Rattle.std.specs.Prelude.{◌≡◌, Option, Some, None, Bool, true, false, not, cond, ◌&&◌, ◌||◌, ℕ, zero, suc, ◌+◌, ◌*◌, ◌/◌, ◌%◌, ◌^◌, ◌≤◌, eqb, ltb, length}
use Rattle.tree.specs.Tree.{most_groups}
use Rattle.forms.specs.InnerForms.{keeps_by}
use Rattle.free_tables.specs.InnerSearch.{first_failing}
use Rattle.free_tables.specs.InnerTables.{Table, half, first_part, second_part, usable, some_on}
use Rattle.forms.specs.declared.Form.{Form}
use Rattle.forms.specs.declared.Form.TheVariants.{Drop, Less, Plus, ReducedPlus, JoinedLess, LessOutside, ReducedUnion, JoinedDifference}
use Rattle.splits.specs.declared.Holder.{Holder}
use Rattle.splits.specs.declared.Holder.TheVariants.{Absent, Dropped, Held}
use Rattle.splits.specs.declared.Plan.{Plan}
use Rattle.splits.specs.declared.Plan.TheVariants.{Plain, First, Second}
use Rattle.splits.specs.declared.Split.{Split}

-- ---- the forms by number
abbrev pub form_count : ℕ
form_count = 8

abbrev pub form_of : ℕ → Form
form_of i =
    cond (eqb i 0) Drop
    (cond (eqb i 1) Less
    (cond (eqb i 2) Plus
    (cond (eqb i 3) ReducedPlus
    (cond (eqb i 4) JoinedLess
    (cond (eqb i 5) LessOutside
    (cond (eqb i 6) ReducedUnion JoinedDifference))))))

abbrev pub is_drop : Form → Bool
is_drop Drop = true
is_drop Less = false
is_drop Plus = false
is_drop ReducedPlus = false
is_drop JoinedLess = false
is_drop LessOutside = false
is_drop ReducedUnion = false
is_drop JoinedDifference = false

-- ---- the highest variable, whose step is half the table's rows
-- whether the form keeps the holder, at the highest variable, which is the holder's
abbrev pub keeps_holder : Form → Table → Bool
keeps_holder form t = keeps_by form (some_on (first_part form t (half t))) (some_on (second_part form t (half t)))

-- whether the form may split the highest variable: a group; the holder, which is not to stand in the tree; the holder, which is
abbrev pub allowed_top : Holder → Form → Table → Bool
allowed_top Absent form t = usable form t (half t)
allowed_top Dropped form t = usable form t (half t) && is_drop form
allowed_top Held form t = usable form t (half t) && keeps_holder form t

-- the number of the first form that may; `form_count` if none
unfoldable pub first_top : Holder → Table → ℕ
first_top m t = first_failing (λ i. not (allowed_top m (form_of i) t)) form_count 0

-- whether some form may split the holder
abbrev pub can_hold : Table → Bool
can_hold t = ltb (first_top Held t) form_count

-- ---- a variable below the holder
-- whether a form is a difference whose left operand is a alone
abbrev pub starts_with_first : Form → Bool
starts_with_first Drop = false
starts_with_first Less = true
starts_with_first Plus = false
starts_with_first ReducedPlus = false
starts_with_first JoinedLess = false
starts_with_first LessOutside = true
starts_with_first ReducedUnion = false
starts_with_first JoinedDifference = false

-- whether the holder may be dropped in a's tree
abbrev pub drops_in_first : Form → Table → Bool
drops_in_first form a = usable Drop a (half a) && (not (starts_with_first form) || some_on (first_part Drop a (half a)))

-- by the parts' tables: the holder stands in a's tree and is dropped in b's, or the other way round
abbrev pub beside_use : Form → Table → Table → Option Plan
beside_use form a b =
    cond (usable Drop b (half b)) (cond (can_hold a) (Some First) None)
    (cond (drops_in_first form a) (cond (can_hold b) (Some Second) None) None)

-- the same by the parts of a table
abbrev pub split_use : Form → Table → ℕ → Option Plan
split_use form t step = beside_use form (first_part form t step) (second_part form t step)

-- the variable of this step
abbrev pub use_below : Holder → Form → Table → ℕ → Option Plan
use_below Absent form t step = cond (usable form t step) (Some Plain) None
use_below Dropped form t step = None
use_below Held form t step = cond (usable form t step) (split_use form t step) None

-- ---- what a split does with the parts: none where it is not allowed; both without the holder; the holder in the first, or in the second
unfoldable pub use_of : Holder → Form → Table → ℕ → ℕ → Option Plan
use_of m form t n v = cond (ltb v n) (use_below m form t (2 ^ v)) (cond (allowed_top m form t) (Some Plain) None)

abbrev pub first_holder : Plan → Holder
first_holder Plain = Absent
first_holder First = Held
first_holder Second = Dropped

abbrev pub second_holder : Plan → Holder
second_holder Plain = Absent
second_holder First = Dropped
second_holder Second = Held

-- ---- which split: by leaves
-- leaves of a form's tree by those of a and b, 0 where there is no tree
abbrev pub leaves_by : Form → ℕ → ℕ → ℕ
leaves_by Drop a b = a
leaves_by Less a b = cond (eqb a 0) 0 (a + 1 + b)
leaves_by Plus a b = a + 1 + b
leaves_by ReducedPlus a b = cond (eqb a 0) (1 + b) (a + 2 + b)
leaves_by JoinedLess a b = a + 2 + b
leaves_by LessOutside a b = cond (eqb a 0) 0 (cond (eqb b 0) a (a + 1 + b))
leaves_by ReducedUnion a b = cond (eqb a 0) b (a + 1 + b)
leaves_by JoinedDifference a b = a + 1 + b

-- leaves of a tree for a table of so many variables, if always the highest is split by the first form that may
unfoldable pub estimate : ℕ → Holder → Table → ℕ
estimate zero m t = 0
estimate (suc n) m t =
    let form = form_of (first_top m t) in
    leaves_by form (estimate n Absent (first_part form t (half t))) (estimate n Absent (second_part form t (half t)))

-- leaves after a split, by these estimates; more than any tree's where it is not allowed
abbrev pub never : ℕ
never = 100000

abbrev pub cost_by : Option Plan → Form → Table → ℕ → ℕ → ℕ
cost_by None form t n step = never
cost_by (Some plan) form t n step = leaves_by form (estimate n (first_holder plan) (first_part form t step)) (estimate n (second_holder plan) (second_part form t step))

-- the candidates by number: each variable with each form
abbrev pub candidate_form : ℕ → Form
candidate_form i = form_of (i % form_count)

abbrev pub candidate_variable : ℕ → ℕ → ℕ
candidate_variable n i = cond (ltb (i / form_count) n) (i / form_count) n

unfoldable pub candidate_use : Holder → Table → ℕ → ℕ → Option Plan
candidate_use m t n i = use_of m (candidate_form i) t n (candidate_variable n i)

unfoldable pub cost : Holder → Table → ℕ → ℕ → ℕ
cost m t n i = cost_by (candidate_use m t n i) (candidate_form i) t n (2 ^ candidate_variable n i)

-- the first number below k where f is least
unfoldable pub least : (ℕ → ℕ) → ℕ → ℕ
least f zero = 0
least f (suc k) = let b = least f k in cond (ltb (f k) (f b)) k b

-- the candidate that looks best one split ahead
unfoldable pub choose : Holder → Table → ℕ → ℕ
choose m t n = least (cost m t n) (form_count * (n + 1))

-- ---- the split that is taken: candidate i where it is allowed, and else the highest variable by the first form that may split it
abbrev pub candidate_by : Option Plan → ℕ → ℕ → Option Split
candidate_by None n i = None
candidate_by (Some plan) n i = Some (record { form = candidate_form i; variable = candidate_variable n i; plan = plan })

abbrev pub candidate : Holder → Table → ℕ → ℕ → Option Split
candidate m t n i = candidate_by (candidate_use m t n i) n i

abbrev pub split_or_top : Option Split → Holder → Table → ℕ → Split
split_or_top None m t n = record { form = form_of (first_top m t); variable = n; plan = Plain }
split_or_top (Some s) m t n = s

unfoldable pub split_taken : Holder → Table → ℕ → ℕ → Split
split_taken m t n i = split_or_top (candidate m t n i) m t n

-- ---- what the functions say of each other
-- the rows of a table of so many variables
pub record Sized (t : Table) (variables : ℕ) : Type 0 where
  pub rows : length t ≡ 2 ^ variables
  pub most : variables ≤ most_groups
