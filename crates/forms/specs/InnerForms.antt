-- The forms: how a tree is made of one variable's tree x and of the trees a and b, and what it asks of the rows of a table: a row is
-- 0, 1 or free. No caller has to believe any of this: that a form used where it may be gives a tree that agrees with the table is
-- one computed test in proofs/FormLaws.antt.
use Rattle.std.specs.Prelude.{Bool, true, false, not, ◌&&◌, ◌||◌}
use Rattle.forms.specs.declared.Row.{Row}
use Rattle.forms.specs.declared.Form.{Form}
use Rattle.forms.specs.declared.Form.TheVariants.{Drop, Less, Plus, ReducedPlus, JoinedLess, LessOutside, ReducedUnion, JoinedDifference}

-- ---- a row is 1 (on), 0 (off) or neither: free
-- the rows that stay free
abbrev pub free : Row
free = record { on = false; off = false }

-- the row of the complement
abbrev pub inverse : Row → Row
inverse r = record { on = r.off; off = r.on }

-- the row without the variable is 0 and the one with it 1; and the other way round
abbrev pub rises : Row → Row → Bool
rises l h = l.off && h.on

abbrev pub falls : Row → Row → Bool
falls l h = l.on && h.off

-- ---- the forms, by the table's row l without the variable and h with it: whether the form may be used there,
abbrev pub may_use : Form → Row → Row → Bool
may_use Drop l h = not (rises l h || falls l h)
may_use Less l h = not (rises l h)
may_use Plus l h = not (falls l h)
may_use ReducedPlus l h = not false
may_use JoinedLess l h = not false
may_use LessOutside l h = not (falls l h)
may_use ReducedUnion l h = not (rises l h)
may_use JoinedDifference l h = not (falls l h)

-- the row of a's table,
abbrev pub first_row : Form → Row → Row → Row
first_row Drop l h = record { on = l.on || h.on; off = l.off || h.off }
first_row Less l h = record { on = l.on || h.on; off = l.off }
first_row Plus l h = record { on = l.on; off = l.off || h.off }
first_row ReducedPlus l h = l
first_row JoinedLess l h = l
first_row LessOutside l h = record { on = l.on || h.on; off = h.off }
first_row ReducedUnion l h = record { on = l.on && not h.on; off = l.off }
first_row JoinedDifference l h = record { on = l.on; off = l.off && not h.off }

-- and the row of b's
abbrev pub second_row : Form → Row → Row → Row
second_row Drop l h = free
second_row Less l h = record { on = h.on; off = h.off && not l.off }
second_row Plus l h = record { on = h.off; off = h.on && not l.on }
second_row ReducedPlus l h = inverse h
second_row JoinedLess l h = h
second_row LessOutside l h = record { on = l.off && not h.off; off = l.on }
second_row ReducedUnion l h = record { on = h.on; off = l.off || h.off }
second_row JoinedDifference l h = record { on = h.off; off = l.on || h.on }

-- ---- the holder as a variable
-- whether the form has the holder's tree once, and no left operand of a difference above it is empty: a is some tree, and b
abbrev pub keeps_by : Form → Bool → Bool → Bool
keeps_by Drop a b = false
keeps_by Less a b = a
keeps_by Plus a b = true
keeps_by ReducedPlus a b = false
keeps_by JoinedLess a b = false
keeps_by LessOutside a b = a && b
keeps_by ReducedUnion a b = a
keeps_by JoinedDifference a b = true
