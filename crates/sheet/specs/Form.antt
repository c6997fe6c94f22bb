-- Document 01, "The sheet": the forms of its lines. A line of any other bytes has none.
use Rattle.std.specs.Prelude.{Bool, cond, ◌&&◌, List, [], ◌∷◌, ℕ, eqb, leb, Option, Some, None}
use Rattle.tree.specs.Tree.{Operator as TreeOperator, is_up_to, union, difference, intersection, sign}
use Rattle.text.specs.Decimal.{decimal}
use Rattle.text.specs.Parts.{Parts, last, part, split}
use Rattle.text.specs.Line.{tab}
use Rattle.sheet.specs.Rules.{Rules}
use Rattle.sheet.specs.declared.Line.{Line}
use Rattle.sheet.specs.declared.Line.TheVariants.{Group, Operator, Lift, Mark, End}

-- the letters of the kinds: "`G`", "`L`", "`K`", "`E`"
abbrev pub letter_g : ℕ
letter_g = 71

abbrev pub letter_l : ℕ
letter_l = 76

abbrev pub letter_k : ℕ
letter_k = 75

abbrev pub letter_e : ℕ
letter_e = 69

-- those of the operators: "`U`, `D`: the tree"; request 6: "The sheet gains `I`, a third operator"
abbrev pub letter_for : TreeOperator → ℕ
letter_for union = 85
letter_for difference = 68
letter_for intersection = 73

-- "position (0 to 8190)"
abbrev pub most_position : ℕ
most_position = 8190

-- such a position
abbrev pub is_position : ℕ → Bool
is_position n = leb n most_position

-- "levels (1 to 99)"
abbrev pub most_levels : ℕ
most_levels = 99

-- such levels
abbrev pub is_levels : ℕ → Bool
is_levels n = is_up_to most_levels n

-- the letter of a field of one byte; 0, which is no kind's, for any other
abbrev pub letter_of : List ℕ → ℕ
letter_of [] = 0
letter_of (b ∷ []) = b
letter_of (b ∷ (c ∷ bs)) = 0

-- a line with a number that passes a test, as "(0 to 8190)"; none where the field is no number or the number is out of its range
abbrev pub ranged : (ℕ → Bool) → (ℕ → Option Line) → Option ℕ → Option Line
ranged passes form None = None
ranged passes form (Some n) = cond (passes n) (form n) None

-- "`U`, `D`: the tree"; request 6: "The sheet gains `I`, a third operator", where the rules have it; "`E`: end." An operator is its
-- number in the tree's list.
abbrev pub bare : Rules → ℕ → Option Line
bare rules kind =
    cond (eqb kind (letter_for union)) (Some (Operator (sign union)))
    (cond (eqb kind (letter_for difference)) (Some (Operator (sign difference)))
    (cond (eqb kind (letter_for intersection) && rules.intersections) (Some (Operator (sign intersection))) (cond (eqb kind letter_e) (Some End) None)))

-- "`G` group"; "`K` group ..: a mark.": from 1 to the rules' last one
abbrev pub one_number : Rules → ℕ → Option ℕ → Option Line
one_number rules kind n =
    cond (eqb kind letter_g) (ranged (is_up_to rules.last_group) (λ g. Some (Group g)) n) (cond (eqb kind letter_k) (ranged (is_up_to rules.last_group) (λ g. Some (Mark g)) n) None)

-- "`L` position (0 to 8190) levels (1 to 99): a lift."
abbrev pub two_numbers : ℕ → Option ℕ → Option ℕ → Option Line
two_numbers kind p n = cond (eqb kind letter_l) (ranged is_position (λ p. ranged is_levels (λ n. Some (Lift p n)) n) p) None

-- the form of a line with these fields, by the rules: a kind alone, with one number or with two. "Decimal fields have no leading zero;
-- nought is `0`": `decimal`, of `text` specs/Decimal.antt.
unfoldable pub form_of : Rules → Parts → Option Line
form_of rules (last kind) = bare rules (letter_of kind)
form_of rules (part kind (last f)) = one_number rules (letter_of kind) (decimal f)
form_of rules (part kind (part f (last g))) = two_numbers (letter_of kind) (decimal f) (decimal g)
form_of rules (part kind (part f (part g fs))) = None

-- "fields are parted by one tab": the form of a line, given without its LF
unfoldable pub line_of : Rules → List ℕ → Option Line
line_of rules bytes = form_of rules (split tab bytes)
