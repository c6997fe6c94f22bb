-- What contracts of functions within say of a field: its number as the code holds it, the bytes that are written for it, and how far
-- the next parting byte is.
use Rattle.std.specs.Prelude.{cond, List, [], ◌∷◌, ◌++◌, ℕ, ◌+◌, ◌-◌, ◌*◌, eqb, leb, Option, Some, None}
use Rattle.text.specs.Decimal.{nought, is_digit, digits}
use Rattle.text.specs.Line.{tab}

-- In code a field's number is at most 65,534: none stands for every larger one, as for what is no number.
abbrev pub most_number : ℕ
most_number = 65534

abbrev pub capped : Option ℕ → Option ℕ
capped None = None
capped (Some n) = cond (leb n most_number) (Some n) None

-- the number so far with one byte more, in code
abbrev pub digit_after : ℕ → ℕ → Option ℕ
digit_after v d = cond (is_digit d) (capped (Some (v * 10 + (d - nought)))) None

-- a field after the first
abbrev pub field : ℕ → List ℕ
field n = tab ∷ digits n

-- all fields after the first
unfoldable pub fields_after : List ℕ → List ℕ
fields_after [] = []
fields_after (n ∷ ns) = field n ++ fields_after ns

-- how many bytes stand before the first b: all, if there is none
unfoldable pub ahead : ℕ → List ℕ → ℕ
ahead b [] = 0
ahead b (x ∷ xs) = cond (eqb b x) 0 (ahead b xs + 1)
