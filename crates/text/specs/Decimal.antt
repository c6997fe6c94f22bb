-- Document 01: "Decimal fields have no leading zero; nought is `0`." Bytes are numbers.
use Rattle.std.specs.Prelude.{Bool, true, not, cond, ◌&&◌, List, [], ◌∷◌, ◌++◌, ℕ, zero, suc, ◌+◌, ◌-◌, ◌*◌, ◌/◌, ◌%◌, eqb, leb, ltb, length, get_or, Option, Some, None}

-- the byte `0`; the other nine digits follow it
abbrev pub nought : ℕ
nought = 48

-- the decimal digits of n, of which there are at most as many as the first argument says
unfoldable pub spell : ℕ → ℕ → List ℕ
spell zero n = []
spell (suc k) n = cond (ltb n 10) ((nought + n) ∷ []) (spell k (n / 10) ++ ((nought + n % 10) ∷ []))

-- the decimal digits of a number, with no leading zero; nought is `0`
unfoldable pub digits : ℕ → List ℕ
digits n = spell (suc n) n

-- a digit's byte
abbrev pub is_digit : ℕ → Bool
is_digit b = leb nought b && leb b (nought + 9)

-- nothing but digits
unfoldable pub all_digits : List ℕ → Bool
all_digits [] = true
all_digits (d ∷ ds) = is_digit d && all_digits ds

-- the number that is written by the digits of v and then these
unfoldable pub value : ℕ → List ℕ → ℕ
value v [] = v
value v (d ∷ ds) = value (v * 10 + (d - nought)) ds

-- "no leading zero": more than one byte, and the first is `0`
abbrev pub leading_zero : List ℕ → Bool
leading_zero f = ltb 1 (length f) && eqb (get_or f 0 0) nought

-- the number of a decimal field, or none: at least one digit, no leading zero, nothing but digits
unfoldable pub decimal : List ℕ → Option ℕ
decimal f = cond (ltb 0 (length f) && not (leading_zero f) && all_digits f) (Some (value 0 f)) None
