-- Document 01: "Lines end in LF (byte 10); fields are parted by one tab."
use Rattle.std.specs.Prelude.{List, [], ◌∷◌, ◌++◌, ℕ}
use Rattle.text.specs.Decimal.{digits}
use Rattle.text.specs.Parts.{Parts, last, part, join}

-- "one tab"
abbrev pub tab : ℕ
tab = 9

-- "LF (byte 10)"
abbrev pub line_feed : ℕ
line_feed = 10

-- the fields of a line of a word and numbers
unfoldable pub fields : List ℕ → List ℕ → Parts
fields word [] = last word
fields word (n ∷ ns) = part word (fields (digits n) ns)

-- a line of a word and numbers
unfoldable pub line : List ℕ → List ℕ → List ℕ
line word ns = join tab (fields word ns) ++ (line_feed ∷ [])

-- a line's word and numbers
pub record Row : Type 0 where
  pub word : List ℕ
  pub numbers : List ℕ

-- lines, one after another
unfoldable pub lines : List Row → List ℕ
lines [] = []
lines (row ∷ rows) = line row.word row.numbers ++ lines rows
