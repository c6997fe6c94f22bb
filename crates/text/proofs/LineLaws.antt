-- The word and the numbers of a line, and the lines of a text, can be read back from the bytes uniquely: LF and tab stand
-- in no field, so that splitting at them gives the fields back, and a number is the only one with its digits.
use mathlib.Core.Path.{◌≡◌, refl, sym, ap, ap₂, ◌∙◌}
use mathlib.Core.Bool.{false}
use mathlib.Core.List.{List, [], ◌∷◌, ◌++◌, append_assoc, append-nil}
use Prim.Native.Nat.{ℕ, ◌+◌, ◌≤◌, ◌<◌}
use native.Mathlib.Omega.{arith}
use lib.ListN.{length, get_or, take, drop, length-append, take-append-drop}
use lib.Seq.{take-suc}
use native.Mathlib.Numerals.{add-one}
use Rattle.tree.specs.Tree.{is_in}
use Rattle.tree.proofs.TreeLaws.{is_in_append}
use Rattle.text.specs.Decimal.{digits}
use Rattle.text.specs.Parts.{part, split, join}
use Rattle.text.proofs.PartsLaws.{Free, split_part, split_join, split_injective}
use Rattle.text.specs.Line.{tab, line_feed, fields, line, Row, lines}
use Rattle.text.specs.Inner.{field, fields_after}
use Rattle.text.proofs.DecimalLaws.{digits_free, digits_injective}

-- a word of a line has neither a tab nor an LF
pub record Plain (word : List ℕ) : Type 0 where
  pub no_tab : is_in word tab ≡ false
  pub no_line_feed : is_in word line_feed ≡ false

unfoldable pub AllPlain : List Row → Type 0
AllPlain [] = Unit {0}
AllPlain (row ∷ rows) = Plain row.word × AllPlain rows

-- ---- the fields of a line hold no tab, and the line no LF but its last byte
fields_free : (word ns : List ℕ) → is_in word tab ≡ false → Free tab (fields word ns)
unfolding fields Free
fields_free word [] e = e
fields_free word (n ∷ ns) e = (e, fields_free (digits n) ns (digits_free n tab refl))

after_tab : (l : List ℕ) → is_in l line_feed ≡ false → is_in (tab ∷ l) line_feed ≡ false
unfolding is_in
after_tab l e = e

fields_one_line : (word ns : List ℕ) → is_in word line_feed ≡ false → is_in (join tab (fields word ns)) line_feed ≡ false
unfolding fields join
fields_one_line word [] e = e
fields_one_line word (n ∷ ns) e =
    is_in_append word (tab ∷ join tab (fields (digits n) ns)) line_feed ∙ rw e (after_tab (join tab (fields (digits n) ns)) (fields_one_line (digits n) ns (digits_free n line_feed refl)))

-- splitting at LF gives a line's fields, joined by tabs, and then the lines after it
pub line_splits : (word ns r : List ℕ) → Plain word → split line_feed (line word ns ++ r) ≡ part (join tab (fields word ns)) (split line_feed r)
unfolding line
line_splits word ns r p =
    ap (split line_feed) (append_assoc (join tab (fields word ns)) (line_feed ∷ []) r)
    ∙ split_part line_feed (join tab (fields word ns)) r (fields_one_line word ns p.no_line_feed)

-- splitting those at tabs gives the fields
pub fields_split : (word ns : List ℕ) → Plain word → split tab (join tab (fields word ns)) ≡ fields word ns
fields_split word ns p = split_join tab (fields word ns) (fields_free word ns p.no_tab)

-- ---- unique reading
record Same (v w ms ns : List ℕ) : Type 0 where
  word : v ≡ w
  numbers : ms ≡ ns

fields_injective : (v w ms ns : List ℕ) → fields v ms ≡ fields w ns → Same v w ms ns
unfolding fields
fields_injective v w [] [] e = record { word = cc; numbers = refl }
fields_injective v w [] (n ∷ ns) e = absurd (let z : ◌≡◌ {A = ℕ} 0 1 = cc in omega arith)
fields_injective v w (m ∷ ms) [] e = absurd (let z : ◌≡◌ {A = ℕ} 0 1 = cc in omega arith)
fields_injective v w (m ∷ ms) (n ∷ ns) e =
    let p : v ≡ w = cc in
    let q : fields (digits m) ms ≡ fields (digits n) ns = cc in
    let z = fields_injective (digits m) (digits n) ms ns q in
    record { word = p; numbers = ap₂ (λ (x : ℕ) (xs : List ℕ). x ∷ xs) (digits_injective m n z.word) z.numbers }

-- a line at the front of bytes: its word, its numbers and the bytes after it are the only ones
pub line_unique : (v w ms ns r s : List ℕ) → Plain v → Plain w → line v ms ++ r ≡ line w ns ++ s → (v ≡ w) × (ms ≡ ns) × (r ≡ s)
line_unique v w ms ns r s p q e =
    let z : part (join tab (fields v ms)) (split line_feed r) ≡ part (join tab (fields w ns)) (split line_feed s) = sym (line_splits v ms r p) ∙ ap (split line_feed) e ∙ line_splits w ns s q in
    let a : join tab (fields v ms) ≡ join tab (fields w ns) = cc in
    let b : split line_feed r ≡ split line_feed s = cc in
    let k = fields_injective v w ms ns (sym (fields_split v ms p) ∙ ap (split tab) a ∙ fields_split w ns q) in
    (k.word, k.numbers, split_injective line_feed r s b)

line_not_empty : (w ns r : List ℕ) → line w ns ++ r ≡ [] → ⊥
unfolding line
line_not_empty w ns r e =
    omega (arith, ap length e, length-append (join tab (fields w ns) ++ (line_feed ∷ [])) r, length-append (join tab (fields w ns)) (line_feed ∷ []))

-- bytes are the text of one list of lines at most
pub lines_unique : (xs ys : List Row) → AllPlain xs → AllPlain ys → lines xs ≡ lines ys → xs ≡ ys
unfolding lines AllPlain
lines_unique [] [] p q e = refl
lines_unique [] (y ∷ ys) p q e = absurd (line_not_empty y.word y.numbers (lines ys) (sym e))
lines_unique (x ∷ xs) [] p q e = absurd (line_not_empty x.word x.numbers (lines xs) e)
lines_unique (x ∷ xs) (y ∷ ys) p q e =
    let z = line_unique x.word y.word x.numbers y.numbers (lines xs) (lines ys) p.0 q.0 e in
    let r : x ≡ y = ap₂ (λ (v ns : List ℕ). record { word = v; numbers = ns }) z.0 z.1 in
    ap₂ (λ (a : Row) (l : List Row). a ∷ l) r (lines_unique xs ys p.1 q.1 z.2)

pub lines_append : (xs ys : List Row) → lines (xs ++ ys) ≡ lines xs ++ lines ys
unfolding lines
lines_append [] ys = refl
lines_append (x ∷ xs) ys = rw (lines_append xs ys) (sym (append_assoc (line x.word x.numbers) (lines xs) (lines ys)))

-- ---- a line as it is written: the word, each number after a tab, LF
join_after : (word ns : List ℕ) → join tab (fields word ns) ≡ word ++ fields_after ns
unfolding join fields fields_after
join_after word [] = sym (append-nil word)
join_after word (n ∷ ns) = rw (join_after (digits n) ns)

pub line_written : (word ns : List ℕ) → (word ++ fields_after ns) ++ (line_feed ∷ []) ≡ line word ns
unfolding line
line_written word ns = rw (join_after word ns)

pub line_length : (word ns : List ℕ) → length (line word ns) ≡ length word + length (fields_after ns) + 1
line_length word ns =
    sym (ap length (line_written word ns)) ∙ omega (arith, length-append (word ++ fields_after ns) (line_feed ∷ []), length-append word (fields_after ns))

fields_append : (a b : List ℕ) → fields_after (a ++ b) ≡ fields_after a ++ fields_after b
unfolding fields_after
fields_append [] b = refl
fields_append (n ∷ a) b = rw (fields_append a b) (sym (append_assoc (field n) (fields_after a) (fields_after b)))

pub fields_none : (ns : List ℕ) → fields_after (take 0 ns) ≡ []
unfolding fields_after
fields_none ns = refl

-- one field more of the numbers that are written
pub fields_next : (ns : List ℕ) (i : ℕ) → i < length ns → fields_after (take i ns) ++ field (get_or ns i 0) ≡ fields_after (take (i + 1) ns)
unfolding fields_after
fields_next ns i h =
    sym (rw (add-one i, take-suc ns i 0 h) (fields_append (take i ns) (get_or ns i 0 ∷ []) ∙ ap (λ (l : List ℕ). fields_after (take i ns) ++ l) (append-nil (field (get_or ns i 0)))))

-- there is room for one field more where there is room for all
pub fields_room : (ns : List ℕ) (i : ℕ) → i < length ns → length (fields_after (take i ns)) + length (field (get_or ns i 0)) ≤ length (fields_after ns)
fields_room ns i h =
    let e : fields_after ns ≡ fields_after (take (i + 1) ns) ++ fields_after (drop (i + 1) ns) = ap fields_after (sym (take-append-drop (i + 1) ns)) ∙ fields_append (take (i + 1) ns) (drop (i + 1) ns) in
    omega (arith, ap length e, length-append (fields_after (take (i + 1) ns)) (fields_after (drop (i + 1) ns)), ap length (fields_next ns i h), length-append (fields_after (take i ns)) (field (get_or ns i 0)))
