-- A table by value: its rows and their lengths, and that the entries of a table are those of which it is made.
use mathlib.Core.Path.{◌≡◌, refl, sym, ap, ap₂, ◌∙◌}
use mathlib.Core.Bool.{Bool, true, false, cond, ◌&&◌}
use mathlib.Core.Option.{Option, some, none}
use mathlib.Core.List.{List, [], ◌∷◌}
use Prim.Native.Nat.{ℕ, ◌+◌, ◌-◌, ◌*◌, ◌≤◌, ◌<◌}
use native.Mathlib.Omega.{arith}
use borrow.Author.Tests.{eq-eqb, ne_eqb}
use lib.Dec.{eqb}
use lib.ListN.{length, get_or, take, drop, drop_of_length-le}
use lib.Seq.{drop-drop}
use Rattle.std.proofs.Common.{◌≢◌}
use Rattle.std.specs.Bool.{MatchBool}
use Rattle.std.specs.List.{All, SomeIndex, list_all}
use Rattle.std.proofs.lemmas.List.Folds.{list_all_at}
use Rattle.std.proofs.lemmas.List.Sums.{list_all-from_AllPass}
use Rattle.tree.proofs.PassLaws.{here}
use Rattle.tree.specs.Tree.{is_up_to}
use Rattle.words.specs.Formula.{Formula}
use Rattle.words.specs.Word.{most_signs}
use Rattle.moves.specs.LeftSides.{entry_for}
use Rattle.left_sides.specs.InnerStands.{is_formula}
use Rattle.move_table.specs.Loading.{Place, places}
use Rattle.move_table.specs.Packing.{all_zero, entry_of_row, before, entries_of}
use Rattle.move_table.specs.InnerLoading.{place_at, is_table}
use Rattle.move_table.proofs.LineLaws.{remaining, remaining_more, remaining_none}

-- ---- nothing but zeros
pub zero_here : (bytes : List ℕ) (i : ℕ) → i < length bytes → get_or bytes i 0 ≡ 0 → all_zero (drop i bytes) ≡ all_zero (drop (i + 1) bytes)
zero_here bytes i h e = rw (here bytes i h) (unfold all_zero in rw (eq-eqb (get_or bytes i 0) 0 e))

pub zero_end : (bytes : List ℕ) (i : ℕ) → i < length bytes → (get_or bytes i 0 ≡ 0 → ⊥) → all_zero (drop i bytes) ≡ false
zero_end bytes i h n = rw (here bytes i h) (unfold all_zero in rw (ne_eqb (get_or bytes i 0) 0 n))

pub zero_none : (bytes : List ℕ) (i : ℕ) → length bytes ≤ i → all_zero (drop i bytes) ≡ true
zero_none bytes i h = rw (drop_of_length-le bytes h) (unfold all_zero in refl)

zeros_all : (bytes : List ℕ) → list_all (λ b. eqb b 0) bytes ≡ all_zero bytes
unfolding all_zero
zeros_all [] = refl
zeros_all (b ∷ bytes) = ap (λ (x : Bool). eqb b 0 && x) (zeros_all bytes)

pub zeros_tested : (bytes : List ℕ) (r : Bool) → MatchBool r (All (λ b. b ≡ 0) bytes) (SomeIndex bytes (λ k. get_or bytes k 0 ≢ 0)) → r ≡ all_zero bytes
zeros_tested bytes true h = sym (list_all-from_AllPass (λ b. eqb b 0) bytes (λ k d l. eq-eqb (get_or bytes k d) 0 (h k d l))) ∙ zeros_all bytes
zeros_tested bytes false h = sym (list_all_at (λ b. eqb b 0) bytes h.0 0 h.1 (ne_eqb (get_or bytes h.0 0) 0 h.2)) ∙ zeros_all bytes

-- ---- as the code tests a row
pub row_tested : (at : Place) (row : List ℕ) (n : ℕ) (zeros a b : Bool) → is_up_to most_signs n ≡ a → zeros ≡ all_zero (drop n row) → zeros ≡ b
    → is_formula (entry_of_row at row n) ≡ (a && (b && is_formula (entry_for at.state at.input (take n row))))
row_tested at row n zeros a b e f g =
    ap₂ (λ (x y : Bool). is_formula (cond (x && y) (entry_for at.state at.input (take n row)) none)) e (sym f ∙ g) ∙ go a b
  where
    go : (a b : Bool) → is_formula (cond (a && b) (entry_for at.state at.input (take n row)) none) ≡ (a && (b && is_formula (entry_for at.state at.input (take n row))))
    go true true = refl
    go true false = refl
    go false b = refl

-- ---- row by row
is_table_before : (o : Option Formula) (r : Option (List Formula)) → is_table (before o r) ≡ (is_formula o && is_table r)
is_table_before none r = refl
is_table_before (some p) none = refl
is_table_before (some p) (some ps) = refl

-- whether the rows from a place on are a table's
unfoldable pub table_from : ℕ → List ℕ → List ℕ → Bool
table_from place signs ns = is_table (entries_of (remaining place) (drop (most_signs * place) signs) (drop place ns))

pub table_from_first : (signs ns : List ℕ) → is_table (entries_of places signs ns) ≡ table_from 0 signs ns
unfolding table_from remaining
table_from_first signs ns = refl

pub table_from_more : (place : ℕ) (signs ns : List ℕ) → place < 36 → place < length ns
    → table_from place signs ns ≡ (is_formula (entry_of_row (place_at place) (take most_signs (drop (most_signs * place) signs)) (get_or ns place 0)) && table_from (place + 1) signs ns)
unfolding table_from entries_of
table_from_more place signs ns h k =
    ap₂ (λ (l : List Place) (m : List ℕ). is_table (entries_of l (drop (most_signs * place) signs) m)) (remaining_more place h) (here ns place k)
    ∙ is_table_before (entry_of_row (place_at place) (take most_signs (drop (most_signs * place) signs)) (get_or ns place 0)) (entries_of (remaining (place + 1)) (drop most_signs (drop (most_signs * place) signs)) (drop (place + 1) ns))
    ∙ ap (λ (l : List ℕ). is_formula (entry_of_row (place_at place) (take most_signs (drop (most_signs * place) signs)) (get_or ns place 0)) && is_table (entries_of (remaining (place + 1)) l (drop (place + 1) ns)))
    (drop-drop most_signs (most_signs * place) signs ∙ ap (λ (n : ℕ). drop n signs) (let z : most_signs * place + most_signs ≡ most_signs * (place + 1) = omega arith in z))

-- as the code takes a row
pub row_part : (place : ℕ) (signs : List ℕ) → take (most_signs * place + most_signs - most_signs * place) (drop (most_signs * place) signs) ≡ take most_signs (drop (most_signs * place) signs)
row_part place signs = ap (λ (n : ℕ). take n (drop (most_signs * place) signs)) (let z : most_signs * place + most_signs - most_signs * place ≡ most_signs = omega arith in z)

-- by the code's test of a row
pub table_row : (place : ℕ) (signs ns : List ℕ) → place < 36 → length ns ≡ 36 → (n : ℕ) → n ≡ get_or ns place 0 → (r : Bool)
    → r ≡ is_formula (entry_of_row (place_at place) (take (most_signs * place + most_signs - most_signs * place) (drop (most_signs * place) signs)) n)
    → (b : Bool) → r ≡ b → table_from place signs ns ≡ (b && table_from (place + 1) signs ns)
table_row place signs ns h k n f r told b e =
    table_from_more place signs ns h (omega arith)
    ∙ ap (λ (x : Bool). x && table_from (place + 1) signs ns)
    (ap₂ (λ (i n : ℕ). is_formula (entry_of_row (place_at place) (take i (drop (most_signs * place) signs)) n)) (let z : most_signs ≡ most_signs * place + most_signs - most_signs * place = omega arith in z) (sym f)
    ∙ sym told ∙ e)

pub table_from_last : (place : ℕ) (signs ns : List ℕ) → place ≡ 36 → table_from place signs ns ≡ true
unfolding table_from entries_of
table_from_last place signs ns e = ap (λ (l : List Place). is_table (entries_of l (drop (most_signs * place) signs) (drop place ns))) (remaining_none place e)
