-- Request 7 of 02: which tables loading accepts, and which tables by value loading made.
use mathlib.Core.Path.{◌≡◌, sym, ap, ap₂, subst, ◌∙◌}
use mathlib.Core.Bool.{Bool, true, false, ◌&&◌}
use mathlib.Core.Option.{some}
use mathlib.Core.List.{List}
use Prim.Native.Nat.{ℕ, ◌≤◌}
use lib.Dec.{T, eqb, eqb→eq}
use borrow.Author.Tests.{eq-eqb}
use lib.ListN.{length}
use Rattle.common.specs.Exactly.{Exactly}
use Rattle.tree.specs.Tree.{apply}
use Rattle.tree.proofs.TreeLaws.{and_left, and_right}
use Rattle.words.specs.Formula.{Formula, value, once, level_of_a, agree}
use Rattle.words.specs.Word.{word, most_signs}
use Rattle.words.proofs.FormulaLaws.{agree_at}
use Rattle.moves.specs.Moves.{State, Input}
use Rattle.moves.specs.LeftSides.{left_side, stands_for}
use Rattle.moves.proofs.SideLaws.{all_agree}
use Rattle.move_table.specs.Loading.{Place, places, loaded, loading, entry_in}
use Rattle.move_table.specs.Packing.{packed, unpacked}
use Rattle.move_table.specs.declared.LoadedTable.{LoadedTable}
use Rattle.move_table.proofs.SchoolLaws.{Stands, entries_count, stands_at, listed, all_listed, lines_for, text_loaded, loading_lines, unpacked_made, loaded_unpacked}

-- ---- which tables loading accepts
-- "A table is 36 lines": the lines of a table's words, one after another
abbrev pub table_text : (State → Input → Formula) → List ℕ
table_text f = lines_for f places

-- the bytes are the table of these formulas: every state and input appears once in order, and "each word holds A once, at level 2 of the word, and
-- selects as the left side does under all sixteen fillings of A, B, C and D", in 1 to 31 signs
pub record IsTable (bytes : List ℕ) (f : State → Input → Formula) : Type 0 where
  pub text : bytes ≡ table_text f
  pub once_a : (x : State) (i : Input) → T (once (f x i))
  pub level_2 : (x : State) (i : Input) → level_of_a (f x i) ≡ 2
  pub selects : (x : State) (i : Input) (a b c d : Bool) → value apply a b c d (f x i) ≡ value apply a b c d (left_side x i)
  pub short : (x : State) (i : Input) → length (word (f x i)) ≤ most_signs

both : (x y : Bool) → T x → T y → T (x && y)
both true y t u = u
both false y t u = elim t [ ]

may_stand : (bytes : List ℕ) (f : State → Input → Formula) → IsTable bytes f → (at : Place) → Stands at (f at.state at.input)
may_stand bytes f t at =
    let x = at.state in
    let i = at.input in
    let p = f x i in
    record {
      stands = both (once p) _ (t.once_a x i)
          (both (eqb (level_of_a p) 2) (agree apply p (left_side x i)) (subst T (sym (eq-eqb (level_of_a p) 2 (t.level_2 x i))) tt) (all_agree apply p (left_side x i) (t.selects x i)));
      short = t.short x i;
    }

is_table_lem : (bytes : List ℕ) (ps : List Formula) → loading bytes ≡ loaded ps → IsTable bytes (entry_in ps)
is_table_lem bytes ps e =
    let lines = loading_lines bytes ps e in
    let held : (x : State) (i : Input) → T (stands_for x i (entry_in ps x i)) = λ x i. (stands_at lines.entries x i).stands in
    let other : (x : State) (i : Input) → T (eqb (level_of_a (entry_in ps x i)) 2 && agree apply (entry_in ps x i) (left_side x i)) = λ x i. and_right (once (entry_in ps x i)) _ (held x i) in
    record {
      text = lines.text (entry_in ps) (all_listed ps (entries_count lines.entries));
      once_a = λ x i. and_left (once (entry_in ps x i)) _ (held x i);
      level_2 = λ x i. eqb→eq (level_of_a (entry_in ps x i)) 2 (and_left (eqb (level_of_a (entry_in ps x i)) 2) (agree apply (entry_in ps x i) (left_side x i)) (other x i));
      selects = λ x i. agree_at apply (entry_in ps x i) (left_side x i) (and_right (eqb (level_of_a (entry_in ps x i)) 2) (agree apply (entry_in ps x i) (left_side x i)) (other x i));
      short = λ x i. (stands_at lines.entries x i).short;
    }

-- Loading accepts a table exactly when every state and input appears once in order, and each word holds A once, at level 2 of the word, and selects
-- as the left side does under all sixteen fillings of A, B, C and D.
pub accepts_exactly : (bytes : List ℕ) → Exactly ((ps : List Formula) × (loading bytes ≡ loaded ps)) ((f : State → Input → Formula) × IsTable bytes f)
accepts_exactly bytes = record {
  only = λ l. (entry_in l.0, is_table_lem bytes l.0 l.1);
  always = λ t. (listed t.0 places, ap loading t.1.text ∙ text_loaded t.0 (may_stand bytes t.0 t.1));
}

-- ---- which tables by value loading made
-- A table by value is unpacked exactly when loading made it.
pub made_exactly : (t : LoadedTable) (ps : List Formula) → length t.signs ≡ 1116 → length t.lengths ≡ 36
    → Exactly (unpacked t ≡ some ps) ((bytes : List ℕ) × (loading bytes ≡ loaded ps) × (t ≡ packed ps))
made_exactly t ps h k = record {
  only = λ e.
      let made = unpacked_made t ps h k e in
      let f = entry_in ps in (
        lines_for f places,
        text_loaded f (λ at. stands_at made.entries at.state at.input) ∙ ap loaded (all_listed ps (entries_count made.entries)),
        ap₂ (λ (l m : List ℕ). record { signs = l; lengths = m }) made.in_rows made.measured,
      );
  always = λ l. ap unpacked l.2 ∙ loaded_unpacked l.0 ps l.1;
}
