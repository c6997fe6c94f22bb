-- Our own entries as a school's table: those of states 5 to 9 as they are, those of states 1 to 4, which replace T alone, with D joined on.
use mathlib.Core.Path.{◌≡◌, refl, sym, subst}
use mathlib.Core.Bool.{true}
use borrow.Author.Tests.{leb-true}
use lib.Dec.{T, leb}
use lib.ListN.{length}
use Rattle.words.specs.Formula.{Formula, D, ◌U◌, ◌−◌}
use Rattle.words.specs.Word.{word, most_signs}
use Rattle.moves.specs.Moves.{State, Input, under, Move, replace_t, replace_t_with_d, ours}
use Rattle.moves.specs.LeftSides.{stands_for}
use Rattle.moves.proofs.TableLaws.{same_entry}
use Rattle.move_table.specs.Loading.{places, loaded, loading}
use Rattle.move_table.proofs.SchoolLaws.{listed, text_loaded}
use Rattle.move_table.proofs.Theorems.{table_text}

-- what a move makes of T with D
abbrev with_d : Move → Input → Formula
with_d (replace_t p) i = under i (p U D) (p − D) (D U p) (D − p)
with_d (replace_t_with_d f) i = f i

abbrev pub own_entry : State → Input → Formula
own_entry x i = with_d (ours x) i

own_stands : (x : State) (i : Input) → stands_for x i (own_entry x i) ≡ true
own_stands = same_entry (λ x i. stands_for x i (own_entry x i)) (λ x i. true) refl

own_short : (x : State) (i : Input) → leb (length (word (own_entry x i))) most_signs ≡ true
own_short = same_entry (λ x i. leb (length (word (own_entry x i))) most_signs) (λ x i. true) refl

-- loading accepts them
pub own_accepted : loading (table_text own_entry) ≡ loaded (listed own_entry places)
own_accepted =
    text_loaded own_entry
    (λ at. record {
      stands = subst T (sym (own_stands at.state at.input)) tt;
      short = leb-true (length (word (own_entry at.state at.input))) most_signs (own_short at.state at.input);
    })
