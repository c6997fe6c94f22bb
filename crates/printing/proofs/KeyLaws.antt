-- From a key's bytes its lifts, its HELD line and its instructions can be read back uniquely: the lines can (text's law), and from the
-- lines `decode` gives the key back, of any device whose instructions can be read back from their lines.
use mathlib.Core.Path.{◌≡◌, refl, sym, ap, ◌∙◌}
use mathlib.Core.Bool.{false, cond}
use mathlib.Core.List.{List, [], ◌∷◌, ◌++◌}
use Prim.Native.Nat.{ℕ}
use lib.Dec.{eqb}
use lib.ListN.{get_or}
use Rattle.tree.specs.Tree.{is_in}
use Rattle.text.specs.Line.{Row}
use Rattle.text.proofs.LineLaws.{Plain, AllPlain, lines_unique}
use Rattle.player.specs.Instructions.{Operation, add, cut, both, Instruction, load, operate}
use Rattle.older_player.specs.Instructions as older
use Rattle.printing.specs.Key.{LiftAnswer, Held, unmarked, held_run, cannot, Key, refusal, answers, lift_rows, held_rows, word_of, instruction_row, older_row, instruction_rows, rows_of, text}

abbrev letter : Row → ℕ → ℕ
letter r i = get_or r.word i 0

abbrev field : Row → ℕ → ℕ
field r i = get_or r.numbers i 0

-- a device's instructions can be read back: no word has a tab or an LF, or the letter by which a LIFT, a HELD or a NO line is known
pub record Readable {I : Type 0} (row_for : I → Row) : Type 0 where
  pub back : Row → I
  pub again : (i : I) → back (row_for i) ≡ i
  pub plain : (i : I) → Plain (row_for i).word
  pub no_lift : (i : I) → eqb (letter (row_for i) 1) 73 ≡ false
  pub no_held : (i : I) → eqb (letter (row_for i) 1) 69 ≡ false
  pub no_refusal : (i : I) → eqb (letter (row_for i) 0) 78 ≡ false

module _ {I : Type 0} (row_for : I → Row) (R : Readable row_for) where
  -- ---- no word of a key has a tab or an LF
  instruction_plain : (is : List I) → AllPlain (instruction_rows row_for is)
  unfolding AllPlain instruction_rows
  instruction_plain [] = tt
  instruction_plain (i ∷ is) = (R.plain i, instruction_plain is)

  held_plain : (h : Held) (is : List I) → AllPlain (held_rows h ++ instruction_rows row_for is)
  unfolding AllPlain is_in
  held_plain unmarked is = instruction_plain is
  held_plain (held_run f c) is = (record { no_tab = refl; no_line_feed = refl }, instruction_plain is)
  held_plain cannot is = (record { no_tab = refl; no_line_feed = refl }, instruction_plain is)

  lift_plain : (ls : List LiftAnswer) (h : Held) (is : List I) → AllPlain (lift_rows ls ++ (held_rows h ++ instruction_rows row_for is))
  unfolding AllPlain lift_rows is_in
  lift_plain [] h is = held_plain h is
  lift_plain (a ∷ ls) h is = (record { no_tab = refl; no_line_feed = refl }, lift_plain ls h is)

  all_plain : (k : Key I) → AllPlain (rows_of row_for k)
  unfolding AllPlain is_in
  all_plain (refusal n l) = (record { no_tab = refl; no_line_feed = refl }, tt)
  all_plain (answers ls h is) = lift_plain ls h is

  -- ---- reading the lines back
  unfoldable instructions_of : List Row → List I
  instructions_of [] = []
  instructions_of (r ∷ rs) = R.back r ∷ instructions_of rs

  abbrev held_of : Row → Held
  held_of r = cond (eqb (field r 0) 19) cannot (held_run (field r 1) (field r 2))

  abbrev lift_of : Row → LiftAnswer
  lift_of r = record { number = field r 0; position = field r 1; looks = field r 2 }

  abbrev with_lift : LiftAnswer → Key I → Key I
  with_lift a (refusal n l) = refusal n l
  with_lift a (answers ls h is) = answers (a ∷ ls) h is

  -- LIFT by its I, HELD by its E, NO by its N
  unfoldable decode : List Row → Key I
  decode [] = answers [] unmarked []
  decode (r ∷ rs) =
      cond (eqb (letter r 1) 73) (with_lift (lift_of r) (decode rs))
      (cond (eqb (letter r 1) 69) (answers [] (held_of r) (instructions_of rs))
      (cond (eqb (letter r 0) 78) (refusal (field r 0) (field r 1)) (answers [] unmarked (R.back r ∷ instructions_of rs))))

  instructions_back : (is : List I) → instructions_of (instruction_rows row_for is) ≡ is
  unfolding instruction_rows instructions_of
  instructions_back [] = refl
  instructions_back (i ∷ is) = rw (R.again i, instructions_back is)

  unmarked_back : (is : List I) → decode (instruction_rows row_for is) ≡ answers [] unmarked is
  unfolding instruction_rows decode
  unmarked_back [] = refl
  unmarked_back (i ∷ is) = rw (R.no_lift i, R.no_held i, R.no_refusal i, R.again i, instructions_back is)

  lifts_back : (ls : List LiftAnswer) (h : Held) (is : List I) → decode (lift_rows ls ++ (held_rows h ++ instruction_rows row_for is)) ≡ answers ls h is
  unfolding lift_rows decode
  lifts_back [] unmarked is = unmarked_back is
  lifts_back [] (held_run f c) is = rw (instructions_back is)
  lifts_back [] cannot is = rw (instructions_back is)
  lifts_back (a ∷ ls) h is = ap (with_lift a) (lifts_back ls h is)

  rows_back : (k : Key I) → decode (rows_of row_for k) ≡ k
  unfolding decode
  rows_back (refusal n l) = refl
  rows_back (answers ls h is) = lifts_back ls h is

  -- bytes are the text of one key at most
  pub text_unique : (k j : Key I) → text row_for k ≡ text row_for j → k ≡ j
  unfolding text
  text_unique k j e = sym (rows_back k) ∙ ap decode (lines_unique (rows_of row_for k) (rows_of row_for j) (all_plain k) (all_plain j) e) ∙ rows_back j

-- ---- both devices: LOAD by its L, ADD by its A, CUT by its C, SHOW by its S
word_plain : (o : Operation) → Plain (word_of o)
unfolding is_in
word_plain add = record { no_tab = refl; no_line_feed = refl }
word_plain cut = record { no_tab = refl; no_line_feed = refl }
word_plain both = record { no_tab = refl; no_line_feed = refl }

abbrev operation_of : Row → Operation
operation_of r = cond (eqb (letter r 0) 65) add (cond (eqb (letter r 0) 67) cut both)

pub newer_readable : Readable instruction_row
unfolding is_in
newer_readable = record {
  back = λ r. cond (eqb (letter r 0) 76) (load (field r 0) (field r 1)) (operate (operation_of r) (field r 0) (field r 1) (field r 2));
  again = again;
  plain = plain;
  no_lift = λ i. no_73 i;
  no_held = no_69;
  no_refusal = no_78;
}
  where
    again : (i : Instruction) → cond (eqb (letter (instruction_row i) 0) 76) (load (field (instruction_row i) 0) (field (instruction_row i) 1)) (operate (operation_of (instruction_row i)) (field (instruction_row i) 0) (field (instruction_row i) 1) (field (instruction_row i) 2)) ≡ i
    again (load a b) = refl
    again (operate add a b c) = refl
    again (operate cut a b c) = refl
    again (operate both a b c) = refl

    plain : (i : Instruction) → Plain (instruction_row i).word
    plain (load a b) = record { no_tab = refl; no_line_feed = refl }
    plain (operate o a b c) = word_plain o

    no_73 : (i : Instruction) → eqb (letter (instruction_row i) 1) 73 ≡ false
    no_73 (load a b) = refl
    no_73 (operate add a b c) = refl
    no_73 (operate cut a b c) = refl
    no_73 (operate both a b c) = refl

    no_69 : (i : Instruction) → eqb (letter (instruction_row i) 1) 69 ≡ false
    no_69 (load a b) = refl
    no_69 (operate add a b c) = refl
    no_69 (operate cut a b c) = refl
    no_69 (operate both a b c) = refl

    no_78 : (i : Instruction) → eqb (letter (instruction_row i) 0) 78 ≡ false
    no_78 (load a b) = refl
    no_78 (operate add a b c) = refl
    no_78 (operate cut a b c) = refl
    no_78 (operate both a b c) = refl

pub older_readable : Readable older_row
unfolding is_in
older_readable = record {
  back = λ r. cond (eqb (letter r 0) 76) (older.load (field r 0) (field r 1)) (cond (eqb (letter r 0) 83) (older.show (field r 0)) (older.change (operation_of r) (field r 0) (field r 1)));
  again = again;
  plain = plain;
  no_lift = no_73;
  no_held = no_69;
  no_refusal = no_78;
}
  where
    again : (i : older.Instruction) → cond (eqb (letter (older_row i) 0) 76) (older.load (field (older_row i) 0) (field (older_row i) 1))
        (cond (eqb (letter (older_row i) 0) 83) (older.show (field (older_row i) 0)) (older.change (operation_of (older_row i)) (field (older_row i) 0) (field (older_row i) 1))) ≡ i
    again (older.load a b) = refl
    again (older.change add a b) = refl
    again (older.change cut a b) = refl
    again (older.change both a b) = refl
    again (older.show r) = refl

    plain : (i : older.Instruction) → Plain (older_row i).word
    plain (older.load a b) = record { no_tab = refl; no_line_feed = refl }
    plain (older.change o a b) = word_plain o
    plain (older.show r) = record { no_tab = refl; no_line_feed = refl }

    no_73 : (i : older.Instruction) → eqb (letter (older_row i) 1) 73 ≡ false
    no_73 (older.load a b) = refl
    no_73 (older.change add a b) = refl
    no_73 (older.change cut a b) = refl
    no_73 (older.change both a b) = refl
    no_73 (older.show r) = refl

    no_69 : (i : older.Instruction) → eqb (letter (older_row i) 1) 69 ≡ false
    no_69 (older.load a b) = refl
    no_69 (older.change add a b) = refl
    no_69 (older.change cut a b) = refl
    no_69 (older.change both a b) = refl
    no_69 (older.show r) = refl

    no_78 : (i : older.Instruction) → eqb (letter (older_row i) 0) 78 ≡ false
    no_78 (older.load a b) = refl
    no_78 (older.change add a b) = refl
    no_78 (older.change cut a b) = refl
    no_78 (older.change both a b) = refl
    no_78 (older.show r) = refl
