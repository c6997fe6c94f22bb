-- A step's answer, from its plan and what the replacement answered.
use mathlib.Core.Path.{◌≡◌, refl, sym, ap, subst, ◌∙◌}
use mathlib.Core.Bool.{Bool, true, false, ◌||◌, true≢false, false≢true}
use mathlib.Core.Logic.{◌⊎◌, inl, inr}
use mathlib.Core.Option.{Option, some, none}
use mathlib.Core.List.{List, [], ◌∷◌, ◌++◌, append-nil}
use Prim.Native.Nat.{ℕ, zero, suc, ◌+◌, ◌-◌, ◌*◌, ◌≤◌, ◌<◌, ◌%◌}
use native.Mathlib.Omega.{arith}
use borrow.Author.Tests.{lt-leb, ne_eqb}
use lib.Dec.{T, eqb, leb}
use lib.ListN.{length, get_or, take, drop, replicate, length-append}
use Rattle.tree.specs.Tree.{Tree, node, postfix, most_nodes}
use Rattle.std.specs.Prelude.{Option as Maybe, Some, None, Err}
use Rattle.tree.specs.declared.Stretch.{Stretch}
use Rattle.tree.specs.Context.{Frame, plug, before}
use Rattle.tree.proofs.ContextLaws.{after, postfix_plug, plug_append, size_plug}
use Rattle.tree.proofs.TreeLaws.{postfix_length}
use Rattle.tree.proofs.PartLaws.{part_take, part_drop, part_own}
use Rattle.words.specs.Formula.{Formula, value, frames_of, once}
use Rattle.words.specs.Word.{word}
use Rattle.words.specs.InnerWords.{blank, Range, Within, spell, leading, replaced}
use Rattle.words.specs.InnerReplacing.{Written, ReplacedBy, Replaced}
use Rattle.words.specs.declared.Replacement.{Replacement}
use Rattle.words.proofs.FormulaLaws.{plug_frames}
use Rattle.words.proofs.WordLaws.{Parts, spell_append, spell_blanks, spell_word, before_append, before_frames}
use Rattle.moves.specs.Moves.{State, state_number, Input, Move, MoveTable, ours, school, place_number}
use Rattle.moves.specs.InnerEntries.{number_of, column, row_signs, padded, entry_of, only_t, EntryIs, NextIs, WordIs, LeavesTwoUnder, AloneUpTo, WordsHeld, TableBy, TableIs}
use Rattle.moves.proofs.TableLaws.{state_range, input_range, input_round}
use Rattle.moves.proofs.MoveLaws.{alone_number}
use Rattle.step.specs.InnerStanding.{Standing}
use Rattle.step.specs.InnerSteps.{ReplaceIs, Planned, StepTooLong, StepDone, StepIs}
use Rattle.step.specs.declared.Node.{Node}
use Rattle.step.specs.declared.Plan.{Plan}
use Rattle.step.specs.declared.Refusal.{Refusal}
use Rattle.step.specs.declared.Refusal.TheVariants.{NoStep, ThroughIntersection, TooLong}

some_length : (x : ℕ) (xs : List ℕ) → eqb (length (x ∷ xs)) 0 ≡ false
some_length x xs = ne_eqb (length (x ∷ xs)) 0 (λ e. omega arith)

first_false : (x y : Bool) → (x || y) ≡ false → x ≡ false
first_false true y e = e
first_false false y e = refl

second_false : (x y : Bool) → (x || y) ≡ false → y ≡ false
second_false true y e = absurd (true≢false e)
second_false false y e = e

abbrev four : Node → Plan → List Stretch
four n p = n.part ∷ p.b ∷ p.c ∷ p.d ∷ []

module _ {m : MoveTable} {l : List ℕ} {n : Node} {c : List Frame} {p : Plan} (H : ReplaceIs m l n c p) where
  pub within : Range l n.part → Within l (four n p)
  within r zero h = r
  within r (suc zero) h = H.range_b
  within r (suc (suc zero)) h = H.range_c
  within r (suc (suc (suc zero))) h = H.range_d
  within r (suc (suc (suc (suc k)))) h = absurd (omega arith)

  pub in_table : (1 ≤ p.state) × (p.state ≤ 9)
  in_table = omega (arith, H.state_is, state_range H.at_state)

  module _ {a : Tree} (S : Standing l n a c) where
    abbrev entry : Formula
    entry = entry_of H.move H.at_input

    abbrev stretches : List Stretch
    stretches = four n p

    parts : Parts l stretches a H.b H.c' H.d
    parts = record { of_a = part_own S.part; of_b = H.cut_b; of_c = H.cut_c; of_d = H.cut_d }

    abbrev e : List Frame
    e = frames_of H.b H.c' H.d entry

    module _ {w : List ℕ} (W : WordIs w entry) where
      spelled : spell l stretches w ≡ postfix (value node a H.b H.c' H.d entry)
      spelled =
          ap (spell l stretches) W.is ∙ spell_append l stretches (word entry) (replicate W.blanks blank)
          ∙ ap (λ (x : List ℕ). spell l stretches (word entry) ++ x) (spell_blanks l stretches W.blanks) ∙ append-nil (spell l stretches (word entry))
          ∙ spell_word l stretches a H.b H.c' H.d parts entry

      new_list : replaced l stretches w p.old ≡ postfix (plug a (e ++ H.r))
      unfolding replaced
      new_list =
          ap (λ (x : List ℕ). x ++ (spell l stretches w ++ drop p.old.to l)) (part_take H.stretch)
          ∙ ap (λ (x : List ℕ). before H.r ++ (spell l stretches w ++ x)) (part_drop H.stretch)
          ∙ ap (λ (x : List ℕ). before H.r ++ (x ++ after H.r)) spelled
          ∙ sym (postfix_plug (value node a H.b H.c' H.d entry) H.r)
          ∙ ap (λ (x : Tree). postfix (plug x H.r)) (sym (plug_frames a H.b H.c' H.d entry H.names_once))
          ∙ ap postfix (sym (plug_append a e H.r))

      new_start : p.old.from + length (spell l stretches (leading w)) ≡ length (before (e ++ H.r))
      new_start =
          ap (λ (k : ℕ). k + length (spell l stretches (leading w))) H.stretch.begins
          ∙ ap (λ (x : List ℕ). length (before H.r) + length (spell l stretches (leading x))) W.is
          ∙ ap (λ (x : List ℕ). length (before H.r) + length x) (sym (before_frames l stretches a H.b H.c' H.d parts entry H.names_once (replicate W.blanks blank)))
          ∙ sym (length-append (before H.r) (before e)) ∙ ap length (sym (before_append e H.r))

      -- what the replacement answered of the new list
      module _ {made : Maybe Replacement} {out : List ℕ} (Q : Replaced l stretches w p.old made out) where
        answered : ReplacedBy (postfix (plug a (e ++ H.r))) (length (before (e ++ H.r))) made out
        answered =
            subst (λ (xs : List ℕ). ReplacedBy xs (length (before (e ++ H.r))) made out) new_list
            (subst (λ (k : ℕ). ReplacedBy (replaced l stretches w p.old) k made out) new_start Q.by_word)

        pub too_long : made ≡ None → StepTooLong m a c
        too_long q = let h = subst (λ (k : Maybe Replacement). ReplacedBy (postfix (plug a (e ++ H.r))) (length (before (e ++ H.r))) k out) q answered in
            record { e = e ++ H.r; moves = H.moves; long = omega (arith, h, postfix_length (plug a (e ++ H.r))) }

        module _ (r : Replacement) (q : made ≡ Some r) where
          new : (r.from ≡ length (before (e ++ H.r))) × Written (postfix (plug a (e ++ H.r))) r.nodes out
          new = subst (λ (k : Maybe Replacement). ReplacedBy (postfix (plug a (e ++ H.r))) (length (before (e ++ H.r))) k out) q answered

          -- the numbers stay small
          pub ends_within : r.from + (n.part.to - n.part.from) ≤ most_nodes
          ends_within = omega (arith, S.part.ends, new.0, new.1.length_is, new.1.short, size_plug a (e ++ H.r), postfix_length (plug a (e ++ H.r)))

          -- the word leaves two frames above A
          leaves : (y : Option Input) → ((i : Input) → y ≡ some i → entry_of H.move i ≡ entry) → LeavesTwoUnder w H.move y
          leaves none f = tt
          leaves (some i) f = record {
            its_word = subst (WordIs w) (sym (f i refl)) W;
            names_once = subst (λ (x : Formula). T (once x)) (sym (f i refl)) H.names_once;
            two = H.two i;
          }

          pub step_done : (s : Maybe ℕ) → NextIs w p.alone p.input s → StepDone m a c r.nodes (record { part = record { from = r.from; to = r.from + (n.part.to - n.part.from) }; state = s }) out
          step_done s t = record {
            e = e ++ H.r;
            moves = H.moves;
            length_is = new.1.length_is ∙ postfix_length (plug a (e ++ H.r));
            short = new.1.short;
            stands = record {
              part = record { whole = new.1.entries; begins = new.0; ends = omega (arith, S.part.ends) };
              state = t H.move H.letter H.alone_is H.letter_is (leaves H.letter H.same_entry) ∙ sym (ap number_of H.next);
            };
          }

-- ---- the word of the table's entry
-- ours, where T alone is replaced or no table is given
pub our_word : {m : MoveTable} {l : List ℕ} {n : Node} {c : List Frame} {p : Plan} {signs lengths w : List ℕ} {k : ℕ}
    (H : ReplaceIs m l n c p) → TableIs m signs lengths → (p.alone || eqb (length lengths) 0) ≡ true → k ≡ column p.input → EntryIs p.state k w
    → WordIs w (entry_of H.move H.at_input)
our_word {m} {l} {n} {c} {p} {signs = signs} {lengths = lengths} {w = w} H K e q E =
    let round = ap (λ (k : ℕ). k % 4) (q ∙ H.input_is) ∙ input_round H.at_input in
    record { blanks = row_signs - length (word (entry_of H.move H.at_input)); is = E H.at_state H.at_input H.state_is round ∙ ap (λ (v : Move). padded (word (entry_of v H.at_input))) (sym (its_move p.alone refl lengths K.by e)) }
  where
    its_move : (b : Bool) → p.alone ≡ b → (ns : List ℕ) → TableBy m signs ns → (b || eqb (length ns) 0) ≡ true → H.move ≡ ours H.at_state
    its_move true f ns k e = H.own f
    its_move false f [] k e = H.table f ∙ ap (λ (m : MoveTable). m H.at_state) k
    its_move false f (x ∷ ns) k e = absurd (false≢true (sym (some_length x ns) ∙ e))

-- that of the table's row, where it is a school's
module _ {m : MoveTable} {l : List ℕ} {n : Node} {c : List Frame} {p : Plan} {signs lengths : List ℕ}
    (H : ReplaceIs m l n c p) (K : TableIs m signs lengths) (e : (p.alone || eqb (length lengths) 0) ≡ false) where
  school_words : (f : State → Input → Formula) × (m ≡ school f) × WordsHeld f signs lengths
  school_words = go lengths K.by (second_false p.alone (eqb (length lengths) 0) e)
    where
      go : (ns : List ℕ) → TableBy m signs ns → eqb (length ns) 0 ≡ false → (f : State → Input → Formula) × (m ≡ school f) × WordsHeld f signs ns
      go [] k e = absurd (true≢false e)
      go (x ∷ ns) k e = k

  abbrev f : State → Input → Formula
  f = school_words.0

  abbrev held : WordsHeld f signs lengths
  held = school_words.2

  its_place : place_number H.at_state H.at_input ≡ 4 * (p.state - 1) + column p.input
  its_place = omega (arith, H.state_is, H.input_is)

  pub row_place : 4 * (p.state - 1) + column p.input < 36
  row_place = omega (arith, H.state_is, H.input_is, state_range H.at_state, input_range H.at_input)

  pub row_counted : length lengths ≡ 36
  row_counted = held.count

  pub row_signs_lem : length signs ≡ 1116
  row_signs_lem = held.room

  pub row_length : get_or lengths (4 * (p.state - 1) + column p.input) 0 ≤ 31
  row_length =
      let z = ap (λ (k : ℕ). get_or lengths k 0) (sym its_place) in
      omega (arith, held.measured H.at_state H.at_input, held.short H.at_state H.at_input, z)

  rest : (j k : ℕ) → j + k - j ≡ k
  rest j k = omega arith

  pub row_word : let k = 4 * (p.state - 1) + column p.input in WordIs (take (31 * k + get_or lengths k 0 - 31 * k) (drop (31 * k) signs)) (entry_of H.move H.at_input)
  row_word = record {
    blanks = 0;
    is =
        ap (λ (k : ℕ). take k (drop (31 * (4 * (p.state - 1) + column p.input)) signs)) (rest (31 * (4 * (p.state - 1) + column p.input)) (get_or lengths (4 * (p.state - 1) + column p.input) 0))
        ∙ ap (λ (k : ℕ). take (get_or lengths k 0) (drop (31 * k) signs)) (sym its_place)
        ∙ ap (λ (k : ℕ). take k (drop (31 * place_number H.at_state H.at_input) signs)) (held.measured H.at_state H.at_input)
        ∙ held.spelled H.at_state H.at_input
        ∙ ap (λ (v : Move). word (entry_of v H.at_input)) (sym (H.table (first_false p.alone (eqb (length lengths) 0) e) ∙ ap (λ (m : MoveTable). m H.at_state) school_words.1))
        ∙ sym (append-nil (word (entry_of H.move H.at_input)));
  }

-- ---- a plan's refusal is the step's
pub plan_refused : (m : MoveTable) (l : List ℕ) (n : Node) (a : Tree) (c : List Frame) (out : List ℕ) (e : Refusal) → Planned m l n c (Err e) → StepIs m a c (Err e) out
plan_refused m l n a c out NoStep h = h
plan_refused m l n a c out ThroughIntersection h = h
plan_refused m l n a c out TooLong h = absurd h

-- ---- a table as the code holds it replaces T alone up to state 4, or in none
pub table_alone : {m : MoveTable} {signs lengths : List ℕ} → TableIs m signs lengths → (last : ℕ) → ((length lengths ≡ 0) × (last ≡ 4)) ⊎ ((length lengths ≡ 0 → ⊥) × (last ≡ 0)) → AloneUpTo m last
table_alone {m} {signs} {lengths} K last e = go lengths K.by e
  where
    go : (ns : List ℕ) → TableBy m signs ns → ((length ns ≡ 0) × (last ≡ 4)) ⊎ ((length ns ≡ 0 → ⊥) × (last ≡ 0)) → AloneUpTo m last
    go [] k (inr e) = absurd (e.0 refl)
    go (y ∷ ns) k (inl e) = absurd (omega (arith, e.0))
    go [] k (inl e) = record {
      signs = signs;
      lengths = lengths;
      holds = K;
      says = λ x. ap (λ (m : MoveTable). only_t (m x)) k ∙ alone_number x ∙ ap (leb (state_number x)) (sym e.1);
      own = λ x h. ap (λ (m : MoveTable). m x) k;
    }
    go (y ∷ ns) k (inr e) = record {
      signs = signs;
      lengths = lengths;
      holds = K;
      says = λ x. ap (λ (m : MoveTable). only_t (m x)) k.1 ∙ sym (ap (leb (state_number x)) e.1 ∙ lt-leb (state_number x) 0 (omega (arith, state_range x)));
      own = λ x h. absurd (false≢true (sym (ap (λ (m : MoveTable). only_t (m x)) k.1) ∙ h));
    }
