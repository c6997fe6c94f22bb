-- The one proof of the table of samples. Lifts are computed; where no tree is gathered, five fillings say so; and where one is, it
-- is shown, and its truth table is computed.
use mathlib.Core.Path.{refl}
use mathlib.Core.List.{[], ◌∷◌}
use native.Mathlib.Omega.{arith}
use Rattle.tree.specs.Tree.{Tree, leaf, node, union, difference, postfix, size, selects, Over, leaves, is_in, collect}
use Rattle.tree.specs.Context.{frame, left, right, plug, before, OverAbove}
use Rattle.tree.specs.Pass.{entry_of, pass}
use Rattle.tree.specs.Parse.{parse, tree_of, locate}
use Rattle.step.specs.Step.{step}
use Rattle.lift.specs.Lift.{steps, lift_of}
use Rattle.table.specs.InnerTable.{filling, tabulate, table}
use Rattle.gather.specs.Answer.{gather_fault, bad_mark}
use Rattle.table.proofs.TableLaws.{table_law}
use Rattle.gather.proofs.GatheringLaws.{fillings_cannot}
use Rattle.key.specs.Samples.{Samples}

-- the leaves of the groups 1 to 4
abbrev one : Tree
one = leaf 1 tt

abbrev two : Tree
two = leaf 2 tt

abbrev three : Tree
three = leaf 3 tt

abbrev four : Tree
four = leaf 4 tt

pub samples : Samples
unfolding lift_of steps step tree_of parse pass entry_of locate plug before postfix size gather_fault bad_mark is_in collect leaves OverAbove Over selects filling tabulate table
samples = record {
  i = record { answers = refl; writes = refl };
  ii = refl;
  iii = refl;
  iv = record { answers = refl; writes = refl };
  v = record { answers = refl; writes = refl };
  vi = record { answers = refl; writes = refl };
  -- where 4 alone is in, it follows 1; where 3 alone is in, it follows 2
  vii = record {
    tree = node union (node difference one three) (node difference two four);
    listed = refl;
    faultless = refl;
    cannot = fillings_cannot (record {
      p = is_in [];
      q = is_in (1 ∷ []);
      w = is_in (2 ∷ []);
      r = is_in (4 ∷ []);
      s = is_in (3 ∷ []);
      qr = refl;
      ws = refl;
      pr = refl;
      qs = refl;
    });
  };
  -- (1 U 2) − 3
  viii = record {
    tree = node union (node difference one three) (node difference two three);
    listed = refl;
    faultless = refl;
    result = node difference (node union one two) three;
    holder = 2;
    equivalent = (table_law (1 ∷ 2 ∷ 3 ∷ []) (node union (node difference one three) (node difference two three)) (node difference (node union one two) three)
        (omega arith) ((refl, refl), (refl, refl)) ((refl, refl), refl)).tables_equivalent refl;
    gathered = record {
      holder = node union one two;
      above = frame left difference three ∷ [];
      whole = refl;
      marked = (refl, refl);
      others = (refl, tt);
      at = refl;
    };
  };
  -- where 2 is out, it follows 1; where 2 is in, the contrary
  ix = record {
    tree = node union (node difference one two) (node difference two one);
    listed = refl;
    faultless = refl;
    cannot = fillings_cannot (record {
      p = is_in [];
      q = is_in (1 ∷ []);
      w = is_in [];
      r = is_in [];
      s = is_in (2 ∷ []);
      qr = refl;
      ws = refl;
      pr = refl;
      qs = refl;
    });
  };
  -- 2 − (2 − 1)
  x = record {
    tree = node difference one (node difference one two);
    listed = refl;
    faultless = refl;
    result = node difference two (node difference two one);
    holder = 2;
    equivalent = (table_law (1 ∷ 2 ∷ []) (node difference one (node difference one two)) (node difference two (node difference two one))
        (omega arith) (refl, (refl, refl)) (refl, (refl, refl))).tables_equivalent refl;
    gathered = record {
      holder = one;
      above = frame right difference two ∷ frame right difference two ∷ [];
      whole = refl;
      marked = refl;
      others = (refl, (refl, tt));
      at = refl;
    };
  };
}
