-- What each answer says of the two trees.
use mathlib.Core.Path.{◌≡◌, refl, sym, ap, ◌∙◌}
use mathlib.Core.Bool.{Bool, true, false, beq, true≢false}
use mathlib.Core.List.{List, [], ◌∷◌}
use Prim.Native.Nat.{ℕ, ◌≤◌}
use native.Mathlib.Omega.{arith}
use lib.ListN.{length}
use lib.Pointwise.{pointwise}
use Rattle.std.specs.Prelude.{Ok}
use Rattle.std.specs.Cmp.{booleans_Decides}
use Rattle.std.proofs.lemmas.Slice.Eq.{slice_eq-Decides}
use Rattle.common.specs.Exactly.{Exactly}
use Rattle.tree.specs.Tree.{Tree, postfix, size, most_nodes, most_groups, Over, Equivalent, is_in}
use Rattle.tree.specs.Parse.{tree_of}
use Rattle.tree.proofs.TreeLaws.{postfix_length}
use Rattle.tree.proofs.ParseLaws.{postfix_injective, tree_of_postfix}
use Rattle.table.specs.InnerTable.{table}
use Rattle.table.proofs.TableLaws.{table_law}
use Rattle.gather.specs.Gathering.{Gathered}
use Rattle.gather.specs.Inner.{GatheredList}
use Rattle.gather.proofs.WholeLaws.{the_same}
use Rattle.marking.specs.Marking.{mark, GatheredFor, MarksTree}
use Rattle.marking.specs.Inner.{Judged}
use Rattle.marking.specs.declared.Verdict.TheVariants.{Right, OtherLamps, NotGathered}

differ : {X : Type 0} {m n : ℕ} → mark m ≡ mark n → (m ≡ n → ⊥) → X
differ e h = absurd (h cc)

module _ {t u : Tree} {marks : List ℕ} where
  pub marks_other : (Equivalent t u → ⊥) → MarksTree t marks u (Ok OtherLamps)
  marks_other n = record {
    right = record { only = λ q. differ q (λ z. omega arith); always = λ e. absurd (n e.0) };
    other_lamps = record { only = λ _. n; always = λ _. refl };
    not_gathered = record { only = λ q. differ q (λ z. omega arith); always = λ e. absurd (n e.0) };
  }

  pub marks_right : Equivalent t u → GatheredFor marks u → MarksTree t marks u (Ok Right)
  marks_right e g = record {
    right = record { only = λ _. (e, g); always = λ _. refl };
    other_lamps = record { only = λ q. differ q (λ z. omega arith); always = λ n. absurd (n e) };
    not_gathered = record { only = λ q. differ q (λ z. omega arith); always = λ n. absurd (n.1 g) };
  }

  pub marks_not : Equivalent t u → (GatheredFor marks u → ⊥) → MarksTree t marks u (Ok NotGathered)
  marks_not e n = record {
    right = record { only = λ q. differ q (λ z. omega arith); always = λ g. absurd (n g.1) };
    other_lamps = record { only = λ q. differ q (λ z. omega arith); always = λ d. absurd (d e) };
    not_gathered = record { only = λ _. (e, n); always = λ _. refl };
  }

-- gathered for marks: for some marks it is `Gathered`, for none nothing is asked
pub gathered_some : (marks : List ℕ) (u : Tree) → 1 ≤ length marks → GatheredFor marks u → (p : ℕ) × Gathered (is_in marks) u p
unfolding GatheredFor
gathered_some [] u h g = absurd (omega arith)
gathered_some (m ∷ marks) u h g = g

pub gathered_for : (marks : List ℕ) (u : Tree) (p : ℕ) → Gathered (is_in marks) u p → GatheredFor marks u
unfolding GatheredFor
gathered_for [] u p g = tt
gathered_for (m ∷ marks) u p g = (p, g)

pub gathered_none : (marks : List ℕ) (u : Tree) → length marks ≡ 0 → GatheredFor marks u
unfolding GatheredFor
gathered_none [] u e = tt
gathered_none (m ∷ marks) u e = absurd (omega arith)

-- ---- `judge`
-- the tables of both trees tell whether the trees are equivalent
pub record SameLamps (list groups drawing : List ℕ) (same : Bool) : Type 0 where
  pub says : (t u : Tree) → list ≡ postfix t → drawing ≡ postfix u → length groups ≤ most_groups → Over (is_in groups) t → Over (is_in groups) u
      → Exactly (same ≡ true) (Equivalent t u)

-- by whatever tells whether the tables are the same
pub same_lamps_by : {list groups drawing : List ℕ} {same : Bool} (a b : List Bool) → ((t : Tree) → list ≡ postfix t → a ≡ table groups t) → ((u : Tree) → drawing ≡ postfix u → b ≡ table groups u)
    → Exactly (same ≡ true) (a ≡ b) → SameLamps list groups drawing same
same_lamps_by {groups = groups} a b tabled drawn compared = record {
  says = λ t u e f few p q.
      let law = table_law groups t u few p q in
      record {
        only = λ s. law.tables_equivalent (sym (tabled t e) ∙ compared.only s ∙ drawn u f);
        always = λ E. compared.always (tabled t e ∙ law.equivalent_tables E ∙ sym (drawn u f));
      };
}

pub same_lamps : {list groups drawing : List ℕ} (a b : List Bool) → ((t : Tree) → list ≡ postfix t → a ≡ table groups t) → ((u : Tree) → drawing ≡ postfix u → b ≡ table groups u)
    → SameLamps list groups drawing (pointwise beq a b)
same_lamps a b tabled drawn =
    let same = slice_eq-Decides booleans_Decides a b _ refl in
    same_lamps_by a b tabled drawn (record { only = λ s. same.0 s; always = λ e. same.1 e })

module _ {list groups drawing : List ℕ} {same : Bool} (S : SameLamps list groups drawing same) (marks : List ℕ) where
  pub judged_other : same ≡ false → Judged list groups marks drawing (Ok OtherLamps)
  judged_other n = record { judged = λ t u e f few p q. marks_other (λ E. true≢false (sym ((S.says t u e f few p q).always E) ∙ n)) }

  pub judged_unmarked : same ≡ true → length marks ≡ 0 → Judged list groups marks drawing (Ok Right)
  judged_unmarked s n = record { judged = λ t u e f few p q. marks_right ((S.says t u e f few p q).only s) (gathered_none marks u n) }

  module _ (s : same ≡ true) {gathered : Bool} (seen : Exactly (gathered ≡ true) (GatheredList drawing marks)) where
    pub judged_gathered : gathered ≡ true → Judged list groups marks drawing (Ok Right)
    judged_gathered g = record {
      judged = λ t u e f few p q.
          let G = seen.only g in
          let own : G.tree ≡ u = postfix_injective G.tree u (sym (the_same G.is) ∙ f) in
          marks_right ((S.says t u e f few p q).only s) (gathered_for marks u G.holder (rw own at G.gathered));
    }

    pub judged_not : (length marks ≡ 0 → ⊥) → length drawing ≤ most_nodes → gathered ≡ false → Judged list groups marks drawing (Ok NotGathered)
    judged_not some_mark most n = record {
      judged = λ t u e f few p q. marks_not ((S.says t u e f few p q).only s) (λ h.
          let held = gathered_some marks u (omega arith) h in
          let size-most : size u ≤ most_nodes = omega (arith, ap length f, postfix_length u) in
          true≢false (sym (seen.always (record { tree = u; is = ap tree_of f ∙ tree_of_postfix u size-most; holder = held.0; gathered = held.1 })) ∙ n));
    }
