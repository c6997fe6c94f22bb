-- After reading and after any lifts, gathering meets no fault but 19: the tree has at most 8 different groups, and the marks are
-- groups of it, each once.
use mathlib.Core.Path.{◌≡◌, refl, sym, ◌∙◌}
use mathlib.Core.Bool.{true, false}
use mathlib.Core.List.{List, [], ◌∷◌}
use Prim.Native.Nat.{ℕ, ◌≤◌}
use native.Mathlib.Omega.{arith}
use borrow.Author.Tests.{le-ltb, ne_eqb}
use lib.ListN.{length}
use Rattle.tree.specs.Tree.{Tree, postfix, size, most_nodes, is_in, groups, most_groups}
use Rattle.tree.specs.InnerGroups.{Distinct}
use Rattle.tree.proofs.TreeLaws.{leaves_over}
use Rattle.tree.proofs.GroupLaws.{groups_leaves, groups_most, over_groups, is_in_here, in_later}
use Rattle.tree.proofs.ParseLaws.{tree_of_postfix}
use Rattle.gather.specs.Answer.{bad_mark, gather_fault}
use Rattle.lift.proofs.LiftLaws.{Keeps}
use Rattle.key.specs.Inner.{Markable}

-- lifts keep the groups
pub markable_keeps : {t u : Tree} {marks : List ℕ} → Keeps t u → Markable t marks → Markable u marks
markable_keeps {t} {u} K M = record {
  few = omega (arith, M.few, groups_most t u (K.over (is_in (groups t)) (over_groups t)));
  once = M.once;
  among = λ g e. leaves_over (is_in (groups u)) t (K.over_back (is_in (groups u)) (over_groups u)) g (sym (groups_leaves t g) ∙ M.among g e);
}

no_bad_mark : (gs marks : List ℕ) → Distinct marks → ((g : ℕ) → is_in marks g ≡ true → is_in gs g ≡ true) → bad_mark gs marks ≡ false
unfolding bad_mark Distinct
no_bad_mark gs [] d f = refl
no_bad_mark gs (x ∷ marks) d f =
    rw (d.0, f x (is_in_here x marks), no_bad_mark gs marks d.1 (λ g e. f g (in_later x marks g e)))

pub no_fault : (u : Tree) (marks : List ℕ) (room : ℕ) → size u ≤ most_nodes → most_nodes ≤ room → 1 ≤ length marks → Markable u marks → gather_fault (postfix u) marks room ≡ 0
unfolding gather_fault
no_fault u marks room h r some_mark M =
    rw (
      le-ltb room most_nodes r,
      tree_of_postfix u h,
      le-ltb most_groups (length (groups u)) M.few,
      ne_eqb (length marks) 0 (λ e. omega arith),
      no_bad_mark (groups u) marks M.once M.among,
    )
