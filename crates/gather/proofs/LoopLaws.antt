-- One turn of the loop over the marks, and the first fault.
use mathlib.Core.Path.{◌≡◌, refl, sym, ap, ◌∙◌}
use mathlib.Core.Bool.{Bool, true, false, not, cond, ◌||◌}
use mathlib.Core.List.{List, []}
use mathlib.Core.Option.{Option}
use Prim.Native.Nat.{ℕ, ◌+◌, ◌-◌, ◌≤◌, ◌<◌}
use native.Mathlib.Omega.{arith}
use lib.Dec.{eqb}
use borrow.Author.Tests.{lt-ltb, le-ltb}
use lib.ListN.{length, get_or, take, drop, length-drop, drop_of_length-le}
use lib.Seq.{take_all}
use Rattle.tree.specs.Tree.{Tree, most_nodes, is_in, collect, most_groups}
use Rattle.tree.specs.Parse.{tree_of, is_some}
use Rattle.tree.specs.InnerGroups.{leaves_in}
use Rattle.tree.proofs.GroupLaws.{leaves_postfix}
use Rattle.tree.proofs.PassLaws.{here}
use Rattle.tree.proofs.ParseLaws.{the_tree, no_tree_of}
use Rattle.gather.specs.Answer.{bad_mark, groups_fault, tree_fault, gather_fault}

-- ---- the marks
or_true : (a b : Bool) → b ≡ true → (a || b) ≡ true
or_true true b e = refl
or_true false b e = e

module _ (gs marks : List ℕ) (i : ℕ) where
  bad_turn : i < length marks → bad_mark gs (drop i marks) ≡ ((is_in (drop (i + 1) marks) (get_or marks i 0) || not (is_in gs (get_or marks i 0))) || bad_mark gs (drop (i + 1) marks))
  unfolding bad_mark
  bad_turn h = rw (here marks i h)

  rest : take (length marks - (i + 1)) (drop (i + 1) marks) ≡ drop (i + 1) marks
  rest = take_all (length marks - (i + 1)) (drop (i + 1) marks) (omega (arith, length-drop (i + 1) marks))

  pub bad_stop : (twice known : Bool) → i < length marks → twice ≡ is_in (take (length marks - (i + 1)) (drop (i + 1) marks)) (get_or marks i 0) → known ≡ is_in gs (get_or marks i 0)
      → (twice || not known) ≡ true → bad_mark gs (drop i marks) ≡ true
  bad_stop twice known h e f q =
      let z : (is_in (drop (i + 1) marks) (get_or marks i 0) || not (is_in gs (get_or marks i 0))) ≡ true = rw (e, f, rest) at q in
      bad_turn h ∙ ap (λ (b : Bool). b || bad_mark gs (drop (i + 1) marks)) z

  pub bad_twice : i < length marks → true ≡ is_in (take (length marks - (i + 1)) (drop (i + 1) marks)) (get_or marks i 0) → bad_mark gs (drop i marks) ≡ true
  bad_twice h e = bad_turn h ∙ rw (← rest, ← e)

  pub bad_unknown : i < length marks → false ≡ is_in gs (get_or marks i 0) → bad_mark gs (drop i marks) ≡ true
  bad_unknown h e = bad_turn h ∙ ap (λ (b : Bool). b || bad_mark gs (drop (i + 1) marks)) (or_true (is_in (drop (i + 1) marks) (get_or marks i 0)) (not (is_in gs (get_or marks i 0))) (ap not (sym e)))

  pub bad_on : i < length marks → false ≡ is_in (take (length marks - (i + 1)) (drop (i + 1) marks)) (get_or marks i 0) → true ≡ is_in gs (get_or marks i 0)
      → bad_mark gs (drop i marks) ≡ bad_mark gs (drop (i + 1) marks)
  bad_on h e f =
      let g : is_in (drop (i + 1) marks) (get_or marks i 0) ≡ false = rw rest at (sym e) in
      bad_turn h ∙ rw (g, ← f)

  pub bad_none : length marks ≤ i → bad_mark gs (drop i marks) ≡ false
  unfolding bad_mark
  bad_none h = rw (drop_of_length-le marks h)

-- ---- the first fault
module _ (list marks : List ℕ) (room : ℕ) where
  pub fault_short : room < most_nodes → 11 ≡ gather_fault list marks room
  unfolding gather_fault
  fault_short h = rw (lt-ltb room most_nodes h)

  module _ (h : most_nodes ≤ room) where
    fault_tree : tree_fault (tree_of list) marks ≡ gather_fault list marks room
    unfolding gather_fault
    fault_tree = rw (le-ltb room most_nodes h)

    pub fault_none : is_some (tree_of list) ≡ false → 12 ≡ gather_fault list marks room
    fault_none e = sym (sym fault_tree ∙ ap (λ (o : Option Tree). tree_fault o marks) (no_tree_of list e))

    -- the groups found are the tree's
    pub fault_groups : is_some (tree_of list) ≡ true → groups_fault (collect [] (leaves_in list)) marks ≡ gather_fault list marks room
    fault_groups e =
        let T = the_tree list e in
        ap (λ (gs : List ℕ). groups_fault gs marks) (ap (λ (xs : List ℕ). collect [] (leaves_in xs)) T.list ∙ ap (collect []) (leaves_postfix T.tree))
        ∙ sym (ap (λ (o : Option Tree). tree_fault o marks) T.is) ∙ fault_tree

    pub fault_many : is_some (tree_of list) ≡ true → most_groups < length (collect [] (leaves_in list)) → 17 ≡ gather_fault list marks room
    fault_many e k = sym (sym (fault_groups e) ∙ rw (lt-ltb most_groups (length (collect [] (leaves_in list))) k))

    pub fault_marks : (found : List ℕ) (bad : Bool) → is_some (tree_of list) ≡ true → found ≡ collect [] (leaves_in list) → length found ≤ most_groups
        → bad ≡ (eqb (length marks) 0 || bad_mark found marks) → cond bad 18 0 ≡ gather_fault list marks room
    fault_marks found bad e c k q = sym (sym (fault_groups e) ∙ rw (← c, le-ltb most_groups (length found) k, ← q))
