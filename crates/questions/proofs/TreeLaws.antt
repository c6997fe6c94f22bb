-- The list holds the lists of the trees that 02 names, and no others.
use mathlib.Core.Path.{◌≡◌, refl, sym, ap, ◌∙◌}
use mathlib.Core.Bool.{Bool, true, false, ◌&&◌, ◌||◌, false≢true}
use mathlib.Core.List.{List, [], ◌∷◌, ◌++◌, map}
use mathlib.Core.Option.{some}
use Prim.Native.Nat.{ℕ, zero, suc, ◌+◌, ◌*◌, ◌≤◌, ◌<◌}
use native.Mathlib.Omega.{arith}
use borrow.Author.Tests.{eqb-true, leb-true, le-leb}
use lib.Dec.{eqb, leb}
use lib.ListN.{length, length-append, get_or, get_elem?}
use Rattle.tree.specs.Tree.{Operator, union, difference, intersection, sign, Tree, leaf, node, is_up_to, postfix, size, leaves, Over, WithoutIntersection, is_in}
use Rattle.tree.specs.Parse.{tree_of, is_some}
use Rattle.tree.proofs.TreeLaws.{group_most, postfix_length, size_positive}
use Rattle.tree.proofs.ParseLaws.{the_tree, tree_of_postfix}
use Rattle.questions.specs.Questions.{entries, lists, kept, questions_of, lengths, questions}
use Rattle.questions.specs.Answer.{most_entries}
use Rattle.questions.specs.Listing.{IsQuestion}
use Rattle.questions.specs.InnerCounts.{are_entries, is_question}
use Rattle.questions.proofs.ListLaws.{at_values, at_map, Among, among_flat_map, Every, every_at, every_implies, every_both, every_map, every_flat_map}
use Rattle.questions.proofs.OrderLaws.{and_split, every_kept, lists_length}

-- ---- the five entries
in_among : (xs : List ℕ) (x : ℕ) → is_in xs x ≡ true → Among xs x
unfolding is_in
in_among [] x e = absurd (false≢true e)
in_among (y ∷ ys) x e = go (eqb x y) refl e (in_among ys x)
  where
    go : (b : Bool) → eqb x y ≡ b → (b || is_in ys x) ≡ true → (is_in ys x ≡ true → Among ys x) → Among (y ∷ ys) x
    go true q e ih = (0, ap some (sym (eqb-true x y q)))
    go false q e ih = let m = ih e in (suc m.0, m.1)

-- what holds of each of the five holds of an entry
pub of_entry : (P : ℕ → Type 0) → Every P entries → (x : ℕ) → is_in entries x ≡ true → P x
of_entry P all x e = let m = in_among entries x e in every_at P entries all m.0 x m.1

group_entry : (g : ℕ) → is_in entries g ≡ true → g < sign union → is_up_to 3 g ≡ true
unfolding Every
group_entry = of_entry (λ g. g < sign union → is_up_to 3 g ≡ true) (λ h. refl, (λ h. refl, (λ h. refl, (λ h. absurd (omega arith), (λ h. absurd (omega arith), tt)))))

pub entry_group : (g : ℕ) → is_up_to 3 g ≡ true → is_in entries g ≡ true
entry_group g e = let h = and_split (leb 1 g) (leb g 3) e in go g (leb-true 1 g h.0) (leb-true g 3 h.1)
  where
    go : (g : ℕ) → 1 ≤ g → g ≤ 3 → is_in entries g ≡ true
    go zero a b = absurd (omega arith)
    go (suc zero) a b = unfold is_in in refl
    go (suc (suc zero)) a b = unfold is_in in refl
    go (suc (suc (suc zero))) a b = unfold is_in in refl
    go (suc (suc (suc (suc g)))) a b = absurd (omega arith)

pub entry_at : (l : List ℕ) (i : ℕ) → are_entries l ≡ true → i < length l → is_in entries (get_or l i 0) ≡ true
unfolding are_entries
entry_at [] i e h = absurd (omega arith)
entry_at (x ∷ l) zero e h = (and_split (is_in entries x) (are_entries l) e).0
entry_at (x ∷ l) (suc i) e h = entry_at l i (and_split (is_in entries x) (are_entries l) e).1 (omega arith)

-- ---- a tree's leaves and operators are the entries of its list
entries_append : (a b : List ℕ) → are_entries (a ++ b) ≡ (are_entries a && are_entries b)
unfolding are_entries
entries_append [] b = refl
entries_append (x ∷ a) b = rw (entries_append a b) (and_assoc (is_in entries x) (are_entries a) (are_entries b))
  where
    and_assoc : (a b c : Bool) → (a && (b && c)) ≡ ((a && b) && c)
    and_assoc true b c = refl
    and_assoc false b c = refl

pub entries_node : (o : Operator) (l r : Tree) → are_entries (postfix (node o l r)) ≡ (are_entries (postfix l) && (are_entries (postfix r) && are_entries (sign o ∷ [])))
unfolding postfix
entries_node o l r =
    entries_append (postfix l) (postfix r ++ (sign o ∷ [])) ∙ ap (λ (b : Bool). are_entries (postfix l) && b) (entries_append (postfix r) (sign o ∷ []))

-- of a leaf and of an operator
entries_leaf : (g : ℕ) → are_entries (g ∷ []) ≡ is_in entries g
unfolding are_entries
entries_leaf g = go (is_in entries g)
  where
    go : (b : Bool) → (b && true) ≡ b
    go true = refl
    go false = refl

tree_entries : (t : Tree) → Over (is_up_to 3) t → WithoutIntersection t → are_entries (postfix t) ≡ true
unfolding Over WithoutIntersection
tree_entries (leaf g h) v p = unfold postfix in (entries_leaf g ∙ entry_group g v)
tree_entries (node union l r) v p = entries_node union l r ∙ rw (tree_entries l v.0 p.0, tree_entries r v.1 p.1) (unfold are_entries is_in in refl)
tree_entries (node difference l r) v p = entries_node difference l r ∙ rw (tree_entries l v.0 p.0, tree_entries r v.1 p.1) (unfold are_entries is_in in refl)
tree_entries (node intersection l r) v p = absurd p

entries_tree : (t : Tree) → are_entries (postfix t) ≡ true → Over (is_up_to 3) t × WithoutIntersection t
unfolding Over WithoutIntersection
entries_tree (leaf g h) e = (group_entry g (sym (entries_leaf g) ∙ (unfold postfix in e)) (omega (arith, group_most g h)), tt)
entries_tree (node o l r) e =
    let p = and_split (are_entries (postfix l)) (are_entries (postfix r) && are_entries (sign o ∷ [])) (sym (entries_node o l r) ∙ e) in
    let q = and_split (are_entries (postfix r)) (are_entries (sign o ∷ [])) p.1 in
    go o q.1 (entries_tree l p.0) (entries_tree r q.0)
  where
    go : (o : Operator) → are_entries (sign o ∷ []) ≡ true → Over (is_up_to 3) l × WithoutIntersection l → Over (is_up_to 3) r × WithoutIntersection r
        → Over (is_up_to 3) (node o l r) × WithoutIntersection (node o l r)
    go union e a b = ((a.0, b.0), (a.1, b.1))
    go difference e a b = ((a.0, b.0), (a.1, b.1))
    go intersection e a b = absurd (false≢true (unfold are_entries is_in in e))

-- a tree has one entry less than twice its leaves
size_leaves : (t : Tree) → size t + 1 ≡ 2 * length (leaves t)
unfolding size leaves
size_leaves (leaf g h) = refl
size_leaves (node o l r) = omega (arith, size_leaves l, size_leaves r, length-append (leaves l) (leaves r))

-- ---- which lists are questions
pub question_test : (l : List ℕ) → IsQuestion l → is_question l ≡ true
question_test l Q =
    let t = Q.tree in
    let n : length l ≡ size t = ap length Q.list ∙ postfix_length t in
    let f = and_split (leb 1 (length (leaves t))) (leb (length (leaves t)) 4) Q.few in
    let few : length l ≤ 7 = omega (arith, n, size_leaves t, leb-true (length (leaves t)) 4 f.1) in
    let e : are_entries l ≡ true = ap are_entries Q.list ∙ tree_entries t Q.groups Q.plain in
    let s : is_some (tree_of l) ≡ true = ap (λ (l : List ℕ). is_some (tree_of l)) Q.list ∙ ap is_some (tree_of_postfix t (omega (arith, n, few))) in
    rw (le-leb (length l) most_entries few, e, s)

-- the parts of the test
pub record Tested (l : List ℕ) : Type 0 where
  pub few : length l ≤ most_entries
  pub entries : are_entries l ≡ true
  pub tree : is_some (tree_of l) ≡ true

pub tested : (l : List ℕ) → is_question l ≡ true → Tested l
tested l e =
    let p = and_split (leb (length l) most_entries) (are_entries l && is_some (tree_of l)) e in
    let q = and_split (are_entries l) (is_some (tree_of l)) p.1 in
    record { few = leb-true (length l) most_entries p.0; entries = q.0; tree = q.1 }

test_question : (l : List ℕ) → Tested l → IsQuestion l
test_question l T =
    let I = the_tree l T.tree in
    let t = I.tree in
    let n : length l ≡ size t = ap length I.list ∙ postfix_length t in
    let a = entries_tree t (ap are_entries (sym I.list) ∙ T.entries) in
    record {
      tree = t;
      list = I.list;
      few = rw (le-leb 1 (length (leaves t)) (omega (arith, size_leaves t, size_positive t)), le-leb (length (leaves t)) 4 (omega (arith, T.few, n, size_leaves t)));
      groups = a.0;
      plain = a.1;
    }

-- ---- their lengths
pub lengths_most : Every (λ n. n ≤ most_entries) lengths
unfolding Every
lengths_most = (omega arith, (omega arith, (omega arith, (omega arith, (omega arith, (omega arith, (omega arith, (omega arith, tt))))))))

among_lengths : (n : ℕ) → n ≤ most_entries → Among lengths n
among_lengths n h = (n, at_values 8 (λ n. n) n (omega arith))

pub in_lengths : (n : ℕ) → n ≤ most_entries → is_in lengths n ≡ true
unfolding Every is_in
in_lengths n h = every_at (λ n. is_in lengths n ≡ true) lengths (refl, (refl, (refl, (refl, (refl, (refl, (refl, (refl, tt)))))))) n n (at_values 8 (λ n. n) n (omega arith))

-- ---- each of the list is one
lists_entries : (n : ℕ) → Every (λ l. are_entries l ≡ true) (lists n)
unfolding lists
lists_entries zero = unfold Every are_entries in (refl, tt)
lists_entries (suc n) =
    every_flat_map (λ x. map (λ l. x ∷ l) (lists n)) (λ x. is_in entries x ≡ true) (λ l. are_entries l ≡ true)
    (λ x e. every_map (λ l. x ∷ l) (λ l. are_entries l ≡ true) (lists n)
    (every_implies (λ l. are_entries (x ∷ l) ≡ true) (λ l. are_entries l ≡ true) (λ l f. unfold are_entries in rw (e, f)) (lists n) (lists_entries n)))
    entries (unfold Every is_in in (refl, (refl, (refl, (refl, (refl, tt))))))

questions_are : Every IsQuestion questions
unfolding questions
questions_are =
    every_flat_map questions_of (λ n. n ≤ most_entries) IsQuestion
    (λ n h. unfold questions_of in every_flat_map (kept (λ l. is_some (tree_of l))) (λ l. (length l ≡ n) × (are_entries l ≡ true)) IsQuestion
    (λ l e. every_kept (λ l. is_some (tree_of l)) IsQuestion l (λ t. test_question l (record { few = omega (arith, e.0); entries = e.1; tree = t })))
    (lists n) (every_both (λ l. (length l ≡ n) × (are_entries l ≡ true)) (λ l. length l ≡ n) (λ l. are_entries l ≡ true) (λ l p q. (p, q)) (lists n) (lists_length n) (lists_entries n)))
    lengths lengths_most

pub only_questions : (i : ℕ) (l : List ℕ) → get_elem? questions i ≡ some l → IsQuestion l
only_questions i l e = every_at IsQuestion questions questions_are i l e

-- ---- and each that is one is in the list
among_lists : (l : List ℕ) → are_entries l ≡ true → Among (lists (length l)) l
unfolding lists are_entries
among_lists [] e = (0, refl)
among_lists (x ∷ l) e =
    let p = and_split (is_in entries x) (are_entries l) e in
    let m = among_lists l p.1 in
    among_flat_map (λ x. map (λ l. x ∷ l) (lists (length l))) entries x (x ∷ l) (in_among entries x p.0) (m.0, at_map (λ l. x ∷ l) (lists (length l)) m.0 l m.1)

pub every_question : (l : List ℕ) → IsQuestion l → Among questions l
unfolding questions questions_of
every_question l Q =
    let T = tested l (question_test l Q) in
    among_flat_map questions_of lengths (length l) l (among_lengths (length l) T.few)
    (among_flat_map (kept (λ l. is_some (tree_of l))) (lists (length l)) l l (among_lists l T.entries) (rw T.tree (0, refl)))

-- ---- an `I` is in none of them
not_I : (x : ℕ) → is_in entries x ≡ true → eqb (sign intersection) x ≡ false
unfolding Every
not_I = of_entry (λ x. eqb (sign intersection) x ≡ false) (refl, (refl, (refl, (refl, (refl, tt)))))

no_I : (l : List ℕ) → are_entries l ≡ true → is_in l (sign intersection) ≡ false
unfolding are_entries is_in
no_I [] e = refl
no_I (x ∷ l) e =
    let p = and_split (is_in entries x) (are_entries l) e in
    let other : eqb (sign intersection) x ≡ false = not_I x p.0 in
    rw (other, no_I l p.1)

pub without_I : (i : ℕ) (l : List ℕ) → get_elem? questions i ≡ some l → is_in l (sign intersection) ≡ false
without_I i l e = no_I l (tested l (question_test l (only_questions i l e))).entries
