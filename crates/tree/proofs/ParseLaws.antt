-- A tree's list parses to that tree, and a list that parses is that tree's list; how the loop of `is_tree` follows parsing.
use mathlib.Core.Path.{◌≡◌, refl, sym, ap, subst, ◌∙◌}
use mathlib.Core.Bool.{Bool, true, false, cond, true≢false, false≢true}
use mathlib.Core.List.{List, [], ◌∷◌, ◌++◌, append_assoc, append-nil}
use mathlib.Core.Option.{Option, some, none}
use Prim.Native.Nat.{ℕ, suc, ◌+◌, ◌-◌, ◌≤◌, ◌<◌}
use native.Mathlib.Omega.{arith}
use borrow.Author.Tests.{le-ltb, lt-ltb, le-leb, lt-leb, leb-true, ne_eqb}
use lib.Dec.{T, eqb, leb, ltb}
use lib.ListN.{length, get_or, drop, drop_of_length-le}
use Rattle.std.proofs.lemmas.Bool.Decides.{nat_tests}
use Rattle.tree.specs.Tree.{Operator, union, difference, intersection, Tree, leaf, node, is_group, postfix, size, sign, most_nodes}
use Rattle.tree.specs.Pass.{Entry, group, operator, neither, classify, entry_of, pushed, and_then, pass}
use Rattle.tree.specs.InnerPass.{fold}
use Rattle.tree.specs.Parse.{alone, waiting, parse, tree_of, is_some}
use Rattle.tree.specs.InnerScan.{entry_kind}
use Rattle.tree.specs.declared.EntryKind.{EntryKind}
use Rattle.tree.specs.declared.EntryKind.TheVariants.{Group, Operator as AnOperator, Neither}
use Rattle.tree.proofs.TreeLaws.{postfix_length, size_positive}
use Rattle.tree.proofs.PassLaws.{Writes, entry_sign, entry_leaf, entry_writes, here, pass_whole}

-- ---- a tree's list gives it back
fold_tree : (i : ℕ) (t : Tree) → fold (λ i g h. leaf g h) (λ i o l r. node o l r) i t ≡ t
unfolding fold
fold_tree i (leaf g h) = refl
fold_tree i (node o l r) = rw (fold_tree i l, fold_tree (i + size l) r)

pub parse_postfix : (t : Tree) → parse (postfix t) ≡ some t
unfolding parse
parse_postfix t = ap alone (pass_whole (λ i g h. leaf g h) (λ i o l r. node o l r) t) ∙ ap some (fold_tree 0 t)

-- ---- the trees that wait
no_tree : {t : Tree} {X : Type 0} → none ≡ some t → X
no_tree e = absurd (let z : ◌≡◌ {A = ℕ} 0 1 = cc in omega arith)

-- the lists of the trees that wait
unfoldable joined : List Tree → List ℕ
joined [] = []
joined (t ∷ s) = joined s ++ postfix t

waiting_end : (i : ℕ) (s : List Tree) → waiting i [] s ≡ some s
unfolding pass
waiting_end i s = refl

abbrev wait : ℕ → List ℕ → Option (List Tree) → Option (List Tree)
wait i xs none = none
wait i xs (some s) = waiting i xs s

abbrev pushed_tree : ℕ → Entry → List Tree → Option (List Tree)
pushed_tree i e s = pushed (λ i g h. leaf g h) (λ i o l r. node o l r) i e s

waiting_one : (i x : ℕ) (xs : List ℕ) (s : List Tree) → waiting i (x ∷ xs) s ≡ wait (i + 1) xs (pushed_tree i (entry_of x) s)
unfolding pass
waiting_one i x xs s = go (pushed_tree i (entry_of x) s)
  where
    go : (o : Option (List Tree)) → and_then (λ i g h. leaf g h) (λ i o l r. node o l r) o (λ s. waiting (i + 1) xs s) ≡ wait (i + 1) xs o
    go none = refl
    go (some s) = refl

-- ---- one entry more at a list's end
abbrev pushed_on : Entry → Option (List Tree) → Option (List Tree)
pushed_on e none = none
pushed_on e (some s) = pushed_tree 0 e s

-- what is pushed does not depend on the entry's position
pushed_any : (i : ℕ) (e : Entry) (s : List Tree) → pushed_tree i e s ≡ pushed_tree 0 e s
pushed_any i (group g h) s = refl
pushed_any i (operator o) [] = refl
pushed_any i (operator o) (r ∷ []) = refl
pushed_any i (operator o) (r ∷ (l ∷ s)) = refl
pushed_any i neither s = refl

waiting_more : (i : ℕ) (xs : List ℕ) (x : ℕ) (s : List Tree) → waiting i (xs ++ (x ∷ [])) s ≡ pushed_on (entry_of x) (waiting i xs s)
waiting_more i [] x s = waiting_one i x [] s ∙ go (pushed_tree i (entry_of x) s) ∙ pushed_any i (entry_of x) s ∙ ap (pushed_on (entry_of x)) (sym (waiting_end i s))
  where
    go : (o : Option (List Tree)) → wait (i + 1) [] o ≡ o
    go none = refl
    go (some s) = waiting_end (i + 1) s
waiting_more i (y ∷ xs) x s =
    waiting_one i y (xs ++ (x ∷ [])) s ∙ go (pushed_tree i (entry_of y) s) (waiting_more (i + 1) xs x) ∙ ap (pushed_on (entry_of x)) (sym (waiting_one i y xs s))
  where
    go : (o : Option (List Tree)) → ((s : List Tree) → waiting (i + 1) (xs ++ (x ∷ [])) s ≡ pushed_on (entry_of x) (waiting (i + 1) xs s))
        → wait (i + 1) (xs ++ (x ∷ [])) o ≡ pushed_on (entry_of x) (wait (i + 1) xs o)
    go none ih = refl
    go (some s) ih = ih s

-- a group adds a tree to those that wait, an operator makes the latest two one
pub waiting_group : (xs : List ℕ) (g : ℕ) (h : T (is_group g)) (s : List Tree) → waiting 0 xs [] ≡ some s → waiting 0 (xs ++ (g ∷ [])) [] ≡ some (leaf g h ∷ s)
waiting_group xs g h s e = waiting_more 0 xs g [] ∙ rw (e, entry_leaf g h)

pub waiting_operator : (xs : List ℕ) (o : Operator) (l r : Tree) (s : List Tree) → waiting 0 xs [] ≡ some (r ∷ (l ∷ s))
    → waiting 0 (xs ++ (sign o ∷ [])) [] ≡ some (node o l r ∷ s)
waiting_operator xs o l r s e = waiting_more 0 xs (sign o) [] ∙ rw (e, entry_sign o)

-- ---- a list has at most one tree, and it is that tree's list
regroup : (s x y : List ℕ) (o : Operator) (z : List ℕ) → s ++ x ++ y ++ sign o ∷ z ≡ (s ++ (x ++ (y ++ (sign o ∷ [])))) ++ z
regroup s x y o z = simp append_assoc

sound : (i : ℕ) (xs : List ℕ) (s : List Tree) (t : Tree) → alone (waiting i xs s) ≡ some t → joined s ++ xs ≡ postfix t
unfolding joined
sound i [] [] t e = no_tree (sym (ap alone (waiting_end i [])) ∙ e)
sound i [] (u ∷ []) t e = append-nil (postfix u) ∙ (let k : some u ≡ some t = sym (ap alone (waiting_end i (u ∷ []))) ∙ e in let q : u ≡ t = cc in ap postfix q)
sound i [] (u ∷ (v ∷ s)) t e = no_tree (sym (ap alone (waiting_end i (u ∷ (v ∷ s)))) ∙ e)
sound i (x ∷ xs) s t e = go (entry_of x) s (entry_writes x) (λ s. sound (i + 1) xs s t) (sym (ap alone (waiting_one i x xs s)) ∙ e)
  where
    go : (k : Entry) (s : List Tree) → Writes k x → ((s : List Tree) → alone (waiting (i + 1) xs s) ≡ some t → joined s ++ xs ≡ postfix t)
        → alone (wait (i + 1) xs (pushed_tree i k s)) ≡ some t → joined s ++ x ∷ xs ≡ postfix t
    go (group g h) s p ih e =
        ap (λ (y : ℕ). joined s ++ y ∷ xs) p ∙ sym (append_assoc (joined s) (g ∷ []) xs) ∙ (unfold postfix in ih (leaf g h ∷ s) e)
    go (operator o) [] p ih e = no_tree e
    go (operator o) (r ∷ []) p ih e = no_tree e
    go (operator o) (r ∷ (l ∷ s)) p ih e =
        ap (λ (y : ℕ). joined s ++ postfix l ++ postfix r ++ y ∷ xs) p ∙ regroup (joined s) (postfix l) (postfix r) o xs ∙ (unfold postfix in ih (node o l r ∷ s) e)
    go neither s p ih e = no_tree e

pub parse_sound : (l : List ℕ) (t : Tree) → parse l ≡ some t → l ≡ postfix t
unfolding joined parse
parse_sound l t e = sound 0 l [] t e

-- two trees with the same list are the same
pub postfix_injective : (t u : Tree) → postfix t ≡ postfix u → t ≡ u
postfix_injective t u e = let z : some t ≡ some u = sym (parse_postfix t) ∙ ap parse e ∙ parse_postfix u in cc

-- ---- the same within the limit
pub record IsTree (l : List ℕ) : Type 0 where
  pub tree : Tree
  pub is : tree_of l ≡ some tree
  pub list : l ≡ postfix tree
  pub most : size tree ≤ most_nodes

-- it has an entry for each node
pub tree_length : {l : List ℕ} (I : IsTree l) → length l ≡ size I.tree
tree_length I = ap length I.list ∙ postfix_length I.tree

pub tree_of_postfix : (t : Tree) → size t ≤ most_nodes → tree_of (postfix t) ≡ some t
unfolding tree_of
tree_of_postfix t h = rw (postfix_length t, le-leb (size t) most_nodes h, parse_postfix t)

pub tree_of_sound : (l : List ℕ) (t : Tree) → tree_of l ≡ some t → IsTree l
unfolding tree_of
tree_of_sound l t e = go (leb (length l) most_nodes) refl e
  where
    go : (b : Bool) → leb (length l) most_nodes ≡ b → cond b (parse l) none ≡ some t → IsTree l
    go true q f =
        let s : l ≡ postfix t = parse_sound l t f in
        record { tree = t; is = e; list = s; most = omega (arith, leb-true (length l) most_nodes q, ap length s, postfix_length t) }
    go false q f = no_tree f

-- what a test of `is_tree` tells
pub the_tree : (l : List ℕ) → is_some (tree_of l) ≡ true → IsTree l
the_tree l h = go (tree_of l) refl h
  where
    go : (o : Option Tree) → tree_of l ≡ o → is_some o ≡ true → IsTree l
    go none e h = absurd (false≢true h)
    go (some t) e h = tree_of_sound l t e

-- such a list has 1 to 8,191 entries
pub tree_some : (l : List ℕ) → is_some (tree_of l) ≡ true → 1 ≤ length l
tree_some l h = let I = the_tree l h in omega (arith, tree_length I, size_positive I.tree)

pub tree_few : (l : List ℕ) → is_some (tree_of l) ≡ true → length l ≤ most_nodes
tree_few l h = let I = the_tree l h in omega (arith, tree_length I, I.most)

pub no_tree_of : (l : List ℕ) → is_some (tree_of l) ≡ false → tree_of l ≡ none
no_tree_of l h = go (tree_of l) refl h
  where
    go : (o : Option Tree) → tree_of l ≡ o → is_some o ≡ false → tree_of l ≡ none
    go none e h = e
    go (some t) e h = absurd (false≢true (sym h))

-- ---- an entry's kind: what is no group is an operator by the three tests of `entry_of`, or neither
module _ (x : ℕ) where
  pub kind_group : is_group x ≡ true → entry_kind (entry_of x) ≡ Group
  kind_group e = ap entry_kind (entry_leaf x (subst T (sym e) tt))

  abbrev pub KindBySign : EntryKind → Type 0
  KindBySign k = k ≡ cond (eqb x (sign union)) AnOperator (cond (eqb x (sign difference)) AnOperator (cond (eqb x (sign intersection)) AnOperator Neither))

  pub kind_no_group : is_group x ≡ false → KindBySign (entry_kind (entry_of x))
  unfolding entry_of
  kind_no_group e = go (is_group x) refl e
    where
      go : (b : Bool) (q : is_group x ≡ b) → b ≡ false → KindBySign (entry_kind (classify x b q))
      go true q f = absurd (true≢false f)
      go false q f = grind (arith, nat_tests)

-- for `grind`
pub ruleset kinds = (nat_tests, kind_group, kind_no_group)

-- ---- the loop of `is_tree`: with d trees waiting, does the rest of the list make them one
-- an entry of this kind, and then what the others make of the trees that wait
abbrev pub turned : EntryKind → ℕ → (ℕ → Bool) → Bool
turned Group d rest = rest (d + 1)
turned AnOperator d rest = cond (ltb d 2) false (rest (d - 1))
turned Neither d rest = false

unfoldable pub formed : ℕ → List ℕ → Bool
formed d [] = eqb d 1
formed d (x ∷ xs) = turned (entry_kind (entry_of x)) d (λ d. formed d xs)

formed_waiting : (i : ℕ) (xs : List ℕ) (s : List Tree) → formed (length s) xs ≡ is_some (alone (waiting i xs s))
unfolding formed
formed_waiting i [] [] = unfold pass in refl
formed_waiting i [] (t ∷ []) = unfold pass in refl
formed_waiting i [] (t ∷ (u ∷ s)) = ne_eqb (suc (suc (length s))) 1 (λ e. omega arith) ∙ (unfold pass in refl)
formed_waiting i (x ∷ xs) s = go (entry_of x) s (λ s. formed_waiting (i + 1) xs s) ∙ ap (λ (o : Option (List Tree)). is_some (alone o)) (sym (waiting_one i x xs s))
  where
    go : (k : Entry) (s : List Tree) → ((s : List Tree) → formed (length s) xs ≡ is_some (alone (waiting (i + 1) xs s)))
        → turned (entry_kind k) (length s) (λ d. formed d xs) ≡ is_some (alone (wait (i + 1) xs (pushed_tree i k s)))
    go (group g h) s ih = ap (λ (d : ℕ). formed d xs) (let q : length s + 1 ≡ suc (length s) = omega arith in q) ∙ ih (leaf g h ∷ s)
    go (operator o) [] ih = refl
    go (operator o) (t ∷ []) ih = refl
    go (operator o) (r ∷ (l ∷ s)) ih =
        ap (λ (b : Bool). cond b false (formed (suc (suc (length s)) - 1) xs)) (le-ltb (suc (suc (length s))) 2 (omega arith))
        ∙ ap (λ (d : ℕ). formed d xs) (let q : suc (suc (length s)) - 1 ≡ suc (length s) = omega arith in q) ∙ ih (node o l r ∷ s)
    go neither s ih = refl

pub formed_tree : (l : List ℕ) → length l ≤ most_nodes → formed 0 l ≡ is_some (tree_of l)
unfolding tree_of parse
formed_tree l h = rw (le-leb (length l) most_nodes h) (formed_waiting 0 l [])

pub long_no_tree : (l : List ℕ) → most_nodes < length l → is_some (tree_of l) ≡ false
unfolding tree_of
long_no_tree l h = rw (lt-leb (length l) most_nodes h)

-- one turn of the loop
module _ (l : List ℕ) (i d : ℕ) (h : i < length l) where
  pub formed_group : entry_kind (entry_of (get_or l i 0)) ≡ Group → formed d (drop i l) ≡ formed (d + 1) (drop (i + 1) l)
  unfolding formed
  formed_group e = rw (here l i h, e)

  pub formed_operator : entry_kind (entry_of (get_or l i 0)) ≡ AnOperator → 2 ≤ d → formed d (drop i l) ≡ formed (d - 1) (drop (i + 1) l)
  unfolding formed
  formed_operator e k = rw (here l i h, e, le-ltb d 2 k)

  pub formed_short : entry_kind (entry_of (get_or l i 0)) ≡ AnOperator → d < 2 → formed d (drop i l) ≡ false
  unfolding formed
  formed_short e k = rw (here l i h, e, lt-ltb d 2 k)

  pub formed_neither : entry_kind (entry_of (get_or l i 0)) ≡ Neither → formed d (drop i l) ≡ false
  unfolding formed
  formed_neither e = rw (here l i h, e)

pub formed_end : (l : List ℕ) (i d : ℕ) → length l ≤ i → formed d (drop i l) ≡ eqb d 1
unfolding formed
formed_end l i d h = rw (drop_of_length-le l h)

-- all of it, for `grind`
pub ruleset formed_turns = (long_no_tree, formed_tree, formed_group, formed_operator, formed_short, formed_neither, formed_end)
