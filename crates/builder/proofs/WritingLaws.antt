-- What the writers write, put together: an operator between two trees that may be empty, and a form's tree.
use mathlib.Core.Path.{◌≡◌, refl, sym, ap, ◌∙◌}
use mathlib.Core.Bool.{Bool, true, false, cond, ◌&&◌, ◌||◌, false≢true}
use mathlib.Core.List.{List, [], ◌∷◌, ◌++◌, append-nil}
use mathlib.Core.Option.{Option, some, none}
use mathlib.Core.Logic.{◌⊎◌, inl, inr}
use Prim.Native.Nat.{ℕ, ◌+◌, ◌-◌, ◌≤◌, ◌<◌}
use native.Mathlib.Omega.{arith}
use lib.Dec.{eqb}
use lib.ListN.{length, take, drop, length-append, length-drop}
use lib.Seq.{take_all, length-take-le}
use borrow.Author.Tests.{eq-eqb, ne_eqb}
use Rattle.tree.specs.Tree.{union, difference, sign, Basic, plus, minus, operator_of, Tree, is_group, postfix}
use Rattle.tree.specs.InnerWriting.{Wrote}
use Rattle.tree.proofs.TreeLaws.{postfix_length, size_positive}
use Rattle.tree.proofs.WritingLaws.{wrote_then, wrote_as, wrote_take}
use Rattle.forms.specs.declared.Form.{Form}
use Rattle.forms.specs.declared.Form.TheVariants.{Drop, Less, Plus, ReducedPlus, JoinedLess, LessOutside, ReducedUnion, JoinedDifference}
use Rattle.splits.specs.InnerSplits.{is_drop}
use Rattle.builder.specs.InnerBuilding.{postfix_optional, size_optional, join, left_tree, right_tree, outer, formed, variable_tree, without, most_formed, between, variable_list, joined_by, left_written, ends_there, before_written, after_written}
use Rattle.builder.proofs.JoinLaws.{single_leaf}

-- ---- no tree or a tree
pub optional_length : (o : Option Tree) → length (postfix_optional o) ≡ size_optional o
optional_length none = refl
optional_length (some t) = postfix_length t

tree_long : (t : Tree) → 0 < length (postfix t)
tree_long t = omega (arith, postfix_length t, size_positive t)

no_tree : {t : Tree} {X : Type 0} → some t ≡ none → X
no_tree e = absurd (let z : ◌≡◌ {A = ℕ} 0 1 = cc in omega arith)

-- ---- an operator between two trees
pub between_short : (a b c s : ℕ) → length (between a b c s) ≤ 1
between_short a b c s = go (eqb a b) (eqb b c)
  where
    go : (x y : Bool) → length (cond x [] (cond y [] (s ∷ []))) ≤ 1
    go true y = omega arith
    go false true = omega arith
    go false false = omega arith

between_first : (a b c s : ℕ) → a ≡ b → between a b c s ≡ []
between_first a b c s e = rw (eq-eqb a b e)

between_second : (a b c s : ℕ) → b ≡ c → between a b c s ≡ []
between_second a b c s e = rw (eq-eqb b c e) (go (eqb a b))
  where
    go : (x : Bool) → ◌≡◌ {A = List ℕ} (cond x [] []) []
    go true = refl
    go false = refl

between_both : (a b c s : ℕ) → a < b → b < c → between a b c s ≡ s ∷ []
between_both a b c s h k = rw (ne_eqb a b (λ e. omega arith), ne_eqb b c (λ e. omega arith))

-- the list of two trees and their operator, the first from `from` to `middle`, the second from there to `to`
pub join_written : (o : Basic) (a b : Option Tree) (from middle to : ℕ) → (o ≡ minus → a ≡ none → b ≡ none)
    → middle ≡ from + length (postfix_optional a) → to ≡ middle + length (postfix_optional b)
    → postfix_optional a ++ (postfix_optional b ++ between from middle to (sign (operator_of o))) ≡ postfix_optional (join o a b)
unfolding postfix
join_written plus none b from middle to h f g = rw (between_first from middle to (sign union) (omega arith)) (append-nil (postfix_optional b))
join_written plus (some a) none from middle to h f g = rw (between_second from middle to (sign union) (omega arith)) (append-nil (postfix a))
join_written plus (some a) (some b) from middle to h f g =
    rw (between_both from middle to (sign union) (omega (arith, tree_long a)) (omega (arith, tree_long b)))
join_written minus none b from middle to h f g = rw (h refl refl) (between_first from middle to (sign difference) (omega arith))
join_written minus (some a) none from middle to h f g = rw (between_second from middle to (sign difference) (omega arith)) (append-nil (postfix a))
join_written minus (some a) (some b) from middle to h f g =
    rw (between_both from middle to (sign difference) (omega (arith, tree_long a)) (omega (arith, tree_long b)))

pub wrote_join : {out o₁ o₂ o₃ : List ℕ} {from middle to r : ℕ} (o : Basic) (a b : Option Tree) → (o ≡ minus → a ≡ none → b ≡ none)
    → Wrote out from o₁ middle (postfix_optional a) → Wrote o₁ middle o₂ to (postfix_optional b) → Wrote o₂ to o₃ r (between from middle to (sign (operator_of o)))
    → Wrote out from o₃ r (postfix_optional (join o a b))
wrote_join o a b h f g k = wrote_as (wrote_then f (wrote_then g k)) (join_written o a b _ _ _ h f.ends g.ends)

-- ---- a variable's tree
-- the variable's list is its tree's
pub variable_list_lem : (h : Option Tree) {hs : List ℕ} (x : ℕ) → hs ≡ postfix_optional h → (x ≡ 0) ⊎ (is_group x ≡ true)
    → variable_list hs x ≡ postfix_optional (variable_tree h x)
unfolding postfix
variable_list_lem h {hs} x e (inl z) = rw (eq-eqb x 0 z) e
variable_list_lem h {hs} x e (inr g) =
    let n : x ≡ 0 → ⊥ = λ z. absurd (false≢true (sym (ap is_group z) ∙ g)) in
    rw (ne_eqb x 0 n) (sym (ap postfix_optional (single_leaf x g)))

-- ---- a form's tree, where t is the variable's
module _ (t : Tree) where
  joined_written : (o : Basic) (a : Option Tree) (from at : ℕ) → at ≡ from + length (postfix_optional a)
      → postfix_optional a ++ joined_by (sign (operator_of o)) (eqb from at) (postfix t) ≡ postfix_optional (join o a (some t))
  unfolding postfix
  joined_written plus none from at e = rw (eq-eqb from at (omega arith))
  joined_written plus (some a) from at e = rw (ne_eqb from at (λ z. omega (arith, tree_long a)))
  joined_written minus none from at e = rw (eq-eqb from at (omega arith))
  joined_written minus (some a) from at e = rw (ne_eqb from at (λ z. omega (arith, tree_long a)))

  less_written : (b : Option Tree) (left middle to : ℕ) → middle ≡ left + length (postfix t) → to ≡ middle + length (postfix_optional b)
      → postfix t ++ (postfix_optional b ++ between left middle to (sign difference)) ≡ postfix_optional (join minus (some t) b)
  less_written b left middle to = join_written minus (some t) b left middle to (λ d e. no_tree e)

  -- what is written after a makes it the left operand
  left_written_lem : (form : Form) (a : Option Tree) (from at : ℕ) → at ≡ from + length (postfix_optional a)
      → postfix_optional a ++ left_written form (eqb from at) (postfix t) ≡ postfix_optional (left_tree form (some t) a)
  left_written_lem Drop a from at e = append-nil (postfix_optional a)
  left_written_lem Less a from at e = append-nil (postfix_optional a)
  left_written_lem Plus a from at e = append-nil (postfix_optional a)
  left_written_lem ReducedPlus a from at e = joined_written minus a from at e
  left_written_lem JoinedLess a from at e = joined_written plus a from at e
  left_written_lem LessOutside a from at e = append-nil (postfix_optional a)
  left_written_lem ReducedUnion a from at e = joined_written minus a from at e
  left_written_lem JoinedDifference a from at e = joined_written plus a from at e

  -- what is written before and after b makes it the right operand
  right_written : (form : Form) (b : Option Tree) (left middle to : ℕ) → is_drop form ≡ false → middle ≡ left + length (before_written form (postfix t))
      → to ≡ middle + length (postfix_optional b)
      → before_written form (postfix t) ++ (postfix_optional b ++ after_written form left middle to (postfix t)) ≡ postfix_optional (right_tree form (some t) b)
  right_written Drop b left middle to n p q = absurd (false≢true (sym n))
  right_written Less b left middle to n p q = less_written b left middle to p q
  right_written Plus b left middle to n p q = less_written b left middle to p q
  right_written ReducedPlus b left middle to n p q = less_written b left middle to p q
  right_written JoinedLess b left middle to n p q = less_written b left middle to p q
  right_written LessOutside b left middle to n p q = joined_written minus b middle to q
  right_written ReducedUnion b left middle to n p q = append-nil (postfix_optional b)
  right_written JoinedDifference b left middle to n p q = append-nil (postfix_optional b)

-- a tree that ends with its left operand
join_ends : (o : Basic) (l r : Option Tree) (from at : ℕ) → at ≡ from + length (postfix_optional l) → eqb from at && eqb (sign (operator_of o)) (sign difference) ≡ true → join o l r ≡ l
join_ends plus l r from at e h = absurd (go (eqb from at) h)
  where
    go : (b : Bool) → b && false ≡ true → ⊥
    go true h = false≢true h
    go false h = false≢true h
join_ends minus none r from at e h = refl
join_ends minus (some l) r from at e h = absurd (false≢true (sym (ap (λ (b : Bool). b && true) (ne_eqb from at (λ z. omega (arith, tree_long l)))) ∙ h))

-- one that goes on: no difference is of nothing
join_goes : (o : Basic) (l r : Option Tree) (from at : ℕ) → at ≡ from + length (postfix_optional l) → eqb from at && eqb (sign (operator_of o)) (sign difference) ≡ false
    → o ≡ minus → l ≡ none → r ≡ none
join_goes plus l r from at e h d z = absurd (let w : ◌≡◌ {A = ℕ} 0 1 = cc in omega arith)
join_goes minus none r from at e h d z = absurd (false≢true (sym h ∙ ap (λ (b : Bool). b && true) (eq-eqb from at (omega arith))))
join_goes minus (some l) r from at e h d z = no_tree z

or_false : (a b : Bool) → a || b ≡ false → (a ≡ false) × (b ≡ false)
or_false true b e = absurd (false≢true (sym e))
or_false false b e = (refl, e)

goes_on_lem : (form : Form) (e : Bool) → ends_there form e ≡ false → (is_drop form ≡ false) × (e && eqb (sign (operator_of (outer form))) (sign difference) ≡ false)
goes_on_lem form e = or_false (is_drop form) (e && eqb (sign (operator_of (outer form))) (sign difference))

pub has_right : (form : Form) (e : Bool) → ends_there form e ≡ false → is_drop form ≡ false
has_right form e h = (goes_on_lem form e h).0

pub plus_none : (a : Option Tree) → join plus a none ≡ a
plus_none none = refl
plus_none (some a) = refl

formed_ends : (form : Form) (x a b : Option Tree) (from at : ℕ) → at ≡ from + length (postfix_optional (left_tree form x a)) → ends_there form (eqb from at) ≡ true
    → formed form x a b ≡ left_tree form x a
formed_ends Drop x a b from at e h = plus_none a
formed_ends Less x a b from at e h = join_ends minus a _ from at e h
formed_ends Plus x a b from at e h = join_ends plus a _ from at e h
formed_ends ReducedPlus x a b from at e h = join_ends plus (join minus a x) _ from at e h
formed_ends JoinedLess x a b from at e h = join_ends minus (join plus a x) _ from at e h
formed_ends LessOutside x a b from at e h = join_ends minus a _ from at e h
formed_ends ReducedUnion x a b from at e h = join_ends plus (join minus a x) b from at e h
formed_ends JoinedDifference x a b from at e h = join_ends minus (join plus a x) b from at e h

module _ (t : Tree) {xs : List ℕ} (ex : xs ≡ postfix t) (form : Form) (a b : Option Tree) {out o₁ o₂ : List ℕ} {at i left : ℕ}
    (f : Wrote out at o₁ i (postfix_optional a)) (g : Wrote o₁ i o₂ left (left_written form (eqb at i) xs)) where
  left_wrote : Wrote out at o₂ left (postfix_optional (left_tree form (some t) a))
  left_wrote = wrote_as (wrote_then f g) (rw ex (left_written_lem t form a at i f.ends))

  -- what is written is the list of the form's tree: where it ends with the left operand, and where not
  pub form_ends : ends_there form (eqb at left) ≡ true → Wrote out at o₂ left (postfix_optional (formed form (some t) a b))
  form_ends h = wrote_as left_wrote (ap postfix_optional (sym (formed_ends form (some t) a b at left left_wrote.ends h)))

  pub form_wrote : {o₃ o₄ o₅ o₆ : List ℕ} {middle to right r : ℕ} → ends_there form (eqb at left) ≡ false → Wrote o₂ left o₃ middle (before_written form xs)
      → Wrote o₃ middle o₄ to (postfix_optional b) → Wrote o₄ to o₅ right (after_written form left middle to xs)
      → Wrote o₅ right o₆ r (between at left right (sign (operator_of (outer form)))) → Wrote out at o₆ r (postfix_optional (formed form (some t) a b))
  form_wrote {o₃} {o₄} {o₅} {o₆} {middle} {to} h p q s u =
      let e : middle ≡ left + length (before_written form (postfix t)) = rw (sym ex) p.ends in
      let w = right_written t form b left middle to (has_right form (eqb at left) h) e q.ends in
      wrote_join (outer form) (left_tree form (some t) a) (right_tree form (some t) b)
      (join_goes (outer form) (left_tree form (some t) a) (right_tree form (some t) b) at left left_wrote.ends (goes_on_lem form (eqb at left) h).1)
      left_wrote (wrote_as (wrote_then p (wrote_then q s)) (rw ex w)) u

-- ---- the variables without one, in an array
module _ (gs : List ℕ) (v : ℕ) (h : v < length gs) where
  pub before_length : length (take v gs) ≡ v
  before_length = length-take-le v gs (omega arith)

  rest_all : take (length gs - (v + 1)) (drop (v + 1) gs) ≡ drop (v + 1) gs
  rest_all = take_all (length gs - (v + 1)) (drop (v + 1) gs) (omega (arith, length-drop (v + 1) gs))

  pub after_length : length (take (length gs - (v + 1)) (drop (v + 1) gs)) ≡ length gs - (v + 1)
  after_length = ap length rest_all ∙ length-drop (v + 1) gs

  pub without_length : length (without v gs) ≡ length gs - 1
  without_length = omega (arith, length-append (take v gs) (drop (v + 1) gs), before_length, length-drop (v + 1) gs)

  pub without_wrote : {zs o₁ o₂ : List ℕ} {i j : ℕ} → length gs ≤ length zs → Wrote zs 0 o₁ i (take v gs)
      → Wrote o₁ i o₂ j (take (length gs - (v + 1)) (drop (v + 1) gs)) → take (length gs - 1) o₂ ≡ without v gs
  without_wrote {zs} {o₁} {o₂} {i} {j} l f g =
      let w = wrote_then f (wrote_as g rest_all) in
      let e : length gs - 1 ≡ j = omega (arith, w.ends, without_length) in
      rw e (wrote_take w (omega (arith, without_length)))

-- ---- room: all that is written for a form
joined_short : (s : ℕ) (e : Bool) (xs : List ℕ) → length (joined_by s e xs) ≤ length xs + 1
joined_short s true xs = go (eqb s (sign difference))
  where
    go : (b : Bool) → length {A = ℕ} (cond b [] xs) ≤ length xs + 1
    go true = omega arith
    go false = omega arith
joined_short s false xs = omega (arith, length-append xs (s ∷ []))

pub left_room : (form : Form) (e : Bool) (xs : List ℕ) (a b : ℕ) → a + length (left_written form e xs) ≤ most_formed form (length xs) a b
left_room Drop e xs a b = omega arith
left_room Less e xs a b = omega arith
left_room Plus e xs a b = omega arith
left_room ReducedPlus e xs a b = omega (arith, joined_short (sign difference) e xs)
left_room JoinedLess e xs a b = omega (arith, joined_short (sign union) e xs)
left_room LessOutside e xs a b = omega arith
left_room ReducedUnion e xs a b = omega (arith, joined_short (sign difference) e xs)
left_room JoinedDifference e xs a b = omega (arith, joined_short (sign union) e xs)

pub whole_room : (form : Form) (e : Bool) (xs : List ℕ) (a b left middle to : ℕ) → is_drop form ≡ false
    → a + length (left_written form e xs) + length (before_written form xs) + b + length (after_written form left middle to xs) + 1 ≤ most_formed form (length xs) a b
whole_room Drop e xs a b left middle to n = absurd (false≢true (sym n))
whole_room Less e xs a b left middle to n = omega (arith, between_short left middle to (sign difference))
whole_room Plus e xs a b left middle to n = omega (arith, between_short left middle to (sign difference))
whole_room ReducedPlus e xs a b left middle to n = omega (arith, between_short left middle to (sign difference), joined_short (sign difference) e xs)
whole_room JoinedLess e xs a b left middle to n = omega (arith, between_short left middle to (sign difference), joined_short (sign union) e xs)
whole_room LessOutside e xs a b left middle to n = omega (arith, joined_short (sign difference) (eqb middle to) xs)
whole_room ReducedUnion e xs a b left middle to n = omega (arith, joined_short (sign difference) e xs)
whole_room JoinedDifference e xs a b left middle to n = omega (arith, joined_short (sign union) e xs)
