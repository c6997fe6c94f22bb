-- Gathered trees, node by node, and why five fillings rule them out: all frames above a holder are over unmarked groups, so
-- where the marked groups alone change and the root goes from true to false, the holder goes from one value to the other,
-- and which is first depends on the frames only (each right operand of a difference turns it over).
use mathlib.Core.Path.{◌≡◌, refl, sym, ap, ◌∙◌}
use mathlib.Core.Bool.{Bool, true, false, not, cond, true≢false, false≢true}
use mathlib.Core.List.{List, [], ◌∷◌, ◌++◌, append_assoc, append-nil}
use Prim.Native.Nat.{ℕ, ◌+◌, ◌-◌}
use native.Mathlib.Omega.{arith}
use lib.ListN.{length, length-append}
use Rattle.tree.specs.Tree.{Operator, union, difference, intersection, Tree, node, postfix, size, apply, selects, Over}
use Rattle.tree.specs.Context.{Side, left, right, Frame, frame, sided, plug, before, OverAbove}
use Rattle.tree.proofs.ContextLaws.{selects_above, selects_plug, plug_append}
use Rattle.tree.proofs.TreeLaws.{postfix_length, size_positive, selects_agree, equivalent_selects}
use Rattle.gather.specs.Gathering.{Gathered, CannotBeGathered}
use Rattle.gather.proofs.Criterion.{mixed, column, TwoColumns, FiveFillings}

-- ---- gathered trees, from the holder to the root
abbrev pub unmarked : (ℕ → Bool) → ℕ → Bool
unmarked m g = not (m g)

pub gathered_whole : {m : ℕ → Bool} (t : Tree) → Over m t → Gathered m t (size t - 1)
unfolding plug before OverAbove
gathered_whole t h = record { holder = t; above = []; whole = refl; marked = h; others = tt; at = omega arith }

over_end : (m : ℕ → Bool) (c : List Frame) (s : Side) (o : Operator) (b : Tree) → OverAbove m c → Over m b → OverAbove m (c ++ (frame s o b ∷ []))
unfolding OverAbove
over_end m [] s o b p q = (q, tt)
over_end m (frame s₁ o₁ b₁ ∷ c) s o b p q = (p.0, over_end m c s o b p.1 q)

before_left : (c : List Frame) (o : Operator) (b : Tree) → before (c ++ (frame left o b ∷ [])) ≡ before c
unfolding before
before_left [] o b = refl
before_left (frame left o₁ b₁ ∷ c) o b = before_left c o b
before_left (frame right o₁ b₁ ∷ c) o b = ap (λ (x : List ℕ). x ++ postfix b₁) (before_left c o b)

before_right : (c : List Frame) (o : Operator) (b : Tree) → before (c ++ (frame right o b ∷ [])) ≡ postfix b ++ before c
unfolding before
before_right [] o b = sym (append-nil (postfix b))
before_right (frame left o₁ b₁ ∷ c) o b = before_right c o b
before_right (frame right o₁ b₁ ∷ c) o b = ap (λ (x : List ℕ). x ++ postfix b₁) (before_right c o b) ∙ append_assoc (postfix b) (before c) (postfix b₁)

pub gathered_left : {m : ℕ → Bool} {l : Tree} {p : ℕ} (o : Operator) (r : Tree) → Gathered m l p → Over (unmarked m) r → Gathered m (node o l r) p
unfolding plug
gathered_left {m} {l} {p} o r g h = record {
  holder = g.holder;
  above = g.above ++ (frame left o r ∷ []);
  whole = ap (λ (t : Tree). node o t r) g.whole ∙ sym (plug_append g.holder g.above (frame left o r ∷ []));
  marked = g.marked;
  others = over_end (unmarked m) g.above left o r g.others h;
  at = g.at ∙ ap (λ (x : List ℕ). length x + size g.holder - 1) (sym (before_left g.above o r));
}

pub gathered_right : {m : ℕ → Bool} {r : Tree} {p : ℕ} (o : Operator) (l : Tree) → Over (unmarked m) l → Gathered m r p → Gathered m (node o l r) (size l + p)
unfolding plug
gathered_right {m} {r} {p} o l h g = record {
  holder = g.holder;
  above = g.above ++ (frame right o l ∷ []);
  whole = ap (node o l) g.whole ∙ sym (plug_append g.holder g.above (frame right o l ∷ []));
  marked = g.marked;
  others = over_end (unmarked m) g.above right o l g.others h;
  at = let e : length (before (g.above ++ (frame right o l ∷ []))) ≡ size l + length (before g.above)
      = ap length (before_right g.above o l) ∙ length-append (postfix l) (before g.above) ∙ ap (λ (x : ℕ). x + length (before g.above)) (postfix_length l) in
      omega (arith, g.at, size_positive g.holder);
}

-- ---- what an operator's value says of the operand that changes, x to y; the other, b, stays
left_of : (o : Operator) (x y b : Bool) → apply o x b ≡ true → apply o y b ≡ false → (x ≡ true) × (y ≡ false)
left_of union true false b p q = (refl, refl)
left_of union true true b p q = absurd (true≢false q)
left_of union false true b p q = absurd (true≢false q)
left_of union false false b p q = absurd (true≢false (sym p ∙ q))
left_of difference true false b p q = (refl, refl)
left_of difference true true b p q = absurd (true≢false (sym p ∙ q))
left_of difference false y b p q = absurd (true≢false (sym p))
left_of intersection true false b p q = (refl, refl)
left_of intersection true true b p q = absurd (true≢false (sym p ∙ q))
left_of intersection false y b p q = absurd (true≢false (sym p))

right_union : (x y b : Bool) → apply union b x ≡ true → apply union b y ≡ false → (x ≡ true) × (y ≡ false)
right_union x y true p q = absurd (true≢false q)
right_union x y false p q = (p, q)

right_difference : (x y b : Bool) → apply difference b x ≡ true → apply difference b y ≡ false → (y ≡ true) × (x ≡ false)
right_difference true y true p q = absurd (true≢false (sym p))
right_difference false true true p q = (refl, refl)
right_difference false false true p q = absurd (true≢false q)
right_difference x y false p q = absurd (true≢false (sym p))

right_intersection : (x y b : Bool) → apply intersection b x ≡ true → apply intersection b y ≡ false → (x ≡ true) × (y ≡ false)
right_intersection x y true p q = (p, q)
right_intersection x y false p q = absurd (true≢false (sym p))

-- a frame keeps the holder's value, or turns it over
abbrev turned : Side → Operator → Bool → Bool
turned left o b = b
turned right union b = b
turned right difference b = not b
turned right intersection b = b

turned_by : (s : Side) (o : Operator) (x y b c : Bool) → sided s (apply o) x b ≡ c → sided s (apply o) y b ≡ not c → (x ≡ turned s o c) × (y ≡ not (turned s o c))
turned_by left o x y b true p q = left_of o x y b p q
turned_by left o x y b false p q = let z = left_of o y x b q p in (z.1, z.0)
turned_by right union x y b true p q = right_union x y b p q
turned_by right union x y b false p q = let z = right_union y x b q p in (z.1, z.0)
turned_by right difference x y b true p q = let z = right_difference x y b p q in (z.1, z.0)
turned_by right difference x y b false p q = right_difference y x b q p
turned_by right intersection x y b true p q = right_intersection x y b p q
turned_by right intersection x y b false p q = let z = right_intersection y x b q p in (z.1, z.0)

unfoldable polarity : List Frame → Bool
polarity [] = true
polarity (frame s o b ∷ c) = turned s o (polarity c)

-- two fillings that agree outside the marks, the root true at the first and false at the second: the holder's values there
turns : (m v w : ℕ → Bool) → ((g : ℕ) → unmarked m g ≡ true → v g ≡ w g) → (c : List Frame) (x y : Bool) → OverAbove (unmarked m) c
    → selects_above v c x ≡ true → selects_above w c y ≡ false → (x ≡ polarity c) × (y ≡ not (polarity c))
unfolding polarity selects_above OverAbove
turns m v w e [] x y h p q = (p, q)
turns m v w e (frame s o b ∷ c) x y h p q =
    let z = turns m v w e c (sided s (apply o) x (selects v b)) (sided s (apply o) y (selects w b)) h.1 p q in
    turned_by s o x y (selects v b) (polarity c) z.0 (ap (sided s (apply o) y) (selects_agree (unmarked m) v w e b h.0) ∙ z.1)

not_itself : (b : Bool) → b ≡ not b → ⊥
not_itself true e = true≢false e
not_itself false e = false≢true e

mixed_outside : (m p q r : ℕ → Bool) (g : ℕ) → unmarked m g ≡ true → mixed m p r g ≡ mixed m q r g
mixed_outside m p q r g h = go (m g) h
  where
    go : (b : Bool) → not b ≡ true → cond b (p g) (r g) ≡ cond b (q g) (r g)
    go true e = absurd (false≢true e)
    go false e = refl

-- five such fillings, and no gathered tree is equivalent: the holder would have both values at q
pub fillings_cannot : {m : ℕ → Bool} {t : Tree} → FiveFillings m t → CannotBeGathered m t
fillings_cannot {m} {t} f = record {
  never = λ u k same g.
      let on : (v : ℕ → Bool) → selects_above v g.above (selects v g.holder) ≡ selects v t
      = λ v. sym (selects_plug v g.holder g.above) ∙ ap (selects v) (sym g.whole) ∙ sym (equivalent_selects same v) in
      let x = turns m (mixed m f.q f.r) (mixed m f.p f.r) (mixed_outside m f.q f.p f.r) g.above _ _ g.others (on _ ∙ f.qr) (on _ ∙ f.pr) in
      let y = turns m (mixed m f.w f.s) (mixed m f.q f.s) (mixed_outside m f.w f.q f.s) g.above _ _ g.others (on _ ∙ f.ws) (on _ ∙ f.qs) in
      not_itself (polarity g.above)
      (sym x.0 ∙ selects_agree m (mixed m f.q f.r) (mixed m f.q f.s) (λ k e. rw e) g.holder g.marked ∙ y.1);
}

-- ---- the same by two columns
pub fillings_columns : {m : ℕ → Bool} {t : Tree} → FiveFillings m t → TwoColumns m t
fillings_columns {m} {t} f = record {
  r = f.r;
  s = f.s;
  different = (f.q, λ e. true≢false (sym f.qr ∙ e ∙ f.qs));
  first = (f.q, f.p, λ e. true≢false (sym f.qr ∙ e ∙ f.pr));
  second = (f.w, f.q, λ e. true≢false (sym f.ws ∙ e ∙ f.qs));
}

-- two values that differ: one is true, and one is false
one_of : {A : Type 0} (h : A → Bool) (p q : A) → (h p ≡ h q → ⊥) → (b : Bool) → (a : A) × (h a ≡ b)
one_of h p q n b = go (h p) (h q) b refl refl
  where
    go : (x y b : Bool) → h p ≡ x → h q ≡ y → (a : _) × (h a ≡ b)
    go true y true e f = (p, e)
    go false y false e f = (p, e)
    go true false false e f = (q, f)
    go false true true e f = (q, f)
    go true true false e f = absurd (n (e ∙ sym f))
    go false false true e f = absurd (n (e ∙ sym f))

pub columns_fillings : {m : ℕ → Bool} {t : Tree} → TwoColumns m t → FiveFillings m t
columns_fillings {m} {t} k = go (column m t k.r k.different.0) (column m t k.s k.different.0) refl refl
  where
    in_first : (b : Bool) → (p : ℕ → Bool) × (column m t k.r p ≡ b)
    in_first b = one_of (column m t k.r) k.first.0 k.first.1 k.first.2 b

    in_second : (b : Bool) → (p : ℕ → Bool) × (column m t k.s p ≡ b)
    in_second b = one_of (column m t k.s) k.second.0 k.second.1 k.second.2 b

    go : (x y : Bool) → column m t k.r k.different.0 ≡ x → column m t k.s k.different.0 ≡ y → FiveFillings m t
    go true false e f = record {
      p = (in_first false).0;
      q = k.different.0;
      w = (in_second true).0;
      r = k.r;
      s = k.s;
      qr = e;
      ws = (in_second true).1;
      pr = (in_first false).1;
      qs = f;
    }
    go false true e f = record {
      p = (in_second false).0;
      q = k.different.0;
      w = (in_first true).0;
      r = k.s;
      s = k.r;
      qr = f;
      ws = (in_first true).1;
      pr = (in_second false).1;
      qs = e;
    }
    go true true e f = absurd (k.different.1 (e ∙ sym f))
    go false false e f = absurd (k.different.1 (e ∙ sym f))
