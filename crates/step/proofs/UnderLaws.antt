-- From a part to its parent: what the innermost frame says of the list.
use mathlib.Core.Path.{◌≡◌, refl, sym, ap, ◌∙◌}
use mathlib.Core.List.{List, [], ◌∷◌}
use Prim.Native.Nat.{ℕ, ◌+◌, ◌-◌}
use native.Mathlib.Omega.{arith}
use lib.ListN.{length}
use Rattle.std.specs.Prelude.{Option, Some, None, Result, Ok, Err}
use Rattle.std.specs.Option.{ok_or}
use Rattle.std.proofs.lemmas.Option.{same_Some}
use Rattle.tree.specs.Tree.{Tree, node, size}
use Rattle.tree.specs.Context.{left, right, Frame, frame, plug, before}
use Rattle.tree.specs.InnerPart.{Part, above_of}
use Rattle.tree.proofs.PartLaws.{part_length, part_own, before_right}
use Rattle.tree.specs.declared.Stretch.{Stretch}
use Rattle.tree.specs.declared.Above.{Above}
use Rattle.words.specs.InnerWords.{Range}
use Rattle.step.specs.InnerSteps.{UnderIs}

module _ {l : List ℕ} {f t : ℕ} {a : Tree} {c : List Frame} (P : Part l f t a c) where
  pub part_range : Range l (record { from = f; to = t })
  part_range = record { low = omega (arith, P.ends); high = omega (arith, part_length P) }

pub is_root : (s : Stretch) (c : List Frame) → None ≡ above_of s c → c ≡ []
unfolding above_of
is_root s [] e = refl
is_root s (frame left o b ∷ c) e = absurd cc
is_root s (frame right o b ∷ c) e = absurd cc

pub is_under : (l : List ℕ) (s : Stretch) (a : Tree) (c : List Frame) (r : Above) → Part l s.from s.to a c → Some r ≡ above_of s c → UnderIs l a c r
unfolding above_of
is_under l s a [] r P e = absurd cc
is_under l s a (frame left o b ∷ c) r P e =
    let same = same_Some r _ e in
    let e₁ : r.sibling.from ≡ s.to = ap (λ (x : Above). x.sibling.from) same in
    let e₂ : r.sibling.to ≡ s.to + size b = ap (λ (x : Above). x.sibling.to) same in
    let e₃ : r.parent.from ≡ s.from = ap (λ (x : Above). x.parent.from) same in
    let e₄ : r.parent.to ≡ s.to + size b + 1 = ap (λ (x : Above). x.parent.to) same in
    let s₁ : s.from ≡ length (before c) = unfold before in P.begins in
    let z : size (node o a b) ≡ size a + size b + 1 = unfold size in refl in
    let Q : Part l r.sibling.from r.sibling.to b (frame right o a ∷ c) = record { whole = unfold plug in P.whole; begins = omega (arith, P.ends, before_right o a c); ends = omega arith } in
    record {
      side = left;
      operator = o;
      sibling = b;
      rest = c;
      is = refl;
      kind = ap (λ (x : Above). x.operand) same;
      parent = record { whole = unfold plug in P.whole; begins = omega arith; ends = omega (arith, P.ends) };
      range = part_range Q;
      entries = part_own Q;
    }
is_under l s a (frame right o b ∷ c) r P e =
    let same = same_Some r _ e in
    let e₁ : r.sibling.from ≡ s.from - size b = ap (λ (x : Above). x.sibling.from) same in
    let e₂ : r.sibling.to ≡ s.from = ap (λ (x : Above). x.sibling.to) same in
    let e₃ : r.parent.from ≡ s.from - size b = ap (λ (x : Above). x.parent.from) same in
    let e₄ : r.parent.to ≡ s.to + 1 = ap (λ (x : Above). x.parent.to) same in
    let s₁ : s.from ≡ length (before c) + size b = P.begins ∙ before_right o b c in
    let n : length (before (frame left o a ∷ c)) ≡ length (before c) = unfold before in refl in
    let z : size (node o b a) ≡ size b + size a + 1 = unfold size in refl in
    let Q : Part l r.sibling.from r.sibling.to b (frame left o a ∷ c) = record { whole = unfold plug in P.whole; begins = omega arith; ends = omega arith } in
    record {
      side = right;
      operator = o;
      sibling = b;
      rest = c;
      is = refl;
      kind = ap (λ (x : Above). x.operand) same;
      parent = record { whole = unfold plug in P.whole; begins = omega arith; ends = omega (arith, P.ends) };
      range = part_range Q;
      entries = part_own Q;
    }

-- ---- an Option as a Result
pub none_given : {T E : Type 0} (o : Option T) (e x : E) → ok_or o e ≡ Err x → (o ≡ None) × (x ≡ e)
none_given None e x h = (refl, cc)
none_given (Some y) e x h = absurd cc

pub some_given : {T E : Type 0} (o : Option T) (e : E) (x : T) → ok_or o e ≡ Ok x → o ≡ Some x
some_given None e x h = absurd cc
some_given (Some y) e x h = cc

-- ---- what `above_part` answered, as `ok_or` and `?` hand it on
module _ {E : Type 0} {l : List ℕ} (s : Stretch) {r : Option Above} {q : Result Above E} (e : E)
    (f : (a : Tree) (c : List Frame) → Part l s.from s.to a c → r ≡ above_of s c) (g : q ≡ ok_or r e) where
  pub root_by : {x : E} → q ≡ Err x → (x ≡ e) × ((a : Tree) (c : List Frame) → Part l s.from s.to a c → c ≡ [])
  root_by {x} h = let n = none_given r e x (sym g ∙ h) in (n.1, λ a c P. is_root s c (sym n.0 ∙ f a c P))

  pub under_by : {x : Above} → q ≡ Ok x → (a : Tree) (c : List Frame) → Part l s.from s.to a c → UnderIs l a c x
  under_by {x} h a c P = is_under l s a c x P (sym (some_given r e x (sym g ∙ h)) ∙ f a c P)
