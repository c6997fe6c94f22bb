-- A part's level is how many operators take it, one after another: the loop of `level_of`, turn by turn.
use mathlib.Core.Path.{◌≡◌, refl, ap, ◌∙◌}
use mathlib.Core.Bool.{cond}
use mathlib.Core.List.{List, [], ◌∷◌, ◌++◌, append_assoc}
use Prim.Native.Nat.{ℕ, ◌+◌, ◌-◌, ◌≤◌, ◌<◌}
use native.Mathlib.Omega.{arith}
use borrow.Author.Tests.{le-leb, lt-leb}
use lib.Dec.{leb}
use lib.ListN.{length, get_or, drop, drop_of_length-le}
use Rattle.tree.specs.Tree.{Operator, union, Tree, leaf, node, sign, postfix}
use Rattle.tree.specs.Context.{left, right, Frame, frame}
use Rattle.tree.specs.InnerPart.{Part}
use Rattle.tree.specs.InnerScan.{is_operator}
use Rattle.tree.proofs.ContextLaws.{after}
use Rattle.tree.proofs.PassLaws.{here}
use Rattle.tree.proofs.ScanLaws.{operator_sign_lem, operator_leaf}
use Rattle.tree.proofs.PartLaws.{part_drop}

-- how many operators take the operand just passed, one after another, where k operands stand after it already
unfoldable pub rises : ℕ → List ℕ → ℕ
rises k [] = 0
rises k (x ∷ xs) = cond (is_operator x) (cond (leb k 1) (rises 0 xs + 1) (rises (k - 1) xs)) (rises (k + 1) xs)

module _ (l : List ℕ) (i k : ℕ) where
  pub rises_up : i < length l → sign union ≤ get_or l i 0 → k ≤ 1 → rises k (drop i l) ≡ rises 0 (drop (i + 1) l) + 1
  rises_up h o n = rw (here l i h) (unfold rises in simp (le-leb _ _ o, le-leb k 1 n))

  pub rises_operator : i < length l → sign union ≤ get_or l i 0 → 1 < k → rises k (drop i l) ≡ rises (k - 1) (drop (i + 1) l)
  rises_operator h o n = rw (here l i h) (unfold rises in simp (le-leb _ _ o, lt-leb k 1 n))

  pub rises_leaf : i < length l → get_or l i 0 < sign union → rises k (drop i l) ≡ rises (k + 1) (drop (i + 1) l)
  rises_leaf h o = rw (here l i h) (unfold rises in simp (lt-leb _ _ o))

  pub rises_end : length l ≤ i → rises k (drop i l) ≡ 0
  rises_end h = rw (drop_of_length-le l h) (unfold rises in refl)

-- ---- over a tree's list
rises_sign : (o : Operator) (k : ℕ) (r : List ℕ) → k ≤ 1 → rises k (sign o ∷ r) ≡ rises 0 r + 1
unfolding rises
rises_sign o k r h = simp (operator_sign_lem o, le-leb k 1 h)

rises_postfix : (s : Tree) (k : ℕ) (r : List ℕ) → rises k (postfix s ++ r) ≡ rises (k + 1) r
unfolding rises postfix
rises_postfix (leaf g h) k r = rw (operator_leaf g h)
rises_postfix (node o x y) k r =
    let q : k + 1 + 1 - 1 ≡ k + 1 = omega arith in
    rw (append_assoc (postfix x) (postfix y ++ (sign o ∷ [])) r, append_assoc (postfix y) (sign o ∷ []) r)
    (rises_postfix x k (postfix y ++ (sign o ∷ r)) ∙ rises_postfix y (k + 1) (sign o ∷ r) ∙ simp (operator_sign_lem o, lt-leb (k + 1 + 1) 1 (omega arith), q))

rises_after : (c : List Frame) → rises 0 (after c) ≡ length c
unfolding after
rises_after [] = unfold rises in refl
rises_after (frame left o b ∷ c) = rises_postfix b 0 (sign o ∷ after c) ∙ rises_sign o 1 (after c) (omega arith) ∙ omega (arith, rises_after c)
rises_after (frame right o b ∷ c) = rises_sign o 0 (after c) (omega arith) ∙ omega (arith, rises_after c)

pub part_level : {l : List ℕ} {f t : ℕ} {a : Tree} {c : List Frame} → Part l f t a c → rises 0 (drop t l) ≡ length c
part_level {l} {f} {t} {a} {c} P = ap (rises 0) (part_drop P) ∙ rises_after c
