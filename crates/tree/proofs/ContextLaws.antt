-- Laws of a node's context: the list around it, what the whole selects, and the node at a position.
use mathlib.Core.Path.{◌≡◌, refl, sym, ap, subst, ◌∙◌}
use mathlib.Core.Bool.{Bool, true, false, cond}
use mathlib.Core.List.{List, [], ◌∷◌, ◌++◌, append_assoc, append-nil}
use Prim.Native.Nat.{ℕ, ◌+◌, ◌-◌, ◌<◌}
use native.Mathlib.Omega.{arith}
use borrow.Author.Tests.{ltb-true, ltb-false, lt-ltb, le-ltb}
use lib.Dec.{ltb}
use lib.ListN.{length, length-append}
use Rattle.tree.specs.Tree.{Operator, union, difference, intersection, Tree, leaf, node, postfix, size, selects, sign, apply, WithoutIntersection}
use Rattle.tree.specs.Context.{Side, left, right, Frame, frame, sided, plug, before, position, Place}
use Rattle.tree.specs.Parse.{locate}
use Rattle.tree.proofs.TreeLaws.{postfix_length, size_positive}

unfoldable pub after : List Frame → List ℕ
after [] = []
after (frame left o b ∷ c) = postfix b ++ (sign o ∷ after c)
after (frame right o b ∷ c) = sign o ∷ after c

-- what the whole selects, by what the part selects
unfoldable pub selects_above : (ℕ → Bool) → List Frame → Bool → Bool
selects_above v [] x = x
selects_above v (frame s o b ∷ c) x = selects_above v c (sided s (apply o) x (selects v b))

-- a node's part is the stretch that ends at it
pub postfix_plug : (t : Tree) (c : List Frame) → postfix (plug t c) ≡ before c ++ (postfix t ++ after c)
unfolding postfix plug before after
postfix_plug t [] = sym (append-nil (postfix t))
postfix_plug t (frame left o b ∷ c) = postfix_plug (node o t b) c ∙ simp append_assoc
postfix_plug t (frame right o b ∷ c) = postfix_plug (node o b t) c ∙ simp append_assoc

pub size_plug : (t : Tree) (c : List Frame) → size (plug t c) ≡ length (before c) + size t + length (after c)
size_plug t c =
    sym (postfix_length (plug t c)) ∙ ap length (postfix_plug t c)
    ∙ omega (arith, length-append (before c) (postfix t ++ after c), length-append (postfix t) (after c), postfix_length t)

pub selects_plug : (v : ℕ → Bool) (t : Tree) (c : List Frame) → selects v (plug t c) ≡ selects_above v c (selects v t)
unfolding selects plug selects_above
selects_plug v t [] = refl
selects_plug v t (frame left o b ∷ c) = selects_plug v (node o t b) c
selects_plug v t (frame right o b ∷ c) = selects_plug v (node o b t) c

pub plug_append : (t : Tree) (c d : List Frame) → plug t (c ++ d) ≡ plug (plug t c) d
unfolding plug
plug_append t [] d = refl
plug_append t (frame s o b ∷ c) d = plug_append (sided s (node o) t b) c d

-- the node at a position: the place that `locate` gives has that position, and its part and context make up the tree
pub record Found (t : Tree) (c : List Frame) (p : ℕ) (s : Place) : Type 0 where
  pub same : plug s.part s.above ≡ plug t c
  pub place : length (before s.above) + size s.part ≡ length (before c) + p + 1

pub found_at : (t : Tree) (c : List Frame) (p : ℕ) → p < size t → Found t c p (locate t c p)
unfolding locate plug before size
found_at (leaf g h) c p k = record { same = refl; place = omega arith }
found_at (node o l r) c p k = go (found_at l (frame left o r ∷ c) p) (found_at r (frame right o l ∷ c) (p - size l)) (ltb p (size l)) (ltb p (size l + size r)) refl refl
  where
    go : (p < size l → Found l (frame left o r ∷ c) p (locate l (frame left o r ∷ c) p))
        → (p - size l < size r → Found r (frame right o l ∷ c) (p - size l) (locate r (frame right o l ∷ c) (p - size l)))
        → (b d : Bool) → ltb p (size l) ≡ b → ltb p (size l + size r) ≡ d
        → Found (node o l r) c p (cond b (locate l (frame left o r ∷ c) p) (cond d (locate r (frame right o l ∷ c) (p - size l)) (record { part = node o l r; above = c })))
    go fl fr true d e f = let F = fl (ltb-true p (size l) e) in record { same = F.same; place = F.place }
    go fl fr false true e f =
        let F = fr (omega (arith, ltb-true p (size l + size r) f, ltb-false p (size l) e)) in
        record { same = F.same; place = F.place ∙ omega (arith, ltb-false p (size l) e, length-append (before c) (postfix l), postfix_length l) }
    go fl fr false false e f = record { same = refl; place = omega (arith, ltb-false p (size l + size r) f) }

-- the node sought stands in the left operand's part, in the right one's, or it is the root
pub locate_left : (o : Operator) (l r : Tree) (c : List Frame) (p : ℕ) → p < size l → locate (node o l r) c p ≡ locate l (frame left o r ∷ c) p
unfolding locate
locate_left o l r c p h = rw (lt-ltb p (size l) h)

pub locate_right : (o : Operator) (l r : Tree) (c : List Frame) (p q : ℕ) → p ≡ size l + q → q < size r → locate (node o l r) c p ≡ locate r (frame right o l ∷ c) q
unfolding locate
locate_right o l r c p q e h =
    let z : p - size l ≡ q = omega arith in
    rw (le-ltb p (size l) (omega arith), lt-ltb p (size l + size r) (omega arith), z)

pub locate_here : (t : Tree) (c : List Frame) (p : ℕ) → p + 1 ≡ size t → locate t c p ≡ record { part = t; above = c }
unfolding locate size
locate_here (leaf g h) c p e = refl
locate_here (node o l r) c p e = rw (le-ltb p (size l) (omega (arith, size_positive r)), le-ltb p (size l + size r) (omega arith))

pub located_whole : (t : Tree) (p : ℕ) → p < size t → plug (locate t [] p).part (locate t [] p).above ≡ t
unfolding plug
located_whole t p h = (found_at t [] p h).same

-- the node at a part's position is that part, with that context
locate_within : (h : Tree) (c d : List Frame) (p : ℕ) → p < size h → locate (plug h c) d (length (before c) + p) ≡ locate h (c ++ d) p
unfolding plug before size
locate_within h [] d p k = ap (locate h d) (let z : 0 + p ≡ p = omega arith in z)
locate_within h (frame left o b ∷ c) d p k =
    locate_within (node o h b) c d p (omega arith) ∙ locate_left o h b (c ++ d) p k
locate_within h (frame right o b ∷ c) d p k =
    let e : length (before c ++ postfix b) + p ≡ length (before c) + (size b + p) = omega (arith, length-append (before c) (postfix b), postfix_length b) in
    ap (locate (plug (node o b h) c) d) e ∙ locate_within (node o b h) c d (size b + p) (omega arith)
    ∙ locate_right o b h (c ++ d) (size b + p) p refl k

pub locate_plug : (h : Tree) (c : List Frame) → locate (plug h c) [] (position h c) ≡ record { part = h; above = c }
locate_plug h c =
    let e : position h c ≡ length (before c) + (size h - 1) = omega (arith, size_positive h) in
    ap (locate (plug h c) []) e ∙ locate_within h c [] (size h - 1) (omega (arith, size_positive h))
    ∙ ap (λ (d : List Frame). locate h d (size h - 1)) (append-nil c) ∙ locate_here h c (size h - 1) (omega (arith, size_positive h))

pub position_most : (h : Tree) (c : List Frame) → position h c < size (plug h c)
position_most h c = omega (arith, size_plug h c, size_positive h)

-- ---- in a tree without `I` no part has one, and no frame is an `I`'s
both_without : (o : Operator) (l r : Tree) → WithoutIntersection (node o l r) → WithoutIntersection l × WithoutIntersection r
unfolding WithoutIntersection
both_without union l r w = w
both_without difference l r w = w
both_without intersection l r w = absurd w

pub without_part : (t : Tree) (c : List Frame) → WithoutIntersection (plug t c) → WithoutIntersection t
unfolding plug
without_part t [] w = w
without_part t (frame left o b ∷ c) w = (both_without o t b (without_part (node o t b) c w)).0
without_part t (frame right o b ∷ c) w = (both_without o b t (without_part (node o b t) c w)).1

pub without_frame : (t : Tree) (s : Side) (o : Operator) (b : Tree) (c : List Frame) → WithoutIntersection (plug t (frame s o b ∷ c)) → o ≡ intersection → ⊥
unfolding plug WithoutIntersection
without_frame t left o b c w e = subst (λ (o : Operator). WithoutIntersection (node o t b)) e (without_part (node o t b) c w)
without_frame t right o b c w e = subst (λ (o : Operator). WithoutIntersection (node o b t)) e (without_part (node o b t) c w)
