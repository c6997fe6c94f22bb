-- Laws of a device's code, one induction for all of them, for every device alike: its length, the registers that it names and the law of
-- need, the groups that it loads, and what running it leaves.
use mathlib.Core.Path.{◌≡◌, refl, sym, ap, ◌∙◌}
use mathlib.Core.Bool.{Bool, true, false, cond, false≢true}
use mathlib.Core.List.{List, [], ◌∷◌, ◌++◌, append_assoc}
use Prim.Native.Nat.{ℕ, ◌+◌, ◌<◌}
use native.Mathlib.Omega.{arith}
use borrow.Author.Tests.{eq-eqb, ne_eqb}
use lib.Dec.{T}
use lib.ListN.{length, length-append}
use Rattle.tree.specs.Tree.{Operator, union, difference, intersection, Tree, leaf, node, is_group, size, Rig, apply, selects, selected, Over}
use Rattle.player.specs.Instructions.{Lamps, Registers, combined, put}
use Rattle.code.specs.Need.{need, left_first}
use Rattle.code.specs.Code.{operation}
use Rattle.code.proofs.NeedLaws.{first, second, need_node}
use Rattle.code.specs.Need.{in_order}
use Rattle.code.specs.Waiting.{lowest, also_in}
use Rattle.code.specs.Devices.{Device, PartCode, leaf_code, node_code, part_code}
use Rattle.code.specs.Acts.{Acts}
use Rattle.code.specs.Effects.{Effect, Every, Names, Loads}
use Rattle.code.proofs.NeedLaws.{in_order_node, in_order_by}
use Rattle.code.specs.InnerWaiting.{waiting}
use Rattle.code.proofs.WaitingLaws.{waits, lowest_free, lowest_most, also_waiting, also_free, also_there, also_still, Alike, lowest_alike, also_alike}

-- ---- lists
pub every_append : {A : Type 0} (P : A → Type 0) (xs ys : List A) → Every P xs → Every P ys → Every P (xs ++ ys)
unfolding Every
every_append P [] ys p q = q
every_append P (x ∷ xs) ys p q = (p.0, every_append P xs ys p.1 q)

pub every_implies : {A : Type 0} {P Q : A → Type 0} → ((x : A) → P x → Q x) → (xs : List A) → Every P xs → Every Q xs
unfolding Every
every_implies f [] p = tt
every_implies f (x ∷ xs) p = (f x p.0, every_implies f xs p.1)

-- ---- how the instructions of a device run; for each of the two it holds by computing
pub record Runs {I B : Type 0} (d : Device I) (rig : Rig) (run : List I → Registers → B) : Type 0 where
  pub loads : (r g : ℕ) (is : List I) (R : Registers) → run (d.loads r g ∷ is) R ≡ run is (put R r (rig g))
  pub operates : (o : Operator) (f : Bool) (p q : ℕ) (is : List I) (R : Registers)
      → run (d.operates o f p q ∷ is) R ≡ run is (put R (cond (d.keeps_first f) p q) (combined (operation o) (R (cond f p q)) (R (cond f q p))))

pub cond_by : {A : Type 0} (P : A → Type 0) (f : Bool) (x y : A) → P x → P y → P (cond f x y)
cond_by P true x y p q = p
cond_by P false x y p q = q

-- the nodes of a tree, by the order of its children
pub size_node : (o : Operator) (l r : Tree) → size (node o l r) ≡ size (first l r) + size (second l r) + 1
unfolding size
size_node o l r = go (left_first l r)
  where
    go : (f : Bool) → size l + size r + 1 ≡ size (cond f l r) + size (cond f r l) + 1
    go true = refl
    go false = omega arith

module _ {I : Type 0} (d : Device I) where
  -- ---- one induction
  pub part_leaf : (w : List Bool) (g : ℕ) (h : T (is_group g)) → part_code d w (leaf g h) ≡ leaf_code d w g
  unfolding part_code in_order
  part_leaf w g h = refl

  pub part_node : (w : List Bool) (o : Operator) (l r : Tree) → part_code d w (node o l r)
      ≡ node_code d w o (left_first l r) (part_code d w (first l r)) (part_code d (also_in w (part_code d w (first l r)).register) (second l r))
  unfolding part_code
  part_node w o l r = in_order_node (leaf_code d) (node_code d) (λ w x. also_in w x.register) w o l r

  pub part_by : (P : List Bool → Tree → PartCode I → Type 0)
      → ((w : List Bool) (g : ℕ) (h : T (is_group g)) → P w (leaf g h) (leaf_code d w g))
      → ((w : List Bool) (o : Operator) (l r : Tree) (x y : PartCode I) → P w (first l r) x → P (also_in w x.register) (second l r) y → P w (node o l r) (node_code d w o (left_first l r) x y))
      → (w : List Bool) (t : Tree) → P w t (part_code d w t)
  unfolding part_code
  part_by P a b w t = in_order_by (leaf_code d) (node_code d) (λ w x. also_in w x.register) P a b w t

  -- ---- it is by where operands wait, whichever list says so
  pub part_alike : (w : List Bool) (t : Tree) (v : List Bool) → Alike w v → part_code d w t ≡ part_code d v t
  part_alike =
      part_by (λ w t x. (v : List Bool) → Alike w v → x ≡ part_code d v t)
      (λ w g h v e. rw (part_leaf v g h, lowest_alike w v e))
      (λ w o l r x y p q v e.
      rw (part_node v o l r, ← (p v e), ← (q (also_in v x.register) (also_alike w v x.register e))))

  -- ---- one instruction for each node
  pub length_part : (w : List Bool) (t : Tree) → length (part_code d w t).own ≡ size t
  length_part =
      part_by (λ w t x. length x.own ≡ size t) (λ w g h. unfold size in refl)
      (λ w o l r x y p q. simp length-append (omega (arith, size_node o l r)))

-- ---- the law of need: while operands wait where w says, a part's code names registers where none waits, and so many as wait and the
-- part's need are enough
pub record Free (w : List Bool) (high register : ℕ) : Type 0 where
  pub outside : waits w register ≡ false
  pub below : register < high

module _ {I : Type 0} (d : Device I) (effect : I → Effect) (acts : Acts d effect) where
  pub record Named (w : List Bool) (t : Tree) (x : PartCode I) : Type 0 where
    pub names : Every (Names effect (Free w (waiting w + need t))) x.own
    pub register : Free w (waiting w + need t) x.register

  pub names_imply : {P Q : ℕ → Type 0} → ((q : ℕ) → P q → Q q) → (i : I) → Names effect P i → Names effect Q i
  names_imply f i p = (every_implies f _ p.0, every_implies f _ p.1)

  load_names : (P : ℕ → Type 0) (r g : ℕ) → P r → Every (Names effect P) (d.loads r g ∷ [])
  unfolding Every
  load_names P r g p = rw (acts.loads r g) ((tt, (p, tt)), tt)

  operate_names : (P : ℕ → Type 0) (o : Operator) (f : Bool) (p q : ℕ) → P p → P q → Every (Names effect P) (d.operates o f p q ∷ [])
  unfolding Every
  operate_names P o f p q a b =
      rw (acts.operates o f p q) (((cond_by P f p q a b, (cond_by P f q p b a, tt)), (cond_by P (d.keeps_first f) p q a b, tt)), tt)

  named_node : (w : List Bool) (o : Operator) (l r : Tree) (x y : PartCode I) → Named w (first l r) x → Named (also_in w x.register) (second l r) y
      → Named w (node o l r) (node_code d w o (left_first l r) x y)
  named_node w o l r x y p q = record {
    names =
        every_append (Names effect P) x.own _ (every_implies (names_imply one) x.own p.names)
        (every_append (Names effect P) y.own _ (every_implies (names_imply two) y.own q.names)
        (operate_names P o (left_first l r) x.register y.register (one _ p.register) (two _ q.register)));
    register = cond_by P (d.keeps_first (left_first l r)) x.register y.register (one _ p.register) (two _ q.register);
  }
    where
      P : ℕ → Type 0
      P = Free w (waiting w + need (node o l r))

      one : (n : ℕ) → Free w (waiting w + need (first l r)) n → P n
      one n e = record { outside = e.outside; below = omega (arith, e.below, need_node o l r) }

      two : (n : ℕ) → Free (also_in w x.register) (waiting (also_in w x.register) + need (second l r)) n → P n
      two n e = record { outside = (also_free w x.register n e.outside).1; below = omega (arith, e.below, need_node o l r, also_waiting w x.register) }

  pub named : (w : List Bool) (t : Tree) → Named w t (part_code d w t)
  named =
      part_by d Named
      (λ w g h.
      let e : Free w (waiting w + need (leaf g h)) (lowest w) = unfold need in record { outside = lowest_free w; below = omega (arith, lowest_most w) } in
      record { names = load_names (Free w (waiting w + need (leaf g h))) (lowest w) g e; register = e })
      named_node

  -- ---- the groups that are loaded
  load_loads : (m : ℕ → Bool) (r g : ℕ) → m g ≡ true → Every (Loads effect m) (d.loads r g ∷ [])
  unfolding Every
  load_loads m r g p = rw (acts.loads r g) ((p, tt), tt)

  pub operate_loads : (m : ℕ → Bool) (o : Operator) (f : Bool) (p q : ℕ) → Loads effect m (d.operates o f p q)
  unfolding Every
  operate_loads m o f p q = rw (acts.operates o f p q) tt

  pub loads : (m : ℕ → Bool) (w : List Bool) (t : Tree) → Over m t → Every (Loads effect m) (part_code d w t).own
  loads m =
      part_by d (λ w t x. Over m t → Every (Loads effect m) x.own)
      (λ w g h o. unfold Over in load_loads m (lowest w) g o)
      (λ w o l r x y p q h. unfold Over Every in
      every_append (Loads effect m) x.own _ (p (cond_by (Over m) (left_first l r) l r h.0 h.1))
      (every_append (Loads effect m) y.own _ (q (cond_by (Over m) (left_first l r) r l h.1 h.0)) (operate_loads m o (left_first l r) x.register y.register, tt)))

-- ---- what a run leaves
-- what an operator's operation makes of two sets is what the operator selects of them
operation_applies : (o : Operator) (f g : Lamps) → combined (operation o) f g ≡ (λ lamp. apply o (f lamp) (g lamp))
operation_applies union f g = refl
operation_applies difference f g = refl
operation_applies intersection f g = refl

put_there : (R : Registers) (r : ℕ) (f : Lamps) → put R r f r ≡ f
put_there R r f = rw (eq-eqb r r refl)

put_other : (R : Registers) (r q : ℕ) (f : Lamps) → (q ≡ r → ⊥) → put R r f q ≡ R q
put_other R r q f n = rw (ne_eqb q r n)

module _ {I B : Type 0} (d : Device I) (rig : Rig) (run : List I → Registers → B) (runs : Runs d rig run) where
  -- whatever the registers are, afterwards the part's register holds what the part selects, and those where operands waited are as they were
  pub record Leaves (w : List Bool) (t : Tree) (x : PartCode I) : Type 0 where
    pub after : Registers → Registers
    pub ran : (rest : List I) (R : Registers) → run (x.own ++ rest) R ≡ run rest (after R)
    pub answer : (R : Registers) → after R x.register ≡ selected rig t
    pub kept : (R : Registers) (q : ℕ) → waits w q ≡ true → after R q ≡ R q
    pub free : waits w x.register ≡ false

  leaves_node : (w : List Bool) (o : Operator) (l r : Tree) (x y : PartCode I) → Leaves w (first l r) x → Leaves (also_in w x.register) (second l r) y
      → Leaves w (node o l r) (node_code d w o (left_first l r) x y)
  leaves_node w o l r x y p q = record {
    after = λ R. put (S R) target (made R);
    ran = λ rest R.
        ap (λ (is : List I). run is R) (regroup rest)
        ∙ p.ran _ R
        ∙ q.ran _ (p.after R)
        ∙ runs.operates o (left_first l r) x.register y.register rest (S R);
    answer = λ R.
        put_there (S R) target (made R)
        ∙ operation_applies o (S R (cond (left_first l r) x.register y.register)) (S R (cond (left_first l r) y.register x.register))
        ∙ both_operands (left_first l r) (S R) (q.kept (p.after R) x.register (also_there w x.register) ∙ p.answer R) (q.answer (p.after R));
    kept = λ R n e.
        put_other (S R) target n (made R) (λ z. false≢true (sym target_free ∙ ap (waits w) (sym z) ∙ e))
        ∙ q.kept (p.after R) n (also_still w x.register n e)
        ∙ p.kept R n e;
    free = target_free;
  }
    where
      S : Registers → Registers
      S R = q.after (p.after R)

      target : ℕ
      target = cond (d.keeps_first (left_first l r)) x.register y.register

      made : Registers → Lamps
      made R = combined (operation o) (S R (cond (left_first l r) x.register y.register)) (S R (cond (left_first l r) y.register x.register))

      target_free : waits w target ≡ false
      target_free = cond_by (λ (n : ℕ). waits w n ≡ false) (d.keeps_first (left_first l r)) x.register y.register p.free (also_free w x.register y.register q.free).1

      regroup : (rest : List I) → (node_code d w o (left_first l r) x y).own ++ rest ≡ x.own ++ (y.own ++ (d.operates o (left_first l r) x.register y.register ∷ rest))
      regroup rest = simp append_assoc

      both_operands : (f : Bool) (R : Registers) → R x.register ≡ selected rig (cond f l r) → R y.register ≡ selected rig (cond f r l)
          → (λ lamp. apply o (R (cond f x.register y.register) lamp) (R (cond f y.register x.register) lamp)) ≡ selected rig (node o l r)
      both_operands true R a b = unfold selects in rw (a, b)
      both_operands false R a b = unfold selects in rw (a, b)

  pub leaves : (w : List Bool) (t : Tree) → Leaves w t (part_code d w t)
  leaves =
      part_by d Leaves
      (λ w g h. record {
        after = λ R. put R (lowest w) (rig g);
        ran = λ rest R. runs.loads (lowest w) g rest R;
        answer = λ R. unfold selects in put_there R (lowest w) (rig g);
        kept = λ R n e. put_other R (lowest w) n (rig g) (λ z. false≢true (sym (lowest_free w) ∙ ap (waits w) (sym z) ∙ e));
        free = lowest_free w;
      })
      leaves_node
