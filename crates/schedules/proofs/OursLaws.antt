-- The codes that we make are schedules: of any device, each instruction with the node that it loads or works out.
use mathlib.Core.Path.{◌≡◌, refl, sym, ap, ◌∙◌}
use mathlib.Core.Bool.{Bool, true, false, cond, true≢false}
use mathlib.Core.Option.{some, none}
use mathlib.Core.List.{List, [], ◌∷◌, ◌++◌, map, map-append, map-map}
use Prim.Native.Nat.{ℕ, ◌+◌}
use native.Mathlib.Omega.{arith}
use borrow.Author.Tests.{eq-eqb, ne_eqb}
use lib.Dec.{T}
use Rattle.tree.specs.Tree.{Operator, Tree, leaf, node, is_group, size, is_in}
use Rattle.tree.proofs.GroupLaws.{is_in_here, in_later}
use Rattle.code.specs.Need.{left_first}
use Rattle.code.specs.Waiting.{lowest, also_in}
use Rattle.code.specs.Devices.{Device, PartCode, leaf_code, node_code, part_code, code_on}
use Rattle.code.specs.Effects.{Effect, Every}
use Rattle.code.specs.Acts.{Acts}
use Rattle.code.proofs.NeedLaws.{first, second}
use Rattle.code.proofs.WaitingLaws.{waits, lowest_free, also_free, also_there, also_still}
use Rattle.code.proofs.CodeLaws.{cond_by, part_by}
use Rattle.schedules.specs.Schedules.{Step, children, Contents, nothing, put, Stands, AllWorkOut, times, CodeFor}
use Rattle.schedules.proofs.PartLaws.{At, root, at_whole, at_left, at_right, at_place, at_children}
use Rattle.schedules.proofs.StepLaws.{no_some, after, after_append, times_append, work_append, effects}
use Rattle.schedules.proofs.CountLaws.{below, below_root}

-- ---- one instruction, which puts a node in register z
module _ (t : Tree) (p z : ℕ) (reads loads : List ℕ) where
  abbrev own : Step
  own = record { node = some p; effect = record { reads = reads; writes = z ∷ []; loads = loads } }

  puts : (C : Contents) → put C own z ≡ some p
  unfolding is_in
  puts C = rw (eq-eqb z z refl)

  leaves : (C : Contents) (r : ℕ) → (r ≡ z → ⊥) → put C own r ≡ C r
  unfolding is_in
  leaves C r n = rw (ne_eqb r z n)

  works : (C : Contents) → Every (Stands C reads) (children t p) → AllWorkOut t C (own ∷ [])
  unfolding AllWorkOut
  works C s = (λ q h e. let same : p ≡ q = cc in rw (← same) (record { operands = s; result = record { register = z; listed = is_in_here z []; holds = puts C } }), tt)

-- two nodes that stand in registers x and y
both_stand : (C : Contents) (x y p q : ℕ) → C x ≡ some p → C y ≡ some q → Every (Stands C (x ∷ y ∷ [])) (p ∷ q ∷ [])
unfolding Every
both_stand C x y p q d e = (
  record { register = x; listed = is_in_here x (y ∷ []); holds = d },
  (record { register = y; listed = in_later x (y ∷ []) y (is_in_here y []); holds = e }, tt),
)

-- .. of which f says whether the first comes first
in_turn : (f : Bool) (C : Contents) (x y p q : ℕ) → C x ≡ some p → C y ≡ some q → Every (Stands C (cond f x y ∷ cond f y x ∷ [])) (cond f p q ∷ cond f q p ∷ [])
in_turn true C x y p q d e = both_stand C x y p q d e
in_turn false C x y p q d e = both_stand C y x q p e d

-- ---- part by part
module _ {I : Type 0} (d : Device I) (effect : I → Effect) (acts : Acts d effect) where
  -- The code of the part u at i as steps, each node of the part once. Whatever stands in the registers, each step reads its operands;
  -- afterwards the part's register holds its root, and those where operands wait hold what they held.
  pub record PartSteps (t u : Tree) (i : ℕ) (w : List Bool) (x : PartCode I) : Type 0 where
    pub steps : List Step
    pub same : effects steps ≡ map effect x.own
    pub once : (p : ℕ) → times p steps + below i p ≡ below (i + size u) p
    pub works : (C : Contents) → AllWorkOut t C steps
    pub holds : (C : Contents) → after C steps x.register ≡ some (root u i)
    pub keeps : (C : Contents) (r : ℕ) → waits w r ≡ true → after C steps r ≡ C r
    pub free : waits w x.register ≡ false

  -- where no operand waits is another register
  other : (w : List Bool) (z r : ℕ) → waits w z ≡ false → waits w r ≡ true → r ≡ z → ⊥
  other w z r f k e = true≢false (sym k ∙ ap (waits w) e ∙ f)

  leaf_steps : (w : List Bool) (g : ℕ) (h : T (is_group g)) (t : Tree) (i : ℕ) → At t (leaf g h) i → PartSteps t (leaf g h) i w (leaf_code d w g)
  unfolding size times Every
  leaf_steps w g h t i a =
      let p : ℕ = root (leaf g h) i in
      let z : ℕ = lowest w in
      record {
        steps = own t p z [] (g ∷ []) ∷ [];
        same = rw (acts.loads z g);
        once = λ q. omega (arith, below_root (leaf g h) i i q (omega arith));
        works = λ C. works t p z [] (g ∷ []) C (rw (at_place a) tt);
        holds = λ C. puts t p z [] (g ∷ []) C;
        keeps = λ C r k. leaves t p z [] (g ∷ []) C r (other w z r (lowest_free w) k);
        free = lowest_free w;
      }

  -- Of a part v at i: the child that comes first, u at j, the other, z at m, while the first one's result waits, and the step that reads
  -- both; f says whether the first is the left one. Below n, the root's position, are the positions of both.
  module _ (t v u z : Tree) (i j m n : ℕ) (o : Operator) (f : Bool) (w : List Bool) (X Y : PartCode I) where
    node_steps : PartSteps t u j w X → PartSteps t z m (also_in w X.register) Y
        → children t (root v i) ≡ cond f (root u j) (root z m) ∷ cond f (root z m) (root u j) ∷ []
        → n ≡ root v i → ((p : ℕ) → below (j + size u) p + below (m + size z) p + below i p ≡ below j p + below m p + below n p)
        → PartSteps t v i w (node_code d w o f X Y)
    unfolding times
    node_steps P Q e last apart = record {
      steps = P.steps ++ (Q.steps ++ (s ∷ []));
      same = simp (map-append, P.same, Q.same, acts.operates o f x y);
      once = λ p. simp times_append (omega (arith, P.once p, Q.once p, apart p, below_root v i n p last));
      works = λ C.
          work_append t P.steps (Q.steps ++ (s ∷ [])) C (P.works C)
          (work_append t Q.steps (s ∷ []) (after C P.steps) (Q.works (after C P.steps))
          (works t (root v i) k rs [] (both C)
          (rw e (in_turn f (both C) x y (root u j) (root z m) (Q.keeps (after C P.steps) x (also_there w x) ∙ P.holds C) (Q.holds (after C P.steps))))));
      holds = λ C. ap (λ (D : Contents). D k) (all C) ∙ puts t (root v i) k rs [] (both C);
      keeps = λ C r h.
          ap (λ (D : Contents). D r) (all C) ∙ leaves t (root v i) k rs [] (both C) r (other w k r free h)
          ∙ Q.keeps (after C P.steps) r (also_still w x r h) ∙ P.keeps C r h;
      free = free;
    }
      where
        x : ℕ
        x = X.register

        y : ℕ
        y = Y.register

        k : ℕ
        k = cond (d.keeps_first f) x y

        rs : List ℕ
        rs = cond f x y ∷ cond f y x ∷ []

        s : Step
        s = own t (root v i) k rs []

        -- what stands in the registers after both children's steps, and after all
        both : Contents → Contents
        both C = after (after C P.steps) Q.steps

        all : (C : Contents) → after C (P.steps ++ (Q.steps ++ (s ∷ []))) ≡ put (both C) s
        all C = after_append P.steps (Q.steps ++ (s ∷ [])) C ∙ after_append Q.steps (s ∷ []) (after C P.steps)

        free : waits w k ≡ false
        free = cond_by (λ (r : ℕ). waits w r ≡ false) (d.keeps_first f) x y P.free (also_free w x y Q.free).1

  abbrev Good : List Bool → Tree → PartCode I → Type 0
  Good w u x = (t : Tree) (i : ℕ) → At t u i → PartSteps t u i w x

  in_order_lem : (w : List Bool) (o : Operator) (l r : Tree) (x y : PartCode I) → Good w (first l r) x → Good (also_in w x.register) (second l r) y
      → Good w (node o l r) (node_code d w o (left_first l r) x y)
  unfolding size
  in_order_lem w o l r x y p q t i a = go (left_first l r) p q
    where
      go : (f : Bool) → Good w (cond f l r) x → Good (also_in w x.register) (cond f r l) y → PartSteps t (node o l r) i w (node_code d w o f x y)
      go true p q =
          node_steps t (node o l r) l r i i (i + size l) (i + size l + size r) o true w x y (p t i (at_left a)) (q t (i + size l) (at_right a)) (at_children a) (omega arith)
          (λ p. omega arith)
      go false p q =
          node_steps t (node o l r) r l i (i + size l) i (i + size l + size r) o false w x y (p t (i + size l) (at_right a)) (q t i (at_left a)) (at_children a) (omega arith)
          (λ p. omega arith)

  part_steps : (t : Tree) → PartSteps t t 0 [] (part_code d [] t)
  part_steps t = part_by d Good leaf_steps in_order_lem [] t t 0 (at_whole t)

  -- ---- of a whole tree, with what ends the code
  abbrev others : List I → List Step
  others is = map (λ i. record { node = none; effect = effect i }) is

  times_others : (p : ℕ) (is : List I) → times p (others is) ≡ 0
  unfolding times
  times_others p [] = refl
  times_others p (i ∷ is) = omega (arith, times_others p is)

  work_others : (t : Tree) (C : Contents) (is : List I) → AllWorkOut t C (others is)
  unfolding AllWorkOut
  work_others t C [] = tt
  work_others t C (i ∷ is) = (λ p h e. absurd (no_some e), work_others t (put C (record { node = none; effect = effect i })) is)

  pub code_for_lem : (t : Tree) → CodeFor t (map effect (code_on d t))
  code_for_lem t =
      let P = part_steps t in
      let ends : List I = d.ends (part_code d [] t).register in
      record {
        steps = P.steps ++ others ends;
        same = simp (map-append, map-map, P.same);
        schedule = record {
          once = λ p h. unfold below in simp (times_append, times_others) (omega (arith, P.once p));
          works = work_append t P.steps (others ends) nothing (P.works nothing) (work_others t (after nothing P.steps) ends);
        };
      }
