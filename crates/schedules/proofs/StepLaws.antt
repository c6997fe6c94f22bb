-- Laws of steps: where a node's own step stands, what stands in a register was put there before, and a child stands in one from its own
-- step until its parent's.
use mathlib.Core.Path.{◌≡◌, refl, sym, ap, ◌∙◌}
use mathlib.Core.Bool.{Bool, true, false, cond, false≢true}
use mathlib.Core.Option.{Option, some, none}
use mathlib.Core.List.{List, [], ◌∷◌, ◌++◌, map, append_assoc}
use Prim.Native.Nat.{ℕ, ◌+◌, ◌<◌}
use native.Mathlib.Omega.{arith}
use borrow.Author.Tests.{eqb-true, eq-eqb}
use lib.Dec.{eqb}
use Rattle.tree.specs.Tree.{Tree, is_in}
use Rattle.tree.proofs.TreeLaws.{or_cases, in_left, in_right}
use Rattle.code.specs.Effects.{Effect, Every}
use Rattle.schedules.proofs.PartLaws.{Child}
use Rattle.schedules.specs.Schedules.{Step, children, Contents, put, Stands, AllWorkOut, times, registers}

pub no_some : {x : ℕ} → ◌≡◌ {A = Option ℕ} none (some x) → ⊥
no_some e = let z : ◌≡◌ {A = ℕ} 0 1 = cc in omega arith

pub every_in : (P : ℕ → Type 0) (xs : List ℕ) → Every P xs → (x : ℕ) → is_in xs x ≡ true → P x
unfolding Every is_in
every_in P [] e x h = absurd (false≢true h)
every_in P (y ∷ ys) e x h = or_cases (eqb x y) (is_in ys x) h (λ q. rw (eqb-true x y q) e.0) (every_in P ys e.1 x)

-- ---- one list of steps after another
-- what stands in the registers after some steps
abbrev pub after : Contents → List Step → Contents
after C [] = C
after C (s ∷ ss) = after (put C s) ss

pub after_append : (xs ys : List Step) (C : Contents) → after C (xs ++ ys) ≡ after (after C xs) ys
after_append [] ys C = refl
after_append (x ∷ xs) ys C = after_append xs ys (put C x)

pub times_append : (p : ℕ) (xs ys : List Step) → times p (xs ++ ys) ≡ times p xs + times p ys
unfolding times
times_append p [] ys = omega arith
times_append p (x ∷ xs) ys = omega (arith, times_append p xs ys)

pub work_append : (t : Tree) (xs ys : List Step) (C : Contents) → AllWorkOut t C xs → AllWorkOut t (after C xs) ys → AllWorkOut t C (xs ++ ys)
unfolding AllWorkOut
work_append t [] ys C p q = q
work_append t (x ∷ xs) ys C p q = (p.0, work_append t xs ys (put C x) p.1 q)

pub work_later : (t : Tree) (xs ys : List Step) (C : Contents) → AllWorkOut t C (xs ++ ys) → AllWorkOut t (after C xs) ys
unfolding AllWorkOut
work_later t [] ys C w = w
work_later t (x ∷ xs) ys C w = work_later t xs ys (put C x) w.1

-- ---- the step of a node
times_own : (p : ℕ) (s : Step) (ss : List Step) → s.node ≡ some p → times p (s ∷ ss) ≡ 1 + times p ss
unfolding times
times_own p s ss e = rw (e, eq-eqb p p refl)

-- a step is for the node at p or not
own_cases : {A : Type 0} (p : ℕ) (s : Step) (ss : List Step) → (s.node ≡ some p → A) → (times p (s ∷ ss) ≡ times p ss → A) → A
unfolding times
own_cases {A} p s ss f g = go s.node refl
  where
    at : (q : ℕ) (b : Bool) → eqb p q ≡ b → s.node ≡ some q → A
    at q true e n = f (n ∙ ap some (sym (eqb-true p q e)))
    at q false e n = g (rw (n, e) (omega arith))

    go : (q : Option ℕ) → s.node ≡ q → A
    go none n = g (rw n (omega arith))
    go (some q) n = at q (eqb p q) refl n

-- the first step for the node at p
pub record OwnStep (p : ℕ) (ss : List Step) : Type 0 where
  pub before : List Step
  pub step : Step
  pub behind : List Step
  pub whole : ss ≡ before ++ (step ∷ behind)
  pub own : step.node ≡ some p
  pub first : times p before ≡ 0

pub own_step : (p : ℕ) (ss : List Step) → 0 < times p ss → OwnStep p ss
unfolding times
own_step p [] h = absurd (omega arith)
own_step p (s ∷ ss) h =
    own_cases p s ss
    (λ e. record { before = []; step = s; behind = ss; whole = refl; own = e; first = refl })
    (λ e. let S = own_step p ss (omega arith) in record {
      before = s ∷ S.before;
      step = S.step;
      behind = S.behind;
      whole = ap (λ (xs : List Step). s ∷ xs) S.whole;
      own = S.own;
      first = omega (arith, S.first);
    })

-- ---- what stands in a register
-- after a step: the step's own node, or what stood there
put_cases : {A : Type 0} (C : Contents) (s : Step) (r p : ℕ) → put C s r ≡ some p → (s.node ≡ some p → A) → (C r ≡ some p → A) → A
put_cases {A} C s r p e f g = go (is_in s.effect.writes r) e
  where
    go : (b : Bool) → cond b s.node (C r) ≡ some p → A
    go true e = f e
    go false e = g e

-- it was put there before
pub was_put : {A : Type 0} (p : ℕ) (ss : List Step) (C : Contents) (r : ℕ) → after C ss r ≡ some p → (C r ≡ some p → A) → (0 < times p ss → A) → A
unfolding times
was_put p [] C r e f g = f e
was_put p (s ∷ ss) C r e f g =
    was_put p ss (put C s) r e
    (λ q. put_cases C s r p q (λ n. g (omega (arith, times_own p s ss n))) f)
    (λ q. g (omega arith))

-- ---- the registers that steps name
abbrev pub effects : List Step → List Effect
effects ss = map (λ s. s.effect) ss

pub registers_append : (xs ys : List Step) → registers (effects (xs ++ ys)) ≡ registers (effects xs) ++ registers (effects ys)
unfolding registers
registers_append [] ys = refl
registers_append (x ∷ xs) ys = rw (registers_append xs ys) (sym (append_assoc (x.effect.writes ++ x.effect.reads) (registers (effects xs)) (registers (effects ys))))

pub listed_later : (xs ys : List Step) (r : ℕ) → is_in (registers (effects ys)) r ≡ true → is_in (registers (effects (xs ++ ys))) r ≡ true
listed_later xs ys r e = rw (registers_append xs ys) (in_right (registers (effects xs)) (registers (effects ys)) r e)

-- those that the first step names
pub listed_own : (s : Step) (ss : List Step) (r : ℕ) → is_in (s.effect.writes ++ s.effect.reads) r ≡ true → is_in (registers (effects (s ∷ ss))) r ≡ true
unfolding registers
listed_own s ss r e = in_left (s.effect.writes ++ s.effect.reads) (registers (effects ss)) r e

-- ---- a child whose parent has yet to come, and that does not come again, stands in a register
module _ {t : Tree} {c p : ℕ} (k : Child t c p) where
  pub child_stands : (ss : List Step) (C : Contents) → AllWorkOut t C ss → 0 < times p ss → times c ss ≡ 0 → Stands C (registers (effects ss)) c
  unfolding AllWorkOut times
  child_stands [] C w h e = absurd (omega arith)
  child_stands (s ∷ ss) C w h e =
      own_cases p s ss
      (λ n.
      let S = every_in (Stands C s.effect.reads) (children t p) (w.0 p k.most n).operands c k.listed in
      record { register = S.register; listed = listed_own s ss S.register (in_right s.effect.writes s.effect.reads S.register S.listed); holds = S.holds })
      (λ n.
      let S = child_stands ss (put C s) w.1 (omega arith) (omega arith) in
      record {
        register = S.register;
        listed = listed_later (s ∷ []) ss S.register S.listed;
        holds = put_cases C s S.register c S.holds (λ q. absurd (omega (arith, times_own c s ss q))) (λ q. q);
      })
