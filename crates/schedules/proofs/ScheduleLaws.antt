-- Laws of a schedule, moment by moment: a moment is a number of steps, and a node is done at it if its own step is among these.
use mathlib.Core.Path.{◌≡◌, refl, sym, ap, ◌∙◌}
use mathlib.Core.Bool.{true, false≢true}
use mathlib.Core.Option.{some}
use mathlib.Core.List.{List, [], ◌∷◌, ◌++◌}
use Prim.Native.Nat.{ℕ, ◌+◌, ◌-◌, ◌≤◌, ◌<◌}
use native.Mathlib.Decide.{dec_le}
use native.Mathlib.Omega.{arith}
use lib.ListN.{length, take, drop, take-append-drop}
use lib.Seq.{take_at, take-add}
use Rattle.tree.specs.Tree.{Tree, leaf, node, size, is_in, collect}
use Rattle.tree.proofs.TreeLaws.{in_left}
use Rattle.tree.proofs.GroupLaws.{in_collect}
use Rattle.code.specs.Need.{need}
use Rattle.code.specs.Effects.{Every}
use Rattle.code.proofs.CodeLaws.{every_implies}
use Rattle.schedules.specs.Schedules.{Step, children, Contents, nothing, Stands, WorksOut, AllWorkOut, times, Schedule, registers, different, NeedsRegisters}
use Rattle.schedules.proofs.PartLaws.{root, at_whole, at_most, Child, of_children}
use Rattle.schedules.proofs.StepLaws.{no_some, every_in, after, times_append, work_later, effects, listed_later, listed_own, own_step, was_put, child_stands}
use Rattle.schedules.proofs.LiveLaws.{Sooner, PartPeak, peaks}
use Rattle.schedules.proofs.CountLaws.{live_most}

in_some : (xs : List ℕ) (x : ℕ) → is_in xs x ≡ true → 0 < length xs
unfolding is_in
in_some [] x e = absurd (false≢true e)
in_some (y ∷ xs) x e = omega arith

module _ {t : Tree} {steps : List Step} (S : Schedule t steps) where
  -- ---- the different registers that it names
  abbrev named : List ℕ
  named = collect [] (registers (effects steps))

  is_named : (xs ys : List Step) → steps ≡ xs ++ ys → (r : ℕ) → is_in (registers (effects ys)) r ≡ true → is_in named r ≡ true
  unfolding is_in
  is_named xs ys e r h = in_collect [] (registers (effects steps)) r ∙ ap (λ (ss : List Step). is_in (registers (effects ss)) r) e ∙ listed_later xs ys r h

  -- ---- children first
  -- at a node's own step
  module _ (xs : List Step) (s : Step) (ys : List Step) (whole : steps ≡ xs ++ (s ∷ ys)) (p : ℕ) (most : p < size t) (own : s.node ≡ some p) where
    pub works_out : WorksOut t (after nothing xs) s p
    unfolding AllWorkOut
    works_out = (work_later t xs (s ∷ ys) nothing (rw whole at S.works)).0 p most own

    pub children_first : Every (λ c. 0 < times c xs) (children t p)
    children_first =
        every_implies (λ c F. was_put c xs nothing F.register F.holds (λ z. absurd (no_some z)) (λ q. q)) (children t p) works_out.operands

  -- ---- at the moment m
  done : ℕ → ℕ → ℕ
  done m p = times p (take m steps)

  contents : ℕ → Contents
  contents m = after nothing (take m steps)

  stays : (m n p : ℕ) → m ≤ n → done m p ≤ done n p
  unfolding done
  stays m n p h =
      let e : m + (n - m) ≡ n = omega arith in
      omega (arith, ap (times p) (rw e at (take-add m (n - m) steps)), times_append p (take m steps) (take (n - m) (drop m steps)))

  once_parted : (m p : ℕ) → p < size t → done m p + times p (drop m steps) ≡ 1
  unfolding done
  once_parted m p h = omega (arith, times_append p (take m steps) (drop m steps), ap (times p) (take-append-drop m steps), S.once p h)

  later : (m : ℕ) → AllWorkOut t (contents m) (drop m steps)
  unfolding contents
  later m = work_later t (take m steps) (drop m steps) nothing (rw (take-append-drop m steps) S.works)

  -- right before its parent's own step a child is done
  sooner : (c p : ℕ) → Child t c p → Sooner done stays c p
  unfolding done
  sooner c p k =
      let O = own_step p steps (omega (arith, S.once p k.most)) in
      let n : ℕ = length O.before in
      let before : take n steps ≡ O.before = ap (take n) O.whole ∙ take_at O.before (O.step ∷ O.behind) n refl in
      let early : done n p ≡ 0 = ap (times p) before ∙ O.first in
      let child = every_in (λ c. 0 < times c O.before) (children t p) (children_first O.before O.step O.behind O.whole p k.most O.own) c k.listed in
      let own : done n c ≡ 1 = omega (arith, ap (times c) before, once_parted n c (omega (arith, k.sooner, k.most))) in
      record {
        always = λ m. elim (dec_le m n) [ yes e ↦ omega (arith, stays m n p e) | no e ↦ omega (arith, stays n m c (omega arith), once_parted m p k.most) ];
        moment = n;
        own = own;
        early = early;
      }

  -- ---- a node that is done stands in a register, as long as its parent is not
  done_stands : (m c p : ℕ) → Child t c p → 0 < done m c - done m p → Stands (contents m) named c
  done_stands m c p k h =
      let most : c < size t = omega (arith, k.sooner, k.most) in
      let F = child_stands k (drop m steps) (contents m) (later m) (omega (arith, once_parted m p k.most, once_parted m c most)) (omega (arith, once_parted m c most)) in
      record { register = F.register; listed = is_named (take m steps) (drop m steps) (sym (take-append-drop m steps)) F.register F.listed; holds = F.holds }

  -- ---- a register is named
  some_named : 0 < length named
  some_named =
      let most = at_most (at_whole t) in
      let O = own_step (root t 0) steps (omega (arith, S.once (root t 0) most)) in
      let F = (works_out O.before O.step O.behind O.whole (root t 0) most O.own).result in
      in_some named F.register (is_named O.before (O.step ∷ O.behind) O.whole F.register (listed_own O.step O.behind F.register (in_left O.step.effect.writes O.step.effect.reads F.register F.listed)))

-- ---- every such code names as many different registers as the tree needs
least : (t : Tree) (steps : List Step) → Schedule t steps → need t ≤ different (effects steps)
unfolding need PartPeak
least (leaf g h) steps S = some_named S
least (node o l r) steps S =
    let t : Tree = node o l r in
    let K = peaks (done S) (stays S) t (of_children t _ (sooner S)) t 0 (at_whole t) in
    let m : ℕ = K.moment in
    omega (arith, K.enough, live_most (contents S m) t (done S m) (named S) (λ p h. omega (arith, once_parted S m p h)) (of_children t _ (done_stands S m)) (λ h. absurd (omega (arith, K.early))))

pub least_need : (t : Tree) → NeedsRegisters t (need t)
least_need t es K = omega (arith, least t K.steps K.schedule, ap different K.same)
