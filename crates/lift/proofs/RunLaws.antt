-- A lift's answer from its steps' answers: one turn of `run`.
use mathlib.Core.Path.{◌≡◌, refl, sym, ap, subst, ◌∙◌}
use mathlib.Core.Bool.{Bool, cond}
use mathlib.Core.List.{List}
use Prim.Native.Nat.{ℕ, suc, ◌+◌, ◌-◌, ◌≤◌}
use native.Mathlib.Omega.{arith}
use borrow.Author.Tests.{lt-ltb, le-ltb}
use lib.ListN.{length, take}
use lib.Seq.{length-take-le}
use Rattle.std.specs.Prelude.{Ok, Err}
use Rattle.tree.specs.Tree.{Tree, size, most_nodes}
use Rattle.tree.specs.Context.{Frame, plug, position}
use Rattle.tree.specs.Writing.{over}
use Rattle.tree.specs.InnerWriting.{Wrote}
use Rattle.tree.proofs.TreeLaws.{postfix_length}
use Rattle.tree.proofs.WritingLaws.{wrote_over}
use Rattle.moves.specs.Moves.{MoveTable}
use Rattle.step.specs.Step.{Outcome, stuck, blocked, step}
use Rattle.step.specs.InnerStanding.{Standing}
use Rattle.step.specs.InnerSteps.{StepTooLong, StepDone, StepIs}
use Rattle.step.specs.declared.Node.{Node}
use Rattle.step.specs.declared.Refusal.{Refusal as StepRefusal}
use Rattle.step.specs.declared.Refusal.TheVariants as step
use Rattle.lift.specs.InnerLifts.{by_step}
use Rattle.lift.specs.Lift.{Result, refused, lifted, goes_on, steps}
use Rattle.lift.specs.Answer.{Reply, lifted_says, result_says, lift_buffer, Lifts}
use Rattle.lift.specs.declared.Refusal.TheVariants.{NoStep, TooLong, ThroughIntersection}

says_as : {x y : Result} {out : List ℕ} {r : Reply} {out' : List ℕ} → x ≡ y → lifted_says r ≡ result_says y → out' ≡ lift_buffer y out → Lifts x out r out'
says_as {x} {y} {out} e p q = record { says = p ∙ sym (ap result_says e); leaves = q ∙ sym (ap (λ (z : Result). lift_buffer z out) e) }

module _ (m : MoveTable) (a : Tree) (c : List Frame) (k looks : ℕ) (h : k ≡ 0 → ⊥) where
  abbrev rest : List Frame → Result
  rest e = steps m (k - 1) a e (looks + 1)

  one : {x : Outcome} → step m c ≡ x → steps m k a c looks ≡ goes_on x a rest
  one q =
      let e : k ≡ suc (k - 1) = omega arith in
      let s : steps m (suc (k - 1)) a c looks ≡ goes_on (step m c) a rest = unfold steps in refl in
      ap (λ (j : ℕ). steps m j a c looks) e ∙ s ∙ ap (λ (o : Outcome). goes_on o a rest) q

  pub stops : (out : List ℕ) → step m c ≡ stuck → Lifts (steps m k a c looks) out (Err NoStep) out
  stops out q = says_as (one q) refl refl

  pub is_blocked : (out : List ℕ) → step m c ≡ blocked → Lifts (steps m k a c looks) out (Err ThroughIntersection) out
  is_blocked out q = says_as (one q) refl refl

  pub grows_too_long : (out : List ℕ) → StepTooLong m a c → Lifts (steps m k a c looks) out (Err TooLong) out
  grows_too_long out L = says_as (one L.moves ∙ ap (λ (b : Bool). cond b (refused 16) (rest L.e)) (lt-ltb most_nodes (size (plug a L.e)) L.long)) refl refl

  -- a step's refusal is the lift's
  pub refuses_step : (x out : List ℕ) (e : StepRefusal) → StepIs m a c (Err e) x → Lifts (steps m k a c looks) out (Err (by_step e)) out
  refuses_step x out step.NoStep h = stops out h
  refuses_step x out step.ThroughIntersection h = is_blocked out h
  refuses_step x out step.TooLong h = grows_too_long out h

  pub goes_on_lem : {nodes : ℕ} {n : Node} {x : List ℕ} (D : StepDone m a c nodes n x) → steps m k a c looks ≡ rest D.e
  goes_on_lem D = one D.moves ∙ ap (λ (b : Bool). cond b (refused 16) (rest D.e)) (le-ltb most_nodes (size (plug a D.e)) (omega (arith, D.length_is, D.short)))

-- the last turn, where the list is copied
pub ends : (m : MoveTable) (x : List ℕ) (len : ℕ) (n : Node) (a : Tree) (c : List Frame) (k looks r : ℕ) (out out' : List ℕ) → Standing (take len x) n a c → len ≤ length x → len ≤ length out → k ≡ 0
    → Wrote out 0 out' r (take len x) → Lifts (steps m k a c looks) out (Ok (record { nodes = len; position = n.part.to - 1; looks = looks })) out'
ends m x len n a c k looks r out out' S h g z W =
    let q : len ≡ size (plug a c) = sym (length-take-le len x h) ∙ ap length S.part.whole ∙ postfix_length (plug a c) in
    let v : n.part.to - 1 ≡ position a c = omega (arith, S.part.begins, S.part.ends) in
    let u : steps m 0 a c looks ≡ lifted (plug a c) (position a c) looks = unfold steps in refl in
    says_as (ap (λ (j : ℕ). steps m j a c looks) z ∙ u) (cc (q, v)) (wrote_over W (omega (arith, length-take-le len x h)) ∙ ap (λ (y : List ℕ). over y out) S.part.whole)

-- where a turn begins: the node stands in the list, in a context e, and the steps left from there, with the looks so far, answer what all `levels` steps
-- from the context c answer
pub record Reached (m : MoveTable) (a : Tree) (c : List Frame) (levels looks : ℕ) (list : List ℕ) (n : Node) (left so_far : ℕ) : Type 0 where
  pub e : List Frame
  pub stands : Standing list n a e
  pub same : steps m levels a c looks ≡ steps m left a e so_far

-- an answer of the steps that are left is the answer of all of them
pub reached_answers : {m : MoveTable} {a : Tree} {c : List Frame} {levels looks : ℕ} {list : List ℕ} {n : Node} {left so_far : ℕ} (R : Reached m a c levels looks list n left so_far) (out : List ℕ) (r : Reply) (out' : List ℕ)
    → Lifts (steps m left a R.e so_far) out r out' → Lifts (steps m levels a c looks) out r out'
reached_answers R out r out' L = subst (λ (x : Result). Lifts x out r out') (sym R.same) L
