-- Request 9's theorems: every code of a tree names at least as many different registers as the tree needs; our codes, on every device, are
-- such codes and name no more.
use mathlib.Core.Path.{◌≡◌, refl, sym, ◌∙◌}
use mathlib.Core.Bool.{true, false≢true}
use mathlib.Core.List.{List, [], ◌∷◌, ◌++◌, map}
use Prim.Native.Nat.{ℕ, zero, suc, ◌+◌, ◌-◌, ◌^◌, ◌≤◌, ◌<◌}
use native.Mathlib.Omega.{arith}
use native.Mathlib.Nat.{pow-suc}
use borrow.Author.Tests.{eq-eqb}
use lib.Pow.{pow_mono}
use Rattle.tree.specs.Tree.{union, Tree, leaf, node, size, most_nodes, is_in}
use Rattle.tree.proofs.TreeLaws.{or_cases, is_in_append}
use Rattle.player.specs.Limits.{register_count}
use Rattle.code.specs.Need.{need}
use Rattle.code.specs.Devices.{Device, code_on, newer_player}
use Rattle.code.specs.Effects.{Effect, newer_effect, Every, Names}
use Rattle.code.specs.Acts.{Acts}
use Rattle.code.proofs.NeedLaws.{need_power}
use Rattle.code.proofs.CodeLaws.{every_append}
use Rattle.code.proofs.Theorems.{code_names}
use Rattle.code.proofs.NewerLaws.{newer_acts}
use Rattle.schedules.specs.Schedules.{registers, different, NeedsRegisters}
use Rattle.schedules.proofs.StepLaws.{every_in}
use Rattle.schedules.proofs.CountLaws.{different_most}
use Rattle.schedules.proofs.ScheduleLaws.{least_need}
use Rattle.schedules.proofs.OursLaws.{code_for_lem}

-- ---- "that code names at least as many different registers as either of ours does"
-- whatever names only registers below need is as few as can be
pub below_need : (t : Tree) (es : List Effect) → ((r : ℕ) → is_in (registers es) r ≡ true → r < need t) → NeedsRegisters t (different es)
below_need t es h other K = omega (arith, different_most (need t) es h, least_need t other K)

-- the registers that instructions name, by what is known of each instruction
registers_by : {I : Type 0} (effect : I → Effect) (P : ℕ → Type 0) (is : List I) → Every (Names effect P) is → (r : ℕ) → is_in (registers (map effect is)) r ≡ true → P r
unfolding registers Every
registers_by effect P [] e r h = unfold is_in in absurd (false≢true h)
registers_by effect P (i ∷ is) e r h =
    let own : List ℕ = (effect i).writes ++ (effect i).reads in
    or_cases (is_in own r) (is_in (registers (map effect is)) r) (sym (is_in_append own (registers (map effect is)) r) ∙ h)
    (every_in P own (every_append P (effect i).writes (effect i).reads e.0.1 e.0.0) r)
    (registers_by effect P is e.1 r)

-- so either of ours, by the law of need
module _ {I : Type 0} (d : Device I) (effect : I → Effect) (acts : Acts d effect) (t : Tree) where
  named_below : (r : ℕ) → is_in (registers (map effect (code_on d t))) r ≡ true → r < need t
  named_below = registers_by effect (λ r. r < need t) (code_on d t) (code_names d effect acts t)

  pub code_fewest : NeedsRegisters t (different (map effect (code_on d t)))
  code_fewest = below_need t (map effect (code_on d t)) named_below

  -- ---- it is itself such a code, and names as many registers as the tree needs
  pub code_named : different (map effect (code_on d t)) ≡ need t
  code_named = omega (arith, different_most (need t) (map effect (code_on d t)) named_below, least_need t (map effect (code_on d t)) (code_for_lem d effect acts t))

-- ---- "A tree that needs k registers has at least 2 to the power k, less 1, nodes": with k its need, and with any k registers that every
-- such code names
pub nodes_least : (t : Tree) → 2 ^ need t - 1 ≤ size t
nodes_least t = omega (arith, need_power t)

pub nodes_needed : (t : Tree) (k : ℕ) → NeedsRegisters t k → 2 ^ k - 1 ≤ size t
nodes_needed t k h =
    let low : k ≤ need t = omega (arith, code_named newer_player newer_effect newer_acts t, h _ (code_for_lem newer_player newer_effect newer_acts t)) in
    omega (arith, need_power t, pow_mono low)

-- ---- "Player makers want to know whether 13 is our clumsiness": it is not. A tree with as many nodes as a tree may have needs 13,
-- whatever its code.
unfoldable full : ℕ → Tree
full zero = leaf 1 tt
full (suc n) = node union (full n) (full n)

full_need : (n : ℕ) → need (full n) ≡ n + 1
unfolding full need
full_need zero = refl
full_need (suc n) = rw (eq-eqb (need (full n)) (need (full n)) refl) (omega (arith, full_need n))

full_size : (n : ℕ) → size (full n) + 1 ≡ 2 ^ suc n
unfolding full size
full_size zero = refl
full_size (suc n) = rw (pow-suc 2 (suc n)) (omega (arith, full_size n))

pub thirteen_needed : (t : Tree) × (size t ≡ most_nodes) × NeedsRegisters t register_count
thirteen_needed = (full 12, omega (arith, full_size 12), λ es K. omega (arith, full_need 12, least_need (full 12) es K))
