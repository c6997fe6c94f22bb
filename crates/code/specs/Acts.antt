-- What it takes of a device for the theorems on need, registers, the closed run and loads: request 8's "one shared proof about need and
-- not one for each device". Each of the two devices has it by computing.
use Rattle.std.specs.Prelude.{◌≡◌, Bool, false, cond, ℕ, ◌<◌}
use Rattle.tree.specs.Tree.{Operator}
use Rattle.code.specs.Devices.{Device}
use Rattle.code.specs.Effects.{Effect, load_effect, operate_effect, Every, Names, Loads, read_first}

pub record Acts {I : Type 0} (d : Device I) (effect : I → Effect) : Type 0 where
  -- a LOAD writes its register and loads its group
  pub loads : (r g : ℕ) → effect (d.loads r g) ≡ load_effect r g
  -- an operator's instruction reads the left operand's register and the right's, and writes the one that the device keeps
  pub operates : (o : Operator) (f : Bool) (p q : ℕ) → effect (d.operates o f p q) ≡ operate_effect (cond (d.keeps_first f) p q) (cond f p q) (cond f q p)
  -- what ends a code names and reads the answer's register at most, and loads nothing
  pub end_names : (high r : ℕ) → r < high → Every (Names effect (λ q. q < high)) (d.ends r)
  pub end_loads : (m : ℕ → Bool) (r : ℕ) → Every (Loads effect m) (d.ends r)
  pub end_reads : (r q : ℕ) → (q ≡ r → ⊥) → read_first effect q (d.ends r) ≡ false
