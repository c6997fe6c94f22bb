-- Request 9 of document 02, "Registers, as few as can be", sentence by sentence.
use Rattle.std.specs.Prelude.{◌≡◌, List, ◌∷◌, ◌++◌, map, ℕ, ◌-◌, ◌^◌, ◌≤◌, ◌<◌}
use Rattle.std.proofs.Math.Option.{some}
use Rattle.tree.specs.Tree.{Tree, size, most_nodes}
use Rattle.player.specs.Limits.{register_count}
use Rattle.code.specs.Need.{need}
use Rattle.code.specs.Code.{code}
use Rattle.code.specs.Devices.{code_on, older_player}
use Rattle.code.specs.Effects.{Effect, newer_effect, older_effect, Every}
use Rattle.schedules.specs.Schedules.{Step, children, times, Schedule, CodeFor, different, NeedsRegisters}

-- what the instructions of "either of ours" read and write: of the player's code, and of the older player's, SHOW with it
abbrev pub newer_code : Tree → List Effect
newer_code t = map newer_effect (code t 0)

abbrev pub older_code : Tree → List Effect
older_code t = map older_effect (code_on older_player t)

pub record Request9 : Type 0 where
  -- "For every tree, take each other code that loads or works out each of its nodes just once, in any order with children first, and reads
  -- each operand from the register that this very node was put in, not written since: that code names at least as many different registers
  -- as either of ours does."
  pub as_few : (t : Tree) (other : List Effect) → CodeFor t other → (different (newer_code t) ≤ different other) × (different (older_code t) ≤ different other)
  -- "each other code": ours are such codes
  pub ours : (t : Tree) → CodeFor t (newer_code t) × CodeFor t (older_code t)
  -- "with children first": in any such code each child of a node has come before the node does
  pub children_first : (t : Tree) (before : List Step) (s : Step) (behind : List Step) → Schedule t (before ++ (s ∷ behind))
      → (p : ℕ) → p < size t → s.node ≡ some p → Every (λ c. 0 < times c before) (children t p)
  -- "A tree that needs k registers": k is 01's need, no code does with fewer, and ours name as many
  pub as_needed : (t : Tree) → NeedsRegisters t (need t) × (different (newer_code t) ≡ need t) × (different (older_code t) ≡ need t)
  -- "has at least 2 to the power k, less 1, nodes.": with that k, and with any k that every such code names
  pub nodes : (t : Tree) → 2 ^ need t - 1 ≤ size t
  pub any_nodes : (t : Tree) (k : ℕ) → NeedsRegisters t k → 2 ^ k - 1 ≤ size t
  -- "Player makers want to know whether 13 is our clumsiness.": a tree of 8,191 nodes needs as many, whatever its code
  pub thirteen : (t : Tree) × (size t ≡ most_nodes) × NeedsRegisters t register_count
