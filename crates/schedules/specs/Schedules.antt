-- Request 9 of document 02, "Registers, as few as can be": any code for a tree, of whatever device, and the registers that it names. No
-- operator, no kind of instruction and no order of operands stands here.
use Rattle.std.specs.Prelude.{◌≡◌, Bool, true, false, cond, List, [], ◌∷◌, ◌++◌, map, ℕ, ◌+◌, ◌≤◌, ◌<◌, eqb, length}
use Rattle.std.proofs.Math.Option.{Option, some, none}
use Rattle.tree.specs.Tree.{Tree, leaf, node, size, is_in, collect}
use Rattle.tree.specs.Context.{left, right, Frame, frame, position}
use Rattle.tree.specs.Parse.{locate}
use Rattle.code.specs.Effects.{Effect, Every}

-- One instruction of a code: the registers that it reads and writes, and the node that it "loads or works out", by its position, so that
-- equal parts are different nodes. An instruction for no node, as SHOW, has none.
pub record Step : Type 0 where
  pub node : Option ℕ
  pub effect : Effect

-- the positions of a node's children, of its part and its context; a leaf has none
abbrev pub children_of : Tree → List Frame → List ℕ
children_of (leaf g h) c = []
children_of (node o l r) c = position l (frame left o r ∷ c) ∷ position r (frame right o l ∷ c) ∷ []

-- .. of the node at a position below the size
abbrev pub children : Tree → ℕ → List ℕ
children t p = children_of (locate t [] p).part (locate t [] p).above

-- which node was put in each register, and "not written since"
abbrev pub Contents : Type 0
Contents = ℕ → Option ℕ

-- before the first instruction
abbrev pub nothing : Contents
nothing register = none

-- after an instruction: each register that it writes holds its node, or none
abbrev pub put : Contents → Step → Contents
put C s register = cond (is_in s.effect.writes register) s.node (C register)

-- one of these registers holds the node at p
pub record Stands (C : Contents) (rs : List ℕ) (p : ℕ) : Type 0 where
  pub register : ℕ
  pub listed : is_in rs register ≡ true
  pub holds : C register ≡ some p

-- An instruction loads or works out the node at p: it "reads each operand from the register that this very node was put in, not written
-- since", in whatever order, maybe with others, and puts its node in a register.
pub record WorksOut (t : Tree) (C : Contents) (s : Step) (p : ℕ) : Type 0 where
  pub operands : Every (Stands C s.effect.reads) (children t p)
  pub result : Stands (put C s) s.effect.writes p

-- so does each instruction that has a node of the tree, from the first on
unfoldable pub AllWorkOut : Tree → Contents → List Step → Type 0
AllWorkOut t C [] = Unit {0}
AllWorkOut t C (s ∷ ss) = ((p : ℕ) → p < size t → s.node ≡ some p → WorksOut t C s p) × AllWorkOut t (put C s) ss

-- whether an instruction's node is the one at p
abbrev pub is_at : ℕ → Option ℕ → Bool
is_at p none = false
is_at p (some q) = eqb p q

-- how many instructions have the node at p
unfoldable pub times : ℕ → List Step → ℕ
times p [] = 0
times p (s ∷ ss) = cond (is_at p s.node) 1 0 + times p ss

-- "loads or works out each of its nodes just once, in any order with children first, and reads ..": that children come first follows, since
-- what stands in a register was put there before
pub record Schedule (t : Tree) (steps : List Step) : Type 0 where
  pub once : (p : ℕ) → p < size t → times p steps ≡ 1
  pub works : AllWorkOut t nothing steps

-- "each other code that .." of a tree, by what its instructions read and write: with a node or none for each of them it is a schedule
pub record CodeFor (t : Tree) (es : List Effect) : Type 0 where
  pub steps : List Step
  pub same : map (λ s. s.effect) steps ≡ es
  pub schedule : Schedule t steps

-- the registers that instructions name
unfoldable pub registers : List Effect → List ℕ
registers [] = []
registers (e ∷ es) = (e.writes ++ e.reads) ++ registers es

-- how many different ones they name
abbrev pub different : List Effect → ℕ
different es = length (collect [] (registers es))

-- "A tree that needs k registers": each such code names at least k different ones
abbrev pub NeedsRegisters : Tree → ℕ → Type 0
NeedsRegisters t k = (es : List Effect) → CodeFor t es → k ≤ different es
