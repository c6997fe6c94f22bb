-- The code of a tree for a device, and the two devices.
use Rattle.std.specs.Prelude.{Bool, true, cond, List, [], ◌∷◌, ◌++◌, ℕ}
use Rattle.tree.specs.Tree.{Operator, Tree}
use Rattle.player.specs.Instructions as newer
use Rattle.older_player.specs.Instructions as older
use Rattle.code.specs.Code.{operation}
use Rattle.code.specs.Need.{in_order}
use Rattle.code.specs.Waiting.{lowest, also_in}

-- What a device has for a leaf, by the register and the group; for an operator, by whether the left operand came first and the registers
-- of the operands that came first and second; whether the result then stands in the register of the one that came first; and what ends
-- a code, by the register of the answer.
pub record Device (I : Type 0) : Type 0 where
  pub loads : (register group : ℕ) → I
  pub operates : Operator → Bool → (first second : ℕ) → I
  pub keeps_first : Bool → Bool
  pub ends : ℕ → List I

-- a part's instructions, and the register where its result waits
pub record PartCode (I : Type 0) : Type 0 where
  pub own : List I
  pub register : ℕ

module _ {I : Type 0} (d : Device I) where
  -- "a leaf into the lowest register where no operand waits"
  abbrev pub leaf_code : List Bool → ℕ → PartCode I
  leaf_code w g = record { own = d.loads (lowest w) g ∷ []; register = lowest w }

  -- the first operand's, the second's, the operator's
  abbrev pub node_code : List Bool → Operator → Bool → PartCode I → PartCode I → PartCode I
  node_code w o f x y = record {
    own = x.own ++ (y.own ++ (d.operates o f x.register y.register ∷ []));
    register = cond (d.keeps_first f) x.register y.register;
  }

  -- "Nodes come in 01's order": the code of a part, while operands wait where w says
  unfoldable pub part_code : List Bool → Tree → PartCode I
  part_code w t = in_order leaf_code node_code (λ w x. also_in w x.register) w t

  -- of a whole tree: no operand waits yet
  abbrev pub code_on : Tree → List I
  code_on t = (part_code [] t).own ++ d.ends (part_code [] t).register

-- 01's player: "ADD or CUT with target r, left operand's register, right operand's", where r is the target of the first child
abbrev pub newer_player : Device newer.Instruction
newer_player = record {
  loads = λ r g. newer.load r g;
  operates = λ o f p q. newer.operate (operation o) p (cond f p q) (cond f q p);
  keeps_first = λ f. true;
  ends = λ r. [];
}

-- "ADD, CUT and BOTH name the left operand's register, then the right's"; "the first is changed by the second"; "a last line SHOW names
-- the register with the answer"
abbrev pub older_player : Device older.Instruction
older_player = record {
  loads = λ r g. older.load r g;
  operates = λ o f p q. older.change (operation o) (cond f p q) (cond f q p);
  keeps_first = λ f. f;
  ends = λ r. older.show r ∷ [];
}
