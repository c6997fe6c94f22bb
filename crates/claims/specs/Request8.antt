-- Request 8 of document 02, "Key for the older player", sentence by sentence.
use Rattle.std.specs.Prelude.{◌≡◌, Bool, true, false, List, [], ◌∷◌, ◌++◌, ℕ, ◌+◌, ◌*◌, ◌%◌, ◌≤◌, ◌<◌, T, length, get_or, drop, replicate, Result}
use Rattle.std.proofs.Math.Option.{Option, some, none}
use Rattle.common.specs.Answer.{done, refused_with}
use Rattle.common.specs.Exactly.{Exactly}
use Rattle.tree.specs.Tree.{Operator, Tree, leaf, node, is_group, size, most_nodes, selected}
use Rattle.tree.specs.Parse.{tree_of}
use Rattle.tree.specs.Writing.{over}
use Rattle.moves.specs.Moves.{MoveTable, ours}
use Rattle.move_table.specs.Loading.{loading}
use Rattle.player.specs.Limits.{register_count, byte_count}
use Rattle.player.specs.Instructions.{Rig, Registers, Operation, combined, put}
use Rattle.player.specs.Playing.{wrong_length, Played, played_says}
use Rattle.older_player.specs.Instructions.{Instruction, load, change, show, lights, lit_lamps, numbers, numbers_of}
use Rattle.older_player.specs.Playing.{most_instructions, Plays}
use Rattle.older_player.specs.Codes.{IsCode}
use Rattle.sheet.specs.Reading.{ReadingState, accepted, reading}
use Rattle.code.specs.Need.{need}
use Rattle.code.specs.Code.{operation, code}
use Rattle.code.specs.Waiting.{lowest, also_in}
use Rattle.code.specs.Devices as coding
use Rattle.code.specs.Devices.{PartCode, part_code, code_on, newer_player, older_player}
use Rattle.code.specs.Effects.{Effect, newer_effect, older_effect, Every, Names}
use Rattle.code.specs.Acts.{Acts}
use Rattle.coder.specs.Coding.{coded_says}
use Rattle.coder.specs.declared.Refusal.{Refusal}
use Rattle.older_coder.specs.Coding.{least_buffer, Encodes}
use Rattle.printing.specs.Key.{LiftAnswer, Held, Key, answers, older_row, text}
use Rattle.printing.specs.declared.Device.{Device}
use Rattle.printing.specs.declared.Device.TheVariants.{Newer, Older}
use Rattle.key.specs.Devices.{InstructionOf, row_for}
use Rattle.key.specs.Demand.{Demand3}
use Rattle.key.specs.Call.{key_bytes, KeyOf, KeyWith, KeyCall}
use Rattle.key.specs.Alike.{Alike, SameLines}
use Rattle.key.specs.declared.ShortBuffer.{ShortBuffer}

-- the keys that a device's program may print of a sheet, given the bytes of a school's table or none
abbrev pub KeyGiven : (d : Device) → Option (List ℕ) → (sheet : List ℕ) → Key (InstructionOf d) → Type 0
KeyGiven d none sheet k = KeyOf d ours (reading sheet) k
KeyGiven d (some table) sheet k = KeyWith d (loading table) (reading sheet) k

-- the code of an operator's node, from those of its operands in the order in which they come, and the registers of the left one and the right
abbrev pub joined : Operator → (first second : PartCode Instruction) (left right : ℕ) → PartCode Instruction
joined o x y l r = record { own = x.own ++ (y.own ++ (change (operation o) l r ∷ [])); register = l }

-- "four numbers, unused ones 0": how many of an instruction's are unused
abbrev pub unused : Instruction → ℕ
unused (load target group) = 1
unused (change o first second) = 1
unused (show register) = 2

pub record Request8 : Type 1 where
  -- "Rental stock has a player whose ADD, CUT and BOTH name two registers: the first is changed by the second."
  pub changed : (rig : Rig) (o : Operation) (first second : ℕ) (is : List Instruction) (R : Registers)
      → lights rig (change o first second ∷ is) R ≡ lights rig is (put R first (combined o (R first) (R second)))
  -- "A second coder makes code for it from the same trees,": whatever its `encode` answers and leaves
  pub coded : (tree out : List ℕ) (t : Tree) → tree_of tree ≡ some t → least_buffer ≤ length out → (r : Result ℕ Refusal) (after : List ℕ) → Encodes tree out r after
      → (coded_says r ≡ done ((size t + 1) ∷ [])) × (after ≡ over (numbers_of (code_on older_player t)) out)
  -- "and a last line SHOW names the register with the answer."
  pub shown : (t : Tree) → (own : List Instruction) × (register : ℕ) × (code_on older_player t ≡ own ++ (show register ∷ []))
  pub answer : (rig : Rig) (t : Tree) → lit_lamps rig (code_on older_player t) ≡ selected rig t
  -- "Its instructions too are four numbers, unused ones 0, and SHOW, kind 5, stands last and there only, else 23.": of a code that is not
  -- refused before, whatever `play` answers and leaves
  pub four : (i : Instruction) → length (numbers i) ≡ 4
  pub kind_5 : (register : ℕ) → numbers (show register) ≡ 5 ∷ register ∷ 0 ∷ 0 ∷ []
  pub else_23 : (code patch lamps : List ℕ) → byte_count ≤ length lamps → wrong_length most_instructions (length code) ≡ false
      → (r : Played) (after : List ℕ) → Plays code patch lamps r after → Exactly (played_says r ≡ refused_with 23) (IsCode code → ⊥)
  -- "With it, code is up to 8,192 instructions in a buffer of 32,768 numbers,": one for each node, and one
  pub up_to : (t : Tree) → size t ≤ most_nodes
      → (length (code_on older_player t) ≡ size t + 1) × (length (code_on older_player t) ≤ 8192) × (length (numbers_of (code_on older_player t)) ≤ 32768)
  -- "and 20 and 22 follow that."
  pub follows_20 : (tree out : List ℕ) (r : Result ℕ Refusal) (after : List ℕ) → Encodes tree out r after → Exactly (coded_says r ≡ refused_with 20) (length out < 32768)
  pub follows_22 : (code patch lamps : List ℕ) → byte_count ≤ length lamps → (r : Played) (after : List ℕ) → Plays code patch lamps r after
      → Exactly (played_says r ≡ refused_with 22) ((1 ≤ length code) × (length code ≤ 4 * 8192) × (length code % 4 ≡ 0) → ⊥)
  -- "Nodes come in 01's order, a leaf into the lowest register where no operand waits;": while operands wait where w says
  pub leaf_code_lem : (w : List Bool) (g : ℕ) (h : T (is_group g)) → part_code older_player w (leaf g h) ≡ record { own = load (lowest w) g ∷ []; register = lowest w }
  pub lowest_free : (w : List Bool) → (get_or w (lowest w) false ≡ false) × ((q : ℕ) → q < lowest w → get_or w q false ≡ true)
  -- "ADD, CUT and BOTH name the left operand's register, then the right's.": of a left child that comes first, and of a right one; the
  -- other comes while the first one's result waits too
  pub left_first_lem : (w : List Bool) (o : Operator) (l r : Tree) → need r ≤ need l
      → (x y : PartCode Instruction) → x ≡ part_code older_player w l → y ≡ part_code older_player (also_in w x.register) r
      → part_code older_player w (node o l r) ≡ joined o x y x.register y.register
  pub right_first : (w : List Bool) (o : Operator) (l r : Tree) → need l < need r
      → (x y : PartCode Instruction) → x ≡ part_code older_player w r → y ≡ part_code older_player (also_in w x.register) l
      → part_code older_player w (node o l r) ≡ joined o x y y.register x.register
  -- "A second key program, otherwise alike,": whichever key the program of one device may print, that of the other may print one with the
  -- same `NO` line, or the same `LIFT` and `HELD` lines
  pub otherwise_alike : (d e : Device) (table : Option (List ℕ)) (sheet : List ℕ) (k : Key (InstructionOf d)) → KeyGiven d table sheet k
      → (l : Key (InstructionOf e)) × KeyGiven e table sheet l × SameLines k l
  -- "prints this code without unused numbers.": behind the kind come the numbers of the line and, of those that are unused, zeros
  pub printed : (i : Instruction) → drop 1 (numbers i) ≡ (older_row i).numbers ++ replicate (unused i) 0
  -- "Thirteen registers suffice here too."
  pub thirteen : (t : Tree) → size t ≤ most_nodes → Every (Names older_effect (λ q. q < register_count)) (code_on older_player t)
  -- "Both players must light alike for every accepted sheet and patch,": by any tables, the same or not
  pub light_alike : (m n : MoveTable) (sheet : List ℕ) (st : ReadingState) → reading sheet ≡ accepted st
      → (k : Key (InstructionOf Newer)) (l : Key (InstructionOf Older)) → KeyOf Newer m (reading sheet) k → KeyOf Older n (reading sheet) l → Alike Newer Older k l
  -- "with one shared proof about need and not one for each device.": of any device, and both are such; 01's code is that of one of them
  pub any_device : {I : Type 0} (d : coding.Device I) (effect : I → Effect) → Acts d effect → (t : Tree) → Every (Names effect (λ q. q < need t)) (code_on d t)
  pub both_act : Acts newer_player newer_effect × Acts older_player older_effect
  pub newer_code_lem : (t : Tree) → code_on newer_player t ≡ code t 0
  -- Demand 3 with this device: what the call writes for an accepted sheet, by any table
  pub demand_3 : (m : MoveTable) (sheet out : List ℕ) (st : ReadingState) (r : Result ℕ ShortBuffer) (out' : List ℕ) → reading sheet ≡ accepted st → key_bytes ≤ length out
      → KeyCall Older (KeyOf Older m (reading sheet)) out r out'
      → (t : Tree) × (tree_of st.entries ≡ some t) × ((lifts : List LiftAnswer) × (held : Held) × (is : List Instruction)
      × Demand3 Older m t st.marks st.lifts lifts held is × (out' ≡ over (text (row_for Older) (answers lifts held is)) out))
  -- a key of either device can be read back in one way only
  pub read_back : (d : Device) (k l : Key (InstructionOf d)) → text (row_for d) k ≡ text (row_for d) l → k ≡ l
