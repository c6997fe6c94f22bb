-- What stands above A in a word, as the code's scan finds it. No contract of one of 01's calls cites this file.
use Rattle.std.specs.Prelude.{◌≡◌, cond, List, [], ◌∷◌, ◌++◌, ℕ, ◌+◌, ◌-◌, ◌≤◌, T, eqb, ltb, length, get_or, take, drop, replicate, Option, Some, None, is_some}
use Rattle.tree.specs.Tree.{Basic, operator_of}
use Rattle.tree.specs.InnerPart.{kind_of, side_of}
use Rattle.tree.specs.declared.Operand.{Operand}
use Rattle.words.specs.Formula.{Formula, above, once}
use Rattle.words.specs.InnerWords.{first_part, blank, part_of, basic_of, leading}
use Rattle.words.specs.Word.{word}
use Rattle.words.specs.declared.WordFrame.{WordFrame}
use Rattle.words.specs.declared.AboveA.{AboveA}

-- the signs after A
unfoldable pub trailing : List ℕ → List ℕ
trailing [] = []
trailing (s ∷ w) = cond (eqb s first_part) w (trailing w)

-- r is the place of A in the word: so many signs stand before it, the others come after it
pub record PlaceIs (w : List ℕ) (r : ℕ) : Type 0 where
  pub within : r ≤ length w
  pub signs_before : take r w ≡ leading w
  pub signs_after : drop (r + 1) w ≡ trailing w

-- the kind of the frame that an operator makes above a part: the part is its right operand if no operand has come since, else its left one
abbrev pub frame_kind : ℕ → Basic → Option Operand
frame_kind operands o = kind_of (side_of (eqb operands 0)) (operator_of o)

-- the kinds of the frames that signs make above the part that ends before them, where so many operands have come since: by the first sign's
-- operator, and the kinds that the others make after it has made a frame, and after it has taken two operands; a sign that is neither
-- a part nor an operator ends the word
abbrev pub kinds_by : ℕ → Option Basic → List (Option Operand) → List (Option Operand) → List (Option Operand)
kinds_by n None above others = []
kinds_by n (Some o) above others = cond (ltb n 2) (frame_kind n o ∷ above) others

unfoldable pub kinds_after : ℕ → List ℕ → List (Option Operand)
kinds_after n [] = []
kinds_after n (s ∷ w) = cond (is_some (part_of s)) (kinds_after (n + 1) w) (kinds_by n (basic_of s) (kinds_after 0 w) (kinds_after (n - 1) w))

-- the first frame above the part that ends before `from`, if there is one: its kind, and where those above it begin
abbrev pub FrameAfter : List ℕ → ℕ → Option WordFrame → Type 0
FrameAfter w from (Some f) = kinds_after 0 (drop from w) ≡ Some f.operand ∷ kinds_after 0 (drop f.end w)
FrameAfter w from None = kinds_after 0 (drop from w) ≡ []

-- the kinds of the frames above A in a formula
abbrev pub kinds : Formula → List (Option Operand)
kinds p = above (λ s o q. kind_of s (operator_of o)) p

-- the two innermost frames above A, none for one that is not there, of whichever formula that names A once the word is, blanks after it or not
pub record AboveIs (w : List ℕ) (r : AboveA) : Type 0 where
  pub is : (p : Formula) (blanks : ℕ) → T (once p) → w ≡ word p ++ replicate blanks blank
      → (r.own ≡ get_or (kinds p) 0 None) × (r.parent ≡ get_or (kinds p) 1 None)
