-- The number that stands for an answer of a player: that of the first fault, 0 where there is none.
use mathlib.Core.Path.{◌≡◌, refl, sym, ap, ◌∙◌}
use mathlib.Core.Bool.{Bool, true, false, cond}
use mathlib.Core.List.{List, []}
use Prim.Native.Nat.{ℕ}
use borrow.Author.Tests.{eqb-true}
use lib.Dec.{eqb}
use Rattle.common.specs.Answer.{done, refused_with, answer_by}
use Rattle.player.specs.Instructions.{Lamps}
use Rattle.player.specs.Playing.{Played, played_says, PlaysBy}
use Rattle.exports.specs.Storing.{answer_number, PlayCall}

number_by : (fault : ℕ) → answer_number (answer_by fault []) ≡ fault
number_by fault = go (eqb fault 0) refl
  where
    go : (b : Bool) → eqb fault 0 ≡ b → answer_number (cond b (done []) (refused_with fault)) ≡ fault
    go true e = sym (eqb-true fault 0 e)
    go false e = refl

pub play_call : {fault : ℕ} {lit : Lamps} {lamps after : List ℕ} {r : Played} → PlaysBy fault lit lamps r after → (number : ℕ) → number ≡ answer_number (played_says r)
    → PlayCall fault lit lamps after number
play_call {fault} P number e = record { numbered = e ∙ ap answer_number P.says ∙ number_by fault; written = P.written }
