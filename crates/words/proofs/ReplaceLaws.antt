-- Replacing a stretch of a list by what a word stands for: the new list's length, and that it was written.
use mathlib.Core.Path.{◌≡◌, ap, ◌∙◌}
use mathlib.Core.List.{List}
use Prim.Native.Nat.{ℕ, ◌+◌, ◌-◌, ◌≤◌}
use native.Mathlib.Omega.{arith}
use lib.ListN.{length, take, drop, length-append, length-take, length-drop}
use lib.Seq.{take_all}
use Rattle.tree.specs.Tree.{most_nodes}
use Rattle.tree.specs.declared.Stretch.{Stretch}
use Rattle.tree.specs.InnerWriting.{Wrote}
use Rattle.tree.proofs.WritingLaws.{wrote_take}
use Rattle.words.specs.InnerWords.{Range, spell, replaced}
use Rattle.words.specs.InnerReplacing.{Written}

-- the rest of a list, as `&list[end..]` gives it
pub rest_of : (l : List ℕ) (end : ℕ) → end ≤ length l → take (length l - end) (drop end l) ≡ drop end l
rest_of l end h = take_all (length l - end) (drop end l) (simp length-drop (omega arith))

pub replaced_length : (l : List ℕ) (parts : List Stretch) (w : List ℕ) (old : Stretch) → Range l old
    → length (replaced l parts w old) ≡ old.from + length (spell l parts w) + (length l - old.to)
unfolding replaced
replaced_length l parts w old r = simp (length-append, length-take, length-drop) (omega (arith, r.low, r.high))

pub written : {out out' xs : List ℕ} {r : ℕ} → Wrote out 0 out' r xs → (nodes : ℕ) → nodes ≡ length xs → nodes ≤ most_nodes → most_nodes ≤ length out → Written xs nodes out'
written {out} {out'} {xs} {r} W nodes e h k =
    let same : nodes ≡ r = omega (arith, W.ends) in
    record { length_is = e; short = h; entries = ap (λ (n : ℕ). take n out') same ∙ wrote_take W (omega arith) }
