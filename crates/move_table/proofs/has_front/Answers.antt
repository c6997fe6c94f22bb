-- `has_front`: the four bytes of a place.
use Rattle.std.proofs.Common.{sym, ap₂, ◌∙◌, [], ◌∷◌}
use Prim.Native.Nat.{ℕ}
use Rattle.text.specs.Line.{tab}
use Rattle.move_table.specs.Loading.{starts_with}
use Rattle.move_table.proofs.LineLaws.{starts_pointwise, place_digit, place_letter}
use Rattle.move_table.proofs.has_front.Goals as goal

pub returns : goal.returns
returns c =
    let bytes = c.args.bytes.now in
    let place = c.args.place in
    c.starts_with.ensures.value ∙ starts_pointwise _ bytes
    ∙ ap₂ (λ (digit letter : ℕ). starts_with (digit ∷ tab ∷ letter ∷ tab ∷ []) bytes) (sym (place_digit place c.requires)) (sym (place_letter place c.requires))
