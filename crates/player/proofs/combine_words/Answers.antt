-- Each of the three operations on words is the operation on sets of lamps.
use native.Mathlib.Omega.{arith}
use borrow.Author.Tests.{ne_eqb}
use Rattle.player.specs.Instructions.{add, cut, kind_of}
use Rattle.player.proofs.PackingLaws.{pack_union, pack_difference, pack_both}
use Rattle.player.proofs.combine_words.Goals as goal

pub returns-in-2 : goal.returns-in-2
returns-in-2 c f g first x y = rw (x, y, c.in-2.is) (pack_union f g first 64)

pub returns-in-3 : goal.returns-in-3
returns-in-3 c f g first x y = rw (x, y, c.in-3.is) (pack_difference f g first 64)

pub returns-in_default : goal.returns-in_default
returns-in_default c f g first x y = rw (x, y, ne_eqb c.args.kind (kind_of add) (λ e. omega arith), ne_eqb c.args.kind (kind_of cut) (λ e. omega arith)) (pack_both f g first 64)
