-- In the lamp's word the lamp alone is a power of two, joined by the union of bits; the other words stay as they are.
use borrow.Author.Tests.{ne_eqb}
use mathlib.Core.Path.{◌≡◌, sym, ap₂, ◌∙◌}
use Prim.Native.Nat.{ℕ, ◌<◌, ◌+◌, ◌-◌, ◌*◌, ◌/◌, ◌%◌, ◌^◌}
use native.Mathlib.Nat.{mod-eq_of_lt, one-mul}
use native.Mathlib.Omega.{arith}
use lib.Bits.{bit_or, or_comm}
use lib.Dec.{eqb}
use lib.ListN.{get_or, length-set}
use lib.Pow.{pow-lt}
use Rattle.player.specs.Instructions.{add, combined}
use Rattle.player.specs.InnerWords.{word_width, word_count, word}
use Rattle.player.proofs.PackingLaws.{pack_union, union_off, pack_one}
use Rattle.player.proofs.HoldingLaws.{written}
use Rattle.player.proofs.light.Goals as goal

pub returns : goal.returns
returns c f held =
    let lamp : ℕ = c.args.lamp in
    let i : ℕ = (lamp - 1) / word_width in
    let first : ℕ = word_width * i + 1 in
    let bit : ℕ = (lamp - 1) % word_width in
    let within : bit < 64 = omega arith in
    let power : (1 * 2 ^ bit) % 2 ^ 64 ≡ 2 ^ bit = simp one-mul (mod-eq_of_lt (pow-lt within)) in
    let one : 2 ^ bit ≡ word (eqb lamp) first = sym (pack_one lamp first word_width bit (omega arith) within) in
    record {
      size = simp length-set held.size;
      entry = written (λ k word-k. k < word_count → word-k ≡ word (combined add (eqb lamp) f) (word_width * k + 1)) c.args.set.now i _ 0 (omega (arith, held.size))
          (λ lt. or_comm (get_or c.args.set.now i 0) ((1 * 2 ^ bit) % 2 ^ 64) ∙ ap₂ bit_or (power ∙ one) (held.entry i lt) ∙ pack_union (eqb lamp) f first word_width)
          (λ k n lt. held.entry k lt ∙ union_off (eqb lamp) f (word_width * k + 1) word_width (λ other low high. ne_eqb lamp other (λ x. n (omega arith))));
    }
