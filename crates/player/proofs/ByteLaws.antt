-- Laws of lamps as bits and bytes: each lamp stands where 01 says, in `byte_bit`.
use mathlib.Core.Path.{◌≡◌, refl, ap, ◌∙◌}
use mathlib.Core.Bool.{Bool, true, false}
use Prim.Native.Nat.{ℕ, zero, suc, ◌+◌, ◌-◌, ◌*◌, ◌/◌, ◌%◌, ◌^◌, ◌≤◌, ◌<◌}
use native.Mathlib.Nat.{pow-suc, add-zero, add-suc, suc-add, zero-add, mul_assoc}
use native.Mathlib.Omega.{arith}
use lib.ListN.{length, get_or}
use lib.Pow.{high, low}
use Rattle.player.specs.Limits.{last_lamp, byte_count}
use Rattle.player.specs.Instructions.{Lamps}
use Rattle.player.specs.Bytes.{bit, pack, bytes_from, bytes}

-- ---- lamps as the bits of a number
pub bit_small : (b : Bool) → bit b < 2
bit_small true = omega arith
bit_small false = omega arith

pub pack_small : (f : Lamps) (first count : ℕ) → pack f first count < 2 ^ count
unfolding pack
pack_small f first zero = omega arith
pack_small f first (suc count) = rw (pow-suc 2 count) (omega (arith, pack_small f (suc first) count, bit_small (f first)))

-- The lowest m lamps of a number, and those above them.
pub pack_split : (f : Lamps) (first m n : ℕ) → pack f first (m + n) ≡ pack f (first + m) n * 2 ^ m + pack f first m
unfolding pack
pack_split f first zero n = rw (zero-add n, add-zero first) (omega arith)
pack_split f first (suc m) n =
    rw (suc-add m n, pack_split f (suc first) m n, pow-suc 2 m, add-suc first m, suc-add first m) (regrouped _ _ _ _)
  where
    regrouped : (a b x y : ℕ) → (a * b + x) * 2 + y ≡ a * (b * 2) + (x * 2 + y)
    regrouped a b x y = rw (← mul_assoc a b 2) (omega arith)

-- n lamps of a number, from its bit m on
pub pack_part : (f : Lamps) (first m n rest : ℕ) → pack f first (m + (n + rest)) / 2 ^ m % 2 ^ n ≡ pack f (first + m) n
pack_part f first m n rest =
    rw (pack_split f first m (n + rest), high (pack f (first + m) (n + rest)) m (pack_small f first m), pack_split f (first + m) n rest)
    (low (pack f (first + m + n) rest) n (pack_small f (first + m) n))

-- ---- bytes
pub bytes_from_at : (f : Lamps) (first count i : ℕ) → i < count → get_or (bytes_from f first count) i 0 ≡ pack f (first + i * 8) 8
unfolding bytes_from
bytes_from_at f first zero i h = absurd (omega arith)
bytes_from_at f first (suc count) zero h = ap (λ (n : ℕ). pack f n 8) (omega arith)
bytes_from_at f first (suc count) (suc i) h = bytes_from_at f (first + 8) count i (omega arith) ∙ ap (λ (n : ℕ). pack f n 8) (omega arith)

pub bytes_from_length : (f : Lamps) (first count : ℕ) → length (bytes_from f first count) ≡ count
unfolding bytes_from
bytes_from_length f first zero = refl
bytes_from_length f first (suc count) = ap suc (bytes_from_length f (first + 8) count)

pub bytes_length : (f : Lamps) → length (bytes f) ≡ byte_count
bytes_length f = bytes_from_length f 1 byte_count

pack_one_lamp : (f : Lamps) (n : ℕ) → pack f n 1 ≡ bit (f n)
unfolding pack
pack_one_lamp f n = omega arith

-- "lamp n is bit (n−1) mod 8, lowest bit 0, of byte (n−1)/8 rounded down, 1 if the answer holds that lamp (it is lit), else 0"
pub byte_bit : (f : Lamps) (n : ℕ) → 1 ≤ n → n ≤ last_lamp → get_or (bytes f) ((n - 1) / 8) 0 / 2 ^ ((n - 1) % 8) % 2 ≡ bit (f n)
byte_bit f n low high =
    let m : ℕ = (n - 1) % 8 in
    let first : ℕ = 1 + (n - 1) / 8 * 8 in
    let eight : 8 ≡ m + (1 + (7 - m)) = omega arith in
    let here : first + m ≡ n = omega arith in
    rw (bytes_from_at f 1 byte_count ((n - 1) / 8) (omega arith))
    (ap (λ (k : ℕ). pack f first k / 2 ^ m % 2) eight ∙ pack_part f first m 1 (7 - m) ∙ ap (λ (k : ℕ). pack f k 1) here ∙ pack_one_lamp f n)
