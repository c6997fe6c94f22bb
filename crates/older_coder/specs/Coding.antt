-- What `encode` answers and leaves. Request 8 of 02: "A second coder makes code for it from the same trees".
use Rattle.std.specs.Prelude.{List, ℕ, Result}
use Rattle.older_player.specs.Instructions.{numbers_of}
use Rattle.code.specs.Devices.{code_on, older_player}
use Rattle.coder.specs.Coding.{EncodesBy}
use Rattle.coder.specs.declared.Refusal.{Refusal}

-- "code is up to 8,192 instructions in a buffer of 32,768 numbers, and 20 and 22 follow that"
abbrev pub least_buffer : ℕ
least_buffer = 32768

abbrev pub Encodes : (tree out : List ℕ) (r : Result ℕ Refusal) (after : List ℕ) → Type 0
Encodes = EncodesBy least_buffer (code_on older_player) numbers_of
