-- Writing into a buffer.
use Rattle.std.specs.Prelude.{List, ◌++◌, ℕ, length, drop}

-- the buffer with xs at its front, and behind them what stood there: "past its length nothing"
abbrev pub over : List ℕ → List ℕ → List ℕ
over xs out = xs ++ drop (length xs) out
