-- From no document: how a result is written over a byte string, and a yes as C gets it. Assumes nothing.
use Rattle.std.specs.Prelude.{ℕ, Bool, true, false, List, ◌++◌, length, take, drop}

-- s with b over its front, as far as both reach
abbrev pub over : List ℕ → List ℕ → List ℕ
over b s = take (length s) b ++ drop (length b) s

-- 1 for yes, 0 for no
abbrev pub flag : Bool → ℕ
flag true = 1
flag false = 0
