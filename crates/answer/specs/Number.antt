-- docs/RULES.md, Layouts: a number in two bytes, the low one first. Assumes nothing.
use Rattle.std.specs.Prelude.{ℕ, ◌+◌, ◌*◌, ◌/◌, ◌%◌, List, [], ◌∷◌, get_or}

abbrev pub number_bytes : ℕ → List ℕ
number_bytes number = number % 256 ∷ number / 256 % 256 ∷ []

-- the number that starts a byte string
abbrev pub number_of : List ℕ → ℕ
number_of l = get_or l 0 0 + get_or l 1 0 * 256
