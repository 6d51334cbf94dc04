-- docs/NUMBERS.md: the tests that its conditions are made of. Assumes nothing.
use Rattle.std.specs.Prelude.{ℕ, Bool, true, false, List, [], ◌∷◌, eqb}

unfoldable pub isnt : Bool → Bool
isnt true = false
isnt false = true

unfoldable pub either : Bool → Bool → Bool
either true b = true
either false b = b

unfoldable pub both : Bool → Bool → Bool
both true b = b
both false b = false

-- two byte strings are equal
unfoldable pub same : List ℕ → List ℕ → Bool
same [] [] = true
same [] (y ∷ t) = false
same (x ∷ s) [] = false
same (x ∷ s) (y ∷ t) = both (eqb x y) (same s t)
