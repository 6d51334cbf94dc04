-- docs/RULES.md, Corners (keys.rs, types.rs): service codes, that is which services are key-free, so that a DES chain skips them. Assumes nothing.
use Rattle.std.specs.Prelude.{ℕ, ◌%◌, Bool, List, [], ◌∷◌, eqb, ltb}
use Rattle.answer.specs.Outcome.{choose}
use Rattle.answer.specs.Tests.{both}

-- a service is key-free if its low six bits are odd and lie in 9..23
unfoldable pub key_free : ℕ → Bool
key_free service = both (eqb (service % 64 % 2) 1) (both (ltb 8 (service % 64)) (ltb (service % 64) 24))

-- the services that bear a key, in their order
unfoldable pub bearing : List ℕ → List ℕ
bearing [] = []
bearing (s ∷ ss) = choose (key_free s) (bearing ss) (s ∷ bearing ss)
