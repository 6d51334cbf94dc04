-- docs/RULES.md, Carried and added (size forecast): the size that a payload of n bytes has once it is sealed as a command, without length byte
-- and code (docs/GUIDE.md, Buffers). Assumes nothing.
use Rattle.std.specs.Prelude.{ℕ, ◌+◌, ◌*◌, ◌/◌, List, [], ◌∷◌, eqb, ltb}
use Rattle.answer.specs.Outcome.{Row, row, choose, first_of}
use Rattle.answer.specs.Tests.{isnt, either}
use Rattle.frame.specs.Scheme.{longest}

-- n brought up to a multiple of 8
unfoldable pub up_to_eights : ℕ → ℕ
up_to_eights n = (n + 7) / 8 * 8

-- AES: payload + 10; DES: payload + 8 brought up to a multiple of 8, then 8 more
unfoldable pub forecast_size : ℕ → ℕ → ℕ
forecast_size scheme n = choose (eqb scheme 1) (up_to_eights (n + 8) + 8) (n + 10)

-- 17 by the mark, then 12 by the length
unfoldable pub forecast_rows : ℕ → ℕ → List Row
forecast_rows scheme n = row 17 (isnt (either (eqb scheme 1) (eqb scheme 2))) ∷ row 12 (ltb (longest scheme) n) ∷ []

-- number and size; a refusal has size 0
pub record Foretold : Type 0 where
  pub number : ℕ
  pub size : ℕ

unfoldable pub forecasting : ℕ → ℕ → Foretold
forecasting scheme n =
    let k = first_of (forecast_rows scheme n) in
    record { number = k; size = choose (eqb k 0) (forecast_size scheme n) 0 }
