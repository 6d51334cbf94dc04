-- docs/RULES.md, Layouts: in a registration package the last CBC block under the complemented key is appended, then CBC under the key, both IVs
-- zero. Assumes nothing.
use Rattle.std.specs.Prelude.{ℕ, ◌+◌, ◌-◌, ◌%◌, List, [], ◌∷◌, ◌++◌, eqb, ltb, length, drop, replicate}
use Rattle.cipher.specs.Bytes.{complement}
use Rattle.cipher.specs.Fips46.{des_encrypt}
use Rattle.cipher.specs.Sp80038a.{cbc_encrypt}
use Rattle.answer.specs.Outcome.{Outcome, Row, accepted, row, decide}
use Rattle.answer.specs.Tests.{isnt, either}

unfoldable pub package_cipher : List ℕ → List ℕ → List ℕ
package_cipher key plain = cbc_encrypt (des_encrypt (complement key)) 8 (replicate 8 0) plain

-- its last block
unfoldable pub package_mac : List ℕ → List ℕ → List ℕ
package_mac key plain = drop (length plain - 8) (package_cipher key plain)

unfoldable pub packaged : List ℕ → List ℕ → List ℕ
packaged key plain = cbc_encrypt (des_encrypt key) 8 (replicate 8 0) (plain ++ package_mac key plain)

-- lengths of key, package and output
unfoldable pub package_rows : ℕ → ℕ → ℕ → List Row
package_rows key plain room =
    row 17 (isnt (eqb key 8))
    ∷ row 10 (either (eqb plain 0) (isnt (eqb (plain % 8) 0)))
    ∷ row 12 (ltb 4096 plain)
    ∷ row 16 (ltb room (plain + 8))
    ∷ []

unfoldable pub packaging : List ℕ → List ℕ → ℕ → Outcome
packaging key plain room = decide (package_rows (length key) (length plain) room) (accepted 0 (packaged key plain))
