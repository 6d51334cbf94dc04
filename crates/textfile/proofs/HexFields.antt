-- Fields in hex.
use Rattle.std.proofs.Common.{◌≡◌, ℕ, ◌<◌, List, [], ◌∷◌, length, codes, Some, Ok, ap, ◌∙◌, refl, arith}
use Rattle.hex.specs.Hex.{decode_of, encode_lower, lower_digits, IsBytes}
use Rattle.hex.proofs.HexLemmas.{decode_of-encode_lower, length-encode_with}
use Rattle.textfile.specs.Field.{written}

-- bytes as they are written read back, if what is written is not the sign for none
pub read_back : (text bytes : List ℕ) → IsBytes bytes → (text ≡ codes "-" → ⊥) → Some text ≡ Some (written bytes)
    → (decode_of text ≡ Ok bytes) × (text ≡ encode_lower bytes) × (0 < length bytes)
read_back text [] are_bytes some is_written = absurd (some cc)
read_back text (b ∷ bs) are_bytes some is_written =
    let e : text ≡ encode_lower (b ∷ bs) = cc in
    (ap decode_of e ∙ decode_of-encode_lower (b ∷ bs) are_bytes, e, omega arith)

-- bytes that are written alike are equally many
pub same_length : (xs ys : List ℕ) → written xs ≡ written ys → length xs ≡ length ys
same_length [] [] e = refl
same_length [] (y ∷ ys) e = absurd (omega (arith, ap length e, length-encode_with lower_digits (y ∷ ys)))
same_length (x ∷ xs) [] e = absurd (omega (arith, ap length e, length-encode_with lower_digits (x ∷ xs)))
same_length (x ∷ xs) (y ∷ ys) e =
    omega (arith, ap length e, length-encode_with lower_digits (x ∷ xs), length-encode_with lower_digits (y ∷ ys))
