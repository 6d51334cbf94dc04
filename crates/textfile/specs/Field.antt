-- From no document: the fields of a line, and how they are written.
use Rattle.std.specs.Prelude.{◌≢◌, ℕ, List, [], ◌∷◌, codes, Option, Some, slice_get}
use Rattle.std.specs.Option.{option_copied}
use Rattle.hex.specs.Hex.{encode_lower, IsBytes}
use Rattle.textfile.specs.declared.field.Fields.{Fields}

-- the text of field k, if a line has one
abbrev pub text_at : Fields → ℕ → Option (List ℕ)
text_at fields k = option_copied (slice_get fields.texts.items k)

-- bytes as a field has them: in hex with lower-case digits, and "-" for none
abbrev pub written : List ℕ → List ℕ
written [] = codes "-"
written (b ∷ bs) = encode_lower (b ∷ bs)

-- no bytes are written so
abbrev pub HasNoBytes : Option (List ℕ) → Type 0
HasNoBytes text = (bytes : List ℕ) → IsBytes bytes → text ≢ Some (written bytes)
