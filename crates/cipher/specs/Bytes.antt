-- FIPS 197, SP 800-38A and SP 800-38B: the byte strings that they share, as lists of numbers. Assumes nothing.
use Rattle.std.specs.Prelude.{ℕ, zero, suc, ◌/◌, ◌%◌, ◌<◌, List, [], ◌∷◌, ◌++◌, length, get_or, replicate}
use Rattle.std.specs.Int.Bits.{bit_xor}

infixl 65 ◌⊕◌
-- each entry is a byte
abbrev pub Bytes : List ℕ → Type 0
Bytes s = (i : ℕ) → get_or s i 0 < 256

-- the list of f 0, f 1, .. up to f (n - 1)
unfoldable pub tab : ℕ → (ℕ → ℕ) → List ℕ
tab zero f = []
tab (suc n) f = f zero ∷ tab n (λ i. f (suc i))

-- exclusive or, byte by byte, as long as the shorter of the two
unfoldable pub ◌⊕◌ : List ℕ → List ℕ → List ℕ
◌⊕◌ [] t = []
◌⊕◌ (x ∷ s) [] = []
◌⊕◌ (x ∷ s) (y ∷ t) = bit_xor x y ∷ (s ⊕ t)

-- each bit of each byte turned
unfoldable pub complement : List ℕ → List ℕ
complement s = s ⊕ replicate (length s) 255

-- the four bytes of a 32-bit word, highest first
unfoldable pub word_bytes : ℕ → List ℕ
word_bytes x = x / 16777216 % 256 ∷ x / 65536 % 256 ∷ x / 256 % 256 ∷ x % 256 ∷ []

-- the bytes of a list of words
unfoldable pub words_bytes : List ℕ → List ℕ
words_bytes [] = []
words_bytes (x ∷ ws) = word_bytes x ++ words_bytes ws
