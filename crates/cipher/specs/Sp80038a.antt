-- NIST SP 800-38A: the CBC and OFB modes over any block cipher, with blocks of w bytes. Section numbers are the paper's. Assumes nothing.
use Rattle.std.specs.Prelude.{ℕ, zero, suc, ◌+◌, ◌-◌, ◌/◌, ◌%◌, Bool, true, false, List, [], ◌++◌, eqb, length, take, drop}
use Rattle.cipher.specs.Bytes.{◌⊕◌}

-- A mode goes through a string block by block with a state: from the state and the block come the block that is written and the next
-- state. n blocks are done; the last may be short
unfoldable pub chain : (out next : List ℕ → List ℕ → List ℕ) (w : ℕ) → List ℕ → ℕ → List ℕ → List ℕ
chain out next w s zero l = []
chain out next w s (suc n) l = out s (take w l) ++ chain out next w (next s (take w l)) n (drop w l)

-- the number of blocks in n bytes, the last of which may be short
unfoldable pub blocks : ℕ → ℕ → ℕ
blocks w n = (n + (w - 1)) / w

module _ (CIPH : List ℕ → List ℕ) (w : ℕ) where
  -- 6.2, CBC encryption: C1 = CIPH(P1 ⊕ IV), Cj = CIPH(Pj ⊕ Cj-1). The state is the block before
  unfoldable pub cbc_out : List ℕ → List ℕ → List ℕ
  cbc_out c p = CIPH (p ⊕ c)

  unfoldable pub cbc_encrypt : List ℕ → List ℕ → List ℕ
  cbc_encrypt iv p = chain cbc_out cbc_out w iv (blocks w (length p)) p

  -- 6.4, OFB: I1 = IV, Ij = Oj-1, Oj = CIPH(Ij), Cj = Pj ⊕ Oj, and for the last block as many of the first bytes of On as it has.
  -- The state is Ij. Decryption is the same
  unfoldable pub ofb_out : List ℕ → List ℕ → List ℕ
  ofb_out i p = p ⊕ CIPH i

  unfoldable pub ofb_next : List ℕ → List ℕ → List ℕ
  ofb_next i p = CIPH i

  -- I(n + 1), the input block after n blocks
  unfoldable pub ofb_input : ℕ → List ℕ → List ℕ
  ofb_input zero iv = iv
  ofb_input (suc n) iv = CIPH (ofb_input n iv)

  unfoldable pub ofb : List ℕ → List ℕ → List ℕ
  ofb iv p = chain ofb_out ofb_next w iv (blocks w (length p)) p

module _ (CIPH⁻¹ : List ℕ → List ℕ) (w : ℕ) where
  -- 6.2, CBC decryption: P1 = CIPH⁻¹(C1) ⊕ IV, Pj = CIPH⁻¹(Cj) ⊕ Cj-1. The state is the block before
  unfoldable pub cbc_back : List ℕ → List ℕ → List ℕ
  cbc_back c b = CIPH⁻¹ b ⊕ c

  abbrev pub itself : List ℕ → List ℕ → List ℕ
  itself c b = b

  unfoldable pub cbc_decrypt : List ℕ → List ℕ → List ℕ
  cbc_decrypt iv c = chain cbc_back itself w iv (blocks w (length c)) c

-- 5.2: CBC asks for a whole number of blocks
unfoldable pub whole : ℕ → List ℕ → Bool
whole w l = eqb (length l % w) 0

-- what stands in the place of l after a call that works on whole blocks alone: f of l, or l as it was
unfoldable pub if_whole : Bool → (List ℕ → List ℕ) → List ℕ → List ℕ
if_whole true f l = f l
if_whole false f l = l

unfoldable pub on_whole : ℕ → (List ℕ → List ℕ) → List ℕ → List ℕ
on_whole w f l = if_whole (whole w l) f l
