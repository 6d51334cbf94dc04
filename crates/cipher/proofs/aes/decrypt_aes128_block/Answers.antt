use mathlib.Core.Path.{◌∙◌, ap}
use mathlib.Core.List.{List}
use Prim.Native.Nat.{ℕ}
use Rattle.cipher.specs.Fips197.{inv_cipher, aes_decrypt}
use Rattle.cipher.proofs.aes.decrypt_aes128_block.Goals as goal

pub returns : goal.returns
unfolding aes_decrypt
returns c = c.decrypt_block.ensures ∙ ap (λ (w : List ℕ). inv_cipher w c.args.«data») c.new.ensures
