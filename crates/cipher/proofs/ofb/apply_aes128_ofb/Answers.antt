use mathlib.Core.Path.{◌∙◌, ap}
use mathlib.Core.List.{List}
use Prim.Native.Nat.{ℕ}
use Rattle.cipher.specs.Fips197.{cipher, aes_encrypt}
use Rattle.cipher.specs.Sp80038a.{ofb}
use Rattle.cipher.proofs.ofb.apply_aes128_ofb.Goals as goal

pub returns : goal.returns
unfolding aes_encrypt
returns c =
    let a = c.args in
    c.apply.ensures.data_after ∙ ap (λ (w : List ℕ). ofb (cipher w) 16 a.iv a.«data».now) c.new-keys.ensures
