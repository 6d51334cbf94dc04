use mathlib.Core.Path.{◌∙◌, ap}
use mathlib.Core.List.{List}
use Prim.Native.Nat.{ℕ}
use Rattle.cipher.specs.Fips197.{cipher, aes_encrypt}
use Rattle.cipher.specs.Sp80038b.{cmac, R128}
use Rattle.cipher.proofs.cmac.aes128_cmac.Goals as goal

pub returns : goal.returns
unfolding aes_encrypt cmac
returns c =
    let a = c.args in
    c.mac_from.ensures ∙ ap (λ (w : List ℕ). cmac (cipher w) 16 R128 a.«data».now) c.new-keys.ensures
