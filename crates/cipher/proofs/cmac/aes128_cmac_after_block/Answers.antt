use mathlib.Core.Path.{◌≡◌, ◌∙◌, ap}
use mathlib.Core.List.{List, ◌++◌}
use Prim.Native.Nat.{ℕ, ◌-◌, ◌<◌}
use native.Mathlib.Omega.{arith}
use lib.Dec.{lit<}
use lib.ListN.{length}
use Rattle.std.proofs.lemmas.Bool.Decides.{nat_tests}
use Rattle.cipher.specs.Fips197.{cipher, aes_encrypt}
use Rattle.cipher.specs.Sp80038a.{blocks}
use Rattle.cipher.specs.Sp80038b.{mac_from, cmac, R128}
use Rattle.cipher.proofs.Macs.{cmac_alone, cmac_after}
use Rattle.cipher.proofs.cmac.aes128_cmac_after_block.Goals as goal

pub returns-then-is_empty : goal.returns-then-is_empty
unfolding aes_encrypt
returns-then-is_empty c =
    let a = c.args in
    let n : length a.«data».now ≡ 0 = grind (arith, nat_tests, c.if-is_empty.ensures) in
    c.mac_from.ensures
    ∙ cmac_alone (cipher c.new-keys.result) 16 R128 (lit< tt) a.first a.«data».now n
    ∙ ap (λ (k : List ℕ). cmac (cipher k) 16 R128 (a.first ++ a.«data».now)) c.new-keys.ensures

pub returns : goal.returns
unfolding aes_encrypt
returns c =
    let a = c.args in
    let w = c.new-keys.result in
    let n : 0 < length a.«data».now = grind (arith, nat_tests, c.if-is_empty.ensures) in
    c.mac_from-2.ensures
    ∙ ap (λ (t : List ℕ). mac_from (cipher w) 16 R128 t (blocks 16 (length a.«data».now) - 1) a.«data».now) c.encrypt_block-state.ensures
    ∙ cmac_after (cipher w) 16 R128 (lit< tt) a.first a.«data».now (omega arith) n
    ∙ ap (λ (k : List ℕ). cmac (cipher k) 16 R128 (a.first ++ a.«data».now)) c.new-keys.ensures
