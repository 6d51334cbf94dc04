use mathlib.Core.Path.{◌≡◌, refl, ap, ◌∙◌}
use Prim.Native.Nat.{◌+◌, ◌*◌, ◌/◌, ◌%◌, ◌^◌}
use borrow.Author.Rules.{rules}
use native.Mathlib.Omega.{arith}
use lib.ListN.{length}
use Rattle.cipher.specs.Bits.{bits}
use Rattle.cipher.proofs.DesKeys.{keys_all, right_word}
use Rattle.cipher.proofs.DesWords.{load_word}
use Rattle.cipher.proofs.des.KeyHalves.of_key.Goals as goal

pub returns : goal.returns
returns c =
    let key = c.args.key in
    let h : length key ≡ 8 = search rules in
    let x = c.transpose-x.result in
    let bytes = c.to_le_bytes.ensures in
    let d : c.from_be_bytes.result * 16 + c.from.result ≡ x / 2 ^ 8 % 2 ^ 8 * 2 ^ 20 + (x / 2 ^ 16 % 2 ^ 8 * 2 ^ 12 + (x / 2 ^ 24 % 2 ^ 8 * 2 ^ 4 + x / 2 ^ 32 % 2 ^ 4))
    = omega (arith, rw bytes at c.from_be_bytes.ensures, rw bytes at c.from.ensures) in
    keys_all key _ _ h (load_word key _ h (λ i. search rules) c.from_le_bytes.ensures) c.transpose-x.ensures _ _ refl (ap (bits 28) d ∙ right_word x)
