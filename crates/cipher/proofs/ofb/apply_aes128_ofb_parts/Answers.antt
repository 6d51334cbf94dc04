use mathlib.Core.Path.{◌∙◌, ap}
use mathlib.Core.List.{List}
use Prim.Native.Nat.{ℕ}
use lib.ListN.{length}
use Rattle.cipher.specs.Fips197.{cipher, aes_encrypt}
use Rattle.cipher.specs.Sp80038a.{blocks, ofb, ofb_input}
use Rattle.cipher.proofs.ofb.apply_aes128_ofb_parts.Goals as goal

pub returns : goal.returns
unfolding aes_encrypt
returns c =
    let a = c.args in
    let n : ℕ = blocks 16 (length a.first.now) in record {
      first_after = c.apply-next.ensures.data_after ∙ ap (λ (w : List ℕ). ofb (cipher w) 16 a.iv a.first.now) c.new-keys.ensures;
      second_after = c.apply.ensures.data_after
          ∙ ap (λ (i : List ℕ). ofb (cipher c.new-keys.result) 16 i a.second.now) c.apply-next.ensures.next_input
          ∙ ap (λ (w : List ℕ). ofb (cipher w) 16 (ofb_input (cipher w) 16 n a.iv) a.second.now) c.new-keys.ensures;
    }
