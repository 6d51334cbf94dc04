use mathlib.Core.Path.{ap, ◌∙◌}
use Prim.Native.Nat.{ℕ, ◌-◌, ◌*◌, ◌/◌, ◌%◌, ◌^◌}
use native.Mathlib.Omega.{arith}
use lib.Bits.{bit_or, or_lt}
use lib.Pow.{mod-mod-pow}
use Rattle.std.proofs.lemmas.Nat.{shr_le}
use Rattle.cipher.specs.Bits.{bits}
use Rattle.cipher.proofs.BitWords.{turned_word}
use Rattle.cipher.proofs.des.turned.Goals as goal

pub returns : goal.returns
returns c =
    let x = c.args.c in
    let n = c.args.n in
    let m = mod-mod-pow (x * 2 ^ n) 4 28 in
    let b = shr_le x (28 - n) in
    record {
      result_value =
          ap (λ (y : ℕ). bits 28 (bit_or y (x / 2 ^ (28 - n)))) m
          ∙ turned_word 28 n x (omega (arith, c.requires.n_bound)) c.requires.c_bound;
      upper_bound = or_lt 28 (x * 2 ^ n % 2 ^ 32 % 2 ^ 28) (x / 2 ^ (28 - n)) (omega arith) (omega (arith, b, c.requires.c_bound));
    }
