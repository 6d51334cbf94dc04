use mathlib.Core.Path.{ap, ◌∙◌}
use mathlib.Core.List.{List}
use Prim.Native.Nat.{ℕ}
use lib.ListN.{drop}
use Rattle.std.proofs.lemmas.Iterator.Consumers.{YieldsList-from_first}
use Rattle.cipher.specs.Bits.{bits}
use Rattle.cipher.specs.Fips46.{keys_from, shifts}
use Rattle.cipher.specs.inner.DesTables.{key_bits}
use Rattle.cipher.proofs.DesWiths.{with_schedule, drained}
use Rattle.cipher.proofs.des.encrypt_des_block.Goals as goal

pub returns : goal.returns
returns c =
    let h = c.under_keys.ensures in
    let k = drained h.0 h.1
    (YieldsList-from_first key_bits (λ s. keys_from (drop s.rounds.start shifts) (bits 28 s.first.c) (bits 28 s.first.d)) _ (rw c.new.ensures.rounds.0 c.new.ensures.first)) in
    h.2 ∙ ap (λ (f : List ℕ → List ℕ). f c.args.«data») (with_schedule _ _ k)
