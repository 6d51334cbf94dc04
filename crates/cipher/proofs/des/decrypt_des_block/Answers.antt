use mathlib.Core.Path.{ap, ◌∙◌}
use mathlib.Core.List.{List}
use Prim.Native.Nat.{ℕ}
use Rattle.std.proofs.lemmas.Iterator.Consumers.{YieldsList-from_first}
use Rattle.cipher.specs.Bits.{bits}
use Rattle.cipher.specs.inner.DesTables.{key_bits}
use Rattle.cipher.specs.inner.DesWith.{keys_back}
use Rattle.cipher.proofs.DesWiths.{with_reverse, drained}
use Rattle.cipher.proofs.des.decrypt_des_block.Goals as goal

pub returns : goal.returns
returns c =
    let h = c.under_keys.ensures in
    let k = drained h.0 h.1
    (YieldsList-from_first key_bits (λ s. keys_back s.iter.rounds.end (bits 28 s.iter.last.c) (bits 28 s.iter.last.d)) _ (rw (c.rev.ensures.source, c.new.ensures.rounds.1) c.new.ensures.last)) in
    h.2 ∙ ap (λ (f : List ℕ → List ℕ). f c.args.«data») (with_reverse _ _ k)
