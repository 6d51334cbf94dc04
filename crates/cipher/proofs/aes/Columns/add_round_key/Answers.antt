-- `add_round_key` meets its contract: the sum of words is the sum of their bytes. Assumes nothing.
use mathlib.Core.List.{[], ◌∷◌}
use Rattle.cipher.specs.Bytes.{◌⊕◌}
use Rattle.cipher.specs.Fips197.{add_round_key}
use Rattle.cipher.proofs.Words.{words_xor}
use Rattle.cipher.proofs.aes.Columns.add_round_key.Goals as goal

pub returns : goal.returns
unfolding add_round_key ◌⊕◌
returns c =
    let s = c.args.self in
    let k = c.args.key in
    words_xor (s.a ∷ s.b ∷ s.c ∷ s.d ∷ []) (k.a ∷ k.b ∷ k.c ∷ k.d ∷ [])
