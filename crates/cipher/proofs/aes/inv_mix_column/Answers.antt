-- `inv_mix_column` meets its contract, by the law of such sums. Assumes nothing.
use mathlib.Core.Path.{ap, ◌∙◌}
use mathlib.Core.List.{List, [], ◌∷◌}
use Prim.Native.Nat.{ℕ}
use lib.ListN.{get_or}
use Rattle.cipher.specs.Bytes.{word_bytes}
use Rattle.cipher.specs.inner.AesTables.{mixed_column}
use Rattle.cipher.proofs.AesColumns.{column_made}
use Rattle.cipher.proofs.aes.inv_mix_column.Goals as goal

pub returns : goal.returns
unfolding word_bytes
returns c =
    column_made 0x0e 0x0b 0x0d 0x09 _ _ _ _ c.sum_by_rows.ensures c.u.ensures c.u-2.ensures c.u-3.ensures c.u-4.ensures
    ∙ ap (λ (t : List ℕ). mixed_column 0x0e 0x0b 0x0d 0x09 (get_or t 0 0 ∷ get_or t 1 0 ∷ get_or t 2 0 ∷ get_or t 3 0 ∷ [])) c.to_be_bytes.ensures
