-- `sub_mix_column` meets its contract, by the law of such sums. Assumes nothing.
use mathlib.Core.Path.{◌≡◌, sym, ap, ◌∙◌}
use mathlib.Core.List.{List, map}
use Prim.Native.Nat.{ℕ}
use lib.ListN.{length}
use native.Mathlib.Omega.{arith}
use Rattle.cipher.specs.Bytes.{tab}
use Rattle.cipher.specs.Fips197.{s_box}
use Rattle.cipher.specs.inner.AesTables.{mixed_column}
use Rattle.cipher.proofs.Tabulation.{listed}
use Rattle.cipher.proofs.AesColumns.{column_made}
use Rattle.cipher.proofs.aes.sub_mix_column.Goals as goal

pub returns : goal.returns
unfolding tab
returns c =
    let l : length c.args.column ≡ 4 = omega arith in
    column_made 0x02 0x03 0x01 0x01 _ _ _ _ c.sum_by_rows.ensures c.te.ensures c.te-2.ensures c.te-3.ensures c.te-4.ensures
    ∙ ap (λ (t : List ℕ). mixed_column 0x02 0x03 0x01 0x01 (map s_box t)) (sym (listed 4 c.args.column l))
