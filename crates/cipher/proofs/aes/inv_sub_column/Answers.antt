-- `inv_sub_column` meets its contract: a list of four bytes, one after the other. Assumes nothing.
use mathlib.Core.Path.{◌≡◌, refl, sym, ap, ◌∙◌}
use mathlib.Core.List.{map}
use lib.ListN.{length}
use native.Mathlib.Omega.{arith}
use Rattle.cipher.specs.Bytes.{tab}
use Rattle.cipher.specs.Fips197.{inv_s_box}
use Rattle.cipher.proofs.Tabulation.{listed}
use Rattle.cipher.proofs.Words.{◌◂◌}
use Rattle.cipher.proofs.aes.inv_sub_column.Goals as goal

pub returns : goal.returns
unfolding tab
returns c =
    let l : length c.args.column ≡ 4 = omega arith in
    c.word.ensures ∙ c.inv_s_box.ensures ◂ c.inv_s_box-2.ensures ◂ c.inv_s_box-3.ensures ◂ c.inv_s_box-4.ensures ◂ refl ∙ ap (map inv_s_box) (sym (listed 4 c.args.column l))
