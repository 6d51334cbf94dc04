-- `double` meets its contract, by arithmetic on the number that the block is. Assumes nothing.
use mathlib.Core.Path.{ap, ◌∙◌}
use Rattle.cipher.specs.Sp80038b.{double, R128}
use Rattle.cipher.proofs.Subkeys.{be_bytes_16, next_subkey}
use Rattle.cipher.proofs.cmac.double.Goals as goal

pub returns : goal.returns
returns c =
    let n = c.from_be_bytes-n in
    c.to_be_bytes.ensures ∙ next_subkey n.result n.type_inv ∙ ap (double 16 R128) (be_bytes_16 c.args.x.now n.result c.told-x c.fits-x n.ensures)
