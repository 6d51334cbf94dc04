-- `s_box` meets its contract: the second byte of the table's word. Assumes nothing.
use mathlib.Core.Path.{◌∙◌, ap}
use mathlib.Core.List.{List}
use Prim.Native.Nat.{ℕ}
use lib.ListN.{get_or}
use Rattle.cipher.proofs.AesTables.{second_byte}
use Rattle.cipher.proofs.aes.s_box.Goals as goal

pub returns : goal.returns
returns c = ap (λ (l : List ℕ). get_or l 1 0) c.to_be_bytes.ensures ∙ second_byte c.te.result _ c.te.ensures
