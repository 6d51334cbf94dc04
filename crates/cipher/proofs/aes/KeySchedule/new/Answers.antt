use mathlib.Core.Path.{ap, ◌∙◌}
use mathlib.Core.List.{List, [], ◌++◌, append-nil}
use native.Mathlib.Omega.{arith}
use Rattle.std.specs.List.{flat_map}
use Rattle.cipher.specs.declared.aes.Columns.{Columns}
use Rattle.cipher.specs.inner.AesTables.{bytes_of}
use Rattle.cipher.proofs.AesSchedule.{keys_start, keys_step, keys_done}
use Rattle.cipher.proofs.aes.KeySchedule.new.Goals as goal

pub loop-place-init : goal.loop-place-init
loop-place-init c = (c.first-key.ensures, keys_start c.args.key [])

pub loop-place-preserved : goal.loop-place-preserved
loop-place-preserved c =
    let l = c.loop-place in
    let v = l.invariant in
    let next = c.next-key.ensures _ _ (omega arith) v.0 in
    (next, keys_step l.place-items c.next-key.result v.1 (omega arith) (omega arith) next)

pub returns : goal.returns
returns c =
    let l = c.loop-place in
    let k = c.first-key in
    ap (λ (ks : List Columns). bytes_of k.result.words ++ flat_map bytes_of ks) (append-nil l.place-items)
    ∙ keys_done l.place-items k.result l.place-index l.invariant.1 (omega arith) (omega arith) k.ensures
