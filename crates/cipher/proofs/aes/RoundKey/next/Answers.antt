-- `next` meets its contract: the words that it makes are those of the next round key. Assumes nothing.
use mathlib.Core.Path.{◌≡◌, refl, ap, ◌∙◌}
use mathlib.Core.List.{map}
use Prim.Native.Nat.{◌<◌}
use native.Mathlib.Omega.{arith}
use Rattle.cipher.specs.Bytes.{word_bytes}
use Rattle.cipher.specs.Fips197.{s_box, rot_word}
use Rattle.cipher.proofs.Words.{word_left}
use Rattle.cipher.proofs.AesBytes.{power_byte}
use Rattle.cipher.proofs.AesSchedule.{next_made, next_key}
use Rattle.cipher.proofs.aes.RoundKey.next.Goals as goal

pub returns : goal.returns
unfolding word_bytes
returns c =
    λ key n h r.
    let k = c.args.self in
    let u = c.sub_column.result in
    let l : k.power < 256 = rw r.next_power (power_byte n) in
    let s : word_bytes u ≡ map s_box (rot_word (word_bytes k.words.d)) =
    c.sub_column.ensures ∙ ap (map s_box) (c.to_be_bytes.ensures ∙ ap word_bytes c.rotate_left.ensures ∙ word_left k.words.d (omega arith)) in
    next_key r h _ u l s (next_made k u l s c.from.result _ _ _ _ c.from.ensures refl refl refl refl) c.doubled.ensures
