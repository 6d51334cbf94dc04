use mathlib.Core.Path.{◌≡◌}
use Prim.Native.Nat.{◌+◌, ◌-◌}
use native.Mathlib.Omega.{arith}
use borrow.Author.Rules.{rules}
use lib.ListN.{length, take, drop}
use Rattle.frame.proofs.AesOpens.{parts_joined}
use Rattle.frame.proofs.v2_aes.split_sealed.Goals as goal

pub returns : goal.returns
returns c =
    let d = c.args.«data».now in
    let first = c.in_ok-number.number.now in
    let rest = c.in_ok-number.rest.now in
    let sealed = c.in_ok-sealed.sealed.now in
    let mac = c.in_ok-sealed.mac.now in
    let a : (first ≡ take 2 d) × (rest ≡ drop 2 d) × (length rest + 2 ≡ length d) = search rules in
    let b : (sealed ≡ take (length rest - 8) rest) × (mac ≡ drop (length rest - 8) rest) × (length sealed + 8 ≡ length rest) = search rules in
    (omega arith, omega arith, parts_joined d first rest sealed mac c.from_le_bytes.result (λ j. search rules) (omega arith) a.0 a.1 b.0 b.1 c.from_le_bytes.ensures)
