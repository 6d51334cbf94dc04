use mathlib.Core.Path.{◌≡◌, ap, ap₂, ◌∙◌}
use Prim.Native.Nat.{◌+◌, ◌≤◌}
use borrow.Author.Rules.{rules}
use native.Mathlib.Omega.{arith}
use Rattle.answer.proofs.Rows.{choose_most}
use Rattle.frame.specs.Trimmed.{is_padding}
use Rattle.frame.proofs.Trims.{trim_count_empty, found, found_none, found_next, found_all, found_small}
use Rattle.frame.proofs.des.trim_count.Goals as goal

pub returns-then-is_empty : goal.returns-then-is_empty
returns-then-is_empty c = trim_count_empty c.args.payload.now (search rules)

pub loop-v-init : goal.loop-v-init
loop-v-init c = found_none c.args.payload.now

pub overflow_add-count : goal.overflow_add-count
overflow_add-count c =
    let p = c.args.payload.now in
    let v = c.loop-v.v in
    let a : c.loop-v.count ≤ 7 = rw c.loop-v.invariant (found_small p v) in
    let b : c.padding_of-count.result ≤ 7 = rw c.padding_of-count.ensures (choose_most (is_padding v p) v 0 7 (omega arith) (omega arith)) in
    omega arith

pub loop-v-preserved : goal.loop-v-preserved
loop-v-preserved c = ap₂ ◌+◌ c.loop-v.invariant c.padding_of-count.ensures ∙ found_next c.args.payload.now c.loop-v.v (omega arith)

pub returns : goal.returns
returns c =
    let n : c.loop-v.v ≡ 8 = omega arith in
    c.loop-v.invariant ∙ ap (found c.args.payload.now) n ∙ found_all c.args.payload.now
