use mathlib.Core.Path.{◌≡◌}
use native.Mathlib.Omega.{arith}
use borrow.Author.Rules.{rules}
use lib.ListN.{get_or}
use Rattle.cipher.specs.Fips46.{shifts}
use Rattle.cipher.proofs.DesKeys.{once_first, once_at, twice}
use Rattle.cipher.proofs.des.KeyHalves.shifted_back.Goals as goal

pub returns-in_default : goal.returns-in_default
returns-in_default c =
    let i = c.args.i in
    let e : get_or shifts i 0 ≡ 2 = twice i c.requires (omega arith) (λ e. absurd (omega arith)) in
    record { c = rw e c.turned.ensures.c; d = rw e c.turned.ensures.d }

pub returns-in-0 : goal.returns-in-0
returns-in-0 c =
    let i = c.args.i in
    let e : get_or shifts i 0 ≡ 1 = search (rules, once_first, once_at) in
    record { c = rw e c.turned-in-0.ensures.c; d = rw e c.turned-in-0.ensures.d }
