use mathlib.Core.Path.{◌≡◌}
use Prim.Native.Nat.{◌+◌, ◌-◌}
use borrow.Author.Rules.{rules}
use lib.ListN.{length, take, drop}
use Rattle.frame.proofs.DesOpens.{mac_checked, no_mac}
use Rattle.frame.proofs.des.check_packet_mac_des.Goals as goal

pub returns-in_default : goal.returns-in_default
returns-in_default c = no_mac c.args.code c.args.plain.now (search rules)

pub returns : goal.returns
returns c =
    let p = c.args.plain.now in
    let s : (c.in-Some.text.now ≡ take (length p - 8) p) × (c.in-Some.mac.now ≡ drop (length p - 8) p) × (length c.in-Some.text.now + 8 ≡ length p) = search rules in
    mac_checked c.args.code p _ _ _ _ _ s.0 s.1 c.decrypt_des_under_each-recovered.ensures c.mac_start-start.ensures c.ct_eq.ensures
