use mathlib.Core.Path.{refl, sym, ◌∙◌}
use lib.ListN.{length}
use Rattle.answer.proofs.Rows.{err_delivers}
use Rattle.frame.proofs.Authentications.{no_block, wrong_mac, right_mac}
use Rattle.frame.proofs.des.accept_authentication2.Goals.{then-plain-lt16-via-then-plain-lt16, then-plain-lt16-via-else-plain-lt16+then-not-check_packet_mac_des}
use Rattle.frame.proofs.des.accept_authentication2.Goals as goal

pub returns-then-plain-lt16 : goal.returns-then-plain-lt16
returns-then-plain-lt16 c =
    let a = c.args in
    elim c.then-plain-lt16.branch [
      | then-plain-lt16-via-then-plain-lt16 w ↦ rw (no_block a.plain.now (length a.out.now) w.if-plain-lt16.true) (err_delivers _ a.out.now refl)
      | then-plain-lt16-via-else-plain-lt16+then-not-check_packet_mac_des w ↦ rw (wrong_mac a.plain.now (length a.out.now) w.if-plain-lt16.false (sym w.check_packet_mac_des.ensures ∙ w.if-not-check_packet_mac_des.true)) (err_delivers _ a.out.now refl)
    ]

pub returns : goal.returns
returns c =
    let a = c.args in
    rw (right_mac a.plain.now (length a.out.now) c.if-plain-lt16.false (sym c.check_packet_mac_des.ensures ∙ c.if-not-check_packet_mac_des.false)) (rw c.strip_des_response_mac.ensures.0 at c.deliver.ensures)
