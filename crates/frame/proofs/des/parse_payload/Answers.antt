use Rattle.frame.proofs.DesOpens.{stripped}
use Rattle.frame.proofs.des.parse_payload.Goals as goal

pub returns : goal.returns
returns c = record { reads = stripped c.args.plain.now _ c.strip_des_response_mac.ensures.0; stands = c.strip_des_response_mac.ensures.1 }
