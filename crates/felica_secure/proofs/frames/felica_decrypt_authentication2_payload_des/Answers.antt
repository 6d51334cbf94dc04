use Rattle.felica_secure.proofs.PackedParts.{meets_returns}
use Rattle.felica_secure.proofs.frames.felica_decrypt_authentication2_payload_des.Goals as goal

pub returns : goal.returns
returns c = meets_returns _ _ _ _ _ c.decrypt_authentication2_payload.ensures c.pack.ensures
