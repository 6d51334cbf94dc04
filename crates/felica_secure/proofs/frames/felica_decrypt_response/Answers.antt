use Rattle.felica_secure.proofs.PackedParts.{meets_returns}
use Rattle.felica_secure.proofs.frames.felica_decrypt_response.Goals as goal

pub returns : goal.returns
returns c = meets_returns _ _ _ _ _ c.decrypt_response.ensures c.pack.ensures
