use Rattle.felica_secure.proofs.PackedParts.{meets_returns}
use Rattle.felica_secure.proofs.challenge.felica_decrypt_challenge2a.Goals as goal

pub returns : goal.returns
returns c = meets_returns _ _ _ _ _ c.decrypt_challenge2a.ensures c.pack.ensures
