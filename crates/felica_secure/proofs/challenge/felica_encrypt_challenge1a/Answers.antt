use Rattle.felica_secure.proofs.PackedParts.{meets_returns}
use Rattle.felica_secure.proofs.challenge.felica_encrypt_challenge1a.Goals as goal

pub returns : goal.returns
returns c = meets_returns _ _ _ _ _ c.encrypt_challenge1a.ensures c.pack.ensures
