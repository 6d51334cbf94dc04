use Rattle.felica_secure.proofs.PackedParts.{checks_returns}
use Rattle.felica_secure.proofs.challenge.felica_verify_challenge1b.Goals as goal

pub returns : goal.returns
returns c = checks_returns _ _ _ c.is_challenge1b.ensures c.pack_check.ensures
