use Rattle.felica_secure.proofs.PackedParts.{meets_returns}
use Rattle.felica_secure.proofs.challenge.felica_derive_secure_session_keys.Goals as goal

pub returns : goal.returns
returns c = meets_returns _ _ _ _ _ c.derive_secure_session_keys.ensures c.pack.ensures
