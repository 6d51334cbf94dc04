use Rattle.felica_secure.proofs.PackedParts.{meets_returns}
use Rattle.felica_secure.proofs.frames.felica_build_secure_response_frame.Goals as goal

pub returns : goal.returns
returns c = meets_returns _ _ _ _ _ c.build_secure_response_frame.ensures c.pack.ensures
