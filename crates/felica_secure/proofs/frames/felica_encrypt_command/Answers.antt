use Rattle.felica_secure.proofs.PackedParts.{meets_returns}
use Rattle.felica_secure.proofs.frames.felica_encrypt_command.Goals as goal

pub returns : goal.returns
returns c = meets_returns _ _ _ _ _ c.encrypt_command.ensures c.pack.ensures
