use Rattle.felica_secure.proofs.PackedParts.{meets_returns}
use Rattle.felica_secure.proofs.frames.felica_generate_registration_package_des.Goals as goal

pub returns : goal.returns
returns c = meets_returns _ _ _ _ _ c.generate_registration_package_des.ensures c.pack.ensures
