use Rattle.cipher.proofs.DesRounds.{sp_pick}
use Rattle.cipher.proofs.des.pick.Goals as goal

pub returns : goal.returns
returns c = sp_pick c.args.j c.args.x c.requires
