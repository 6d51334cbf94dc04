use Rattle.cipher.proofs.DesKeys.{pc2_pick}
use Rattle.cipher.proofs.des.pick7.Goals as goal

pub returns : goal.returns
returns c = pc2_pick c.args.m c.args.x c.requires
