use Rattle.cipher.proofs.DesRounds.{round_word}
use Rattle.cipher.proofs.des.Halves.round.Goals as goal

pub returns : goal.returns
returns c = round_word _ c.args.self.l c.args.self.r _ c.mangle.ensures
