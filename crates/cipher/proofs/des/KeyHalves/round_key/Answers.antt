use Rattle.cipher.proofs.DesKeys.{key_word}
use Rattle.cipher.proofs.des.KeyHalves.round_key.Goals as goal

pub returns : goal.returns
returns c = key_word c.args.self.c c.args.self.d _ _ _ c.half_key-x.type_inv c.half_key-y.type_inv c.half_key-x.ensures c.half_key-y.ensures c.joined.ensures
