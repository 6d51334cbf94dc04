use borrow.Author.Rules.{rules}
use Rattle.frame.proofs.AesSeals.{read_whole}
use Rattle.frame.proofs.v2_aes.Credentials.parse.Goals as goal

pub returns : goal.returns
returns c = read_whole c.args.bytes.now _ _ _ c.requires (c.fit.ensures.1 (search rules)) (c.fit-2.ensures.1 (search rules)) (c.fit-3.ensures.1 (search rules))
