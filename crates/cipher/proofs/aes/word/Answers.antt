-- `word` meets its contract. Assumes nothing.
use Rattle.cipher.proofs.Words.{word_from}
use Rattle.cipher.proofs.aes.word.Goals as goal

pub returns : goal.returns
returns c = let r = c.ranges in word_from _ _ _ _ _ r.p.fits r.q.fits r.r.fits r.s.fits c.from_be_bytes.ensures
