use borrow.Author.Rules.{rules}
use Rattle.cipher.proofs.DesRounds.{no_iterations, one_more, crypt_word}
use Rattle.cipher.proofs.des.under_keys.Goals as goal

pub loop-key-init : goal.loop-key-init
loop-key-init g c = record { can_next = search rules; is_finite = search rules; done = no_iterations _ }

pub loop-key-preserved : goal.loop-key-preserved
loop-key-preserved g c =
    record {
      can_next = search rules;
      is_finite = search rules;
      done = one_more c.loop-key.yielded c.in-Some.key _ _ _ c.loop-key.invariant.done c.round-halves.ensures;
    }

pub returns : goal.returns
returns g c = (
  c.loop-key.yielded,
  (c.next.new.self, (c.loop-key.key-iterator, rw c.into_iter-key-iterator.ensures.into_iter_gives at c.loop-key.yielded_by, c.in-None.ensures.steps)),
  crypt_word c.loop-key.yielded c.args.block _ _ _ _ _ c.of_block-halves.ensures c.loop-key.invariant.done c.into_block.ensures,
)
