use borrow.Author.Rules.{rules}
use Rattle.agreement.specs.inner.Said.{exchange2, random2_read}
use Rattle.agreement.proofs.Messages.{bytes, message_2, read_16}
use Rattle.agreement.proofs.MessagePairs.{piece_fits, message_refused, never_unread, answer_refused, never_turned_down, both_said, read_wrote}
use Rattle.agreement.proofs.transcript.Ends.exchange_2.Goals as goal

-- t is the message of the two ends

pub returns-in_err-made-clause-meets : goal.returns-in_err-made-clause-meets
unfolding exchange2 random2_read
returns-in_err-made-clause-meets c =
    let t = message_2 c.mark-mark.result _ _ _ _ _ c.args.self.card_bytes c.args.self.idm_bytes c.args.self.challenge_3c_bytes
    (bytes _ c.type_inv.random_2) c.args.self.same_keys in
    rw (← c.mark-mark.ensures) (message_refused t c.in_err-made.field-0.0 c.in_err-made.ensures _ (search rules))

pub written-sent-requires : goal.written-sent-requires
written-sent-requires c = piece_fits _ _ _ _ c.in_ok-made.ensures c.encrypt_challenge2a.auto.out

pub returns-in_err-read-clause-meets : goal.returns-in_err-read-clause-meets
unfolding exchange2 random2_read
returns-in_err-read-clause-meets c =
    let t = message_2 c.mark-mark.result _ _ _ _ _ c.args.self.card_bytes c.args.self.idm_bytes c.args.self.challenge_3c_bytes
    (bytes _ c.type_inv.random_2) c.args.self.same_keys in
    never_unread t c.in_ok-made.ensures c.written-sent.ensures c.in_err-read.field-0.0 (read_16 _ _ _ _ _ _ _ _ c.told-random c.in_err-read.ensures)

pub written-read_2-requires : goal.written-read_2-requires
written-read_2-requires c = piece_fits _ _ _ _ c.in_ok-read.ensures c.decrypt_challenge2a.auto.out

pub returns-in_err-answered-clause-meets : goal.returns-in_err-answered-clause-meets
unfolding exchange2 random2_read
returns-in_err-answered-clause-meets c =
    let t = message_2 c.mark-mark.result _ _ _ _ _ c.args.self.card_bytes c.args.self.idm_bytes c.args.self.challenge_3c_bytes
    (bytes _ c.type_inv.random_2) c.args.self.same_keys in
    rw (← c.mark-mark.ensures) (answer_refused t c.in_ok-made.ensures c.written-sent.ensures (read_16 _ _ _ _ _ _ _ _ c.told-random
    c.in_ok-read.ensures) c.written-read_2.ensures c.in_err-answered.field-0.0 c.in_err-answered.ensures _ (search rules))

pub written-block-requires : goal.written-block-requires
written-block-requires c = piece_fits _ _ _ _ c.in_ok-answered.ensures c.encrypt_challenge2b.auto.out

pub returns-in_err-verify_challenge2b-clause-meets : goal.returns-in_err-verify_challenge2b-clause-meets
unfolding exchange2 random2_read
returns-in_err-verify_challenge2b-clause-meets c =
    let t = message_2 c.mark-mark.result _ _ _ _ _ c.args.self.card_bytes c.args.self.idm_bytes c.args.self.challenge_3c_bytes
    (bytes _ c.type_inv.random_2) c.args.self.same_keys in
    never_turned_down t c.in_ok-made.ensures c.written-sent.ensures (read_16 _ _ _ _ _ _ _ _ c.told-random
    c.in_ok-read.ensures) c.written-read_2.ensures c.in_ok-answered.ensures c.written-block.ensures c.in_err-verify_challenge2b.field-0.0
    c.in_err-verify_challenge2b.ensures

pub returns-clause-meets : goal.returns-clause-meets
unfolding exchange2 random2_read
returns-clause-meets c =
    let t = message_2 c.mark-mark.result _ _ _ _ _ c.args.self.card_bytes c.args.self.idm_bytes c.args.self.challenge_3c_bytes
    (bytes _ c.type_inv.random_2) c.args.self.same_keys in
    rw (← c.mark-mark.ensures) (both_said t c.in_ok-made.ensures c.written-sent.ensures (read_16 _ _ _ _ _ _ _ _ c.told-random
    c.in_ok-read.ensures) c.written-read_2.ensures c.in_ok-answered.ensures c.written-block.ensures c.sized.ensures c.join.ensures)

pub returns-clause-random_after : goal.returns-clause-random_after
unfolding exchange2 random2_read
returns-clause-random_after c =
    let t = message_2 c.mark-mark.result _ _ _ _ _ c.args.self.card_bytes c.args.self.idm_bytes c.args.self.challenge_3c_bytes
    (bytes _ c.type_inv.random_2) c.args.self.same_keys in
    rw (← c.mark-mark.ensures) (read_wrote t c.in_ok-made.ensures c.written-sent.ensures (read_16 _ _ _ _ _ _ _ _ c.told-random c.in_ok-read.ensures))
