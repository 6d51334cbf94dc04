use borrow.Author.Rules.{rules}
use Rattle.agreement.specs.inner.Said.{exchange1}
use Rattle.agreement.proofs.Messages.{bytes, message_1}
use Rattle.agreement.proofs.MessagePairs.{piece_fits, message_refused, never_unread, answer_refused, never_turned_down, both_said}
use Rattle.agreement.proofs.transcript.Ends.exchange_1.Goals as goal

-- t is the message of the two ends

pub returns-in_err-made : goal.returns-in_err-made
unfolding exchange1
returns-in_err-made c =
    let t = message_1 c.mark-mark.result _ _ _ _ _ c.args.self.card_bytes c.args.self.idm_bytes c.args.self.challenge_3c_bytes
    (bytes _ c.type_inv.random_1) c.args.self.same_keys in
    rw (← c.mark-mark.ensures) (message_refused t c.in_err-made.field-0.0 c.in_err-made.ensures _ (search rules))

pub written-sent-requires : goal.written-sent-requires
written-sent-requires c = piece_fits _ _ _ _ c.in_ok-made.ensures c.encrypt_challenge1a.auto.out

pub returns-in_err-read : goal.returns-in_err-read
unfolding exchange1
returns-in_err-read c =
    let t = message_1 c.mark-mark.result _ _ _ _ _ c.args.self.card_bytes c.args.self.idm_bytes c.args.self.challenge_3c_bytes
    (bytes _ c.type_inv.random_1) c.args.self.same_keys in
    never_unread t c.in_ok-made.ensures c.written-sent.ensures c.in_err-read.field-0.0 c.in_err-read.ensures

pub written-read_1-requires : goal.written-read_1-requires
written-read_1-requires c = piece_fits _ _ _ _ c.in_ok-read.ensures c.decrypt_challenge1a.auto.out

pub returns-in_err-answered : goal.returns-in_err-answered
unfolding exchange1
returns-in_err-answered c =
    let t = message_1 c.mark-mark.result _ _ _ _ _ c.args.self.card_bytes c.args.self.idm_bytes c.args.self.challenge_3c_bytes
    (bytes _ c.type_inv.random_1) c.args.self.same_keys in
    rw (← c.mark-mark.ensures) (answer_refused t c.in_ok-made.ensures c.written-sent.ensures c.in_ok-read.ensures c.written-read_1.ensures
    c.in_err-answered.field-0.0 c.in_err-answered.ensures _ (search rules))

pub written-block-requires : goal.written-block-requires
written-block-requires c = piece_fits _ _ _ _ c.in_ok-answered.ensures c.encrypt_challenge1b.auto.out

pub returns-in_err-verify_challenge1b : goal.returns-in_err-verify_challenge1b
unfolding exchange1
returns-in_err-verify_challenge1b c =
    let t = message_1 c.mark-mark.result _ _ _ _ _ c.args.self.card_bytes c.args.self.idm_bytes c.args.self.challenge_3c_bytes
    (bytes _ c.type_inv.random_1) c.args.self.same_keys in
    never_turned_down t c.in_ok-made.ensures c.written-sent.ensures c.in_ok-read.ensures c.written-read_1.ensures
    c.in_ok-answered.ensures c.written-block.ensures c.in_err-verify_challenge1b.field-0.0 c.in_err-verify_challenge1b.ensures

pub returns : goal.returns
unfolding exchange1
returns c =
    let t = message_1 c.mark-mark.result _ _ _ _ _ c.args.self.card_bytes c.args.self.idm_bytes c.args.self.challenge_3c_bytes
    (bytes _ c.type_inv.random_1) c.args.self.same_keys in
    rw (← c.mark-mark.ensures) (both_said t c.in_ok-made.ensures c.written-sent.ensures c.in_ok-read.ensures c.written-read_1.ensures
    c.in_ok-answered.ensures c.written-block.ensures c.sized.ensures c.join.ensures)
