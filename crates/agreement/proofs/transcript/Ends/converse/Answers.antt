use mathlib.Core.Path.{◌≡◌}
use Rattle.std.specs.Prelude.{◌≢◌}
use borrow.Author.Rules.{rules}
use Rattle.answer.specs.Scheme.{mark_of}
use Rattle.agreement.proofs.Credentials.{of_des, of_aes, conversed}
use Rattle.agreement.proofs.transcript.Ends.converse.Goals as goal

pub returns-in-Des : goal.returns-in-Des
returns-in-Des c =
    let a = c.args in
    let e : mark_of a.self.scheme ≡ 1 = search rules in
    conversed (mark_of a.self.scheme) a.command.code a.command.number a.command.id.now _ _ _ _ a.command.payload.now _ _ _
    (of_des _ a.session_key.now a.random.now a.self.challenge_3c.now e) (of_des _ a.session_key.now a.random_2.now a.self.challenge_3c.now e) c.talk.ensures

pub returns-in-Aes128 : goal.returns-in-Aes128
returns-in-Aes128 c =
    let a = c.args in
    let e : mark_of a.self.scheme ≢ 1 = search rules in
    conversed (mark_of a.self.scheme) a.command.code a.command.number a.command.id.now _ _ _ _ a.command.payload.now _ _ _
    (of_aes _ a.session_key.now a.random.now a.self.challenge_3c.now e _ c.aes_credentials-reader.ensures)
    (of_aes _ a.session_key.now a.random_2.now a.self.challenge_3c.now e _ c.aes_credentials-card.ensures) c.talk-in-Aes128.ensures
