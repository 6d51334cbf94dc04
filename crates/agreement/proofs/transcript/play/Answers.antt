use mathlib.Core.Path.{sym, ◌∙◌}
use borrow.Author.Rules.{rules}
use lib.ListN.{length}
use Rattle.session.proofs.AcceptedDerivation.{derivation_gives}
use Rattle.agreement.proofs.Messages.{bytes}
use Rattle.agreement.proofs.WholeTranscript.{keys_are, keys_end, derivation_refused, played}
use Rattle.agreement.proofs.transcript.play.Goals as goal

pub returns-in_err-one : goal.returns-in_err-one
returns-in_err-one c =
    let a = c.args in
    derivation_refused a.mark a.keys.now a.areas.now a.services.now a.individual.now a.idm.now a.challenge_3c.now a.random_1.now
    a.random_2.now a.code a.number a.id.now a.session_key.now a.payload.now (length a.out.now)
    c.in_err-one.field-0.0 c.in_err-one.ensures _ (search rules)

pub written-requires : goal.written-requires
written-requires c = keys_end _ _ _ _ c.in_ok-one.ensures c.derive_auth_keys.auto.out

pub written-requires-2 : goal.written-requires-2
written-requires-2 c = keys_end _ _ _ _ c.in_ok-other.ensures c.derive_auth_keys-2.auto.out

-- both derived the same
pub invariant_of-ends : goal.invariant_of-ends
invariant_of-ends c =
    let a = c.args in
    let reader = keys_are _ _ _ _ c.in_ok-one.ensures _ c.written.ensures in
    let card = keys_are _ _ _ _ c.in_ok-other.ensures _ c.written-2.ensures in
    let g = derivation_gives a.mark a.keys.now a.areas.now a.services.now a.individual.now
    (bytes _ c.type_inv.keys) (bytes _ c.type_inv.individual) 32 (sym c.in_ok-one.ensures.number) in
    record {
      same_keys = reader ∙ sym card;
      card_bytes = rw card g.bytes_are;
      idm_bytes = bytes _ c.type_inv.idm;
      challenge_3c_bytes = bytes _ c.type_inv.challenge_3c;
    }

pub returns : goal.returns
returns c =
    let a = c.args in
    let reader = keys_are _ _ _ _ c.in_ok-one.ensures _ c.written.ensures in
    let card = keys_are _ _ _ _ c.in_ok-other.ensures _ c.written-2.ensures in
    played a.mark a.keys.now a.areas.now a.services.now a.individual.now a.idm.now a.challenge_3c.now a.random_1.now
    a.random_2.now a.code a.number a.id.now a.session_key.now a.payload.now (length a.out.now)
    c.in_ok-one.ensures _ _ reader card _ _ _ c.speak.ensures
