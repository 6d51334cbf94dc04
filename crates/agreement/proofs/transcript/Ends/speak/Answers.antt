use mathlib.Core.Path.{◌≡◌, refl, sym, ap, ◌∙◌}
use mathlib.Core.List.{List, ◌++◌}
use Prim.Native.Nat.{ℕ}
use native.Mathlib.Omega.{arith}
use borrow.Author.Rules.{rules}
use lib.ListN.{length, replicate}
use Rattle.answer.specs.Scheme.{mark_of}
use Rattle.answer.proofs.Pieces.{no_longer}
use Rattle.agreement.proofs.Messages.{bytes}
use Rattle.agreement.proofs.MessagePairs.{piece_fits}
use Rattle.agreement.proofs.Credentials.{handed, handed_conversation}
use Rattle.agreement.proofs.WholeTranscript.{first_refused, second_refused, third_refused, front_is, delivered}
use Rattle.agreement.proofs.transcript.Ends.speak.Goals as goal

pub returns-in_err-first : goal.returns-in_err-first
returns-in_err-first c =
    let a = c.args in
    first_refused (mark_of a.self.scheme) a.self.reader.now a.self.card.now a.self.idm.now a.self.challenge_3c.now a.random_1.now a.random_2.now
    a.command.code a.command.number a.command.id.now a.session_key.now a.command.payload.now (length a.out.now)
    c.in_err-first.field-0.0 c.in_err-first.ensures _ (search rules)

pub returns-in_err-second : goal.returns-in_err-second
returns-in_err-second c =
    let a = c.args in
    second_refused (mark_of a.self.scheme) a.self.reader.now a.self.card.now a.self.idm.now a.self.challenge_3c.now a.random_1.now a.random_2.now
    a.command.code a.command.number a.command.id.now a.session_key.now a.command.payload.now (length a.out.now)
    (sym c.in_ok-first.ensures.number) c.in_err-second.field-0.0 c.in_err-second.ensures.meets _ (search rules)

-- the reader goes by the random 2 that it read, which is the card's
pub converse-requires : goal.converse-requires
converse-requires c =
    let a = c.args in
    let second = c.in_ok-second.ensures in
    handed (mark_of a.self.scheme) _ _ _ _ _ a.self.card_bytes a.self.idm_bytes a.self.challenge_3c_bytes (bytes _ c.type_inv.random_2)
    a.self.same_keys (sym second.meets.number) _ (replicate 16 0) refl second.random_after

pub returns-in_err-third : goal.returns-in_err-third
returns-in_err-third c =
    let a = c.args in
    let second = c.in_ok-second.ensures in
    third_refused (mark_of a.self.scheme) a.self.reader.now a.self.card.now a.self.idm.now a.self.challenge_3c.now a.random_1.now a.random_2.now
    a.command.code a.command.number a.command.id.now a.session_key.now a.command.payload.now (length a.out.now)
    (sym c.in_ok-first.ensures.number) (sym second.meets.number) _
    (handed_conversation (mark_of a.self.scheme) _ _ _ _ _ a.self.card_bytes a.self.idm_bytes a.self.challenge_3c_bytes (bytes _ c.type_inv.random_2)
    a.self.same_keys (sym second.meets.number) _ (replicate 16 0) refl second.random_after
    a.command.code a.command.number a.command.id.now a.session_key.now a.command.payload.now)
    c.in_err-third.field-0.0 c.in_err-third.ensures _ (search rules)

pub written-one-requires : goal.written-one-requires
written-one-requires c = piece_fits _ _ _ _ c.in_ok-first.ensures c.exchange_1.array_long

pub written-two-requires : goal.written-two-requires
written-two-requires c = piece_fits _ _ _ _ c.in_ok-second.ensures.meets c.exchange_2.array_long2

pub written-three-requires : goal.written-three-requires
written-three-requires c = piece_fits _ _ _ _ c.in_ok-third.ensures c.converse.array_long

pub returns : goal.returns
returns c =
    let a = c.args in
    let second = c.in_ok-second.ensures in
    let l : length c.join-end.new.out ≡ 576 = c.join-end.auto.out in
    let said = front_is _ _ _ _ c.join-end.ensures ∙ ap (λ (s : List ℕ). s ++ c.written-three.result.now) (front_is _ _ _ _ c.join-n.ensures) in
    delivered (mark_of a.self.scheme) a.self.reader.now a.self.card.now a.self.idm.now a.self.challenge_3c.now a.random_1.now a.random_2.now
    a.command.code a.command.number a.command.id.now a.session_key.now a.command.payload.now (length a.out.now)
    (sym c.in_ok-first.ensures.number) (sym second.meets.number) _
    (handed_conversation (mark_of a.self.scheme) _ _ _ _ _ a.self.card_bytes a.self.idm_bytes a.self.challenge_3c_bytes (bytes _ c.type_inv.random_2)
    a.self.same_keys (sym second.meets.number) _ (replicate 16 0) refl second.random_after
    a.command.code a.command.number a.command.id.now a.session_key.now a.command.payload.now)
    c.in_ok-first.ensures c.written-one.ensures second.meets c.written-two.ensures c.in_ok-third.ensures c.written-three.ensures
    _ said (no_longer _ 65535 _ _ refl (omega (arith, l))) c.deliver.ensures
