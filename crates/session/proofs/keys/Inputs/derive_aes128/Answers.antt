use Rattle.std.proofs.Common.{◌∙◌, ◌≡◌, ◌≢◌, ◌++◌, ◌*◌, length, rules, arith}
use Rattle.session.specs.Entries.{nodes}
use Rattle.answer.specs.Outcome.{choose}
use Rattle.session.specs.Derivation.{chain_start, key_length}
use Rattle.session.proofs.NodeLists.{length_nodes, Lists-chain}
use Rattle.session.proofs.DerivationSteps.{refusal_derives, question_derives, aes_lacks, aes_none, aes_given, own_key}
use Rattle.session.proofs.keys.Inputs.derive_aes128.Goals as goal

pub gather-requires-clause-room : goal.gather-requires-clause-room
gather-requires-clause-room c =
    rw (c.chain.ensures.first_done, c.chain.ensures.second_done, c.chain.ensures.first, c.chain.ensures.second, c.of.ensures, c.of-2.ensures, length_nodes c.args.self.now.areas.now, length_nodes c.args.self.now.services.now)
    (tt, omega arith)

pub returns-in_err-size : goal.returns-in_err-size
returns-in_err-size c =
    let h = c.chain.ensures in
    question_derives _ _ _ _ _ c.from_residual.ensures.1
    (aes_lacks _ _ _ _ _ (c.in_err-size.ensures.gathered _ (Lists-chain c.args.self.now.areas.now c.args.self.now.services.now h.first h.second c.of.ensures c.of-2.ensures h.first_done h.second_done)))

pub returns-then-size-eq0 : goal.returns-then-size-eq0
unfolding key_length choose
returns-then-size-eq0 c =
    let h = c.chain.ensures in
    let g = c.in_ok-size.ensures.gathered _ (Lists-chain c.args.self.now.areas.now c.args.self.now.services.now h.first h.second c.of.ensures c.of-2.ensures h.first_done h.second_done) in
    let n : c.in_ok-size.size ≡ length (nodes c.args.self.now.areas.now ++ nodes c.args.self.now.services.now) * 16 = g.1 in
    refusal_derives _ _ _ _ (aes_none _ _ _ _ g.0 (omega arith))

pub returns : goal.returns
unfolding chain_start key_length choose
returns c =
    let h = c.chain.ensures in
    let g = c.in_ok-size.ensures.gathered _ (Lists-chain c.args.self.now.areas.now c.args.self.now.services.now h.first h.second c.of.ensures c.of-2.ensures h.first_done h.second_done) in
    let n : c.in_ok-size.size ≡ length (nodes c.args.self.now.areas.now ++ nodes c.args.self.now.services.now) * 16 = g.1 in
    let some : length (nodes c.args.self.now.areas.now ++ nodes c.args.self.now.services.now) ≢ 0 = λ z. omega arith in
    let own = c.unwrap_or-own.ensures ∙ own_key c.args.self.now.individual (search rules) in
    rw (aes_given _ _ _ _ g.0 some _ _ _ g.2 c.encrypt_aes128_under_each-group.ensures own) c.deliver.ensures
