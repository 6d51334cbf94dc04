use mathlib.Core.Path.{◌≡◌, sym}
use Prim.Native.Nat.{suc}
use native.Mathlib.Omega.{arith}
use Rattle.cipher.proofs.DesKeys.{keys_step_back, no_keys_back}
use Rattle.cipher.proofs.des.RoundKeysDoubleEndedIterator.next_back.Goals as goal

pub returns-in_err-round-clause-steps : goal.returns-in_err-round-clause-steps
returns-in_err-round-clause-steps c =
    let s = c.in_err-round.ensures.steps in
    let a : c.args.self.now.rounds.end ≡ 0 = omega (arith, c.requires, s) in
    let b : c.next_back.new.self.end ≡ 0 = omega (arith, c.requires, s) in
    rw c.from_residual.ensures (rw a (no_keys_back _ _), rw b (no_keys_back _ _))

pub returns-clause-steps : goal.returns-clause-steps
returns-clause-steps c =
    let i = c.in_ok-round.round in
    let s = c.in_ok-round.ensures.steps in
    let a : c.args.self.now.rounds.end ≡ suc i = omega (arith, s) in
    let b : c.next_back.new.self.end ≡ i = omega (arith, s) in
    rw (a, b) (sym (keys_step_back i _ _ _ _ _ c.shifted_back-self.ensures.c c.shifted_back-self.ensures.d c.round_key-key.ensures))
