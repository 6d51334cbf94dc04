use mathlib.Core.Path.{◌≡◌, sym}
use Prim.Native.Nat.{suc}
use native.Mathlib.Omega.{arith}
use Rattle.cipher.proofs.DesKeys.{keys_step, no_keys}
use Rattle.cipher.proofs.des.RoundKeysIterator.next.Goals as goal

pub returns-in_err-round-clause-steps : goal.returns-in_err-round-clause-steps
returns-in_err-round-clause-steps c =
    let s = c.in_err-round.ensures.steps in
    let a : c.args.self.now.rounds.start ≡ 16 = omega (arith, c.requires, s) in
    let b : c.next.new.self.start ≡ 16 = omega (arith, c.requires, s) in
    rw c.from_residual.ensures (rw a (no_keys _ _), rw b (no_keys _ _))

pub returns-clause-steps : goal.returns-clause-steps
returns-clause-steps c =
    let i = c.in_ok-round.round in
    let s = c.in_ok-round.ensures.steps in
    let a : c.args.self.now.rounds.start ≡ i = omega (arith, s) in
    let b : c.next.new.self.start ≡ suc i = omega (arith, s) in
    rw (a, b) (sym (keys_step i _ _ _ _ _ (omega (arith, c.requires, s)) c.shifted-self.ensures.c c.shifted-self.ensures.d c.round_key.ensures))
