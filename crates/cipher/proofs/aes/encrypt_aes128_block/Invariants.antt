-- `encrypt_aes128_block` meets its contract. The loop's invariant: after n turns the words at hand are round key n, and the state is that of n rounds.
-- Assumes nothing.
use mathlib.Core.Path.{◌≡◌}
use Rattle.cipher.specs.Fips197.{rounds, key_expansion}
use Rattle.cipher.specs.inner.AesTables.{bytes_of, RoundKeyOf}
use Rattle.cipher.proofs.aes.encrypt_aes128_block.Given as goal

abbrev pub invariant-loop : goal.invariant-loop
invariant-loop l = RoundKeyOf l.fn.key l.counter l.key × (bytes_of l.state ≡ rounds (key_expansion l.fn.key) l.fn.«data» l.counter)
