use mathlib.Core.Path.{◌≡◌}
use Prim.Native.Nat.{◌-◌, ◌%◌}
use lib.ListN.{length, replicate}
use Rattle.cipher.specs.inner.DesWith.{des_with}
use Rattle.cipher.specs.Sp80038a.{cbc_out}
use Rattle.cipher.proofs.Chains.{Run}
use Rattle.cipher.proofs.cbc.encrypt_des_cbc_zero_iv.Given as goal

-- the blocks before `at` are done, and `before` is the last of them as the mode has it
abbrev pub invariant-loop-at : goal.invariant-loop-at
invariant-loop-at l =
    record {
      boundary : l.at % 8 ≡ 0;
      run : Run (cbc_out (des_with l.keys.keys) 8) (cbc_out (des_with l.keys.keys) 8) 8 (replicate 8 0) l.fn.«data» l.before l.«data» l.at;
    }

abbrev pub decreases-loop-at : goal.decreases-loop-at
decreases-loop-at l = length l.initial.«data» - l.at
