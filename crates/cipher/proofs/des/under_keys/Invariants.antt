use mathlib.Core.Path.{◌≡◌}
use mathlib.Core.List.{map}
use Rattle.cipher.specs.Fips46.{iterations}
use Rattle.cipher.specs.inner.DesTables.{holds, key_bits}
use Rattle.cipher.proofs.des.under_keys.Given as goal

-- the keys that have come take the first halves to these
abbrev pub invariant-loop-key : goal.invariant-loop-key
invariant-loop-key g l =
    record {
      can_next : (goal.iterator-loop-key g).can_next l.key-iterator;
      is_finite : (goal.iterator-loop-key g).is_finite l.key-iterator;
      done : holds l.halves.l l.halves.r ≡ iterations (map key_bits l.yielded) (holds l.initial.halves.l l.initial.halves.r);
    }
