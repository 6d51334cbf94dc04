use mathlib.Core.Path.{ap, ◌∙◌}
use mathlib.Core.List.{List, ◌++◌, append-nil}
use Prim.Native.Nat.{ℕ}
use borrow.Author.Rules.{rules}
use Rattle.session.proofs.Challenges.{keys_refused, keys_given}
use Rattle.session.proofs.challenge.derive_secure_session_keys.Goals as goal

pub returns-in_err-exact : goal.returns-in_err-exact
returns-in_err-exact c =
    let e = c.in_err-exact.ensures in
    keys_refused c.args.random_2.now _ _ e.0 c.in_err-exact.field-0.0 (search rules) e.1

pub returns : goal.returns
returns c =
    let a : List ℕ = c.derive-keys.result.encryption_key in
    let b : List ℕ = c.derive-keys.result.mac_key in
    keys_given c.args.random_2.now _ _ _ a b _ _ c.in_ok-exact.ensures c.derive-keys.ensures (c.as_flattened.ensures.value ∙ ap (λ (l : List ℕ). a ++ l) (append-nil b)) c.as_flattened.ensures.len c.deliver.ensures
