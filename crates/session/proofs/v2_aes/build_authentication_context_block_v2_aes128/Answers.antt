use mathlib.Core.Path.{ap}
use mathlib.Core.List.{List, [], ◌∷◌, ◌++◌}
use Prim.Native.Nat.{ℕ}
use Rattle.session.specs.Challenge.{context_block}
use Rattle.session.proofs.v2_aes.build_authentication_context_block_v2_aes128.Goals as goal

pub returns : goal.returns
unfolding context_block
returns c = ap (λ (l : List ℕ). c.args.which ∷ 2 ∷ 0 ∷ 0 ∷ 0 ∷ 0 ∷ (l ++ (1 ∷ 0 ∷ []))) c.copy_from_slice.ensures.after
