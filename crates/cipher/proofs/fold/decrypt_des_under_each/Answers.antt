use mathlib.Core.Path.{ap, ◌∙◌}
use mathlib.Core.List.{reverse}
use borrow.Author.Rules.{rules}
use Rattle.std.specs.List.{fold}
use Rattle.std.proofs.lemmas.Iterator.Adapters.{YieldsList-from_rev_slice}
use Rattle.std.proofs.lemmas.Iterator.Consumers.{fold_from_yields_List}
use Rattle.cipher.specs.Fips46.{des_decrypt}
use Rattle.cipher.proofs.Folds.{Turn, back_whole}
use Rattle.cipher.proofs.fold.decrypt_des_under_each.Goals as goal

pub returns : goal.returns
returns c =
    fold_from_yields_List _ (Turn des_decrypt) _ _ c.fold.ensures.ran (YieldsList-from_rev_slice c.as_chunks.result.0.now (cc)) (λ a x b q e. search rules)
    ∙ ap (fold (Turn des_decrypt) c.args.block) (ap reverse c.as_chunks.ensures.front)
    ∙ back_whole des_decrypt 8 c.args.block c.args.keys.now
