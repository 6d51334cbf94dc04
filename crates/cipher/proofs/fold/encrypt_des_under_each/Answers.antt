use mathlib.Core.Path.{ap, ◌∙◌}
use borrow.Author.Rules.{rules}
use Rattle.std.specs.List.{fold}
use Rattle.std.proofs.lemmas.Iterator.{YieldsList-from_slice}
use Rattle.std.proofs.lemmas.Iterator.Consumers.{fold_from_yields_List}
use Rattle.cipher.specs.Fips46.{des_encrypt}
use Rattle.cipher.proofs.Folds.{Turn, under_whole}
use Rattle.cipher.proofs.fold.encrypt_des_under_each.Goals as goal

pub returns : goal.returns
returns c =
    fold_from_yields_List _ (Turn des_encrypt) _ _ c.fold.ensures.ran (YieldsList-from_slice c.as_chunks.result.0.now (cc)) (λ a x b q e. search rules)
    ∙ ap (fold (Turn des_encrypt) c.args.block) (c.as_chunks.ensures.front)
    ∙ under_whole des_encrypt 8 c.args.block c.args.keys.now
