use mathlib.Core.Path.{ap, ◌∙◌}
use Rattle.answer.specs.Tests.{same}
use Rattle.answer.proofs.Equality.{same_is}
use Rattle.session.proofs.v2_aes.AuthenticationContextV2Aes128.verify_challenge2b.Goals as goal

pub returns : goal.returns
returns c =
    same_is _ _ _ c.ct_eq.ensures ∙ ap (same _) c.encrypt_challenge2b.ensures
