use mathlib.Core.Path.{refl}
use Rattle.answer.proofs.Outputs.{over_two}
use Rattle.frame.proofs.command.frame_with_length_prefix.Goals as goal

pub returns : goal.returns
returns c = (refl, over_two _ _ _ c.requires.in_bounds)
