-- The i32 is negative where the word's signed reading is (`read_back`, `below_zero`).
use mathlib.Core.Path.{◌∙◌, ap}
use mir.Syntax.{w32}
use mir.Val.{to_z}
use Rattle.std.specs.Int.{is_negative}
use Rattle.word.specs.Magnitude.{negative}
use Rattle.word.proofs.Conversion.{read_back, below_zero}
use Rattle.word.proofs.negative.Goals as goal

pub returns : goal.returns
unfolding negative
returns c =
    c.is_negative.ensures ∙ ap is_negative (read_back c.args.x c.cast_signed.type_inv c.cast_signed.ensures) ∙ below_zero (to_z w32 c.args.x)
