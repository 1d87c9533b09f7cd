-- Comparing the two i32 is comparing the signed readings of the words (`read_back`).
use mathlib.Core.Path.{refl}
use Rattle.word.specs.Word.{less_signed}
use Rattle.word.proofs.Conversion.{read_back}
use Rattle.word.proofs.less_signed.Goals as goal

pub returns : goal.returns
unfolding less_signed
returns c =
    rw (read_back c.args.x c.cast_signed.type_inv c.cast_signed.ensures, read_back c.args.y c.cast_signed-2.type_inv c.cast_signed-2.ensures) refl
