-- The i32 reads back as the word's signed reading (`read_back`), and shifted it stays in its range.
use Prim.Native.Nat.{◌%◌}
use mathlib.Core.Path.{◌∙◌, ap}
use lib.IntN.{ℤ}
use mir.Syntax.{w32}
use mir.Val.{of_z}
use mir.Facts.{to_z-of_z}
use Rattle.std.specs.Int.{int_shr}
use Rattle.word.specs.Word.{shift_right, shift_count}
use Rattle.word.proofs.Conversion.{read_back}
use Rattle.word.proofs.shift_right.Goals as goal

pub returns : goal.returns
unfolding shift_right shift_count
returns c =
    c.cast_unsigned.ensures ∙ ap (of_z w32) (to_z-of_z {w = w32} (record { sfits = c.wrapping_shr.type_inv }) ∙ c.wrapping_shr.ensures
    ∙ ap (λ (z : ℤ). int_shr z (c.args.count % 32)) (read_back c.args.x c.cast_signed.type_inv c.cast_signed.ensures))
