-- The bits shifted up and back, the sign bit copied in, are the extension (`extend_shifted`); the i32 reads back before and after (`read_back`, `shift_fits`).
use Prim.Native.Nat.{◌*◌, ◌-◌, ◌%◌, ◌^◌}
use mathlib.Core.Path.{◌∙◌, ap}
use native.Mathlib.Nat.{mod-lt}
use native.Mathlib.Omega.{arith}
use lib.IntN.{ℤ}
use lib.Signed.{shr_z}
use mir.Syntax.{w32}
use mir.Val.{to_z, of_z}
use mir.Facts.{to_z-of_z}
use Rattle.word.proofs.Conversion.{read_back}
use Rattle.word.proofs.Extension.{extend_shifted}
use Rattle.word.proofs.Shift.{shift_fits}
use Rattle.word.proofs.extend.Goals as goal

pub returns : goal.returns
returns g c =
    let above = 2 ^ (32 - g.row.BITS) in
    let top = c.args.x * above % 2 ^ 32 in
    c.cast_unsigned.ensures
    ∙ ap (λ (z : ℤ). of_z w32 (to_z w32 (of_z w32 (shr_z z above)))) (read_back top c.cast_signed.type_inv c.cast_signed.ensures)
    ∙ ap (of_z w32) (to_z-of_z {w = w32} (shift_fits {x = top} above (record { fits = mod-lt (c.args.x * above) (omega arith) })))
    ∙ extend_shifted g.row.BITS c.args.x (c.requires.width).0 (c.requires.width).1 c.requires.fits
