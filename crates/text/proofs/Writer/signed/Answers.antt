-- The number itself, or a minus sign and what is missing to 2^32.
use Prim.Native.Nat.{◌-◌, ◌^◌}
use mathlib.Core.Path.{◌≡◌}
use native.Mathlib.Omega.{arith}
use Rattle.text.proofs.Laws.{signed_plain, signed_minus, adds_then, adds_as}
use Rattle.text.proofs.Writer.signed.Goals as goal

pub returns-then-n-lt2147483648 : goal.returns-then-n-lt2147483648
returns-then-n-lt2147483648 c =
    adds_as (signed_plain c.args.n c.if-n-lt2147483648.true) (rw c.from.ensures at c.decimal.ensures)

pub returns : goal.returns
returns c =
    let rest : c.from-2.result ≡ 2 ^ 32 - c.args.n = omega (arith, c.from-2.ensures, c.wrapping_neg.ensures) in
    adds_as (signed_minus c.args.n c.if-n-lt2147483648.false) (adds_then c.put.ensures (rw rest at c.decimal-2.ensures))
