-- One more byte is one more digit of the value (`value_on`), which a word holds (`value_small`).
use Prim.Native.Nat.{◌-◌, ◌+◌}
use mathlib.Core.Path.{refl, ◌≡◌}
use lib.ListN.{take, drop, get_or}
use native.Mathlib.Omega.{arith}
use Rattle.text.specs.Hex.{hex_value, hex_number}
use Rattle.text.proofs.HexLaws.{hex_number_below, value_on, value_small}
use Rattle.text.proofs.hex.read8.Goals as goal

pub loop-x-init : goal.loop-x-init
unfolding hex_value
loop-x-init c = refl

pub overflow_mul-value : goal.overflow_mul-value
overflow_mul-value c =
    record { fits = omega (arith, value_small c.args.line.now c.args.at _ c.loop-x.x-index (omega arith) c.loop-x-test.true c.loop-x.invariant) }

pub overflow_add-value : goal.overflow_add-value
overflow_add-value c =
    let item = get_or (take (c.args.at + 8 - c.args.at) (drop c.args.at c.args.line.now)) c.loop-x.x-index 0 in
    let d : c.digit_number.result ≡ hex_number item = c.digit_number.ensures in
    record { fits = omega (arith, value_small c.args.line.now c.args.at _ c.loop-x.x-index (omega arith) c.loop-x-test.true c.loop-x.invariant, d, hex_number_below item) }

pub loop-x-preserved : goal.loop-x-preserved
loop-x-preserved c =
    value_on c.args.line.now c.args.at _ c.loop-x.x-index c.loop-x-test.true c.digit_number.ensures c.loop-x.invariant
