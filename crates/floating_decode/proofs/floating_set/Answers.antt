-- Each arm's number is the set of its quarter, by computing its bits beside the table.
use native.Mathlib.Omega.{arith}
use mathlib.Core.Path.{refl}
use Rattle.floating_decode.specs.Opcodes.{floating_opcode_of, floating_table}
use Rattle.floating_decode.proofs.Sets.{right, quarter_set}
use Rattle.floating_decode.proofs.floating_set.Goals as goal

-- the last arm: no arm before it has the quarter
pub returns-in_default : goal.returns-in_default
unfolding right floating_opcode_of floating_table
returns-in_default c =
    quarter_set 3 _ (omega (arith, c.in_default.in_default-own.rest.0.0.1, c.in_default.in_default-own.rest.0.1, c.in_default.in_default-own.rest.1, c.requires)) (λ imm. refl)

pub returns-in-0 : goal.returns-in-0
unfolding right floating_opcode_of floating_table
returns-in-0 c = quarter_set 0 _ c.in-0.is (λ imm. refl)

pub returns-in-1 : goal.returns-in-1
unfolding right floating_opcode_of floating_table
returns-in-1 c = quarter_set 1 _ c.in-1.is (λ imm. refl)

pub returns-in-2 : goal.returns-in-2
unfolding right floating_opcode_of floating_table
returns-in-2 c = quarter_set 2 _ c.in-2.is (λ imm. refl)
