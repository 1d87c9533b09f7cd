-- Every arm of the match is the row of its opcode byte; the last arm has the bytes without a row.
use mathlib.Core.Path.{sym}
use Rattle.floating_decode.specs.Opcodes.{floating_opcode_of, floating_table}
use Rattle.floating_decode.proofs.Match.{unlisted}
use Rattle.floating_decode.proofs.floating_opcode.Goals as goal

-- the last arm: what no arm before it has
pub returns-in_default : goal.returns-in_default
unfolding floating_opcode_of floating_table
returns-in_default c = sym (unlisted (floating_table c.args.imm) c.args.op c.in_default.in_default-own.rest)

pub returns-in-19 : goal.returns-in-19
unfolding floating_opcode_of floating_table
returns-in-19 c = rw c.in-19.is

pub returns-in-20 : goal.returns-in-20
unfolding floating_opcode_of floating_table
returns-in-20 c = rw c.in-20.is

pub returns-in-26 : goal.returns-in-26
unfolding floating_opcode_of floating_table
returns-in-26 c = rw c.in-26.is

pub returns-in-27 : goal.returns-in-27
unfolding floating_opcode_of floating_table
returns-in-27 c = rw c.in-27.is

pub returns-in-33 : goal.returns-in-33
unfolding floating_opcode_of floating_table
returns-in-33 c = rw c.in-33.is

pub returns-in-34 : goal.returns-in-34
unfolding floating_opcode_of floating_table
returns-in-34 c = rw c.in-34.is

pub returns-in-37 : goal.returns-in-37
unfolding floating_opcode_of floating_table
returns-in-37 c = rw c.in-37.is

pub returns-in-43 : goal.returns-in-43
unfolding floating_opcode_of floating_table
returns-in-43 c = rw c.in-43.is

pub returns-in-44 : goal.returns-in-44
unfolding floating_opcode_of floating_table
returns-in-44 c = rw c.in-44.is

pub returns-in-50 : goal.returns-in-50
unfolding floating_opcode_of floating_table
returns-in-50 c = rw c.in-50.is

pub returns-in-51 : goal.returns-in-51
unfolding floating_opcode_of floating_table
returns-in-51 c = rw c.in-51.is

pub returns-in-57 : goal.returns-in-57
unfolding floating_opcode_of floating_table
returns-in-57 c = rw c.in-57.is

pub returns-in-58 : goal.returns-in-58
unfolding floating_opcode_of floating_table
returns-in-58 c = rw c.in-58.is

pub returns-in-61 : goal.returns-in-61
unfolding floating_opcode_of floating_table
returns-in-61 c = rw c.in-61.is

pub returns-in-63 : goal.returns-in-63
unfolding floating_opcode_of floating_table
returns-in-63 c = rw c.in-63.is

pub returns-in-67 : goal.returns-in-67
unfolding floating_opcode_of floating_table
returns-in-67 c = rw c.in-67.is

pub returns-in-68 : goal.returns-in-68
unfolding floating_opcode_of floating_table
returns-in-68 c = rw c.in-68.is

pub returns-in-72 : goal.returns-in-72
unfolding floating_opcode_of floating_table
returns-in-72 c = rw c.in-72.is

pub returns-in-73 : goal.returns-in-73
unfolding floating_opcode_of floating_table
returns-in-73 c = rw c.in-73.is

pub returns-in-77 : goal.returns-in-77
unfolding floating_opcode_of floating_table
returns-in-77 c = rw c.in-77.is

pub returns-in-78 : goal.returns-in-78
unfolding floating_opcode_of floating_table
returns-in-78 c = rw c.in-78.is

pub returns-in-79 : goal.returns-in-79
unfolding floating_opcode_of floating_table
returns-in-79 c = rw c.in-79.is

pub returns-in-80 : goal.returns-in-80
unfolding floating_opcode_of floating_table
returns-in-80 c = rw c.in-80.is

pub returns-in-81 : goal.returns-in-81
unfolding floating_opcode_of floating_table
returns-in-81 c = rw c.in-81.is

pub returns-in-82 : goal.returns-in-82
unfolding floating_opcode_of floating_table
returns-in-82 c = rw c.in-82.is

pub returns-in-123 : goal.returns-in-123
unfolding floating_opcode_of floating_table
returns-in-123 c = rw c.in-123.is

pub returns-in-125 : goal.returns-in-125
unfolding floating_opcode_of floating_table
returns-in-125 c = rw c.in-125.is

pub returns-in-128 : goal.returns-in-128
unfolding floating_opcode_of floating_table
returns-in-128 c = rw c.in-128.is

pub returns-in-131 : goal.returns-in-131
unfolding floating_opcode_of floating_table
returns-in-131 c = rw c.in-131.is

pub returns-in-133 : goal.returns-in-133
unfolding floating_opcode_of floating_table
returns-in-133 c = rw c.in-133.is

pub returns-in-135 : goal.returns-in-135
unfolding floating_opcode_of floating_table
returns-in-135 c = rw c.in-135.is

pub returns-in-137 : goal.returns-in-137
unfolding floating_opcode_of floating_table
returns-in-137 c = rw c.in-137.is

pub returns-in-139 : goal.returns-in-139
unfolding floating_opcode_of floating_table
returns-in-139 c = rw c.in-139.is

pub returns-in-142 : goal.returns-in-142
unfolding floating_opcode_of floating_table
returns-in-142 c = rw c.in-142.is

pub returns-in-145 : goal.returns-in-145
unfolding floating_opcode_of floating_table
returns-in-145 c = rw c.in-145.is

pub returns-in-146 : goal.returns-in-146
unfolding floating_opcode_of floating_table
returns-in-146 c = rw c.in-146.is

pub returns-in-147 : goal.returns-in-147
unfolding floating_opcode_of floating_table
returns-in-147 c = rw c.in-147.is

pub returns-in-148 : goal.returns-in-148
unfolding floating_opcode_of floating_table
returns-in-148 c = rw c.in-148.is

pub returns-in-149 : goal.returns-in-149
unfolding floating_opcode_of floating_table
returns-in-149 c = rw c.in-149.is

pub returns-in-159 : goal.returns-in-159
unfolding floating_opcode_of floating_table
returns-in-159 c = rw c.in-159.is

pub returns-in-162 : goal.returns-in-162
unfolding floating_opcode_of floating_table
returns-in-162 c = rw c.in-162.is

pub returns-in-177 : goal.returns-in-177
unfolding floating_opcode_of floating_table
returns-in-177 c = rw c.in-177.is

pub returns-in-178 : goal.returns-in-178
unfolding floating_opcode_of floating_table
returns-in-178 c = rw c.in-178.is

pub returns-in-190 : goal.returns-in-190
unfolding floating_opcode_of floating_table
returns-in-190 c = rw c.in-190.is

pub returns-in-196 : goal.returns-in-196
unfolding floating_opcode_of floating_table
returns-in-196 c = rw c.in-196.is

pub returns-in-197 : goal.returns-in-197
unfolding floating_opcode_of floating_table
returns-in-197 c = rw c.in-197.is
