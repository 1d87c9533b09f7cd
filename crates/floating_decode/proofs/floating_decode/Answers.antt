-- The byte, the sign of imm and the row, put together.
use Rattle.floating_decode.specs.Opcodes.{floating_decode_of}
use Rattle.floating_decode.proofs.floating_decode.Goals as goal

pub returns : goal.returns
unfolding floating_decode_of
returns c = rw (c.floating_opcode.ensures, c.immediate.ensures)
