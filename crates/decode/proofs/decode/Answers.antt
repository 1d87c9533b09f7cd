-- The byte, the sign of imm and the row, put together.
use Rattle.decode.specs.Opcodes.{decode_of}
use Rattle.decode.proofs.decode.Goals as goal

pub returns : goal.returns
unfolding decode_of
returns c = rw (c.opcode.ensures, c.immediate-imm.ensures)
