-- Away from zero where the number is negative (`floor_next`).
use Rattle.std.proofs.Common.{sym, ◌∙◌}
use Rattle.double.proofs.Wholes.{floor_next}
use Rattle.double.proofs.floor.Goals as goal

pub returns : goal.returns
returns c = c.next_whole.ensures ∙ sym (floor_next c.args.x)
