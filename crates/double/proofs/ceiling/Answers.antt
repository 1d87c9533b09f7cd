-- Away from zero where the number is not negative (`ceiling_next`).
use Rattle.std.proofs.Common.{sym, ◌∙◌}
use Rattle.double.proofs.Wholes.{ceiling_next}
use Rattle.double.proofs.ceiling.Goals as goal

pub returns : goal.returns
returns c = c.next_whole.ensures ∙ sym (ceiling_next c.args.x)
