-- The answer, its allowance and the steps left are the definition's (`begins`).
use Rattle.runs.proofs.Whole.{begins}
use Rattle.runs.proofs.begin.Goals as goal

pub returns : goal.returns
returns c =
    begins _ _ _ _ _ _ c.refusal-answer.ensures c.allowance.ensures c.left_of.ensures
