-- The word's answer with three bits dropped (`eight_at`), or its fault (`eight_denied`).
use Rattle.floating.proofs.EightBytes.{eight_at, eight_denied}
use Rattle.floating.proofs.translate_double.Goals as goal

pub returns-in_default-clause-answer : goal.returns-in_default-clause-answer
returns-in_default-clause-answer c =
    rw c.in_default.is (eight_denied c.translate-p.ensures.answer c.in_default.is)

pub returns-clause-answer : goal.returns-clause-answer
returns-clause-answer c =
    eight_at c.translate-p.ensures.answer c.in-Ok.is
