-- The name with its number, written at the start of the line, is the line (`shows`).
use borrow.Author.Rules.{rules}
use Rattle.text.proofs.Laws.{finished}
use Rattle.result_line.proofs.Room.{shows}
use Rattle.result_line.specs.Line.{refused_line}
use Rattle.result_line.proofs.refused_line.Goals as goal

pub returns : goal.returns
unfolding refused_line
returns c = shows (finished c.new-out.ensures.start c.named.ensures.adds c.end.ensures (search rules))
