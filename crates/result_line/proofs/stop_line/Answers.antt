-- The names with their numbers, one after another, are the line (`stop_added`).
use borrow.Author.Rules.{rules}
use Rattle.text.proofs.Laws.{finished}
use Rattle.result_line.proofs.Room.{shows}
use Rattle.result_line.proofs.Stop.{stop_added}
use Rattle.result_line.proofs.stop_line.Goals as goal

pub returns : goal.returns
returns c =
    shows
    (finished c.new-out.ensures.start
    (stop_added c.args.r c.args.steps c.stop_number.ensures c.named.ensures.adds c.named-2.ensures.adds c.named-3.ensures.adds c.named-4.ensures.adds c.named-5.ensures.adds
    c.named-6.ensures.adds c.named-7.ensures.adds)
    c.end.ensures (search rules))
