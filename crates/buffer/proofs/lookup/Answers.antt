-- What `position` finds among the counted numbers, or their count, is where the page's entry stands (`searched`).
use Rattle.std.proofs.Common.{rules, tests}
use Rattle.std.proofs.lemmas.Iterator.{YieldsList-from_slice}
use Rattle.std.proofs.lemmas.Iterator.Search.{position_from_yields_List}
use Rattle.buffer.proofs.Search.{of_page, searched}
use Rattle.buffer.proofs.lookup.Goals as goal

pub returns : goal.returns
returns c =
    let found = position_from_yields_List (of_page c.args.page) _ _ c.position.result c.position.ensures.ran (YieldsList-from_slice _ c.iter.ensures.rest) (λ x b q k. search (rules, tests)) in
    rw c.unwrap_or.ensures (searched c.args.page c.args.tlb.now c.requires (rw c.count-n.ensures at found) c.count-n.ensures)
