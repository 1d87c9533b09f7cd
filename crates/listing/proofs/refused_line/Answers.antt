-- The name, and its number.
use mathlib.Core.Path.{ap}
use lib.ListN.{length}
use mathlib.Core.List.{◌++◌}
use native.Mathlib.Omega.{arith}
use borrow.Author.Rules.{rules}
use Rattle.text.specs.Digits.{decimal_of}
use Rattle.text.specs.Adds.{Adds}
use Rattle.listing.specs.Listing.{refused_line}
use Rattle.text.specs.Ascii.{ascii}
use Rattle.text.proofs.Laws.{finished}
use Rattle.listing.proofs.Lines.{shown_refused}
use Rattle.listing.proofs.refused_line.Goals as goal

pub named-requires : goal.named-requires
named-requires c = omega (arith, ap length c.new-out.ensures.start.0, c.new-out.ensures.start.1, c.requires)

pub returns : goal.returns
unfolding refused_line ascii
returns c =
    let named : Adds (ascii "refused " ++ decimal_of c.args.number) c.new-out.result c.named.new.self = rw c.from.ensures at c.named.ensures.adds in
    shown_refused c.args.number (finished c.new-out.ensures.start named c.end.ensures (search rules))
