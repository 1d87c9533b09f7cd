-- The three words are those of the header, and each fits its four bytes.
use borrow.Author.Rules.{rules}
use Rattle.machine_file.proofs.layout.counts_at.Goals as goal

pub returns : goal.returns
returns c =
    record {
      same = rw (c.load4.ensures, c.load4-2.ensures, c.load4-3.ensures);
      small = record { pages = search rules; entries = search rules; console = search rules };
    }
