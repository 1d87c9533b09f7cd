-- The constant is the list of cells, by computing it; the part of it that is given is the opcode's (`cell_taken`).
use borrow.Author.Rules.{rules}
use Rattle.mnemonics.specs.Cells.{cells}
use Rattle.mnemonics.specs.Mnemonics.{mnemonics, form_of}
use Rattle.text.specs.Ascii.{ascii}
use Rattle.mnemonics.proofs.Cells.{cell_taken}
use Rattle.mnemonics.proofs.cell.Goals as goal

pub returns : goal.returns
unfolding ascii mnemonics form_of cells
returns c =
    cell_taken c.args.op (search rules) c.from-at.ensures
