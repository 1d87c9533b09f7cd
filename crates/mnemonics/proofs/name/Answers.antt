-- The name stands before the spaces that fill it up (`trimmed`).
use Rattle.mnemonics.proofs.Cells.{trimmed}
use Rattle.mnemonics.proofs.name.Goals as goal

pub returns : goal.returns
returns c =
    trimmed c.args.op c.cell.ensures c.trim_ascii_end.ensures.value
