use Rattle.encoding.proofs.entry_at.Goals as goal

pub returns : goal.returns
returns c =
    rw (c.load4.ensures, c.load4-2.ensures, c.load4-3.ensures, c.load4-4.ensures)
