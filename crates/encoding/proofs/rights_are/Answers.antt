use Rattle.encoding.proofs.rights_are.Goals as goal

pub returns : goal.returns
returns c =
    rw (c.load4.ensures, c.load4-2.ensures)
