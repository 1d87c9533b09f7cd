-- A space, and the number.
use Rattle.text.proofs.Laws.{adds_then}
use Rattle.mnemonics.proofs.put_number.Goals as goal

pub returns : goal.returns
returns c = adds_then c.put.ensures c.signed.ensures
