-- A space, and the word.
use Rattle.text.proofs.Laws.{adds_then}
use Rattle.mnemonics.proofs.put_word.Goals as goal

pub returns : goal.returns
returns c = adds_then c.put.ensures c.hex.ensures
