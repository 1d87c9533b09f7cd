-- The address takes eight bytes, and the word follows it.
use native.Mathlib.Omega.{arith}
use Rattle.text.proofs.HexLaws.{length-hex}
use Rattle.text.proofs.Laws.{adds_then}
use Rattle.mnemonics.proofs.put_fields.Goals as goal

pub put_word-requires : goal.put_word-requires
put_word-requires c =
    omega (arith, length-hex 8 c.args.address, c.hex.ensures.written.end, c.hex.ensures.size, c.requires)

pub returns : goal.returns
returns c = adds_then c.hex.ensures c.put_word.ensures
