-- An entry is four words: page, frame, and the numbers of its two rights.
use Rattle.encoding.specs.Encoding.{widths, encoded}
use mathlib.Core.Path.{refl}
use Rattle.encoding.proofs.put_entry.Goals as goal

pub put_numbers-requires : goal.put_numbers-requires
unfolding widths
put_numbers-requires c = (refl, c.requires)

pub returns : goal.returns
unfolding encoded
returns c =
    rw (← c.flag.ensures, ← c.flag-2.ensures) c.put_numbers.ensures
