-- The bytes put in the part are the first ones of the number (`first_digits`), and to put them there is the store (`store_put`).
use mathlib.Core.Path.{◌∙◌, ap}
use native.Mathlib.Omega.{arith}
use lib.ListN.{take}
use Rattle.memory.proofs.Laws.{store_put, first_digits}
use Rattle.memory.proofs.store_bytes.Goals as goal

pub returns : goal.returns
returns g c =
    store_put g.row.N c.args.mem.now c.args.at c.args.v _ _ c.requires.within (omega arith)
    (c.copy_from_slice.ensures.after ∙ ap (take g.row.N) c.to_le_bytes.ensures ∙ first_digits g.row.N c.args.v c.requires.width)
