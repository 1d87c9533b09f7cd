-- After 17 bytes of address and word, the space and the name.
use mathlib.Core.Path.{ap, refl}
use lib.ListN.{length}
use native.Mathlib.Omega.{arith}
use Rattle.text.proofs.Laws.{finished}
use Rattle.mnemonics.proofs.Lines.{length_fields, data_added}
use Rattle.mnemonics.proofs.data_line.Goals as goal

pub put-requires : goal.put-requires
put-requires c =
    let fields = c.put_fields.ensures in
    omega (arith, length_fields c.args.address c.args.word, fields.written.end, fields.size, ap length c.new-out.ensures.start.0, c.new-out.ensures.start.1, c.fits-line)

pub returns : goal.returns
returns c = finished c.new-out.ensures.start (data_added _ _ c.put_fields.ensures c.put.ensures) c.end.ensures refl
