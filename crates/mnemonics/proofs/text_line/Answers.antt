-- After 17 bytes of address and word, a space, a name of at most four bytes and the operand (`text_added`).
use Prim.Native.Nat.{◌%◌}
use mathlib.Core.Path.{ap, refl}
use lib.ListN.{length}
use native.Mathlib.Omega.{arith}
use Rattle.text.proofs.Laws.{finished}
use Rattle.mnemonics.proofs.Lines.{length_fields, text_added}
use Rattle.mnemonics.proofs.Cells.{name_short}
use Rattle.mnemonics.proofs.text_line.Goals as goal

pub put-requires : goal.put-requires
put-requires c =
    let f = c.put_fields.ensures in
    omega (arith, length_fields c.args.address c.args.word, f.written.end, f.size, ap length c.new-out.ensures.start.0, c.new-out.ensures.start.1, c.fits-line)

pub put-requires-2 : goal.put-requires-2
put-requires-2 c =
    let f = c.put_fields.ensures in
    omega (
      arith,
      length_fields c.args.address c.args.word,
      f.written.end,
      f.size,
      ap length c.new-out.ensures.start.0,
      c.new-out.ensures.start.1,
      c.fits-line,
      c.put.ensures.written.end,
      c.put.ensures.size,
      ap length c.name.ensures,
      name_short (c.args.word % 256),
    )

pub put_operand-requires : goal.put_operand-requires
put_operand-requires c =
    let f = c.put_fields.ensures in
    omega (
      arith,
      length_fields c.args.address c.args.word,
      f.written.end,
      f.size,
      ap length c.new-out.ensures.start.0,
      c.new-out.ensures.start.1,
      c.fits-line,
      c.put.ensures.written.end,
      c.put.ensures.size,
      ap length c.name.ensures,
      name_short (c.args.word % 256),
      c.put-2.ensures.written.end,
      c.put-2.ensures.size,
    )

pub returns : goal.returns
returns c =
    finished c.new-out.ensures.start
    (text_added _ _ c.put_fields.ensures c.put.ensures c.put-2.ensures c.name.ensures c.operand_form.ensures c.immediate-imm.ensures c.put_operand.ensures) c.end.ensures refl
