-- The match tells the format, so that the bytes that it reads lie in memory (`format_fits`) and what they are widened to is the rule's (`format_value`).
use mathlib.Core.Path.{ap, ◌∙◌}
use Rattle.word.specs.Word.{extend}
use Rattle.transfer.proofs.Formats.{format_fits, format_value}
use Rattle.transfer.proofs.value.Goals as goal

pub load4-requires : goal.load4-requires
load4-requires c =
    format_fits c.in-Uint.is _ _ c.requires

pub load2-requires : goal.load2-requires
load2-requires c =
    format_fits c.in-Short.is _ _ c.requires

pub load2-requires-in-Ushort : goal.load2-requires-in-Ushort
load2-requires-in-Ushort c =
    format_fits c.in-Ushort.is _ _ c.requires

pub load1-requires : goal.load1-requires
load1-requires c =
    format_fits c.in-Char.is _ _ c.requires

pub load1-requires-in-Uchar : goal.load1-requires-in-Uchar
load1-requires-in-Uchar c =
    format_fits c.in-Uchar.is _ _ c.requires

pub returns-in-Uint : goal.returns-in-Uint
returns-in-Uint c = format_value c.in-Uint.is _ _ c.load4.ensures

pub returns-in-Short : goal.returns-in-Short
returns-in-Short c = format_value c.in-Short.is _ _ (c.extend.ensures ∙ ap (extend 16) c.load2.ensures)

pub returns-in-Ushort : goal.returns-in-Ushort
returns-in-Ushort c = format_value c.in-Ushort.is _ _ c.load2-in-Ushort.ensures

pub returns-in-Char : goal.returns-in-Char
returns-in-Char c = format_value c.in-Char.is _ _ (c.extend-in-Char.ensures ∙ ap (extend 8) c.load1.ensures)

pub returns-in-Uchar : goal.returns-in-Uchar
returns-in-Uchar c = format_value c.in-Uchar.is _ _ c.load1-in-Uchar.ensures
