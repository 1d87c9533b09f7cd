-- The fifth byte of the cell tells the three forms apart.
use borrow.Author.Rules.{rules}
use Rattle.mnemonics.proofs.Cells.{form_immediate, form_target, form_nothing}
use Rattle.mnemonics.proofs.operand_form.Goals as goal

pub returns-in-105 : goal.returns-in-105
returns-in-105 c = form_immediate _ c.cell.ensures c.in-105.is

pub returns-in-116 : goal.returns-in-116
returns-in-116 c = form_target _ c.cell.ensures c.in-116.is

pub returns-in_default : goal.returns-in_default
returns-in_default c = form_nothing _ c.cell.ensures (search rules) (search rules)
