-- One law for each form.
use Rattle.mnemonics.proofs.Lines.{no_operand, number_operand, target_operand}
use Rattle.mnemonics.proofs.put_operand.Goals as goal

pub returns-in-Nothing : goal.returns-in-Nothing
returns-in-Nothing c = no_operand _ _ _ c.in-Nothing.is

pub returns-in-Immediate : goal.returns-in-Immediate
returns-in-Immediate c =
    number_operand _ _ c.in-Immediate.is c.put_number.ensures

pub returns-in-Target : goal.returns-in-Target
returns-in-Target c =
    target_operand _ _ c.in-Target.is c.sum.ensures c.sum-in-Target.ensures c.put_word.ensures
