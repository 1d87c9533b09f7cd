-- Document 01, "One step", rule 5: "pc moves 4 on".
use Rattle.rules.specs.declared.Cpu.{Cpu}
use Rattle.rules.specs.Record.{with_regs}
use Rattle.rules.specs.Execute.{moved}

-- the record before the fetch, with pc moved on
abbrev pub moved_on : Cpu → Cpu
moved_on c = with_regs (moved c.regs) c
