-- Document 02, item 7: what CDI and CDU leave, in code.
use Rattle.std.specs.Prelude.{ℕ, Option, None, Some}
use Rattle.paging.specs.declared.TrapCode.TheVariants.{Farith}
use Rattle.rules.specs.declared.Regs.{Regs}
use Rattle.rules.specs.declared.Floats.{Floats}
use Rattle.rules.specs.Record.{with_a}
use Rattle.contracts.specs.declared.End.TheVariants as end
use Rattle.contracts.specs.declared.FloatDone.{FloatDone}
use Rattle.contracts.specs.Contract.{float_ok, float_bad}

abbrev pub cut_done : Option ℕ → Regs → Floats → FloatDone
cut_done None r v = float_bad r v (end.Trap Farith)
cut_done (Some x) r v = float_ok (with_a x r) v
