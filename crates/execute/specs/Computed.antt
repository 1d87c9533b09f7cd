-- Document 01, "Opcodes": an arithmetic instruction's end, as the code answers it.
use Rattle.std.specs.Prelude.{ℕ, Option, Some, None}
use Rattle.decode.specs.declared.AluOp.{AluOp}
use Rattle.paging.specs.declared.TrapCode.TheVariants.{Farith}
use Rattle.rules.specs.declared.Regs.{Regs}
use Rattle.rules.specs.Record.{with_a}
use Rattle.operations.specs.Computed.{computed}
use Rattle.contracts.specs.declared.Done.{Done}
use Rattle.contracts.specs.declared.End.TheVariants.{Trap}
use Rattle.contracts.specs.Contract.{ok, bad}

-- the value goes to a; "Zero divisor: Farith"
abbrev pub done_by : Regs → Option ℕ → Done
done_by r (Some v) = ok (with_a v r)
done_by r None = bad r (Trap Farith)

-- an operation on a and y
abbrev pub alu_done : AluOp → ℕ → Regs → Done
alu_done op y r = done_by r (computed op r.a y)
