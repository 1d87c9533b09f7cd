-- Document 01, "Opcodes": "Zero divisor: FARITH", as the code answers it.
use Rattle.std.specs.Prelude.{ℕ, ◌&&◌, eqb, if◌then◌else◌, Option, Some, None}
use Rattle.decode.specs.declared.AluOp.{AluOp}
use Rattle.rules.specs.Arithmetic.{alu_of, divides}

-- what an operation gives: a value, or nothing where the divisor is 0
unfoldable pub computed : AluOp → ℕ → ℕ → Option ℕ
unfolding alu_of
computed op x y = if divides op && eqb y 0 then None else Some (alu_of op x y)
