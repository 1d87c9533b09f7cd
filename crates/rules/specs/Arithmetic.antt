-- Document 01, "Opcodes": arithmetic "together with where its second operand comes from", comparisons and conditions.
use Rattle.std.specs.Prelude.{ℕ, ◌/◌, ◌%◌, Bool, true, false, not, ◌&&◌, eqb, ltb, if◌then◌else◌}
use Rattle.std.specs.Int.Bits.{bit_and, bit_or, bit_xor}
use Rattle.word.specs.Word.{sum, difference, product, quotient, remainder, shift_left, shift_right, shift_right_unsigned, shift_count, less_signed}
use Rattle.decode.specs.declared.AluOp.{AluOp}
use Rattle.decode.specs.declared.AluOp.TheVariants.{Add, Sub, Mul, Div, Dvu, Mod, Mdu, And, Or, Xor, Shl, Shr, Sru}
use Rattle.decode.specs.declared.Test.{Test}
use Rattle.decode.specs.declared.Test.TheVariants.{Eq, Ne, Lt, Ltu, Ge, Geu}
use Rattle.decode.specs.declared.Operand.{Operand}
use Rattle.decode.specs.declared.Operand.TheVariants.{RegB, Imm, Stack}
use Rattle.paging.specs.declared.TrapCode.TheVariants.{Farith}
use Rattle.rules.specs.declared.Regs.{Regs}
use Rattle.rules.specs.Record.{with_a}
use Rattle.rules.specs.Tree.{Tree, done}
use Rattle.rules.specs.Outcome.{Out, trap, plain, reading}

-- what an operation gives; a quotient or remainder by 0 is never asked for
unfoldable pub alu_of : AluOp → ℕ → ℕ → ℕ
alu_of Add x y = sum x y
alu_of Sub x y = difference x y
alu_of Mul x y = product x y
alu_of Div x y = quotient x y
alu_of Dvu x y = x / y
alu_of Mod x y = remainder x y
alu_of Mdu x y = x % y
alu_of And x y = bit_and x y
alu_of Or x y = bit_or x y
alu_of Xor x y = bit_xor x y
alu_of Shl x y = shift_left x (shift_count y)
alu_of Shr x y = shift_right x (shift_count y)
alu_of Sru x y = shift_right_unsigned x (shift_count y)

-- the operations with a divisor
abbrev pub divides : AluOp → Bool
divides Add = false
divides Sub = false
divides Mul = false
divides Div = true
divides Dvu = true
divides Mod = true
divides Mdu = true
divides And = false
divides Or = false
divides Xor = false
divides Shl = false
divides Shr = false
divides Sru = false

-- "Zero divisor: FARITH"
unfoldable pub alu_tree : AluOp → ℕ → Regs → Tree Out
unfolding alu_of
alu_tree op y r = if divides op && eqb y 0 then done (trap Farith) else plain (with_a (alu_of op r.a y) r)

-- the second operand is "register b, imm, or the word at sp+imm"
unfoldable pub alu_from : AluOp → Operand → Regs → Tree Out
unfolding alu_tree
alu_from op RegB r = alu_tree op r.b r
alu_from op (Imm i) r = alu_tree op i r
alu_from op (Stack i) r = reading 4 (sum r.sp i) (λ v. alu_tree op v r)

-- "GE, GEU, BGE, BGEU are ≥"
unfoldable pub holds : Test → ℕ → ℕ → Bool
holds Eq x y = eqb x y
holds Ne x y = not (eqb x y)
holds Lt x y = less_signed x y
holds Ltu x y = ltb x y
holds Ge x y = not (less_signed x y)
holds Geu x y = not (ltb x y)

-- a flag as a number
abbrev pub flag : Bool → ℕ
flag true = 1
flag false = 0
