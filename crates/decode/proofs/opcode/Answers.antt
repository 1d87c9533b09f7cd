-- Every arm of the match is the row of its opcode byte; the last arm and the bytes without an arm are those without a row.
use mathlib.Core.Path.{refl, sym}
use mathlib.Core.List.{List, [], ◌∷◌}
use Prim.Native.Nat.{ℕ}
use Rattle.decode.specs.declared.Instr.TheVariants.{Illegal}
use Rattle.decode.specs.Opcodes.{opcode_of, table}
use Rattle.decode.proofs.Match.{unlisted, agree}
use Rattle.decode.proofs.opcode.Goals as goal

-- the single values of the illegal arm
abbrev illegal : List ℕ
illegal = 0x25 ∷ 0x3d ∷ 0x3f ∷ 0x7b ∷ 0x7d ∷ 0x80 ∷ 0x83 ∷ 0x85 ∷ 0x87 ∷ 0x89 ∷ 0x8b ∷ 0x8e ∷ 0x9f ∷ 0xa2 ∷ []

-- the last arm, at its single values
pub returns-in-19-to-20 : goal.returns-in-19-to-20
unfolding opcode_of table
returns-in-19-to-20 c =
    agree (λ _. Illegal) (λ x. opcode_of x c.args.imm c.args.field) illegal c.args.op refl c.in-19-to-20.in-19-to-20-own.keys138

-- the last arm, at its ranges: what no arm has as a single value
pub returns-in-19-to-20-2 : goal.returns-in-19-to-20-2
unfolding opcode_of table
returns-in-19-to-20-2 c = sym (unlisted (table c.args.imm c.args.field) c.args.op c.in-19-to-20.in-19-to-20-own.rest.0)
